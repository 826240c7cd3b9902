-- The rule that applies, by the work owed and the grant's step.
use Rattle.std.proofs.Common.{◌≡◌, ◌+◌, min, None, sym, refl, ap, ◌∙◌, subst, inl, inr, arith}
use Rattle.model.specs.Board.{line_at}
use Rattle.model.specs.Tick.{put}
use Rattle.parts.specs.Grants.{opened, stepped}
use Rattle.parts.specs.Service.{serve}
use Rattle.scheduler.specs.Stretches.{Stretch, finished_of}
use Rattle.scheduler.specs.View.{board_of, state_of}
use Rattle.scheduler.proofs.Bursts.{moved, top_stretch}
use Rattle.scheduler.proofs.TableBursts.{lead_case, trail_case, work_case, slot_case, as_answered}
use Rattle.scheduler.proofs.tables.Tables.burst.Goals as goal

pub returns-then-self-gt0-clause-stretch : goal.returns-then-self-gt0-clause-stretch
returns-then-self-gt0-clause-stretch c =
    top_stretch (board_of c.args.self.now) (state_of c.args.self.now) c.args.limit c.min-ticks.result c.args.owner c.args.room (omega (arith, c.requires.lasts.lasting)) (omega arith) (omega arith)
    c.requires.lasts.owned

pub returns-in-Work-clause-stretch : goal.returns-in-Work-clause-stretch
returns-in-Work-clause-stretch c =
    let b = board_of c.args.self.now in
    let s = state_of c.args.self.now in
    let g = c.args.self.now.grant in
    let p = (line_at b g.line).owner in
    let w = c.in-Work.left in
    let n : c.min.result ≡ min w c.args.limit = cc in
    let x = work_case b s g c.args.limit c.args.owner c.args.room c.requires.lasts.lasting c.requires.lasts.owned (omega arith) refl w c.in-Work.trail (sym c.in-Work.ensures) in
    let y = subst (λ k. Stretch b s c.args.limit c.args.room (serve k c.args.room (s.queue p)).ticks
    (finished_of (s.instant + (serve k c.args.room (s.queue p)).ticks) (serve k c.args.room (s.queue p)).ended)
    (moved s (serve k c.args.room (s.queue p)).ticks 0 (stepped (serve k c.args.room (s.queue p)).ticks g) (put s.queue p (serve k c.args.room (s.queue p)).rest))) (sym n) x in
    as_answered b s c.args.limit c.args.room _ c.work.result.0 _ c.work.result.1 (λ m. stepped m g) _ (state_of c.work.new.self) y c.work.ensures.ran c.work.ensures.ended
    c.work.ensures.state_after

pub returns-in-Closed-clause-stretch : goal.returns-in-Closed-clause-stretch
returns-in-Closed-clause-stretch c =
    let b = board_of c.args.self.now in
    let s = state_of c.args.self.now in
    let g = c.args.self.now.grant in
    let x = slot_case b s g c.args.limit c.args.owner c.args.room c.requires.lasts.lasting c.requires.lasts.owned (omega arith) refl (sym c.in-Closed.ensures) in
    as_answered b s c.args.limit c.args.room _ c.serve.result.0 _ c.serve.result.1 (λ m. opened g) _ (state_of c.serve.new.self) x c.serve.ensures.works.ran
    c.serve.ensures.works.ended c.serve.ensures.works.state_after

pub returns-in-Lead-clause-stretch : goal.returns-in-Lead-clause-stretch
returns-in-Lead-clause-stretch c =
    let b = board_of c.args.self.now in
    let s = state_of c.args.self.now in
    let g = c.args.self.now.grant in
    let m : c.switch.result ≡ min c.in-Lead.left c.args.limit = cc in
    let after : state_of c.switch.new.self ≡ moved s c.switch.result s.owed (stepped c.switch.result g) s.queue =
    c.switch.ensures.moved ∙ ap (λ n. moved s n s.owed (stepped n g) s.queue) (sym c.switch.ensures.count) in
    subst (Stretch b s c.args.limit c.args.room c.switch.result None) (sym after)
    (elim c.in-Lead.is [
      | inl is ↦
          lead_case b s g c.args.limit c.args.owner c.args.room c.requires.lasts.lasting c.requires.lasts.owned (omega arith) refl c.in-Lead.left is.0 is.1 c.switch.result
          (sym c.phase.ensures ∙ is.2) m
      | inr is ↦
          trail_case b s g c.args.limit c.args.owner c.args.room c.requires.lasts.lasting c.requires.lasts.owned (omega arith) refl c.in-Lead.left c.switch.result
          (sym c.phase.ensures ∙ is) m
    ])
