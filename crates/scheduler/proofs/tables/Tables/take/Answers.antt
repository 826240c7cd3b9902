-- The board's line decides what is owed, which queue grows and which grant opens.
use Rattle.std.proofs.Common.{◌≡◌, ℕ, ◌+◌, ◌<◌, false, ◌&&◌, ltb, length, ap, arith}
use Rattle.std.proofs.lemmas.Bool.Decides.{nat_tests}
use Rattle.model.specs.declared.board.Line.{Line}
use Rattle.parts.specs.Grants.{opened}
use Rattle.parts.specs.Waiting.{queue_of}
use Rattle.scheduler.specs.View.{board_of, state_of}
use Rattle.scheduler.proofs.BoardRanges.{board_ranges}
use Rattle.scheduler.proofs.Taking.{taken}
use Rattle.scheduler.proofs.tables.Tables.take.Goals as goal

pub top_work-work-requires : goal.top_work-work-requires
top_work-work-requires c =
    let top = ap (λ (l : Line). l.top) c.wired-wired.ensures in
    omega (arith, ((board_ranges c.args.self.now.board).each_line c.args.line c.requires.known).top_few)

full : (o n : ℕ) → o < 8 → n < 32 → false ≡ (ltb o 8 && ltb n 32) → ⊥
full o n l m e = grind (arith, nat_tests)

pub prove-unreachable-requires : goal.prove-unreachable-requires
prove-unreachable-requires c =
    let s = state_of c.args.self.now in
    let ranges = board_ranges c.args.self.now.board in
    let owner = ap (λ (l : Line). l.owner) c.wired-wired.ensures in
    let queue = ap (λ (l : Line). length (s.queue l.owner)) c.wired-wired.ensures in
    full c.wired-wired.result.owner (length (s.queue c.wired-wired.result.owner)) (omega (arith, (ranges.each_line c.args.line c.requires.known).owned, ranges.partitions_few)) (omega (arith, c.requires.room))
    c.if-prove.ensures.answer

pub returns-clause-state : goal.returns-clause-state
returns-clause-state c =
    let s = state_of c.args.self.now in
    taken (board_of c.args.self.now) s c.args.line c.args.tag c.args.permitted c.wired-wired.result (s.owed + c.top_work-work.result) (opened c.next_grant-self.result) (queue_of c.push-pushed.new.self)
    c.wired-wired.ensures (ap (λ n. s.owed + n) c.top_work-work.ensures.work) c.next_grant-self.ensures c.if-prove.ensures.after
