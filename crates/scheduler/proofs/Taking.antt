-- Taking an event: the state that it leads to.
use Rattle.std.proofs.Common.{◌≡◌, ℕ, ◌+◌, Bool, cond, not, List, [], ◌∷◌, ◌++◌, Some, Option, refl, ap, ◌∙◌, arith}
use mathlib.Core.Path.{fun_ext}
use Rattle.model.specs.declared.board.Line.{Line}
use Rattle.model.specs.declared.run.Event.{Event}
use Rattle.model.specs.Board.{Layout, line_at, serves}
use Rattle.model.specs.Tick.{State, Grant, put}
use Rattle.model.specs.Core.{fresh_grant, raised_state}
use Rattle.scheduler.proofs.Bursts.{state_path}

module _ (b : Layout) (s : State) (k tag : ℕ) (permitted : Bool) where
  taken_by : Line → State
  taken_by l =
      record {
        instant = s.instant;
        owed = s.owed + l.top + cond (not (serves b l.owner s.instant)) b.overheads.check 0;
        granted = cond permitted (Some (fresh_grant b k)) s.granted;
        queue = put s.queue l.owner (s.queue l.owner ++ record { tag = tag; line = k; raised = s.instant; left = l.handler } ∷ []);
      }

  pub taken : (l : Line) (owed : ℕ) (g : Option Grant) (q : ℕ → List Event) → l ≡ line_at b k
      → owed ≡ s.owed + (l.top + cond (not (serves b l.owner s.instant)) b.overheads.check 0) → g ≡ cond permitted (Some (fresh_grant b k)) s.granted
      → ((p : ℕ) → q p ≡ put s.queue l.owner (s.queue l.owner ++ record { tag = tag; line = k; raised = s.instant; left = l.handler } ∷ []) p)
      → ◌≡◌ {A = State} (record { instant = s.instant; owed = owed; granted = g; queue = q }) (raised_state b s k tag permitted)
  unfolding taken_by
  taken l owed g q is owed-is g-is q-is = state_path _ _ _ _ _ _ _ _ refl (omega arith) g-is (fun_ext q-is) ∙ ap taken_by is
