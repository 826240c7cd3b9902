-- A yes of a trail is a permit.
use Rattle.std.proofs.Common.{◌≡◌, ℕ, ◌-◌, List, [], ◌∷◌, ◌++◌, length, get_or, take, drop, set, Some, None, Option, refl, ap, drop-cons, arith}
use Rattle.std.proofs.lemmas.List.{drop_all}
use Rattle.trail.specs.Trail.{TrailState, trail_rule, trail_most, trail_rest, trail_after}
use Rattle.trail.specs.View.{trail_state}
use Rattle.monitor.proofs.OneLine.{one_asked}
use Rattle.trail.specs.Trails.{trail_kept, trail_spent}
use Rattle.trail.proofs.trail.calls.TrailMonitor.ask.Goals as goal

-- a permit in front of the latest four
in_front : (xs ys : List (Option ℕ)) (p : Option ℕ) → length xs ≡ 5 → ys ≡ drop (length xs - 1) xs ++ take (length xs - 1) xs → set ys 0 p ≡ p ∷ take 4 xs
in_front xs ys p five turned =
    let last : drop 4 xs ≡ get_or xs 4 None ∷ drop 5 xs = drop-cons xs 4 None (omega arith) in
    let none : drop 5 xs ≡ [] = drop_all 5 xs (omega arith) in
    rw (turned, five, last, none) refl

pub returns : goal.returns
returns c =
    let m = c.args.self.now in
    let s = trail_state m in
    let after =
    ap (λ (ps : List (Option ℕ)). let t : TrailState = record { distances = s.distances; permits = ps } in t)
    (in_front m.permits c.rotate_right.new.self (Some c.args.at) m.kept c.rotate_right.ensures.after) in
    record {
      asked =
          one_asked trail_rule trail_most trail_rest trail_state m c.args.line c.args.at _ (trail_after s c.args.at) after
          c.if-not-ready.ensures (trail_spent s c.args.at (trail_kept s.distances m.in_range));
      after = after;
      once = λ yes-said. after;
    }
