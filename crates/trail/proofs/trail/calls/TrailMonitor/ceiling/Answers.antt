-- A trail's ceiling is the smallest that one of its distances allows.
use Rattle.std.proofs.Common.{◌≡◌, ℕ, ◌+◌, ◌-◌, ◌*◌, ◌<◌, ◌≤◌, min, suc, List, [], ◌∷◌, length, map, Some, slice_index, add-zero, add-one, ap, sym, ◌∙◌, refl, rules, tests, arith}
use Rattle.std.specs.Option.{option_map}
use Rattle.std.specs.List.{enumerate_from, fold, reduce}
use Rattle.std.proofs.lemmas.Iterator.{YieldsList-from_slice, YieldsList-from_map}
use Rattle.std.proofs.lemmas.Iterator.Consumers.{YieldsList-at, YieldsList-from_enumerate, min_from_yields_List}
use Rattle.std.proofs.lemmas.Iterator.Adapters.{option_map_id}
use Rattle.model.specs.Counting.{least, up}
use Rattle.model.specs.Limits.{instants}
use Rattle.trail.specs.Trail.{scaled, trail_most}
use Rattle.trail.specs.Least.{least_more}
use Rattle.trail.specs.Trails.{trail_kept}
use Rattle.trail.specs.View.{trail_state}
use Rattle.trail.proofs.trail.calls.TrailMonitor.ceiling.Goals as goal

-- the smallest of the first n places, with the values of those that are left
least_on : (n : ℕ) (h : ℕ → ℕ → ℕ) (ds : List ℕ) (f : ℕ → ℕ) (x : ℕ) → 1 ≤ n → x ≡ least (n - 1) f
    → ((j : ℕ) → j < length ds → h (n + j) (slice_index ds j) ≡ f (n + j)) → fold min x (map (λ p. h p.0 p.1) (enumerate_from n ds)) ≡ least (n + length ds - 1) f
least_on n h [] f x some is same = rw (add-zero n) is
least_on n h (d ∷ ds) f x some is same =
    let all : n + suc (length ds) ≡ n + 1 + length ds = omega arith in
    let more = least_more n f x (h n d) some is (rw (add-zero n) at (same 0 (omega arith))) in
    rw all
    (least_on (n + 1) h ds f (min x (h n d)) (omega arith) more
    (λ j l. let place : n + suc j ≡ n + 1 + j = omega arith in rw place at (same (suc j) (omega arith))))

-- the smallest value of all places
least_of : (h : ℕ → ℕ → ℕ) (ds : List ℕ) (f : ℕ → ℕ) → 1 ≤ length ds → ((j : ℕ) → j < length ds → h j (slice_index ds j) ≡ f j)
    → reduce min (map (λ p. h p.0 p.1) (enumerate_from 0 ds)) ≡ Some (least (length ds - 1) f)
unfolding least
least_of h [] f some same = absurd (omega arith)
least_of h (d ∷ ds) f some same =
    let all : suc (length ds) ≡ 1 + length ds = omega arith in
    rw all (ap Some (least_on 1 h ds f (h 0 d) (omega arith) (same 0 (omega arith)) (λ j l. let place : suc j ≡ 1 + j = omega arith in rw place at (same (suc j) (omega arith)))))

pub returns : goal.returns
returns c =
    let ds = c.args.self.now.distances.items in
    let w = min c.args.window instants in
    let found : option_map (λ m. m) c.min.result ≡ reduce min (map (λ p. (p.0 + 1) * up w p.1) (enumerate_from 0 ds)) =
    min_from_yields_List c.map.result c.min.result c.min.ensures.ran
    (YieldsList-from_map _ (λ p. (p.0 + 1) * up w p.1)
    (YieldsList-at c.map.ensures.source (YieldsList-from_enumerate (YieldsList-from_slice ds (cc)) (cc)))
    c.map.ensures.closure (λ x r q k. search (rules, tests))) in
    let some = (trail_kept ds c.args.self.now.in_range).some in
    let smallest = least_of (λ i d. (i + 1) * up w d) ds (scaled (trail_state c.args.self.now) w) some (λ j l. rw (add-one j) refl) in
    let is : c.min.result ≡ Some (trail_most (trail_state c.args.self.now) w) = sym (option_map_id c.min.result) ∙ (found ∙ smallest) in
    rw (c.unwrap_or.ensures, is, c.if-line-ne0.false) refl
