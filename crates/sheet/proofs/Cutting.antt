-- A piece cut at a byte: its first part, and the parts of what is left.
use Rattle.std.proofs.Common.{◌≡◌, ℕ, ◌+◌, ◌<◌, ◌≤◌, Bool, true, false, eqb, List, [], ◌∷◌, length, take, drop, Some, None, refl, ap, ⊎_elim, add-one, one-add, arith}
use Rattle.std.specs.Prelude.{⊤, Option, unwrap_or, ◌==◌}
use Rattle.std.specs.List.{position_or_len}
use Rattle.std.specs.Iterator.{MakesProgress, item_count}
use Rattle.std.proofs.lemmas.List.{length-take-le, nil_from_length}
use Rattle.std.proofs.lemmas.Bool.{cases_lt}
use Rattle.std.proofs.lemmas.Bool.Decides.{nat_tests}
use Rattle.sheet.specs.declared.piece.Piece.{Piece}
use Rattle.sheet.specs.Pieces.{part_at, rest_at, words_in, lines_in}
use Rattle.sheet.specs.Reading.{Part, onto, parts}
use Rattle.sheet.specs.Scan.{found, first_part, rest_part}

-- how many bytes come before the first that is `stop`, or all
abbrev before : ℕ → List ℕ → ℕ
before stop bytes = position_or_len (λ b. b == stop) bytes

-- one byte in front: it is `stop`, or the first part is longer by it
parts_by : (stop : ℕ) (end : List (List ℕ)) (b : ℕ) (bs : List ℕ) (t : Bool) → eqb b stop ≡ t →
    (before stop bs < length bs → parts stop end bs ≡ take (before stop bs) bs ∷ parts stop end (drop (before stop bs + 1) bs)) →
    before stop (b ∷ bs) < length (b ∷ bs) →
    parts stop end (b ∷ bs) ≡ take (before stop (b ∷ bs)) (b ∷ bs) ∷ parts stop end (drop (before stop (b ∷ bs) + 1) (b ∷ bs))
unfolding parts
parts_by stop end b bs true e rec h = rw e refl
parts_by stop end b bs false e rec h =
    let l : before stop bs < length bs = omega (arith, rw e at h) in
    rw e (rw (one-add, add-one, rec l) (rw add-one refl))

-- the first part ends at the first `stop`, and the others begin behind it
parts_at : (stop : ℕ) (end : List (List ℕ)) (bs : List ℕ) → before stop bs < length bs →
    parts stop end bs ≡ take (before stop bs) bs ∷ parts stop end (drop (before stop bs + 1) bs)
parts_at stop end [] h = absurd (omega arith)
parts_at stop end (b ∷ bs) h = parts_by stop end b bs (eqb b stop) refl (parts_at stop end bs) h

-- without a `stop` there is one part
one_by : (stop : ℕ) (end : List (List ℕ)) (b : ℕ) (bs : List ℕ) (t : Bool) → eqb b stop ≡ t →
    (length bs ≤ before stop bs → onto b (parts stop end bs) ≡ (b ∷ bs) ∷ []) →
    length (b ∷ bs) ≤ before stop (b ∷ bs) → parts stop end (b ∷ bs) ≡ (b ∷ bs) ∷ []
unfolding parts
one_by stop end b bs true e rec h = absurd (omega (arith, rw e at h))
one_by stop end b bs false e rec h =
    let l : length bs ≤ before stop bs = omega (arith, rw e at h) in
    rw (e, rec l) refl

-- a word, with or without bytes
one_word_lem : (stop : ℕ) (bs : List ℕ) → length bs ≤ before stop bs → parts stop ([] ∷ []) bs ≡ bs ∷ []
unfolding parts
one_word_lem stop [] h = refl
one_word_lem stop (b ∷ bs) h = one_by stop ([] ∷ []) b bs (eqb b stop) refl (λ l. ap (onto b) (one_word_lem stop bs l)) h

-- a line, of one byte or more
one_line : (stop : ℕ) (bs : List ℕ) → 0 < length bs → length bs ≤ before stop bs → parts stop [] bs ≡ bs ∷ []
unfolding parts
one_line stop [] some h = absurd (omega arith)
one_line stop (b ∷ []) some h = one_by stop [] b [] (eqb b stop) refl (λ l. refl) h
one_line stop (b ∷ d ∷ bs) some h =
    one_by stop [] b (d ∷ bs) (eqb b stop) refl (λ l. ap (onto b) (one_line stop (d ∷ bs) (omega arith) l)) h

-- where the first `stop` is, or that there is none
is_found : (stop : ℕ) (bs : List ℕ) → before stop bs < length bs → found stop bs ≡ Some (before stop bs)
is_found stop bs h = grind (arith, nat_tests)

not_found : (stop : ℕ) (bs : List ℕ) → length bs ≤ before stop bs → found stop bs ≡ None
not_found stop bs h = grind (arith, nat_tests)

-- the words of a line: the first, and those of the rest
pub words_cut : (p : Part) → words_in (Some p) ≡ first_part 32 p ∷ words_in (rest_part 32 p)
words_cut p =
    ⊎_elim (λ h. rw (parts_at 32 ([] ∷ []) p.bytes h, is_found 32 p.bytes h, length-take-le (before 32 p.bytes) p.bytes (omega arith)) refl)
    (λ h. rw (one_word_lem 32 p.bytes h, not_found 32 p.bytes h) refl) (cases_lt (before 32 p.bytes) (length p.bytes))

-- the lines of what is left of a sheet, if there is a byte
pub lines_cut : (p : Part) → 0 < length p.bytes → lines_in (Some p) ≡ first_part 10 p ∷ lines_in (rest_part 10 p)
lines_cut p some =
    ⊎_elim (λ h. rw (parts_at 10 [] p.bytes h, is_found 10 p.bytes h, length-take-le (before 10 p.bytes) p.bytes (omega arith)) refl)
    (λ h. rw (one_line 10 p.bytes some h, not_found 10 p.bytes h) refl) (cases_lt (before 10 p.bytes) (length p.bytes))

-- no line is left where no byte is
pub lines_none : (p : Part) → length p.bytes ≡ 0 → lines_in (Some p) ≡ []
unfolding parts
lines_none p h = rw (nil_from_length p.bytes h) refl

-- where nothing comes behind a cut, a piece with no bytes stands for it: no line more
pub lines_or : (o : Option Piece) (p : Piece) → length p.bytes.now ≡ 0 → lines_in (Some (part_at (unwrap_or o p))) ≡ lines_in (rest_at o)
lines_or None p h = lines_none (part_at p) h
lines_or (Some q) p h = refl

-- one item is taken of a list that is left
pub one_taken : {S A B : Type 0} (rest : S → List B) (s t : S) (x : A) (b : B) → rest s ≡ b ∷ rest t →
    MakesProgress (λ _. ⊤) (item_count rest) s (Some x) t
one_taken rest s t x b e =
    let l : length (rest t) < length (rest s) = rw e (omega arith) in
    record { on = λ _. (tt, tt, l); keeps = tt; rests = λ _. tt }
