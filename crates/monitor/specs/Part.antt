-- Which part of a pair a line falls to: below n the first, then up to line 15 the second, by the line's number there.
use Rattle.std.specs.Prelude.{ℕ, ◌-◌, cond, Some, None, Option, nat_lt}
use Rattle.monitor.specs.declared.part.Part.{Part}
use Rattle.monitor.specs.declared.part.Part.TheVariants.{First, Second}

abbrev pub part_of : ℕ → ℕ → Option Part
part_of n k = cond (nat_lt k n) (Some First) (cond (nat_lt k 16) (Some (Second (k - n))) None)
