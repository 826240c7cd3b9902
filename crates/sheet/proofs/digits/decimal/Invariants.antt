-- What is left of the bytes gives the number, and it is within the limit so far.
use Rattle.std.proofs.Common.{◌≤◌}
use Rattle.sheet.proofs.Numbers.{Digits}
use Rattle.sheet.proofs.digits.decimal.Given as goal

abbrev pub invariant-loop-byte : goal.invariant-loop-byte
invariant-loop-byte l = Digits l.bytes l.byte-index l.value × (l.value ≤ l.limit)
