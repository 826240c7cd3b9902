-- A byte that is no digit, a number past the limit, one digit on, and the end.
use Rattle.std.proofs.Common.{◌+◌, ◌*◌, sym, arith}
use Rattle.std.proofs.lemmas.Bool.Decides.{nat_tests}
use Rattle.sheet.proofs.Numbers.{digits_more, no_digit, too_large, all_read}
use Rattle.sheet.proofs.digits.decimal.Goals as goal

pub returns-then-not-is_ascii_digit-clause-value :
    goal.returns-then-not-is_ascii_digit-clause-value
returns-then-not-is_ascii_digit-clause-value c =
    no_digit c.args.limit c.args.bytes.now c.loop-byte.byte-index c.loop-byte.value (omega arith)
    (sym c.if-not-is_ascii_digit.ensures.value) c.loop-byte.invariant.0

pub returns-then-more-from-clause-value : goal.returns-then-more-from-clause-value
returns-then-more-from-clause-value c =
    too_large c.args.limit c.args.bytes.now c.loop-byte.byte-index c.loop-byte.value
    (c.from.result * 10 + c.from-in-loop-byte.result) (omega arith) (omega arith) (omega arith) c.loop-byte.invariant.0

pub loop-byte-preserved : goal.loop-byte-preserved
loop-byte-preserved c = (
  digits_more c.args.bytes.now c.loop-byte.byte-index c.loop-byte.value (c.from.result * 10 + c.from-in-loop-byte.result)
      (omega arith) (sym c.if-not-is_ascii_digit.ensures.value) (omega arith) c.loop-byte.invariant.0,
  omega arith,
)

pub returns-clause-value : goal.returns-clause-value
returns-clause-value c =
    all_read c.args.limit c.args.bytes.now c.loop-byte.byte-index c.loop-byte.value
    (grind (arith, nat_tests)) (omega arith) (omega arith) c.loop-byte.invariant.0
