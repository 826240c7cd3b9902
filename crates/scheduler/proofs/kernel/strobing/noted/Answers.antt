-- A bit above all that are set is added by `|`.
use Rattle.std.proofs.Common.{◌≡◌, ℕ, ◌+◌, ◌*◌, ◌%◌, ◌^◌, ◌<◌, Ok, sym, ap, ◌∙◌, arith}
use lib.Bits.{bit_or}
use Rattle.std.proofs.lemmas.Nat.{or_comm, or_shifted, one_shl}
use Rattle.model.specs.declared.run.Answer.{Answer}
use Rattle.model.specs.declared.run.Answer.TheVariants.{Permitted, Queued}
use Rattle.scheduler.specs.Words.{noting}
use Rattle.scheduler.proofs.kernel.strobing.noted.Goals as goal

added : (t k : ℕ) → k < 16 → t < 2 ^ k → bit_or t ((1 * 2 ^ k) % 2 ^ 16) ≡ t + 2 ^ k
added t k l few =
    ap (bit_or t) (one_shl k 16 l)
    ∙ (or_comm t (2 ^ k) ∙ (ap (λ x. bit_or x t) (let one : 2 ^ k ≡ 1 * 2 ^ k = omega arith in one) ∙ (or_shifted 1 k t few ∙ omega arith)))

pub returns-in-Ok-Permitted : goal.returns-in-Ok-Permitted
returns-in-Ok-Permitted c few few' =
    let first : c.in-Ok-Permitted.field-0 ≡ Permitted = rw c.in-Ok-Permitted.is at c.in-Ok-Permitted.field-0-is in
    (λ i. (added c.args.words.0 c.args.line c.requires few i, added c.args.words.1 c.args.line c.requires few' i)) ∙ sym (ap (λ a. noting c.args.line a c.args.words) c.in-Ok-Permitted.is ∙ ap (λ (v : Answer). noting c.args.line (Ok v) c.args.words) first)

pub returns-in-Ok-Queued : goal.returns-in-Ok-Queued
returns-in-Ok-Queued c few few' =
    let first : c.in-Ok-Queued.field-0 ≡ Queued = rw c.in-Ok-Queued.is at c.in-Ok-Queued.field-0-is in
    (λ i. (added c.args.words.0 c.args.line c.requires few i, c.args.words.1)) ∙ sym (ap (λ a. noting c.args.line a c.args.words) c.in-Ok-Queued.is ∙ ap (λ (v : Answer). noting c.args.line (Ok v) c.args.words) first)
