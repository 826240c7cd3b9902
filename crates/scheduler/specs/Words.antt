-- The two words that a strobe answers, line by line.
use Rattle.std.specs.Prelude.{ℕ, ◌+◌, ◌^◌, Ok, Err, Result}
use Rattle.model.specs.declared.refusal.Refusal.{Refusal}
use Rattle.model.specs.declared.run.Answer.{Answer}
use Rattle.model.specs.declared.run.Answer.TheVariants.{Permitted, Queued}

-- a line noted by what raising it answered
abbrev pub noting : ℕ → Result Answer Refusal → ℕ × ℕ → ℕ × ℕ
noting k (Ok Permitted) w = (w.0 + 2 ^ k, w.1 + 2 ^ k)
noting k (Ok Queued) w = (w.0 + 2 ^ k, w.1)
noting k (Err e) w = w
