-- A grant as the model's open grant, and what running its steps makes of it.
use Rattle.std.specs.Prelude.{ℕ, Option}
use Rattle.model.specs.Tick.{Grant as OpenGrant}
use Rattle.parts.specs.declared.grant.Grant.{Grant}
use Rattle.parts.specs.Phases.{open_in, phase_stepped}

-- the open grant, if any
abbrev pub opened : Grant → Option OpenGrant
opened g = open_in g.line g.phase

-- the open grant after n ticks of its current step, at most what is left of it
abbrev pub stepped : ℕ → Grant → Option OpenGrant
stepped n g = phase_stepped n g.line g.phase
