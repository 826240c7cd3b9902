-- What a grant's step says of the grant.
use Rattle.std.specs.Prelude.{ℕ, ◌-◌, Bool, true, Some, None, Option, nat_le}
use Rattle.model.specs.Tick.{Grant as OpenGrant, grant, closing}
use Rattle.parts.specs.declared.phase.Phase.{Phase}
use Rattle.parts.specs.declared.phase.Phase.TheVariants.{Lead, Work, Trail, Closed}

-- the open grant of line k that is in a step
abbrev pub open_in : ℕ → Phase → Option OpenGrant
open_in k (Lead l w t) = Some (grant k l w t)
open_in k (Work w t) = Some (grant k 0 w t)
open_in k (Trail t) = Some (grant k 0 0 t)
open_in k Closed = None

-- a step that has ticks left, or none at all
abbrev pub settled : Phase → Bool
settled (Lead l w t) = nat_le 1 l
settled (Work w t) = nat_le 1 w
settled (Trail t) = nat_le 1 t
settled Closed = true

-- the ticks left of a step
abbrev pub phase_left : Phase → ℕ
phase_left (Lead l w t) = l
phase_left (Work w t) = w
phase_left (Trail t) = t
phase_left Closed = 0

-- the open grant of line k after n ticks of a step, at most what is left of it
abbrev pub phase_stepped : ℕ → ℕ → Phase → Option OpenGrant
phase_stepped n k (Lead l w t) = closing (grant k (l - n) w t)
phase_stepped n k (Work w t) = closing (grant k 0 (w - n) t)
phase_stepped n k (Trail t) = closing (grant k 0 0 (t - n))
phase_stepped n k Closed = None
