-- The number and the place of each reason to refuse a line of a sheet: those of the core are passed up whole.
use Rattle.std.specs.Prelude.{ℕ}
use Rattle.sheet.specs.declared.fault.Fault.{Fault}
use Rattle.sheet.specs.declared.fault.Fault.TheVariants.{Form, Number, Declined}
use Rattle.model.specs.Refusals.{number_of, place_of}

abbrev pub fault_number : Fault → ℕ
fault_number (Form byte) = 11
fault_number (Number byte) = 12
fault_number (Declined r) = number_of r

abbrev pub fault_place : Fault → ℕ
fault_place (Form byte) = byte
fault_place (Number byte) = byte
fault_place (Declined r) = place_of r
