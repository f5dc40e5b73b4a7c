use Rattle.std.proofs.Common.{◌≡◌, ◌<◌, ℕ, Some, slice_get}
use Rattle.fleet_model.specs.ClosedList.{IsClosed}
use Rattle.fleet_model.specs.Section.{Section}
use Rattle.bound_certificate.specs.Meaning.{priced_sections}
use Rattle.certificate_check.proofs.sections.section_fault.Given as goal

abbrev pub invariant-loop-number : goal.invariant-loop-number
invariant-loop-number l = (m : ℕ) (t : Section) → m < l.number → slice_get (priced_sections l.sections) m ≡ Some t → IsClosed l.inst t
