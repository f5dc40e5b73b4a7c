-- How a rule is refused.
use Rattle.std.specs.Prelude.{◌≡◌, Option, Some}
use Rattle.instance_reader.specs.declared.faults.PlaceFault.{PlaceFault}
use Rattle.instance_reader.specs.declared.faults.PlaceFault.TheVariants.{At, Memory}
use Rattle.instance_reader.specs.declared.faults.ReadFault.{ReadFault}
use Rattle.instance_reader.specs.declared.faults.ReadFault.TheVariants as fault
use Rattle.instance_reader.specs.declared.places.Place.{Place}

-- a refusal other than want of memory names the first broken place
abbrev pub RefusesAt : Option Place → PlaceFault → Type 0
RefusesAt broken (At place) = broken ≡ Some place
RefusesAt broken Memory = Unit {0}

-- want of memory, or a fault of which P holds; none of the faults of the bytes as a whole
abbrev pub OnContents : (ReadFault → Type 0) → ReadFault → Type 0
OnContents P fault.Memory = Unit {0}
OnContents P (fault.TooLong len) = ⊥
OnContents P fault.NotJson = ⊥
OnContents P other = P other

-- a refusal other than want of memory is the first fault that was found; it is none of the bytes as a whole
abbrev pub Refuses : Option ReadFault → ReadFault → Type 0
Refuses found fault.Memory = Unit {0}
Refuses found (fault.TooLong len) = ⊥
Refuses found fault.NotJson = ⊥
Refuses found other = found ≡ Some other
