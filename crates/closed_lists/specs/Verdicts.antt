-- The first broken rule of a list of labels, as the program tells it.
use Rattle.std.specs.Prelude.{ℕ}
use Rattle.ev_model.specs.Network.{Network}
use Rattle.fleet_model.specs.ClosedListRules.{at_home, at_start, at_step, ComesBefore, IsFault, IsFirstFault}
use Rattle.fleet_model.specs.Section.{Section}
use Rattle.closed_lists.specs.declared.fault.ClosedFault.{ClosedFault}
use Rattle.closed_lists.specs.declared.fault.ClosedFault.TheVariants.{End, Memory, Start, Step}

-- what a fault tells; want of memory tells nothing
abbrev pub IsTold : Network → Section → ClosedFault → Type 0
IsTold g s Start = IsFirstFault g s at_start
IsTold g s (Step label node) = IsFirstFault g s (at_step label node)
IsTold g s (End label) = IsFirstFault g s (at_home label)
IsTold g s Memory = Unit {0}

-- no step is broken, and no step home
abbrev pub HasNoBadStep : Network → Section → Type 0
HasNoBadStep g s = (label node : ℕ) → IsFault g s (at_step label node) → ⊥

abbrev pub HasNoBadEnd : Network → Section → Type 0
HasNoBadEnd g s = (label : ℕ) → IsFault g s (at_home label) → ⊥

-- the first broken step, or the first broken step home
abbrev pub IsFirstStep : Network → Section → ClosedFault → Type 0
IsFirstStep g s Start = ⊥
IsFirstStep g s (Step label node) =
    IsFault g s (at_step label node) ×
    ((m x : ℕ) → ComesBefore (at_step m x) (at_step label node) → IsFault g s (at_step m x) → ⊥)
IsFirstStep g s (End label) = ⊥
IsFirstStep g s Memory = Unit {0}

abbrev pub IsFirstEnd : Network → Section → ClosedFault → Type 0
IsFirstEnd g s Start = ⊥
IsFirstEnd g s (Step label node) = ⊥
IsFirstEnd g s (End label) =
    IsFault g s (at_home label) ×
    ((m : ℕ) → ComesBefore (at_home m) (at_home label) → IsFault g s (at_home m) → ⊥)
IsFirstEnd g s Memory = Unit {0}
