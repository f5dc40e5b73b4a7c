-- The first broken rule of labels, as the program tells it.
use Rattle.std.specs.Prelude.{ℕ, Bool, MatchBool, Option, None, Some}
use Rattle.route_proof.specs.Broken.{ComesBefore, IsBroken, IsFirstBroken, Place, at_home, at_start, at_step}
use Rattle.route_proof.specs.Closed.{AreClosed}
use Rattle.route_proof.specs.Questions.{Question}
use Rattle.route_proof.specs.declared.fault.RouteLabelFault.{RouteLabelFault}
use Rattle.route_proof.specs.declared.fault.RouteLabelFault.TheVariants.{End, Start, Step}

-- where the rule is broken
abbrev pub place_of : RouteLabelFault → Place
place_of Start = at_start
place_of (Step label node via) = at_step label node via
place_of (End label) = at_home label

abbrev pub Breaks : Question → Place → Type 0
Breaks q at = IsBroken q.journey q.bar q.labels at

-- the labels are closed, or that is the first rule that they break
abbrev pub TellsLabels : Question → Option RouteLabelFault → Type 0
TellsLabels q None = AreClosed q.journey q.bar q.labels
TellsLabels q (Some fault) = IsFirstBroken q.journey q.bar q.labels (place_of fault)

-- whether the start is covered where the bar is above 0
abbrev pub TellsStart : Question → Bool → Type 0
TellsStart q covered = MatchBool covered (Breaks q at_start → ⊥) (Breaks q at_start)

-- no step is broken, or that is the first that is
abbrev pub TellsSteps : Question → Option RouteLabelFault → Type 0
TellsSteps q None = (m x : ℕ) (via : Bool) → Breaks q (at_step m x via) → ⊥
TellsSteps q (Some Start) = ⊥
TellsSteps q (Some (Step label node via)) =
    Breaks q (at_step label node via) ×
    ((m x : ℕ) (b : Bool) → ComesBefore (at_step m x b) (at_step label node via) →
    Breaks q (at_step m x b) → ⊥)
TellsSteps q (Some (End label)) = ⊥

-- no step home is broken, or that is the first that is
abbrev pub TellsEnds : Question → Option RouteLabelFault → Type 0
TellsEnds q None = (m : ℕ) → Breaks q (at_home m) → ⊥
TellsEnds q (Some Start) = ⊥
TellsEnds q (Some (Step label node via)) = ⊥
TellsEnds q (Some (End label)) =
    Breaks q (at_home label) ×
    ((m : ℕ) → ComesBefore (at_home m) (at_home label) → Breaks q (at_home m) → ⊥)
