-- What the tests of one label tell.
use Rattle.std.specs.Prelude.{ℕ, ◌<◌, Bool, Option, None, Some, MatchBool}
use Rattle.fleet_model.specs.ClosedListRules.{EarnsAtHome, ReachesUncovered}
use Rattle.piece_fn.specs.declared.label.Label.{Label}
use Rattle.closed_lists.specs.Questions.{Question, section}
use Rattle.closed_lists.specs.Sections.{paid_label}

-- a step from the label to the node leads to a state that is not covered
abbrev pub IsUncovered : Question → Label → ℕ → Type 0
IsUncovered q l x = ReachesUncovered q.network (section q) (paid_label q.prices l) x

-- whether each state is covered to which the step leads
abbrev pub TellsStep : Question → Label → ℕ → Bool → Type 0
TellsStep q l x covered = MatchBool covered (IsUncovered q l x → ⊥) (IsUncovered q l x)

-- the first node to which a step leads to a state that is not covered
abbrev pub TellsFirst : Question → Label → Option ℕ → Type 0
TellsFirst q l None = (x : ℕ) → IsUncovered q l x → ⊥
TellsFirst q l (Some node) =
    IsUncovered q l node × ((x : ℕ) → x < node → IsUncovered q l x → ⊥)

-- whether a step home earns more than it takes
abbrev pub TellsHome : Question → Label → Bool → Type 0
TellsHome q l earns =
    MatchBool earns (EarnsAtHome q.network (section q) (paid_label q.prices l))
    (EarnsAtHome q.network (section q) (paid_label q.prices l) → ⊥)
