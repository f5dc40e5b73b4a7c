-- The texts of parts of certificates: each has one spelling.
use Rattle.std.specs.Prelude.{ℕ, ℤ, List, [], ◌∷◌, ◌++◌, Option, None, Some, codes, decimal}
use Rattle.std.specs.Fmt.{signed_decimal}
use Rattle.ev_text.specs.Texts.{marked_texts, parted_texts}
use Rattle.route_plan.specs.PlanTexts.{stop_text}
use Rattle.route_plan.specs.declared.plan.RoutePlan.{RoutePlan}
use Rattle.certificate_parts.specs.Written.{WrittenLabel}
use Rattle.certificate_parts.specs.declared.entry.BasisEntry.{BasisEntry}
use Rattle.certificate_parts.specs.declared.entry.BasisEntry.TheVariants.{Helper, Column}

abbrev pub bound_text : Option ℕ → List ℕ
bound_text None = codes "bound none" ++ 10 ∷ []
bound_text (Some bound) = codes "bound " ++ (decimal bound ++ 10 ∷ [])

-- the stops of a plan, and the end of the line
abbrev pub stops_text : RoutePlan → List ℕ
stops_text p = parted_texts (codes " ") stop_text p.stops ++ 10 ∷ []

abbrev pub entry_text : BasisEntry → List ℕ
entry_text (Helper node) = codes "h" ++ decimal node
entry_text (Column number) = decimal number

abbrev pub basis_text : List BasisEntry → List ℕ
basis_text basis = codes "basis" ++ (marked_texts (codes " ") entry_text basis ++ 10 ∷ [])

-- a set without a member is `-`
abbrev pub set_text : List ℕ → List ℕ
set_text [] = codes "-"
set_text (node ∷ nodes) = parted_texts (codes ",") (λ n. decimal n) (node ∷ nodes)

abbrev pub point_text : ℕ × ℕ → List ℕ
point_text p = decimal p.0 ++ (codes ":" ++ decimal p.1)

-- the line of a label, up to its set
abbrev pub label_head : ℕ → ℕ → List ℕ
label_head last node =
    codes "label " ++ (decimal last ++ (codes " " ++ (decimal node ++ codes " ")))

abbrev pub label_text : WrittenLabel → List ℕ
label_text l =
    label_head l.last l.node
    ++ (set_text l.served ++ (marked_texts (codes " ") point_text l.points ++ 10 ∷ []))

abbrev pub prices_text : List ℤ → List ℕ
prices_text prices =
    codes "prices" ++ (marked_texts (codes " ") signed_decimal prices ++ 10 ∷ [])
