-- The texts of proofs of routes: each has one spelling, in lines that end with a line feed.
use Rattle.std.specs.Prelude.{ℕ, List, [], ◌∷◌, ◌++◌, Option, None, Some, codes, decimal, length}
use Rattle.ev_text.specs.Texts.{joined_texts, marked_texts}
use Rattle.certificate_parts.specs.Texts.{point_text, stops_text}
use Rattle.route_plan.specs.declared.plan.RoutePlan.{RoutePlan}
use Rattle.route_proof.specs.declared.proof.RouteLabel.{RouteLabel}
use Rattle.route_proof.specs.declared.proof.RouteProof.{RouteProof}

-- the plan that is shown to be a fastest one, or none
abbrev pub listed_text : Option RoutePlan → List ℕ
listed_text None = codes "none" ++ 10 ∷ []
listed_text (Some plan) = codes "route " ++ stops_text plan

-- the line of a label, up to its points
abbrev pub label_head : ℕ → ℕ → List ℕ
label_head passed node = codes "label " ++ (decimal passed ++ (codes " " ++ decimal node))

abbrev pub label_text : RouteLabel → List ℕ
label_text l =
    label_head l.passed l.node ++ (marked_texts (codes " ") point_text l.value ++ 10 ∷ [])

-- the line in front of the labels
abbrev pub labels_head : ℕ → List ℕ
labels_head count = codes "labels " ++ (decimal count ++ 10 ∷ [])

abbrev pub labels_text : List RouteLabel → List ℕ
labels_text labels = labels_head (length labels) ++ joined_texts label_text labels

-- the text behind its first line
abbrev pub body_text : RouteProof → List ℕ
body_text p = listed_text p.plan ++ labels_text p.labels

abbrev pub proof_text : RouteProof → List ℕ
proof_text p = codes "evroute proof 1" ++ 10 ∷ body_text p
