-- How the text of a proof is read from left to right: the proof, or the first fault.
use Rattle.std.specs.Prelude.{ℕ, ◌-◌, Bool, true, false, List, [], ◌∷◌, ◌++◌, Option, None, Some, codes, length, nat_lt}
use Rattle.ev_model.specs.Network.{Network, node_count}
use Rattle.ev_text.specs.Readers.{Reader, answer, behind_word, choice_at, so_many, then_reads}
use Rattle.ev_text.specs.Scans.{whole_at}
use Rattle.certificate_parts.specs.Limits.{most_items}
use Rattle.certificate_parts.specs.Reading.{node_where, plan_line, points_at}
use Rattle.route_plan.specs.declared.plan.RoutePlan.{RoutePlan}
use Rattle.route_proof.specs.declared.proof.RouteLabel.{RouteLabel}
use Rattle.route_proof.specs.declared.proof.RouteProof.{RouteProof}

abbrev pub plan_behind : Bool → Reader (Option RoutePlan)
plan_behind true = answer None
plan_behind false =
    behind_word (codes "route ") (then_reads plan_line (λ plan. answer (Some plan)))

abbrev pub listed_at : Reader (Option RoutePlan)
listed_at = then_reads (choice_at (codes "none" ++ 10 ∷ [])) plan_behind

-- no vehicle leaves the last node of the route, so the last but one is the last that is passed
abbrev pub label_at : Network → List ℕ → Reader RouteLabel
label_at g route =
    behind_word (codes "label ") (then_reads (whole_at (length route - 2)) (λ passed.
    behind_word (codes " ") (then_reads (node_where (λ node. nat_lt node (node_count g))) (λ node.
    behind_word (codes " ") (then_reads (points_at g) (λ points.
    answer (record { passed = passed; node = node; value = points })))))))

abbrev pub labels_at : Network → List ℕ → Reader (List RouteLabel)
labels_at g route =
    behind_word (codes "labels ") (then_reads (whole_at most_items) (λ count.
    behind_word (10 ∷ []) (so_many count (label_at g route))))

-- the text behind its first line
abbrev pub body_at : Network → List ℕ → Reader RouteProof
body_at g route =
    then_reads listed_at (λ plan.
    then_reads (labels_at g route) (λ labels.
    answer (record { plan = plan; labels = labels })))

abbrev pub proof_at : Network → List ℕ → Reader RouteProof
proof_at g route = behind_word (codes "evroute proof 1" ++ 10 ∷ []) (body_at g route)
