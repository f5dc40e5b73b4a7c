-- The texts of near proofs: each has one spelling, in lines that end with a line feed.
use Rattle.std.specs.Prelude.{ℕ, List, [], ◌∷◌, ◌++◌, codes, decimal, length}
use Rattle.ev_text.specs.Texts.{joined_texts, marked_texts}
use Rattle.certificate_parts.specs.Texts.{bound_text, point_text, set_text, stops_text}
use Rattle.route_plan.specs.declared.plan.RoutePlan.{RoutePlan}
use Rattle.near_text.specs.Written.{WrittenNear, WrittenNearLabel}

-- the line with the weight and the number of labels
abbrev pub section_line : ℕ → ℕ → List ℕ
section_line weight labels =
    codes "section " ++ (decimal weight ++ (codes " " ++ (decimal labels ++ 10 ∷ [])))

-- the line of the prices, each behind a space
abbrev pub price_line : List ℕ → List ℕ
price_line prices =
    codes "prices" ++ (marked_texts (codes " ") (λ price. decimal price) prices ++ 10 ∷ [])

-- the line of the near set of a customer
abbrev pub near_line : List ℕ → List ℕ
near_line nodes = codes "near " ++ (set_text nodes ++ 10 ∷ [])

-- the line of a label, up to its points
abbrev pub near_label_head : ℕ → List ℕ → ℕ → ℕ → List ℕ
near_label_head node memory count earned =
    codes "label " ++ (decimal node ++ (codes " " ++ (set_text memory ++ (codes " "
    ++ (decimal count ++ (codes " " ++ decimal earned))))))

abbrev pub near_label_text : WrittenNearLabel → List ℕ
near_label_text l =
    near_label_head l.node l.memory l.count l.earned
    ++ (marked_texts (codes " ") point_text l.points ++ 10 ∷ [])

-- the line of the tight route of a customer
abbrev pub tight_line : RoutePlan → List ℕ
tight_line p = codes "tight " ++ stops_text p

-- the text behind its first line
abbrev pub near_body_text : WrittenNear → List ℕ
near_body_text w =
    bound_text w.bound
    ++ (section_line w.weight (length w.labels)
    ++ (price_line w.prices
    ++ (joined_texts near_line w.sets
    ++ (joined_texts near_label_text w.labels
    ++ joined_texts tight_line w.tight))))

abbrev pub near_text : WrittenNear → List ℕ
near_text w = codes "evroute near 1" ++ 10 ∷ near_body_text w
