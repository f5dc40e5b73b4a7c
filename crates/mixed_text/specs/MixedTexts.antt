-- The texts of proofs for several kinds of vehicles: each has one spelling, in lines that end with
-- a line feed.
use Rattle.std.specs.Prelude.{ℕ, ◌+◌, List, [], ◌∷◌, ◌++◌, codes, decimal, length}
use Rattle.ev_text.specs.Texts.{joined_texts}
use Rattle.bound_certificate.specs.CertificateTexts.{exact_head, wide_head}
use Rattle.certificate_parts.specs.Texts.{basis_text, bound_text, label_text, prices_text, stops_text}
use Rattle.certificate_parts.specs.Written.{WrittenLabel}
use Rattle.mixed_model.specs.declared.proof.MixedRoot.{MixedRoot}
use Rattle.mixed_model.specs.declared.proof.MixedRoot.TheVariants as root
use Rattle.mixed_model.specs.declared.proof.MixedRoute.{MixedRoute}
use Rattle.mixed_model.specs.declared.proof.MixedShare.{MixedShare}
use Rattle.mixed_text.specs.Written.{WrittenMixed}

-- the number of a route's kind and its stops, and the end of the line
abbrev pub mixed_route_text : MixedRoute → List ℕ
mixed_route_text r = decimal r.kind ++ (codes " " ++ stops_text r.plan)

abbrev pub mixed_share_text : MixedShare → List ℕ
mixed_share_text x = codes "share " ++ (decimal x.share ++ (codes " " ++ mixed_route_text x.route))

abbrev pub mixed_column_text : MixedRoute → List ℕ
mixed_column_text r = codes "column " ++ mixed_route_text r

abbrev pub mixed_root_text : MixedRoot → List ℕ
mixed_root_text root.None = codes "root none" ++ 10 ∷ []
mixed_root_text (root.Exact over shares) =
    exact_head over (length shares) ++ joined_texts mixed_share_text shares
mixed_root_text (root.Wide columns basis) =
    wide_head (length columns) ++ (joined_texts mixed_column_text columns ++ basis_text basis)

-- the line with the number of kinds
abbrev pub kinds_line : ℕ → List ℕ
kinds_line count = codes "kinds " ++ (decimal count ++ 10 ∷ [])

-- the line with the weight
abbrev pub weight_line : ℕ → List ℕ
weight_line weight = codes "section " ++ (decimal weight ++ 10 ∷ [])

-- the line of a kind, with its number and how many labels it has
abbrev pub kind_line : ℕ → ℕ → List ℕ
kind_line kind count =
    codes "kind " ++ (decimal kind ++ (codes " " ++ (decimal count ++ 10 ∷ [])))

-- the lines of a kind
abbrev pub kind_text : ℕ → List WrittenLabel → List ℕ
kind_text kind labels = kind_line kind (length labels) ++ joined_texts label_text labels

-- the lines of the kinds, in order, from a number on
abbrev pub kinds_text : ℕ → List (List WrittenLabel) → List ℕ
kinds_text kind [] = []
kinds_text kind (labels ∷ others) = kind_text kind labels ++ kinds_text (kind + 1) others

-- the text behind its first two lines
abbrev pub mixed_body_text : WrittenMixed → List ℕ
mixed_body_text w =
    bound_text w.bound
    ++ (mixed_root_text w.root
    ++ (weight_line w.weight ++ (prices_text w.prices ++ kinds_text 0 w.labels)))

abbrev pub mixed_text : WrittenMixed → List ℕ
mixed_text w =
    codes "evroute mixed 1" ++ 10 ∷ (kinds_line (length w.labels) ++ mixed_body_text w)
