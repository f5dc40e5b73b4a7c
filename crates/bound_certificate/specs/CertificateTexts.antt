-- The texts of certificates: each has one spelling, in lines that end with a line feed.
use Rattle.std.specs.Prelude.{ℕ, ◌&&◌, Bool, true, false, List, [], ◌∷◌, ◌++◌, codes, decimal, length, nat_eq}
use Rattle.ev_model.specs.Network.{Network}
use Rattle.ev_text.specs.Texts.{joined_texts}
use Rattle.route_plan.specs.declared.plan.RoutePlan.{RoutePlan}
use Rattle.bound_certificate.specs.Written.{Written, WrittenSection}
use Rattle.bound_certificate.specs.declared.certificate.Root.{Root}
use Rattle.bound_certificate.specs.declared.certificate.Root.TheVariants as root
use Rattle.bound_certificate.specs.declared.certificate.Share.{Share}
use Rattle.bound_certificate.specs.declared.certificate.TreeLine.{TreeLine}
use Rattle.bound_certificate.specs.declared.certificate.TreeLine.TheVariants.{Split, Leaf}
use Rattle.certificate_parts.specs.Texts.{basis_text, bound_text, label_text, prices_text, stops_text}

-- an instance without a reserve and without a level at home has the first version of the text
abbrev pub is_first_version : Network → Bool
is_first_version g = nat_eq g.reserve 0 && nat_eq g.home_level 0

-- the lines in front of the bound; the second version names the two levels
abbrev pub head_lines : Bool → ℕ → ℕ → List ℕ
head_lines true reserve home = codes "evroute certificate 1" ++ 10 ∷ []
head_lines false reserve home =
    codes "evroute certificate 2" ++ 10 ∷
    (codes "levels " ++ (decimal reserve ++ (codes " " ++ (decimal home ++ 10 ∷ []))))

abbrev pub head_text : Network → List ℕ
head_text g = head_lines (is_first_version g) g.reserve g.home_level

abbrev pub share_text : Share → List ℕ
share_text x = codes "share " ++ (decimal x.share ++ (codes " " ++ stops_text x.plan))

abbrev pub column_text : RoutePlan → List ℕ
column_text p = codes "column " ++ stops_text p

-- the line of an exact root
abbrev pub exact_head : ℕ → ℕ → List ℕ
exact_head over count =
    codes "root exact " ++ (decimal over ++ (codes " " ++ (decimal count ++ 10 ∷ [])))

-- the line of a wide root
abbrev pub wide_head : ℕ → List ℕ
wide_head count = codes "root wide " ++ (decimal count ++ 10 ∷ [])

abbrev pub root_text : Root → List ℕ
root_text root.None = codes "root none" ++ 10 ∷ []
root_text (root.Exact over shares) =
    exact_head over (length shares) ++ joined_texts share_text shares
root_text (root.Wide columns basis) =
    wide_head (length columns) ++ (joined_texts column_text columns ++ basis_text basis)

abbrev pub pair_text : ℕ × ℕ → List ℕ
pair_text p = codes "pair " ++ (decimal p.0 ++ (codes " " ++ (decimal p.1 ++ 10 ∷ [])))

-- the line with a section's weight and counts
abbrev pub section_head : ℕ → ℕ → ℕ → List ℕ
section_head weight pairs labels =
    codes "section " ++ (decimal weight ++ (codes " " ++ (decimal pairs ++ (codes " "
    ++ (decimal labels ++ 10 ∷ [])))))

abbrev pub section_text : WrittenSection → List ℕ
section_text s =
    section_head s.weight (length s.pairs) (length s.labels) ++ (prices_text s.prices
    ++ (joined_texts pair_text s.pairs ++ joined_texts label_text s.labels))

abbrev pub line_text : TreeLine → List ℕ
line_text (Split i j) = codes "split " ++ (decimal i ++ (codes " " ++ (decimal j ++ 10 ∷ [])))
line_text (Leaf section) = codes "leaf " ++ (decimal section ++ 10 ∷ [])

-- the line in front of the sections
abbrev pub sections_head : ℕ → List ℕ
sections_head count = codes "sections " ++ (decimal count ++ 10 ∷ [])

abbrev pub sections_text : List WrittenSection → List ℕ
sections_text sections =
    sections_head (length sections) ++ joined_texts section_text sections

-- the text of a certificate as it is written, behind its first lines
abbrev pub body_text : Written → List ℕ
body_text w =
    bound_text w.bound
    ++ (root_text w.root ++ (sections_text w.sections ++ joined_texts line_text w.tree))

abbrev pub certificate_text : Network → Written → List ℕ
certificate_text g w = head_text g ++ body_text w
