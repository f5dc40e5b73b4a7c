-- A tree as a list that gives it back, by which proofs tell trees apart.
use Rattle.std.specs.Prelude.{◌≡◌, ◌⊎◌, ℕ, List, [], ◌∷◌, ◌++◌}
use Rattle.std.specs.Coded.{Coded, code_by, coded_list, coded_ℕ, coded×, coded⊎}
use Rattle.std.proofs.Common.{◌∙◌, ap, append_assoc, append-nil, inl, inr, refl, sym}
use Rattle.fleet_model.specs.Tree.{BranchTree, leaf, split}
use Rattle.branching.specs.Shape.{first_tree, joined}

abbrev pub encoded : BranchTree → List (ℕ ⊎ (ℕ × ℕ))
encoded (leaf key) = inl key ∷ []
encoded (split i j apart together) = inr (i, j) ∷ (encoded apart ++ encoded together)

abbrev pub decoded : List (ℕ ⊎ (ℕ × ℕ)) → List BranchTree
decoded [] = []
decoded (inl key ∷ xs) = leaf key ∷ decoded xs
decoded (inr pair ∷ xs) = joined pair.0 pair.1 (decoded xs)

decoded-append : (t : BranchTree) (xs : List (ℕ ⊎ (ℕ × ℕ))) →
    decoded (encoded t ++ xs) ≡ t ∷ decoded xs
decoded-append (leaf key) xs = refl
decoded-append (split i j apart together) xs =
    let first = decoded-append apart (encoded together ++ xs) in
    let second = ap (λ ts. apart ∷ ts) (decoded-append together xs) in
    let all = ap decoded (append_assoc (encoded apart) (encoded together) xs) in
    ap (joined i j) (all ∙ first ∙ second)

pub decoded-encoded : (t : BranchTree) → first_tree (decoded (encoded t)) ≡ t
decoded-encoded t =
    let bare = ap decoded (sym (append-nil (encoded t))) in
    ap first_tree (bare ∙ decoded-append t [])

abbrev pub tree_code : Coded BranchTree
tree_code =
    code_by (List (ℕ ⊎ (ℕ × ℕ))) (coded_list (coded⊎ coded_ℕ (coded× coded_ℕ coded_ℕ))) encoded
    (λ xs. first_tree (decoded xs)) decoded-encoded
