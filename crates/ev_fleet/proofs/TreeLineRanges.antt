-- The lines of the tree of a search are in the ranges of a certificate.
use Rattle.std.proofs.Common.{ℕ, ◌<◌, Bool, List, [], ◌∷◌, ◌++◌, length, Option}
use Rattle.std.specs.List.{All}
use Rattle.std.proofs.lemmas.List.Elements.{All-append, All-cons, All-head, All-nil}
use Rattle.std.proofs.lemmas.Option.{slice_get_within}
use Rattle.customer_sets.specs.Pairs.{forbid, require}
use Rattle.bound_certificate.specs.Ranges.{LineFits}
use Rattle.bound_certificate.specs.Trees.{lines_of}
use Rattle.bound_certificate.specs.declared.certificate.Section.{Section}
use Rattle.bound_certificate.specs.declared.certificate.TreeLine.TheVariants.{Split, Leaf}
use Rattle.ev_fleet.specs.Bounds.{IsNotBelow}
use Rattle.ev_fleet.specs.Searched.{EachNode, SearchedTree, branches_of, fork, names_of, tip}
use Rattle.ev_fleet.specs.Standing.{IsSplitWell}
use Rattle.ev_fleet.proofs.Halves.{all_left, all_right}

pub lines_fit : (n : ℕ) (sections : List Section) (bound : Option ℕ) (allows : ℕ → ℕ → Bool) (above : List ℕ) (t : SearchedTree) → EachNode (λ a b x. IsSplitWell n a x) allows above t
    → All (IsNotBelow sections bound) (names_of t) → All (LineFits n (length sections)) (lines_of (branches_of t))
lines_fit n sections bound allows above (tip own name) splits low =
    let has = All-head (IsNotBelow sections bound) name [] low in
    let within : name < length sections = slice_get_within sections name has.1.section has.1.here in
    All-cons (LineFits n (length sections)) (Leaf name) [] within (All-nil (LineFits n (length sections)))
lines_fit n sections bound allows above (fork own i j apart together) splits low =
    let pair = splits.0 in
    let here : LineFits n (length sections) (Split i j) = (pair.first, pair.second, pair.apart) in
    All-cons (LineFits n (length sections)) (Split i j) (lines_of (branches_of apart) ++ lines_of (branches_of together)) here
    (All-append (LineFits n (length sections)) (lines_of (branches_of apart)) (lines_of (branches_of together))
    (lines_fit n sections bound (forbid i j allows) (own ∷ above) apart splits.1.0 (all_left (IsNotBelow sections bound) (names_of apart) (names_of together) low))
    (lines_fit n sections bound (require i j allows) (own ∷ above) together splits.1.1 (all_right (IsNotBelow sections bound) (names_of apart) (names_of together) low)))
