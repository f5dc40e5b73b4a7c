-- What is answered at the end of a search.
use Rattle.std.proofs.Common.{◌≡◌, ℕ, ◌≤◌, Bool, List, [], ◌∷◌, ◌⊎◌, length, Option, Some, None, IfSome, inl, inr, sym, subst, arith}
use Rattle.std.specs.List.{All, Contains}
use Rattle.std.proofs.lemmas.List.Elements.{All-append, All-cons, All-contains, All-map, All-nil, All-weaker, Contains-append_left, Contains-append_right, Contains-push}
use Rattle.customer_sets.specs.Pairs.{any_pair, forbid, require}
use Rattle.ev_model.specs.Network.{Network}
use Rattle.fleet_model.specs.ClosedList.{IsClosed}
use Rattle.fleet_model.specs.Section.{Section as PricedSection}
use Rattle.fleet_model.specs.Strong.{IsStrong}
use Rattle.bound_certificate.specs.Limits.{greatest_bound, most_items}
use Rattle.bound_certificate.specs.Meaning.{IsTreeOf, priced_section, priced_sections}
use Rattle.bound_certificate.specs.Ranges.{Fits, LineFits, RootFits, SectionFits, customer_count}
use Rattle.bound_certificate.specs.declared.certificate.Certificate.{Certificate}
use Rattle.bound_certificate.specs.declared.certificate.Section.{Section}
use Rattle.branching.specs.SearchTree.{IsSearchTree, SearchTree, sections_named}
use Rattle.certificate_check.specs.Accepted.{IsAccepted, IsRootOf, IsSectionAt}
use Rattle.ev_fleet.specs.Bounds.{HasBound, IsNotAbove}
use Rattle.ev_fleet.specs.Searched.{EachNode, SearchedTree, branches_of, fork, names_of, own_of, tip}
use Rattle.ev_fleet.specs.Standing.{AreStanding, IsGreatestOf, IsLeastOf, NamesGreatest, on_the_way}
use Rattle.ev_fleet.specs.State.{IsFound, IsSearchAt, named}
use Rattle.ev_fleet.proofs.SearchEnds.{one_bound, standing}
use Rattle.ev_fleet.proofs.TreeLineRanges.{lines_fit}
use Rattle.ev_fleet.proofs.Under.{AllowsHere, leaves_under}

-- a section on the way to a leaf has a bound not above that of the leaf's section
abbrev pub IsOver : List Section → ℕ → ℕ → Type 0
IsOver sections number name = (bound : Option ℕ) × HasBound sections name bound × IsNotAbove sections bound number

over_leaf : (sections : List Section) (number : ℕ) (own : Option ℕ) (above : List ℕ) (name : ℕ) → (own ≡ Some number) ⊎ Contains above number → IsGreatestOf sections (on_the_way own above) name → IsOver sections number name
over_leaf sections number None above name has greatest = elim has [
  | inl is ↦ absurd (grind (arith, is))
  | inr there ↦ (greatest.bound, greatest.own, All-contains (IsNotAbove sections greatest.bound) above number greatest.greatest there)
]
over_leaf sections number (Some own) above name has greatest =
    let there : Contains (own ∷ above) number = elim has [
      | inl is ↦ let same : own ≡ number = grind (arith, is) in subst (λ x. Contains (own ∷ above) x) same (Contains-append_left (own ∷ []) above own (Contains-push [] own))
      | inr more ↦ Contains-append_right (own ∷ []) above number more
    ] in
    (greatest.bound, greatest.own, All-contains (IsNotAbove sections greatest.bound) (own ∷ above) number greatest.greatest there)

over_each : (sections : List Section) (number : ℕ) (allows : ℕ → ℕ → Bool) (above : List ℕ) (t : SearchedTree) → (own_of t ≡ Some number) ⊎ Contains above number
    → EachNode (λ a b x. NamesGreatest sections b x) allows above t → All (IsOver sections number) (names_of t)
over_each sections number allows above (tip own name) has each = All-cons (IsOver sections number) name [] (over_leaf sections number own above name has each) (All-nil (IsOver sections number))
over_each sections number allows above (fork own i j apart together) has each =
    let there : Contains (own ∷ above) number = elim has [
      | inl is ↦ let same : own ≡ number = grind (arith, is) in subst (λ x. Contains (own ∷ above) x) same (Contains-append_left (own ∷ []) above own (Contains-push [] own))
      | inr more ↦ Contains-append_right (own ∷ []) above number more
    ] in
    All-append (IsOver sections number) (names_of apart) (names_of together)
    (over_each sections number (forbid i j allows) (own ∷ above) apart (inr there) each.1.0)
    (over_each sections number (require i j allows) (own ∷ above) together (inr there) each.1.1)

module _ (g : Network) (tree : SearchTree) (c : Certificate) (cost : Option ℕ) (floor : ℕ) (t : SearchedTree) (sound : IsSearchTree tree) (among : tree.customers ≡ customer_count g)
    (is : IsSearchAt (customer_count g) tree c.sections cost floor t) (found : All (IsFound g) c.sections) (lines : IsTreeOf c.tree (sections_named tree.nodes tree.tree))
    (least : IsLeastOf c.sections (names_of (named tree.nodes t)) c.bound) where
  abbrev pub last : SearchedTree
  last = named tree.nodes t

  stands : AreStanding (customer_count g) c last
  stands = standing (customer_count g) tree c cost floor t sound among is lines least

  pub all_strong : All (IsStrong g) (priced_sections c.sections)
  all_strong = All-map (IsStrong g) priced_section c.sections (All-weaker (IsFound g) (λ s. IsStrong g (priced_section s)) (λ s f. f.strong) c.sections found)

  pub certificate_fits : IfSome c.bound (λ b. b ≤ greatest_bound) → RootFits (customer_count g) c.root → 1 ≤ length c.sections → length c.sections ≤ most_items → Fits g c
  certificate_fits small root some few = record {
    bound = small;
    root_fits = root;
    some = some;
    few = few;
    sections = All-weaker (IsFound g) (SectionFits g) (λ s f. f.fits) c.sections found;
    lines = subst (λ ls. All (LineFits (customer_count g) (length c.sections)) ls) (sym stands.lines)
        (lines_fit (customer_count g) c.sections c.bound any_pair [] last stands.splits stands.bound.each);
    whole = (branches_of last, stands.lines);
  }

  pub certificate_accepted : ((s : PricedSection) × IsSectionAt c 0 s × IsRootOf g s c.root) → IsAccepted g c
  certificate_accepted root = record {
    sections = All-map (IsClosed g) priced_section c.sections (All-weaker (IsFound g) (λ s. IsClosed g (priced_section s)) (λ s f. f.closed) c.sections found);
    leaves = (
      branches_of last,
      stands.lines,
      leaves_under (customer_count g) c.sections c.bound any_pair [] last stands.pairs stands.leaves (All-nil (AllowsHere c.sections any_pair)) stands.bound.each,
    );
    root = root;
  }

  -- the bound is not below that of the first section
  pub bound_at_root : IsNotAbove c.sections c.bound 0
  bound_at_root =
      let all = over_each c.sections 0 any_pair [] last (inl stands.root) stands.leaves in
      let over = All-contains (IsOver c.sections 0) (names_of last) stands.bound.some.0 all stands.bound.some.1 in
      subst (λ b. IsNotAbove c.sections b 0) (one_bound c.sections stands.bound.some.0 over.0 c.bound over.1 stands.bound.some.2) over.2
