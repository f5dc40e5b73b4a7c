-- A certificate is accepted exactly where none of its rules is broken.
use Rattle.std.proofs.Common.{◌≡◌, ◌≢◌, ◌∙◌, ℕ, zero, suc, ◌*◌, ◌<◌, ◌≤◌, Bool, true, false, List, [], ◌∷◌, Option, Some, None, Result, Ok, Err, length, get_or, slice_get, refl, sym, ap, subst, arith, ◌⊎◌, inl, inr}
use Rattle.std.specs.List.{All}
use Rattle.std.specs.Prelude.{is_some, ℤ, pos, ◌+ℤ◌, ◌*ℤ◌}
use Rattle.std.proofs.lemmas.Bool.{cases_Bool, cases_eq, false≢true}
use Rattle.std.proofs.lemmas.Int.{ints}
use Rattle.std.proofs.lemmas.List.Elements.{All-cons, All-head, All-nil, All-tail}
use Rattle.std.proofs.lemmas.Option.{none-some, same_Some, slice_get-get_or}
use Rattle.customer_sets.specs.Pairs.{any_pair, forbid, require}
use Rattle.ev_model.specs.Feasible.{IsFeasible}
use Rattle.ev_model.specs.Network.{Network}
use Rattle.ev_model.specs.declared.Stop.{Stop}
use Rattle.fleet_model.specs.ClosedList.{IsClosed}
use Rattle.fleet_model.specs.Cover.{cost_of_shares, IsFleetRoute, Share as RouteShare, shares_of}
use Rattle.fleet_model.specs.Prices.{price_total}
use Rattle.fleet_model.specs.Section.{Section as PricedSection, ShowsNoPlan}
use Rattle.fleet_model.specs.Tree.{IsBoundedBy}
use Rattle.fleet_model.proofs.Bounds.{cases_less}
use Rattle.fleet_model.proofs.Rules.{closed_by_rules}
use Rattle.plan_check.specs.FirstFaults.{first_stray}
use Rattle.route_plan.specs.FirstPlaces.{behind_first}
use Rattle.route_plan.specs.Walking.{walk_along}
use Rattle.route_plan.specs.declared.plan.RoutePlan.{RoutePlan}
use Rattle.route_plan.specs.declared.walks.Walk.{Walk}
use Rattle.route_plan.specs.declared.walks.WalkFault.{WalkFault}
use Rattle.route_plan.proofs.Feasibly.{walked_is_feasible}
use Rattle.route_plan.proofs.Walked.{feasible_is_walked}
use Rattle.bound_certificate.specs.Meaning.{priced_section, priced_sections, route_shares}
use Rattle.bound_certificate.specs.Ranges.{customer_count as count_customers, Fits, LineFits, RootFits, ShareFits}
use Rattle.bound_certificate.specs.declared.certificate.Certificate.{Certificate}
use Rattle.bound_certificate.specs.declared.certificate.Root.{Root}
use Rattle.bound_certificate.specs.declared.certificate.Root.TheVariants as root
use Rattle.bound_certificate.specs.declared.certificate.Section.{Section}
use Rattle.bound_certificate.specs.declared.certificate.Share.{Share}
use Rattle.bound_certificate.specs.declared.certificate.TreeLine.{TreeLine}
use Rattle.bound_certificate.specs.declared.certificate.TreeLine.TheVariants.{Leaf, Split}
use Rattle.certificate_check.specs.Accepted.{IsAccepted, IsRootOf, IsSectionAt, RootHolds}
use Rattle.certificate_check.specs.Firsts.{AllHold, LeafHolds, leaves_along}
use Rattle.certificate_check.specs.Leaves.{TreeLeaf}
use Rattle.certificate_check.specs.Routes.{served_once}
use Rattle.certificate_check.specs.Rules.{AllowsEach, at_bound, at_pairs, at_root, CertificateFault, in_section, IsBroken, IsKindBroken, NamesAt}
use Rattle.certificate_check.specs.Truth.{IsSettled}
use Rattle.certificate_check.proofs.Along.{leaves_are, leaves_hold_where_under}
use Rattle.certificate_check.proofs.FleetRoutes.{none_where_none_found, once_from, some_where_found, twice_is_none}
use Rattle.plan_check.proofs.Feasible.{not_only_with_stray, only_without_stray}
use Rattle.certificate_check.proofs.Truths.{at_number}
use Rattle.certificate_check.proofs.Verdicts.{accepted, no_bound, no_pairs, no_section}

abbrev RouteOf : Network → RouteShare → Type 0
RouteOf g x = IsFleetRoute g 1 x.plan

abbrev PlanRoute : Network → RoutePlan → Type 0
PlanRoute g p = IsFleetRoute g 1 p.stops

-- ---- an accepted certificate breaks no rule

no_root : (g : Network) (s : PricedSection) (r : Root) → RootHolds g s r → IsKindBroken g s r → ⊥
no_root g s root.None holds broken = broken holds
no_root g s (root.Exact over shares) holds (inl share) = share.3 (at_number (RouteOf g) (route_shares shares) share.0 share.1 holds.cover.routes share.2)
no_root g s (root.Exact over shares) holds (inr (inl uneven)) = uneven.3 (holds.cover.covers uneven.0 uneven.1 uneven.2)
no_root g s (root.Exact over shares) holds (inr (inr (inl none))) = let some = holds.some_weight in omega (arith, none, some)
no_root g s (root.Exact over shares) holds (inr (inr (inr other))) = other holds.cost
no_root g s (root.Wide columns basis) holds (inl column) = column.3 (at_number (PlanRoute g) columns column.0 column.1 holds.routes column.2)
no_root g s (root.Wide columns basis) holds (inr narrow) = narrow holds.wide

pub none_where_accepted : (g : Network) (c : Certificate) → IsAccepted g c → (fault : CertificateFault) → IsBroken g c fault → ⊥
none_where_accepted g c is (in_section n f) broken = no_section g c (λ m t at. at_number (IsClosed g) (priced_sections c.sections) m t is.sections at) n f broken
none_where_accepted g c is (at_pairs n) broken = no_pairs g c n (holds g c is n) broken
  where
    holds : (g : Network) (c : Certificate) → IsAccepted g c → (n : ℕ) (l : TreeLeaf) → slice_get (leaves_along (any_pair ∷ []) c.tree) n ≡ Some l → LeafHolds (priced_sections c.sections) c.bound l
    holds g c is n l at =
        leaves_hold_where_under (priced_sections c.sections) c.bound is.leaves.0 any_pair is.leaves.2 n l (ap (λ ls. slice_get ls n) (sym (leaves_are c.tree is.leaves.0 is.leaves.1)) ∙ at)
none_where_accepted g c is (at_bound n) broken = no_bound g c n (holds g c is n) broken
  where
    holds : (g : Network) (c : Certificate) → IsAccepted g c → (n : ℕ) (l : TreeLeaf) → slice_get (leaves_along (any_pair ∷ []) c.tree) n ≡ Some l → LeafHolds (priced_sections c.sections) c.bound l
    holds g c is n l at =
        leaves_hold_where_under (priced_sections c.sections) c.bound is.leaves.0 any_pair is.leaves.2 n l (ap (λ ls. slice_get ls n) (sym (leaves_are c.tree is.leaves.0 is.leaves.1)) ∙ at)
none_where_accepted g c is at_root broken =
    let s = broken.0 in
    let holds = subst (λ (t : PricedSection). IsRootOf g t c.root) (same_Some is.root.0 s (sym is.root.1 ∙ broken.1)) is.root.2 in
    elim broken.2 [
      | inl some ↦ some holds.all
      | inr kind ↦ no_root g s c.root holds.holds kind
    ]

-- ---- what is decided

unless : (P : Type 0) → P ⊎ (P → ⊥) → ((P → ⊥) → ⊥) → P
unless P (inl is) none = is
unless P (inr other) none = absurd (none other)

allowed_unless : (b : Bool) → (b ≡ false → ⊥) → b ≡ true
allowed_unless true none = refl
allowed_unless false none = absurd (none refl)

no_plan_or_not : (s : PricedSection) → ShowsNoPlan s ⊎ (ShowsNoPlan s → ⊥)
no_plan_or_not s = elim (cases_eq s.weight 0) [
  | inl none ↦ elim (cases_less (pos 0) (price_total s.prices)) [
    | inl more ↦ inl (none, more)
    | inr fine ↦ inr (λ shows. let more = shows.1 in omega (arith, ints, more, fine))
  ]
  | inr some ↦ inr (λ shows. some shows.0)
]

bounded_or_not : (s : PricedSection) (bound : Option ℕ) → IsBoundedBy s bound ⊎ (IsBoundedBy s bound → ⊥)
bounded_or_not s None = no_plan_or_not s
bounded_or_not s (Some b) = elim (cases_less (pos (b * s.weight)) (price_total s.prices +ℤ pos s.weight)) [
  | inl less ↦ inl (inl less)
  | inr more ↦ elim (cases_eq s.weight 0) [
    | inl none ↦ elim (cases_eq b 0) [
      | inl zero_bound ↦ inl (inr (none, zero_bound))
      | inr some ↦ inr (λ at_most. elim at_most [
        | inl less ↦ omega (arith, ints, less, more)
        | inr both ↦ some both.1
      ])
    ]
    | inr some ↦ inr (λ at_most. elim at_most [
      | inl less ↦ omega (arith, ints, less, more)
      | inr both ↦ some both.0
    ])
  ]
]

same_unless : (p q : ℤ) → (p ≢ q → ⊥) → p ≡ q
same_unless p q none = elim (cases_less p q) [
  | inl less ↦ absurd (none (λ same. omega (arith, ints, less, same)))
  | inr more ↦ elim (cases_less q p) [
    | inl less ↦ absurd (none (λ same. omega (arith, ints, less, same)))
    | inr fine ↦ omega (arith, ints, more, fine)
  ]
]

feasible_or_not : (g : Network) (stops : List Stop) (answer : Result Walk WalkFault) → walk_along g g.capacity stops ≡ answer → IsFeasible g 1 g.capacity stops ⊎ (IsFeasible g 1 g.capacity stops → ⊥)
feasible_or_not g stops (Ok w) is = inl (walked_is_feasible g g.capacity stops w is).0
feasible_or_not g stops (Err reason) is = inr (λ feasible. let well = feasible_is_walked g g.capacity stops feasible in cc)

route_found : (g : Network) (stops : List Stop) → IsFeasible g 1 g.capacity stops → (found : Option (List ℕ)) → served_once g [] stops ≡ found → IsFleetRoute g 1 stops ⊎ (IsFleetRoute g 1 stops → ⊥)
route_found g stops feasible None is = inr (twice_is_none g stops is)
route_found g stops feasible (Some []) is = inr (λ route. route.some (none_where_none_found g stops [] is refl))
route_found g stops feasible (Some (c ∷ cs)) is = elim (cases_Bool (is_some (first_stray g 1 (behind_first stops)))) [
  | inl astray ↦ inr (λ route. not_only_with_stray g stops feasible astray route.only)
  | inr none ↦ inl (record {
    feasible = feasible;
    some = some_where_found g stops (c ∷ cs) is (λ empty. let no : c ∷ cs ≡ [] = empty in cc);
    only = only_without_stray g stops feasible none;
    once = (once_from g [] stops (c ∷ cs) is).once;
  })
]

route_or_not : (g : Network) (stops : List Stop) → IsFleetRoute g 1 stops ⊎ (IsFleetRoute g 1 stops → ⊥)
route_or_not g stops = elim (feasible_or_not g stops (walk_along g g.capacity stops) refl) [
  | inl feasible ↦ route_found g stops feasible (served_once g [] stops) refl
  | inr other ↦ inr (λ route. other route.feasible)
]

all_from : {X : Type 0} (P : X → Type 0) (xs : List X) → ((n : ℕ) (x : X) → slice_get xs n ≡ Some x → P x) → All P xs
all_from P xs each k d within = each k (get_or xs k d) (slice_get-get_or xs k d within)

-- ---- a certificate that breaks no rule is accepted

sections_exist : (customers count : ℕ) (lines : List TreeLine) (stack : List (ℕ → ℕ → Bool)) → All (LineFits customers count) lines → AllHold (λ (l : TreeLeaf). l.section < count) (leaves_along stack lines)
sections_exist customers count lines [] fit n l at = absurd (none-some l at)
sections_exist customers count [] (allows ∷ stack) fit n l at = absurd (none-some l at)
sections_exist customers count (Leaf k ∷ lines) (allows ∷ stack) fit zero l at =
    subst (λ (m : TreeLeaf). m.section < count) (same_Some (record { section = k; allows = allows }) l at) (All-head (LineFits customers count) (Leaf k) lines fit)
sections_exist customers count (Leaf k ∷ lines) (allows ∷ stack) fit (suc n) l at = sections_exist customers count lines stack (All-tail (LineFits customers count) (Leaf k) lines fit) n l at
sections_exist customers count (Split i j ∷ lines) (allows ∷ stack) fit n l at =
    sections_exist customers count lines (forbid i j allows ∷ require i j allows ∷ stack) (All-tail (LineFits customers count) (Split i j) lines fit) n l at

section_at : (ss : List Section) (n : ℕ) → n < length ss → (s : PricedSection) × (slice_get (priced_sections ss) n ≡ Some s)
section_at [] n less = absurd (omega (arith, less))
section_at (s ∷ ss) zero less = (priced_section s, refl)
section_at (s ∷ ss) (suc n) less = section_at ss n (omega (arith, less))

module _ (g : Network) (c : Certificate) (fits : Fits g c) (none : (fault : CertificateFault) → IsBroken g c fault → ⊥) where
  leaves_hold : AllHold (LeafHolds (priced_sections c.sections) c.bound) (leaves_along (any_pair ∷ []) c.tree)
  leaves_hold n l at =
      let s = section_at c.sections l.section (sections_exist (count_customers g) (length c.sections) c.tree (any_pair ∷ []) fits.lines n l at) in
      (s.0, s.1, record { pairs = pairs n l s.0 at s.1; bounded = bounded n l s.0 at s.1 })
    where
      names : (n : ℕ) (l : TreeLeaf) (s : PricedSection) → slice_get (leaves_along (any_pair ∷ []) c.tree) n ≡ Some l → IsSectionAt c l.section s → NamesAt c n l s
      names n l s at there = record {
        leaf = (fits.whole.0, fits.whole.1, ap (λ ls. slice_get ls n) (sym (leaves_are c.tree fits.whole.0 fits.whole.1)) ∙ at);
        section = there;
      }

      pairs : (n : ℕ) (l : TreeLeaf) (s : PricedSection) → slice_get (leaves_along (any_pair ∷ []) c.tree) n ≡ Some l → IsSectionAt c l.section s → AllowsEach l.allows s
      pairs n l s at there a b allowed = allowed_unless (s.allows a b) (λ no. none (at_pairs n) (l, s, names n l s at there, λ each. false≢true (sym no ∙ each a b allowed)))

      bounded : (n : ℕ) (l : TreeLeaf) (s : PricedSection) → slice_get (leaves_along (any_pair ∷ []) c.tree) n ≡ Some l → IsSectionAt c l.section s → IsBoundedBy s c.bound
      bounded n l s at there = unless (IsBoundedBy s c.bound) (bounded_or_not s c.bound) (λ no. none (at_bound n) (l, s, names n l s at there, no))

  kind_holds : (s : PricedSection) (r : Root) → (IsKindBroken g s r → ⊥) → RootFits (count_customers g) r → IsSettled g r → RootHolds g s r
  kind_holds s root.None unbroken fit settled = unless (ShowsNoPlan s) (no_plan_or_not s) unbroken
  kind_holds s (root.Exact over shares) unbroken fit settled = record {
    cover = record {
      some_weight = fit.over_weight.some;
      some_share = some_shares shares fit.each;
      routes = all_from (RouteOf g) (route_shares shares) (λ n x at. unless (RouteOf g x) (route_or_not g x.plan) (λ no. unbroken (inl (n, x, at, no))));
      covers = λ node known customer. even node (λ no. unbroken (inr (inl (node, known, customer, no))));
    };
    some_weight = let some : s.weight ≢ 0 = λ no. unbroken (inr (inr (inl no))) in omega (arith, some);
    cost = same_unless (pos (cost_of_shares g 1 (route_shares shares) * s.weight)) (price_total s.prices *ℤ pos over) (λ no. unbroken (inr (inr (inr no))));
  }
    where
      even : (node : ℕ) → (shares_of g (route_shares shares) node ≢ over → ⊥) → shares_of g (route_shares shares) node ≡ over
      even node differs = elim (cases_eq (shares_of g (route_shares shares) node) over) [
        | inl same ↦ same
        | inr other ↦ absurd (differs other)
      ]

      some_shares : (xs : List Share) → All ShareFits xs → All (λ (x : RouteShare). 1 ≤ x.share) (route_shares xs)
      some_shares [] each = All-nil (λ (x : RouteShare). 1 ≤ x.share)
      some_shares (x ∷ xs) each =
          All-cons (λ (y : RouteShare). 1 ≤ y.share) (record { share = x.share; plan = x.plan.stops }) (route_shares xs) (All-head ShareFits x xs each).share.some (some_shares xs (All-tail ShareFits x xs each))
  kind_holds s (root.Wide columns basis) unbroken fit (inl wide) = record {
    routes = all_from (PlanRoute g) columns (λ n p at. unless (PlanRoute g p) (route_or_not g p.stops) (λ no. unbroken (inl (n, p, at, no))));
    wide = wide;
  }
  kind_holds s (root.Wide columns basis) unbroken fit (inr narrow) = absurd (unbroken (inr narrow))

  pub accepted_unless : IsSettled g c.root → IsAccepted g c
  accepted_unless settled =
      let s = section_at c.sections 0 fits.some in
      accepted g c fits s.0 (λ m t at. (closed_by_rules g t).1 (λ f is. none (in_section m f) (t, at, is))) leaves_hold s.1 (record {
        all = λ a b. allowed_unless (s.0.allows a b) (λ no. none at_root (s.0, s.1, inl (λ all. false≢true (sym no ∙ all a b))));
        holds = kind_holds s.0 c.root (λ is. none at_root (s.0, s.1, inr is)) fits.root_fits settled;
      })
