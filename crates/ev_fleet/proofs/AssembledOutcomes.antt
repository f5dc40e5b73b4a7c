-- The outcome of a search that has ended.
use Rattle.std.proofs.Common.{◌≡◌, ◌∙◌, ℕ, ◌≤◌, Bool, false, List, [], ◌∷◌, length, map, Option, Some, None, IfSome, inl, inr, refl, sym, ap, subst, arith}
use Rattle.std.specs.Prelude.{◌≢◌, ◌⊎◌, IsTrue}
use Rattle.std.specs.List.{All}
use Rattle.std.proofs.lemmas.Bool.{cases_Bool}
use Rattle.std.proofs.lemmas.List.Elements.{All-cons, All-head, All-nil, All-tail, All-weaker}
use Rattle.std.proofs.lemmas.Option.{none-some, same_Some, slice_get_within}
use Rattle.customer_sets.specs.Pairs.{any_pair}
use Rattle.ev_model.specs.Network.{IsNetwork, Network}
use Rattle.fleet_model.specs.Cover.{IsFleetRoute}
use Rattle.fleet_model.specs.Places.{customer_count as place_count}
use Rattle.fleet_model.specs.Strong.{column_of}
use Rattle.fleet_model.specs.Wide.{IsTooWide}
use Rattle.route_plan.specs.declared.plan.RoutePlan.{RoutePlan}
use Rattle.plan_check.specs.FleetRules.{stops_of}
use Rattle.bound_certificate.specs.Kept.{IsKept}
use Rattle.bound_certificate.specs.Limits.{greatest_bound, most_items}
use Rattle.bound_certificate.specs.Meaning.{IsTreeOf, basis_columns, priced_section, route_columns}
use Rattle.bound_certificate.specs.Ranges.{Fits, RootFits, customer_count}
use Rattle.bound_certificate.specs.Trees.{lines_of}
use Rattle.bound_certificate.specs.declared.certificate.Certificate.{Certificate}
use Rattle.bound_certificate.specs.declared.certificate.Root.{Root}
use Rattle.bound_certificate.specs.declared.certificate.Root.TheVariants as root
use Rattle.bound_certificate.specs.declared.certificate.Section.{Section}
use Rattle.bound_certificate.specs.declared.certificate.TreeLine.{TreeLine}
use Rattle.branching.specs.Nodes.{awaits}
use Rattle.branching.specs.SearchTree.{IsSearchTree, SearchTree, sections_named}
use Rattle.certificate_check.specs.Accepted.{IsAccepted, IsRootOf, IsSectionAt, RootHolds}
use Rattle.certificate_check.specs.Truth.{IsTrueBound}
use Rattle.column_pool.specs.Bounds.{IsNodeBound}
use Rattle.fleet_model.specs.Section.{Section as PricedSection}
use Rattle.ev_fleet.specs.Answers.{answer_of, shares_in}
use Rattle.ev_fleet.specs.Bounds.{IsAtMost, IsNotBelow}
use Rattle.ev_fleet.specs.Held.{MayHold, cost_at}
use Rattle.ev_fleet.specs.LeafNames.{IsLeastFrom, IsSummable, NameSections}
use Rattle.ev_fleet.specs.Outcome.{IsOutcome, IsStoppedWell, LeavesGap, RisesWhereWide}
use Rattle.ev_fleet.specs.Plans.{IsHeld}
use Rattle.ev_fleet.specs.Searched.{branches_of, names_of}
use Rattle.ev_fleet.specs.Searching.{IsDone, IsOwnCost, IsUsedUp, IsWithin, ShowsRoot, plan_at}
use Rattle.ev_fleet.specs.Standing.{IsLeastOf}
use Rattle.ev_fleet.specs.State.{IsFound, IsSearch, named}
use Rattle.ev_fleet.specs.Whole.{IsNoDearer, TakesShares}
use Rattle.ev_fleet.specs.declared.held.Held.{Held}
use Rattle.ev_fleet.specs.declared.outcome.Outcome.{Outcome}
use Rattle.ev_fleet.proofs.ClosedSearches.{cost_is_bound, gap_is_other, gap_left, true_bound}
use Rattle.ev_fleet.proofs.SearchEnds.{high_by_state, names_each, standing}
use Rattle.ev_fleet.proofs.Found.{summable}
use Rattle.ev_fleet.proofs.Least.{least_of_tree, names_sections}
use Rattle.ev_fleet.proofs.Named.{branches-named}
use Rattle.ev_fleet.proofs.Outcomes.{all_strong, bound_at_root, certificate_accepted, certificate_fits}
use Rattle.ev_fleet.proofs.OwnCosts.{cost_of_held, own_plan}
use Rattle.ev_fleet.proofs.Under.{get_priced}
use Rattle.instance_reader.specs.Instance.{most_customers}

-- the tree of sections is that of the lines
named_lines : (g : Network) (tree : SearchTree) (sections : List Section) (cost : Option ℕ) (is : IsSearch g tree sections cost) → branches_of (named tree.nodes is.standing) ≡ sections_named tree.nodes tree.tree
named_lines g tree sections cost is = branches-named tree.nodes is.standing ∙ ap (sections_named tree.nodes) is.is.keys

-- what a walk over the lines needs
pub sums : (g : Network) (tree : SearchTree) (sections : List Section) (cost : Option ℕ) → customer_count g ≤ most_customers → IsSearch g tree sections cost → All IsSummable sections
sums g tree sections cost few is = All-weaker (IsFound g) IsSummable (λ s found. summable g s few found) sections is.found

pub names : (g : Network) (tree : SearchTree) (sections : List Section) (cost : Option ℕ) (lines : List TreeLine) → IsSearch g tree sections cost → IsTreeOf lines (sections_named tree.nodes tree.tree)
    → NameSections sections lines
names g tree sections cost lines is lines_ =
    let same : lines ≡ lines_of (branches_of (named tree.nodes is.standing)) = lines_ ∙ ap lines_of (sym (named_lines g tree sections cost is)) in
    let all = names_each (IsNotBelow sections (Some is.floor)) tree.nodes sections cost is.floor
    (λ above own key node at well. high_by_state sections cost is.floor above own node.section node.bound node.state well) any_pair [] is.standing is.is.leaves in
    names_sections sections (Some is.floor) lines (named tree.nodes is.standing) same all

-- the root of the certificate
root_fits : (g : Network) (s : Section) (r : Root) → IsNodeBound g s.pairs (answer_of s r) → RootFits (customer_count g) r
root_fits g s root.None is = tt
root_fits g s (root.Exact over shares) is = is.fits
root_fits g s (root.Wide columns basis) is = is.fits

plan_routes : (g : Network) (columns : List RoutePlan) → All (IsFleetRoute g 1) (map (λ c. c.stops) columns) → All (λ p. IsFleetRoute g 1 p.stops) columns
plan_routes g [] all = All-nil (λ (p : RoutePlan). IsFleetRoute g 1 p.stops)
plan_routes g (p ∷ columns) all =
    All-cons (λ (p : RoutePlan). IsFleetRoute g 1 p.stops) p columns (All-head (IsFleetRoute g 1) p.stops (map (λ c. c.stops) columns) all)
    (plan_routes g columns (All-tail (IsFleetRoute g 1) p.stops (map (λ c. c.stops) columns) all))

plan_columns : (g : Network) (columns : List RoutePlan) → map (column_of g) (map (λ c. c.stops) columns) ≡ route_columns g columns
plan_columns g [] = refl
plan_columns g (p ∷ columns) = ap (λ cs. column_of g p.stops ∷ cs) (plan_columns g columns)

root_holds : (g : Network) (s : Section) (r : Root) → IsNodeBound g s.pairs (answer_of s r) → RootHolds g (priced_section s) r
root_holds g s root.None is = is.none
root_holds g s (root.Exact over shares) is = is.exact
root_holds g s (root.Wide columns basis) is = record {
  routes = plan_routes g columns is.wide.routes;
  wide = subst (λ cs. IsTooWide (place_count g) cs (basis_columns g columns basis)) (plan_columns g columns) is.wide.too_wide;
}

root_of : (g : Network) (c : Certificate) (r : Root) → ShowsRoot g c.sections r → (s : PricedSection) × IsSectionAt c 0 s × IsRootOf g s r
root_of g c r shows =
    let s = shows.section in (
      priced_section s,
      get_priced c.sections 0 s shows.here,
      record { all = λ a b. shows.is.0.more a b refl; holds = root_holds g s r shows.is.1 },
    )

rises : (g : Network) (sections : List Section) (r : Root) → ShowsRoot g sections r → RisesWhereWide g sections r
rises g sections root.None shows = tt
rises g sections (root.Exact over shares) shows = tt
rises g sections (root.Wide columns basis) shows = record { section = shows.section; here = shows.here; is = (shows.is.1.weight, shows.is.1.prices) }

-- the bound is not above the cost of the plan that is held
below_cost : (g : Network) (bound : Option ℕ) (held : Option Held) → MayHold g held → IsTrueBound g bound → IsAtMost bound (cost_at held)
below_cost g bound None may truth = tt
below_cost g bound (Some h) may truth =
    subst (λ c. IsAtMost bound (Some c)) (sym may.cost) (true_bound g bound (stops_of h.plan.routes) truth may.plan.fleet)

used_up : (budget : Option ℕ) (nodes : ℕ) → IsWithin budget nodes → IsUsedUp budget nodes → budget ≡ Some nodes
used_up None nodes within used = absurd (none-some used.0 used.1)
used_up (Some most) nodes within used =
    let same : most ≡ used.0 = same_Some most used.0 used.1 in
    let le = used.2 in
    ap Some (omega (arith, same, within, le))

module _ (g : Network) (tree : SearchTree) (c : Certificate) (held : Option Held) (few : customer_count g ≤ most_customers) (network : IsNetwork g) (true_ : Fits g c → IsAccepted g c → IsTrueBound g c.bound)
    (is : IsSearch g tree c.sections (cost_at held)) (may : MayHold g held) (own : IsOwnCost g (cost_at held)) (sound : IsSearchTree tree) (shows : ShowsRoot g c.sections c.root)
    (lines : IsTreeOf c.tree (sections_named tree.nodes tree.tree)) (walk : IsLeastFrom c.sections None c.tree c.bound)
    (small : IfSome c.bound (λ b. b ≤ greatest_bound)) (many : length c.sections ≤ most_items)
    (whole : All (IsNoDearer g (cost_at held)) c.sections) (taken : TakesShares g (shares_in c.root) (cost_at held)) where
  least : IsLeastOf c.sections (names_of (named tree.nodes is.standing)) c.bound
  least =
      let same : c.tree ≡ lines_of (branches_of (named tree.nodes is.standing)) = lines ∙ ap lines_of (sym (named_lines g tree c.sections (cost_at held) is)) in
      least_of_tree c.sections c.tree c.bound (named tree.nodes is.standing) same walk

  fits : Fits g c
  fits =
      let some = slice_get_within c.sections 0 shows.section shows.here in
      certificate_fits g tree c (cost_at held) is.floor is.standing sound is.customers is.is is.found lines least small (root_fits g shows.section c.root shows.is.1) (omega (arith, some)) many

  accepted : IsAccepted g c
  accepted = certificate_accepted g tree c (cost_at held) is.floor is.standing sound is.customers is.is is.found lines least (root_of g c c.root shows)

  below : IsAtMost c.bound (cost_at held)
  below = below_cost g c.bound held may (true_ fits accepted)

  module _ (budget : Option ℕ) (stopped : Bool) (other : IsTrue stopped → cost_at held ≢ c.bound) (same : stopped ≡ false → cost_at held ≡ c.bound)
      (within : IsWithin budget (length c.sections)) (ended : IsUsedUp budget (length c.sections) ⊎ IsDone tree.nodes (cost_at held)) where
    gap_left_where_stopped : IsTrue stopped → (budget ≡ Some (length c.sections)) × LeavesGap (cost_at held) c.bound
    gap_left_where_stopped told = elim ended [
      | inl used ↦ (used_up budget (length c.sections) within used, gap_left (cost_at held) c.bound below (other told))
      | inr done ↦
          absurd (other told (cost_is_bound (customer_count g) tree c.sections (cost_at held) c.bound is.floor is.standing is.is least
          (λ key o at open_. done key o at (ap awaits open_)) below))
    ]

    stopped_where_gap : (budget ≡ Some (length c.sections)) × LeavesGap (cost_at held) c.bound → IsTrue stopped
    stopped_where_gap gap = elim (cases_Bool stopped) [
      | inl told ↦ told
      | inr not ↦ absurd (gap_is_other (cost_at held) c.bound gap.1 (same not))
    ]

    abbrev pub answered : Outcome
    answered = record { plan = plan_at held; cost = cost_at held; certificate = c; nodes = length c.sections; stopped = stopped }

    stops : IsStoppedWell budget (cost_at held) c.bound answered
    stops = record {
      stopped = (gap_left_where_stopped, stopped_where_gap);
      closed = same;
      within = within;
    }

    held_plan : (h : Option Held) → MayHold g h → IfSome (plan_at h) (IsHeld g)
    held_plan None m = tt
    held_plan (Some h) m = m.plan

    pub is_outcome : All IsKept c.sections → IsOutcome g budget answered
    is_outcome kept = record {
      network = network;
      fits = fits;
      kept = kept;
      accepted = accepted;
      nodes = refl;
      standing = (named tree.nodes is.standing, standing (customer_count g) tree c (cost_at held) is.floor is.standing sound is.customers is.is lines least);
      strong = all_strong g tree c (cost_at held) is.floor is.standing sound is.customers is.is is.found lines least;
      rising = rises g c.sections c.root shows;
      at_root = bound_at_root g tree c (cost_at held) is.floor is.standing sound is.customers is.is is.found lines least;
      plan = held_plan held may;
      cost = sym (cost_of_held g held may);
      own = own_plan g held may own;
      at_shares = subst (λ x. TakesShares g (shares_in c.root) x) (sym (cost_of_held g held may)) taken;
      whole = subst (λ x. All (IsNoDearer g x) c.sections) (sym (cost_of_held g held may)) whole;
      gap = subst (λ x. IsStoppedWell budget x c.bound answered) (sym (cost_of_held g held may)) stops;
    }
