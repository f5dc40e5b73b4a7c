-- A search that ends with no open node of a bound below the cost has a bound that is the cost.
use Rattle.std.proofs.Common.{◌≡◌, ℕ, List, [], Option, Some, None, refl, ap, subst, arith}
use Rattle.std.specs.Prelude.{◌≢◌}
use Rattle.std.proofs.lemmas.List.Elements.{All-contains}
use Rattle.customer_sets.specs.Pairs.{any_pair}
use Rattle.ev_model.specs.Fleet.{IsFleetPlan, cost_of}
use Rattle.ev_model.specs.Network.{Network}
use Rattle.ev_model.specs.declared.Stop.{Stop}
use Rattle.bound_certificate.specs.declared.certificate.Section.{Section}
use Rattle.branching.specs.Nodes.{node_at}
use Rattle.branching.specs.SearchTree.{SearchTree}
use Rattle.branching.specs.declared.node.Node.{Node}
use Rattle.branching.specs.declared.node.NodeState.{NodeState}
use Rattle.branching.specs.declared.node.NodeState.TheVariants.{Open, Taken, Closed}
use Rattle.certificate_check.specs.Truth.{IsTrueBound}
use Rattle.ev_fleet.specs.Bounds.{IsAtMost, IsNotBelow}
use Rattle.ev_fleet.specs.Outcome.{LeavesGap}
use Rattle.ev_fleet.specs.Searched.{SearchedTree, names_of}
use Rattle.ev_fleet.specs.Standing.{IsLeastOf}
use Rattle.ev_fleet.specs.State.{IsSearchAt, IsStateWell, named}
use Rattle.ev_fleet.proofs.Bounds.{most_both}
use Rattle.ev_fleet.proofs.SearchEnds.{names_each, one_bound}

-- a plan costs no less than a true bound
pub true_bound : (g : Network) (bound : Option ℕ) (plans : List (List Stop)) → IsTrueBound g bound → IsFleetPlan g 1 plans → IsAtMost bound (Some (cost_of g 1 plans))
true_bound g None plans truth fleet = absurd (truth 1 plans fleet)
true_bound g (Some bound) plans truth fleet = let le = truth 1 plans fleet in omega (arith, le)

-- a cost that is another than the bound, though it isn't below it, leaves a gap
pub gap_left : (cost bound : Option ℕ) → IsAtMost bound cost → cost ≢ bound → LeavesGap cost bound
gap_left None None below other = other refl
gap_left None (Some bound) below other = tt
gap_left (Some cost) None below other = absurd below
gap_left (Some cost) (Some bound) below other = let ne : cost ≢ bound = λ e. other (ap Some e) in omega (arith, below, ne)

pub gap_is_other : (cost bound : Option ℕ) → LeavesGap cost bound → cost ≡ bound → ⊥
gap_is_other None None gap same = gap
gap_is_other None (Some bound) gap same = cc
gap_is_other (Some cost) None gap same = gap
gap_is_other (Some cost) (Some bound) gap same = grind (arith, gap, same)

costly_by_state : (sections : List Section) (cost : Option ℕ) (floor : ℕ) (above : List ℕ) (own : Option ℕ) (name bound : ℕ) (state : NodeState)
    → (state ≡ Open → IsAtMost cost (Some bound)) → IsStateWell sections cost floor above own name bound state → IsNotBelow sections cost name
costly_by_state sections cost floor above own name bound Open done well = (Some bound, well.names.own, done refl)
costly_by_state sections cost floor above own name bound Taken done well = absurd well
costly_by_state sections cost floor above own name bound Closed done well = (well.bound, well.names.own, well.costly)

module _ (n : ℕ) (tree : SearchTree) (sections : List Section) (cost bound : Option ℕ) (floor : ℕ) (t : SearchedTree)
    (is : IsSearchAt n tree sections cost floor t) (least : IsLeastOf sections (names_of (named tree.nodes t)) bound)
    (done : (key : ℕ) (o : Node) → node_at tree.nodes key ≡ Some o → o.state ≡ Open → IsAtMost cost (Some o.bound)) where
  pub cost_below : IsAtMost cost bound
  cost_below =
      let all = names_each (IsNotBelow sections cost) tree.nodes sections cost floor
      (λ above own key node at well. costly_by_state sections cost floor above own node.section node.bound node.state (done key node at) well) any_pair [] t is.leaves in
      let low = All-contains (IsNotBelow sections cost) (names_of (named tree.nodes t)) least.some.0 all least.some.1 in
      subst (λ b. IsAtMost cost b) (one_bound sections least.some.0 low.0 bound low.1 least.some.2) low.2

  pub cost_is_bound : IsAtMost bound cost → cost ≡ bound
  cost_is_bound below = most_both cost bound cost_below below
