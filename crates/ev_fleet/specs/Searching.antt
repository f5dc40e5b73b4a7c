-- A search between two nodes, and what becomes of it with the next one.
use Rattle.std.specs.Prelude.{◌≡◌, ◌⊎◌, ℕ, ◌*◌, ◌<◌, ◌≤◌, List, [], ◌∷◌, ◌++◌, Option, Some, IfSome, length, option_map}
use Rattle.std.specs.List.{All}
use Rattle.customer_sets.specs.Pairs.{any_pair}
use Rattle.ev_model.specs.Fleet.{cost_of}
use Rattle.ev_model.specs.Network.{Network}
use Rattle.ev_model.specs.declared.Stop.{Stop}
use Rattle.instance_reader.specs.Instance.{customer_nodes}
use Rattle.route_plan.specs.declared.plan.FleetPlan.{FleetPlan}
use Rattle.bound_certificate.specs.Meaning.{priced_section}
use Rattle.bound_certificate.specs.Ranges.{customer_count}
use Rattle.bound_certificate.specs.declared.certificate.Root.{Root}
use Rattle.bound_certificate.specs.declared.certificate.Section.{Section}
use Rattle.branching.specs.Nodes.{node_at, IsLeastBound, IsNext, IsOpen}
use Rattle.branching.specs.SearchTree.{HasPairs, IsRoot, IsSearchTree, SearchTree, with_node}
use Rattle.branching.specs.declared.node.Node.{Node}
use Rattle.column_pool.specs.Bounds.{IsNodeBound}
use Rattle.route_pool.specs.Pool.{IsPool}
use Rattle.ev_fleet.specs.Answers.{answer_of, shares_in}
use Rattle.ev_fleet.specs.Bounds.{HasSection, IsAtMost, IsBoundOf}
use Rattle.ev_fleet.specs.Held.{MayHold, cost_at}
use Rattle.ev_fleet.specs.Outcome.{IsOutcome, LeavesGap}
use Rattle.ev_fleet.specs.Plans.{AreOwnRoutes}
use Rattle.ev_fleet.specs.Splitting.{IsSettled, taken_of}
use Rattle.ev_fleet.specs.State.{IsSearch, greater_of}
use Rattle.ev_fleet.specs.Whole.{IsNoDearer, TakesShares}
use Rattle.ev_fleet.specs.declared.held.Held.{Held}
use Rattle.ev_fleet.specs.declared.outcome.Outcome.{Outcome}
use Rattle.ev_fleet.specs.declared.state.FleetSearch.{FleetSearch}
use Rattle.ev_fleet.specs.declared.taking.TakenNode.{TakenNode}

-- the plan that is held
abbrev pub plan_at : Option Held → Option FleetPlan
plan_at held = option_map (λ (h : Held). h.plan) held

-- there is a cost, and it is no more than that of feasible plans for each customer alone, whichever these are
abbrev pub IsOwnCost : Network → Option ℕ → Type 0
IsOwnCost g cost =
    (k : ℕ) (owns : List (List Stop)) → AreOwnRoutes g k (customer_nodes g) owns →
    (c : ℕ) × (cost ≡ Some c) × (k * c ≤ cost_of g k owns)

-- the open node of least bound was taken, and this is what it was
pub record IsTakenNext (old : SearchTree) (t : TakenNode) (new : SearchTree) : Type 0 where
  pub node : Node
  pub next : IsNext old.nodes t.key node
  pub made : new ≡ with_node old t.key (taken_of node)
  pub pairs : t.pairs ≡ node.pairs
  pub among : t.pairs.customers ≡ old.customers
  pub section : t.section ≡ node.section
  pub bound : t.bound ≡ node.bound

-- the section with the greater bound: the one that was found, or the one that the node names; and that bound
abbrev pub greater_at : List Section → Option ℕ → Node → ℕ × Option ℕ
greater_at sections own node = greater_of (length sections) own node.section node.bound

-- the next node was taken, its section was found and put behind the others, and the node was closed or split
pub record IsAdvanced (g : Network) (old new : FleetSearch) (r : Root) : Type 0 where
  pub key : ℕ
  pub node : Node
  pub section : Section
  pub own : Option ℕ
  pub next : IsNext old.tree.nodes key node
  pub found : IsNodeBound g node.pairs (answer_of section r)
  pub bound : IsBoundOf (priced_section section) own
  pub sections : new.sections.items ≡ old.sections.items ++ section ∷ []
  pub cheaper : IsAtMost (cost_at new.held) (cost_at old.held)
  pub held : MayHold g new.held
  pub taken : TakesShares g (shares_in r) (cost_at new.held)
  pub pool : IsPool g new.pool
  pub settled : IsSettled (with_node old.tree key (taken_of node)) key
      (greater_at old.sections.items own node).0 (greater_at old.sections.items own node).1
      (cost_at new.held) new.tree

-- between two nodes
pub record IsSearching (g : Network) (s : FleetSearch) : Type 0 where
  pub search : IsSearch g s.tree s.sections.items (cost_at s.held)
  pub whole : All (IsNoDearer g (cost_at s.held)) s.sections.items
  pub held : MayHold g s.held
  pub own : IsOwnCost g (cost_at s.held)
  pub pool : IsPool g s.pool

-- before the first node
pub record IsFirst (g : Network) (s : FleetSearch) : Type 0 where
  pub root : IsRoot (customer_count g) s.tree
  pub none : s.sections.items ≡ []
  pub held : MayHold g s.held
  pub own : IsOwnCost g (cost_at s.held)
  pub pool : IsPool g s.pool

-- the section has no forbidden pair, and the root shows its bound
abbrev pub IsShownBy : Network → Root → Section → Type 0
IsShownBy g r s =
    HasPairs (customer_count g) any_pair s.pairs × IsNodeBound g s.pairs (answer_of s r)

-- the root shows the bound of the first section
abbrev pub ShowsRoot : Network → List Section → Root → Type 0
ShowsRoot g sections r = HasSection sections 0 (IsShownBy g r)

-- behind the first node
pub record IsBegun (g : Network) (s : FleetSearch) (r : Root) : Type 0 where
  pub searching : IsSearching g s
  pub root : ShowsRoot g s.sections.items r
  pub taken : TakesShares g (shares_in r) (cost_at s.held)
  pub one : length s.sections.items ≡ 1

-- one section more
abbrev pub HasOneMore : List Section → List Section → Type 0
HasOneMore old new = (s : Section) × (new ≡ old ++ s ∷ [])

-- some live node has a bound below the cost, or no plan is held
pub record IsPromising (tree : SearchTree) (cost : Option ℕ) : Type 0 where
  pub sound : IsSearchTree tree
  pub bound : ℕ
  pub least : IsLeastBound tree.nodes bound
  pub below : LeavesGap cost (Some bound)

-- no open node has a bound below the cost
abbrev pub IsDone : List (Option Node) → Option ℕ → Type 0
IsDone nodes cost =
    (key : ℕ) (node : Node) → node_at nodes key ≡ Some node → IsOpen node →
    IsAtMost cost (Some node.bound)

-- so many nodes are within the budget
abbrev pub IsWithin : Option ℕ → ℕ → Type 0
IsWithin budget nodes = IfSome budget (λ most. nodes ≤ most)

-- another node is within the budget
abbrev pub IsFurtherWithin : Option ℕ → ℕ → Type 0
IsFurtherWithin budget nodes = IfSome budget (λ most. nodes < most)

-- the budget has no room for another node
abbrev pub IsUsedUp : Option ℕ → ℕ → Type 0
IsUsedUp budget nodes = (most : ℕ) × (budget ≡ Some most) × (most ≤ nodes)

-- the budget is used up, or no open node has a bound below the cost
abbrev pub MayEnd : Option ℕ → FleetSearch → Type 0
MayEnd budget s =
    IsUsedUp budget (length s.sections.items) ⊎ IsDone s.tree.nodes (cost_at s.held)

-- whatever the budget was with which the search has ended
abbrev pub IsOutcomeOf : Network → FleetSearch → Outcome → Type 0
IsOutcomeOf g s o =
    (budget : Option ℕ) → IsWithin budget (length s.sections.items) → MayEnd budget s →
    IsOutcome g budget o
