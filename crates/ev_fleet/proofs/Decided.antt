-- Where a node can't be split, its pairs are decided, and the plan that is held costs no more than its bound.
use Rattle.std.proofs.Common.{◌≡◌, ◌∙◌, ℕ, Option, Some, None, inl, inr, sym, ap, subst}
use Rattle.std.specs.Prelude.{nat_lt}
use Rattle.std.proofs.lemmas.Bool.{cases_Bool, cases_lt, false≢true, lt-ltb}
use Rattle.customer_sets.specs.Pairs.{ForbiddenPairs, IsDecided, allows_of}
use Rattle.ev_model.specs.Fleet.{cost_of}
use Rattle.ev_model.specs.Network.{Network}
use Rattle.bound_certificate.specs.Meaning.{priced_section}
use Rattle.bound_certificate.specs.declared.certificate.Root.{Root}
use Rattle.bound_certificate.specs.declared.certificate.Root.TheVariants as root
use Rattle.bound_certificate.specs.declared.certificate.Section.{Section}
use Rattle.branching.specs.Nodes.{node_at}
use Rattle.branching.specs.SearchTree.{IsBranchPair, SearchTree}
use Rattle.branching.specs.declared.node.Node.{Node}
use Rattle.column_pool.specs.Bounds.{IsBoundOfDecided, IsNodeBound, plans_of}
use Rattle.ev_fleet.specs.Answers.{answer_of, shares_in}
use Rattle.ev_fleet.specs.Bounds.{IsAtMost, IsBoundOf}
use Rattle.ev_fleet.specs.Searching.{IsTakenNext}
use Rattle.ev_fleet.specs.Splitting.{CannotSplit, taken_of}
use Rattle.ev_fleet.specs.State.{greater_of}
use Rattle.ev_fleet.specs.Whole.{ReachesCost, TakesShares}
use Rattle.branching.proofs.Elements.{node_set}
use Rattle.ev_fleet.proofs.Bounds.{most_most, most_same}
use Rattle.ev_fleet.specs.declared.taking.TakenNode.{TakenNode}
use Rattle.ev_fleet.proofs.Numbers.{bound_is_one}
use Rattle.ev_fleet.proofs.Whole.{plan_reaches}

decided_by : (p : ForbiddenPairs) → ((i j : ℕ) → IsBranchPair p.customers (allows_of p) i j → ⊥) → IsDecided p
decided_by p none i some within j more less apart allowed narrows =
    none i j (record { first = (some, within); second = (more, less); apart = apart; allowed = allowed; narrows = narrows })

pub decided_node : (tree : SearchTree) (key : ℕ) (node : Node) (p : ForbiddenPairs) → node_at tree.nodes key ≡ Some node → p ≡ node.pairs → p.customers ≡ tree.customers
    → CannotSplit tree key → IsDecided p
decided_node tree key node p here same among cannot =
    let all : (i j : ℕ) → IsBranchPair tree.customers (allows_of p) i j → ⊥ = subst (λ q. (i j : ℕ) → IsBranchPair tree.customers (allows_of q) i j → ⊥) (sym same) (cannot node here) in
    decided_by p (subst (λ n. (i j : ℕ) → IsBranchPair n (allows_of p) i j → ⊥) (sym among) all)

pub reaches_cost : (g : Network) (p : ForbiddenPairs) (s : Section) (r : Root) (cost : Option ℕ) → IsNodeBound g p (answer_of s r) → IsBoundOfDecided g p (answer_of s r)
    → TakesShares g (shares_in r) cost → ReachesCost cost s
reaches_cost g p s root.None cost is decided takes own bounds =
    let none : IsBoundOf (priced_section s) None = is.none in
    subst (λ b. IsAtMost cost b) (bound_is_one (priced_section s) None own none bounds) tt
reaches_cost g p s (root.Exact over shares) cost is decided takes own bounds =
    plan_reaches s (cost_of g 1 (plans_of shares)) cost is.exact.some_weight decided.cost (takes decided.fleet) own bounds
reaches_cost g p s (root.Wide columns basis) cost is decided takes own bounds = absurd decided

greater_is_above_own : (number name bound : ℕ) (own : Option ℕ) → IsAtMost own (greater_of number own name bound).1
greater_is_above_own number name bound None = tt
greater_is_above_own number name bound (Some own) = elim (cases_Bool (nat_lt bound own)) [
  | inl less ↦ rw less (most_same (Some own))
  | inr miss ↦ elim (cases_lt bound own) [
    | inl lt ↦ absurd (false≢true (sym miss ∙ lt-ltb bound own lt))
    | inr le ↦ rw miss le
  ]
]

-- what is reached by the bound of the section, is by the greater one
pub top_reaches : (number name bound : ℕ) (own cost : Option ℕ) (s : Section) → ReachesCost cost s → IsBoundOf (priced_section s) own → IsAtMost cost (greater_of number own name bound).1
top_reaches number name bound own cost s reaches bounds = most_most cost own (greater_of number own name bound).1 (reaches own bounds) (greater_is_above_own number name bound own)

pub taken_at : (old new : SearchTree) (t : TakenNode) (next : IsTakenNext old t new) → node_at new.nodes t.key ≡ Some (taken_of next.node)
taken_at old new t next =
    ap (λ (x : SearchTree). node_at x.nodes t.key) next.made ∙ node_set old.nodes t.key next.node (taken_of next.node) next.next.here

pub decided_taken : (old new : SearchTree) (t : TakenNode) → IsTakenNext old t new → CannotSplit new t.key → IsDecided t.pairs
decided_taken old new t next cannot =
    let many : new.customers ≡ old.customers = ap (λ (x : SearchTree). x.customers) next.made in
    decided_node new t.key (taken_of next.node) t.pairs (taken_at old new t next) next.pairs (next.among ∙ sym many) cannot
