-- Nodes by key after one is written.
use Rattle.std.proofs.Common.{◌≡◌, ◌≢◌, ◌∙◌, ℕ, ◌<◌, List, length, set, arith, Option, Some, None, sym, ap, subst}
use Rattle.std.proofs.lemmas.Option.{none-some}
use Rattle.std.proofs.lemmas.List.{get_or-set_other, get_or-set_same, get_or_past}
use Rattle.branching.specs.Nodes.{node_at}
use Rattle.branching.specs.declared.node.Node.{Node}

pub node_within : (nodes : List (Option Node)) (key : ℕ) (node : Node) → node_at nodes key ≡ Some node → key < length nodes
node_within nodes key node here = grind (arith, here, get_or_past)

pub node_set : (nodes : List (Option Node)) (key : ℕ) (old new : Node) → node_at nodes key ≡ Some old → node_at (set nodes key (Some new)) key ≡ Some new
node_set nodes key old new here = get_or-set_same nodes key (Some new) None (node_within nodes key old here)

pub node_kept : (nodes : List (Option Node)) (key other : ℕ) (new : Node) → other ≢ key → node_at (set nodes key (Some new)) other ≡ node_at nodes other
node_kept nodes key other new apart = get_or-set_other nodes key other (Some new) None apart

-- a second child was added to the nodes, and the first takes the place of the node
module _ (nodes before added : List (Option Node)) (key other : ℕ) (node one two : Node) (same : before ≡ nodes) (here : node_at before key ≡ Some node)
    (free : node_at before other ≡ None) (there : node_at added other ≡ Some two) (kept : (k : ℕ) → k ≢ other → node_at added k ≡ node_at before k) where
  pub split_here : node_at nodes key ≡ Some node
  split_here = subst (λ xs. node_at xs key ≡ Some node) same here

  pub split_free : node_at nodes other ≡ None
  split_free = subst (λ xs. node_at xs other ≡ None) same free

  apart : key ≢ other
  apart e = none-some node (sym free ∙ subst (λ k. node_at before k ≡ Some node) e here)

  pub split_still : node_at added key ≡ Some node
  split_still = kept key apart ∙ here

  pub split_added : (k : ℕ) → k ≢ other → node_at added k ≡ node_at nodes k
  split_added k fresh = kept k fresh ∙ ap (λ xs. node_at xs k) same

  pub split_first : node_at (set added key (Some one)) key ≡ Some one
  split_first = node_set added key node one split_still

  pub split_second : node_at (set added key (Some one)) other ≡ Some two
  split_second = node_kept added key other one (λ e. apart (sym e)) ∙ there

  pub split_others : (k : ℕ) → k ≢ key → k ≢ other → node_at (set added key (Some one)) k ≡ node_at nodes k
  split_others k away fresh = node_kept added key k one away ∙ split_added k fresh
