-- The tree of keys with the sections of its nodes as names.
use Rattle.std.proofs.Common.{◌≡◌, ℕ, Bool, List, ◌∷◌, Option, Some, refl, sym, ap, subst}
use Rattle.customer_sets.specs.Pairs.{forbid, require}
use Rattle.bound_certificate.specs.declared.certificate.Section.{Section}
use Rattle.branching.specs.Nodes.{node_at}
use Rattle.branching.specs.SearchTree.{section_in, sections_named}
use Rattle.branching.specs.declared.node.Node.{Node}
use Rattle.branching.specs.declared.node.NodeState.{NodeState}
use Rattle.branching.specs.declared.node.NodeState.TheVariants.{Open, Taken, Closed}
use Rattle.ev_fleet.specs.Searched.{EachNode, SearchedTree, branches_of, fork, own_of, times_at, tip}
use Rattle.ev_fleet.specs.Standing.{IsGreatestOf, NamesGreatest, on_the_way}
use Rattle.ev_fleet.specs.State.{IsGreatestAt, IsLeafWell, IsStateWell, named}
use Rattle.ev_fleet.proofs.Nodes.{Said}

pub branches-named : (nodes : List (Option Node)) (t : SearchedTree) → branches_of (named nodes t) ≡ sections_named nodes (branches_of t)
branches-named nodes (tip own key) = refl
branches-named nodes (fork own i j apart together) = rw (branches-named nodes apart, branches-named nodes together) refl

pub times-named : (number : ℕ) (nodes : List (Option Node)) (t : SearchedTree) → times_at number (named nodes t) ≡ times_at number t
times-named number nodes (tip own key) = refl
times-named number nodes (fork own i j apart together) = rw (times-named number nodes apart, times-named number nodes together) refl

pub own-named : (nodes : List (Option Node)) (t : SearchedTree) → own_of (named nodes t) ≡ own_of t
own-named nodes (tip own key) = refl
own-named nodes (fork own i j apart together) = refl

pub each_named : (P Q : Said) (nodes : List (Option Node)) → ((allows : ℕ → ℕ → Bool) (above : List ℕ) (t : SearchedTree) → P allows above t → Q allows above (named nodes t))
    → (allows : ℕ → ℕ → Bool) (above : List ℕ) (t : SearchedTree) → EachNode P allows above t → EachNode Q allows above (named nodes t)
each_named P Q nodes f allows above (tip own key) each = f allows above (tip own key) each
each_named P Q nodes f allows above (fork own i j apart together) each = (
  f allows above (fork own i j apart together) each.0,
  (
    each_named P Q nodes f (forbid i j allows) (own ∷ above) apart each.1.0,
    each_named P Q nodes f (require i j allows) (own ∷ above) together each.1.1,
  ),
)

greatest_of : (sections : List Section) (numbers : List ℕ) (name : ℕ) (bound : Option ℕ) → IsGreatestAt sections numbers name bound → IsGreatestOf sections numbers name
greatest_of sections numbers name bound is = record {
  among = is.among;
  bound = bound;
  own = is.own;
  greatest = is.greatest;
}

greatest_by_state : (sections : List Section) (cost : Option ℕ) (floor : ℕ) (above : List ℕ) (own : Option ℕ) (name bound : ℕ) (state : NodeState)
    → IsStateWell sections cost floor above own name bound state → IsGreatestOf sections (on_the_way own above) name
greatest_by_state sections cost floor above own name bound Open well =
    subst (λ o. IsGreatestOf sections (on_the_way o above) name) (sym well.bare) (greatest_of sections above name (Some bound) well.names)
greatest_by_state sections cost floor above own name bound Taken well = absurd well
greatest_by_state sections cost floor above own name bound Closed well = greatest_of sections (on_the_way own above) name well.bound well.names

-- each leaf names a section of greatest bound
pub names_greatest : (nodes : List (Option Node)) (sections : List Section) (cost : Option ℕ) (floor : ℕ) (above : List ℕ) (t : SearchedTree)
    → IsLeafWell nodes sections cost floor above t → NamesGreatest sections above (named nodes t)
names_greatest nodes sections cost floor above (tip own key) well =
    let node = well.node in
    let names : section_in (node_at nodes key) ≡ node.section = ap section_in well.here in
    subst (λ x. IsGreatestOf sections (on_the_way own above) x) (sym names)
    (greatest_by_state sections cost floor above own node.section node.bound node.state well.is)
names_greatest nodes sections cost floor above (fork own i j apart together) well = tt
