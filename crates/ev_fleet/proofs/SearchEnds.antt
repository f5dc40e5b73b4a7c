-- What holds of the certificate of a search at its end.
use Rattle.std.proofs.Common.{◌≡◌, ◌∙◌, ℕ, Bool, List, [], ◌∷◌, Option, Some, None, sym, ap, subst}
use Rattle.std.specs.List.{All}
use Rattle.std.proofs.lemmas.List.Elements.{All-append, All-cons, All-contains, All-nil}
use Rattle.std.proofs.lemmas.Option.{same_Some}
use Rattle.customer_sets.specs.Pairs.{any_pair, forbid, require}
use Rattle.bound_certificate.specs.Meaning.{IsTreeOf, priced_section}
use Rattle.bound_certificate.specs.declared.certificate.Certificate.{Certificate}
use Rattle.bound_certificate.specs.declared.certificate.Section.{Section}
use Rattle.branching.specs.Nodes.{node_at}
use Rattle.branching.specs.SearchTree.{IsSearchTree, IsTreeUnder, SearchTree, section_in, sections_named}
use Rattle.branching.specs.declared.node.Node.{Node}
use Rattle.branching.specs.declared.node.NodeState.{NodeState}
use Rattle.branching.specs.declared.node.NodeState.TheVariants.{Open, Taken, Closed}
use Rattle.ev_fleet.specs.Bounds.{HasBound, IsAtMost, IsBoundOf, IsNotBelow}
use Rattle.ev_fleet.specs.Searched.{EachNode, SearchedTree, branches_of, fork, names_of, own_of, tip}
use Rattle.ev_fleet.specs.Standing.{AreStanding, HasOwnPairs, IsLeastOf, IsReached, IsSplitWell, NamesGreatest}
use Rattle.ev_fleet.specs.State.{IsLeafWell, IsNodeWell, IsSearchAt, IsStateWell, named}
use Rattle.ev_fleet.proofs.Bounds.{most_most}
use Rattle.ev_fleet.proofs.Leaves.{splits_each}
use Rattle.ev_fleet.proofs.Named.{branches-named, each_named, names_greatest, own-named, times-named}
use Rattle.ev_fleet.proofs.Numbers.{bound_is_one}

pub one_bound : (sections : List Section) (number : ℕ) (b c : Option ℕ) → HasBound sections number b → HasBound sections number c → b ≡ c
one_bound sections number b c first second =
    let same : second.section ≡ first.section = same_Some second.section first.section (sym second.here ∙ first.here) in
    bound_is_one (priced_section first.section) b c first.is (subst (λ x. IsBoundOf (priced_section x) c) same second.is)

-- what holds of each name of a leaf
pub names_each : (P : ℕ → Type 0) (nodes : List (Option Node)) (sections : List Section) (cost : Option ℕ) (floor : ℕ)
    → ((above : List ℕ) (own : Option ℕ) (key : ℕ) (node : Node) → node_at nodes key ≡ Some node → IsNodeWell sections cost floor above own node → P node.section)
    → (allows : ℕ → ℕ → Bool) (above : List ℕ) (t : SearchedTree) → EachNode (λ a b x. IsLeafWell nodes sections cost floor b x) allows above t → All P (names_of (named nodes t))
names_each P nodes sections cost floor f allows above (tip own key) each =
    let names : section_in (node_at nodes key) ≡ each.node.section = ap section_in each.here in
    All-cons P (section_in (node_at nodes key)) [] (subst P (sym names) (f above own key each.node each.here each.is)) (All-nil P)
names_each P nodes sections cost floor f allows above (fork own i j apart together) each =
    All-append P (names_of (named nodes apart)) (names_of (named nodes together))
    (names_each P nodes sections cost floor f (forbid i j allows) (own ∷ above) apart each.1.0)
    (names_each P nodes sections cost floor f (require i j allows) (own ∷ above) together each.1.1)

pub high_by_state : (sections : List Section) (cost : Option ℕ) (floor : ℕ) (above : List ℕ) (own : Option ℕ) (name bound : ℕ) (state : NodeState)
    → IsStateWell sections cost floor above own name bound state → IsNotBelow sections (Some floor) name
high_by_state sections cost floor above own name bound Open well = (Some bound, well.names.own, well.high)
high_by_state sections cost floor above own name bound Taken well = absurd well
high_by_state sections cost floor above own name bound Closed well = (well.bound, well.names.own, well.high)

reached_bound : (sections : List Section) (low high : Option ℕ) (above : List ℕ) (own : Option ℕ) → IsAtMost low high → IsReached sections low above own → IsReached sections high above own
reached_bound sections low high above None most is = tt
reached_bound sections low high [] (Some own) most is = tt
reached_bound sections low high (parent ∷ above) (Some own) most is = (is.0, is.1, (is.2.0, is.2.1, most_most is.2.0 low high is.2.2 most))

module _ (n : ℕ) (tree : SearchTree) (c : Certificate) (cost : Option ℕ) (floor : ℕ) (t : SearchedTree) (sound : IsSearchTree tree) (among : tree.customers ≡ n)
    (is : IsSearchAt n tree c.sections cost floor t) (lines : IsTreeOf c.tree (sections_named tree.nodes tree.tree)) (least : IsLeastOf c.sections (names_of (named tree.nodes t)) c.bound) where
  -- the floor is not above the bound
  floor_below : IsAtMost (Some floor) c.bound
  floor_below =
      let all = names_each (IsNotBelow c.sections (Some floor)) tree.nodes c.sections cost floor (λ above own key node at well. high_by_state c.sections cost floor above own node.section node.bound node.state well) any_pair [] t is.leaves in
      let low = All-contains (IsNotBelow c.sections (Some floor)) (names_of (named tree.nodes t)) least.some.0 all least.some.1 in
      subst (λ b. IsAtMost (Some floor) b) (one_bound c.sections least.some.0 low.0 c.bound low.1 least.some.2) low.2

  branches : branches_of (named tree.nodes t) ≡ sections_named tree.nodes tree.tree
  branches = branches-named tree.nodes t ∙ ap (sections_named tree.nodes) is.keys

  under : IsTreeUnder n tree.nodes any_pair (branches_of t)
  under =
      let own_tree : IsTreeUnder tree.customers tree.nodes any_pair (branches_of t) = subst (λ b. IsTreeUnder tree.customers tree.nodes any_pair b) (sym is.keys) sound.under in
      subst (λ m. IsTreeUnder m tree.nodes any_pair (branches_of t)) among own_tree

  pairs_named : (allows : ℕ → ℕ → Bool) (above : List ℕ) (x : SearchedTree) → HasOwnPairs n c.sections allows (own_of x) → HasOwnPairs n c.sections allows (own_of (named tree.nodes x))
  pairs_named allows above x has = subst (λ o. HasOwnPairs n c.sections allows o) (sym (own-named tree.nodes x)) has

  splits_named : (allows : ℕ → ℕ → Bool) (above : List ℕ) (x : SearchedTree) → IsSplitWell n allows x → IsSplitWell n allows (named tree.nodes x)
  splits_named allows above (tip own key) has = tt
  splits_named allows above (fork own i j apart together) has = has

  reached_named : (allows : ℕ → ℕ → Bool) (above : List ℕ) (x : SearchedTree) → IsReached c.sections (Some floor) above (own_of x) → IsReached c.sections c.bound above (own_of (named tree.nodes x))
  reached_named allows above x has =
      subst (λ o. IsReached c.sections c.bound above o) (sym (own-named tree.nodes x)) (reached_bound c.sections (Some floor) c.bound above (own_of x) floor_below has)

  pub standing : AreStanding n c (named tree.nodes t)
  standing = record {
    lines = subst (λ b. IsTreeOf c.tree b) (sym branches) lines;
    root = own-named tree.nodes t ∙ is.root;
    once = λ number. times-named number tree.nodes t ∙ is.once number;
    pairs = each_named (λ a b x. HasOwnPairs n c.sections a (own_of x)) (λ a b x. HasOwnPairs n c.sections a (own_of x)) tree.nodes pairs_named any_pair [] t is.pairs;
    splits = each_named (λ a b x. IsSplitWell n a x) (λ a b x. IsSplitWell n a x) tree.nodes splits_named any_pair [] t (splits_each n tree.nodes any_pair [] t under);
    reached = each_named (λ a b x. IsReached c.sections (Some floor) b (own_of x)) (λ a b x. IsReached c.sections c.bound b (own_of x)) tree.nodes reached_named any_pair [] t is.reached;
    leaves = each_named (λ a b x. IsLeafWell tree.nodes c.sections cost floor b x) (λ a b x. NamesGreatest c.sections b x) tree.nodes
        (λ a b x. names_greatest tree.nodes c.sections cost floor b x) any_pair [] t is.leaves;
    bound = least;
  }
