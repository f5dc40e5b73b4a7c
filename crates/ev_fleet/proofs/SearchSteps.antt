-- What holds of a search after a step.
use Rattle.std.proofs.Common.{◌≡◌, ◌∙◌, ℕ, ◌+◌, ◌≤◌, IfSome, List, [], ◌∷◌, ◌++◌, length, Option, Some, None, inl, inr, sym, ap, subst, arith}
use Rattle.std.specs.List.{All}
use Rattle.std.proofs.lemmas.List.{length_push}
use Rattle.ev_model.specs.Network.{Network}
use Rattle.bound_certificate.specs.Meaning.{priced_section}
use Rattle.bound_certificate.specs.Ranges.{customer_count}
use Rattle.bound_certificate.specs.declared.certificate.Root.{Root}
use Rattle.bound_certificate.specs.declared.certificate.Section.{Section}
use Rattle.branching.specs.Nodes.{node_at, IsLive, IsOpen, NoneIsOpen}
use Rattle.branching.specs.SearchTree.{SearchTree, with_node}
use Rattle.branching.specs.declared.node.Node.{Node}
use Rattle.column_pool.specs.Bounds.{IsNodeBound}
use Rattle.route_pool.specs.Pool.{IsPool}
use Rattle.ev_fleet.specs.Answers.{answer_of, shares_in}
use Rattle.ev_fleet.specs.Bounds.{IsAtMost, IsBoundOf}
use Rattle.ev_fleet.specs.Held.{MayHold, cost_at}
use Rattle.ev_fleet.specs.Searching.{HasOneMore, IsAdvanced, IsFurtherWithin, IsPromising, IsSearching, IsShownBy, IsTakenNext, IsWithin, ShowsRoot, greater_at}
use Rattle.ev_fleet.specs.Splitting.{IsSettled, taken_of}
use Rattle.ev_fleet.specs.State.{IsSearch, greater_of}
use Rattle.ev_fleet.specs.Whole.{IsNoDearer, TakesShares}
use Rattle.ev_fleet.specs.declared.state.FleetSearch.{FleetSearch}
use Rattle.ev_fleet.specs.declared.taking.TakenNode.{TakenNode}
use Rattle.ev_fleet.proofs.Bounds.{most_most}
use Rattle.ev_fleet.proofs.Found.{found_of, node_section}
use Rattle.ev_fleet.proofs.OwnCosts.{own_lower}
use Rattle.ev_fleet.proofs.PromisingNodes.{gap_below}
use Rattle.ev_fleet.proofs.Sections.{section-more}
use Rattle.ev_fleet.proofs.Steps.{settled_step}
use Rattle.ev_fleet.proofs.Taken.{live_is_open}
use Rattle.ev_fleet.proofs.Whole.{no_dearer, whole_more}

module _ (g : Network) (tree : SearchTree) (sections : List Section) (cost : Option ℕ) (is : IsSearch g tree sections cost) (promising : IsPromising tree cost) where
  waits : (key : ℕ) (node : Node) → node_at tree.nodes key ≡ Some node → IsLive node → IsOpen node
  waits = live_is_open (customer_count g) tree sections cost is.floor is.standing promising.sound is.is

  pub some_open : NoneIsOpen tree.nodes → ⊥
  some_open none =
      let some = promising.least.some in
      let has = some.1 in
      none some.0 (record { node = has.node; here = has.here; is = waits some.0 has.node has.here has.is.0 })

-- what was found at the node
pub no_dearer_by : (g : Network) (old new : FleetSearch) (r : Root) (advanced : IsAdvanced g old new r) → IsNoDearer g (cost_at new.held) advanced.section
no_dearer_by g old new r advanced =
    let own = (node_section g advanced.node.pairs advanced.section r advanced.found).pairs in
    no_dearer g (cost_at new.held) advanced.section r (subst (λ p. IsNodeBound g p (answer_of advanced.section r)) (sym own) advanced.found) advanced.taken

pub advanced_search : (g : Network) (old new : FleetSearch) (r : Root) → IsSearching g old → IsPromising old.tree (cost_at old.held) → IsAdvanced g old new r → IsSearching g new
advanced_search g old new r searching promising advanced =
    let some = promising.least.some in
    let has = some.1 in
    let waiting : IsOpen has.node = waits g old.tree old.sections.items (cost_at old.held) searching.search promising some.0 has.node has.here has.is.0 in
    let least : advanced.node.bound ≤ has.node.bound = elim (advanced.next.least some.0 has.node has.here waiting) [
      | inl less ↦ omega (arith, less)
      | inr same ↦ let e = same.0 in omega (arith, e)
    ] in
    let low : advanced.node.bound ≤ promising.bound = subst (λ b. advanced.node.bound ≤ b) has.is.1 least in
    let first : IsAtMost (Some advanced.node.bound) (Some promising.bound) = low in
    let below : IsAtMost (Some advanced.node.bound) (cost_at old.held) = most_most (Some advanced.node.bound) (Some promising.bound) (cost_at old.held) first (gap_below (cost_at old.held) promising.bound promising.below) in
    let section = node_section g advanced.node.pairs advanced.section r advanced.found in
    let found = found_of g advanced.node.pairs advanced.section r advanced.found in
    let search : IsSearch g new.tree (old.sections.items ++ advanced.section ∷ []) (cost_at new.held) =
    settled_step g old.tree old.sections.items (cost_at old.held) (cost_at new.held) promising.sound searching.search advanced.key advanced.node advanced.next advanced.cheaper below
    advanced.section section.pairs found advanced.own advanced.bound new.tree advanced.settled in
    record {
      search = subst (λ xs. IsSearch g new.tree xs (cost_at new.held)) (sym advanced.sections) search;
      whole = subst (λ xs. All (IsNoDearer g (cost_at new.held)) xs) (sym advanced.sections)
          (whole_more g old.sections.items advanced.section (cost_at old.held) (cost_at new.held) advanced.cheaper searching.whole (no_dearer_by g old new r advanced));
      held = advanced.held;
      own = own_lower g (cost_at old.held) (cost_at new.held) searching.own advanced.cheaper;
      pool = advanced.pool;
    }

pub one_more : (g : Network) (old new : FleetSearch) (r : Root) → IsAdvanced g old new r → HasOneMore old.sections.items new.sections.items
one_more g old new r advanced = (advanced.section, advanced.sections)

pub root_more : (g : Network) (old new : List Section) (r : Root) → HasOneMore old new → ShowsRoot g old r → ShowsRoot g new r
root_more g old new r one shows =
    subst (λ xs. ShowsRoot g xs r) (sym one.1) (section-more old one.0 0 (IsShownBy g r) shows)

-- the parts of a step make it up
pub advanced_by : (g : Network) (old new : FleetSearch) (taken : SearchTree) (t : TakenNode) (r : Root) (s : Section) (own : Option ℕ) (greater : ℕ × Option ℕ)
    → IsTakenNext old.tree t taken → IsNodeBound g t.pairs (answer_of s r) → IsBoundOf (priced_section s) own
    → new.sections.items ≡ old.sections.items ++ s ∷ [] → IsAtMost (cost_at new.held) (cost_at old.held) → MayHold g new.held → TakesShares g (shares_in r) (cost_at new.held) → IsPool g new.pool
    → greater ≡ greater_of (length old.sections.items) own t.section t.bound → IsSettled taken t.key greater.0 greater.1 (cost_at new.held) new.tree → IsAdvanced g old new r
advanced_by g old new taken t r s own greater next found bounds sections cheaper held taken_ pool is_greater settled =
    let node = next.node in
    let count = length old.sections.items in
    let at_tree : IsSettled (with_node old.tree t.key (taken_of node)) t.key greater.0 greater.1 (cost_at new.held) new.tree =
    subst (λ (x : SearchTree). IsSettled x t.key greater.0 greater.1 (cost_at new.held) new.tree) next.made settled in
    let of_node : greater ≡ greater_at old.sections.items own node =
    is_greater ∙ ap (λ n. greater_of count own n t.bound) next.section ∙ ap (λ b. greater_of count own node.section b) next.bound in
    record {
      key = t.key;
      node = node;
      section = s;
      own = own;
      next = next.next;
      found = subst (λ p. IsNodeBound g p (answer_of s r)) next.pairs found;
      bound = bounds;
      sections = sections;
      cheaper = cheaper;
      held = held;
      taken = taken_;
      pool = pool;
      settled = subst (λ (x : ℕ × Option ℕ). IsSettled (with_node old.tree t.key (taken_of node)) t.key x.0 x.1 (cost_at new.held) new.tree) of_node at_tree;
    }

pub within_more : (budget : Option ℕ) (old new : List Section) → HasOneMore old new → IsFurtherWithin budget (length old) → IsWithin budget (length new)
within_more None old new one further = tt
within_more (Some most) old new one further =
    let long : length new ≡ length old + 1 = ap length one.1 ∙ length_push old one.0 in
    omega (arith, long, further)

pub within_first : (budget : Option ℕ) (nodes : ℕ) → nodes ≡ 1 → IfSome budget (λ most. 1 ≤ most) → IsWithin budget nodes
within_first None nodes one some = tt
within_first (Some most) nodes one some = omega (arith, one, some)
