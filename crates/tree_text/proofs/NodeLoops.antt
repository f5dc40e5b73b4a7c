-- Reading the nodes of a tree, one after another.
use Rattle.std.proofs.Common.{◌≡◌, ◌≢◌, ◌∙◌, inl, inr, ℕ, ◌^◌, ◌<◌, Bool, true, List, [], ◌∷◌, ◌++◌, Ok, Err, length, length-append, map, refl, reverse, sym, ap, ap₂, subst, append_assoc, append-nil, arith}
use Rattle.std.specs.List.{All}
use Rattle.std.proofs.lemmas.List.Elements.{All-cons, All-head, All-nil, All-tail}
use Rattle.ev_model.specs.Network.{IsNetwork, Network}
use Rattle.ev_text.specs.Scans.{rest_of}
use Rattle.instance_reader.proofs.InstanceLemmas.{customers_are_nodes}
use Rattle.certificate_parts.specs.Ranges.{customer_count}
use Rattle.certificate_parts.specs.Refusals.{or_refused}
use Rattle.certificate_parts.specs.declared.cert_text.CertText.{CertText}
use Rattle.certificate_parts.proofs.ItemLoops.{all_more, refused_since}
use Rattle.near_tree.specs.Branches.{Counted}
use Rattle.near_tree.specs.Preorder.{Node, node_of}
use Rattle.near_tree.specs.Ranges.{IsFitTree, NodeFits}
use Rattle.near_tree.specs.Trees.{NearTree}
use Rattle.near_tree.specs.declared.proof.TreeNode.{TreeNode}
use Rattle.near_tree.specs.declared.proof.TreeNode.TheVariants as node
use Rattle.tree_text.specs.Reading.{node_at, nodes_at}
use Rattle.tree_text.specs.Standing.{IsGoodCount, IsWay, StandsAt, all_written, below_node}
use Rattle.tree_text.specs.Ways.{AreOpen, GoesBelow, HasSmallCount, counted_in, opened}
use Rattle.tree_text.specs.TreeIn.{IsKeptNode}
use Rattle.tree_text.specs.TreeTexts.{node_text}
use Rattle.tree_text.specs.Written.{WrittenNode, counted_below, written_node}
use Rattle.tree_text.specs.declared.ways.CountedSet.{CountedSet}
use Rattle.tree_text.proofs.AskedLoops.{IsAskedTo, asked-begins, asked-breaks, asked-ends, asked-goes_on}
use Rattle.tree_text.proofs.Forests.{AllStand, tree_of}
use Rattle.tree_text.proofs.NodeReading.{reads-node, some_bytes}
use Rattle.tree_text.proofs.Counts.{good_count}
use Rattle.tree_text.proofs.Nodes.{all_among, same_below}
use Rattle.tree_text.proofs.OpenWays.{below_opened, has_last, left_first, turned}

map_more : {A B : Type 0} (f : A → B) (items : List A) (item : A) → map f (items ++ item ∷ []) ≡ map f items ++ f item ∷ []
map_more f [] item = refl
map_more f (x ∷ xs) item = ap (λ ys. f x ∷ ys) (map_more f xs item)

pub map_on : {A B : Type 0} (f : A → B) (xs ys : List A) → map f (xs ++ ys) ≡ map f xs ++ map f ys
map_on f [] ys = refl
map_on f (x ∷ xs) ys = ap (λ zs. f x ∷ zs) (map_on f xs ys)

pub all_on : {A : Type 0} (P : A → Type 0) (xs ys : List A) → All P xs → All P ys → All P (xs ++ ys)
all_on P [] ys first second = second
all_on P (x ∷ xs) ys first second = All-cons P x (xs ++ ys) (All-head P x xs first) (all_on P xs ys (All-tail P x xs first) second)

some_are_some : {A : Type 0} (xs : List A) (x : A) → xs ++ x ∷ [] ≡ [] → ⊥
some_are_some [] x none = cc
some_are_some (y ∷ ys) x none = cc

abbrev Ways : Type 0
Ways = List (List CountedSet)

module _ (g : Network) where
  abbrev all : List Bool → Ways → List (List Counted)
  all lasts ways = opened (reverse lasts) (reverse ways)

  -- the nodes so far, and the trees that are still to be read
  pub record AreNodesTo (start : List ℕ × ℕ) (nodes : List TreeNode) (lasts : List Bool) (ways : Ways) (s : List ℕ × ℕ) : Type 0 where
    pub are_open : AreOpen (reverse lasts) (reverse ways)
    pub run : IsAskedTo (node_at g) counted_below (nodes_at g start) (map (written_node g) nodes) (map (all_written g) (all lasts ways)) s
    pub stand : (rest : List Node) → AllStand g (all lasts ways) rest → AllStand g ([] ∷ []) (map node_of nodes ++ rest)
    pub ways_are : All (IsWay g) (all lasts ways)
    pub fit : All (NodeFits g) nodes
    pub kept : All IsKeptNode nodes

  pub nodes-begin : (s : List ℕ × ℕ) (nodes : List TreeNode) (lasts : List Bool) (ways : Ways) → nodes ≡ [] → lasts ≡ true ∷ [] → ways ≡ [] ∷ [] → AreNodesTo s nodes lasts ways s
  nodes-begin s nodes lasts ways none one way =
      let first : reverse lasts ≡ true ∷ [] = ap reverse one in
      let second : reverse ways ≡ [] ∷ [] = ap reverse way in
      let same : all lasts ways ≡ [] ∷ [] = ap₂ opened first second in
      record {
        are_open = rw (first, second) tt;
        run = subst (λ (states : List (List Counted)). IsAskedTo (node_at g) counted_below (nodes_at g s) (map (written_node g) nodes) (map (all_written g) states) s) (sym same)
            (asked-begins (node_at g) counted_below (map (written_node g) nodes) ([] ∷ []) s (ap (λ xs. map (written_node g) xs) none));
        stand = λ rest are. subst (λ (xs : List TreeNode). AllStand g ([] ∷ []) (map node_of xs ++ rest)) (sym none) (subst (λ (states : List (List Counted)). AllStand g states rest) same are);
        ways_are = subst (All (IsWay g)) (sym same) (All-cons (IsWay g) [] [] (record { good = All-nil (IsGoodCount g); few = omega arith }) (All-nil (IsWay g)));
        fit = subst (All (NodeFits g)) (sym none) (All-nil (NodeFits g));
        kept = subst (All IsKeptNode) (sym none) (All-nil IsKeptNode);
      }

  -- the way to the tree that is read next
  pub record HasTop (lasts : List Bool) (last : Bool) (ways : Ways) : Type 0 where
    pub rest : Ways
    pub way : List CountedSet
    pub ends : ways ≡ rest ++ way ∷ []
    pub are_open : AreOpen (last ∷ reverse lasts) (way ∷ reverse rest)
    pub states : all (lasts ++ last ∷ []) ways ≡ counted_in way ∷ opened (reverse lasts) (left_first last (reverse rest) way)

  pub nodes-top : (start s : List ℕ × ℕ) (nodes : List TreeNode) (before lasts : List Bool) (last : Bool) (ways : Ways) → before ≡ lasts ++ last ∷ [] → AreNodesTo start nodes before ways s → HasTop lasts last ways
  nodes-top start s nodes before lasts last ways are so_far = elim (has_last ways) [
    | inl none ↦ absurd (subst (λ (ws : Ways). AreOpen (last ∷ reverse lasts) ws) (ap reverse none) there)
    | inr h ↦
        let second : reverse ways ≡ h.1 ∷ reverse h.0 = ap reverse h.2 ∙ turned h.0 h.1 in
        record {
          rest = h.0;
          way = h.1;
          ends = h.2;
          are_open = subst (λ (ws : Ways). AreOpen (last ∷ reverse lasts) ws) second there;
          states = ap (λ ls. opened ls (reverse ways)) (turned lasts last) ∙ ap (λ ws. opened (last ∷ reverse lasts) ws) second;
        }
  ]
    where
      there : AreOpen (last ∷ reverse lasts) (reverse ways)
      there = subst (λ (ls : List Bool). AreOpen ls (reverse ways)) (ap reverse are ∙ turned lasts last) so_far.are_open

  pub top_is_some : (lasts : List Bool) (last : Bool) (ways : Ways) → HasTop lasts last ways → ways ≢ []
  top_is_some lasts last ways top none = some_are_some top.rest top.way (sym top.ends ∙ none)

  pub top_is_way : (start s : List ℕ × ℕ) (nodes : List TreeNode) (before lasts : List Bool) (last : Bool) (ways : Ways) → before ≡ lasts ++ last ∷ [] → AreNodesTo start nodes before ways s → (top : HasTop lasts last ways) → IsWay g (counted_in top.way)
  top_is_way start s nodes before lasts last ways are so_far top =
      All-head (IsWay g) (counted_in top.way) (opened (reverse lasts) (left_first last (reverse top.rest) top.way))
      (subst (All (IsWay g)) (ap (λ ls. all ls ways) are ∙ top.states) so_far.ways_are)

  pub nodes-break : (start s : List ℕ × ℕ) (nodes : List TreeNode) (before lasts : List Bool) (last : Bool) (ways : Ways) (refusal : CertText) → before ≡ lasts ++ last ∷ [] → AreNodesTo start nodes before ways s
      → (top : HasTop lasts last ways) → or_refused (node_at g (all_written g (counted_in top.way)) s) ≡ Err refusal → or_refused (nodes_at g start) ≡ Err refusal
  nodes-break start s nodes before lasts last ways refusal are so_far top refused =
      let cs = counted_in top.way in
      let later = opened (reverse lasts) (left_first last (reverse top.rest) top.way) in
      let states : all before ways ≡ cs ∷ later = ap (λ ls. all ls ways) are ∙ top.states in
      let run = subst (λ (sts : List (List Counted)). IsAskedTo (node_at g) counted_below (nodes_at g start) (map (written_node g) nodes) (map (all_written g) sts) s) states so_far.run in
      let found = refused_since (node_at g (all_written g cs) s) refusal refused in
      ap or_refused (asked-breaks (node_at g) counted_below (nodes_at g start) (all_written g cs) (map (all_written g) later) s (map (written_node g) nodes) found.0 run found.1) ∙ ap (λ r. Err r) found.2

  pub nodes-break_with : (start s : List ℕ × ℕ) (nodes : List TreeNode) (before lasts : List Bool) (last : Bool) (ways : Ways) (refusal : CertText) → before ≡ lasts ++ last ∷ [] → AreNodesTo start nodes before ways s
      → (top : HasTop lasts last ways) (way : List CountedSet) → way ≡ top.way → or_refused (node_at g (all_written g (counted_in way)) s) ≡ Err refusal → or_refused (nodes_at g start) ≡ Err refusal
  nodes-break_with start s nodes before lasts last ways refusal are so_far top way same refused =
      nodes-break start s nodes before lasts last ways refusal are so_far top (subst (λ (w : List CountedSet). or_refused (node_at g (all_written g (counted_in w)) s) ≡ Err refusal) same refused)

  module _ (network : IsNetwork g) where
    few : customer_count g < 10 ^ 64
    few = let nodes = customers_are_nodes g in omega (arith, nodes, network.few_nodes)

    -- a node leaves less of the text
    pub node_shorter : (written : List Counted) (s t : List ℕ × ℕ) (n : WrittenNode) → node_at g written s ≡ Ok (n, t) → length (rest_of t) < length (rest_of s)
    node_shorter written s t n is =
        let stands = (reads-node g few (omega (arith, network.small_capacity)) (omega (arith, network.small_limit)) written).standing s t n is in
        let some = some_bytes g few (omega (arith, network.small_capacity)) (omega (arith, network.small_limit)) written n stands.0 in
        omega (arith, some, ap (λ (xs : List ℕ). length xs) stands.1, length-append (node_text n) (rest_of t))

    pub nodes-go_on : (start s t : List ℕ × ℕ) (nodes more_nodes : List TreeNode) (n : TreeNode) (before lasts more : List Bool) (last : Bool) (ways more_ways : Ways) → before ≡ lasts ++ last ∷ [] → AreNodesTo start nodes before ways s
        → (top : HasTop lasts last ways) → node_at g (all_written g (counted_in top.way)) s ≡ Ok (written_node g n, t) → StandsAt g (counted_in top.way) (node_of n) → All (IsWay g) (below_node (counted_in top.way) (node_of n)) → NodeFits g n → IsKeptNode n
        → GoesBelow last n top.rest top.way lasts more more_ways → more_nodes ≡ nodes ++ n ∷ [] → AreNodesTo start more_nodes more more_ways t
    nodes-go_on start s t nodes more_nodes n before lasts more last ways more_ways are so_far top found stands below fits kept goes is =
        let cs = counted_in top.way in
        let later = opened (reverse lasts) (left_first last (reverse top.rest) top.way) in
        let next = below_opened last n top.rest top.way lasts more more_ways goes top.are_open in
        let states : all before ways ≡ cs ∷ later = ap (λ ls. all ls ways) are ∙ top.states in
        let way = top_is_way start s nodes before lasts last ways are so_far top in
        let all_ways : All (IsWay g) (cs ∷ later) = subst (All (IsWay g)) states so_far.ways_are in
        let run = subst (λ (sts : List (List Counted)). IsAskedTo (node_at g) counted_below (nodes_at g start) (map (written_node g) nodes) (map (all_written g) sts) s) states so_far.run in
        record {
          are_open = next.0;
          run = asked-goes_on (node_at g) counted_below (nodes_at g start) (all_written g cs) (map (all_written g) later) (map (all_written g) (all more more_ways)) s t (map (written_node g) nodes) (map (written_node g) more_nodes) (written_node g n)
              run found (node_shorter (all_written g cs) s t (written_node g n) found) (ap (λ xs. map (written_node g) xs) is ∙ map_more (written_node g) nodes n)
              (ap (λ sts. map (all_written g) sts) next.1 ∙ map_on (all_written g) (below_node cs (node_of n)) later ∙ ap (λ xs. xs ++ map (all_written g) later) (sym (same_below g cs way n kept stands)));
          stand = λ rest more_stand.
              let one : AllStand g (cs ∷ later) (node_of n ∷ rest) = (stands, subst (λ (sts : List (List Counted)). AllStand g sts rest) next.1 more_stand) in
              let there = so_far.stand (node_of n ∷ rest) (subst (λ (sts : List (List Counted)). AllStand g sts (node_of n ∷ rest)) (sym states) one) in
              subst (AllStand g ([] ∷ [])) (sym (append_assoc (map node_of nodes) (node_of n ∷ []) rest) ∙ ap (λ xs. xs ++ rest) (sym (map_more node_of nodes n) ∙ ap (λ xs. map node_of xs) (sym is))) there;
          ways_are = subst (All (IsWay g)) (sym next.1) (all_on (IsWay g) (below_node cs (node_of n)) later below (All-tail (IsWay g) cs later all_ways));
          fit = all_more (NodeFits g) nodes more_nodes n so_far.fit fits is;
          kept = all_more IsKeptNode nodes more_nodes n so_far.kept kept is;
        }

    nothing_left : (lasts : List Bool) (ways : Ways) → lasts ≡ [] → all lasts ways ≡ []
    nothing_left lasts ways none = ap (λ ls. opened (reverse ls) (reverse ways)) none

    pub nodes-end : (start s : List ℕ × ℕ) (nodes : List TreeNode) (lasts : List Bool) (ways : Ways) → lasts ≡ [] → AreNodesTo start nodes lasts ways s → nodes_at g start ≡ Ok (map (written_node g) nodes, s)
    nodes-end start s nodes lasts ways none so_far =
        asked-ends (node_at g) counted_below (nodes_at g start) (map (all_written g) (all lasts ways)) s (map (written_node g) nodes) (ap (λ sts. map (all_written g) sts) (nothing_left lasts ways none)) so_far.run

    pub nodes-tree : (start s : List ℕ × ℕ) (nodes : List TreeNode) (lasts : List Bool) (ways : Ways) → lasts ≡ [] → AreNodesTo start nodes lasts ways s → (t : NearTree) × IsFitTree g nodes t
    nodes-tree start s nodes lasts ways none so_far =
        let stand = so_far.stand [] (subst (λ (sts : List (List Counted)). AllStand g sts []) (sym (nothing_left lasts ways none)) tt) in
        let tree = tree_of g (map node_of nodes) (subst (AllStand g ([] ∷ [])) (append-nil (map node_of nodes)) stand) in
        (tree.0, record { nodes_are = tree.1; tree = tree.2.0; few = tree.2.1 })

    -- the same with the way as it was found
    pub shorter_with : (way : List CountedSet) (s t : List ℕ × ℕ) (n : TreeNode) → node_at g (all_written g (counted_in way)) s ≡ Ok (written_node g n, t) → length (rest_of t) < length (rest_of s)
    shorter_with way s t n is = node_shorter (all_written g (counted_in way)) s t (written_node g n) is

    pub go_on_with : (start s t : List ℕ × ℕ) (nodes more_nodes : List TreeNode) (n : TreeNode) (before lasts more : List Bool) (last : Bool) (ways more_ways : Ways) → before ≡ lasts ++ last ∷ [] → AreNodesTo start nodes before ways s
        → (top : HasTop lasts last ways) (way : List CountedSet) → way ≡ top.way → node_at g (all_written g (counted_in way)) s ≡ Ok (written_node g n, t) → StandsAt g (counted_in way) (node_of n) → All (IsWay g) (below_node (counted_in way) (node_of n)) → NodeFits g n → IsKeptNode n
        → GoesBelow last n top.rest top.way lasts more more_ways → more_nodes ≡ nodes ++ n ∷ [] → AreNodesTo start more_nodes more more_ways t
    go_on_with start s t nodes more_nodes n before lasts more last ways more_ways are so_far top way same found stands below fits kept goes is =
        nodes-go_on start s t nodes more_nodes n before lasts more last ways more_ways are so_far top
        (subst (λ (w : List CountedSet). node_at g (all_written g (counted_in w)) s ≡ Ok (written_node g n, t)) same found)
        (subst (λ (w : List CountedSet). StandsAt g (counted_in w) (node_of n)) same stands)
        (subst (λ (w : List CountedSet). All (IsWay g) (below_node (counted_in w) (node_of n))) same below) fits kept goes is

    -- a count that stands is that of some customers
    pub small_count : (cs : List Counted) (n : TreeNode) → IsWay g cs → StandsAt g cs (node_of n) → HasSmallCount n
    small_count cs (node.Split before after) way is = tt
    small_count cs (node.Leaf s) way is = tt
    small_count cs (node.Entries most set) way is =
        let range = good_count g cs set way.good (record { rising = is.rising; among = all_among g set is.known }) in
        let small = range.most in
        let less = is.most in
        let nodes = customers_are_nodes g in
        omega (arith, small, less, nodes, network.few_nodes)
