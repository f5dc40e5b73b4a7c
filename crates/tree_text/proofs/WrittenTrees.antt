-- What is written of a tree that fits is in its ranges.
use Rattle.std.proofs.Common.{◌≡◌, ◌≢◌, ◌∙◌, inl, inr, ℕ, suc, ◌+◌, ◌-◌, ◌<◌, ◌≤◌, Bool, true, false, ◌||◌, ◌&&◌, List, [], ◌∷◌, ◌++◌, Some, slice_get, get_or, decimal, length, map, nat_eq, nat_lt, refl, sym, ap, ap₂, subst, append-nil, arith, if◌then◌else◌}
use Rattle.std.specs.List.{All}
use Rattle.std.proofs.lemmas.Bool.{cases_eq, eq-eqb, false≢true, le-leb, lt-ltb, ne_eqb}
use Rattle.std.proofs.lemmas.List.{length-map}
use Rattle.std.proofs.lemmas.List.Elements.{All-cons, All-head, All-nil, All-tail}
use Rattle.customer_sets.specs.CustSet.{has}
use Rattle.ev_model.specs.Network.{IsNetwork, Network}
use Rattle.ev_text.specs.Texts.{AllFrom}
use Rattle.ev_text.proofs.Results.{no_bytes}
use Rattle.fleet_model.proofs.Numbers.{counted}
use Rattle.instance_reader.specs.Instance.{customer_nodes}
use Rattle.certificate_parts.specs.Ranges.{customer_count}
use Rattle.certificate_parts.specs.Reading.{is_customer_node}
use Rattle.certificate_parts.specs.Written.{customer_node, nodes_in}
use Rattle.certificate_parts.proofs.PlaceOrder.{same_by_node}
use Rattle.certificate_parts.proofs.WrittenBasis.{bound_is}
use Rattle.certificate_parts.proofs.WrittenParts.{all_map, customer_is, node_is, or_true, place_is, points_are}
use Rattle.certificate_parts.specs.WrittenRanges.{SetIs}
use Rattle.near_proof.specs.Ranges.{AreAmong}
use Rattle.near_text.specs.Written.{written_set}
use Rattle.near_text.specs.WrittenRanges.{NearSetIs, next_number}
use Rattle.near_tree.specs.Branches.{Counted, count_of, whole}
use Rattle.near_tree.specs.Preorder.{Node, at_entries, at_leaf, at_split, last_of, node_of, nodes_of}
use Rattle.near_tree.specs.Ranges.{IsLastAmong, LastFits, LeafSectionFits, NodeFits, SectionLabelFits, TreeFits, most_counted}
use Rattle.near_tree.specs.Trees.{IsCount, IsSplit}
use Rattle.near_tree.specs.declared.proof.LastServed.{LastServed}
use Rattle.near_tree.specs.declared.proof.LastServed.TheVariants.{Anybody, Customer, Nobody}
use Rattle.near_tree.specs.declared.proof.LeafSection.{LeafSection}
use Rattle.near_tree.specs.declared.proof.SectionLabel.{SectionLabel}
use Rattle.near_tree.specs.declared.proof.TreeNode.{TreeNode}
use Rattle.near_tree.specs.declared.proof.TreeNode.TheVariants as node
use Rattle.near_tree.specs.declared.proof.TreeProof.{TreeProof}
use Rattle.tree_text.specs.Asked.{AllAsked}
use Rattle.tree_text.specs.Reading.{is_between, is_counted}
use Rattle.tree_text.specs.Standing.{IsGoodCount, IsGoodSet, IsWay, all_written, below_node, counting, written_counted}
use Rattle.tree_text.specs.Written.{counted_below, is_station, named_last, narrowed, unwritten, written_last, written_node, written_section, written_section_label, written_tree}
use Rattle.tree_text.specs.WrittenRanges.{LastIs, NodeIs, SectionIs, SectionLabelIs, SomeSetIs, TreeIs}
use Rattle.tree_text.proofs.Counts.{broken_written, good_count, length_anew, told_count}
use Rattle.tree_text.proofs.Forests.{AllStand, tree_stands}
use Rattle.tree_text.proofs.Nodes.{all_among, entries_below, entries_same_below, split_below}
use Rattle.tree_text.proofs.SetLaws.{length_written, written_set_is}

map_on : {A B : Type 0} (f : A → B) (xs ys : List A) → map f (xs ++ ys) ≡ map f xs ++ map f ys
map_on f [] ys = refl
map_on f (x ∷ xs) ys = ap (λ zs. f x ∷ zs) (map_on f xs ys)

all_on : {A : Type 0} (P : A → Type 0) (xs ys : List A) → All P xs → All P ys → All P (xs ++ ys)
all_on P [] ys first second = second
all_on P (x ∷ xs) ys first second = All-cons P x (xs ++ ys) (All-head P x xs first) (all_on P xs ys (All-tail P x xs first) second)

behind_one : (b : Bool) (n x : ℕ) (xs : List ℕ) → has xs x ≡ true → has ((if b then n ∷ [] else []) ++ xs) x ≡ true
behind_one true n x xs is = ap (λ b. nat_eq n x || b) is ∙ or_true (nat_eq n x)
behind_one false n x xs is = is

this_one : (b : Bool) (n : ℕ) (xs : List ℕ) → b ≡ true → has ((if b then n ∷ [] else []) ++ xs) n ≡ true
this_one true n xs is = ap (λ b. b || has xs n) (eq-eqb n n refl)
this_one false n xs is = absurd (false≢true is)

-- the node of a member is listed
listed : (set : List ℕ) (c : ℕ) (ns : List ℕ) (k : ℕ) → has set c ≡ true → k ≤ c → c < k + length ns → has (nodes_in set k ns) (get_or ns (c - k) 0) ≡ true
listed set c [] k is le lt = absurd (omega (arith, le, lt))
listed set c (n ∷ ns) k is le lt = elim (cases_eq c k) [
  | inl same ↦
      let here : has set k ≡ true = subst (λ (x : ℕ). has set x ≡ true) same is in
      let first : c - k ≡ 0 = omega (arith, same) in
      let value : get_or (n ∷ ns) (c - k) 0 ≡ n = ap (λ (i : ℕ). get_or (n ∷ ns) i 0) first in
      subst (λ (x : ℕ). has (nodes_in set k (n ∷ ns)) x ≡ true) (sym value) (this_one (has set k) n (nodes_in set (k + 1) ns) here)
  | inr other ↦
      let later : c - k ≡ suc (c - (k + 1)) = omega (arith, other, le) in
      let value : get_or (n ∷ ns) (c - k) 0 ≡ get_or ns (c - (k + 1)) 0 = ap (λ (i : ℕ). get_or (n ∷ ns) i 0) later in
      subst (λ (x : ℕ). has (nodes_in set k (n ∷ ns)) x ≡ true) (sym value) (behind_one (has set k) n (get_or ns (c - (k + 1)) 0) (nodes_in set (k + 1) ns) (listed set c ns (k + 1) is (omega (arith, other, le)) (omega (arith, lt))))
]

own_listed : (g : Network) (set : List ℕ) (c : ℕ) → c < customer_count g → has set c ≡ true → has (written_set g set) (customer_node g c) ≡ true
own_listed g set c within is =
    let same : c - 0 ≡ c = omega arith in
    subst (λ (k : ℕ). has (written_set g set) (get_or (customer_nodes g) k 0) ≡ true) same (listed set c (customer_nodes g) 0 is (omega arith) (omega (arith, within)))

module _ (g : Network) (network : IsNetwork g) where
  sets_run : (k : ℕ) (sets : List (List ℕ)) → All (AreAmong (customer_count g)) sets → ((c : ℕ) (set : List ℕ) → slice_get sets c ≡ Some set → has set (k + c) ≡ true) → k + length sets ≤ customer_count g → AllFrom (NearSetIs g) next_number k (map (written_set g) sets)
  sets_run k [] among own within = tt
  sets_run k (set ∷ sets) among own within = (
    record {
      set = written_set_is g network set (All-head (AreAmong (customer_count g)) set sets among);
      own = own_listed g set k (omega (arith, within)) (let here : k + 0 ≡ k = omega arith in subst (λ (n : ℕ). has set n ≡ true) here (own 0 set refl));
    },
    sets_run (k + 1) sets (All-tail (AreAmong (customer_count g)) set sets among)
        (λ c other at. let next : k + suc c ≡ k + 1 + c = omega arith in subst (λ (n : ℕ). has other n ≡ true) next (own (suc c) other at)) (omega (arith, within)),
  )

  named_is : (last : LastServed) → IsLastAmong (customer_count g) (last_of last) → LastIs g true (named_last g last)
  named_is Nobody among = (omega arith, refl)
  named_is Anybody among = tt
  named_is (Customer c) among = place_is g network (suc c) (omega (arith, among))

  last_is : (x : ℕ) (last : LastServed) → LastFits g x last → LastIs g (is_station g x) (written_last g x last)
  last_is x last fits = by (is_station g x)
    where
      by : (b : Bool) → LastIs g b (if b then named_last g last else unwritten)
      by true = named_is last fits.known
      by false = tt

  label_is : (l : SectionLabel) → SectionLabelFits g l → SectionLabelIs g (written_section_label g l)
  label_is l fits = record {
    node = node_is g network l.node fits.node;
    last = last_is l.node l.last fits.last;
    memory = written_set_is g network l.memory fits.memory;
    earned = fits.earned;
    points = points_are g l.value fits.valid fits.points;
  }

  section_is : (s : LeafSection) (entries : ℕ) → LeafSectionFits g s → length s.entry_prices ≡ entries → SectionIs g entries (written_section g s)
  section_is s entries fits many =
      let sets = length-map s.sets (written_set g) in
      let labels = length-map s.labels (written_section_label g) in
      let few = fits.few in
      let all = fits.sets.one_set in
      record {
        weight = fits.weight;
        prices = fits.prices;
        one_price = fits.one_price;
        sets = (sets_run 0 s.sets fits.sets.among (λ c set at. let here : 0 + c ≡ c = omega arith in subst (λ (n : ℕ). has set n ≡ true) (sym here) (fits.sets.own c set at)) (omega (arith, all)), sets ∙ all);
        entry_prices = fits.entry_prices;
        one_entry_price = many;
        few = omega (arith, labels, few);
        labels = all_map (written_section_label g) (SectionLabelFits g) (SectionLabelIs g) s.labels label_is fits.labels;
      }

  split_is : (before after : ℕ) (written : List Counted) → IsSplit g (before + 1) (after + 1) → NodeIs g written (written_node g (node.Split before after))
  split_is before after written is =
      let all = counted g in
      let first = is.first.1 in
      let second = is.second.1 in
      let one = customer_is g network before (omega (arith, first, all)) in
      let other = customer_is g network after (omega (arith, second, all)) in
      let customer : is_customer_node g (customer_node g after) ≡ true = other.1 in
      let apart : nat_eq (customer_node g after) (customer_node g before) ≡ false =
      ne_eqb (customer_node g after) (customer_node g before) (λ same. is.apart (let places = same_by_node g (suc after) (suc before) (omega (arith, second, all)) (omega (arith, first, all)) same in omega (arith, places))) in
      (one, (other.0, rw (customer, apart) refl))

  some_set_is : (set : List ℕ) → IsGoodSet g set → set ≢ [] → SomeSetIs g (written_set g set)
  some_set_is set good some = by (written_set g set) refl (written_set_is g network set good.among)
    where
      by : (nodes : List ℕ) → written_set g set ≡ nodes → SetIs g nodes → SomeSetIs g nodes
      by [] none is = absurd (some (no_bytes set (sym (length_written g set good) ∙ ap (λ xs. length xs) none)))
      by (n ∷ ns) same is = is

  -- a counted set is counted already, or some may be more
  room_for : (cs : List Counted) (set : List ℕ) (least most : ℕ) → length (narrowed cs set least most) ≤ most_counted → (is_counted cs set || nat_lt (length cs) most_counted) ≡ true
  room_for cs set least most few = by (is_counted cs set) refl
    where
      by : (b : Bool) → is_counted cs set ≡ b → (b || nat_lt (length cs) most_counted) ≡ true
      by true e = refl
      by false e = lt-ltb (length cs) most_counted (let more = length_anew g cs (record { set = set; least = least; most = most }) in omega (arith, few, more, ap (λ (b : Bool). if b then length cs else length cs + 1) e))

  -- no more is counted on the way to a node than at some leaf below it
  few_above : (nodes : List Node) (cs : List Counted) (states : List (List Counted)) → AllStand g (cs ∷ states) nodes → length cs ≤ most_counted
  few_above [] cs states all = absurd all
  few_above (at_leaf s ∷ nodes) cs states all = all.0.1
  few_above (at_split i j ∷ nodes) cs states all = few_above nodes cs (cs ∷ states) all.1
  few_above (at_entries k set ∷ nodes) cs states all =
      let few = few_above nodes (narrowed cs set (count_of cs set).least k) (narrowed cs set (k + 1) (count_of cs set).most ∷ states) all.1 in
      fewer (is_counted cs set) few (length_anew g cs (record { set = set; least = (count_of cs set).least; most = k }))
    where
      fewer : (b : Bool) → length (narrowed cs set (count_of cs set).least k) ≤ most_counted → length (narrowed cs set (count_of cs set).least k) ≡ (if b then length cs else length cs + 1) → length cs ≤ most_counted
      fewer true few same = omega (arith, few, same)
      fewer false few same = omega (arith, few, same)

  module _ (cs : List Counted) (way : IsWay g cs) (k : ℕ) (set : List ℕ) (is : IsCount g (counting cs) k set) where
    good : IsGoodSet g set
    good = record { rising = is.rising; among = all_among g set is.known }

    between : is_between cs k set ≡ true
    between = ap₂ (λ a b. a && b) (le-leb (count_of cs set).least k is.least) (lt-ltb k (count_of cs set).most is.most)

    entries_are : (is_counted cs set || nat_lt (length cs) most_counted) ≡ true → NodeIs g (all_written g cs) (written_node g (node.Entries k set))
    entries_are room =
        let range = good_count g cs set way.good good in
        let small = range.most in
        let most = is.most in (
          omega (arith, small, most),
          some_set_is set good is.some,
          broken_written g cs k set way.good good ∙ ap₂ (λ a b. told_count a b (length (decimal k) + 1)) between room,
        )

  -- nodes that stand are in their ranges as they are written
  run_is : (nodes : List TreeNode) (states : List (List Counted)) → All (IsWay g) states → All (NodeFits g) nodes → AllStand g states (map node_of nodes) → AllAsked (NodeIs g) counted_below (map (all_written g) states) (map (written_node g) nodes)
  run_is [] [] ways fit all = tt
  run_is [] (cs ∷ states) ways fit all = absurd all
  run_is (n ∷ nodes) [] ways fit all = absurd all
  run_is (node.Leaf s ∷ nodes) (cs ∷ states) ways fit all = (
    section_is s (length (all_written g cs)) (All-head (NodeFits g) (node.Leaf s) nodes fit) (all.0.0.one_entry_price ∙ sym (length-map cs (written_counted g))),
    run_is nodes states (All-tail (IsWay g) cs states ways) (All-tail (NodeFits g) (node.Leaf s) nodes fit) all.1,
  )
  run_is (node.Split before after ∷ nodes) (cs ∷ states) ways fit all = (
    split_is before after (all_written g cs) all.0,
    run_is nodes (cs ∷ cs ∷ states) (all_on (IsWay g) (cs ∷ cs ∷ []) states (split_below g cs (All-head (IsWay g) cs states ways) (before + 1) (after + 1)) (All-tail (IsWay g) cs states ways)) (All-tail (NodeFits g) (node.Split before after) nodes fit) all.1,
  )
  run_is (node.Entries k set ∷ nodes) (cs ∷ states) ways fit all =
      let way = All-head (IsWay g) cs states ways in
      let least = (count_of cs set).least in
      let few = few_above (map node_of nodes) (narrowed cs set least k) (narrowed cs set (k + 1) (count_of cs set).most ∷ states) all.1 in
      let room = room_for cs set least k few in
      let own = good cs way k set all.0 in
      let below = below_node cs (at_entries k set) in
      let later = run_is nodes (below ++ states) (all_on (IsWay g) below states (entries_below g cs way k set own (between cs way k set all.0) room) (All-tail (IsWay g) cs states ways)) (All-tail (NodeFits g) (node.Entries k set) nodes fit) all.1 in (
        entries_are cs way k set all.0 room,
        subst (λ (sts : List (List Counted)). AllAsked (NodeIs g) counted_below sts (map (written_node g) nodes)) (map_on (all_written g) below states ∙ ap (λ xs. xs ++ map (all_written g) states) (sym (entries_same_below g cs way k set own))) later,
      )

  pub tree_is : (p : TreeProof) → TreeFits g p → TreeIs g (written_tree g p)
  tree_is p fits =
      let t = fits.tree.0 in
      let is = fits.tree.1 in
      let all = tree_stands g t whole [] [] (is.tree, is.few) tt in
      let stand = subst (AllStand g ([] ∷ [])) (append-nil (nodes_of t) ∙ sym is.nodes_are) all in
      record {
        bound = bound_is p.bound fits.bound;
        nodes = run_is p.nodes ([] ∷ []) (All-cons (IsWay g) [] [] (record { good = All-nil (IsGoodCount g); few = omega arith }) (All-nil (IsWay g))) fits.nodes stand;
      }
