-- Reading a node: what is asked of it as it is written is what is asked of it by numbers.
use Rattle.std.proofs.Common.{◌≡◌, ◌≢◌, ◌∙◌, ℕ, suc, ◌+◌, ◌-◌, ◌<◌, ◌≤◌, Bool, true, false, ◌||◌, ◌&&◌, List, [], ◌∷◌, None, Some, Ok, Err, decimal, length, map, nat_eq, nat_le, nat_lt, ap, ap₂, arith, refl, sym, subst, if◌then◌else◌}
use Rattle.std.specs.List.{All}
use Rattle.std.proofs.lemmas.Bool.{eq-eqb, eqb-true, false≢true, leb-true, ltb-true}
use Rattle.std.proofs.lemmas.List.Elements.{All-cons, All-head, All-nil, All-tail}
use Rattle.customer_sets.specs.CustSet.{has}
use Rattle.ev_model.specs.Network.{Network}
use Rattle.ev_text.specs.declared.TextFault.TheVariants.{TooLarge}
use Rattle.fleet_model.specs.Places as places
use Rattle.fleet_model.proofs.Numbers.{counted}
use Rattle.instance_reader.specs.Instance.{customer_nodes}
use Rattle.certificate_parts.specs.Places.{IsPlaceOf}
use Rattle.certificate_parts.specs.Ranges.{customer_count}
use Rattle.certificate_parts.specs.Written.{customer_node, nodes_in, place_node}
use Rattle.certificate_parts.specs.declared.reading.nodes.Place.{Place}
use Rattle.near_proof.specs.Ranges.{AreAmong}
use Rattle.near_text.specs.Written.{written_set}
use Rattle.near_tree.specs.Branches.{Counted, count_of}
use Rattle.near_tree.specs.Preorder.{at_entries, at_split, node_of}
use Rattle.near_tree.specs.Ranges.{most_counted}
use Rattle.near_tree.specs.Trees.{IsSplit}
use Rattle.near_tree.specs.declared.proof.TreeNode.{TreeNode}
use Rattle.near_tree.specs.declared.proof.TreeNode.TheVariants as node
use Rattle.tree_text.specs.Reading.{broken_count, count_at, entries_at, is_between, is_counted}
use Rattle.tree_text.specs.Standing.{IsGoodSet, IsWay, StandsAt, all_written, below_node}
use Rattle.tree_text.specs.TreeIn.{IsKeptNode, IsKeptSet}
use Rattle.tree_text.specs.Written.{counted_below, narrowed, written_entries, written_node}
use Rattle.tree_text.proofs.Counts.{anew_written, broken_written, count_written, good_anew, good_count, length_anew, told_count}

pub good_set : (g : Network) (set : List ℕ) → IsKeptSet set → AreAmong (customer_count g) set → IsGoodSet g set
good_set g set kept among = record { rising = kept.rising; among = among }

nobody_in : (ns : List ℕ) (k : ℕ) → nodes_in [] k ns ≡ []
nobody_in [] k = refl
nobody_in (n ∷ ns) k = nobody_in ns (k + 1)

-- whom a set has are below a number
all_below : (set : List ℕ) (n : ℕ) → ((c : ℕ) → has set c ≡ true → c < n) → All (λ c. c < n) set
all_below [] n below = All-nil (λ c. c < n)
all_below (x ∷ xs) n below =
    All-cons (λ c. c < n) x xs (below x (ap (λ b. b || has xs x) (eq-eqb x x refl))) (all_below xs n (λ c is. below c (ap (λ b. nat_eq x c || b) is ∙ later (nat_eq x c))))
  where
    later : (b : Bool) → (b || true) ≡ true
    later true = refl
    later false = refl

in_all : (xs : List ℕ) (n : ℕ) → All (λ c. c < n) xs → (c : ℕ) → has xs c ≡ true → c < n
in_all [] n all c is = absurd (false≢true is)
in_all (x ∷ xs) n all c is = by (nat_eq x c) refl is (in_all xs n (All-tail (λ m. m < n) x xs all) c)
  where
    by : (b : Bool) → nat_eq x c ≡ b → (b || has xs c) ≡ true → (has xs c ≡ true → c < n) → c < n
    by true e told later = subst (λ (m : ℕ). m < n) (eqb-true x c e) (All-head (λ m. m < n) x xs all)
    by false e told later = later told

pub all_among : (g : Network) (set : List ℕ) → All (λ c. c < places.customer_count g) set → AreAmong (customer_count g) set
all_among g set known c is =
    let all = counted g in
    let below = in_all set (places.customer_count g) known c is in
    omega (arith, below, all)

both_true : (a b : Bool) → (a && b) ≡ true → (a ≡ true) × (b ≡ true)
both_true true b is = (refl, is)
both_true false b is = absurd (false≢true is)

-- the customer at a place
pub placed : (g : Network) (p : Place) → 1 ≤ p.place → IsPlaceOf g p → customer_node g (p.place - 1) ≡ p.node
placed g p some is =
    let same : suc (p.place - 1) ≡ p.place = omega (arith, some) in
    ap (place_node g) same ∙ is.node_is

pub split_stands : (g : Network) (p q : Place) → 1 ≤ p.place → 1 ≤ q.place → IsPlaceOf g p → IsPlaceOf g q → q.node ≢ p.node → IsSplit g (p.place - 1 + 1) (q.place - 1 + 1)
split_stands g p q some others is was apart =
    let within = is.within in
    let inside = was.within in
    let all = counted g in
    record {
      first = (omega arith, omega (arith, some, within, all));
      second = (omega arith, omega (arith, others, inside, all));
      apart = λ same. apart (let one : q.place ≡ p.place = omega (arith, same, some, others) in sym was.node_is ∙ ap (place_node g) one ∙ is.node_is);
    }

module _ (g : Network) (cs : List Counted) (way : IsWay g cs) where
  pub split_below : (i j : ℕ) → All (IsWay g) (below_node cs (at_split i j))
  split_below i j = All-cons (IsWay g) cs (cs ∷ []) way (All-cons (IsWay g) cs [] way (All-nil (IsWay g)))

  module _ (k : ℕ) (set : List ℕ) (good : IsGoodSet g set) where
    pub entries_read : (s t : List ℕ × ℕ) → count_at g s ≡ Ok ((k, written_set g set), t) → is_between cs k set ≡ true → (is_counted cs set || nat_lt (length cs) most_counted) ≡ true
        → entries_at g (all_written g cs) s ≡ Ok (written_entries k (written_set g set), t)
    entries_read s t found between known =
        let whole : broken_count (all_written g cs) (k, written_set g set) ≡ None =
        broken_written g cs k set way.good good
        ∙ ap₂ (λ a b. told_count a b (length (decimal k) + 1)) between known in
        rw (found, whole) refl

    pub entries_past : (s t : List ℕ × ℕ) → count_at g s ≡ Ok ((k, written_set g set), t) → is_between cs k set ≡ false → entries_at g (all_written g cs) s ≡ Err (TooLarge s.1)
    entries_past s t found between =
        let broken : broken_count (all_written g cs) (k, written_set g set) ≡ Some 0 =
        broken_written g cs k set way.good good
        ∙ ap (λ a. told_count a (is_counted cs set || nat_lt (length cs) most_counted) (length (decimal k) + 1)) between in
        let here : s.1 + 0 ≡ s.1 = omega arith in
        rw (found, broken) (ap (λ n. Err (TooLarge n)) here)

    pub entries_many : (s t : List ℕ × ℕ) (at : ℕ) → at ≡ s.1 + (length (decimal k) + 1) → count_at g s ≡ Ok ((k, written_set g set), t) → is_between cs k set ≡ true → (is_counted cs set || nat_lt (length cs) most_counted) ≡ false
        → entries_at g (all_written g cs) s ≡ Err (TooLarge at)
    entries_many s t at there found between known =
        let broken : broken_count (all_written g cs) (k, written_set g set) ≡ Some (length (decimal k) + 1) =
        broken_written g cs k set way.good good
        ∙ ap₂ (λ a b. told_count a b (length (decimal k) + 1)) between known in
        rw (found, broken) (ap (λ n. Err (TooLarge n)) (sym there))

    pub entries_stand : written_set g set ≢ [] → is_between cs k set ≡ true → StandsAt g cs (at_entries k set)
    entries_stand some between =
        let parts = both_true (nat_le (count_of cs set).least k) (nat_lt k (count_of cs set).most) between in
        let all = counted g in
        record {
          some = λ none. some (ap (λ xs. nodes_in xs 0 (customer_nodes g)) none ∙ nobody_in (customer_nodes g) 0);
          rising = good.rising;
          known = all_below set (places.customer_count g) (λ c is. let below = good.among c is in omega (arith, below, all));
          least = leb-true (count_of cs set).least k parts.0;
          most = ltb-true k (count_of cs set).most parts.1;
        }

    few_anew : (d : Counted) → d.set ≡ set → (is_counted cs set || nat_lt (length cs) most_counted) ≡ true → length (narrowed cs set d.least d.most) ≤ most_counted
    few_anew d same known = by (is_counted cs set) refl known
      where
        by : (b : Bool) → is_counted cs set ≡ b → (b || nat_lt (length cs) most_counted) ≡ true → length (narrowed cs set d.least d.most) ≤ most_counted
        by true e told = let few = way.few in omega (arith, few, length_anew g cs (record { set = set; least = d.least; most = d.most }), ap (λ (b : Bool). if b then length cs else length cs + 1) e)
        by false e told = let less = ltb-true (length cs) most_counted told in omega (arith, less, length_anew g cs (record { set = set; least = d.least; most = d.most }), ap (λ (b : Bool). if b then length cs else length cs + 1) e)

    pub entries_below : is_between cs k set ≡ true → (is_counted cs set || nat_lt (length cs) most_counted) ≡ true → All (IsWay g) (below_node cs (at_entries k set))
    entries_below between known =
        let parts = both_true (nat_le (count_of cs set).least k) (nat_lt k (count_of cs set).most) between in
        let less = ltb-true k (count_of cs set).most parts.1 in
        let range = good_count g cs set way.good good in
        let small = range.most in
        let few : Counted = record { set = set; least = (count_of cs set).least; most = k } in
        let many : Counted = record { set = set; least = k + 1; most = (count_of cs set).most } in
        let first : IsWay g (narrowed cs set (count_of cs set).least k) = record { good = good_anew g cs few way.good (record { set = good; most = omega (arith, less, small) }); few = few_anew few refl known } in
        let second : IsWay g (narrowed cs set (k + 1) (count_of cs set).most) = record { good = good_anew g cs many way.good (record { set = good; most = small }); few = few_anew many refl known } in
        All-cons (IsWay g) (narrowed cs set (count_of cs set).least k) (narrowed cs set (k + 1) (count_of cs set).most ∷ []) first
        (All-cons (IsWay g) (narrowed cs set (k + 1) (count_of cs set).most) [] second (All-nil (IsWay g)))

    narrowed_written : (least most : ℕ) → narrowed (all_written g cs) (written_set g set) least most ≡ all_written g (narrowed cs set least most)
    narrowed_written least most = anew_written g cs (record { set = set; least = least; most = most }) way.good good

    pub entries_same_below : counted_below (all_written g cs) (written_entries k (written_set g set)) ≡ map (all_written g) (below_node cs (at_entries k set))
    entries_same_below =
        let one = count_written g cs set way.good good in
        ap₂ (λ x y. x ∷ y ∷ [])
        (ap (λ (c : Counted). narrowed (all_written g cs) (written_set g set) c.least k) one ∙ narrowed_written (count_of cs set).least k)
        (ap (λ (c : Counted). narrowed (all_written g cs) (written_set g set) (k + 1) c.most) one ∙ narrowed_written (k + 1) (count_of cs set).most)

  -- what is counted below a node, as it is written
  pub same_below : (n : TreeNode) → IsKeptNode n → StandsAt g cs (node_of n) → counted_below (all_written g cs) (written_node g n) ≡ map (all_written g) (below_node cs (node_of n))
  same_below (node.Split before after) kept is = refl
  same_below (node.Leaf s) kept is = refl
  same_below (node.Entries most set) kept is =
      entries_same_below most set (record { rising = is.rising; among = all_among g set is.known })
