-- The tree of one leaf at which nothing is earned is accepted with the bound 0.
use Rattle.std.proofs.Common.{◌≡◌, ◌∙◌, ℕ, zero, suc, ◌+◌, ◌-◌, ◌<◌, ◌≤◌, ◌++◌, refl, sym, ap, subst, List, [], ◌∷◌, length, map, Some, arith, inl, inr}
use Rattle.std.specs.List.{All, Contains}
use Rattle.std.specs.Prelude.{nat_eq, true, false, slice_get, slice_index, slice_index_or, ℤ, pos, ◌+ℤ◌, ◌⊎◌}
use Rattle.std.proofs.lemmas.Bool.{cases_lt, false≢true}
use Rattle.std.proofs.lemmas.Int.{ints}
use Rattle.std.proofs.lemmas.Bool.Decides.{nat_tests}
use Rattle.std.proofs.lemmas.List.{length-map, length_push, map_push}
use Rattle.std.proofs.lemmas.List.Elements.{All-nil, All-push, Contains-push}
use Rattle.std.proofs.lemmas.Option.{same_Some, slice_get_within}
use Rattle.certificate_parts.specs.Ranges.{IsPrice}
use Rattle.customer_sets.specs.CustSet.{has}
use Rattle.customer_sets.specs.SetBelow.{IsSetBelow}
use Rattle.near_proof.specs.Ranges.{AreAmong, SetsFit}
use Rattle.ev_model.specs.Network.{Network, node_count}
use Rattle.fleet_model.specs.Labels.{IsLevel}
use Rattle.fleet_model.specs.Places.{customer_number, place_of}
use Rattle.fleet_model.specs.Prices.{price_of, price_total}
use Rattle.fleet_model.specs.Steps.{level_at, time_at}
use Rattle.fleet_model.proofs.Numbers.{counted, numbered}
use Rattle.near_tree.specs.Bounds.{IsAcceptedAt, IsBounded}
use Rattle.near_tree.specs.Branches.{whole}
use Rattle.near_tree.specs.Closed.{AreClosedAt}
use Rattle.near_tree.specs.Covered.{AreWithinFullAt, IsLeafCovered}
use Rattle.near_tree.specs.Follows.{StandsFor}
use Rattle.near_tree.specs.OneLeaf.{last_at}
use Rattle.near_tree.specs.Preorder.{last_of, leaf_label, section_of}
use Rattle.near_tree.specs.Ranges.{IsFitTree, LastFits, LeafSectionFits, NodeFits, SectionLabelFits, TreeFits}
use Rattle.near_tree.specs.Sections.{after, Last, LeafLabel}
use Rattle.near_tree.specs.Steps.{at_leaf_customer, at_leaf_station, IsLeafCustomerStep, IsLeafStationStep, leaf_at, leaf_start}
use Rattle.near_tree.specs.Trees.{IsSectionAt, leaf, NearTree}
use Rattle.near_tree.specs.Verdicts.{IsVerdict}
use Rattle.near_tree.specs.Zero.{HasKeptMemory, IsZeroSection, IsZeroTree, singles, zero_label, zero_labels}
use Rattle.instance_reader.specs.Instance.{IsCustomerNumber, customer_nodes}
use Rattle.near_tree.specs.declared.proof.LastServed.{LastServed}
use Rattle.near_tree.specs.declared.proof.LastServed.TheVariants.{Customer}
use Rattle.near_tree.specs.declared.proof.LeafSection.{LeafSection}
use Rattle.near_tree.specs.declared.proof.SectionLabel.{SectionLabel}
use Rattle.piece_fn.specs.PieceFn.{level_times}
use Rattle.near_tree.specs.declared.proof.TreeNode.{TreeNode}
use Rattle.near_tree.specs.declared.proof.TreeNode.TheVariants as node
use Rattle.near_tree.specs.declared.proof.TreeProof.{TreeProof}
use Rattle.near_tree.specs.declared.verdict.TreeVerdict.TheVariants.{Accepted}
use Rattle.near_tree.proofs.OneLeaf.{last_of_customer, last_of_station, stands_at_depot}
use Rattle.near_tree.proofs.Stands.{anybody_stands, stands_self}

-- elements of a list with one more at its end
in_push : (xs : List LeafLabel) (x a : LeafLabel) → Contains xs a → Contains (xs ++ x ∷ []) a
in_push [] x a there = absurd (omega (arith, there.1))
in_push (y ∷ ys) x a (zero, low, is) = (0, omega arith, is)
in_push (y ∷ ys) x a (suc k, low, is) =
    let rest = in_push ys x a (k, omega (arith, low), is) in
    (suc rest.0, omega (arith, rest.1), rest.2)

out_push : (xs : List LeafLabel) (x a : LeafLabel) (k : ℕ) → k < length (xs ++ x ∷ []) → slice_index_or (xs ++ x ∷ []) k a ≡ a → Contains xs a ⊎ (x ≡ a)
out_push [] x a zero low is = inr is
out_push [] x a (suc k) low is = absurd (omega (arith, low))
out_push (y ∷ ys) x a zero low is = inl (0, omega arith, is)
out_push (y ∷ ys) x a (suc k) low is = elim (out_push ys x a k (omega (arith, low)) is) [
  | inl there ↦ inl (suc there.0, omega (arith, there.1), there.2)
  | inr same ↦ inr same
]

-- there is a label at each node, and no other
has_label : (g : Network) (n x : ℕ) → x < n → Contains (zero_labels g n) (zero_label g x)
has_label g zero x low = absurd (omega (arith, low))
has_label g (suc n) x low = elim (cases_lt x n) [
  | inl less ↦ in_push (zero_labels g n) (zero_label g n) (zero_label g x) (has_label g n x less)
  | inr most ↦
      let same : n ≡ x = omega (arith, most, low) in
      subst (λ y. Contains (zero_labels g n ++ zero_label g n ∷ []) (zero_label g y)) same (Contains-push (zero_labels g n) (zero_label g n))
]

record IsAtNode (g : Network) (n : ℕ) (l : LeafLabel) : Type 0 where
  at : ℕ
  low : at < n
  same : zero_label g at ≡ l

which : (g : Network) (n : ℕ) (l : LeafLabel) → Contains (zero_labels g n) l → IsAtNode g n l
which g zero l there = absurd (omega (arith, there.1))
which g (suc n) l there = elim (out_push (zero_labels g n) (zero_label g n) l there.0 there.1 there.2) [
  | inl inside ↦
      let found = which g n l inside in
      record { at = found.at; low = omega (arith, found.low); same = found.same }
  | inr same ↦ record { at = n; low = omega arith; same = same }
]

-- a price of 0, and their sum
no_price : (prices : List ℤ) (c : ℕ) → All (λ p. p ≡ pos 0) prices → price_of prices c ≡ pos 0
no_price [] c none = refl
no_price (p ∷ prices) zero none = none 0 (pos 0) (omega arith)
no_price (p ∷ prices) (suc c) none = no_price prices c (λ k d low. none (suc k) d (omega (arith, low)))

no_total : (prices : List ℤ) → All (λ p. p ≡ pos 0) prices → price_total prices ≡ pos 0
no_total [] none = refl
no_total (p ∷ prices) none =
    let rest = no_total prices (λ k d low. none (suc k) d (omega (arith, low))) in
    let own : p ≡ pos 0 = none 0 (pos 0) (omega arith) in
    omega (arith, ints, rest, own)

module _ (g : Network) (s : LeafSection) (zeros : IsZeroSection g s) where
  -- a vehicle at a node that earned nothing is covered by the label there
  covered : (last : Last) (x level time : ℕ) (served : List ℕ) → x < node_count g → StandsFor g whole (section_of s) (last_at g x) last → level ≤ g.capacity
      → IsLeafCovered g whole (section_of s) (record {
        last = last;
        state = record { last = 0; node = x; served = served; paid = pos 0; level = level; time = time };
      })
  covered last x level time served known stands low =
      let none : g.capacity - g.capacity ≡ 0 = omega arith in
      let early : slice_index (0 ∷ []) (g.capacity - g.capacity) ≡ 0 = rw none refl in (
        zero_label g x,
        subst (λ ls. Contains ls (zero_label g x)) (sym zeros.labels) (has_label g (node_count g) x known),
        record {
          last = stands;
          state = (
            g.capacity,
            (omega arith, omega arith),
            record {
              last = refl;
              node = refl;
              served = λ c is. absurd (grind (arith, is));
              level = low;
              time = omega (arith, early);
              cost = rw (zeros.weight, early) (omega (arith, ints));
            },
          );
        },
      )

  begins : 0 < node_count g → IsLeafCovered g whole (section_of s) (leaf_start g)
  begins some = covered (after 0) 0 g.capacity 0 [] some (stands_at_depot g (section_of s)) (omega arith)

  customer : (v y x : ℕ) → IsLevel (zero_label g v).label y → IsLeafCustomerStep g whole (leaf_at (zero_label g v) y) x
      → IsLeafCovered g whole (section_of s) (at_leaf_customer g whole (section_of s) (leaf_at (zero_label g v) y) x)
  customer v y x level step =
      let a = leaf_at (zero_label g v) y in
      let to = at_leaf_customer g whole (section_of s) a x in
      let own : StandsFor g whole (section_of s) (last_at g x) (after (place_of g x)) =
      subst (λ k. StandsFor g whole (section_of s) k (after (place_of g x))) (sym (last_of_customer g x step.customer)) (stands_self g whole (section_of s) (after (place_of g x))) in
      let price = no_price s.prices (customer_number g x) zeros.prices in
      let paid : pos 0 ≡ (price_of s.prices (customer_number g x) +ℤ pos 0) +ℤ pos 0 = omega (arith, ints, price) in
      let low : level_at g a.state x ≤ g.capacity = omega (arith, level.1) in
      subst (λ (e : ℤ). IsLeafCovered g whole (section_of s) (record {
        last = after (place_of g x);
        state = record {
          last = 0;
          node = x;
          served = to.state.served;
          paid = e;
          level = level_at g a.state x;
          time = time_at g a.state x;
        };
      })) paid (covered (after (place_of g x)) x (level_at g a.state x) (time_at g a.state x) to.state.served step.step.known own low)

  station : (v y x z : ℕ) → IsLeafStationStep g (leaf_at (zero_label g v) y) x z
      → IsLeafCovered g whole (section_of s) (at_leaf_station g (leaf_at (zero_label g v) y) x z)
  station v y x z step =
      let last = last_at g v in
      let to = at_leaf_station g (leaf_at (zero_label g v) y) x z in
      let any : StandsFor g whole (section_of s) (last_at g x) last =
      subst (λ k. StandsFor g whole (section_of s) k last) (sym (last_of_station g x step.station)) (anybody_stands g whole (section_of s) last) in
      covered last x z to.state.time [] step.step.known any step.full

  closed : 0 < node_count g → AreClosedAt g whole (section_of s)
  closed some = record {
    begins = begins some;
    customer = λ l y x there level step.
        let made = which g (node_count g) l (subst (λ ls. Contains ls l) zeros.labels there) in
        subst (λ (k : LeafLabel). IsLevel k.label y → IsLeafCustomerStep g whole (leaf_at k y) x → IsLeafCovered g whole (section_of s) (at_leaf_customer g whole (section_of s) (leaf_at k y) x))
        made.same (customer made.at y x) level step;
    station = λ l y x z there level step.
        let made = which g (node_count g) l (subst (λ ls. Contains ls l) zeros.labels there) in
        subst (λ (k : LeafLabel). IsLeafStationStep g (leaf_at k y) x z → IsLeafCovered g whole (section_of s) (at_leaf_station g (leaf_at k y) x z))
        made.same (station made.at y x z) step;
    home = λ l y there level step.
        let made = which g (node_count g) l (subst (λ ls. Contains ls l) zeros.labels there) in
        let nothing : l.label.paid ≡ pos 0 = sym (ap (λ (k : LeafLabel). k.label.paid) made.same) in
        omega (arith, ints, nothing);
  }

  bounded : IsBounded (Some 0) whole (section_of s)
  bounded =
      let total = no_total s.prices zeros.prices in
      let one = zeros.weight in
      omega (arith, ints, total, one)

  within_full : AreWithinFullAt g (section_of s)
  within_full l y there level =
      let made = which g (node_count g) l (subst (λ ls. Contains ls l) zeros.labels there) in
      let own : IsLevel (zero_label g made.at).label y = subst (λ (k : LeafLabel). IsLevel k.label y) (sym made.same) level in
      omega (arith, own.1)

  is_section : IsSectionAt g whole (section_of s)
  is_section = record {
    one_price = zeros.fits.one_price ∙ counted g;
    one_set = zeros.fits.sets.one_set ∙ counted g;
    one_entry_price = ap length zeros.entry_prices;
    full = within_full;
  }

  fits : (p : TreeProof) → p.bound ≡ Some 0 → p.nodes ≡ node.Leaf s ∷ [] → TreeFits g p
  fits p bound nodes =
      let fit : IsFitTree g (node.Leaf s ∷ []) (leaf (section_of s)) = record { nodes_are = refl; tree = is_section; few = omega arith } in
      let tree : (t : NearTree) × IsFitTree g (node.Leaf s ∷ []) t = (leaf (section_of s), fit) in
      record {
        bound = rw bound (omega arith);
        nodes = rw nodes (All-push (NodeFits g) [] (node.Leaf s) (All-nil (NodeFits g)) zeros.fits);
        tree = subst (λ (ns : List TreeNode). (t : NearTree) × IsFitTree g ns t) (sym nodes) tree;
      }

  accepted : 0 < node_count g → (p : TreeProof) → p.bound ≡ Some 0 → p.nodes ≡ node.Leaf s ∷ [] → IsVerdict g p Accepted
  accepted some p bound nodes =
      let at : IsAcceptedAt g (Some 0) whole (section_of s) = record { closed = closed some; bounded = bounded } in
      (leaf (section_of s), rw nodes refl, rw bound at)

pub zero_tree_shown : (g : Network) (s : LeafSection) (p : TreeProof) → 0 < node_count g → IsZeroSection g s → p.bound ≡ Some 0 → p.nodes ≡ node.Leaf s ∷ [] → IsZeroTree g p
zero_tree_shown g s p some zeros bound nodes = record {
  leaf = (s, zeros, nodes);
  bound = bound;
  fits = fits g s zeros p bound nodes;
  accepted = accepted g s zeros some p bound nodes;
}

-- sets of one customer each
length_singles : (n : ℕ) → length (singles n) ≡ n
length_singles zero = refl
length_singles (suc n) = let rest = length_singles n in length_push (singles n) (n ∷ []) ∙ omega (arith, rest)

single_among : (most c : ℕ) → c < most → AreAmong most (c ∷ [])
single_among most c low d is = elim (cases_lt d most) [
  | inl less ↦ less
  | inr past ↦ let other : nat_eq c d ≡ false = grind (arith, low, past) in absurd (grind (arith, is, other))
]

singles_among : (most n : ℕ) → n ≤ most → All (AreAmong most) (singles n)
singles_among most zero low = All-nil (AreAmong most)
singles_among most (suc n) low = All-push (AreAmong most) (singles n) (n ∷ []) (singles_among most n (omega (arith, low))) (single_among most n (omega (arith, low)))

at_end : (xs : List (List ℕ)) (y : List ℕ) (c : ℕ) → c ≡ length xs → slice_get (xs ++ y ∷ []) c ≡ Some y
at_end [] y zero same = refl
at_end [] y (suc c) same = absurd (omega (arith, same))
at_end (x ∷ xs) y zero same = absurd (omega (arith, same))
at_end (x ∷ xs) y (suc c) same = at_end xs y c (omega (arith, same))

before_end : (xs : List (List ℕ)) (y : List ℕ) (c : ℕ) → c < length xs → slice_get (xs ++ y ∷ []) c ≡ slice_get xs c
before_end [] y c low = absurd (omega (arith, low))
before_end (x ∷ xs) y zero low = refl
before_end (x ∷ xs) y (suc c) low = before_end xs y c (omega (arith, low))

own_has : (c : ℕ) → has (c ∷ []) c ≡ true
own_has c = grind (arith, nat_tests)

own_single : (n c : ℕ) (set : List ℕ) → slice_get (singles n) c ≡ Some set → has set c ≡ true
own_single zero c set is = absurd (grind (arith, is))
own_single (suc n) c set is = elim (cases_lt c n) [
  | inl less ↦ own_single n c set (sym (before_end (singles n) (n ∷ []) c (omega (arith, less, length_singles n))) ∙ is)
  | inr past ↦
      let within = slice_get_within (singles n ++ (n ∷ []) ∷ []) c set is in
      let here : c ≡ n = omega (arith, within, past, length_singles n, length_push (singles n) (n ∷ [])) in
      let there : slice_get (singles n ++ (n ∷ []) ∷ []) c ≡ Some (n ∷ []) = at_end (singles n) (n ∷ []) c (omega (arith, here, length_singles n)) in
      let last : n ∷ [] ≡ set = same_Some (n ∷ []) set (sym there ∙ is) in
      subst (λ ms. has ms c ≡ true) last (subst (λ m. has (m ∷ []) c ≡ true) here (own_has c))
]

pub singles_fit : (n : ℕ) (sets : List (List ℕ)) → sets ≡ singles n → SetsFit n sets
singles_fit n sets same = subst (λ (ss : List (List ℕ)). SetsFit n ss) (sym same) (record {
  one_set = length_singles n;
  among = singles_among n n (omega arith);
  own = own_single n;
})

-- the last of a label at the node of a customer with a number
pub last_of_number : (g : Network) (x number : ℕ) → IsCustomerNumber g x (Some number) → last_of (Customer number) ≡ last_at g x
last_of_number g x number is =
    let counts = numbered g number x is.1 in
    let place : place_of g x ≡ number + 1 = rw is.0 (omega (arith, counts)) in
    sym (last_of_customer g x is.0 ∙ ap (λ (n : ℕ). after n) place)

pub number_fits : (g : Network) (x number : ℕ) → IsCustomerNumber g x (Some number) → number < length (customer_nodes g) → LastFits g x (Customer number)
number_fits g x number is low = record {
  known = omega (arith, low);
  customer = λ own. last_of_number g x number is ∙ last_of_customer g x is.0;
  depot = λ other none. absurd (false≢true (sym other ∙ is.0));
}

-- a label of one level
one_level : (q : ℕ) → level_times ((q, 0) ∷ []) ≡ record { first = q; times = 0 ∷ [] }
unfolding level_times
one_level q =
    let one : q + 1 - q ≡ 1 = omega arith in
    rw one refl

pub full_label_is : (g : Network) (x q : ℕ) (last : LastServed) (memory : List ℕ) (value : List (ℕ × ℕ)) → q ≡ g.capacity → value ≡ (q, 0) ∷ [] → memory ≡ [] → last_of last ≡ last_at g x
    → leaf_label (record { node = x; last = last; memory = memory; earned = pos 0; value = value }) ≡ zero_label g x
full_label_is g x q last memory value full points nobody last_is =
    let times : level_times value ≡ record { first = q; times = 0 ∷ [] } = rw points (one_level q) in
    rw (times, nobody, last_is, full) refl

pub labels_more : (g : Network) (xs ys : List SectionLabel) (l : SectionLabel) (n : ℕ) → ys ≡ xs ++ l ∷ [] → map leaf_label xs ≡ zero_labels g n → leaf_label l ≡ zero_label g n → map leaf_label ys ≡ zero_labels g (n + 1)
labels_more g xs ys l n made before same =
    let next : n + 1 ≡ suc n = omega arith in
    let pushed = map_push leaf_label xs l in
    rw (made, next, pushed, before, same) refl

pub all_more : {X : Type 0} (P : X → Type 0) (xs ys : List X) (l : X) → ys ≡ xs ++ l ∷ [] → All P xs → P l → All P ys
all_more {X} P xs ys l made before one = rw made (All-push P xs l before one)

pub singles_more : (xs ys : List (List ℕ)) (y : List ℕ) (n : ℕ) → ys ≡ xs ++ y ∷ [] → xs ≡ singles n → y ≡ n ∷ [] → ys ≡ singles (n + 1)
singles_more xs ys y n made before same =
    let next : n + 1 ≡ suc n = omega arith in
    rw (made, next, before, same) refl

length_zeros : (g : Network) (n : ℕ) → length (zero_labels g n) ≡ n
length_zeros g zero = refl
length_zeros g (suc n) =
    let rest = length_zeros g n in
    length_push (zero_labels g n) (zero_label g n) ∙ omega (arith, rest)

small_price : (p : ℤ) → p ≡ pos 0 → IsPrice p
small_price p none = rw none (omega arith)

-- the section of these parts
pub section_shown : (g : Network) (nodes : ℕ) (prices ps : List ℤ) (sets ss : List (List ℕ)) (entries : List ℤ) (labels ls : List SectionLabel) → nodes ≡ node_count g → nodes ≤ 400
    → prices ≡ ps → length ps ≡ length (customer_nodes g) → All (λ p. p ≡ pos 0) ps → sets ≡ ss → ss ≡ singles (length (customer_nodes g)) → All (IsSetBelow 448) ss → entries ≡ []
    → labels ≡ ls → map leaf_label ls ≡ zero_labels g (node_count g) → All (SectionLabelFits g) ls → All HasKeptMemory ls
    → IsZeroSection g (record { weight = 1; prices = prices; sets = sets; entry_prices = entries; labels = labels })
section_shown g nodes prices ps sets ss entries labels ls nodes_is few prices_are one none sets_are single kept no_entries labels_are zeros fit memories =
    let count : length ls ≡ node_count g = sym (length-map ls leaf_label) ∙ ap length zeros ∙ length_zeros g (node_count g) in
    let fits : LeafSectionFits g (record { weight = 1; prices = prices; sets = sets; entry_prices = entries; labels = labels }) = record {
      weight = omega arith;
      one_price = rw prices_are one;
      prices = rw prices_are (λ k d low. small_price (slice_index_or ps k d) (none k d low));
      sets = singles_fit (length (customer_nodes g)) sets (sets_are ∙ single);
      entry_prices = rw no_entries (All-nil IsPrice);
      few = rw labels_are (omega (arith, count, nodes_is, few));
      labels = rw labels_are fit;
    } in
    record {
      fits = fits;
      weight = refl;
      prices = rw prices_are none;
      entry_prices = no_entries;
      labels = rw labels_are zeros;
      kept_sets = rw sets_are kept;
      kept_memories = rw labels_are memories;
    }
