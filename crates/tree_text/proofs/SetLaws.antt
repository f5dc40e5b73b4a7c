-- What is written of a set tells it: who is in it, and how many.
use Rattle.std.proofs.Common.{◌≡◌, ◌≢◌, ◌∙◌, ◌↔◌, IsTrue, inl, inr, ℕ, zero, suc, ◌+◌, ◌-◌, ◌<◌, ◌≤◌, Bool, true, false, ◌&&◌, List, [], ◌∷◌, ◌++◌, length, get_or, nat_eq, if◌then◌else◌, ap, ap₂, arith, refl, sym}
use Rattle.std.proofs.lemmas.Bool.{cases_Bool, cases_lt, eq-eqb, eqb-true, false≢true}
use Rattle.std.proofs.lemmas.List.Elements.{All-cons, All-nil}
use Rattle.customer_sets.specs.CustSet.{has}
use Rattle.customer_sets.specs.Kept.{has_kept, kept, none_past}
use Rattle.customer_sets.proofs.Tests.{kept_set}
use Rattle.ev_model.specs.Network.{IsNetwork, Network, most_nodes, node_count}
use Rattle.instance_reader.proofs.InstanceLemmas.{customers_are_nodes}
use Rattle.instance_reader.specs.Instance.{customer_nodes}
use Rattle.piece_fn.specs.declared.label.Label.{Label}
use Rattle.certificate_parts.specs.Ranges.{LabelFits, PointFits, customer_count}
use Rattle.certificate_parts.specs.Written.{nodes_in, place_node}
use Rattle.certificate_parts.specs.WrittenRanges.{SetIs}
use Rattle.certificate_parts.proofs.Chosen.{chosen, same_chosen, same_set}
use Rattle.certificate_parts.proofs.PlaceOrder.{places_in_order}
use Rattle.certificate_parts.proofs.WrittenSets.{label_is}
use Rattle.near_proof.specs.Ranges.{AreAmong}
use Rattle.near_text.specs.Written.{written_set}
use Rattle.near_tree.specs.Branches.{is_same}
use Rattle.tree_text.specs.Standing.{IsGoodSet}

-- what is listed of a set are the nodes of its chosen numbers
listed_nodes : (set : List ℕ) (nodes : List ℕ) (number : ℕ) → nodes_in set number nodes ≡ chosen (has set) (λ c. get_or nodes (c - number) 0) number (length nodes)
listed_nodes set [] number = refl
listed_nodes set (n ∷ ns) number =
    let here : number - number ≡ 0 = omega arith in
    let rest : chosen (has set) (λ c. get_or ns (c - (number + 1)) 0) (number + 1) (length ns)
    ≡ chosen (has set) (λ c. get_or (n ∷ ns) (c - number) 0) (number + 1) (length ns) = shifted ns (number + 1) (length ns) (omega arith) in
    rw here (ap (λ xs. (if has set number then n ∷ [] else []) ++ xs) (listed_nodes set ns (number + 1) ∙ rest))
  where
    shifted : (ns : List ℕ) (k more : ℕ) → number < k → chosen (has set) (λ c. get_or ns (c - (number + 1)) 0) k more ≡ chosen (has set) (λ c. get_or (n ∷ ns) (c - number) 0) k more
    shifted ns k zero above = refl
    shifted ns k (suc more) above =
        let same : k - number ≡ suc (k - (number + 1)) = omega (arith, above) in
        let one : get_or ns (k - (number + 1)) 0 ≡ get_or (n ∷ ns) (k - number) 0 = sym (ap (λ c. get_or (n ∷ ns) c 0) same) in
        ap₂ (λ x xs. (if has set k then x ∷ [] else []) ++ xs) one (shifted ns (k + 1) more (omega (arith, above)))

node_at : (g : Network) (i : ℕ) → get_or (customer_nodes g) (i - 0) 0 ≡ place_node g (suc i)
node_at g i =
    let same : i - 0 ≡ i = omega arith in
    ap (λ n. get_or (customer_nodes g) n 0) same

nodes_apart : (g : Network) (i j : ℕ) → 0 ≤ i → i < j → j < 0 + customer_count g → get_or (customer_nodes g) (i - 0) 0 ≢ get_or (customer_nodes g) (j - 0) 0
nodes_apart g i j from less below same =
    let rise : place_node g (suc i) < place_node g (suc j) = places_in_order g (suc i) (suc j) (omega (arith, less)) (omega (arith, below)) in
    let first : get_or (customer_nodes g) (i - 0) 0 ≡ place_node g (suc i) = node_at g i in
    let second : get_or (customer_nodes g) (j - 0) 0 ≡ place_node g (suc j) = node_at g j in
    omega (arith, same, rise, first, second)

-- as many nodes are listed as there are members among the numbers
listed_count : (set : List ℕ) (ns : List ℕ) (k : ℕ) → length (nodes_in set k ns) ≡ length (kept (has set) k (length ns))
listed_count set [] k = refl
listed_count set (n ∷ ns) k = elim (cases_Bool (has set k)) [
  | inl is ↦ rw is (ap (λ m. suc m) (listed_count set ns (k + 1)))
  | inr none ↦ rw none (listed_count set ns (k + 1))
]

-- two sets are one by their members
pub same_told : (xs ys : List ℕ) → is_same xs ys ≡ true → xs ≡ ys
same_told [] [] is = refl
same_told [] (y ∷ ys) is = absurd (false≢true is)
same_told (x ∷ xs) [] is = absurd (false≢true is)
same_told (x ∷ xs) (y ∷ ys) is =
    let parts = both (nat_eq x y) (is_same xs ys) is in
    ap₂ (λ z zs. z ∷ zs) (eqb-true x y parts.0) (same_told xs ys parts.1)
  where
    both : (a b : Bool) → (a && b) ≡ true → (a ≡ true) × (b ≡ true)
    both true b is = (refl, is)
    both false b is = absurd (false≢true is)

pub told_same : (xs : List ℕ) → is_same xs xs ≡ true
told_same [] = refl
told_same (x ∷ xs) = ap (λ b. b && is_same xs xs) (eq-eqb x x refl) ∙ told_same xs

-- a set holds all customers of an instance
pub few_customers : (g : Network) (n : ℕ) → node_count g ≤ most_nodes → n ≡ length (customer_nodes g) → n ≤ 448
few_customers g n few same = let nodes = customers_are_nodes g in omega (arith, nodes, few, same)

pub told_by_same : (b : Bool) (xs ys : List ℕ) → IsTrue b ↔ (xs ≡ ys) → b ≡ is_same xs ys
told_by_same true xs ys is = let one = is.0 refl in sym (ap (λ zs. is_same xs zs) (sym one) ∙ told_same xs)
told_by_same false xs ys is = by (is_same xs ys) refl
  where
    by : (b : Bool) → is_same xs ys ≡ b → false ≡ is_same xs ys
    by true e = absurd (false≢true (is.1 (same_told xs ys e)))
    by false e = sym e

module _ (g : Network) where
  same_members : (set other : List ℕ) → written_set g set ≡ written_set g other → (c : ℕ) → c < customer_count g → has set c ≡ has other c
  same_members set other same c below =
      same_chosen (λ k. get_or (customer_nodes g) (k - 0) 0) (has set) (has other) 0 (customer_count g) (nodes_apart g)
      (sym (listed_nodes set (customer_nodes g) 0) ∙ same ∙ listed_nodes other (customer_nodes g) 0) c (omega arith) (omega (arith, below))

  no_number : (set : List ℕ) (c : ℕ) → AreAmong (customer_count g) set → customer_count g ≤ c → has set c ≡ false
  no_number set c numbers past = by (has set c) refl
    where
      by : (b : Bool) → has set c ≡ b → has set c ≡ false
      by true is = absurd (let below = numbers c is in omega (arith, past, below))
      by false is = is

  -- what is written of two sets is the same where they are
  pub one_set : (set other : List ℕ) → IsGoodSet g set → IsGoodSet g other → written_set g set ≡ written_set g other → set ≡ other
  one_set set other is was same = same_set set other is.rising was.rising (λ c. elim (cases_lt c (customer_count g)) [
    | inl below ↦ same_members set other same c below
    | inr past ↦ no_number set c is.among past ∙ sym (no_number other c was.among past)
  ])

  pub same_written : (set other : List ℕ) → IsGoodSet g set → IsGoodSet g other → is_same (written_set g set) (written_set g other) ≡ is_same set other
  same_written set other is was = by (is_same (written_set g set) (written_set g other)) (is_same set other) refl refl
    where
      by : (a b : Bool) → is_same (written_set g set) (written_set g other) ≡ a → is_same set other ≡ b → is_same (written_set g set) (written_set g other) ≡ is_same set other
      by true b e f =
          let one = one_set set other is was (same_told (written_set g set) (written_set g other) e) in
          e ∙ sym (told_same set) ∙ ap (λ (x : List ℕ). is_same set x) one
      by false true e f =
          let one = same_told set other f in
          absurd (false≢true (sym e ∙ ap (λ (x : List ℕ). is_same (written_set g set) (written_set g x)) (sym one) ∙ told_same (written_set g set)))
      by false false e f = e ∙ sym f

  -- and as many nodes as there are members
  -- no more nodes are listed than there are
  listed_few : (set : List ℕ) (ns : List ℕ) (k : ℕ) → length (nodes_in set k ns) ≤ length ns
  listed_few set [] k = omega arith
  listed_few set (n ∷ ns) k =
      let rest = listed_few set ns (k + 1) in
      elim (cases_Bool (has set k)) [
        | inl is ↦ rw is (omega (arith, rest))
        | inr none ↦ rw none (omega (arith, rest))
      ]

  pub length_written : (set : List ℕ) → IsGoodSet g set → length (written_set g set) ≡ length set
  length_written set is =
      let own = kept_set (has set) (customer_count g) in
      let whole : kept (has set) 0 (customer_count g) ≡ set =
      same_set (kept (has set) 0 (customer_count g)) set own.rising is.rising (λ c. elim (cases_lt c (customer_count g)) [
        | inl below ↦ has_kept (has set) (customer_count g) 0 c (omega arith) (omega (arith, below))
        | inr past ↦ none_past (has set) (customer_count g) 0 c (omega (arith, past)) ∙ sym (no_number set c is.among past)
      ]) in
      listed_count set (customer_nodes g) 0 ∙ ap (λ (xs : List ℕ). length xs) whole

  pub set_few : (set : List ℕ) → IsGoodSet g set → length set ≤ customer_count g
  set_few set is = let most = listed_few set (customer_nodes g) 0 in omega (arith, most, length_written set is)

  -- what is written of a set is in its ranges
  pub written_set_is : IsNetwork g → (set : List ℕ) → AreAmong (customer_count g) set → SetIs g (written_set g set)
  written_set_is network set among =
      let l : Label = record { last = 0; node = 0; set = set; value = (0, 0) ∷ [] } in
      let fits : LabelFits g l = record { last = inl refl; node = (let some = network.depot in omega (arith, some)); set = among; valid = tt; points = All-cons (PointFits g) (0, 0) [] (omega arith, omega arith) (All-nil (PointFits g)) } in
      (label_is g network l fits).served
