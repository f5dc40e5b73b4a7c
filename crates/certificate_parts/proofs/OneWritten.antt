-- What is written of a set, a label or an entry of a basis tells it.
use Rattle.std.proofs.Common.{◌≡◌, ◌≢◌, ◌∙◌, ℕ, zero, suc, ◌+◌, ◌-◌, ◌<◌, ◌≤◌, Bool, true, false, List, [], ◌∷◌, ◌++◌, length, get_or, map, if◌then◌else◌, ap, ap₂, arith, inl, inr, refl, sym}
use Rattle.std.specs.List.{All}
use Rattle.std.proofs.lemmas.Bool.{cases_lt}
use Rattle.std.proofs.lemmas.List.{map-id}
use Rattle.std.proofs.lemmas.List.Elements.{All-head, All-tail}
use Rattle.customer_sets.specs.CustSet.{IsCustomerSet, has}
use Rattle.ev_model.specs.Network.{Network}
use Rattle.instance_reader.specs.Instance.{customer_nodes}
use Rattle.piece_fn.specs.declared.label.Label.{Label}
use Rattle.certificate_parts.proofs.PlaceOrder.{places_in_order, same_by_node}
use Rattle.certificate_parts.specs.Ranges.{HasSet, EntryFits, LabelFits, customer_count}
use Rattle.certificate_parts.specs.Written.{WrittenLabel, customer_node, nodes_in, place_node, written_entry, written_label}
use Rattle.certificate_parts.specs.declared.entry.BasisEntry.{BasisEntry}
use Rattle.certificate_parts.specs.declared.entry.BasisEntry.TheVariants.{Helper, Column}
use Rattle.certificate_parts.proofs.Chosen.{chosen, same_chosen, same_set, split_same}

-- where what is made of two things in one way is the same, so is what is made of them in another
pub same_maps : {A B C : Type 0} (f : A → B) (h : A → C) (P : A → Type 0) → ((x y : A) → P x → P y → f x ≡ f y → h x ≡ h y)
    → (xs ys : List A) → All P xs → All P ys → map f xs ≡ map f ys → map h xs ≡ map h ys
same_maps f h P each [] [] all every same = refl
same_maps f h P each [] (y ∷ ys) all every same = absurd cc
same_maps f h P each (x ∷ xs) [] all every same = absurd cc
same_maps f h P each (x ∷ xs) (y ∷ ys) all every same =
    let parts = split_same (f x) (f y) (map f xs) (map f ys) same in
    ap₂ (λ z zs. z ∷ zs) (each x y (All-head P x xs all) (All-head P y ys every) parts.0)
    (same_maps f h P each xs ys (All-tail P x xs all) (All-tail P y ys every) parts.1)

pub same_items : {A B : Type 0} (f : A → B) (P : A → Type 0) → ((x y : A) → P x → P y → f x ≡ f y → x ≡ y)
    → (xs ys : List A) → All P xs → All P ys → map f xs ≡ map f ys → xs ≡ ys
same_items f P each xs ys all every same =
    sym (map-id xs) ∙ same_maps f (λ x. x) P each xs ys all every same ∙ map-id ys

-- what is listed of a set are the nodes of its chosen numbers
listed_nodes : (set : List ℕ) (nodes : List ℕ) (number : ℕ) →
    nodes_in set number nodes ≡ chosen (has set) (λ c. get_or nodes (c - number) 0) number (length nodes)
listed_nodes set [] number = refl
listed_nodes set (n ∷ ns) number =
    let here : number - number ≡ 0 = omega arith in
    let rest : chosen (has set) (λ c. get_or ns (c - (number + 1)) 0) (number + 1) (length ns)
    ≡ chosen (has set) (λ c. get_or (n ∷ ns) (c - number) 0) (number + 1) (length ns) = shifted ns (number + 1) (length ns) (omega arith) in
    rw here (ap (λ xs. (if has set number then n ∷ [] else []) ++ xs) (listed_nodes set ns (number + 1) ∙ rest))
  where
    shifted : (ns : List ℕ) (k more : ℕ) → number < k → chosen (has set) (λ c. get_or ns (c - (number + 1)) 0) k more ≡ chosen (has set) (λ c. get_or (n ∷ ns) (c - number) 0) k more
    shifted ns k zero above = refl
    shifted ns k (suc more) above =
        let same : k - number ≡ suc (k - (number + 1)) = omega (arith, above) in
        let one : get_or ns (k - (number + 1)) 0 ≡ get_or (n ∷ ns) (k - number) 0 = sym (ap (λ c. get_or (n ∷ ns) c 0) same) in
        ap₂ (λ x xs. (if has set k then x ∷ [] else []) ++ xs) one (shifted ns (k + 1) more (omega (arith, above)))

node_at : (g : Network) (i : ℕ) → get_or (customer_nodes g) (i - 0) 0 ≡ place_node g (suc i)
node_at g i =
    let same : i - 0 ≡ i = omega arith in
    ap (λ n. get_or (customer_nodes g) n 0) same

nodes_apart : (g : Network) (i j : ℕ) → 0 ≤ i → i < j → j < 0 + customer_count g → get_or (customer_nodes g) (i - 0) 0 ≢ get_or (customer_nodes g) (j - 0) 0
nodes_apart g i j from less below same =
    let rise : place_node g (suc i) < place_node g (suc j) = places_in_order g (suc i) (suc j) (omega (arith, less)) (omega (arith, below)) in
    let first : get_or (customer_nodes g) (i - 0) 0 ≡ place_node g (suc i) = node_at g i in
    let second : get_or (customer_nodes g) (j - 0) 0 ≡ place_node g (suc j) = node_at g j in
    omega (arith, same, rise, first, second)

module _ (g : Network) where
  same_members : (set other : List ℕ) → nodes_in set 0 (customer_nodes g) ≡ nodes_in other 0 (customer_nodes g) → (c : ℕ) → c < customer_count g → has set c ≡ has other c
  same_members set other same c below =
      same_chosen (λ k. get_or (customer_nodes g) (k - 0) 0) (has set) (has other) 0 (customer_count g) (nodes_apart g)
      (sym (listed_nodes set (customer_nodes g) 0) ∙ same ∙ listed_nodes other (customer_nodes g) 0) c (omega arith) (omega (arith, below))

  abbrev AreNumbers : List ℕ → Type 0
  AreNumbers set = (c : ℕ) → has set c ≡ true → c < customer_count g

  no_number : (set : List ℕ) (c : ℕ) → AreNumbers set → customer_count g ≤ c → has set c ≡ false
  no_number set c numbers past = by (has set c) refl
    where
      by : (b : Bool) → has set c ≡ b → has set c ≡ false
      by true is = absurd (let below = numbers c is in omega (arith, past, below))
      by false is = is

  pub one_set : (set other : List ℕ) → IsCustomerSet set → IsCustomerSet other → AreNumbers set → AreNumbers other
      → nodes_in set 0 (customer_nodes g) ≡ nodes_in other 0 (customer_nodes g) → set ≡ other
  one_set set other is was numbers others same = same_set set other is.rising was.rising (λ c. elim (cases_lt c (customer_count g)) [
    | inl below ↦ same_members set other same c below
    | inr past ↦ no_number set c numbers past ∙ sym (no_number other c others past)
  ])

-- a label that fits, with its set as it is kept
abbrev pub LabelIs : Network → Label → Type 0
LabelIs g l = LabelFits g l × HasSet l

abbrev label_from : ℕ → ℕ → List ℕ → List (ℕ × ℕ) → Label
label_from last node set value = record { last = last; node = node; set = set; value = value }

pub one_label : (g : Network) (l m : Label) → LabelIs g l → LabelIs g m → written_label g l ≡ written_label g m → l ≡ m
one_label g l m (fits, is) (fit, was) same =
    let last : l.last ≡ m.last = ap (λ (w : WrittenLabel). w.last) same in
    let node : l.node ≡ m.node = ap (λ (w : WrittenLabel). w.node) same in
    let set : l.set ≡ m.set = one_set g l.set m.set is was fits.set fit.set (ap (λ (w : WrittenLabel). w.served) same) in
    let value : l.value ≡ m.value = ap (λ (w : WrittenLabel). w.points) same in
    λ i. label_from (last i) (node i) (set i) (value i)

customer_of : (d : ℕ) → BasisEntry → ℕ
customer_of d (Helper c) = c
customer_of d (Column k) = d

column_of : (d : ℕ) → BasisEntry → ℕ
column_of d (Helper c) = d
column_of d (Column k) = k

pub one_entry : (g : Network) (columns : ℕ) (e f : BasisEntry) → EntryFits (customer_count g) columns e → EntryFits (customer_count g) columns f → written_entry g e ≡ written_entry g f → e ≡ f
unfolding customer_of column_of
one_entry g columns (Helper c) (Helper d) fits fit same =
    let nodes : customer_node g c ≡ customer_node g d = ap (customer_of 0) same in
    let numbers = same_by_node g (suc c) (suc d) (omega (arith, fits)) (omega (arith, fit)) nodes in
    ap (λ (n : ℕ). Helper n) (omega (arith, numbers))
one_entry g columns (Column k) (Column l) fits fit same = ap (λ (n : ℕ). Column n) (ap (column_of 0) same)
one_entry g columns (Helper c) (Column l) fits fit same = absurd cc
one_entry g columns (Column k) (Helper d) fits fit same = absurd cc
