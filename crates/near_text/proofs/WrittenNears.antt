-- What is written of a near proof that fits is in its ranges, and tells the proof.
use Rattle.std.proofs.Common.{◌≡◌, ◌∙◌, inl, inr, ℕ, suc, ◌+◌, ◌-◌, ◌<◌, ◌≤◌, Bool, true, false, ◌||◌, List, [], ◌∷◌, ◌++◌, Some, slice_get, get_or, length, map, nat_eq, refl, sym, ap, subst, arith, if◌then◌else◌}
use Rattle.std.specs.List.{All}
use Rattle.std.proofs.lemmas.Bool.{cases_eq, eq-eqb, false≢true}
use Rattle.std.proofs.lemmas.List.{length-map}
use Rattle.std.proofs.lemmas.List.Elements.{All-cons, All-head, All-nil, All-tail}
use Rattle.customer_sets.specs.CustSet.{IsCustomerSet, has}
use Rattle.ev_model.specs.Network.{IsNetwork, Network}
use Rattle.ev_text.specs.Texts.{AllFrom}
use Rattle.instance_reader.specs.Instance.{customer_nodes}
use Rattle.piece_fn.specs.declared.label.Label.{Label}
use Rattle.certificate_parts.specs.Ranges.{LabelFits, PointFits, customer_count}
use Rattle.certificate_parts.specs.Written.{customer_node, nodes_in}
use Rattle.certificate_parts.specs.WrittenRanges.{SetIs}
use Rattle.certificate_parts.proofs.OneWritten.{one_set, same_items}
use Rattle.certificate_parts.proofs.WrittenBasis.{bound_is}
use Rattle.certificate_parts.proofs.WrittenParts.{all_map, node_is, or_true, points_are}
use Rattle.certificate_parts.proofs.WrittenSets.{label_is}
use Rattle.near_proof.specs.Ranges.{AreAmong, NearFits, NearLabelFits}
use Rattle.near_proof.specs.declared.proof.NearLabel.{NearLabel}
use Rattle.near_proof.specs.declared.proof.NearProof.{NearProof}
use Rattle.near_text.specs.NearIn.{HasMemory, IsKept}
use Rattle.near_text.specs.Written.{WrittenNear, WrittenNearLabel, written_near, written_near_label, written_set}
use Rattle.near_text.specs.WrittenRanges.{NearIs, NearLabelIs, NearSetIs, next_number}
use Rattle.near_text.proofs.WholeReading.{proof_of}

behind_one : (b : Bool) (n x : ℕ) (xs : List ℕ) → has xs x ≡ true → has ((if b then n ∷ [] else []) ++ xs) x ≡ true
behind_one true n x xs is = ap (λ b. nat_eq n x || b) is ∙ or_true (nat_eq n x)
behind_one false n x xs is = is

this_one : (b : Bool) (n : ℕ) (xs : List ℕ) → b ≡ true → has ((if b then n ∷ [] else []) ++ xs) n ≡ true
this_one true n xs is = ap (λ b. b || has xs n) (eq-eqb n n refl)
this_one false n xs is = absurd (false≢true is)

-- the node of a member is listed
listed : (set : List ℕ) (c : ℕ) (ns : List ℕ) (k : ℕ) → has set c ≡ true → k ≤ c → c < k + length ns → has (nodes_in set k ns) (get_or ns (c - k) 0) ≡ true
listed set c [] k is le lt = absurd (omega (arith, le, lt))
listed set c (n ∷ ns) k is le lt = elim (cases_eq c k) [
  | inl same ↦
      let here : has set k ≡ true = subst (λ (x : ℕ). has set x ≡ true) same is in
      let first : c - k ≡ 0 = omega (arith, same) in
      let value : get_or (n ∷ ns) (c - k) 0 ≡ n = ap (λ (i : ℕ). get_or (n ∷ ns) i 0) first in
      subst (λ (x : ℕ). has (nodes_in set k (n ∷ ns)) x ≡ true) (sym value) (this_one (has set k) n (nodes_in set (k + 1) ns) here)
  | inr other ↦
      let later : c - k ≡ suc (c - (k + 1)) = omega (arith, other, le) in
      let value : get_or (n ∷ ns) (c - k) 0 ≡ get_or ns (c - (k + 1)) 0 = ap (λ (i : ℕ). get_or (n ∷ ns) i 0) later in
      subst (λ (x : ℕ). has (nodes_in set k (n ∷ ns)) x ≡ true) (sym value) (behind_one (has set k) n (get_or ns (c - (k + 1)) 0) (nodes_in set (k + 1) ns) (listed set c ns (k + 1) is (omega (arith, other, le)) (omega (arith, lt))))
]

all_both : {A : Type 0} (P Q : A → Type 0) (xs : List A) → All P xs → All Q xs → All (λ a. P a × Q a) xs
all_both P Q [] ps qs = All-nil (λ a. P a × Q a)
all_both P Q (x ∷ xs) ps qs = All-cons (λ a. P a × Q a) x xs (All-head P x xs ps, All-head Q x xs qs) (all_both P Q xs (All-tail P x xs ps) (All-tail Q x xs qs))

own_listed : (g : Network) (set : List ℕ) (c : ℕ) → c < customer_count g → has set c ≡ true → has (written_set g set) (customer_node g c) ≡ true
own_listed g set c within is =
    let same : c - 0 ≡ c = omega arith in
    subst (λ (k : ℕ). has (written_set g set) (get_or (customer_nodes g) k 0) ≡ true) same (listed set c (customer_nodes g) 0 is (omega arith) (omega (arith, within)))

module _ (g : Network) (network : IsNetwork g) where
  set_is : (set : List ℕ) → AreAmong (customer_count g) set → SetIs g (written_set g set)
  set_is set among =
      let l : Label = record { last = 0; node = 0; set = set; value = (0, 0) ∷ [] } in
      let fits : LabelFits g l = record { last = inl refl; node = (let some = network.depot in omega (arith, some)); set = among; valid = tt; points = All-cons (PointFits g) (0, 0) [] (omega arith, omega arith) (All-nil (PointFits g)) } in
      (label_is g network l fits).served

  sets_run : (k : ℕ) (sets : List (List ℕ)) → All (AreAmong (customer_count g)) sets → ((c : ℕ) (set : List ℕ) → slice_get sets c ≡ Some set → has set (k + c) ≡ true) → k + length sets ≤ customer_count g → AllFrom (NearSetIs g) next_number k (map (written_set g) sets)
  sets_run k [] among own within = tt
  sets_run k (set ∷ sets) among own within = (
    record {
      set = set_is set (All-head (AreAmong (customer_count g)) set sets among);
      own = own_listed g set k (omega (arith, within)) (let here : k + 0 ≡ k = omega arith in subst (λ (n : ℕ). has set n ≡ true) here (own 0 set refl));
    },
    sets_run (k + 1) sets (All-tail (AreAmong (customer_count g)) set sets among)
        (λ c other at. let next : k + suc c ≡ k + 1 + c = omega arith in subst (λ (n : ℕ). has other n ≡ true) next (own (suc c) other at)) (omega (arith, within)),
  )

  near_label_is : (l : NearLabel) → NearLabelFits g l → NearLabelIs g (written_near_label g l)
  near_label_is l fits = record {
    node = node_is g network l.node fits.node;
    memory = set_is l.memory fits.memory;
    count = fits.count;
    earned = fits.earned;
    points = points_are g l.value fits.valid fits.points;
  }

  pub near_is : (p : NearProof) → NearFits g p → NearIs g (written_near g p)
  near_is p fits =
      let sets = length-map p.sets (written_set g) in
      let labels = length-map p.labels (written_near_label g) in
      let few = fits.few in
      let all = fits.sets.one_set in
      record {
        bound = bound_is p.bound fits.bound;
        weight = fits.weight;
        prices = fits.prices;
        one_price = fits.one_price;
        sets = (sets_run 0 p.sets fits.sets.among (λ c set at. let here : 0 + c ≡ c = omega arith in subst (λ (n : ℕ). has set n ≡ true) (sym here) (fits.sets.own c set at)) (omega (arith, all)), sets ∙ all);
        few = omega (arith, labels, few);
        labels = all_map (written_near_label g) (NearLabelFits g) (NearLabelIs g) p.labels near_label_is fits.labels;
        tight = fits.tight;
        one_tight = fits.one_tight;
      }

abbrev label_from : ℕ → List ℕ → ℕ → ℕ → List (ℕ × ℕ) → NearLabel
label_from node memory count earned value = record { node = node; memory = memory; count = count; earned = earned; value = value }

module _ (g : Network) where
  abbrev SetKept : List ℕ → Type 0
  SetKept set = AreAmong (customer_count g) set × IsCustomerSet set

  abbrev LabelKept : NearLabel → Type 0
  LabelKept l = NearLabelFits g l × HasMemory l

  same_near_label : (l m : NearLabel) → LabelKept l → LabelKept m → written_near_label g l ≡ written_near_label g m → l ≡ m
  same_near_label l m (fits, is) (fit, was) same =
      let node : l.node ≡ m.node = ap (λ (w : WrittenNearLabel). w.node) same in
      let memory : l.memory ≡ m.memory = one_set g l.memory m.memory is was fits.memory fit.memory (ap (λ (w : WrittenNearLabel). w.memory) same) in
      let count : l.count ≡ m.count = ap (λ (w : WrittenNearLabel). w.count) same in
      let earned : l.earned ≡ m.earned = ap (λ (w : WrittenNearLabel). w.earned) same in
      let value : l.value ≡ m.value = ap (λ (w : WrittenNearLabel). w.points) same in
      λ i. label_from (node i) (memory i) (count i) (earned i) (value i)

  pub one_written : (p q : NearProof) → NearFits g p → NearFits g q → IsKept p → IsKept q → written_near g p ≡ written_near g q → p ≡ q
  one_written p q fits fit kept keeps same =
      let bound : p.bound ≡ q.bound = ap (λ (w : WrittenNear). w.bound) same in
      let weight : p.weight ≡ q.weight = ap (λ (w : WrittenNear). w.weight) same in
      let prices : p.prices ≡ q.prices = ap (λ (w : WrittenNear). w.prices) same in
      let tight : p.tight ≡ q.tight = ap (λ (w : WrittenNear). w.tight) same in
      let sets : p.sets ≡ q.sets = same_items (written_set g) SetKept (λ x y is was e. one_set g x y is.1 was.1 is.0 was.0 e) p.sets q.sets
      (all_both (AreAmong (customer_count g)) IsCustomerSet p.sets fits.sets.among kept.sets) (all_both (AreAmong (customer_count g)) IsCustomerSet q.sets fit.sets.among keeps.sets) (ap (λ (w : WrittenNear). w.sets) same) in
      let labels : p.labels ≡ q.labels = same_items (written_near_label g) LabelKept same_near_label p.labels q.labels
      (all_both (NearLabelFits g) HasMemory p.labels fits.labels kept.memories) (all_both (NearLabelFits g) HasMemory q.labels fit.labels keeps.memories) (ap (λ (w : WrittenNear). w.labels) same) in
      λ i. proof_of (bound i) (weight i) (prices i) (sets i) (labels i) (tight i)
