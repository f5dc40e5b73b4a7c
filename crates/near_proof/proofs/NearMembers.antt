-- Near sets, made customer by customer.
use Rattle.std.proofs.Common.{◌≡◌, ◌∙◌, ℕ, ◌+◌, ◌<◌, true, false, ◌||◌, List, [], ◌∷◌, ◌++◌, length, Some, refl, sym, ap, subst, arith, inl, inr, nat_eq}
use Rattle.std.specs.Prelude.{slice_get, slice_index, slice_index_or}
use Rattle.std.proofs.lemmas.Bool.{cases_Bool, cases_eq, eq-eqb, eqb-true, ne_eqb, or_cases}
use Rattle.std.proofs.lemmas.List.{get_or_default, length-append}
use Rattle.std.proofs.lemmas.Option.{same_Some, slice_get_read, slice_get_within}
use Rattle.customer_sets.specs.CustSet.{has}
use Rattle.ev_model.specs.Network.{Network}
use Rattle.instance_reader.specs.Instance.{customer_nodes}
use Rattle.instance_reader.proofs.ListLemmas.{slice_get-append, slice_get-seam}
use Rattle.near_proof.specs.NearSets.{AreNearSets, belongs, IsNearSet}

-- so far, of the first customers
pub record HoldsTo (g : Network) (near a : ℕ) (customers set : List ℕ) (to : ℕ) : Type 0 where
  pub members : (n x : ℕ) → n < to → slice_get customers n ≡ Some x → has set n ≡ belongs g near a x
  pub among : (n : ℕ) → has set n ≡ true → n < to

module _ (g : Network) (near a : ℕ) (customers set : List ℕ) (i : ℕ) (less : i < length customers) (before : HoldsTo g near a customers set i) where
  default_is : slice_index customers i ≡ slice_index_or customers i (slice_index customers i)
  default_is = get_or_default customers i 0 (slice_index customers i) less

  here : (n x : ℕ) → n ≡ i → slice_get customers n ≡ Some x → slice_index customers i ≡ x
  here n x same at =
      let own : slice_get customers i ≡ Some (slice_index customers i) = slice_get_read customers (length customers) i (slice_index customers i) refl less default_is in
      same_Some (slice_index customers i) x (sym own ∙ subst (λ m. slice_get customers m ≡ Some x) same at)

  absent_yet : has set i ≡ false
  absent_yet = elim (cases_Bool (has set i)) [
    | inl is ↦ absurd (let low = before.among i is in omega (arith, low))
    | inr other ↦ other
  ]

  pub holds_without : belongs g near a (slice_index customers i) ≡ false → HoldsTo g near a customers set (i + 1)
  holds_without other = record {
    members = λ n x low at. elim (cases_eq n i) [
      | inl same ↦ ap (has set) same ∙ absent_yet ∙ sym other ∙ ap (belongs g near a) (here n x same at)
      | inr apart ↦ before.members n x (omega (arith, low, apart)) at
    ];
    among = λ n is. (let low = before.among n is in omega (arith, low));
  }

  pub holds_with : (next : List ℕ) → belongs g near a (slice_index customers i) ≡ true → ((x : ℕ) → has next x ≡ (nat_eq i x || has set x)) → HoldsTo g near a customers next (i + 1)
  holds_with next its with_i = record {
    members = λ n x low at. elim (cases_eq i n) [
      | inl same ↦ with_i n ∙ ap (λ b. b || has set n) (eq-eqb i n same) ∙ sym its ∙ ap (belongs g near a) (here n x (sym same) at)
      | inr apart ↦ with_i n ∙ ap (λ b. b || has set n) (ne_eqb i n apart) ∙ before.members n x (omega (arith, low, apart)) at
    ];
    among = λ n is. elim (or_cases (nat_eq i n) (has set n) (sym (with_i n) ∙ is)) [
      | inl same ↦ (let e = eqb-true i n same in omega (arith, e))
      | inr old ↦ (let low = before.among n old in omega (arith, low))
    ];
  }

pub is_near_set : (g : Network) (near a : ℕ) (customers set : List ℕ) (to : ℕ) → customers ≡ customer_nodes g → to ≡ length customers → HoldsTo g near a customers set to → IsNearSet g near a set
is_near_set g near a customers set to all count holds = record {
  members = λ n x at. (let own = subst (λ (cs : List ℕ). slice_get cs n ≡ Some x) (sym all) at in let low = slice_get_within customers n x own in holds.members n x (omega (arith, count, low)) own);
  among = λ n is. (let low = holds.among n is in omega (arith, low, count, ap length all));
}

-- so far, the near sets of the first customers
pub record SetsHold (g : Network) (near : ℕ) (customers : List ℕ) (sets : List (List ℕ)) (to : ℕ) : Type 0 where
  pub one_set : length sets ≡ to
  pub each : (n a : ℕ) (set : List ℕ) → slice_get customers n ≡ Some a → slice_get sets n ≡ Some set → IsNearSet g near a set

pub sets_more : (g : Network) (near : ℕ) (customers : List ℕ) (sets : List (List ℕ)) (i : ℕ) (set : List ℕ) → i < length customers → SetsHold g near customers sets i → IsNearSet g near (slice_index customers i) set → SetsHold g near customers (sets ++ set ∷ []) (i + 1)
sets_more g near customers sets i set less before is = record {
  one_set = omega (arith, before.one_set, length-append sets (set ∷ []));
  each = λ n a other at own. elim (cases_eq n i) [
    | inl same ↦
        let here : slice_get customers i ≡ Some (slice_index customers i) = slice_get_read customers (length customers) i (slice_index customers i) refl less (get_or_default customers i 0 (slice_index customers i) less) in
        let node : slice_index customers i ≡ a = same_Some (slice_index customers i) a (sym here ∙ subst (λ m. slice_get customers m ≡ Some a) same at) in
        let last : slice_get (sets ++ set ∷ []) i ≡ Some set = ap (λ k. slice_get (sets ++ set ∷ []) k) (sym before.one_set) ∙ slice_get-seam sets set in
        let value : set ≡ other = same_Some set other (sym last ∙ subst (λ m. slice_get (sets ++ set ∷ []) m ≡ Some other) same own) in
        subst (λ (s : List ℕ). IsNearSet g near a s) value (subst (λ m. IsNearSet g near m set) node is)
    | inr apart ↦
        let within = slice_get_within (sets ++ set ∷ []) n other own in
        let low : n < length sets = omega (arith, within, length-append sets (set ∷ []), before.one_set, apart) in
        before.each n a other at (sym (slice_get-append sets (set ∷ []) n low) ∙ own)
  ];
}

pub are_near_sets : (g : Network) (near : ℕ) (customers : List ℕ) (sets : List (List ℕ)) (to : ℕ) → customers ≡ customer_nodes g → to ≡ length customers → SetsHold g near customers sets to → AreNearSets g near sets
are_near_sets g near customers sets to all count holds = record {
  one_set = omega (arith, holds.one_set, count, ap length all);
  each = λ n a set at own. holds.each n a set (subst (λ (cs : List ℕ). slice_get cs n ≡ Some a) (sym all) at) own;
}
