-- Near routes, tested by the numbers of their customers.
use Rattle.std.proofs.Common.{◌≡◌, ◌∙◌, ℕ, ◌+◌, ◌<◌, ◌≤◌, true, false, ◌&&◌, ◌||◌, List, [], ◌∷◌, ◌++◌, Option, Some, None, map, length, drop, refl, sym, ap, subst, arith, ◌↔◌, append_assoc}
use Rattle.std.specs.Prelude.{nat_eq, slice_index, slice_index_or}
use Rattle.std.proofs.lemmas.List.{drop_more, length-map}
use Rattle.customer_sets.specs.CustSet.{has}
use Rattle.ev_model.specs.Feasible.{IsFeasible}
use Rattle.ev_model.specs.Fleet.{customers_of, ServesOnly, times_in}
use Rattle.ev_model.specs.Network.{is_customer, Network}
use Rattle.ev_model.specs.Time.{time_of}
use Rattle.ev_model.specs.declared.Stop.{Stop}
use Rattle.fleet_model.specs.Places.{customer_count, customer_number, numbers_of}
use Rattle.fleet_model.proofs.Numbers.{numbered}
use Rattle.instance_reader.specs.Instance.{IsCustomerNumber}
use Rattle.near_proof.specs.Accepted.{IsTight}
use Rattle.near_proof.specs.Routes.{KeepsMemory}
use Rattle.near_proof.specs.Terms.{earned_by, near_set, remembered, Terms}
use Rattle.near_proof.proofs.Members.{keeps_same, remembered_is}

-- ---- the numbers of the customers

numbers_own : (g : Network) (s : Stop) (ss : List Stop) → s.via ≡ false → is_customer g s.node ≡ true → numbers_of g (s ∷ ss) ≡ customer_number g s.node ∷ numbers_of g ss
numbers_own g s ss own is = rw (own, is) refl

-- one more stop is looked at
module _ (g : Network) (stops : List Stop) (taken : List ℕ) (i : ℕ) (d : Stop) (less : i < length stops) (told : taken ++ numbers_of g (drop i stops) ≡ numbers_of g stops) where
  left : numbers_of g (drop i stops) ≡ numbers_of g (slice_index_or stops i d ∷ drop (i + 1) stops)
  left = ap (numbers_of g) (drop_more stops i d less)

  pub taken_one : (n : ℕ) → (slice_index_or stops i d).via ≡ false → IsCustomerNumber g (slice_index_or stops i d).node (Some n) → (taken ++ n ∷ []) ++ numbers_of g (drop (i + 1) stops) ≡ numbers_of g stops
  taken_one n own number =
      let same : numbers_of g (drop i stops) ≡ n ∷ numbers_of g (drop (i + 1) stops) = left ∙ numbers_own g (slice_index_or stops i d) (drop (i + 1) stops) own number.0 ∙ ap (λ m. m ∷ numbers_of g (drop (i + 1) stops)) (sym (numbered g n (slice_index_or stops i d).node number.1)) in
      append_assoc taken (n ∷ []) (numbers_of g (drop (i + 1) stops)) ∙ ap (λ ns. taken ++ ns) (sym same) ∙ told

-- ---- memories along the numbers

module _ (sets : List (List ℕ)) (memory next cs : List ℕ) (c : ℕ) (is : (d : ℕ) → has next d ≡ has (remembered sets memory c) d) where
  -- after a further customer, who isn't remembered
  pub keeps_on : has memory c ≡ false → KeepsMemory sets memory (c ∷ cs) ↔ KeepsMemory sets next cs
  keeps_on new = (
    λ keeps. keeps_same sets next (remembered sets memory c) cs (λ d h. sym (is d) ∙ h) keeps.1,
    λ keeps. (new, keeps_same sets (remembered sets memory c) next cs (λ d h. is d ∙ h) keeps),
  )

-- the next customer of a list, by the index
pub keeps_next : (sets : List (List ℕ)) (memory next near cs : List ℕ) (i : ℕ) → i < length cs → near ≡ near_set sets (slice_index cs i) → ((d : ℕ) → has next d ≡ (nat_eq (slice_index cs i) d || (has memory d && has near d))) → has memory (slice_index cs i) ≡ false
    → KeepsMemory sets memory (drop i cs) ↔ KeepsMemory sets next (drop (i + 1) cs)
keeps_next sets memory next near cs i less near_is is new =
    let c = slice_index cs i in
    let parts : drop i cs ≡ slice_index cs i ∷ drop (i + 1) cs = drop_more cs i 0 less in
    let told : (d : ℕ) → has next d ≡ has (remembered sets memory (slice_index cs i)) d = λ d. is d ∙ ap (λ (n : List ℕ). nat_eq (slice_index cs i) d || (has memory d && has n d)) near_is ∙ sym (remembered_is sets memory c d) in
    let on = keeps_on sets memory next (drop (i + 1) cs) c told new in
    (λ keeps. on.0 (subst (KeepsMemory sets memory) parts keeps), λ keeps. subst (KeepsMemory sets memory) (sym parts) (on.1 keeps))

-- a tight route from its parts
pub tight_route : (g : Network) (t : Terms) (c : ℕ) (plan : List Stop) → IsFeasible g 1 g.capacity plan → ServesOnly g plan → length (numbers_of g plan) ≤ customer_count g → KeepsMemory t.sets [] (numbers_of g plan) → 1 ≤ times_in (numbers_of g plan) c
    → time_of g 1 g.capacity plan < earned_by t.prices (numbers_of g plan) + times_in (numbers_of g plan) c → IsTight g t c plan
tight_route g t c plan feasible only few keeps serves time = record {
  route = record {
    feasible = feasible;
    only = only;
    some = λ none. (let gone : times_in (numbers_of g plan) c ≡ 0 = ap (λ cs. times_in (map (customer_number g) cs) c) none in omega (arith, gone, serves));
    few = omega (arith, few, length-map (customers_of g plan) (customer_number g));
    keeps = keeps;
  };
  serves = serves;
  time = time;
}

-- how many numbers there are
pub few_numbers : (g : Network) (t : Terms) (c : ℕ) (plan : List Stop) → IsTight g t c plan → length (numbers_of g plan) ≤ customer_count g
few_numbers g t c plan tight = omega (arith, tight.route.few, length-map (customers_of g plan) (customer_number g))
