-- The customers among the first nodes, one node after another.
use Rattle.std.proofs.Common.{◌≡◌, ◌∙◌, ℕ, ◌+◌, List, [], ◌∷◌, ◌++◌, Option, None, Some, true, false, length, filter, get_or, refl, inl, inr, arith, length-append}
use Rattle.std.proofs.lemmas.Bool.{cases_lt}
use Rattle.std.proofs.lemmas.Grind.{common_steps}
use Rattle.std.proofs.lemmas.List.{append-nil, get_or_push, map-id}
use Rattle.std.proofs.lemmas.List.Elements.{filter-append}
use Rattle.std.proofs.lemmas.List.FromFn.{map-range_with_len_more}
use Rattle.std.proofs.lemmas.Option.{slice_get_within}
use Rattle.std.specs.List.{range_with_len}
use Rattle.instance_reader.proofs.ListLemmas.{slice_get-append, slice_get-seam}
use Rattle.instance_reader.specs.Customers.{AreCustomers, IsIndexOf, has_customer}

-- one more number
pub range_with_len-more : (n : ℕ) → range_with_len 0 (n + 1) ≡ range_with_len 0 n ++ n ∷ []
range_with_len-more n =
    let more = map-range_with_len_more (λ x. x) 0 n n (omega arith) in
    simp map-id at more

-- the nodes so far keep their indices
kept : (curves : List (Option ℕ)) (customers more : List ℕ) (node : ℕ) (o : Option ℕ) → IsIndexOf curves customers node o →
    IsIndexOf curves (customers ++ more) node o
kept curves customers more node None h = h
kept curves customers more node (Some number) h =
    (h.0, slice_get-append customers more number (slice_get_within customers number node h.1) ∙ h.1)

-- the next node, with its index if it is a customer
one_more : (curves : List (Option ℕ)) (nodes : ℕ) (customers more : List ℕ) (numbers : List (Option ℕ)) (o : Option ℕ) →
    AreCustomers curves nodes customers numbers → filter (has_customer curves) (nodes ∷ []) ≡ more → IsIndexOf curves (customers ++ more) nodes o →
    AreCustomers curves (nodes + 1) (customers ++ more) (numbers ++ o ∷ [])
one_more curves nodes customers more numbers o h is index = record {
  list = rw (range_with_len-more nodes, filter-append (has_customer curves) (range_with_len 0 nodes) (nodes ∷ []), ← h.list, is) refl;
  all = omega (arith, length-append numbers (o ∷ []), h.all);
  each = λ node within. elim (cases_lt node nodes) [
    | inl lt ↦
        let before : get_or (numbers ++ o ∷ []) node None ≡ get_or numbers node None = grind (arith, common_steps, h.all) in
        rw before (kept curves customers more node (get_or numbers node None) (h.each node lt))
    | inr ge ↦
        let here : get_or (numbers ++ o ∷ []) node None ≡ o = get_or_push numbers o None node (omega (arith, h.all)) in
        let same : node ≡ nodes = omega arith in
        rw (here, same) index
  ];
}

-- a customer is added to both lists
pub AreCustomers-customer : (curves : List (Option ℕ)) (nodes : ℕ) (customers longer : List ℕ) (numbers all : List (Option ℕ)) →
    AreCustomers curves nodes customers numbers → has_customer curves nodes ≡ true →
    longer ≡ customers ++ nodes ∷ [] → all ≡ numbers ++ Some (length customers) ∷ [] → AreCustomers curves (nodes + 1) longer all
AreCustomers-customer curves nodes customers longer numbers all h yes_customer is_longer is_all =
    rw (is_longer, is_all) (one_more curves nodes customers (nodes ∷ []) numbers (Some (length customers)) h (rw yes_customer refl)
    (yes_customer, slice_get-seam customers nodes))

-- any other node leaves the customers as they are
pub AreCustomers-other : (curves : List (Option ℕ)) (nodes : ℕ) (customers same : List ℕ) (numbers all : List (Option ℕ)) →
    AreCustomers curves nodes customers numbers → has_customer curves nodes ≡ false →
    same ≡ customers → all ≡ numbers ++ None ∷ [] → AreCustomers curves (nodes + 1) same all
AreCustomers-other curves nodes customers same numbers all h no_customer is_same is_all =
    let more = one_more curves nodes customers [] numbers None h (rw no_customer refl) no_customer in
    rw (is_same, is_all) (simp append-nil at more)
