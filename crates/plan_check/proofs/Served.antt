-- Routes that visit only customers between their ends.
use Rattle.std.proofs.Common.{◌≡◌, ◌∙◌, ℕ, zero, suc, ◌+◌, ◌<◌, ◌≤◌, false, List, [], ◌∷◌, ◌++◌, Some, length, slice_get, refl, sym, ap, subst, arith, length-append}
use Rattle.std.proofs.lemmas.Bool.{false_from_ne_true}
use Rattle.std.proofs.lemmas.Option.{same_Some}
use Rattle.ev_model.specs.Fleet.{ServesOnly, customers_of}
use Rattle.ev_model.specs.Network.{Network}
use Rattle.ev_model.specs.Plan.{EndsAtDepot, IsEnd}
use Rattle.ev_model.specs.Route.{route_of}
use Rattle.ev_model.specs.declared.Stop.{Stop}
use Rattle.plan_check.specs.FirstFaults.{strays}
use Rattle.plan_check.specs.FleetRules.{IsStray}
use Rattle.plan_check.proofs.Strays.{customers_of-inserted, customers_of-served, customers_of-stray, inserted, kind_of, route_of-inserted, route_of-own, served, stray, strays_from, strays_parts}

-- the depot at the end is no customer
fewer_customers : (g : Network) (ss : List Stop) → EndsAtDepot ss → length (customers_of g ss) + 1 ≤ length (route_of ss)
fewer_customers g [] ends = absurd ends
fewer_customers g (s ∷ []) ends = rw ends (omega arith)
fewer_customers g (s ∷ t ∷ ss) ends =
    let rest = fewer_customers g (t ∷ ss) ends in
    elim (kind_of g s) [
      | inserted via _ _ ↦ rw (customers_of-inserted g s (t ∷ ss) via, route_of-inserted s (t ∷ ss) via) rest
      | served own customer _ _ ↦ rw (customers_of-served g s (t ∷ ss) own customer, route_of-own s (t ∷ ss) own) (omega (arith, rest))
      | stray own other _ _ ↦ rw (customers_of-stray g s (t ∷ ss) own other, route_of-own s (t ∷ ss) own) (omega (arith, rest))
    ]

-- stops up to a depot of which none but the last strays
customers_alone : (g : Network) (ss : List Stop) → EndsAtDepot ss →
    ((i : ℕ) (s : Stop) → slice_get ss i ≡ Some s → i + 1 < length ss → strays g s ≡ false) → route_of ss ≡ customers_of g ss ++ 0 ∷ []
customers_alone g [] ends keep = absurd ends
customers_alone g (s ∷ []) ends keep = rw ends refl
customers_alone g (s ∷ t ∷ ss) ends keep =
    let rest = customers_alone g (t ∷ ss) ends (λ i q there before_last. keep (suc i) q there (omega (arith, before_last))) in
    let here : strays g s ≡ false = keep 0 s refl (omega arith) in
    elim (kind_of g s) [
      | inserted via _ _ ↦ rw (customers_of-inserted g s (t ∷ ss) via, route_of-inserted s (t ∷ ss) via) rest
      | served own customer _ _ ↦ rw (customers_of-served g s (t ∷ ss) own customer, route_of-own s (t ∷ ss) own) (ap (λ nodes. s.node ∷ nodes) rest)
      | stray own other astray _ ↦ absurd (cc)
    ]

tails : (x y : ℕ) (xs ys : List ℕ) → x ∷ xs ≡ y ∷ ys → xs ≡ ys
tails x y xs ys is = cc

-- and the other way round
none_astray : (g : Network) (ss : List Stop) → EndsAtDepot ss → route_of ss ≡ customers_of g ss ++ 0 ∷ [] →
    (i : ℕ) (s : Stop) → slice_get ss i ≡ Some s → i + 1 < length ss → strays g s ≡ false
none_astray g [] ends only i q there before_last = absurd ends
none_astray g (s ∷ []) ends only i q there before_last = absurd (omega (arith, before_last))
none_astray g (s ∷ t ∷ ss) ends only i q there before_last = elim (kind_of g s) [
  | inserted via keeps _ ↦ at_place g s (t ∷ ss) keeps (none_astray g (t ∷ ss) ends
      (sym (route_of-inserted s (t ∷ ss) via) ∙ only ∙ ap (λ nodes. nodes ++ 0 ∷ []) (customers_of-inserted g s (t ∷ ss) via))) i q there before_last
  | served own customer keeps _ ↦ at_place g s (t ∷ ss) keeps (none_astray g (t ∷ ss) ends
      (tails s.node s.node (route_of (t ∷ ss)) (customers_of g (t ∷ ss) ++ 0 ∷ [])
      (sym (route_of-own s (t ∷ ss) own) ∙ only ∙ ap (λ nodes. nodes ++ 0 ∷ []) (customers_of-served g s (t ∷ ss) own customer)))) i q there before_last
  | stray own other _ _ ↦
      let same = sym (route_of-own s (t ∷ ss) own) ∙ only ∙ ap (λ nodes. nodes ++ 0 ∷ []) (customers_of-stray g s (t ∷ ss) own other) in
      absurd (omega (arith, ap length same, length-append (customers_of g (t ∷ ss)) (0 ∷ []), fewer_customers g (t ∷ ss) ends))
]
  where
    at_place : (g : Network) (s : Stop) (ss : List Stop) → strays g s ≡ false →
        ((i : ℕ) (q : Stop) → slice_get ss i ≡ Some q → i + 1 < length ss → strays g q ≡ false) →
        (i : ℕ) (q : Stop) → slice_get (s ∷ ss) i ≡ Some q → i + 1 < length (s ∷ ss) → strays g q ≡ false
    at_place g s ss keeps rest zero q there before_last = subst (λ (r : Stop). strays g r ≡ false) (same_Some s q there) keeps
    at_place g s ss keeps rest (suc i) q there before_last = rest i q there (omega (arith, before_last))

-- a plan without a stray stop serves only customers
pub serves_only : (g : Network) (first : Stop) (ss : List Stop) → IsEnd first → EndsAtDepot ss → ((at : ℕ) → IsStray g (first ∷ ss) at → ⊥) → ServesOnly g (first ∷ ss)
serves_only g first ss begins ends none =
    let only = customers_alone g ss ends (λ i s there before_last. keeps i s there before_last) in
    rw begins (ap (λ nodes. 0 ∷ nodes) only)
  where
    keeps : (i : ℕ) (s : Stop) → slice_get ss i ≡ Some s → i + 1 < length ss → strays g s ≡ false
    keeps i s there before_last = false_from_ne_true (strays g s) (λ astray.
        let parts = strays_parts g s astray in
        none (suc i) (record {
          stop = s;
          there = there;
          behind_first = omega arith;
          before_last = omega (arith, before_last);
          own = parts.0;
          elsewhere = parts.1;
        }))

-- a plan that serves only customers has no stray stop
pub no_stray : (g : Network) (first : Stop) (ss : List Stop) → IsEnd first → EndsAtDepot ss → ServesOnly g (first ∷ ss) → (at : ℕ) → IsStray g (first ∷ ss) at → ⊥
no_stray g first ss begins ends only zero astray = omega (arith, astray.behind_first)
no_stray g first ss begins ends only (suc i) astray =
    let only_behind : route_of ss ≡ customers_of g ss ++ 0 ∷ [] = tails 0 0 (route_of ss) (customers_of g ss ++ 0 ∷ []) (rw begins at only) in
    let keeps = none_astray g ss ends only_behind i astray.stop astray.there (omega (arith, astray.before_last)) in
    let goes = strays_from g astray.stop astray.own astray.elsewhere in
    cc
