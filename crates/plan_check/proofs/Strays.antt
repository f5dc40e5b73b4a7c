-- Stray stops, and the stops that serve customers.
use Rattle.std.proofs.Common.{◌≡◌, ◌≢◌, ◌∙◌, ℕ, zero, suc, ◌+◌, ◌<◌, true, false, List, [], ◌∷◌, None, Some, length, slice_get, refl, sym, ap, subst, arith, inl, inr}
use Rattle.std.specs.List.{list_any}
use Rattle.std.proofs.lemmas.Bool.{cases_Bool}
use Rattle.std.proofs.lemmas.Option.{same_Some}
use Rattle.ev_model.specs.Fleet.{customers_of}
use Rattle.ev_model.specs.Network.{Network, is_customer}
use Rattle.ev_model.specs.Route.{route_of}
use Rattle.ev_model.specs.declared.Stop.{Stop}
use Rattle.plan_check.specs.FirstFaults.{first_stray, serves, strays}
use Rattle.route_plan.specs.FirstPlaces.{behind_first}
use Rattle.plan_check.specs.FleetRules.{IsStray}

-- ---- where a stop serves a customer, strays or is passed over

pub data Kind (g : Network) (s : Stop) : Type 0 where
  inserted : s.via ≡ true → strays g s ≡ false → serves g s ≡ false → Kind g s
  served : s.via ≡ false → is_customer g s.node ≡ true → strays g s ≡ false → serves g s ≡ true → Kind g s
  stray : s.via ≡ false → is_customer g s.node ≡ false → strays g s ≡ true → serves g s ≡ false → Kind g s

pub kind_of : (g : Network) (s : Stop) → Kind g s
kind_of g s = elim (cases_Bool s.via) [
  | inl via ↦ inserted via (rw via refl) (rw via refl)
  | inr own ↦ elim (cases_Bool (is_customer g s.node)) [
    | inl customer ↦ served own customer (rw (own, customer) refl) (rw (own, customer) refl)
    | inr other ↦ stray own other (rw (own, other) refl) (rw (own, other) refl)
  ]
]

-- the nodes of a route and its customers, with one stop in front
pub route_of-inserted : (s : Stop) (ss : List Stop) → s.via ≡ true → route_of (s ∷ ss) ≡ route_of ss
route_of-inserted s ss via = rw via refl

pub route_of-own : (s : Stop) (ss : List Stop) → s.via ≡ false → route_of (s ∷ ss) ≡ s.node ∷ route_of ss
route_of-own s ss own = rw own refl

pub customers_of-inserted : (g : Network) (s : Stop) (ss : List Stop) → s.via ≡ true → customers_of g (s ∷ ss) ≡ customers_of g ss
customers_of-inserted g s ss via = rw via refl

pub customers_of-served : (g : Network) (s : Stop) (ss : List Stop) → s.via ≡ false → is_customer g s.node ≡ true → customers_of g (s ∷ ss) ≡ s.node ∷ customers_of g ss
customers_of-served g s ss own customer = rw (own, customer) refl

pub customers_of-stray : (g : Network) (s : Stop) (ss : List Stop) → s.via ≡ false → is_customer g s.node ≡ false → customers_of g (s ∷ ss) ≡ customers_of g ss
customers_of-stray g s ss own other = rw (own, other) refl

-- ---- routes with a customer

pub serves_none : (g : Network) (stops : List Stop) → list_any (serves g) stops ≡ false → customers_of g stops ≡ []
serves_none g [] is = refl
serves_none g (s ∷ ss) is = elim (kind_of g s) [
  | inserted via _ skip ↦ customers_of-inserted g s ss via ∙ serves_none g ss (rw skip at is)
  | served own customer _ here ↦ let h : true ≡ false = rw here at is in absurd (cc)
  | stray own other _ skip ↦ customers_of-stray g s ss own other ∙ serves_none g ss (rw skip at is)
]

pub serves_some : (g : Network) (stops : List Stop) → list_any (serves g) stops ≡ true → customers_of g stops ≢ []
serves_some g [] is none = absurd (cc)
serves_some g (s ∷ ss) is none = elim (kind_of g s) [
  | inserted via _ skip ↦ serves_some g ss (rw skip at is) (sym (customers_of-inserted g s ss via) ∙ none)
  | served own customer _ here ↦ let h : s.node ∷ customers_of g ss ≡ [] = sym (customers_of-served g s ss own customer) ∙ none in cc
  | stray own other _ skip ↦ serves_some g ss (rw skip at is) (sym (customers_of-stray g s ss own other) ∙ none)
]

-- ---- the first stray stop

-- the first stop before the last that strays
record IsFirstStray (g : Network) (stops : List Stop) (n at : ℕ) : Type 0 where
  place : ℕ
  stop : Stop
  is : at ≡ n + place
  there : slice_get stops place ≡ Some stop
  before_last : place + 1 < length stops
  astray : strays g stop ≡ true
  first : (i : ℕ) (s : Stop) → i < place → slice_get stops i ≡ Some s → strays g s ≡ false

module _ (g : Network) (s t : Stop) (ss : List Stop) (n at : ℕ) where
  strays_here : strays g s ≡ true → n ≡ at → IsFirstStray g (s ∷ t ∷ ss) n at
  strays_here astray same = record {
    place = 0;
    stop = s;
    is = omega (arith, same);
    there = refl;
    before_last = omega arith;
    astray = astray;
    first = λ i q below there. absurd (omega (arith, below));
  }

  strays_later : strays g s ≡ false → IsFirstStray g (t ∷ ss) (n + 1) at → IsFirstStray g (s ∷ t ∷ ss) n at
  strays_later keeps rest = record {
    place = suc rest.place;
    stop = rest.stop;
    is = omega (arith, rest.is);
    there = rest.there;
    before_last = omega (arith, rest.before_last);
    astray = rest.astray;
    first = earlier;
  }
    where
      earlier : (i : ℕ) (q : Stop) → i < suc rest.place → slice_get (s ∷ t ∷ ss) i ≡ Some q → strays g q ≡ false
      earlier zero q below there = subst (λ (r : Stop). strays g r ≡ false) (same_Some s q there) keeps
      earlier (suc i) q below there = rest.first i q (omega (arith, below)) there

found_stray : (g : Network) (stops : List Stop) (n at : ℕ) → first_stray g n stops ≡ Some at → IsFirstStray g stops n at
found_stray g [] n at is = absurd (cc)
found_stray g (s ∷ []) n at is = absurd (cc)
found_stray g (s ∷ t ∷ ss) n at is = elim (cases_Bool (strays g s)) [
  | inl astray ↦ let here : Some n ≡ Some at = rw astray at is in strays_here g s t ss n at astray (same_Some n at here)
  | inr keeps ↦ let later : first_stray g (n + 1) (t ∷ ss) ≡ Some at = rw keeps at is in strays_later g s t ss n at keeps (found_stray g (t ∷ ss) (n + 1) at later)
]

none_strays : (g : Network) (stops : List Stop) (n : ℕ) → first_stray g n stops ≡ None → (i : ℕ) (s : Stop) → slice_get stops i ≡ Some s → i + 1 < length stops → strays g s ≡ false
none_strays g [] n is i s there before_last = absurd (omega (arith, before_last))
none_strays g (s ∷ []) n is i q there before_last = absurd (omega (arith, before_last))
none_strays g (s ∷ t ∷ ss) n is zero q there before_last = elim (cases_Bool (strays g s)) [
  | inl astray ↦ let found : Some n ≡ None = rw astray at is in absurd (cc)
  | inr keeps ↦ subst (λ (r : Stop). strays g r ≡ false) (same_Some s q there) keeps
]
none_strays g (s ∷ t ∷ ss) n is (suc i) q there before_last = elim (cases_Bool (strays g s)) [
  | inl astray ↦ let found : Some n ≡ None = rw astray at is in absurd (cc)
  | inr keeps ↦ let later : first_stray g (n + 1) (t ∷ ss) ≡ None = rw keeps at is in none_strays g (t ∷ ss) (n + 1) later i q there (omega (arith, before_last))
]

pub strays_from : (g : Network) (s : Stop) → s.via ≡ false → is_customer g s.node ≡ false → strays g s ≡ true
strays_from g s own other = rw (own, other) refl

pub strays_parts : (g : Network) (s : Stop) → strays g s ≡ true → (s.via ≡ false) × (is_customer g s.node ≡ false)
strays_parts g s astray = elim (kind_of g s) [
  | inserted via keeps _ ↦ absurd (cc)
  | served own customer keeps _ ↦ absurd (cc)
  | stray own other _ _ ↦ (own, other)
]

-- the first stray stop of a route
pub record StraysFirst (g : Network) (stops : List Stop) (at : ℕ) : Type 0 where
  pub is : IsStray g stops at
  pub first : (other : ℕ) → other < at → IsStray g stops other → ⊥

pub first_stray-Some : (g : Network) (stops : List Stop) (at : ℕ) → first_stray g 1 (behind_first stops) ≡ Some at → StraysFirst g stops at
first_stray-Some g [] at is = absurd (cc)
first_stray-Some g (s ∷ ss) at is =
    let found = found_stray g ss 1 at is in
    let place : at ≡ suc found.place = omega (arith, found.is) in
    let parts = strays_parts g found.stop found.astray in
    record {
      is = record {
        stop = found.stop;
        there = ap (λ n. slice_get (s ∷ ss) n) place ∙ found.there;
        behind_first = omega (arith, place);
        before_last = omega (arith, place, found.before_last);
        own = parts.0;
        elsewhere = parts.1;
      };
      first = earlier g s ss at found;
    }
  where
    earlier : (g : Network) (s : Stop) (ss : List Stop) (at : ℕ) → IsFirstStray g ss 1 at → (other : ℕ) → other < at → IsStray g (s ∷ ss) other → ⊥
    earlier g s ss at found zero below astray = omega (arith, astray.behind_first)
    earlier g s ss at found (suc i) below astray =
        let keeps = found.first i astray.stop (omega (arith, found.is, below)) astray.there in
        let goes = strays_from g astray.stop astray.own astray.elsewhere in
        cc

pub first_stray-None : (g : Network) (stops : List Stop) → first_stray g 1 (behind_first stops) ≡ None → (at : ℕ) → IsStray g stops at → ⊥
first_stray-None g [] is at astray = omega (arith, astray.before_last)
first_stray-None g (s ∷ ss) is zero astray = omega (arith, astray.behind_first)
first_stray-None g (s ∷ ss) is (suc i) astray =
    let keeps = none_strays g ss 1 is i astray.stop astray.there (omega (arith, astray.before_last)) in
    let goes = strays_from g astray.stop astray.own astray.elsewhere in
    cc
