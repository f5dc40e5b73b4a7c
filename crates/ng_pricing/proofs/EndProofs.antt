-- The proof at the end.
use Rattle.std.proofs.Common.{◌≡◌, ◌∙◌, ℕ, zero, suc, ◌+◌, ◌*◌, ◌<◌, ◌≤◌, ◌^◌, true, ◌||◌, refl, sym, ap, subst, List, [], ◌∷◌, get_or, length, set, Option, None, Some, Result, Ok, Err, IfOk, IfSome, arith, inl, inr}
use Rattle.std.specs.List.{All}
use Rattle.std.specs.declared.alloc.AllocError.{AllocError}
use Rattle.std.specs.Prelude.{nat_eq, nat_lt, slice_get, slice_index_or}
use Rattle.std.proofs.Math.Nat.{mul-le-mul_left}
use Rattle.std.proofs.lemmas.Bool.{cases_lt, eq-eqb}
use Rattle.std.proofs.lemmas.List.{get_or-set_same}
use Rattle.std.proofs.lemmas.List.Elements.{All-nil}
use Rattle.std.proofs.lemmas.List.Sums.{sum_by-cons}
use Rattle.std.proofs.lemmas.Option.{slice_get-get_or, slice_get_within}
use Rattle.certificate_parts.specs.Ranges.{ColumnFits}
use Rattle.customer_sets.specs.CustSet.{has}
use Rattle.ev_model.specs.Fleet.{times_in}
use Rattle.ev_model.specs.Network.{IsNetwork, Network, node_count}
use Rattle.fleet_model.specs.Places.{customer_number, numbers_of}
use Rattle.fleet_model.proofs.Counts.{number_less}
use Rattle.fleet_model.proofs.Numbers.{counted}
use Rattle.instance_reader.specs.Instance.{customer_nodes, most_customers}
use Rattle.near_proof.specs.NearSets.{AreNearSets, sooner_count}
use Rattle.near_proof.specs.Accepted.{IsAccepted, IsTight}
use Rattle.near_proof.specs.Ranges.{AreAmong, NearFits, SetsFit}
use Rattle.near_proof.specs.Terms.{price_total}
use Rattle.near_proof.specs.Truth.{NearRoutesPay}
use Rattle.near_proof.specs.declared.proof.NearProof.{NearProof}
use Rattle.near_proof.proofs.Truths.{is_true}
use Rattle.route_plan.specs.declared.plan.RoutePlan.{RoutePlan}
use Rattle.ng_pricing.specs.Fixing.{alone, IsRisen, IsRising, IsUnserved, proof_of, proof_of_none, TightRoute}
use Rattle.near_text.specs.NearIn.{IsKept}
use Rattle.ng_pricing.specs.NearBound.{IsBoundFrom, IsNearBound}
use Rattle.ng_pricing.specs.Rising.{AreGreatest, AreRisenFrom, begun_from, IsGreatest, IsGreatestFrom, terms_at}
use Rattle.ng_pricing.specs.declared.raising.Rising.{Rising}
use Rattle.ng_pricing.specs.declared.setting.ClosedAt.{ClosedAt}
use Rattle.ng_pricing.proofs.Earnings.{from_earned, from_earns_less, from_nothing, length_nothing, nothing_at, nothing_but, zeros}
use Rattle.ng_pricing.proofs.Lowered.{none_is_lowered}
use Rattle.ng_pricing.proofs.Risen.{closed_pay, long_alone, small_alone}

-- ---- near sets have their own customers
module _ (g : Network) (near : ℕ) (sets : List (List ℕ)) (are : AreNearSets g near sets) where
  node_of : (c : ℕ) → c < length (customer_nodes g) → slice_get (customer_nodes g) c ≡ Some (get_or (customer_nodes g) c 0)
  node_of c less = slice_get-get_or (customer_nodes g) c 0 less

  among : (c : ℕ) (set : List ℕ) → slice_get sets c ≡ Some set → AreAmong (length (customer_nodes g)) set
  among c set at =
      let less : c < length (customer_nodes g) = omega (arith, slice_get_within sets c set at, are.one_set) in
      (are.each c (get_or (customer_nodes g) c 0) set (node_of c less) at).among

  own : (c : ℕ) (set : List ℕ) → slice_get sets c ≡ Some set → has set c ≡ true
  own c set at =
      let less : c < length (customer_nodes g) = omega (arith, slice_get_within sets c set at, are.one_set) in
      let a = get_or (customer_nodes g) c 0 in
      let same : nat_eq a a ≡ true = eq-eqb a a refl in
      (are.each c a set (node_of c less) at).members c a (node_of c less) ∙ ap (λ b. b || nat_lt (sooner_count g a a (customer_nodes g)) near) same

  pub sets_fit : SetsFit (length (customer_nodes g)) sets
  sets_fit = record {
    one_set = are.one_set;
    among = λ c d less. among c (slice_index_or sets c d) (slice_get-get_or sets c d less);
    own = own;
  }

-- ---- the price sum
total_is_small : (most : ℕ) (prices : List ℕ) → All (λ price. price ≤ most) prices → price_total prices ≤ length prices * most
total_is_small most [] all = omega arith
total_is_small most (p ∷ ps) all =
    let first : p ≤ most = all 0 0 (omega arith) in
    let rest = total_is_small most ps (λ i d less. all (suc i) d (omega (arith, less))) in
    omega (arith, first, rest, sum_by-cons (λ (price : ℕ). price) p ps)

total_at_least : (prices : List ℕ) (c : ℕ) → c < length prices → get_or prices c 0 ≤ price_total prices
total_at_least [] c less = absurd (omega (arith, less))
total_at_least (p ∷ ps) zero less = omega (arith, sum_by-cons (λ (price : ℕ). price) p ps)
total_at_least (p ∷ ps) (suc c) less = omega (arith, total_at_least ps c (omega (arith, less)), sum_by-cons (λ (price : ℕ). price) p ps)

-- ---- prices
module _ (g : Network) (sets : List (List ℕ)) (base prices : List ℕ) (above : (j : ℕ) → get_or base j 0 ≤ get_or prices j 0) (c : ℕ) (less : c < length prices) (plan : RoutePlan) (tight : TightRoute g sets base prices c plan) where
  -- at all prices too
  pub tight_at_end : IsTight g (terms_at sets prices) c plan.stops
  tight_at_end =
      let more = from_earns_less base prices c (numbers_of g plan.stops) less above in
      record {
        route = tight.route;
        serves = tight.serves;
        time = omega (arith, tight.time, more);
      }

  greatest : (price : ℕ) → NearRoutesPay g (terms_at sets (begun_from base prices c price)) → price ≤ get_or prices c 0
  greatest price pay =
      let fixed = get_or prices c 0 in
      let numbers = numbers_of g plan.stops in
      let times = times_in numbers c in
      let paid = pay plan.stops tight.route in
      let high = from_earned base prices c price numbers less in
      let low = from_earned base prices c fixed numbers less in
      elim (cases_lt fixed price) [
        | inl above ↦
            let more : times * (fixed + 1) ≤ times * price = mul-le-mul_left times (omega (arith, above)) in
            absurd (omega (arith, more, high, low, paid, tight.time))
        | inr within ↦ omega (arith, within)
      ]

  pub is_greatest : NearRoutesPay g (terms_at sets prices) → IsGreatestFrom g sets base prices c
  is_greatest pay = record {
    pays = λ stops route. (let there = pay stops route in let lower = from_earns_less base prices c (numbers_of g stops) less above in omega (arith, there, lower));
    greatest = greatest;
  }

-- ---- a proof with a bound
module _ (g : Network) (sets : List (List ℕ)) (start : List ℕ) (network : IsNetwork g) (few : length (customer_nodes g) ≤ most_customers) (sets_are : SetsFit (length (customer_nodes g)) sets) where
  module _ (r : Rising) (risen : IsRisen g sets start r) where
    is : IsRising g sets risen.base (length (customer_nodes g)) r
    is = risen.rising

    pay : NearRoutesPay g (terms_at sets r.prices.items)
    pay = closed_pay g (terms_at sets r.prices.items) r.labels network is.labels

    inside : (c : ℕ) → c < length (customer_nodes g) → c < length r.prices.items
    inside c less = omega (arith, less, is.count)

    found : (c : ℕ) → c < length (customer_nodes g) → (plan : RoutePlan) × (slice_get r.tight.items c ≡ Some plan) × TightRoute g sets risen.base r.prices.items c plan
    found c less =
        let none : RoutePlan = record { stops = [] } in
        let there = slice_get-get_or r.tight.items c none (omega (arith, less, is.one_tight)) in
        (get_or r.tight.items c none, there, is.tight c (get_or r.tight.items c none) less there)

    tight_at : (c : ℕ) → c < length (customer_nodes g) → (plan : RoutePlan) × (slice_get r.tight.items c ≡ Some plan) × IsTight g (terms_at sets r.prices.items) c plan.stops
    tight_at c less =
        let its = found c less in
        (its.0, its.1, tight_at_end g sets risen.base r.prices.items is.above c (inside c less) its.0 its.2)

    small_total : price_total r.prices.items ≤ 2 ^ 96
    small_total =
        let total = total_is_small (10 ^ 18) r.prices.items is.small in
        omega (arith, total, is.count, few)

    fits : NearFits g (proof_of sets r)
    fits = record {
      bound = small_total;
      weight = omega arith;
      one_price = is.count;
      prices = is.small;
      sets = sets_are;
      few = is.labels.few;
      labels = is.labels.fits;
      one_tight = is.one_tight;
      tight = is.fits;
    }

    accepted : IsAccepted g (proof_of sets r)
    accepted = record {
      closed = is.labels.closed;
      bound = (refl, refl);
      tight = λ x known customer. tight_at (customer_number g x) (omega (arith, number_less g x (node_count g) customer known, counted g));
    }

    pub bounded : IsKept (proof_of sets r) → IsBoundFrom g sets start (proof_of sets r)
    bounded kept = record {
      same_sets = refl;
      fits = fits;
      kept = kept;
      accepted = accepted;
      shows = is_true g (proof_of sets r) network fits accepted;
      none = (
        λ none. absurd (cc),
        λ some. absurd (let its = tight_at some.0 (omega (arith, some.1, counted g)) in let nowhere = some.2 its.0.stops its.2.route in omega (arith, its.2.serves, nowhere)),
      );
      prices = record {
        base = risen.base;
        lowered = risen.lowered;
        greatest = λ c less. (let low : c < length (customer_nodes g) = omega (arith, less, is.count) in let its = found c low in is_greatest g sets risen.base r.prices.items is.above c less its.0 its.2 pay);
        above = is.above;
        kept = λ paid c. (let first = none_is_lowered g sets start risen.base risen.lowered paid c in omega (arith, first, is.above c));
      };
    }

  -- ---- a proof without one
  module _ (at : ClosedAt) (is : IsUnserved g sets at) where
    n : ℕ
    n = length (customer_nodes g)

    some_total : 0 < price_total at.prices
    some_total =
        let long = long_alone (length (customer_nodes g)) is.number in
        let room = length_nothing (length (customer_nodes g)) in
        let price = get_or-set_same (zeros (length (customer_nodes g))) is.number 1 0 (omega (arith, is.customer, room)) in
        let total = total_at_least (alone (length (customer_nodes g)) is.number) is.number (omega (arith, is.customer, long)) in
        omega (arith, price, total, ap price_total is.prices)

    unserved_fits : NearFits g (proof_of_none sets at)
    unserved_fits = record {
      bound = tt;
      weight = omega arith;
      one_price = ap length is.prices ∙ long_alone (length (customer_nodes g)) is.number;
      prices = subst (All (λ price. price ≤ 10 ^ 18)) (sym is.prices) (small_alone (length (customer_nodes g)) is.number (10 ^ 18) (omega arith));
      sets = sets_are;
      few = is.labels.few;
      labels = is.labels.fits;
      one_tight = refl;
      tight = All-nil ColumnFits;
    }

    unserved_accepted : IsAccepted g (proof_of_none sets at)
    unserved_accepted = record {
      closed = is.labels.closed;
      bound = (refl, some_total, refl);
      tight = tt;
    }

    pub unbounded : IsKept (proof_of_none sets at) → IsBoundFrom g sets start (proof_of_none sets at)
    unbounded kept = record {
      same_sets = refl;
      fits = unserved_fits;
      kept = kept;
      accepted = unserved_accepted;
      shows = is_true g (proof_of_none sets at) network unserved_fits unserved_accepted;
      none = (
        λ none. (is.number, omega (arith, is.customer, counted g), is.none),
        λ some. refl,
      );
      prices = tt;
    }

-- ---- from prices of 0
greatest_alone : (g : Network) (sets : List (List ℕ)) (prices : List ℕ) (n c : ℕ) → n ≡ length prices → IsGreatestFrom g sets (zeros n) prices c → IsGreatest g sets prices c
greatest_alone g sets prices n c same is = record {
  pays = subst (λ (ps : List ℕ). NearRoutesPay g (terms_at sets ps)) (from_nothing prices c (get_or prices c 0) n same) is.pays;
  greatest = λ price pay. is.greatest price (subst (λ (ps : List ℕ). NearRoutesPay g (terms_at sets ps)) (sym (from_nothing prices c price n same)) pay);
}

all_greatest : (g : Network) (sets : List (List ℕ)) (prices : List ℕ) (n : ℕ) → n ≡ length prices → AreRisenFrom g sets (zeros n) prices → AreGreatest g sets prices
all_greatest g sets prices n same are c less =
    let none = nothing_but are.base (λ i. (let low = are.lowered.within i in omega (arith, low, nothing_at n i))) in
    let whole : are.base ≡ zeros n = none ∙ ap zeros (are.lowered.one_price ∙ length_nothing n) in
    greatest_alone g sets prices n c same (subst (λ (bs : List ℕ). IsGreatestFrom g sets bs prices c) whole (are.greatest c less))

weaker_some : (o : Option ℕ) (A B : Type 0) → (A → B) → IfSome o (λ bound. A) → IfSome o (λ bound. B)
weaker_some None A B weaker holds = tt
weaker_some (Some bound) A B weaker holds = weaker holds

near_bounded : (g : Network) (near : ℕ) (sets : List (List ℕ)) (start : List ℕ) (m : ℕ) (p : NearProof) → m ≡ length (customer_nodes g) → start ≡ zeros m → AreNearSets g near sets → IsBoundFrom g sets start p → IsNearBound g near p
near_bounded g near sets start m p same nothing near_are bounds = record {
  sets = subst (AreNearSets g near) (sym bounds.same_sets) near_are;
  fits = bounds.fits;
  kept = bounds.kept;
  accepted = bounds.accepted;
  shows = bounds.shows;
  none = bounds.none;
  prices = weaker_some p.bound (AreRisenFrom g p.sets start p.prices) (AreGreatest g p.sets p.prices)
      (λ are. all_greatest g p.sets p.prices m (same ∙ sym bounds.fits.one_price) (subst (λ (ps : List ℕ). AreRisenFrom g p.sets ps p.prices) nothing are)) bounds.prices;
}

pub near_bounds : (g : Network) (near : ℕ) (sets : List (List ℕ)) (start : List ℕ) (m : ℕ) (r : Result NearProof AllocError) → m ≡ length (customer_nodes g) → start ≡ zeros m → AreNearSets g near sets → IfOk r (IsBoundFrom g sets start) → IfOk r (IsNearBound g near)
near_bounds g near sets start m (Ok p) same nothing near_are bounds = near_bounded g near sets start m p same nothing near_are bounds
near_bounds g near sets start m (Err e) same nothing near_are bounds = tt
