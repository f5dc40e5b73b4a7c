-- What routes that were met allow the price of a customer to be.
use Rattle.std.proofs.Common.{◌≡◌, ◌∙◌, ℕ, ◌+◌, ◌-◌, ◌*◌, ◌/◌, ◌<◌, ◌≤◌, ◌^◌, refl, sym, ap, subst, List, [], ◌∷◌, ◌++◌, ◌⊎◌, get_or, length, set, Option, None, Some, Result, Ok, Err, IfNone, IfOk, IfSome, arith, inl, inr}
use Rattle.std.specs.List.{All}
use Rattle.std.specs.declared.alloc.AllocError.{AllocError}
use Rattle.std.specs.Prelude.{slice_get}
use Rattle.std.proofs.Math.Nat.{div-add-mod, lt_of_mul-lt-mul_left, mod-lt, mul-le-mul_left}
use Rattle.std.proofs.lemmas.Bool.{cases_lt}
use Rattle.std.proofs.lemmas.List.{get_or_default, length-map}
use Rattle.std.proofs.lemmas.List.Elements.{All-append, All-cons, All-nil, All-set, All-weaker}
use Rattle.std.proofs.lemmas.Option.{get_or_from_slice_get, slice_get_read, slice_get_within}
use Rattle.certificate_parts.specs.Ranges.{ColumnFits}
use Rattle.ev_model.specs.Fleet.{customers_of, times_in}
use Rattle.ev_model.specs.Network.{IsNetwork, Network, scaled_limit}
use Rattle.fleet_model.specs.Places.{customer_number, numbers_of}
use Rattle.fleet_model.proofs.Numbers.{counted}
use Rattle.instance_reader.specs.Instance.{customer_nodes, most_customers}
use Rattle.instance_reader.proofs.ListLemmas.{slice_get-seam}
use Rattle.near_pricing.specs.Answers.{AreClosedLabels}
use Rattle.near_proof.specs.Accepted.{IsTight}
use Rattle.near_proof.specs.Routes.{IsNearRoute}
use Rattle.near_proof.specs.Terms.{earned_by}
use Rattle.near_proof.specs.Truth.{NearRoutesPay}
use Rattle.route_plan.specs.declared.plan.RoutePlan.{RoutePlan}
use Rattle.ng_pricing.specs.Fixing.{IsFixed}
use Rattle.ng_pricing.specs.Met.{AreMet, IsAllowed, IsLimit, IsMeasured, IsMet, Pays}
use Rattle.ng_pricing.specs.Rising.{terms_at}
use Rattle.ng_pricing.specs.declared.met.Limit.{Limit}
use Rattle.ng_pricing.specs.declared.met.MetRoute.{MetRoute}
use Rattle.ng_pricing.specs.declared.raising.Fixed.{Fixed}
use Rattle.ng_pricing.proofs.Earnings.{earned_set}

-- ---- one route
shares : (rest m : ℕ) → 1 ≤ m → (m * (rest / m) ≤ rest) × (rest < m * (rest / m) + m)
shares rest m some =
    let parts = div-add-mod rest m in
    let less = mod-lt rest {m = m} (omega (arith, some)) in
    (omega (arith, parts), omega (arith, parts, less))

pub allowed_price : (prices : List ℕ) (c : ℕ) (r : MetRoute) (e m price : ℕ) → c < length prices → get_or prices c 0 ≡ 0 → Pays prices r → e ≡ earned_by prices r.numbers → m ≡ times_in r.numbers c → 1 ≤ m → price ≡ (r.time - e) / m → IsAllowed prices c r price
allowed_price prices c r e m price less free pays earned times some is =
    let now = earned_set prices c price r.numbers less free in
    let both = shares (r.time - e) m some in
    let share : m * price ≡ m * ((r.time - e) / m) = ap (λ p. m * p) is in
    let own : times_in r.numbers c * price ≡ m * price = ap (λ k. k * price) (sym times) in
    record {
      serves = omega (arith, times, some);
      pays = omega (arith, now, own, share, both.0, earned, pays);
      most = omega (arith, now, own, share, both.1, earned, pays, times);
    }

-- a lower price is paid too
pub pays_lower : (prices : List ℕ) (c high low : ℕ) (r : MetRoute) → c < length prices → get_or prices c 0 ≡ 0 → low ≤ high → Pays (set prices c high) r → Pays (set prices c low) r
pays_lower prices c high low r less free le pays =
    let a = earned_set prices c high r.numbers less free in
    let b = earned_set prices c low r.numbers less free in
    let scaled : times_in r.numbers c * low ≤ times_in r.numbers c * high = mul-le-mul_left (times_in r.numbers c) le in
    omega (arith, a, b, scaled, pays)

-- who doesn't serve the customer pays at any price
pub pays_unserved : (prices : List ℕ) (c price : ℕ) (r : MetRoute) → c < length prices → get_or prices c 0 ≡ 0 → Pays prices r → times_in r.numbers c ≡ 0 → Pays (set prices c price) r
pays_unserved prices c price r less free pays none =
    let a = earned_set prices c price r.numbers less free in
    let nothing : times_in r.numbers c * price ≡ 0 * price = ap (λ k. k * price) none in
    omega (arith, a, nothing, pays)

-- the services of a plan that earns more by a price
pub serves_by : (prices : List ℕ) (c price time : ℕ) (numbers : List ℕ) → c < length prices → get_or prices c 0 ≡ 0 → earned_by prices numbers ≤ time → time < earned_by (set prices c price) numbers → 1 ≤ times_in numbers c
serves_by prices c price time numbers less free pays earns =
    let now = earned_set prices c price numbers less free in
    elim (cases_lt 0 (times_in numbers c)) [
      | inl some ↦ omega (arith, some)
      | inr none ↦
          let zero_times : times_in numbers c ≡ 0 = omega (arith, none) in
          let nothing : times_in numbers c * price ≡ 0 * price = ap (λ k. k * price) zero_times in
          absurd (omega (arith, now, nothing, pays, earns))
    ]

-- a price that is paid is below one that isn't
pub falls : (prices : List ℕ) (c high low time : ℕ) (numbers : List ℕ) → c < length prices → get_or prices c 0 ≡ 0 → earned_by (set prices c low) numbers ≤ time → time < earned_by (set prices c high) numbers → low < high
falls prices c high low time numbers less free pays earns =
    let a = earned_set prices c high numbers less free in
    let b = earned_set prices c low numbers less free in
    lt_of_mul-lt-mul_left (times_in numbers c) (omega (arith, a, b, pays, earns))

-- ---- routes that were met
module _ (g : Network) (sets : List (List ℕ)) where
  pub met_pays : (prices : List ℕ) (r : MetRoute) → NearRoutesPay g (terms_at sets prices) → IsMet g sets r → Pays prices r
  met_pays prices r pay is =
      let there = pay r.plan.stops is.route in
      let earned = ap (earned_by prices) is.measured.numbers in
      omega (arith, there, earned, is.measured.time)

  pub all_pay : (prices : List ℕ) (met : List MetRoute) → NearRoutesPay g (terms_at sets prices) → AreMet g sets met → All (Pays prices) met
  all_pay prices met pay are = All-weaker (IsMet g sets) (Pays prices) (λ r is. met_pays prices r pay is) met are

  pub few_numbers : (r : MetRoute) → IsMet g sets r → length r.numbers ≤ length (customer_nodes g)
  few_numbers r is =
      let long = length-map (customers_of g r.plan.stops) (customer_number g) in
      omega (arith, ap length is.measured.numbers, long, is.route.few, counted g)

  pub all_few : (met : List MetRoute) → length (customer_nodes g) ≤ most_customers → AreMet g sets met → All (λ (r : MetRoute). length r.numbers ≤ 128) met
  all_few met few are = All-weaker (IsMet g sets) (λ (r : MetRoute). length r.numbers ≤ 128) (λ r is. (let n = few_numbers r is in omega (arith, n, few))) met are

  pub known_by : (n : ℕ) (numbers : List ℕ) → n ≡ length (customer_nodes g) → All (λ c. c < length (customer_nodes g)) numbers → All (λ c. c < n) numbers
  known_by n numbers same all = All-weaker (λ c. c < length (customer_nodes g)) (λ c. c < n) (λ c less. omega (arith, same, less)) numbers all

  pub all_known : (prices : List ℕ) (met : List MetRoute) → length prices ≡ length (customer_nodes g) → AreMet g sets met → All (λ (r : MetRoute). All (λ c. c < length prices) r.numbers) met
  all_known prices met same are = All-weaker (IsMet g sets) (λ (r : MetRoute). All (λ c. c < length prices) r.numbers) (λ r is. known_by (length prices) r.numbers same is.measured.within) met are

  -- a route of a plan
  pub met_route : (plan : RoutePlan) (r : MetRoute) → IsNearRoute g sets plan.stops → ColumnFits plan → IsMeasured g plan r → IsMet g sets r
  met_route plan r route fits is = record {
    route = subst (λ (p : RoutePlan). IsNearRoute g sets p.stops) (sym is.same) route;
    fits = subst ColumnFits (sym is.same) fits;
    measured = subst (λ (p : RoutePlan). IsMeasured g p r) (sym is.same) is;
  }

  pub met_more : (met : List MetRoute) (r : MetRoute) → AreMet g sets met → IsMet g sets r → AreMet g sets (met ++ r ∷ [])
  met_more met r are is = All-append (IsMet g sets) met (r ∷ []) are (All-cons (IsMet g sets) r [] is (All-nil (IsMet g sets)))

  -- the route of a limit
  pub route_of_limit : (prices : List ℕ) (c : ℕ) (met : List MetRoute) (l : Limit) → AreMet g sets met → (limit : IsLimit prices c met l) → IsMet g sets limit.route
  route_of_limit prices c met l are limit =
      let within = slice_get_within met l.route limit.route limit.is in
      subst (IsMet g sets) (get_or_from_slice_get met l.route limit.route limit.route limit.is) (are l.route limit.route within)

  pub limit_is_tight : (prices : List ℕ) (c : ℕ) (met : List MetRoute) (l : Limit) → AreMet g sets met → (limit : IsLimit prices c met l) → IsTight g (terms_at sets (set prices c l.price)) c limit.route.plan.stops
  limit_is_tight prices c met l are limit =
      let is = route_of_limit prices c met l are limit in
      let r = limit.route in
      let same : r.numbers ≡ numbers_of g r.plan.stops = is.measured.numbers in
      let served : times_in r.numbers c ≡ times_in (numbers_of g r.plan.stops) c = ap (λ ns. times_in ns c) same in
      let earned : earned_by (set prices c l.price) r.numbers ≡ earned_by (set prices c l.price) (numbers_of g r.plan.stops) = ap (earned_by (set prices c l.price)) same in
      record {
        route = is.route;
        serves = omega (arith, limit.allowed.serves, served);
        time = omega (arith, limit.allowed.most, served, earned, is.measured.time);
      }

  pub limit_fits : (prices : List ℕ) (c : ℕ) (met : List MetRoute) (l : Limit) → AreMet g sets met → (limit : IsLimit prices c met l) → ColumnFits limit.route.plan
  limit_fits prices c met l are limit = (route_of_limit prices c met l are limit).fits

  pub limit_is_small : (prices : List ℕ) (c : ℕ) (met : List MetRoute) (l : Limit) → c < length prices → get_or prices c 0 ≡ 0 → AreMet g sets met → IsLimit prices c met l → l.price ≤ scaled_limit g
  limit_is_small prices c met l less free are limit =
      let is = route_of_limit prices c met l are limit in
      let r = limit.route in
      let now = earned_set prices c l.price r.numbers less free in
      let once : l.price * 1 ≤ l.price * times_in r.numbers c = mul-le-mul_left l.price (limit.allowed.serves) in
      omega (arith, now, once, limit.allowed.pays, is.measured.time, is.route.feasible.in_time)

  -- a limit with its route, at which labels are closed, unless it is the price that is known to be
  -- paid
  pub fixed_by : (prices : List ℕ) (c paid : ℕ) (met : List MetRoute) (l : Limit) (f : Fixed) → IsNetwork g → c < length prices → get_or prices c 0 ≡ 0 → AreMet g sets met → IsLimit prices c met l → f.price ≡ l.price → ((r : MetRoute) → slice_get met l.route ≡ Some r → f.tight ≡ r.plan) → IfSome f.labels (AreClosedLabels g (terms_at sets (set prices c l.price))) → IfNone f.labels (l.price ≡ paid) → IsFixed g sets prices c paid f
  fixed_by prices c paid met l f network less free are limit price tight labels same =
      let route = tight limit.route limit.is in
      let low = limit_is_small prices c met l less free are limit in
      record {
        small = omega (arith, price, low, network.small_limit);
        labels = subst (λ p. IfSome f.labels (AreClosedLabels g (terms_at sets (set prices c p)))) (sym price) labels;
        same = subst (λ p. IfNone f.labels (p ≡ paid)) (sym price) same;
        tight = subst (λ p. IsTight g (terms_at sets (set prices c p)) c f.tight.stops) (sym price) (subst (λ (plan : RoutePlan). IsTight g (terms_at sets (set prices c l.price)) c plan.stops) (sym route) (limit_is_tight prices c met l are limit));
        fits = subst ColumnFits (sym route) (limit_fits prices c met l are limit);
      }

-- the limit of the route that was met last
pub limit_last : (prices : List ℕ) (c : ℕ) (met : List MetRoute) (r : MetRoute) (l : Limit) → l.route ≡ length met → IsAllowed prices c r l.price → IsLimit prices c (met ++ r ∷ []) l
limit_last prices c met r l at allowed = record {
  route = r;
  is = ap (λ n. slice_get (met ++ r ∷ []) n) at ∙ slice_get-seam met r;
  allowed = allowed;
}

-- ---- the least of some limits
pub record LeastOf (prices : List ℕ) (c : ℕ) (met : List MetRoute) (n : ℕ) (o : Option Limit) : Type 0 where
  pub some : IfSome o (IsLimit prices c met)
  pub least : IfSome o (λ limit. (i : ℕ) (d : MetRoute) → i < n → Pays (set prices c limit.price) (get_or met i d))
  pub none : IfNone o ((i : ℕ) (d : MetRoute) → i < n → times_in (get_or met i d).numbers c ≡ 0)

module _ (prices : List ℕ) (c : ℕ) (met : List MetRoute) (n : ℕ) (r : MetRoute) (less : c < length prices) (free : get_or prices c 0 ≡ 0) (pays : All (Pays prices) met) (inside : n < length met) (at : r ≡ get_or met n r) where
  here : (i : ℕ) (d : MetRoute) → i ≡ n → get_or met i d ≡ r
  here i d same = ap (λ k. get_or met k d) same ∙ get_or_default met n d r inside ∙ sym at

  -- the routes before pay at a price that is no higher
  before_pays : (old : Option Limit) (l : Limit) → LeastOf prices c met n old → IfSome old (λ limit. l.price ≤ limit.price) → (i : ℕ) (d : MetRoute) → i < n → Pays (set prices c l.price) (get_or met i d)
  before_pays None l is lower i d low =
      pays_unserved prices c l.price (get_or met i d) less free (pays i d (omega (arith, low, inside))) (is.none i d low)
  before_pays (Some o) l is lower i d low =
      pays_lower prices c o.price l.price (get_or met i d) less free lower (is.least i d low)

  pub least_with : (old : Option Limit) (price : ℕ) (l : Limit) → LeastOf prices c met n old → IsAllowed prices c r price → (l ≡ record { price = price; route = n }) ⊎ (old ≡ Some l) → l.price ≤ price → IfSome old (λ limit. l.price ≤ limit.price) → LeastOf prices c met (n + 1) (Some l)
  least_with old price l is allowed one within lower = record {
    some = elim one [
      | inl own ↦ subst (IsLimit prices c met) (sym own) (record { route = r; is = slice_get_read met (length met) n r refl inside at; allowed = allowed })
      | inr kept ↦ subst (λ (o : Option Limit). IfSome o (IsLimit prices c met)) kept is.some
    ];
    least = λ i d low. elim (cases_lt i n) [
      | inl before ↦ before_pays old l is lower i d before
      | inr behind ↦
          let same : i ≡ n = omega (arith, behind, low) in
          subst (Pays (set prices c l.price)) (sym (here i d same)) (pays_lower prices c price l.price r less free within allowed.pays)
    ];
    none = tt;
  }

  last_pays : (price : ℕ) → times_in r.numbers c ≡ 0 → Pays (set prices c price) r
  last_pays price none = pays_unserved prices c price r less free (subst (Pays prices) (sym at) (pays n r inside)) none

  pub least_without : (old : Option Limit) → LeastOf prices c met n old → times_in r.numbers c ≡ 0 → LeastOf prices c met (n + 1) old
  least_without None is unserved = record {
    some = tt;
    least = tt;
    none = λ i d low. elim (cases_lt i n) [
      | inl before ↦ is.none i d before
      | inr behind ↦ (let same : i ≡ n = omega (arith, behind, low) in ap (λ (q : MetRoute). times_in q.numbers c) (here i d same) ∙ unserved)
    ];
  }
  least_without (Some o) is unserved = record {
    some = is.some;
    least = λ i d low. elim (cases_lt i n) [
      | inl before ↦ is.least i d before
      | inr behind ↦ (let same : i ≡ n = omega (arith, behind, low) in subst (Pays (set prices c o.price)) (sym (here i d same)) (last_pays o.price unserved))
    ];
    none = tt;
  }

-- prices that pricing takes
pub small_set : (limit c price : ℕ) (prices : List ℕ) → limit ≤ 10 ^ 18 → All (λ p. p ≤ limit) prices → price ≤ limit → All (λ p. p ≤ 10 ^ 18 + 1) (set prices c price)
small_set limit c price prices small all low =
    All-weaker (λ p. p ≤ limit) (λ p. p ≤ 10 ^ 18 + 1) (λ p le. omega (arith, le, small)) (set prices c price) (All-set (λ p. p ≤ limit) prices c price low all)

pub no_less : (time earned : ℕ) → 1 * time < earned → earned ≡ 0 → ⊥
no_less time earned less none = omega (arith, less, none)

-- what follows of a price that is fixed, where there was memory for it
pub if_ok : (r : Result Fixed AllocError) (A B C D : Fixed → Type 0) → IfOk r A → IfOk r B → IfOk r C → ((f : Fixed) → A f → B f → C f → D f) → IfOk r D
if_ok (Ok f) A B C D a b c so = so f a b c
if_ok (Err e) A B C D a b c so = tt
