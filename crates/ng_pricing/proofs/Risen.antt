-- How prices rise one by one.
use Rattle.std.proofs.Common.{◌≡◌, ◌∙◌, ℕ, zero, suc, ◌+◌, ◌*◌, ◌<◌, ◌≤◌, sym, ap, subst, List, [], ◌∷◌, ◌++◌, get_or, length, length-set, set, Option, None, Some, IfNone, IfSome, arith, inl, inr}
use Rattle.std.specs.List.{All}
use Rattle.std.specs.Prelude.{slice_get}
use Rattle.std.proofs.Math.Nat.{mul-le-mul_left}
use Rattle.std.proofs.lemmas.Bool.{cases_eq, cases_lt}
use Rattle.std.proofs.lemmas.List.{get_or-set_other, get_or-set_same, length-append, set-get_or, set-set}
use Rattle.std.proofs.lemmas.Grind.{get_or_default_zero}
use Rattle.std.proofs.lemmas.List.Elements.{All-append, All-cons, All-contains, All-nil, All-set}
use Rattle.std.proofs.lemmas.Option.{same_Some}
use Rattle.certificate_parts.specs.Ranges.{ColumnFits}
use Rattle.ev_model.specs.Fleet.{times_in}
use Rattle.ev_model.specs.Network.{IsNetwork, Network}
use Rattle.fleet_model.specs.Places.{numbers_of}
use Rattle.instance_reader.specs.Instance.{customer_nodes}
use Rattle.instance_reader.proofs.ListLemmas.{slice_get-append, slice_get-seam}
use Rattle.near_pricing.specs.Answers.{AreClosedLabels}
use Rattle.near_proof.specs.Accepted.{IsTight}
use Rattle.near_proof.specs.Covered.{AreWithinFull}
use Rattle.near_proof.specs.Ranges.{greatest_near_price, NearLabelFits}
use Rattle.near_proof.specs.Terms.{earned_by, Terms}
use Rattle.near_proof.specs.Truth.{NearRoutesPay}
use Rattle.near_proof.specs.declared.proof.NearLabel.{NearLabel}
use Rattle.near_proof.proofs.Fits.{label_within_full}
use Rattle.near_proof.proofs.Sound.{routes_pay}
use Rattle.route_plan.specs.declared.plan.RoutePlan.{RoutePlan}
use Rattle.ng_pricing.specs.Fixing.{alone, AreTightBefore, IsBegun, IsFixed, IsOpen, IsRising, IsUnserved, terms_alone, TightRoute}
use Rattle.ng_pricing.specs.Met.{AreMet}
use Rattle.ng_pricing.specs.Rising.{begun_from, terms_at}
use Rattle.ng_pricing.specs.declared.lowering.Begun.{Begun}
use Rattle.ng_pricing.specs.declared.raising.Fixed.{Fixed}
use Rattle.ng_pricing.specs.declared.raising.Rising.{Rising}
use Rattle.ng_pricing.specs.declared.setting.ClosedAt.{ClosedAt}
use Rattle.ng_pricing.proofs.Earnings.{earned_at, earned_less, earned_nothing, earned_set, from_before, from_set, length_nothing, nothing_at, set_within, zeros}

-- ---- closed labels
pub closed_pay : (g : Network) (t : Terms) (labels : List NearLabel) → IsNetwork g → AreClosedLabels g t labels → NearRoutesPay g t
closed_pay g t labels network are = routes_pay g t labels network within are.closed
  where
    within : AreWithinFull g labels
    within l y there level = label_within_full g l (All-contains (NearLabelFits g) labels l are.fits there) y level

-- ---- prices of 0
pub all_nothing : (n most : ℕ) → All (λ price. price ≤ most) (zeros n)
all_nothing zero most = All-nil (λ price. price ≤ most)
all_nothing (suc n) most = All-cons (λ price. price ≤ most) 0 (zeros n) (omega arith) (all_nothing n most)

pub small_alone : (n c most : ℕ) → 1 ≤ most → All (λ price. price ≤ most) (alone n c)
small_alone n c most some = All-set (λ price. price ≤ most) (zeros n) c 1 some (all_nothing n most)

pub long_alone : (n c : ℕ) → length (alone n c) ≡ n
long_alone n c = length-set (zeros n) c 1 ∙ length_nothing n

pub earned_alone : (n c : ℕ) (cs : List ℕ) → c < n → earned_by (alone n c) cs ≡ times_in cs c
earned_alone n c cs less =
    let now = earned_set (zeros n) c 1 cs (omega (arith, length_nothing n, less)) (nothing_at n c) in
    omega (arith, now, earned_nothing n cs)

-- ---- who stands on no near route
pub unserved : (g : Network) (sets : List (List ℕ)) (c n : ℕ) (at : ClosedAt) → IsNetwork g → n ≡ length (customer_nodes g) → c < length (customer_nodes g) → at.prices ≡ alone n c → AreClosedLabels g (terms_alone sets at.prices) at.labels → IsUnserved g sets at
unserved g sets c n at network same less prices labels =
    let whole : at.prices ≡ alone (length (customer_nodes g)) c = prices ∙ ap (λ k. alone k c) same in
    let pay = closed_pay g (terms_alone sets at.prices) at.labels network labels in
    record {
      number = c;
      customer = less;
      none = λ plan route.
          let none = pay plan route in
          let earned = ap (λ ps. earned_by ps (numbers_of g plan)) whole ∙ earned_alone (length (customer_nodes g)) c (numbers_of g plan) less in
          omega (arith, none, earned);
      prices = whole;
      labels = labels;
    }

-- ---- the price of the next customer
module _ (g : Network) (sets : List (List ℕ)) (base : List ℕ) (n : ℕ) (r : Rising) (network : IsNetwork g) (less : n < length (customer_nodes g)) (is : IsRising g sets base n r) where
  room : n < length r.prices.items
  room = omega (arith, less, is.count)

  pub base_room : n < length base
  base_room = omega (arith, less, is.base_count)

  pays_now : NearRoutesPay g (terms_at sets r.prices.items)
  pays_now = closed_pay g (terms_at sets r.prices.items) r.labels network is.labels

  pub open_next : IsOpen g sets (set r.prices.items n 0) n
  open_next = record {
    customer = less;
    count = length-set r.prices.items n 0 ∙ is.count;
    small = All-set (λ price. price ≤ greatest_near_price) r.prices.items n 0 (omega arith) is.small;
    free = get_or-set_same r.prices.items n 0 0 room;
    pays = λ plan route. (let paid = pays_now plan route in let fewer = earned_less (set r.prices.items n 0) r.prices.items (numbers_of g plan) (λ i. set_within r.prices.items n 0 i room (omega arith)) in omega (arith, paid, fewer));
  }

  -- the prices once it is set
  module _ (f : Fixed) (fixed : IsFixed g sets (set r.prices.items n 0) n (get_or base n 0) f) where
    after : List ℕ
    after = set r.prices.items n f.price

    again : set (set r.prices.items n 0) n f.price ≡ set r.prices.items n f.price
    again = set-set r.prices.items n 0 f.price

    tight_after : IsTight g (terms_at sets (set r.prices.items n f.price)) n f.tight.stops
    tight_after = subst (λ (ps : List ℕ). IsTight g (terms_at sets ps) n f.tight.stops) again fixed.tight

    -- no lower than it was
    no_lower : get_or r.prices.items n 0 ≤ f.price
    no_lower =
        let was = get_or r.prices.items n 0 in
        let numbers = numbers_of g f.tight.stops in
        let times = times_in (numbers_of g f.tight.stops) n in
        let paid = pays_now f.tight.stops tight_after.route in
        let same = ap (λ (ps : List ℕ). earned_by ps (numbers_of g f.tight.stops)) (set-get_or r.prices.items n 0) in
        let before = earned_at r.prices.items n was numbers room in
        let now = earned_at r.prices.items n f.price numbers room in
        elim (cases_lt f.price was) [
          | inl lower ↦
              let more : times * (f.price + 1) ≤ times * was = mul-le-mul_left times (omega (arith, lower)) in
              absurd (omega (arith, more, before, now, same, paid, tight_after.time))
          | inr within ↦ omega (arith, within)
        ]

    above_next : (c : ℕ) → get_or base c 0 ≤ get_or (set r.prices.items n f.price) c 0
    above_next c = elim (cases_eq c n) [
      | inl same ↦
          let now = ap (λ k. get_or (set r.prices.items n f.price) k 0) same ∙ get_or-set_same r.prices.items n f.price 0 room in
          let was = ap (λ k. get_or base k 0) same in
          omega (arith, now, was, is.above n, no_lower)
      | inr apart ↦ (let other = get_or-set_other r.prices.items n c f.price 0 apart in omega (arith, other, is.above c))
    ]

    later_next : (c : ℕ) → n + 1 ≤ c → get_or (set r.prices.items n f.price) c 0 ≡ get_or base c 0
    later_next c more = get_or-set_other r.prices.items n c f.price 0 (λ e. omega (arith, e, more)) ∙ is.later c (omega (arith, more))

    same_price : (c : ℕ) → c < n → get_or (set r.prices.items n f.price) c 0 ≡ get_or r.prices.items c 0
    same_price c low = get_or-set_other r.prices.items n c f.price 0 (λ e. omega (arith, e, low))

    tight_before : (c : ℕ) (plan : RoutePlan) → c < n → TightRoute g sets base r.prices.items c plan → TightRoute g sets base (set r.prices.items n f.price) c plan
    tight_before c plan low tight =
        let same : begun_from base r.prices.items c (get_or r.prices.items c 0) ≡ begun_from base (set r.prices.items n f.price) c (get_or (set r.prices.items n f.price) c 0) = sym (ap (begun_from base (set r.prices.items n f.price) c) (same_price c low) ∙ from_before base r.prices.items c (get_or r.prices.items c 0) n f.price low) in
        subst (λ (ps : List ℕ). IsTight g (terms_at sets ps) c plan.stops) same tight

    tight_here : TightRoute g sets base (set r.prices.items n f.price) n f.tight
    tight_here =
        let long = length-set r.prices.items n f.price in
        let own = get_or-set_same r.prices.items n f.price 0 room in
        let put : begun_from base (set r.prices.items n f.price) n f.price ≡ set (set r.prices.items n f.price) n f.price = from_set base (set r.prices.items n f.price) n f.price (omega (arith, room, long)) (is.base_count ∙ sym (long ∙ is.count)) later_next in
        let whole : begun_from base (set r.prices.items n f.price) n (get_or (set r.prices.items n f.price) n 0) ≡ set r.prices.items n f.price = ap (begun_from base (set r.prices.items n f.price) n) own ∙ put ∙ set-set r.prices.items n f.price f.price in
        subst (λ (ps : List ℕ). IsTight g (terms_at sets ps) n f.tight.stops) (sym whole) tight_after

    all_tight : (tight : List RoutePlan) → tight ≡ r.tight.items ++ f.tight ∷ [] → AreTightBefore g sets base (set r.prices.items n f.price) (n + 1) tight
    all_tight tight whole c plan low at =
        let there : slice_get (r.tight.items ++ f.tight ∷ []) c ≡ Some plan = subst (λ (ts : List RoutePlan). slice_get ts c ≡ Some plan) whole at in
        elim (cases_lt c n) [
          | inl before ↦
              let inside : c < length r.tight.items = omega (arith, before, is.one_tight) in
              tight_before c plan before (is.tight c plan before (sym (slice_get-append r.tight.items (f.tight ∷ []) c inside) ∙ there))
          | inr behind ↦
              let last : c ≡ length r.tight.items = omega (arith, behind, low, is.one_tight) in
              let number : c ≡ n = omega (arith, behind, low) in
              let found : slice_get (r.tight.items ++ f.tight ∷ []) c ≡ Some f.tight = ap (λ k. slice_get (r.tight.items ++ f.tight ∷ []) k) last ∙ slice_get-seam r.tight.items f.tight in
              let same : f.tight ≡ plan = same_Some f.tight plan (sym found ∙ there) in
              subst (λ k. TightRoute g sets base (set r.prices.items n f.price) k plan) (sym number) (subst (TightRoute g sets base (set r.prices.items n f.price) n) same tight_here)
        ]

    -- labels that are closed at a further price, or those at hand where it is the one it was
    pub closed_next : (labels : List NearLabel) → f.labels ≡ Some labels → AreClosedLabels g (terms_at sets (set r.prices.items n f.price)) labels
    closed_next labels some =
        subst (λ (ps : List ℕ). AreClosedLabels g (terms_at sets ps) labels) again
        (subst (λ (o : Option (List NearLabel)). IfSome o (AreClosedLabels g (terms_at sets (set (set r.prices.items n 0) n f.price)))) some fixed.labels)

    pub closed_still : f.labels ≡ None → AreClosedLabels g (terms_at sets (set r.prices.items n f.price)) r.labels
    closed_still none =
        let paid : f.price ≡ get_or base n 0 = subst (λ (o : Option (List NearLabel)). IfNone o (f.price ≡ get_or base n 0)) none fixed.same in
        let whole : set r.prices.items n f.price ≡ r.prices.items = ap (set r.prices.items n) (paid ∙ sym (is.later n (omega arith))) ∙ set-get_or r.prices.items n 0 in
        subst (λ (ps : List ℕ). AreClosedLabels g (terms_at sets ps) r.labels) (sym whole) is.labels

    pub risen_next : (next : Rising) → next.prices.items ≡ set r.prices.items n f.price → AreClosedLabels g (terms_at sets (set r.prices.items n f.price)) next.labels → next.tight.items ≡ r.tight.items ++ f.tight ∷ [] → AreMet g sets next.met.items → IsRising g sets base (n + 1) next
    risen_next next prices labels tight met = record {
      base_count = is.base_count;
      count = ap length prices ∙ length-set r.prices.items n f.price ∙ is.count;
      small = subst (All (λ price. price ≤ greatest_near_price)) (sym prices) (All-set (λ price. price ≤ greatest_near_price) r.prices.items n f.price fixed.small is.small);
      above = λ c. (let same = ap (λ (ps : List ℕ). get_or ps c 0) prices in omega (arith, same, above_next c));
      later = λ c more. ap (λ (ps : List ℕ). get_or ps c 0) prices ∙ later_next c more;
      labels = subst (λ (ps : List ℕ). AreClosedLabels g (terms_at sets ps) next.labels) (sym prices) labels;
      one_tight = (let more = length-append r.tight.items (f.tight ∷ []) in omega (arith, ap length tight, more, is.one_tight));
      tight = subst (λ (ps : List ℕ). AreTightBefore g sets base ps (n + 1) next.tight.items) (sym prices) (all_tight next.tight.items tight);
      fits = subst (All ColumnFits) (sym tight) (All-append ColumnFits r.tight.items (f.tight ∷ []) is.fits (All-cons ColumnFits f.tight [] fixed.fits (All-nil ColumnFits)));
      met = met;
    }

-- ---- no price is fixed at first
small_lowered : (most : ℕ) (start base : List ℕ) → length base ≡ length start → ((c : ℕ) → get_or base c 0 ≤ get_or start c 0) → All (λ price. price ≤ most) start → All (λ price. price ≤ most) base
small_lowered most start base long within small i d less =
    let one = get_or_default_zero base i d less in
    let other : i < length start = omega (arith, less, long) in
    let two = small i 0 other in
    omega (arith, one, two, within i)

pub risen_first : (g : Network) (sets : List (List ℕ)) (start : List ℕ) (b : Begun) (r : Rising) → IsBegun g sets start b → length start ≡ length (customer_nodes g) → All (λ price. price ≤ greatest_near_price) start → r.prices.items ≡ b.prices.items → r.labels ≡ b.labels → r.tight.items ≡ [] → r.met.items ≡ b.met.items → IsRising g sets b.prices.items 0 r
risen_first g sets start b r is count small prices labels tight met =
    let low = small_lowered greatest_near_price start b.prices.items is.lowered.one_price is.lowered.within small in
    record {
      base_count = is.lowered.one_price ∙ count;
      count = ap length prices ∙ is.lowered.one_price ∙ count;
      small = subst (All (λ price. price ≤ greatest_near_price)) (sym prices) low;
      above = λ c. (let same = ap (λ (ps : List ℕ). get_or ps c 0) prices in omega (arith, same));
      later = λ c more. ap (λ (ps : List ℕ). get_or ps c 0) prices;
      labels = subst (λ (ps : List ℕ). AreClosedLabels g (terms_at sets ps) r.labels) (sym prices) (subst (AreClosedLabels g (terms_at sets b.prices.items)) (sym labels) is.labels);
      one_tight = ap length tight;
      tight = λ c plan low. absurd (omega (arith, low));
      fits = subst (All ColumnFits) (sym tight) (All-nil ColumnFits);
      met = subst (AreMet g sets) (sym met) is.met;
    }
