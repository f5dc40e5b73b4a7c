-- What pricing tells of a kind, and what lists of labels for all kinds show.
use Rattle.std.proofs.Common.{◌≡◌, ◌∙◌, ℕ, ◌+◌, ◌*◌, ◌<◌, ◌≤◌, Bool, true, List, [], ◌∷◌, ◌++◌, None, Vec, map, length, refl, sym, ap, subst, arith, ℤ, pos, ◌≤ℤ◌, inl, inr}
use Rattle.std.specs.Global.{Global}
use Rattle.std.specs.List.{All}
use Rattle.std.proofs.Math.Seq.{get_or-append_seam}
use Rattle.std.proofs.lemmas.Bool.{cases_lt}
use Rattle.std.proofs.lemmas.List.{get_or_append_left}
use Rattle.std.proofs.lemmas.List.Elements.{All-map, All-weaker}
use Rattle.customer_sets.specs.Pairs.{allows_of, any_pair, ForbiddenPairs}
use Rattle.ev_model.specs.Network.{Network}
use Rattle.ev_model.specs.declared.Stop.{Stop}
use Rattle.fleet_model.specs.ClosedList.{IsClosed}
use Rattle.fleet_model.specs.Labels.{Label as PricedLabel}
use Rattle.fleet_model.specs.Pairs.{PlanKeepsPairs}
use Rattle.fleet_model.specs.Places.{customer_number, places_of}
use Rattle.fleet_model.specs.Prices.{price_sum}
use Rattle.fleet_model.specs.Section.{Section}
use Rattle.fleet_model.proofs.Plans.{plan_pays}
use Rattle.fleet_model.proofs.Splits.{keep_all}
use Rattle.closed_lists.specs.Questions.{Question}
use Rattle.closed_lists.specs.Sections.{paid_label}
use Rattle.piece_fn.specs.PieceFn.{level_times}
use Rattle.piece_fn.specs.declared.label.Label.{Label}
use Rattle.pricing.specs.Answers.{AreClosed, IsBetterRoute, IsPriced}
use Rattle.pricing.specs.Better.{IsBetter}
use Rattle.pricing.specs.declared.priced.Priced.{Priced}
use Rattle.pricing.specs.declared.priced.Priced.TheVariants.{Better, Closed}
use Rattle.pricing.specs.declared.priced.PricedRoute.{PricedRoute}
use Rattle.route_plan.specs.declared.plan.RoutePlan.{RoutePlan}
use Rattle.bound_certificate.specs.Meaning.{priced_label}
use Rattle.certificate_parts.specs.Limits.{most_items}
use Rattle.price_loop.specs.Problems.{IsClosing, IsEarning, NoneEarns}
use Rattle.route_pool.specs.Pool.{IsColumn, IsPool}
use Rattle.mixed_model.specs.Kinds.{network_of}
use Rattle.mixed_model.specs.Meaning.{section_of}
use Rattle.mixed_model.specs.Plans.{time_in}
use Rattle.mixed_model.specs.Ranges.{MixedFits}
use Rattle.mixed_model.specs.declared.proof.MixedProof.{MixedProof}
use Rattle.mixed_model.specs.declared.proof.MixedRoot.TheVariants as root
use Rattle.mixed_model.proofs.Sections.{section_at}
use Rattle.mixed_model.proofs.Whole.{network_at}
use Rattle.mixed_fleet.specs.Fleets.{AreFleetKinds}
use Rattle.mixed_fleet.specs.Problem.{AreClosedBelow, AreClosedLists, IsClosedList, labels_at, MayBeAsked, problem_of}
use Rattle.mixed_fleet.specs.Searched.{searched_of}
use Rattle.mixed_fleet.specs.declared.searched.Searched.{Searched}

-- the question of a weight and prices
abbrev pub question : Network → ForbiddenPairs → ℕ → List ℤ → Question
question g pairs weight prices = record { network = g; pairs = pairs; weight = weight; prices = prices; labels = [] }

-- ---- labels that pricing has closed

same_label : (prices : List ℤ) (l : Label) → paid_label prices l ≡ priced_label prices l
unfolding level_times
same_label prices l = refl

same_labels : (prices : List ℤ) (labels : List Label) → map (paid_label prices) labels ≡ map (priced_label prices) labels
same_labels prices [] = refl
same_labels prices (l ∷ labels) = λ i. same_label prices l i ∷ same_labels prices labels i

abbrev section_with : ℕ → List ℤ → (ℕ → ℕ → Bool) → List PricedLabel → Section
section_with weight prices allows labels = record { weight = weight; prices = prices; allows = allows; labels = labels }

pub closed_list : (g : Network) (pairs : ForbiddenPairs) (weight : ℕ) (prices : List ℤ) (labels : List Label) → ((a b : ℕ) → allows_of pairs a b ≡ true) → length labels ≤ most_items
    → AreClosed (question g pairs weight prices) labels → IsClosedList g weight prices labels
closed_list g pairs weight prices labels each_pair few are =
    let every : allows_of pairs ≡ any_pair = λ i. λ a b. each_pair a b i in
    let listed : IsClosed g (section_with weight prices (allows_of pairs) (map (priced_label prices) labels)) = subst (λ ls. IsClosed g (section_with weight prices (allows_of pairs) ls)) (same_labels prices labels) are.closed in
    record {
      closed = subst (λ (allows : ℕ → ℕ → Bool). IsClosed g (section_with weight prices allows (map (priced_label prices) labels))) every listed;
      few = few;
      each = λ k d less.
          let range = are.ranges k d less in
          let point = are.points k d less in
          record { last = range.last; node = range.node; set = range.set; valid = point.valid; points = point.points };
    }

-- ---- routes that earn

pub better_column : (g : Network) (pairs : ForbiddenPairs) (weight : ℕ) (prices : List ℤ) (stops : List Stop) (order : List ℕ) → IsBetter (question g pairs weight prices) stops order → IsColumn g order stops
better_column g pairs weight prices stops order is = record { route = is.route; serves = is.serves }

pub better_pool : (g : Network) (pairs : ForbiddenPairs) (weight : ℕ) (prices : List ℤ) (routes : List PricedRoute) → All (IsBetterRoute (question g pairs weight prices)) routes → IsPool g routes
better_pool g pairs weight prices routes all =
    All-weaker (IsBetterRoute (question g pairs weight prices)) (λ (r : PricedRoute). IsColumn g r.order.items r.plan.stops) (λ r is. better_column g pairs weight prices r.plan.stops r.order.items is) routes all

module _ (kinds : List Network) (kind : ℕ) (known : kind < length kinds) (pairs : ForbiddenPairs) (weight : ℕ) (prices : List ℤ) where
  abbrev g : Network
  g = network_of kinds kind

  pub earns : (plan : RoutePlan) (order : List ℕ) → IsBetter (question g pairs weight prices) plan.stops order → IsEarning (problem_of kinds) weight prices (searched_of g kind order plan)
  earns plan order is = record {
    route = record {
      route = record { known = known; route = is.route };
      numbers = ap (map (customer_number g)) (sym is.serves);
      time = refl;
    };
    earns = is.earns;
  }

  pub all_earn : (routes : List PricedRoute) → All (IsBetterRoute (question g pairs weight prices)) routes
      → All (IsEarning (problem_of kinds) weight prices) (map (λ (r : PricedRoute). searched_of g kind r.order.items r.plan) routes)
  all_earn routes all =
      let E = IsEarning (problem_of kinds) weight prices in
      All-map E (λ (r : PricedRoute). searched_of g kind r.order.items r.plan) routes
      (All-weaker (IsBetterRoute (question g pairs weight prices)) (λ (r : PricedRoute). E (searched_of g kind r.order.items r.plan)) (λ r is. earns r.plan r.order.items is) routes all)

-- ---- lists of labels for all kinds

keeps_any : (g : Network) (stops : List Stop) → PlanKeepsPairs g any_pair stops
keeps_any g stops = keep_all any_pair (places_of g stops) (λ a b h. refl)

module _ (kinds : List Network) (fleet : AreFleetKinds kinds) (weight : ℕ) (prices : List ℤ) (asked : MayBeAsked kinds weight prices) (labels : List (List Label)) (lists : AreClosedLists kinds weight prices labels) where
  -- a proof without a bound and a root
  abbrev bare : MixedProof
  bare = record { bound = None; weight = weight; prices = prices; labels = labels; root = root.None }

  bare_fits : MixedFits kinds bare
  bare_fits = record {
    bound = tt;
    weight = asked.weight_small;
    one_price = asked.one_price;
    prices = asked.small;
    one_list = lists.one_list;
    labels = λ kind known. record { few = (lists.closed kind known).few; each = (lists.closed kind known).each };
    root_fits = tt;
  }

  none_earns : NoneEarns (problem_of kinds) weight prices
  none_earns r is =
      let kind = r.route.kind in
      let g = network_of kinds kind in
      let known = is.route.known in
      let own = is.route.route in
      let stops = r.route.plan.stops in
      let paid = plan_pays g (section_of bare kind) stops (network_at kinds fleet.networks kind known) (section_at kinds bare fleet.are bare_fits kind known) (lists.closed kind known).closed
      own.feasible own.only (keeps_any g stops) own.once in
      let by_number : price_sum prices r.numbers ≤ℤ pos (weight * time_in kinds 1 (record { kind = kind; stops = stops })) = subst (λ (ns : List ℕ). price_sum prices ns ≤ℤ pos (weight * time_in kinds 1 (record { kind = kind; stops = stops }))) (sym is.numbers) paid in
      subst (λ (t : ℕ). price_sum prices r.numbers ≤ℤ pos (weight * t)) (sym is.time) by_number

  pub closing_is : IsClosing (problem_of kinds) weight prices labels
  closing_is = record { closes = lists; none = none_earns }

-- ---- what pricing answers

module _ (kinds : List Network) (kind : ℕ) (known : kind < length kinds) (h : Network) (same : network_of kinds kind ≡ h) (pairs : ForbiddenPairs) (weight w : ℕ) (prices ps : List ℤ) (weights : w ≡ weight) (alike : ps ≡ prices) (found : Priced) (priced : IsPriced (question h pairs w ps) found) where
  priced_here : IsPriced (question (network_of kinds kind) pairs weight prices) found
  priced_here =
      subst (λ (qs : List ℤ). IsPriced (question (network_of kinds kind) pairs weight qs) found) alike
      (subst (λ (k : ℕ). IsPriced (question (network_of kinds kind) pairs k ps) found) weights
      (subst (λ (g : Network). IsPriced (question g pairs w ps) found) (sym same) priced))

  pub closed_by : (labels : Vec Label Global) → found ≡ Closed labels → ((a b : ℕ) → allows_of pairs a b ≡ true) → IsClosedList (network_of kinds kind) weight prices labels.items
  closed_by labels is open_pairs =
      let closed = subst (λ (x : Priced). IsPriced (question (network_of kinds kind) pairs weight prices) x) is priced_here in
      let count = labels.ok.0 in
      let small = labels.small in
      closed_list (network_of kinds kind) pairs weight prices labels.items open_pairs (omega (arith, count, small)) closed

  module _ (plan : RoutePlan) (order : Vec ℕ Global) (further : Vec PricedRoute Global) (is : found ≡ Better plan order further) where
    better : IsPriced (question (network_of kinds kind) pairs weight prices) (Better plan order further)
    better = subst (λ (x : Priced). IsPriced (question (network_of kinds kind) pairs weight prices) x) is priced_here

    pub first_column : IsColumn h order.items plan.stops
    first_column = subst (λ (g : Network). IsColumn g order.items plan.stops) same (better_column (network_of kinds kind) pairs weight prices plan.stops order.items better.0)

    pub further_pool : IsPool h further.items
    further_pool = subst (λ (g : Network). IsPool g further.items) same (better_pool (network_of kinds kind) pairs weight prices further.items better.1)

    pub first_earns : (r : Searched) → r ≡ searched_of h kind order.items plan → IsEarning (problem_of kinds) weight prices r
    first_earns r made =
        subst (IsEarning (problem_of kinds) weight prices) (sym (made ∙ ap (λ (g : Network). searched_of g kind order.items plan) (sym same)))
        (earns kinds kind known pairs weight prices plan order.items better.0)

    pub further_earn : (rs : List Searched) → rs ≡ map (λ (r : PricedRoute). searched_of h kind r.order.items r.plan) further.items → All (IsEarning (problem_of kinds) weight prices) rs
    further_earn rs made =
        let here = ap (λ (g : Network). map (λ (r : PricedRoute). searched_of g kind r.order.items r.plan) further.items) (sym same) in
        subst (λ (xs : List Searched). All (IsEarning (problem_of kinds) weight prices) xs) (sym (made ∙ here))
        (all_earn kinds kind known pairs weight prices further.items better.1)

-- ---- one list more

pub closed_more : (kinds : List Network) (n weight : ℕ) (prices : List ℤ) (labels : List (List Label)) (list : List Label) → length labels ≡ n → AreClosedBelow kinds n weight prices labels → IsClosedList (network_of kinds n) weight prices list
    → AreClosedBelow kinds (n + 1) weight prices (labels ++ list ∷ [])
closed_more kinds n weight prices labels list count closed is = λ kind less. elim (cases_lt kind n) [
  | inl before ↦
      let same : labels_at (labels ++ list ∷ []) kind ≡ labels_at labels kind = get_or_append_left labels (list ∷ []) [] kind (omega (arith, before, count)) in
      subst (λ (ls : List Label). IsClosedList (network_of kinds kind) weight prices ls) (sym same) (closed kind before)
  | inr here ↦
      let now : kind ≡ length labels = omega (arith, less, here, count) in
      let same : labels_at (labels ++ list ∷ []) kind ≡ list = ap (λ k. labels_at (labels ++ list ∷ []) k) now ∙ get_or-append_seam labels list [] [] in
      subst (λ (ls : List Label). IsClosedList (network_of kinds kind) weight prices ls) (sym same)
      (subst (λ (k : ℕ). IsClosedList (network_of kinds k) weight prices list) (sym (now ∙ count)) is)
]
