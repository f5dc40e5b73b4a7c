-- That the labels of free routes are lawful.
use Rattle.std.proofs.Common.{◌≡◌, ◌∙◌, ℕ, ◌*◌, ◌<◌, ◌≤◌, ◌||◌, true, refl, sym, ap, subst, List, [], ◌∷◌, ◌++◌, map, length, arith, inl, inr}
use Rattle.std.specs.Prelude.{pos, ◌+ℤ◌, ◌<ℤ◌, ◌⊎◌}
use Rattle.std.proofs.Math.Nat.{mul-le-mul_left}
use Rattle.std.proofs.lemmas.Bool.{cases_eq, false≢true, ne_eqb}
use Rattle.std.proofs.lemmas.Int.{ints}
use Rattle.customer_sets.specs.CustSet.{has, with_customer}
use Rattle.customer_sets.specs.Pairs.{allows_of}
use Rattle.customer_sets.proofs.Ranges.{has-with_customer}
use Rattle.ev_model.specs.Fleet.{times_in}
use Rattle.ev_model.specs.Network.{is_customer, Network, node_count}
use Rattle.ev_model.specs.Route.{route_of}
use Rattle.ev_model.specs.declared.Stop.{Stop}
use Rattle.fleet_model.specs.Pairs.{KeepsPairs}
use Rattle.fleet_model.specs.Places.{customer_number, place_of}
use Rattle.fleet_model.specs.Prices.{price_of, price_sum}
use Rattle.fleet_model.specs.ClosedListRules.{EarnsAtHome}
use Rattle.fleet_model.proofs.Counts.{AreCustomers, AreNew, number_less}
use Rattle.fleet_model.proofs.Numbers.{counted}
use Rattle.fleet_model.proofs.Plans.{filtered}
use Rattle.instance_reader.specs.Instance.{customer_nodes}
use Rattle.label_search.specs.Laws.{IsLawful, IsWay, PaysHome}
use Rattle.label_search.specs.Steps.{Leads}
use Rattle.piece_fn.specs.declared.label.Label.{Label}
use Rattle.closed_lists.specs.Questions.{Question, section}
use Rattle.closed_lists.specs.Sections.{paid_label}
use Rattle.closed_lists.proofs.LabelSteps.{nobody_arrives}
use Rattle.pricing.specs.Better.{HasBetter}
use Rattle.pricing.specs.Labels.{Begins, Fits, IsSound, Passes, Pays, route_space, Serves}
use Rattle.pricing.proofs.Customers.{new_route, new_same, nodes_once, with_sum}

number_within : (g : Network) (x : ℕ) → x < node_count g → is_customer g x ≡ true → customer_number g x < length (customer_nodes g)
number_within g x less is = omega (arith, number_less g x (node_count g) is less, counted g)

either_in : (n c : ℕ) (set : List ℕ) → has (with_customer n set) c ≡ true → (n ≡ c) ⊎ (has set c ≡ true)
either_in n c set h = elim (cases_eq n c) [
  | inl same ↦ inl same
  | inr other ↦ inr (sym (ap (λ t. t || has set c) (ne_eqb n c other)) ∙ sym (has-with_customer n set c) ∙ h)
]

module _ (q : Question) where
  -- behind a step all are customers
  step_fits : (from to : Label) → Fits q.network from → to.node < node_count q.network → Leads (route_space q) from to → Fits q.network to
  step_fits from to fits known leads = elim (leads.kind) [
    | inl customer ↦
        let serves : Serves q from to = customer.1 in
        record {
          last = inr (subst (λ u. u < node_count q.network) (sym serves.last) known, subst (λ u. is_customer q.network u ≡ true) (sym serves.last) customer.0);
          set = λ c h. elim (either_in (customer_number q.network to.node) c from.set (subst (λ s. has s c ≡ true) serves.set h)) [
            | inl same ↦ subst (λ n. n < length (customer_nodes q.network)) same (number_within q.network to.node known customer.0)
            | inr before ↦ fits.set c before
          ];
        }
    | inr station ↦
        let passes : Passes from to = station.1 in
        record {
          last = subst (λ u. (u ≡ 0) ⊎ ((u < node_count q.network) × (is_customer q.network u ≡ true))) (sym passes.last) fits.last;
          set = λ c h. fits.set c (subst (λ s. has s c ≡ true) passes.set h);
        }
  ]

  -- the step home pays
  at_home : (l : Label) → EarnsAtHome q.network (section q) (paid_label q.prices l) → PaysHome (route_space q) l
  at_home l earns =
      let step = earns.2 in
      let more = earns.3 in
      record {
        level = earns.0;
        is = earns.1;
        goes = record {
          known = step.step.known;
          moves = step.step.moves;
          reaches = step.step.reaches;
          home = step.home;
          in_time = step.in_time;
        };
        pays = record {
          pairs = (step.allowed, tt);
          new = tt;
          earns = omega (arith, ints, more);
          some = λ none. absurd (step.some none);
        };
      }

  -- what pays in some time pays in less
  less_earns : (less time : ℕ) (a b : List ℕ) → less ≤ time → pos (q.weight * time) <ℤ (price_sum q.prices a +ℤ price_sum q.prices b) → pos (q.weight * less) <ℤ (price_sum q.prices a +ℤ price_sum q.prices b)
  less_earns less time a b sooner earns =
      let scaled = mul-le-mul_left q.weight sooner in
      omega (arith, ints, scaled, earns)

  passing : (from to : Label) (less time : ℕ) (order : List ℕ) → Passes from to → less ≤ time → Pays q to time order → Pays q from less order
  passing from to less time order passes sooner pays = record {
    pairs = subst (λ u. KeepsPairs (allows_of q.pairs) (place_of q.network u ∷ map (place_of q.network) order ++ 0 ∷ [])) passes.last pays.pairs;
    new = subst (λ s. AreNew s (map (customer_number q.network) order)) passes.set pays.new;
    earns = subst (λ s. pos (q.weight * less) <ℤ (price_sum q.prices s +ℤ price_sum q.prices (map (customer_number q.network) order))) passes.set
        (less_earns less time to.set (map (customer_number q.network) order) sooner pays.earns);
    some = λ none. pays.some (passes.last ∙ none);
  }

  serving : (from to : Label) (less time : ℕ) (order : List ℕ) → Serves q from to → less ≤ time → Pays q to time order → Pays q from less (to.node ∷ order)
  serving from to less time order serves sooner pays =
      let number = customer_number q.network to.node in
      let prices : price_sum q.prices to.set ≡ price_of q.prices (customer_number q.network to.node) +ℤ price_sum q.prices from.set = ap (price_sum q.prices) serves.set ∙ with_sum q.prices (customer_number q.network to.node) from.set serves.new in
      let earns = less_earns less time to.set (map (customer_number q.network) order) sooner pays.earns in
      record {
        pairs = (serves.allowed, subst (λ u. KeepsPairs (allows_of q.pairs) (place_of q.network u ∷ map (place_of q.network) order ++ 0 ∷ [])) serves.last pays.pairs);
        new = (serves.new, new_same to.set (number ∷ from.set) (map (customer_number q.network) order) (λ c. ap (λ s. has s c) serves.set ∙ has-with_customer number from.set c) pays.new);
        earns = omega (arith, ints, prices, earns);
        some = λ none e. cc;
      }

  -- the way home from the start makes a plan
  makes : IsSound q → (l : Label) (time : ℕ) (order : List ℕ) (stops : List Stop) → Begins l → Pays q l time order → IsWay (route_space q) order time stops → HasBetter q order
  makes sound l time order stops begins pays way =
      let are : AreCustomers q.network order = subst (AreCustomers q.network) way.serves (filtered q.network (route_of stops)) in
      let some = pays.some begins.last in
      let none_paid : price_sum q.prices l.set ≡ pos 0 = ap (price_sum q.prices) begins.set in
      let scaled = mul-le-mul_left q.weight way.in_time in
      let earns = pays.earns in
      record {
        is_route = new_route q.network l.set order sound.network.depot some are way.known pays.new;
        stops = stops;
        better = record {
          route = record {
            feasible = way.feasible;
            some = λ none. some (sym way.serves ∙ none);
            only = way.follows ∙ ap (λ ns. 0 ∷ ns ++ 0 ∷ []) (sym way.serves);
            once = λ node is. subst (λ ns. times_in ns node ≤ 1) (sym way.serves) (nodes_once q.network l.set order node are pays.new is);
          };
          serves = way.serves;
          keeps = subst (λ ns. KeepsPairs (allows_of q.pairs) (0 ∷ map (place_of q.network) ns ++ 0 ∷ [])) (sym way.serves)
              (subst (λ u. KeepsPairs (allows_of q.pairs) (place_of q.network u ∷ map (place_of q.network) order ++ 0 ∷ [])) begins.last pays.pairs);
          earns = omega (arith, ints, scaled, none_paid, earns);
        };
      }

  pub are_lawful : IsSound q → IsLawful (route_space q)
  are_lawful sound = record {
    network = sound.network;
    label_node = λ t x value. refl;
    label_value = λ t x value. refl;
    start_fits = λ l begins. record {
      last = inl begins.last;
      set = λ c h. absurd (false≢true (subst (λ s. has s c ≡ true) begins.set h));
    };
    step_fits = λ from to range known leads. step_fits from to range.fits known leads;
    arrives = λ l x can none. nobody_arrives q l x none can;
    at_home = λ l range earns. at_home l earns;
    serving = λ from to less time order customer serves sooner pays. serving from to less time order serves sooner pays;
    passing = passing;
    makes = makes sound;
  }
