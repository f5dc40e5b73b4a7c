-- That the labels of near routes are lawful.
use Rattle.std.proofs.Common.{◌≡◌, ◌∙◌, ℕ, ◌+◌, ◌*◌, ◌<◌, ◌≤◌, ◌&&◌, refl, sym, ap, subst, List, [], ◌∷◌, ◌++◌, map, length, arith, inl, inr, true, nat_eq}
use Rattle.std.proofs.Math.Nat.{mul-le-mul_left, mul-le-mul_right}
use Rattle.std.proofs.lemmas.Bool.{and_parts, eqb-true, false≢true, or_cases}
use Rattle.std.proofs.lemmas.List.Sums.{sum_by-cons}
use Rattle.customer_sets.specs.CustSet.{has, IsWithin}
use Rattle.ev_model.specs.Fleet.{customers_of}
use Rattle.ev_model.specs.Network.{node_count}
use Rattle.ev_model.specs.Route.{route_of}
use Rattle.ev_model.specs.declared.Stop.{Stop}
use Rattle.fleet_model.specs.Places.{customer_count, customer_number, numbers_of}
use Rattle.fleet_model.specs.Steps.{time_at as time_when}
use Rattle.fleet_model.proofs.Counts.{AreCustomers}
use Rattle.fleet_model.proofs.Plans.{filtered}
use Rattle.label_search.specs.Laws.{IsLawful, IsWay, PaysHome}
use Rattle.label_search.specs.Steps.{IsInRange, Leads}
use Rattle.near_proof.specs.Broken.{EarnsHome}
use Rattle.near_proof.specs.Routes.{KeepsMemory}
use Rattle.near_proof.specs.States.{near_at}
use Rattle.near_proof.specs.Terms.{earned_by, near_set, price_of, remembered}
use Rattle.near_proof.specs.declared.proof.NearLabel.{NearLabel}
use Rattle.near_proof.proofs.Members.{keeps_same, remembered_is}
use Rattle.near_pricing.specs.Better.{HasBetter}
use Rattle.near_pricing.specs.Labels.{Begins, Fits, near_space, Passes, Pays, Serves}
use Rattle.near_pricing.specs.Questions.{IsQuestion, most_price, Question}
use Rattle.near_pricing.proofs.Customers.{near_route}
use Rattle.near_pricing.proofs.LabelRanges.{few_customers, number_within, small_price}
use Rattle.near_pricing.proofs.NoSteps.{nobody_arrives}

more_earned : (a b e f price most : ℕ) → b ≡ a + 1 → f ≡ e + price → e ≤ a * most → price ≤ most → f ≤ b * most
more_earned a b e f price most count earned before small = rw count (omega (arith, earned, before, small))

same_earned : (a b e f most : ℕ) → b ≡ a → f ≡ e → e ≤ a * most → f ≤ b * most
same_earned a b e f most count earned before = rw (count, earned) before

none_earned : (count earned price time : ℕ) → count ≡ 0 → earned ≤ count * price → time < earned → ⊥
none_earned count earned price time none much more =
    let few : count ≤ 0 = omega (arith, none) in
    let nothing = mul-le-mul_right price few in
    omega (arith, nothing, much, more)

module _ (q : Question) where
  -- a label one step behind one in range is in range
  step_fits : IsQuestion q → (from to : NearLabel) → Fits q.network from → to.node < node_count q.network → Leads (near_space q) from to → Fits q.network to
  step_fits is from to fits known leads = elim (leads.kind) [
    | inl customer ↦
        let serves : Serves q from to = customer.1 in
        let within = number_within q.network to.node known customer.0 in
        record {
          memory = λ c h. elim (or_cases (nat_eq (customer_number q.network to.node) c) (has from.memory c && has (near_set q.terms.sets (customer_number q.network to.node)) c) (sym (serves.memory c) ∙ h)) [
            | inl same ↦ subst (λ n. n < customer_count q.network) (eqb-true (customer_number q.network to.node) c same) within
            | inr before ↦ fits.memory c (and_parts (has from.memory c) (has (near_set q.terms.sets (customer_number q.network to.node)) c) before).0
          ];
          count = omega (arith, serves.count, serves.fewer);
          few = omega (arith, serves.count, serves.fewer, few_customers q is);
          earned = more_earned from.count to.count from.earned to.earned (price_of q.terms.prices (customer_number q.network to.node)) most_price serves.count serves.earned fits.earned
              (small_price q is (customer_number q.network to.node) within);
        }
    | inr station ↦
        let passes : Passes from to = station.1 in
        record {
          memory = λ c h. fits.memory c (subst (λ s. has s c ≡ true) passes.memory h);
          count = omega (arith, passes.count, fits.count);
          few = omega (arith, passes.count, fits.few);
          earned = same_earned from.count to.count from.earned to.earned most_price passes.count passes.earned fits.earned;
        }
  ]

  -- the step home pays
  at_home : (l : NearLabel) → IsInRange (near_space q) l → EarnsHome q.network q.terms.weight l → PaysHome (near_space q) l
  at_home l range earns =
      let step = earns.2 in
      let more = earns.3 in
      record {
        level = earns.0;
        is = earns.1;
        goes = record {
          known = step.step.known;
          moves = step.step.moves;
          reaches = step.step.reaches;
          home = step.home;
          in_time = step.in_time;
        };
        pays = record {
          keeps = tt;
          few = omega (arith, range.fits.count);
          earns = omega (arith, more);
          some = λ none. absurd (none_earned l.count l.earned most_price (q.terms.weight * time_when q.network (near_at l earns.0).state 0) none range.fits.earned more);
        };
      }

  passing : (from to : NearLabel) (less time : ℕ) (order : List ℕ) → Passes from to → less ≤ time → Pays q to time order → Pays q from less order
  passing from to less time order passes sooner pays =
      let scaled = mul-le-mul_left q.terms.weight sooner in
      record {
        keeps = subst (λ m. KeepsMemory q.terms.sets m (map (customer_number q.network) order)) passes.memory pays.keeps;
        few = (let same = passes.count in omega (arith, same, pays.few));
        earns = (let same = passes.earned in omega (arith, same, scaled, pays.earns));
        some = λ none. pays.some (passes.count ∙ none);
      }

  serving : (from to : NearLabel) (less time : ℕ) (order : List ℕ) → Serves q from to → less ≤ time → Pays q to time order → Pays q from less (to.node ∷ order)
  serving from to less time order serves sooner pays =
      let number = customer_number q.network to.node in
      let scaled = mul-le-mul_left q.terms.weight sooner in
      let within : IsWithin (remembered q.terms.sets from.memory (customer_number q.network to.node)) to.memory = λ c h. serves.memory c ∙ sym (remembered_is q.terms.sets from.memory (customer_number q.network to.node) c) ∙ h in
      record {
        keeps = (serves.new, keeps_same q.terms.sets (remembered q.terms.sets from.memory number) to.memory (map (customer_number q.network) order) within pays.keeps);
        few = (let same = serves.count in omega (arith, same, pays.few));
        earns = (let same = serves.earned in let sum = sum_by-cons (price_of q.terms.prices) (customer_number q.network to.node) (map (customer_number q.network) order) in omega (arith, same, scaled, sum, pays.earns));
        some = λ none e. cc;
      }

  -- the way home from the start makes a plan
  makes : IsQuestion q → (l : NearLabel) (time : ℕ) (order : List ℕ) (stops : List Stop) → Begins l → Pays q l time order → IsWay (near_space q) order time stops → HasBetter q order
  makes is l time order stops begins pays way =
      let are : AreCustomers q.network order = subst (AreCustomers q.network) way.serves (filtered q.network (route_of stops)) in
      let scaled = mul-le-mul_left q.terms.weight way.in_time in
      let some = pays.some begins.count in
      let numbers : numbers_of q.network stops ≡ map (customer_number q.network) order = ap (map (customer_number q.network)) way.serves in
      let much : earned_by q.terms.prices (numbers_of q.network stops) ≡ earned_by q.terms.prices (map (customer_number q.network) order) = ap (earned_by q.terms.prices) numbers in
      let none = begins.earned in
      let keeps : KeepsMemory q.terms.sets [] (map (customer_number q.network) order) = subst (λ m. KeepsMemory q.terms.sets m (map (customer_number q.network) order)) begins.memory pays.keeps in
      let count : length (customers_of q.network stops) ≡ length order = ap length way.serves in
      record {
        is_route = near_route q.network q.terms.sets l.memory order is.network.depot some are way.known pays.keeps;
        stops = stops;
        serves = way.serves;
        better = record {
          route = record {
            feasible = way.feasible;
            only = way.follows ∙ ap (λ ns. 0 ∷ ns ++ 0 ∷ []) (sym way.serves);
            some = λ none_served. some (sym way.serves ∙ none_served);
            few = omega (arith, count, pays.few);
            keeps = subst (λ ns. KeepsMemory q.terms.sets [] ns) (sym numbers) keeps;
          };
          earns = omega (arith, scaled, none, much, pays.earns);
        };
      }

  pub are_lawful : IsQuestion q → IsLawful (near_space q)
  are_lawful is = record {
    network = is.network;
    label_node = λ t x value. refl;
    label_value = λ t x value. refl;
    start_fits = λ l begins. record {
      memory = λ c h. absurd (false≢true (subst (λ s. has s c ≡ true) begins.memory h));
      count = (let none = begins.count in omega (arith, none));
      few = (let none = begins.count in omega (arith, none));
      earned = (let none = begins.earned in omega (arith, none));
    };
    step_fits = λ from to range known leads. step_fits is from to range.fits known leads;
    arrives = λ l x can none. nobody_arrives q.network l x none can;
    at_home = at_home;
    serving = λ from to less time order customer serves sooner pays. serving from to less time order serves sooner pays;
    passing = passing;
    makes = makes is;
  }
