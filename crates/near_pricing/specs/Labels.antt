-- The labels of near routes: a vehicle remembers some of those whom it served, and how often it served anybody.
use Rattle.std.specs.Prelude.{◌≡◌, ◌≢◌, ℕ, ◌+◌, ◌*◌, ◌<◌, ◌≤◌, ◌&&◌, ◌||◌, List, [], map, length, false, nat_eq}
use Rattle.customer_sets.specs.CustSet.{has}
use Rattle.ev_model.specs.Network.{Network, node_count}
use Rattle.fleet_model.specs.Places.{customer_count, customer_number}
use Rattle.instance_reader.specs.Instance.{most_customers}
use Rattle.label_search.specs.Space.{Space}
use Rattle.near_proof.specs.Broken.{EarnsHome}
use Rattle.near_proof.specs.Closed.{AreClosed}
use Rattle.near_proof.specs.Ranges.{AreAmong}
use Rattle.near_proof.specs.Routes.{KeepsMemory}
use Rattle.near_proof.specs.Terms.{earned_by, near_set, price_of}
use Rattle.near_proof.specs.declared.proof.NearLabel.{NearLabel}
use Rattle.route_plan.specs.declared.plan.RoutePlan.{RoutePlan}
use Rattle.near_pricing.specs.Answers.{IsBetter}
use Rattle.near_pricing.specs.Better.{HasBetter}
use Rattle.near_pricing.specs.Placed.{CanStep}
use Rattle.near_pricing.specs.Questions.{most_price, Question}
use Rattle.near_pricing.specs.declared.steps.Target.{Target}

-- who is remembered, how many services there were and what was earned are in range
pub record Fits (g : Network) (l : NearLabel) : Type 0 where
  pub memory : AreAmong (customer_count g) l.memory
  pub count : l.count ≤ customer_count g
  pub few : l.count ≤ most_customers
  pub earned : l.earned ≤ l.count * most_price

-- before any service
pub record Begins (l : NearLabel) : Type 0 where
  pub memory : l.memory ≡ []
  pub count : l.count ≡ 0
  pub earned : l.earned ≡ 0

-- a customer is served who isn't remembered, after fewer services than there are customers
pub record Serves (q : Question) (from to : NearLabel) : Type 0 where
  pub memory : (c : ℕ) → has to.memory c ≡ (nat_eq (customer_number q.network to.node) c
      || (has from.memory c && has (near_set q.terms.sets (customer_number q.network to.node)) c))
  pub new : has from.memory (customer_number q.network to.node) ≡ false
  pub count : to.count ≡ from.count + 1
  pub fewer : from.count < customer_count q.network
  pub earned : to.earned
      ≡ from.earned + price_of q.terms.prices (customer_number q.network to.node)

-- nobody is served
pub record Passes (from to : NearLabel) : Type 0 where
  pub memory : to.memory ≡ from.memory
  pub count : to.count ≡ from.count
  pub earned : to.earned ≡ from.earned

-- none of the customers at these nodes is remembered when served, they are few, and with them more is earned than such a
-- time costs
pub record Pays (q : Question) (l : NearLabel) (time : ℕ) (order : List ℕ) : Type 0 where
  pub keeps : KeepsMemory q.terms.sets l.memory (map (customer_number q.network) order)
  pub few : l.count + length order ≤ customer_count q.network
  pub earns : q.terms.weight * time
      < l.earned + earned_by q.terms.prices (map (customer_number q.network) order)
  pub some : l.count ≡ 0 → order ≢ []

-- the label with a value, which has all else from a target
abbrev pub with_value : Target → ℕ → List (ℕ × ℕ) → NearLabel
with_value t node value = record {
  node = node;
  memory = t.memory;
  count = t.count;
  earned = t.earned;
  value = value;
}

-- a route that was found
abbrev pub IsBetterPlan : Question → RoutePlan → Type 0
IsBetterPlan q plan = IsBetter q.network q.terms plan

abbrev pub near_space : Question → Space NearLabel Target RoutePlan
near_space q = record {
  network = q.network;
  node = λ l. l.node;
  value = λ l. l.value;
  label = with_value;
  groups = node_count q.network;
  fits = Fits q.network;
  begins = Begins;
  serves = Serves q;
  passes = Passes;
  can_step = CanStep q.network;
  earns = EarnsHome q.network q.terms.weight;
  pays = Pays q;
  has_route = HasBetter q;
  is_route = IsBetterPlan q;
  closes = AreClosed q.network q.terms;
}
