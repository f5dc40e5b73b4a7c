-- The labels of free routes: a vehicle remembers whom it served, and the last of them.
use Rattle.std.specs.Prelude.{◌≡◌, ◌≢◌, ℕ, ◌*◌, ◌<◌, ◌⊎◌, List, [], ◌∷◌, ◌++◌, map, true, false, length, pos, ◌+ℤ◌, ◌<ℤ◌}
use Rattle.customer_sets.specs.CustSet.{has, with_customer}
use Rattle.customer_sets.specs.Pairs.{allows_of}
use Rattle.ev_model.specs.Network.{is_customer, IsNetwork, Network, node_count}
use Rattle.fleet_model.specs.ClosedList.{IsClosed}
use Rattle.fleet_model.specs.ClosedListRules.{EarnsAtHome}
use Rattle.fleet_model.specs.Pairs.{KeepsPairs}
use Rattle.fleet_model.specs.Places.{customer_number, place_of}
use Rattle.fleet_model.specs.Prices.{price_sum}
use Rattle.fleet_model.proofs.Counts.{AreNew}
use Rattle.instance_reader.specs.Instance.{customer_nodes}
use Rattle.label_search.specs.Space.{Space}
use Rattle.piece_fn.specs.declared.label.Label.{Label}
use Rattle.closed_lists.specs.Questions.{IsQuestion, Question, section}
use Rattle.closed_lists.specs.Sections.{paid_label, section_of}
use Rattle.closed_lists.specs.Tellings.{IsUncovered}
use Rattle.pricing.specs.Answers.{IsBetterRoute}
use Rattle.pricing.specs.Better.{HasBetter}
use Rattle.pricing.specs.declared.labels.Target.{Target}
use Rattle.pricing.specs.declared.priced.PricedRoute.{PricedRoute}

-- what is asked is in range, and of steps alone: there is no label yet
pub record IsSound (q : Question) : Type 0 where
  pub ranges : IsQuestion q
  pub network : IsNetwork q.network
  pub none : q.labels ≡ []

-- the last customer, or the depot, and those who were served are customers
pub record Fits (g : Network) (l : Label) : Type 0 where
  pub last : (l.last ≡ 0) ⊎ ((l.last < node_count g) × (is_customer g l.last ≡ true))
  pub set : (c : ℕ) → has l.set c ≡ true → c < length (customer_nodes g)

-- nobody was served
pub record Begins (l : Label) : Type 0 where
  pub last : l.last ≡ 0
  pub set : l.set ≡ []

-- a further customer is served, along an allowed pair
pub record Serves (q : Question) (from to : Label) : Type 0 where
  pub last : to.last ≡ to.node
  pub set : to.set ≡ with_customer (customer_number q.network to.node) from.set
  pub new : has from.set (customer_number q.network to.node) ≡ false
  pub allowed : allows_of q.pairs (place_of q.network from.last)
      (place_of q.network to.node) ≡ true

-- nobody is served
pub record Passes (from to : Label) : Type 0 where
  pub last : to.last ≡ from.last
  pub set : to.set ≡ from.set

-- the customers at these nodes are new and keep the pairs, and all prices come to more than such a time costs
pub record Pays (q : Question) (l : Label) (time : ℕ) (order : List ℕ) : Type 0 where
  pub pairs : KeepsPairs (allows_of q.pairs)
      (place_of q.network l.last ∷ map (place_of q.network) order ++ 0 ∷ [])
  pub new : AreNew l.set (map (customer_number q.network) order)
  pub earns : pos (q.weight * time)
      <ℤ (price_sum q.prices l.set +ℤ price_sum q.prices (map (customer_number q.network) order))
  pub some : l.last ≡ 0 → order ≢ []

-- the label with a value, which has all else from a target
abbrev pub label_of : Target → ℕ → List (ℕ × ℕ) → Label
label_of t node value = record { last = t.last; node = node; set = t.set; value = value }

abbrev pub route_space : Question → Space Label Target PricedRoute
route_space q = record {
  network = q.network;
  node = λ l. l.node;
  value = λ l. l.value;
  label = label_of;
  groups = node_count q.network * node_count q.network;
  fits = Fits q.network;
  begins = Begins;
  serves = Serves q;
  passes = Passes;
  can_step = IsUncovered q;
  earns = λ l. EarnsAtHome q.network (section q) (paid_label q.prices l);
  pays = Pays q;
  has_route = HasBetter q;
  is_route = IsBetterRoute q;
  closes = λ labels. IsClosed q.network (section_of q.pairs q.weight q.prices labels);
}
