-- What pricing of near routes is asked.
use Rattle.std.specs.Prelude.{◌≡◌, ℕ, ◌+◌, ◌^◌, ◌≤◌, length}
use Rattle.std.specs.List.{All}
use Rattle.ev_model.specs.Network.{IsNetwork, Network}
use Rattle.instance_reader.specs.Instance.{customer_nodes, most_customers}
use Rattle.near_proof.specs.Ranges.{SetsFit}
use Rattle.near_proof.specs.Terms.{Terms}

-- a network, and what near routes are judged by
pub record Question : Type 0 where
  pub network : Network
  pub terms : Terms

-- the greatest price that is asked
abbrev pub most_price : ℕ
most_price = 10 ^ 18 + 1

pub record IsQuestion (q : Question) : Type 0 where
  pub network : IsNetwork q.network
  pub few : length (customer_nodes q.network) ≤ most_customers
  pub weight : q.terms.weight ≤ 1
  pub one_price : length q.terms.prices ≡ length (customer_nodes q.network)
  pub sets : SetsFit (length (customer_nodes q.network)) q.terms.sets
  pub small : All (λ price. price ≤ most_price) q.terms.prices
