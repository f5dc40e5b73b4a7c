-- What labels are to a search: where they are, what they remember and have earned, which steps may be made from
-- them, and which routes they lead to (resources and their extension: Irnich, Desaulniers 2005).
use Rattle.std.specs.Prelude.{ℕ, List}
use Rattle.ev_model.specs.Network.{Network}

-- labels, targets of steps (what the labels behind a step have in common), and routes
pub record Space (Label Target Route : Type 0) : Type 1 where
  pub network : Network
  -- a label's node and its value; the label of a target at a node with a value
  pub node : Label → ℕ
  pub value : Label → List (ℕ × ℕ)
  pub label : Target → ℕ → List (ℕ × ℕ) → Label
  -- into how many groups labels fall
  pub groups : ℕ
  -- what a label remembers and has earned is in range; it remembers nobody and has earned nothing
  pub fits : Label → Type 0
  pub begins : Label → Type 0
  -- one label is another one after serving a customer at its node, or after passing or charging at a station there
  pub serves : Label → Label → Type 0
  pub passes : Label → Label → Type 0
  -- some vehicle of a label may go on to a node
  pub can_step : Label → ℕ → Type 0
  -- some way straight home takes less than the label has earned
  pub earns : Label → Type 0
  -- from the label on the customers at these nodes may be served in this order, and with them it earns more than such a
  -- scaled time costs
  pub pays : Label → ℕ → List ℕ → Type 0
  -- the customers at these nodes in this order make a route that earns; a route earns
  pub has_route : List ℕ → Type 0
  pub is_route : Route → Type 0
  -- labels that show that no route earns
  pub closes : List Label → Type 0
