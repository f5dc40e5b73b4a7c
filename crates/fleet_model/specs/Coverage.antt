-- When a label makes a state needless.
use Rattle.std.specs.Prelude.{◌≡◌, ℕ, ◌*◌, ◌≤◌, pos, ◌-ℤ◌, ◌≤ℤ◌}
use Rattle.std.specs.List.{Contains}
use Rattle.customer_sets.specs.CustSet.{IsWithin}
use Rattle.fleet_model.specs.Labels.{State, IsLevel, Label, state_at}
use Rattle.fleet_model.specs.Section.{Section}

-- the state a is as good as b: at the same node after the same customer, with no customer served that b
-- hasn't, no lower, no later, and at no more cost, which is the weight times the time less the paid sum
pub record IsAsGood (weight : ℕ) (a b : State) : Type 0 where
  pub last : a.last ≡ b.last
  pub node : a.node ≡ b.node
  pub served : IsWithin a.served b.served
  pub level : b.level ≤ a.level
  pub time : a.time ≤ b.time
  pub cost : (pos (weight * a.time) -ℤ a.paid) ≤ℤ (pos (weight * b.time) -ℤ b.paid)

-- some label of the section is as good as the state, at one of its levels
abbrev pub IsCovered : Section → State → Type 0
IsCovered s b =
    (l : Label) × (Contains s.labels l) ×
    ((y : ℕ) × (IsLevel l y) × (IsAsGood s.weight (state_at l y) b))
