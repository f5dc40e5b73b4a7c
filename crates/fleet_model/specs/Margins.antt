-- By how much earlier a label has to be, to be at no more cost than a state that has paid more.
use Rattle.std.specs.Prelude.{◌≡◌, ℕ, ◌+◌, ◌*◌, ◌≤◌, ℤ, pos, ◌+ℤ◌, ◌≤ℤ◌}
use Rattle.customer_sets.specs.CustSet.{IsWithin}
use Rattle.fleet_model.specs.Labels.{State, IsLevel, Label, state_at}
use Rattle.fleet_model.specs.Coverage.{IsAsGood}

-- the least number of time units that, times the weight, make up for what is paid less
pub record IsMargin (weight : ℕ) (own theirs : ℤ) (margin : ℕ) : Type 0 where
  pub enough : theirs ≤ℤ (own +ℤ pos (margin * weight))
  pub least : (other : ℕ) → theirs ≤ℤ (own +ℤ pos (other * weight)) → margin ≤ other

-- no number of time units makes up for it: the weight is 0, and less is paid
abbrev pub HasNoMargin : ℕ → ℤ → ℤ → Type 0
HasNoMargin weight own theirs = (other : ℕ) → theirs ≤ℤ (own +ℤ pos (other * weight)) → ⊥

-- a label is as good as a state at one of its levels
abbrev pub Covers : ℕ → Label → State → Type 0
Covers weight l b = (y : ℕ) × (IsLevel l y) × IsAsGood weight (state_at l y) b

-- a label is at the state's node after the same customer, with no other customer served, and reaches the
-- state's level or a higher one at a time that is earlier by a margin
pub record CoversBy (margin : ℕ) (l : Label) (b : State) : Type 0 where
  pub last : l.last ≡ b.last
  pub node : l.node ≡ b.node
  pub served : IsWithin l.served b.served
  pub reaches : (y : ℕ) × (IsLevel l y) × ((b.level ≤ y) × ((state_at l y).time + margin ≤ b.time))
