-- Counts of faults, which never fall.
use Rattle.std.specs.Prelude.{◌≡◌, ℕ, ◌+◌, ◌-◌, ◌^◌, ◌≤◌, min, List, Result, MatchResult}

-- a count of 64 bits after one more fault: its last value stays
abbrev pub one_more : ℕ → ℕ
one_more count = min (count + 1) (2 ^ 64 - 1)

-- The count rose, or stands at the end of 64 bits.
abbrev pub Rose : ℕ → ℕ → Type 0
Rose before now = one_more before ≤ now

-- No name's count is below what it was.
abbrev pub NeverFalls : (List ℕ → ℕ) → (List ℕ → ℕ) → Type 0
NeverFalls before now = (name : List ℕ) → before name ≤ now name

-- Each name's count is what it was.
abbrev pub Stays : (List ℕ → ℕ) → (List ℕ → ℕ) → Type 0
Stays before now = (name : List ℕ) → now name ≡ before name

-- The count rose by one, or stays at its last value.
pub record CountsOne (before now : ℕ) : Type 0 where
  pub one : now ≡ one_more before
  pub falls : before ≤ now

-- The call that failed was counted, and none that didn't.
abbrev pub IsCounted : {A E : Type 0} → Result A E → ℕ → ℕ → Type 0
IsCounted result before now = MatchResult result (λ _. now ≡ before) (λ _. CountsOne before now)
