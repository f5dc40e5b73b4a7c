-- Choices of candidates that serve each customer once (set partitioning: Balas, Padberg 1976).
use Rattle.std.specs.Prelude.{◌≡◌, ℕ, suc, ◌<◌, ◌≤◌, List, [], ◌∷◌, get_or, length, map, ℤ, pos, ◌+ℤ◌, ◌<ℤ◌, if◌then◌else◌}
use Rattle.std.specs.List.{All}
use Rattle.customer_sets.specs.CustSet.{has}
use Rattle.set_partitioning.specs.declared.candidate.Candidate.{Candidate}

-- it serves nobody: what a place past the end stands for
abbrev pub nobody : Candidate
nobody = record { served = []; excess = pos 0 }

abbrev pub candidate_at : List Candidate → ℕ → Candidate
candidate_at candidates at = get_or candidates at nobody

-- how many of the candidates serve the customer
abbrev pub times_served : List Candidate → ℕ → ℕ
times_served [] c = 0
times_served (x ∷ xs) c = if has x.served c then suc (times_served xs c) else times_served xs c

-- what their excesses come to
abbrev pub excess_of : List Candidate → ℤ
excess_of [] = pos 0
excess_of (x ∷ xs) = x.excess +ℤ excess_of xs

-- no two of them serve the same customer; customers have numbers below 128
abbrev pub AreApart : List Candidate → Type 0
AreApart taken = (c : ℕ) → c < 128 → times_served taken c ≤ 1

-- each of so many customers is served by one of them
abbrev pub AreWhole : ℕ → List Candidate → Type 0
AreWhole customers taken = (c : ℕ) → c < customers → times_served taken c ≡ 1

-- the candidates at these places serve each of so many customers, no two of them the same one, and
-- their excesses come to less than the room
pub record IsPartition (candidates : List Candidate) (customers : ℕ) (room : ℤ)
    (places : List ℕ) : Type 0 where
  pub known : All (λ at. at < length candidates) places
  pub apart : AreApart (map (candidate_at candidates) places)
  pub whole : AreWhole customers (map (candidate_at candidates) places)
  pub below : excess_of (map (candidate_at candidates) places) <ℤ room
