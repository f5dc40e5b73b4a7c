-- Entries into a set of customers: pairs that lead into it from without. With the set of all
-- customers they are the routes. (Such cuts of the two-index formulation are branched on as in
-- Augerat, Belenguer, Benavent, Corberan, Naddef, Rinaldi 1995.)
use Rattle.std.specs.Prelude.{ℕ, zero, suc, ◌+◌, List, [], ◌∷◌, Bool, false, not, ◌&&◌, if◌then◌else◌}
use Rattle.customer_sets.specs.CustSet.{has}
use Rattle.ev_model.specs.Network.{Network}
use Rattle.ev_model.specs.declared.Stop.{Stop}
use Rattle.near_tree.specs.Pairs.{fleet_pairs}

-- the place is that of a customer of the set; the depot's never is
abbrev pub is_in : List ℕ → ℕ → Bool
is_in set zero = false
is_in set (suc c) = has set c

-- j is in the set, and i isn't
abbrev pub enters : List ℕ → ℕ → ℕ → Bool
enters set i j = is_in set j && not (is_in set i)

-- how many of the pairs enter the set
abbrev pub entries_among : List ℕ → List (ℕ × ℕ) → ℕ
entries_among set [] = 0
entries_among set (p ∷ pairs) = (if enters set p.0 p.1 then 1 else 0) + entries_among set pairs

-- how often the routes of a fleet plan enter the set
abbrev pub entries_of : Network → List ℕ → List (List Stop) → ℕ
entries_of g set plans = entries_among set (fleet_pairs g plans)
