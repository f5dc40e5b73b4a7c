-- What a round of pricing has gathered over the first kinds.
use Rattle.std.specs.Prelude.{◌≡◌, ℕ, List, [], ◌∷◌, ◌++◌, length, ℤ}
use Rattle.std.specs.List.{All}
use Rattle.ev_model.specs.Network.{Network}
use Rattle.piece_fn.specs.declared.label.Label.{Label}
use Rattle.price_loop.specs.Problems.{IsEarning}
use Rattle.price_loop.specs.declared.earners.Earned.{Earned}
use Rattle.price_loop.specs.declared.earners.Earned.TheVariants.{Better, Closed}
use Rattle.mixed_fleet.specs.Problem.{AreClosedBelow, problem_of}
use Rattle.mixed_fleet.specs.declared.searched.Searched.{Searched}

-- routes that earn, and where there is none a list for each of so many kinds
pub record AreGathered (kinds : List Network) (count weight : ℕ) (prices : List ℤ)
    (found : List Searched) (lists : List (List Label)) : Type 0 where
  pub earn : All (IsEarning (problem_of kinds) weight prices) found
  pub one_list : found ≡ [] → length lists ≡ count
  pub closed : found ≡ [] → AreClosedBelow kinds count weight prices lists

-- the routes of one kind more, or its labels
abbrev pub IsGathered : Earned Searched (List Label) → List Searched → List (List Label) →
    List Searched → List (List Label) → Type 0
IsGathered (Better first further) found lists new_found new_lists =
    (new_found ≡ found ++ first ∷ further.items) × (new_lists ≡ lists)
IsGathered (Closed labels) found lists new_found new_lists =
    (new_found ≡ found) × (new_lists ≡ lists ++ labels ∷ [])
