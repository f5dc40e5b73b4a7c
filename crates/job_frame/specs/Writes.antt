-- What files hold once some were written.
use Rattle.std.specs.Prelude.{◌≡◌, ◌≢◌, ℕ, List, [], ◌∷◌, Option, None, Some}
use Rattle.ev_outside.specs.Shelf.{Files, HoldsUnder}

-- a file that is written: its name, and all that it holds then
pub record Written : Type 0 where
  pub name : List ℕ
  pub bytes : List ℕ

-- the name is none of theirs
abbrev pub IsNoneOf : List ℕ → List Written → Type 0
IsNoneOf name [] = Unit {0}
IsNoneOf name (w ∷ ws) = (name ≢ w.name) × IsNoneOf name ws

-- no two have the same name
abbrev pub AreDifferent : List Written → Type 0
AreDifferent [] = Unit {0}
AreDifferent (w ∷ ws) = IsNoneOf w.name ws × AreDifferent ws

-- each of these files holds exactly its bytes
abbrev pub HoldsAll : List Written → Option Files → Type 0
HoldsAll [] files = Unit {0}
HoldsAll (w ∷ ws) files = HoldsUnder files w.name w.bytes × HoldsAll ws files

-- every other name holds what it held, or isn't there as before
abbrev pub KeepsAllBut : List Written → Option Files → Option Files → Type 0
KeepsAllBut ws None None = Unit {0}
KeepsAllBut ws (Some old) (Some new) =
    (name : List ℕ) → IsNoneOf name ws → new name ≡ old name
KeepsAllBut ws None (Some new) = ⊥
KeepsAllBut ws (Some old) None = ⊥

-- these files were written, each whole, and no other
abbrev pub Leaves : List Written → Option Files → Option Files → Type 0
Leaves [] old new = new ≡ old
Leaves (w ∷ ws) old new = HoldsAll (w ∷ ws) new × KeepsAllBut (w ∷ ws) old new

-- the shelf tells its files, and these are among them
abbrev pub StandIn : List Written → Option Files → Type 0
StandIn ws None = ⊥
StandIn ws (Some files) = HoldsAll ws (Some files)
