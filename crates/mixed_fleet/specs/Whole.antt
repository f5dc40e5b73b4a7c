-- The plan that whole shares of an exact root are.
use Rattle.std.specs.Prelude.{◌≡◌, ℕ, List, Some}
use Rattle.std.specs.List.{All}
use Rattle.ev_model.specs.Network.{Network}
use Rattle.mixed_model.specs.declared.proof.MixedProof.{MixedProof}
use Rattle.mixed_model.specs.declared.proof.MixedRoot.{MixedRoot}
use Rattle.mixed_model.specs.declared.proof.MixedRoot.TheVariants as root
use Rattle.mixed_model.specs.declared.proof.MixedRoute.{MixedRoute}
use Rattle.mixed_model.specs.declared.proof.MixedShare.{MixedShare}
use Rattle.mixed_fleet.specs.Plans.{cost_of_routes, IsHeld}

-- each route has its whole share
abbrev pub AreWhole : ℕ → List MixedShare → Type 0
AreWhole over shares = All (λ x. x.share ≡ over) shares

-- the root isn't exact, or some share isn't whole
abbrev pub HasParts : MixedRoot → Type 0
HasParts root.None = Unit {0}
HasParts (root.Exact over shares) = AreWhole over shares → ⊥
HasParts (root.Wide columns basis) = Unit {0}

-- a plan that may be held, at exactly the bound
pub record IsAtBound (kinds : List Network) (p : MixedProof)
    (routes : List MixedRoute) : Type 0 where
  pub held : IsHeld kinds routes
  pub cost : p.bound ≡ Some (cost_of_routes kinds routes)
