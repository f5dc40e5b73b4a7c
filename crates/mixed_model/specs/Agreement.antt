-- The first kind of vehicles that doesn't agree with kind 0.
use Rattle.std.specs.Prelude.{ℕ, ◌<◌, ◌≤◌, List, length}
use Rattle.ev_model.specs.Network.{Network}
use Rattle.mixed_model.specs.Kinds.{Agrees, first_of, network_of}

pub record IsFirstApart (kinds : List Network) (kind : ℕ) : Type 0 where
  pub behind_first : 1 ≤ kind
  pub known : kind < length kinds
  pub apart : Agrees (first_of kinds) (network_of kinds kind) → ⊥
  pub first : (other : ℕ) → other < kind → Agrees (first_of kinds) (network_of kinds other)
