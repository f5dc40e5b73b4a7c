-- The instance of a file with the limit of the words, the first steps of each command that reads one.
use Rattle.std.specs.Prelude.{◌≡◌, ℕ, ◌*◌, ◌^◌, ◌<◌, ◌≤◌, List, Option, None, Some}
use Rattle.ev_model.specs.Network.{Network}
use Rattle.instance_reader.specs.Faults.{IsFirstFault, IsInstanceOf}
use Rattle.refusal_lines.specs.declared.refusal.Refusal.{Refusal}
use Rattle.refusal_lines.specs.declared.refusal.Refusal.TheVariants as refusal

-- the network with the limit of the words in place of its own
abbrev pub limited : Network → Option ℕ → Network
limited g None = g
limited g (Some limit) = record g { limit = limit }

-- a limit of the words fits: scaled it is at most 10^18
abbrev pub FitsLimit : Network → Option ℕ → Type 0
FitsLimit g None = Unit {0}
FitsLimit g (Some limit) = limit * g.denominator ≤ 10 ^ 18

-- the bytes are an instance, and g is its network with the limit of the words
pub record HasNetwork (limit : Option ℕ) (bytes : List ℕ) (g : Network) : Type 0 where
  pub read : Network
  pub instance : IsInstanceOf bytes read
  pub fits : FitsLimit read limit
  pub limited_to : g ≡ limited read limit

-- the limit of the words does not fit the instance of the bytes
pub record IsPastLimit (limit : Option ℕ) (bytes : List ℕ) (given : ℕ) : Type 0 where
  pub read : Network
  pub instance : IsInstanceOf bytes read
  pub from_words : limit ≡ Some given
  pub past : 10 ^ 18 < given * read.denominator

-- the first broken rule: of the instance, then of the limit
abbrev pub IsNetworkRefused : Option ℕ → List ℕ → Refusal → Type 0
IsNetworkRefused limit bytes (refusal.Instance fault) = IsFirstFault bytes fault
IsNetworkRefused limit bytes (refusal.Limit given) = IsPastLimit limit bytes given
IsNetworkRefused limit bytes other = ⊥
