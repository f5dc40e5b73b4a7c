-- Kinds of vehicles by their numbers.
use Rattle.std.proofs.Common.{◌≡◌, ℕ, zero, suc, ◌+◌, ◌<◌, ◌≤◌, List, length, get_or, refl, sym, subst, arith, inl, inr}
use Rattle.std.specs.List.{All}
use Rattle.std.proofs.lemmas.Bool.{cases_eq}
use Rattle.std.proofs.lemmas.List.{get_or_read}
use Rattle.std.proofs.lemmas.List.Elements.{All-from_get_or}
use Rattle.ev_model.specs.Network.{Network}
use Rattle.mixed_model.specs.Kinds.{Agrees, first_of, network_of, no_network}
use Rattle.mixed_model.specs.Agreement.{IsFirstApart}

pub kind_is : (kinds : List Network) (kind : ℕ) (g : Network) → kind < length kinds → g ≡ get_or kinds kind g → network_of kinds kind ≡ g
kind_is kinds kind g known is = sym (get_or_read kinds kind g known is no_network)

abbrev pub AgreeTo : List Network → ℕ → Type 0
AgreeTo kinds n = (kind : ℕ) → 1 ≤ kind → kind < n → Agrees (first_of kinds) (network_of kinds kind)

pub agree_more : (kinds : List Network) (n : ℕ) → AgreeTo kinds n → Agrees (first_of kinds) (network_of kinds n) → AgreeTo kinds (n + 1)
agree_more kinds n before here kind some below = elim (cases_eq kind n) [
  | inl same ↦ subst (λ (k : ℕ). Agrees (first_of kinds) (network_of kinds k)) (sym same) here
  | inr other ↦ before kind some (omega (arith, other, below))
]

same_agrees : (g : Network) → Agrees g g
same_agrees g = record { nodes = refl; customers = refl; denominator = refl }

agree_up_to : (kinds : List Network) (n : ℕ) → AgreeTo kinds n → (kind : ℕ) → kind < n → Agrees (first_of kinds) (network_of kinds kind)
agree_up_to kinds n agree zero below = same_agrees (first_of kinds)
agree_up_to kinds n agree (suc kind) below = agree (suc kind) (omega arith) below

pub agree_all : (kinds : List Network) (n : ℕ) → length kinds ≤ n → AgreeTo kinds n → All (Agrees (first_of kinds)) kinds
agree_all kinds n long agree = All-from_get_or (Agrees (first_of kinds)) kinds no_network (λ i within. agree_up_to kinds n agree i (omega (arith, within, long)))

pub first_apart : (kinds : List Network) (kind : ℕ) → 1 ≤ kind → kind < length kinds → AgreeTo kinds kind → (Agrees (first_of kinds) (network_of kinds kind) → ⊥) → IsFirstApart kinds kind
first_apart kinds kind some known before apart = record {
  behind_first = some;
  known = known;
  apart = apart;
  first = λ other below. agree_up_to kinds kind before other below;
}
