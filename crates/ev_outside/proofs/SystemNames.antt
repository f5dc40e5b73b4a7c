-- A name that was kept is the one that was asked for.
use Rattle.std.proofs.Common.{◌≡◌, Global, IfSome, List, None, Option, Some, String, string_bytes, ℕ}
use Rattle.ev_outside.specs.Shelf.{HasAsked}
use Rattle.ev_outside.specs.SystemName.{asked_by}

pub has_asked : (kept : Option (String Global)) (name : List ℕ) → IfSome kept (λ k. string_bytes k ≡ name) → HasAsked name (asked_by kept)
has_asked None name is = tt
has_asked (Some k) name is = is
