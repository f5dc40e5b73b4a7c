-- A set gives its digits back.
use Rattle.std.specs.Prelude.{◌≡◌, ℕ, List, ◌<◌, ◌^◌}
use Rattle.std.proofs.Common.{◌∙◌, ap, sym}
use Rattle.customer_sets.specs.declared.CustSet.TheInside.{Inside}
use Rattle.customer_sets.specs.Members.{bits_of, bits_of-members, members}

abbrev pub restored : List ℕ → Inside
restored set = record { bits = bits_of set }

pub restored-members : (s : Inside) → s.bits < 2 ^ 128 → restored (members s.bits) ≡ s
restored-members s below =
    ap (λ (b : ℕ). let r : Inside = record { bits = b } in r) (bits_of-members s.bits below)

-- the digits that a set came from
pub bits_of-view : (bits : ℕ) (set : List ℕ) → members bits ≡ set → bits < 2 ^ 128 →
    bits_of set ≡ bits
bits_of-view bits set view below = ap bits_of (sym view) ∙ bits_of-members bits below
