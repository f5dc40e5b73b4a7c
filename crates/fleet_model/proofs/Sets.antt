-- Sets as lists.
use Rattle.std.proofs.Common.{◌≡◌, ℕ, false, List, ◌∷◌, arith}
use Rattle.customer_sets.specs.CustSet.{has, IsWithin}

pub within_more : (c : ℕ) (small large : List ℕ) → IsWithin small large → IsWithin (c ∷ small) (c ∷ large)
within_more c small large within x h =
    let inner = within x in
    grind (arith, inner)

pub new_within : (c : ℕ) (small large : List ℕ) → IsWithin small large → has large c ≡ false → has small c ≡ false
new_within c small large within new =
    let inner = within c in
    grind (arith, inner)

pub within_trans : (a b c : List ℕ) → IsWithin a b → IsWithin b c → IsWithin a c
within_trans a b c first second x h = second x (first x h)
