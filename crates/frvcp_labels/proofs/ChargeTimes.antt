-- How long a charge takes: from a higher level no longer, and in two parts no less.
use Rattle.std.proofs.Common.{◌≡◌, ℕ, zero, suc, ◌+◌, ◌<◌, ◌≤◌, refl, true, subst, List, [], ◌∷◌, Option, Some, None, arith}
use Rattle.std.specs.List.{All}
use Rattle.std.specs.Prelude.{nat_lt, slice_index_or}
use Rattle.std.proofs.lemmas.Bool.{lt-ltb}
use Rattle.std.proofs.lemmas.List.Elements.{All-head, All-tail}
use Rattle.ev_model.specs.Curve.{charge_time}
use Rattle.ev_model.specs.Network.{HasFittingCurve, IsNetwork, Network, curve_at}
use Rattle.ev_model.specs.Time.{charging_time}
use Rattle.ev_model.proofs.ChargeTime.{charge_time-rises, charge_time_in-one}
use Rattle.label_steps.specs.Leaves.{charge_time_at}

-- the curve of a node reaches a full battery
fitting : (full d x : ℕ) (curves : List (Option (List (ℕ × ℕ)))) (points : List (ℕ × ℕ)) → All (HasFittingCurve full d) curves → slice_index_or curves x None ≡ Some points → HasFittingCurve full d (Some points)
fitting full d x [] points fit is = absurd (grind (arith, is))
fitting full d zero (c ∷ curves) points fit is = subst (λ (q : Option (List (ℕ × ℕ))). HasFittingCurve full d q) is (All-head (HasFittingCurve full d) c curves fit)
fitting full d (suc x) (c ∷ curves) points fit is = fitting full d x curves points (All-tail (HasFittingCurve full d) c curves fit) is

rises_at : (g : Network) (x : ℕ) → IsNetwork g → (points : List (ℕ × ℕ)) → curve_at g x ≡ Some points → (a b : ℕ) → a ≤ b → charge_time g.denominator points a ≤ charge_time g.denominator points b
rises_at g x network points is a b le = charge_time-rises g.denominator points a b (fitting g.capacity g.denominator x g.curves points network.curves is).0.rises le

less_charge : (d low high to : ℕ) (curve : Option (List (ℕ × ℕ))) → ((points : List (ℕ × ℕ)) → curve ≡ Some points → (a b : ℕ) → a ≤ b → charge_time d points a ≤ charge_time d points b)
    → low ≤ high → charging_time 1 d curve high to ≤ charging_time 1 d curve low to
less_charge d low high to None up le = omega arith
less_charge d low high to (Some points) up le =
    rw (charge_time_in-one d points high, charge_time_in-one d points low, charge_time_in-one d points to) (omega (arith, up points refl low high le))

-- to one level above both, from the higher one
pub sooner_charge : (g : Network) (node low high added more : ℕ) → IsNetwork g → low ≤ high → 0 < more → high + more ≡ low + added → charge_time_at g node high more ≤ charge_time_at g node low added
sooner_charge g node low high added more network le some top =
    let first : nat_lt 0 more ≡ true = lt-ltb 0 more some in
    let second : nat_lt 0 added ≡ true = lt-ltb 0 added (omega (arith, le, some, top)) in
    let less = less_charge g.denominator low high (low + added) (curve_at g node) (rises_at g node network) le in
    rw (first, second, top) (omega (arith, less))

parts_charge : (d a b c : ℕ) (curve : Option (List (ℕ × ℕ))) → charging_time 1 d curve a c ≤ charging_time 1 d curve a b + charging_time 1 d curve b c
parts_charge d a b c None = omega arith
parts_charge d a b c (Some points) =
    rw (charge_time_in-one d points a, charge_time_in-one d points b, charge_time_in-one d points c) (omega arith)

-- in one go, or plugged in twice
pub charge_on : (g : Network) (node low a more : ℕ) → 0 < more → charge_time_at g node low (a + more) ≤ charge_time_at g node low a + charge_time_at g node (low + a) more
charge_on g node low a more some =
    let first : nat_lt 0 more ≡ true = lt-ltb 0 more some in
    let second : nat_lt 0 (a + more) ≡ true = lt-ltb 0 (a + more) (omega (arith, some)) in
    let top : low + (a + more) ≡ low + a + more = omega arith in
    let parts = parts_charge g.denominator low (low + a) (low + a + more) (curve_at g node) in
    rw (first, second, top) (omega (arith, parts))
