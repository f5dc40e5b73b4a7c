-- The steps from mark to mark.
use Rattle.std.proofs.Common.{◌≡◌, ℕ, ◌+◌, ◌-◌, ◌*◌, ◌^◌, ◌<◌, ◌≤◌, suc, refl, arith}
use Rattle.std.proofs.Math.Nat.{one-le-pow, pow-le-pow_right}
use Rattle.schedule_texts.specs.Axes.{step_from}

-- the powers of ten are few
pub power_fits : (k : ℕ) → k < 20 → 10 ^ k ≤ 10 ^ 19
power_fits k few =
    let some : 0 < 10 = omega arith in
    let up_to : k ≤ 19 = omega (arith, few) in
    pow-le-pow_right some up_to

pub power_some : (k : ℕ) → 1 ≤ 10 ^ k
power_some k = let some : 0 < 10 = omega arith in one-le-pow k 10 some

-- the first multiple of a power that is above the number
pub step_one : (k power least : ℕ) → k < 20 → least < power → step_from (20 - k) power least ≡ power
step_one k power least few above =
    let one_more : 20 - k ≡ suc (20 - (k + 1)) = omega (arith, few) in
    rw one_more (grind arith)

pub step_two : (k power least : ℕ) → k < 20 → power ≤ least → least < 2 * power → step_from (20 - k) power least ≡ 2 * power
step_two k power least few one above =
    let one_more : 20 - k ≡ suc (20 - (k + 1)) = omega (arith, few) in
    rw one_more (grind arith)

pub step_five : (k power least : ℕ) → k < 20 → 2 * power ≤ least → least < 5 * power → step_from (20 - k) power least ≡ 5 * power
step_five k power least few two above =
    let one_more : 20 - k ≡ suc (20 - (k + 1)) = omega (arith, few) in
    rw one_more (grind arith)

-- a power none of whose multiples is above the number is passed
pub step_on : (k power least : ℕ) → k < 20 → 5 * power ≤ least → step_from (20 - k) power least ≡ step_from (20 - (k + 1)) (power * 10) least
step_on k power least few past =
    let one_more : 20 - k ≡ suc (20 - (k + 1)) = omega (arith, few) in
    rw one_more (grind arith)

-- behind the last power
pub step_end : (k power least : ℕ) → 20 ≤ k → power ≡ step_from (20 - k) power least
step_end k power least all =
    let none : 20 - k ≡ 0 = omega (arith, all) in
    rw none refl
