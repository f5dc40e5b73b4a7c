-- A sum over a weight has one number that it is rounded up to; where it is a cost, that is the cost.
use Rattle.std.proofs.Common.{◌≡◌, ◌∙◌, ℕ, suc, ◌+◌, ◌*◌, ◌/◌, ◌≤◌, sym, ap, arith, inl, inr, mul-le-mul_right}
use Rattle.std.specs.Prelude.{ℤ, pos, negsuc, neg_ℤ, ◌*ℤ◌}
use Rattle.std.proofs.Math.IntN.{negsuc-*ℤ-pos}
use Rattle.std.proofs.Math.Nat.{mul-div_right}
use Rattle.std.proofs.lemmas.Bool.{cases_lt}
use Rattle.std.proofs.lemmas.Int.{ints}
use Rattle.certificate_check.specs.RoundedUp.{IsRoundedUp}

no_higher : (sum : ℤ) (weight b c : ℕ) → IsRoundedUp sum weight b → IsRoundedUp sum weight c → c ≤ b
no_higher sum weight b c first second = elim (cases_lt b c) [
  | inl less ↦
      let up : (b + 1) * weight ≤ c * weight = mul-le-mul_right weight (omega (arith, less)) in
      let enough = first.enough in
      let least = second.least in
      absurd (omega (arith, ints, up, enough, least))
  | inr le ↦ le
]

pub rounded_is_one : (sum : ℤ) (weight b c : ℕ) → IsRoundedUp sum weight b → IsRoundedUp sum weight c → b ≡ c
rounded_is_one sum weight b c first second =
    let le = no_higher sum weight b c first second in
    let ge = no_higher sum weight c b second first in
    omega (arith, le, ge)

-- the sum is a cost times the weight
pub rounded_is_cost : (sum : ℤ) (weight cost bound : ℕ) → 1 ≤ weight → sum ≡ pos (weight * cost) → IsRoundedUp sum weight bound → bound ≡ cost
rounded_is_cost sum weight cost bound some same rounded =
    let turned : weight * cost ≡ cost * weight = omega arith in
    rounded_is_one sum weight bound cost rounded (record { enough = omega (arith, ints, same, turned); least = omega (arith, ints, same, turned, some) })

-- ---- a sum that is told as so many times itself

pub same_factor : (over a b : ℕ) → 1 ≤ over → over * a ≡ over * b → a ≡ b
same_factor over a b some same = sym (mul-div_right a {m = over} some) ∙ ap (λ x. x / over) same ∙ mul-div_right b {m = over} some

pub cancelled : (over cost : ℕ) (sum : ℤ) → 1 ≤ over → pos (over * cost) ≡ sum *ℤ pos over → sum ≡ pos cost
cancelled over cost (pos p) some same =
    let product : over * cost ≡ over * p = omega (arith, ints, same) in
    ap pos (same_factor over p cost some (sym product))
cancelled over cost (negsuc p) some same =
    let product : pos (over * cost) ≡ neg_ℤ (pos (suc p * over)) = same ∙ negsuc-*ℤ-pos p over in
    let parts : suc p * over ≡ p * over + over = omega arith in
    absurd (omega (arith, ints, product, parts, some))
