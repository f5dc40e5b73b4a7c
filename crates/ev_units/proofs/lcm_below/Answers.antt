use Rattle.std.proofs.Common.{◌<◌, ◌≤◌, ◌*◌, ◌/◌, arith}
use Rattle.std.proofs.Math.Nat.{pos_of_dvd_of_pos, le-div_iff_mul-le, mul_comm}
use Rattle.ev_units.specs.Units.{IsLcm}
use Rattle.ev_units.proofs.Divisors.{IsLcm-from_IsGcd, pos_cofactor, pos_from_IsLcm}
use Rattle.ev_units.proofs.lcm_below.Goals as goal

pub nonzero_div-part : goal.nonzero_div-part
nonzero_div-part c = pos_of_dvd_of_pos c.gcd.ensures.greatest.0 c.requires.first

pub nonzero_div-limit : goal.nonzero_div-limit
nonzero_div-limit c = pos_cofactor _ _ c.requires.first c.gcd.ensures.greatest.0

pub returns-then-b-limit-clause-multiple : goal.returns-then-b-limit-clause-multiple
returns-then-b-limit-clause-multiple c = IsLcm-from_IsGcd _ _ _ c.requires.first c.requires.second c.gcd.ensures.greatest

pub returns-then-b-limit-clause-positive : goal.returns-then-b-limit-clause-positive
returns-then-b-limit-clause-positive c = pos_from_IsLcm _ _ _ c.requires.first c.requires.second (IsLcm-from_IsGcd _ _ _ c.requires.first c.requires.second c.gcd.ensures.greatest)

pub returns-else-b-limit-clause-past : goal.returns-else-b-limit-clause-past
returns-else-b-limit-clause-past c =
    let part = c.args.a / c.gcd.result in
    let own : IsLcm c.args.a c.args.b (part * c.args.b) = IsLcm-from_IsGcd _ _ _ c.requires.first c.requires.second c.gcd.ensures.greatest in
    let fits : part * c.args.b ≤ c.args.limit → c.args.b ≤ c.args.limit / part = λ le.
    (le-div_iff_mul-le (pos_cofactor _ _ c.requires.first c.gcd.ensures.greatest.0)).1 (let turned = mul_comm part c.args.b in omega arith) in
    let past : c.args.limit < part * c.args.b = grind arith in
    (part * c.args.b, own, past)
