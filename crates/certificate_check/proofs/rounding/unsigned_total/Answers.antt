use Rattle.std.proofs.Common.{◌≡◌, ◌∙◌, pos, ◌^◌, ◌≤◌, ◌≤ℤ◌, ap, arith, unsigned_abs, to_z, of_z}
use Rattle.std.specs.Int.{w128}
use Rattle.std.proofs.lemmas.Int.{ints}
use Rattle.fleet_model.specs.Prices.{price_total}
use Rattle.certificate_check.proofs.rounding.unsigned_total.Goals as goal

pub returns : goal.returns
returns c =
    let sum = c.price_total.result in
    let some : pos 0 ≤ℤ price_total c.args.prices.now = c.requires.some in
    let total : sum ≡ price_total c.args.prices.now = c.price_total.ensures.value in
    let small : unsigned_abs sum ≤ 2 ^ 91 = c.price_total.ensures.small in
    let same : to_z w128 (of_z w128 sum) ≡ sum = omega (arith, ints, small) in
    let value : c.unsigned_abs.result ≡ unsigned_abs sum = c.unsigned_abs.ensures.value ∙ ap unsigned_abs same in
    record {
      value = omega (arith, ints, some, total, value);
      small = omega (arith, small, value);
    }
