use Rattle.std.proofs.Common.{◌≡◌, ◌+◌, ◌*◌, ◌/◌, ◌%◌, ◌^◌, arith, refl}
use Rattle.certificate_check.proofs.Products.{in_parts}
use Rattle.certificate_check.proofs.product.product.Goals as goal

pub returns-clause-value : goal.returns-clause-value
returns-clause-value c =
    let parts : c.args.a ≡ c.args.a / 2 ^ 64 * 2 ^ 64 + c.args.a % 2 ^ 64 = omega arith in
    in_parts c.args.a c.args.b (c.args.a / 2 ^ 64) (c.args.a % 2 ^ 64) (c.args.a % 2 ^ 64 * c.args.b) parts refl
