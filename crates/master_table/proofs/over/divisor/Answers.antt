use Rattle.std.proofs.Common.{◌*◌, ◌/◌, ◌↔◌, ℕ, subst}
use Rattle.std.specs.Int.{◌∣◌}
use Rattle.ev_units.proofs.Divisors.{pos_cofactor}
use Rattle.master_table.specs.ShareWeight.{right_at}
use Rattle.master_table.proofs.BasisShares.{whole_where_divided}
use Rattle.master_table.proofs.over.divisor.Goals as goal

pub returns-clause-some : goal.returns-clause-some
returns-clause-some c = pos_cofactor c.gcd.result c.own_size-own.result c.own_size-own.ensures.some c.gcd.ensures.greatest.1

pub returns-clause-value : goal.returns-clause-value
returns-clause-value c =
    let q = c.own_size-own.result / c.gcd.result in
    subst (λ o. (W : ℕ) → (o ∣ (W * right_at c.args.t.now c.args.row)) ↔ (q ∣ W)) c.own_size-own.ensures.value
    (subst (λ r. (W : ℕ) → (c.own_size-own.result ∣ (W * r)) ↔ (q ∣ W)) c.right_size.ensures.value
    (whole_where_divided c.own_size-own.result c.right_size.result c.gcd.result c.own_size-own.ensures.some c.gcd.ensures.greatest))
