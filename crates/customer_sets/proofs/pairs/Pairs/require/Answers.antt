use Rattle.std.proofs.Common.{◌∙◌, ap, arith}
use Rattle.customer_sets.specs.Pairs.{allows_of}
use Rattle.customer_sets.proofs.PairRows.{require_all, require_step}
use Rattle.customer_sets.proofs.pairs.Pairs.require.Goals as goal

pub loop-other-preserved : goal.loop-other-preserved
loop-other-preserved c = record {
  customers = c.require_besides.ensures.customers ∙ c.loop-other.invariant.customers;
  pairs = require_step c.loop-other.self c.require_besides.new.self c.loop-other.other c.args.i c.args.j (allows_of c.args.self.now)
      c.require_besides.ensures.same c.require_besides.ensures.pairs c.loop-other.invariant.pairs;
}

pub returns-clause-pairs : goal.returns-clause-pairs
returns-clause-pairs c = λ a b low_a low_b.
    let full = ap (λ p. p.customers) c.self.view_is in
    c.loop-other.invariant.pairs a b
    ∙ require_all c.loop-other.other c.args.i c.args.j (allows_of c.args.self.now) a b c.requires.apart
    (omega (arith, full, low_a, c.loop-other-test.false)) (omega (arith, full, low_b, c.loop-other-test.false))
