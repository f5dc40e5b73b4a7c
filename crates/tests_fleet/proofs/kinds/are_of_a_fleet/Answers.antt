use Rattle.std.proofs.Common.{arith, sym}
use Rattle.mixed_model.proofs.KindNumbers.{kind_is}
use Rattle.tests_fleet.proofs.kinds.are_of_a_fleet.Goals as goal

pub returns-clause-few : goal.returns-clause-few
returns-clause-few c = λ is.
    let same = kind_is c.args.kinds.now 0 c.index-kinds-0.result (omega arith) c.index-kinds-0.is in
    rw (same, sym c.customers.ensures.value) (omega arith)
