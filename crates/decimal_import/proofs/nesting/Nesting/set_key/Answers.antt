use Rattle.decimal_import.proofs.Nestings.{under_key-last}
use Rattle.std.proofs.Common.{arith}
use Rattle.decimal_import.proofs.nesting.Nesting.set_key.Goals as goal

pub returns-then-count-gt0 : goal.returns-then-count-gt0
returns-then-count-gt0 c =
    rw (c.unit_of.ensures, c.index_mut.ensures.value, c.len-count.ensures, c.self.inside.opens.ok.0)
    (under_key-last c.args.key.now c.index_mut.result.now c.args.self.now c.self.inside.opens.items c.self.view_is (omega (arith, c.len-count.ensures, c.self.inside.opens.ok.0)))
