use Rattle.std.proofs.Common.{arith}
use Rattle.std.proofs.lemmas.Grind.{common_steps}
use Rattle.decimal_import.proofs.token.split_token.Goals as goal

pub returns-in-34-clause-some : goal.returns-in-34-clause-some
returns-in-34-clause-some = grind (arith, common_steps)

pub returns-in-34-clause-none : goal.returns-in-34-clause-none
returns-in-34-clause-none = grind (arith, common_steps)

pub returns-in-93-clause-some : goal.returns-in-93-clause-some
returns-in-93-clause-some = grind (arith, common_steps)

pub returns-in-32-clause-some : goal.returns-in-32-clause-some
returns-in-32-clause-some = grind (arith, common_steps)

pub returns-in-91-clause-some : goal.returns-in-91-clause-some
returns-in-91-clause-some = grind (arith, common_steps)

pub returns-in-44-clause-some : goal.returns-in-44-clause-some
returns-in-44-clause-some = grind (arith, common_steps)

pub returns-in-123-clause-some : goal.returns-in-123-clause-some
returns-in-123-clause-some = grind (arith, common_steps)

pub returns-in-58-clause-some : goal.returns-in-58-clause-some
returns-in-58-clause-some = grind (arith, common_steps)

pub returns-in-125-clause-some : goal.returns-in-125-clause-some
returns-in-125-clause-some = grind (arith, common_steps)
