use Rattle.std.proofs.Common.{refl}
use Rattle.decimal_import.proofs.Cuts.{is_colon_next_cut}
use Rattle.decimal_import.proofs.nesting.Nesting.pass.Goals as goal

pub returns-then-is_colon_next-clause-ok : goal.returns-then-is_colon_next-clause-ok
returns-then-is_colon_next-clause-ok c = rw (c.in-Text.is, is_colon_next_cut c.args.rest.now, ← c.is_colon_next.ensures, c.if-is_colon_next.true, c.set_key.ensures) refl

pub returns-else-is_colon_next-clause-ok : goal.returns-else-is_colon_next-clause-ok
returns-else-is_colon_next-clause-ok c = rw (c.in-Text.is, is_colon_next_cut c.args.rest.now, ← c.is_colon_next.ensures, c.if-is_colon_next.false) refl
