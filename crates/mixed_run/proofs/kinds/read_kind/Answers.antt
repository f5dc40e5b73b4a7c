use Rattle.std.proofs.Common.{arith}
use Rattle.std.proofs.lemmas.Grind.{common_steps}
use Rattle.std.specs.Prelude.{string_bytes}
use Rattle.mixed_run.proofs.FileSteps.{one_fails, one_read, one_refused}
use Rattle.mixed_run.proofs.kinds.read_kind.Goals as goal

pub returns-in-Err-clause-halt : goal.returns-in-Err-clause-halt
returns-in-Err-clause-halt g c =
    one_fails c.args.limit (string_bytes c.args.file.now) c.as_str.result.now (g.S.Shelf.state c.args.shelf.now) (g.S.Shelf.state c.read_file.new.shelf) c.in-Err.fault
    c.as_str.ensures.value c.in-Err.ensures.fault

pub returns-in-Ok-limited_instance-clause-ok : goal.returns-in-Ok-limited_instance-clause-ok
returns-in-Ok-limited_instance-clause-ok g c =
    one_read c.args.limit (string_bytes c.args.file.now) c.as_str.result.now c.in-Ok.bytes.items c.as_slice.result.now (g.S.Shelf.state c.args.shelf.now).files c.in-Ok-limited_instance.inst
    c.as_str.ensures.value c.as_slice.ensures.value c.in-Ok.ensures.bytes c.in-Ok-limited_instance.ensures.ok c.nodes-nodes.ensures.network

pub returns-in-Err-Refused-clause-halt : goal.returns-in-Err-Refused-clause-halt
returns-in-Err-Refused-clause-halt g c =
    one_refused c.args.limit (string_bytes c.args.file.now) c.as_str.result.now c.in-Ok.bytes.items c.as_slice.result.now (g.S.Shelf.state c.args.shelf.now) (g.S.Shelf.state c.read_file.new.shelf)
    c.in-Err-Refused.field-0 c.in-Err-Refused.refusal c.as_str.ensures.value c.as_slice.ensures.value c.in-Ok.ensures.bytes c.in-Err-Refused.field-0-is c.in-Err-Refused.ensures.ended

pub returns-in-Ok-limited_instance-clause-falls : goal.returns-in-Ok-limited_instance-clause-falls
returns-in-Ok-limited_instance-clause-falls = grind (arith, common_steps)

pub returns-in-Ok-limited_instance-clause-stays : goal.returns-in-Ok-limited_instance-clause-stays
returns-in-Ok-limited_instance-clause-stays = grind (arith, common_steps)
