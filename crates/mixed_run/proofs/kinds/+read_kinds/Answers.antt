use Rattle.std.proofs.Common.{drop, length, take, ◌-◌, arith}
use Rattle.std.proofs.lemmas.Grind.{common_steps}
use Rattle.std.specs.Prelude.{string_bytes}
use Rattle.job_frame.proofs.FileReads.{ok_is_no_error}
use Rattle.mixed_run.proofs.FileSteps.{first_halts, next_halts, next_read}
use Rattle.mixed_run.proofs.KindReading.{names_in}
use Rattle.mixed_run.specs.Names.{names_of}
use Rattle.mixed_run.proofs.kinds.+read_kinds.Goals as goal

pub returns-in-Ok-push-clause-ok : goal.returns-in-Ok-push-clause-ok
returns-in-Ok-push-clause-ok g t c =
    let files = c.args.files.now in
    let file = c.file-item.result in
    let before = g.S.Shelf.state c.args.shelf.now in
    let mid = g.S.Shelf.state c.read_kind.new.shelf in
    next_read c.args.limit (string_bytes file) (names_of (take (length files - 1) (drop 1 files))) (names_of files) before.files mid.files c.in-Ok.kind
    c.args.kinds.now.items c.push.new.self.items c.read_kinds.new.kinds.items c.read_kinds.result
    (names_in files file c.in-len1-up.len_at_least c.file-item.is) c.in-Ok.ensures.files c.in-Ok-push.ensures.items c.in-Ok.ensures.ok c.read_kinds.ensures.ok

pub returns-in-Ok-push-clause-halt : goal.returns-in-Ok-push-clause-halt
returns-in-Ok-push-clause-halt g t c =
    let files = c.args.files.now in
    let file = c.file-item.result in
    let before = g.S.Shelf.state c.args.shelf.now in
    let mid = g.S.Shelf.state c.read_kind.new.shelf in
    next_halts c.args.limit (string_bytes file) (names_of (take (length files - 1) (drop 1 files))) (names_of files) before mid (g.S.Shelf.state c.read_kinds.new.shelf) c.in-Ok.kind c.read_kinds.result
    (names_in files file c.in-len1-up.len_at_least c.file-item.is) c.in-Ok.ensures.files (c.in-Ok.ensures.stays (λ failed. ok_is_no_error failed)) c.in-Ok.ensures.ok c.read_kinds.ensures.halt

pub returns-in-Err-clause-halt : goal.returns-in-Err-clause-halt
returns-in-Err-clause-halt g t c =
    let files = c.args.files.now in
    let file = c.file-item.result in
    first_halts c.args.limit (string_bytes file) (names_of (take (length files - 1) (drop 1 files))) (names_of files) (g.S.Shelf.state c.args.shelf.now) (g.S.Shelf.state c.read_kind.new.shelf) c.in-Err.halt
    (names_in files file c.in-len1-up.len_at_least c.file-item.is) c.in-Err.ensures.halt

pub returns-in-Err-push-clause-falls : goal.returns-in-Err-push-clause-falls
returns-in-Err-push-clause-falls = grind (arith, common_steps)

pub returns-in-Err-push-clause-stays : goal.returns-in-Err-push-clause-stays
returns-in-Err-push-clause-stays = grind (arith, common_steps)

pub returns-in-empty-clause-ok : goal.returns-in-empty-clause-ok
returns-in-empty-clause-ok = grind (arith, common_steps)
