use Rattle.std.proofs.Common.{map, take, drop, length, ◌-◌, arith}
use Rattle.std.proofs.lemmas.Grind.{common_steps}
use Rattle.job_frame.proofs.FileReads.{ok_is_no_error}
use Rattle.job_frame.proofs.FileWrites.{at_once_fails, at_once_stops, is_written, then_fails, then_stops, written_in}
use Rattle.job_frame.specs.Finds.{written_by}
use Rattle.job_frame.proofs.concluding.+write_all.Goals as goal

pub returns-in-Ok-clause-failed : goal.returns-in-Ok-clause-failed
returns-in-Ok-clause-failed g t c = λ is.
    let before = g.S.Shelf.state c.args.shelf.now in
    let mid = g.S.Shelf.state c.write.new.self in
    let written = is_written (written_by c.file-item.result) before mid c.as_str.result.now c.as_slice.result.now c.as_str.ensures.value c.as_slice.ensures.value
    c.in-Ok.ensures.bytes c.in-Ok.ensures.others (c.in-Ok.ensures.stays (λ failed. ok_is_no_error failed)) in
    then_fails (map written_by c.args.files.now) (written_by c.file-item.result) (map written_by (take (length c.args.files.now - 1) (drop 1 c.args.files.now)))
    before mid (g.S.Shelf.state c.write_all.new.shelf) (written_in c.args.files.now c.file-item.result c.in-len1-up.len_at_least c.file-item.is) c.requires written
    (c.write_all.ensures.failed is)

pub returns-in-Ok-clause-memory : goal.returns-in-Ok-clause-memory
returns-in-Ok-clause-memory g t c = λ is.
    let before = g.S.Shelf.state c.args.shelf.now in
    let mid = g.S.Shelf.state c.write.new.self in
    let written = is_written (written_by c.file-item.result) before mid c.as_str.result.now c.as_slice.result.now c.as_str.ensures.value c.as_slice.ensures.value
    c.in-Ok.ensures.bytes c.in-Ok.ensures.others (c.in-Ok.ensures.stays (λ failed. ok_is_no_error failed)) in
    then_stops (map written_by c.args.files.now) (written_by c.file-item.result) (map written_by (take (length c.args.files.now - 1) (drop 1 c.args.files.now)))
    before mid (g.S.Shelf.state c.write_all.new.shelf) (written_in c.args.files.now c.file-item.result c.in-len1-up.len_at_least c.file-item.is) c.requires written
    (c.write_all.ensures.memory is)

pub returns-in-Err-clause-failed : goal.returns-in-Err-clause-failed
returns-in-Err-clause-failed g t c = λ is.
    at_once_fails (map written_by c.args.files.now) (written_by c.file-item.result) (map written_by (take (length c.args.files.now - 1) (drop 1 c.args.files.now)))
    (g.S.Shelf.state c.args.shelf.now) (g.S.Shelf.state c.write.new.self) c.as_str.result.now
    (written_in c.args.files.now c.file-item.result c.in-len1-up.len_at_least c.file-item.is) c.as_str.ensures.value (c.in-Err.ensures.failed is, c.in-Err.ensures.asked) c.in-Err.ensures.others

pub returns-in-Err-clause-memory : goal.returns-in-Err-clause-memory
returns-in-Err-clause-memory g t c = λ is.
    at_once_stops (map written_by c.args.files.now) (written_by c.file-item.result) (map written_by (take (length c.args.files.now - 1) (drop 1 c.args.files.now)))
    (g.S.Shelf.state c.args.shelf.now) (g.S.Shelf.state c.write.new.self)
    (written_in c.args.files.now c.file-item.result c.in-len1-up.len_at_least c.file-item.is) (c.in-Err.ensures.memory is)

pub write_all-requires : goal.write_all-requires
write_all-requires = grind (arith, common_steps)

pub returns-in-Ok-clause-ok : goal.returns-in-Ok-clause-ok
returns-in-Ok-clause-ok = grind (arith, common_steps)
