use Rattle.std.proofs.Common.{◌∙◌, [], ◌∷◌, refl, rules, arith}
use Rattle.std.proofs.lemmas.Grind.{common_steps}
use Rattle.std.specs.Prelude.{string_bytes}
use Rattle.command_line.specs.Words.{MakeJob, make_job_of}
use Rattle.evroute_run.proofs.MakeFinds.{make_refused, makes_network, spares_made}
use Rattle.evroute_run.proofs.MakeLaw.{make_lawful}
use Rattle.evroute_run.specs.MakeAnswer.{HasNoInstance, made_file, make_task}
use Rattle.job_ending.proofs.Finished.{hears_finished, performs_finished, spares_shelf}
use Rattle.job_frame.proofs.FileReads.{finds_alone, nothing_fails, nothing_falls, ok_is_no_error}
use Rattle.evroute_causes.proofs.Hearing.{refused_job_is_heard}
use Rattle.job_frame.proofs.Performed.{performs_unwritten}
use Rattle.evroute_causes.specs.Heard.{HearsElse, no_cause}
use Rattle.job_frame.proofs.FileWrites.{at_once_fails, is_written, leaves_one}
use Rattle.job_frame.specs.declared.status.Status.TheVariants as status
use Rattle.refusal_lines.specs.RefusalText.{refusal_text}
use Rattle.refusal_lines.specs.declared.refusal.Refusal.TheVariants as refusal
use Rattle.evroute_run.proofs.make.make.Goals as goal

pub returns-in-Ok-write-clause-job : goal.returns-in-Ok-write-clause-job
returns-in-Ok-write-clause-job g c =
    let w = c.args.job.now in
    let job : MakeJob = make_job_of w.seed w.customers w.stations (string_bytes w.outfile) in
    let before = g.S.Shelf.state c.args.shelf.now in
    let after = g.S.Shelf.state c.write.new.self in
    let within : HasNoInstance job → ⊥ = λ none. ok_is_no_error ((c.in-Ok.ensures.range).1 none) in
    c.put_summary.ensures.job job refl (makes_network job c.in-Ok.made.instance c.in-Ok.made.text.items within c.in-Ok.ensures.text c.in-Ok.ensures.means) before after
    (leaves_one (made_file job) before after
    (is_written (made_file job) before after c.as_str.result.now c.as_slice.result.now c.as_str.ensures.value (c.as_slice.ensures.value ∙ c.in-Ok.ensures.text)
    c.in-Ok-write.ensures.bytes c.in-Ok-write.ensures.others (c.in-Ok-write.ensures.stays (λ failed. ok_is_no_error failed))))

pub returns-in-Ok-write-clause-heard : goal.returns-in-Ok-write-clause-heard
returns-in-Ok-write-clause-heard g c =
    let w = c.args.job.now in
    let job : MakeJob = make_job_of w.seed w.customers w.stations (string_bytes w.outfile) in
    let before = g.S.Shelf.state c.args.shelf.now in
    let after = g.S.Shelf.state c.write.new.self in
    let within : HasNoInstance job → ⊥ = λ none. ok_is_no_error ((c.in-Ok.ensures.range).1 none) in
    c.put_summary.ensures.heard job refl (makes_network job c.in-Ok.made.instance c.in-Ok.made.text.items within c.in-Ok.ensures.text c.in-Ok.ensures.means) before after
    (leaves_one (made_file job) before after
    (is_written (made_file job) before after c.as_str.result.now c.as_slice.result.now c.as_str.ensures.value (c.as_slice.ensures.value ∙ c.in-Ok.ensures.text)
    c.in-Ok-write.ensures.bytes c.in-Ok-write.ensures.others (c.in-Ok-write.ensures.stays (λ failed. ok_is_no_error failed))))
    (g.L.CauseListener.heard c.args.listener.now)

pub returns-in-Err-Range-clause-heard : goal.returns-in-Err-Range-clause-heard
returns-in-Err-Range-clause-heard g c =
    let w = c.args.job.now in
    let job : MakeJob = make_job_of w.seed w.customers w.stations (string_bytes w.outfile) in
    let shelf = g.S.Shelf.state c.args.shelf.now in
    hears_finished (make_task job) c.refuse_job.result
    (finds_alone (make_task job) shelf shelf status.Refused (refusal_text refusal.Maker) c.refuse_job.result
    (make_refused job shelf.files (c.in-Err-Range.ensures.range.0 (search rules))) tt
    (refused_job_is_heard (HearsElse no_cause) refusal.Maker c.refuse_job.result c.refuse_job.ensures.status c.refuse_job.ensures.text c.refuse_job.ensures.cause)
    c.refuse_job.ensures.status c.refuse_job.ensures.text c.refuse_job.ensures.files c.refuse_job.ensures.memory (nothing_fails shelf) (nothing_falls shelf) refl)
    c.finish.ensures.finishes c.finish.ensures.heard

pub returns-in-Err-Failed-clause-job : goal.returns-in-Err-Failed-clause-job
returns-in-Err-Failed-clause-job g c =
    let w = c.args.job.now in
    let job : MakeJob = make_job_of w.seed w.customers w.stations (string_bytes w.outfile) in
    let before = g.S.Shelf.state c.args.shelf.now in
    let after = g.S.Shelf.state c.write.new.self in
    let within : HasNoInstance job → ⊥ = λ none. ok_is_no_error ((c.in-Ok.ensures.range).1 none) in
    performs_unwritten (make_task job) (make_lawful job) before after (g.K.Sink.state c.args.out.now) (made_file job ∷ []) (within, refl)
    (at_once_fails (made_file job ∷ []) (made_file job) [] before after c.as_str.result.now refl c.as_str.ensures.value
    (c.in-Err-Failed.ensures.failed (search rules), c.in-Err-Failed.ensures.asked) c.in-Err-Failed.ensures.others)

pub returns-in-Err-Range-clause-job : goal.returns-in-Err-Range-clause-job
returns-in-Err-Range-clause-job g c =
    let w = c.args.job.now in
    let job : MakeJob = make_job_of w.seed w.customers w.stations (string_bytes w.outfile) in
    let shelf = g.S.Shelf.state c.args.shelf.now in
    performs_finished (make_task job) (make_lawful job) c.refuse_job.result
    (finds_alone (make_task job) shelf shelf status.Refused (refusal_text refusal.Maker) c.refuse_job.result
    (make_refused job shelf.files (c.in-Err-Range.ensures.range.0 (search rules))) tt
    (refused_job_is_heard (HearsElse no_cause) refusal.Maker c.refuse_job.result c.refuse_job.ensures.status c.refuse_job.ensures.text c.refuse_job.ensures.cause)
    c.refuse_job.ensures.status c.refuse_job.ensures.text c.refuse_job.ensures.files c.refuse_job.ensures.memory (nothing_fails shelf) (nothing_falls shelf) refl)
    c.finish.ensures.words c.finish.ensures.finishes

pub returns-in-Err-Failed-clause-stays : goal.returns-in-Err-Failed-clause-stays
returns-in-Err-Failed-clause-stays = grind (arith, common_steps)

pub returns-in-Ok-clause-words : goal.returns-in-Ok-clause-words
returns-in-Ok-clause-words = grind (arith, common_steps)

pub returns-in-Err-Failed-clause-words : goal.returns-in-Err-Failed-clause-words
returns-in-Err-Failed-clause-words = grind (arith, common_steps)

pub returns-in-Err-Failed-clause-falls : goal.returns-in-Err-Failed-clause-falls
returns-in-Err-Failed-clause-falls = grind (arith, common_steps)

pub returns-clause-job : goal.returns-clause-job
returns-clause-job = grind (arith, common_steps)

pub returns-in-Ok-clause-falls : goal.returns-in-Ok-clause-falls
returns-in-Ok-clause-falls = grind (arith, common_steps)

pub returns-in-Ok-write-clause-spares : goal.returns-in-Ok-write-clause-spares
returns-in-Ok-write-clause-spares g c =
    let w = c.args.job.now in
    let job : MakeJob = make_job_of w.seed w.customers w.stations (string_bytes w.outfile) in
    let before = g.S.Shelf.state c.args.shelf.now in
    let after = g.S.Shelf.state c.write.new.self in
    let within : HasNoInstance job → ⊥ = λ none. ok_is_no_error ((c.in-Ok.ensures.range).1 none) in
    spares_made job within
    (leaves_one (made_file job) before after
    (is_written (made_file job) before after c.as_str.result.now c.as_slice.result.now c.as_str.ensures.value (c.as_slice.ensures.value ∙ c.in-Ok.ensures.text)
    c.in-Ok-write.ensures.bytes c.in-Ok-write.ensures.others (c.in-Ok-write.ensures.stays (λ failed. ok_is_no_error failed))))

pub returns-in-Err-Range-clause-spares : goal.returns-in-Err-Range-clause-spares
returns-in-Err-Range-clause-spares g c =
    let w = c.args.job.now in
    spares_shelf (make_task (make_job_of w.seed w.customers w.stations (string_bytes w.outfile))) refl c.finish.ensures.spares
