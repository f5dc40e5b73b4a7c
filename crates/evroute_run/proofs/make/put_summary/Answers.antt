use Rattle.std.proofs.Common.{[], ◌∷◌, refl}
use Rattle.evroute_run.proofs.MakeFinds.{make_found, make_heard}
use Rattle.evroute_run.proofs.MakeLaw.{make_lawful}
use Rattle.evroute_run.specs.MakeAnswer.{made_file, make_task}
use Rattle.job_frame.proofs.Performed.{performs_put, performs_unsought}
use Rattle.job_frame.specs.Task.{Outcome}
use Rattle.evroute_run.proofs.make.put_summary.Goals as goal

pub returns-in-Ok-clause-job : goal.returns-in-Ok-clause-job
returns-in-Ok-clause-job g c = λ job same makes before after leaves.
    let a = c.in-Ok.answer in
    let o : Outcome = record { status = a.status; writes = made_file job ∷ []; text = a.text.items } in
    performs_put (make_task job) (make_lawful job) before after (g.K.Sink.state c.args.out.now) (g.K.Sink.state c.put_answer.new.out) o c.put_answer.result
    (make_found job before.files a.status (made_file job ∷ []) a.text.items (c.in-Ok.ensures.answers job same makes (made_file job ∷ []) refl))
    c.in-Ok.ensures.answered leaves c.put_answer.ensures.words c.put_answer.ensures.answer c.put_answer.ensures.part c.put_answer.ensures.fault c.put_answer.ensures.empty

pub returns-in-Err-clause-job : goal.returns-in-Err-clause-job
returns-in-Err-clause-job g c = λ job same makes before after leaves.
    performs_unsought (make_task job) (make_lawful job) before after (g.K.Sink.state c.args.out.now) (made_file job ∷ []) (makes.within, refl) leaves

pub returns-in-Ok-clause-heard : goal.returns-in-Ok-clause-heard
returns-in-Ok-clause-heard g c = λ job same makes before after leaves heard is.
    let a = c.in-Ok.answer in
    let put = c.put_answer.ensures.answer is in
    make_heard job a.status a.text.items before after (g.K.Sink.state c.args.out.now).written (g.K.Sink.state c.put_answer.new.out).written c.put_answer.result heard
    (c.in-Ok.ensures.answers job same makes (made_file job ∷ []) refl) leaves put.0 put.1
