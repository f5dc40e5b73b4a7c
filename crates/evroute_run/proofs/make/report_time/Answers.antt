use Rattle.std.proofs.Common.{◌∙◌, ◌++◌, ℕ, List, Some, ap}
use Rattle.ev_model.specs.Network.{node_count}
use Rattle.ev_model.specs.Time.{time_of}
use Rattle.ev_model.specs.declared.Stop.{Stop}
use Rattle.plan_writer.specs.MakeText.{make_text}
use Rattle.evroute_run.proofs.make.report_time.Goals as goal

pub returns-clause-text : goal.returns-clause-text
returns-clause-text c =
    let g = c.args.inst.now in
    let stops = c.args.plan.now.stops in
    let time = c.in-Ok.ensures.time ∙ ap (λ (start : ℕ). time_of g 1 start c.as_slice.result.now) c.max_q.ensures.value
    ∙ ap (λ (ss : List Stop). time_of g 1 g.capacity ss) c.as_slice.ensures in
    c.in_ok-push_make_report.ensures.ok
    ∙ ap (λ xs. xs ++ make_text (node_count g) g.denominator (Some c.in-Ok.walk.time)) c.new-text.ensures.items
    ∙ ap (λ t. make_text (node_count g) g.denominator (Some t)) time
