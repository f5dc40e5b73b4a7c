use Rattle.std.proofs.Common.{◌∙◌, ◌++◌, List, Some, ap}
use Rattle.ev_model.specs.Time.{time_of}
use Rattle.ev_model.specs.declared.Stop.{Stop}
use Rattle.report_lines.specs.FixedText.{fixed_text}
use Rattle.evroute_run.proofs.fixed.report_plan.Goals as goal

pub returns-in-Ok-push_fixed-clause-text : goal.returns-in-Ok-push_fixed-clause-text
returns-in-Ok-push_fixed-clause-text c =
    let g = c.args.inst.now in
    let stops = c.args.plan.now.stops in
    let time = c.in-Ok.ensures.time ∙ ap (λ (ss : List Stop). time_of g 1 c.args.start ss) c.as_slice.ensures in
    c.in-Ok-push_fixed.ensures.ok
    ∙ ap (λ xs. xs ++ fixed_text g.denominator (Some (stops, c.in-Ok.walk.time))) c.new-text.ensures.items
    ∙ ap (λ t. fixed_text g.denominator (Some (stops, t))) time
