use Rattle.std.proofs.Common.{◌++◌, codes, false, arith}
use Rattle.std.proofs.lemmas.Grind.{common_steps}
use Rattle.ev_model.specs.declared.Stop.{Stop}
use Rattle.ev_text.specs.Texts.{parted_texts}
use Rattle.route_plan.specs.PlanTexts.{stop_text}
use Rattle.route_plan.proofs.PlanWriting.{writes_on}
use Rattle.route_plan.proofs.text.writing.write_stops.Goals as goal

pub loop-at-preserved : goal.loop-at-preserved
loop-at-preserved c =
    let d : Stop = record { node = 0; added = 0; via = false } in
    let all = c.args.text.now.items ++ parted_texts (codes " ") stop_text c.args.stops.now in
    writes_on c.loop-at.text.items c.write_stop_at.new.text.items all c.args.stops.now d c.loop-at.at c.loop-at-test.true c.in_ok-write_stop_at.ensures c.loop-at.invariant

pub returns : goal.returns
returns = grind (arith, common_steps)
