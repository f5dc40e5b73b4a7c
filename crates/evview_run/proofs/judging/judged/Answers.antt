use Rattle.std.proofs.Common.{◌∙◌, sym}
use Rattle.evview_run.proofs.Parts.{route_is_shown}
use Rattle.evview_run.proofs.judging.judged.Goals as goal

pub returns-in-None-clause-ok : goal.returns-in-None-clause-ok
returns-in-None-clause-ok c = route_is_shown c.args.form.now c.in-Fixed.charge c.args.inst.now c.args.held.now c.in-Fixed.is (sym c.first_walk_in.ensures ∙ c.in-None.is)
