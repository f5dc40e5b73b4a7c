use Rattle.std.proofs.Common.{List, ℕ, subst, sym}
use Rattle.evroute_run.specs.FixedAnswer.{IsTask}
use Rattle.evroute_run.proofs.fixed.charge_file.Goals as goal

pub returns-in-Ok-clause-ok : goal.returns-in-Ok-clause-ok
returns-in-Ok-clause-ok c =
    let task = subst (λ (r : List ℕ). IsTask c.args.options c.args.word.now c.args.bytes.now c.in-Ok.trip.inst r) (sym c.as_slice.ensures.value) c.in-Ok.ensures.task in
    c.charge_from.ensures.ok c.args.options c.args.word.now c.args.bytes.now task c.in-Ok.ensures.start
