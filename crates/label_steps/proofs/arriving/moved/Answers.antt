use Rattle.std.proofs.Common.{ℕ, List, Option, subst}
use Rattle.std.specs.Prelude.{IfSome}
use Rattle.dominance.specs.Steps.{IsShift}
use Rattle.piece_fn.specs.PieceFn.{level_times}
use Rattle.label_steps.proofs.Arrivals.{cut_arrives}
use Rattle.label_steps.proofs.arriving.moved.Goals as goal

pub returns-in-Some : goal.returns-in-Some
returns-in-Some c =
    let shift : IsShift c.args.energy c.args.time c.args.limit (level_times c.args.value.now) (level_times c.in-Some.left) = subst (λ (o : Option (List (ℕ × ℕ))). IfSome o (λ value. IsShift c.args.energy c.args.time c.args.limit (level_times c.args.value.now) (level_times value))) c.in-Some.is c.in_ok-left.ensures.some in
    cut_arrives c.args.energy c.args.time c.args.limit c.args.least (level_times c.args.value.now) (level_times c.in-Some.left) c.cut_to.result shift c.cut_to.ensures.none c.cut_to.ensures.some
