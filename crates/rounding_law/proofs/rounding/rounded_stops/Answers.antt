use Rattle.std.proofs.Common.{◌≡◌, ◌∙◌, ◌∷◌, [], ◌++◌, List, ap, arith, false, get_or, subst, sym}
use Rattle.std.proofs.lemmas.Grind.{common_steps}
use Rattle.ev_model.specs.Feasible.{IsFeasible}
use Rattle.ev_model.specs.declared.Stop.{Stop}
use Rattle.rounding_law.proofs.Begin.{begins}
use Rattle.rounding_law.proofs.rounding.rounded_stops.Goals as goal

pub loop-at-init : goal.loop-at-init
loop-at-init c =
    let stops = c.as_slice-stops.result.now in
    let feasible : IsFeasible c.args.inst.now c.args.p.now.k c.args.start stops =
    subst (λ xs. IsFeasible c.args.inst.now c.args.p.now.k c.args.start xs) (sym c.as_slice-stops.ensures) c.requires.feasible in
    let none : Stop = record { node = 0; added = 0; via = false } in
    let b = begins c.args.inst.now c.args.p.now.k c.args.j c.args.start stops none feasible in
    let first : c.push.new.self.items ≡ get_or stops 0 none ∷ [] =
    c.in_ok-push.ensures.items ∙ ap (λ (xs : List Stop). xs ++ get_or stops 0 none ∷ []) c.in_ok-whole.ensures.items in
    record {
      from = b.from;
      some = omega arith;
      stops_left = b.stops_left;
      kept = b.kept;
      told = rw first b.told;
    }

pub returns : goal.returns
returns = grind (arith, common_steps)

pub energy-requires-clause-reached : goal.energy-requires-clause-reached
energy-requires-clause-reached = grind (arith, common_steps)

pub loop-at-preserved : goal.loop-at-preserved
loop-at-preserved = grind (arith, common_steps)

pub prove-unreachable-requires : goal.prove-unreachable-requires
prove-unreachable-requires = grind (arith, common_steps)
