use Rattle.std.specs.Prelude.{◌&&◌, Bool}
use Rattle.std.specs.Option.{option_map}
use Rattle.gap_search.proofs.Outcomes.{is_fleet, is_outcome, settled_held, still_begun, still_begun_grown}
use Rattle.gap_search.proofs.closing.close_gap.Goals as goal

pub cheaper-requires : goal.cheaper-requires
cheaper-requires g c =
    is_fleet c.args.inst.now (option_map (λ p. p.now.routes) c.args.start) c.in_ok-first.first.plan c.in_ok-first.ensures

pub with_tree-requires-clause-plan : goal.with_tree-requires-clause-plan
with_tree-requires-clause-plan g c =
    is_fleet c.args.inst.now (option_map (λ p. p.now.routes) c.args.start) c.in_ok-plan.plan
    (still_begun c.args.inst.now (option_map (λ p. p.now.routes) c.args.start) c.in_ok-first.first.plan c.in_ok-plan.plan c.in_ok-first.ensures c.in_ok-plan.ensures)

pub settled-requires : goal.settled-requires
settled-requires g c =
    is_fleet c.args.inst.now (option_map (λ p. p.now.routes) c.args.start) c.in_ok-grown.grown.plan
    (still_begun_grown c.args.inst.now (option_map (λ p. p.now.routes) c.args.start) c.in_ok-plan.plan c.in_ok-grown.grown.plan
    (still_begun c.args.inst.now (option_map (λ p. p.now.routes) c.args.start) c.in_ok-first.first.plan c.in_ok-plan.plan c.in_ok-first.ensures c.in_ok-plan.ensures)
    c.in_ok-grown.ensures.plan)

pub returns : goal.returns
returns g c =
    let ended : Bool = c.args.options.ends_moves && g.C.MoveClock.has_ended c.settled.new.clock in
    is_outcome c.args.inst.now (option_map (λ p. p.now.routes) c.args.start) ended c.in_ok-plan-2.plan c.in_ok-grown.grown.proof
    (settled_held c.args.inst.now (option_map (λ p. p.now.routes) c.args.start) ended c.in_ok-grown.grown.plan c.in_ok-plan-2.plan
    (still_begun_grown c.args.inst.now (option_map (λ p. p.now.routes) c.args.start) c.in_ok-plan.plan c.in_ok-grown.grown.plan
    (still_begun c.args.inst.now (option_map (λ p. p.now.routes) c.args.start) c.in_ok-first.first.plan c.in_ok-plan.plan c.in_ok-first.ensures c.in_ok-plan.ensures)
    c.in_ok-grown.ensures.plan)
    c.in_ok-plan-2.ensures) c.in_ok-grown.ensures.proof
