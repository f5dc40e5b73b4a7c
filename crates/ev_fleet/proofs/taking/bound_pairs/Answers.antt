use Rattle.ev_fleet.specs.Answers.{shares_in}
use Rattle.ev_fleet.specs.Held.{cost_at}
use Rattle.ev_fleet.proofs.Bounds.{most_most}
use Rattle.ev_fleet.proofs.Whole.{reaches_lower, takes_lower}
use Rattle.ev_fleet.proofs.taking.bound_pairs.Goals as goal

pub returns-clause-taken : goal.returns-clause-taken
returns-clause-taken c =
    let old = cost_at c.bound_shares.new.held in
    let new = cost_at c.offer_moved.new.held in
    let kept = most_most new (cost_at c.offer_pool.new.held) old c.offer_moved.ensures.kept c.offer_pool.ensures.kept in
    takes_lower c.args.inst.now (shares_in c.in_ok-section.root) old new kept c.in_ok-section.ensures.taken

pub returns-clause-decided : goal.returns-clause-decided
returns-clause-decided c = λ decided.
    let old = cost_at c.bound_shares.new.held in
    let new = cost_at c.offer_moved.new.held in
    let kept = most_most new (cost_at c.offer_pool.new.held) old c.offer_moved.ensures.kept c.offer_pool.ensures.kept in
    reaches_lower c.in_ok-section.section old new kept (c.in_ok-section.ensures.decided decided)
