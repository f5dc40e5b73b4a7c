use Rattle.std.proofs.Common.{subst, arith}
use Rattle.std.proofs.lemmas.Grind.{common_steps}
use Rattle.column_pool.specs.Bounds.{IsBoundOfDecided, IsNodeBound}
use Rattle.ev_fleet.specs.Answers.{answer_of, shares_in}
use Rattle.ev_fleet.specs.Held.{cost_at}
use Rattle.ev_fleet.specs.Whole.{TakesShares}
use Rattle.ev_fleet.proofs.Decided.{reaches_cost}
use Rattle.ev_fleet.proofs.taking.bound_shares.Goals as goal

pub returns-clause-taken : goal.returns-clause-taken
returns-clause-taken c =
    let cost = cost_at c.offer_shares.new.held in
    subst (λ x. TakesShares c.args.inst.now x cost) c.shares_in.ensures c.in_ok-offer_shares.ensures.taken

pub returns-clause-decided : goal.returns-clause-decided
returns-clause-decided c = λ decided.
    let g = c.args.inst.now in
    let p = c.args.pairs.now in
    let s = c.parts_of-section.result.0 in
    let r = c.parts_of-section.result.1 in
    let cost = cost_at c.offer_shares.new.held in
    let parts = c.parts_of-section.ensures in
    let found : IsNodeBound g p (answer_of s r) = subst (λ a. IsNodeBound g p a) parts c.in_ok-bound_node.ensures.bound in
    let bound : IsBoundOfDecided g p (answer_of s r) = subst (λ a. IsBoundOfDecided g p a) parts (c.in_ok-bound_node.ensures.decided decided) in
    let takes : TakesShares g (shares_in r) cost = subst (λ x. TakesShares g x cost) c.shares_in.ensures c.in_ok-offer_shares.ensures.taken in
    reaches_cost g p s r cost found bound takes

pub returns-clause-bound : goal.returns-clause-bound
returns-clause-bound = grind (arith, common_steps)
