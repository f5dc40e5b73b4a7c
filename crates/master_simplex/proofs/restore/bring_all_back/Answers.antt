use Rattle.std.proofs.Common.{◌≡◌, arith, rules, subst}
use Rattle.master_table.specs.Tableau.{size}
use Rattle.master_simplex.specs.Phase.{AreBasic}
use Rattle.master_simplex.proofs.Returns.{all_helpers}
use Rattle.master_simplex.proofs.Tables.{then_reached}
use Rattle.master_simplex.proofs.restore.bring_all_back.Goals as goal

pub returns-in_err-bring_back-clause-reached : goal.returns-in_err-bring_back-clause-reached
returns-in_err-bring_back-clause-reached c = then_reached c.args.t.now c.loop-helper.t c.bring_back.new.t c.loop-helper.invariant.reached c.bring_back.ensures.reached

pub loop-helper-preserved : goal.loop-helper-preserved
loop-helper-preserved c = record {
  basic = search rules;
  reached = then_reached c.args.t.now c.loop-helper.t c.bring_back.new.t c.loop-helper.invariant.reached c.bring_back.ensures.reached;
}

pub returns-clause-feasible : goal.returns-clause-feasible
returns-clause-feasible c =
    let same = c.loop-helper.invariant.reached.same_size in
    let end : c.loop-helper.helper ≡ size c.loop-helper.t = search (rules, arith) in
    all_helpers c.loop-helper.t c.rows-n.ensures.tableau (subst (λ k. AreBasic c.loop-helper.t k) end c.loop-helper.invariant.basic)
