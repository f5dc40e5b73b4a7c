use Rattle.std.proofs.Common.{subst, sym}
use Rattle.ev_fleet.specs.Splitting.{IsChoice}
use Rattle.ev_fleet.proofs.strong.strongest.Goals.{then-product-most, else-product-most}
use Rattle.ev_fleet.proofs.strong.strongest.Goals as goal

pub gains-requires-in-loop-choice-clause-choice : goal.gains-requires-in-loop-choice-clause-choice
gains-requires-in-loop-choice-clause-choice c = c.requires.others c.loop-choice.choice-index (record { i = 0; j = 0; away = 0 }) c.loop-choice-test.true

pub loop-choice-preserved : goal.loop-choice-preserved
loop-choice-preserved c = elim c.if-product-most.branch [
  | then-product-most w ↦ subst (λ x. IsChoice c.args.tree.now c.args.key x) (sym w.best-is) (c.requires.others c.loop-choice.choice-index (record { i = 0; j = 0; away = 0 }) c.loop-choice-test.true)
  | else-product-most w ↦ subst (λ x. IsChoice c.args.tree.now c.args.key x) (sym w.best-is) c.loop-choice.invariant
]
