use Rattle.std.proofs.Common.{◌∙◌, ap, below_more, refl, subst, sym}
use Rattle.std.proofs.lemmas.Bool.{false≢true}
use Rattle.dominance.specs.Coverage.{CoversEach}
use Rattle.dominance.proofs.Rows.{all_covered, not_covered, row}
use Rattle.dominance.proofs.row.RowLabelValue.covers.Goals as goal

pub returns-then-not-reaches : goal.returns-then-not-reaches
returns-then-not-reaches c =
    let other = row c.other.inside.first c.deref-time-items.result.now in
    let same = ap (λ times. row c.other.inside.first times) c.deref-time-items.ensures.value ∙ c.other.view_is in (
      λ is. absurd (false≢true is),
      λ covers. absurd (not_covered c.args.self.now other c.args.extra c.loop-index.index c.loop-index-test.true
          (λ reaches. false≢true (sym c.if-not-reaches.true ∙ c.reaches.ensures.1 (rw (c.from.ensures) reaches)))
          (subst (λ o. CoversEach c.args.self.now o c.args.extra) (sym same) covers)),
    )

pub loop-index-preserved : goal.loop-index-preserved
loop-index-preserved c = below_more _ _ c.loop-index.invariant (rw (← c.from.ensures) (c.if-not-reaches.ensures.0 refl))

pub returns : goal.returns
returns c =
    let other = row c.other.inside.first c.deref-time-items.result.now in
    let same = ap (λ times. row c.other.inside.first times) c.deref-time-items.ensures.value ∙ c.other.view_is in (
      λ is. subst (λ o. CoversEach c.args.self.now o c.args.extra) same (all_covered c.args.self.now other c.args.extra c.loop-index.index c.loop-index-test.false c.loop-index.invariant),
      λ covers. refl,
    )
