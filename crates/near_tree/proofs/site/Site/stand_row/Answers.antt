use Rattle.std.proofs.Common.{◌∙◌, ◌+◌, sym, subst}
use Rattle.std.proofs.lemmas.Bool.{false≢true}
use Rattle.near_tree.specs.Sites.{leaf_of}
use Rattle.near_tree.proofs.Rows.{IsStandRowTo, stands_not, stands_too}
use Rattle.near_tree.proofs.site.Site.stand_row.Goals.{then-stands_for, else-stands_for}
use Rattle.near_tree.proofs.site.Site.stand_row.Goals as goal

pub loop-other-preserved : goal.loop-other-preserved
loop-other-preserved c =
    let g = c.args.self.now.inst.now in
    let f = leaf_of c.args.self.now in
    elim c.if-stands_for.branch [
      | then-stands_for w ↦
          subst (λ row. IsStandRowTo c.args.self.now.inst.now (leaf_of c.args.self.now) c.args.last (c.loop-other.other + 1) row) (sym w.row-is)
          (stands_too g f c.args.last c.loop-other.other c.loop-other.row c.loop-other.invariant w.with-row.result w.with-row.ensures.members (c.stands_for.ensures.0 w.if-stands_for.true))
      | else-stands_for w ↦
          subst (λ row. IsStandRowTo c.args.self.now.inst.now (leaf_of c.args.self.now) c.args.last (c.loop-other.other + 1) row) (sym w.row-is)
          (stands_not g f c.args.last c.loop-other.other c.loop-other.row c.loop-other.invariant (λ stands. false≢true (sym w.if-stands_for.false ∙ c.stands_for.ensures.1 stands)))
    ]
