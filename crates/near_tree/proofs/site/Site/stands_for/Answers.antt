use Rattle.std.proofs.Common.{◌∙◌, refl, sym, arith}
use Rattle.std.proofs.lemmas.Bool.{false≢true}
use Rattle.near_tree.specs.Sites.{leaf_of}
use Rattle.near_tree.proofs.Standing.{stands_all, stands_nowhere}
use Rattle.near_tree.proofs.site.Site.stands_for.Goals as goal

pub returns-then-plainly_stands : goal.returns-then-plainly_stands
returns-then-plainly_stands c = (λ is. c.plainly_stands.ensures c.if-plainly_stands.true, λ stands. refl)

pub returns-then-not-is_served : goal.returns-then-not-is_served
returns-then-not-is_served c = (
  λ is. absurd (false≢true is),
  λ stands. absurd (stands_nowhere c.args.self.now.inst.now (leaf_of c.args.self.now) c.args.last c.args.other c.loop-next.next (let low = c.loop-next-test.true in omega (arith, low, c.customers-next-end.ensures.value))
      (λ served. false≢true (sym c.if-not-is_served.true ∙ c.is_served.ensures.1 served)) stands),
)

pub returns : goal.returns
returns c = (
  λ is. stands_all c.args.self.now.inst.now (leaf_of c.args.self.now) c.args.last c.args.other (λ next low. c.loop-next.invariant next (let end = c.loop-next-test.false in omega (arith, low, end, c.customers-next-end.ensures.value))),
  λ stands. refl,
)
