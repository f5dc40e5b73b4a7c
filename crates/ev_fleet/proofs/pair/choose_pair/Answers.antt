use Rattle.std.proofs.Common.{List, subst, sym}
use Rattle.std.specs.List.{All}
use Rattle.std.proofs.lemmas.List.Elements.{All-head, All-tail}
use Rattle.ev_fleet.specs.Splitting.{IsChoice}
use Rattle.ev_fleet.specs.declared.pair.Choice.{Choice}
use Rattle.ev_fleet.proofs.pair.choose_pair.Goals as goal

pub strongest-requires-clause-first : goal.strongest-requires-clause-first
strongest-requires-clause-first c =
    let P = λ (x : Choice). IsChoice c.args.tree.now c.args.key x in
    let all = subst (λ (xs : List Choice). All P xs) (sym c.deref.ensures.value) c.in_ok-candidates.ensures in
    All-head P c.in-Some.first.now c.in-Some.others.now (subst (λ (xs : List Choice). All P xs) c.in-Some.ensures.cases.0 all)

pub strongest-requires-clause-others : goal.strongest-requires-clause-others
strongest-requires-clause-others c =
    let P = λ (x : Choice). IsChoice c.args.tree.now c.args.key x in
    let all = subst (λ (xs : List Choice). All P xs) (sym c.deref.ensures.value) c.in_ok-candidates.ensures in
    All-tail P c.in-Some.first.now c.in-Some.others.now (subst (λ (xs : List Choice). All P xs) c.in-Some.ensures.cases.0 all)
