use Rattle.std.proofs.Common.{◌+◌, subst, sym, take, arith}
use Rattle.std.proofs.lemmas.Grind.{common_steps}
use Rattle.std.specs.List.{AllZip}
use Rattle.std.proofs.lemmas.List.Elements.{All-get_or}
use Rattle.certificate_check.proofs.Zips.{zip_more}
use Rattle.mixed_model.specs.Covers.{IsKindRoute}
use Rattle.mixed_model.specs.Meaning.{kind_plan}
use Rattle.mixed_model.specs.declared.proof.MixedRoute.{MixedRoute}
use Rattle.mixed_model.specs.Tellings.{IsListedIn}
use Rattle.mixed_model.proofs.routes.listed_routes.Goals as goal

pub loop-column-preserved : goal.loop-column-preserved
loop-column-preserved c =
    let kinds = c.args.kinds.now in
    let columns = c.args.columns.now in
    subst (AllZip (IsListedIn kinds) (take (c.loop-column.column-index + 1) columns)) (sym c.in_ok-push.ensures.items)
    (zip_more (IsListedIn kinds) columns c.loop-column.column-index c.column-item.result c.loop-column.routes.items c.in-Some.route c.loop-column-test.true c.column-item.is c.in-Some.ensures.listed c.loop-column.invariant)

pub returns-in_default : goal.returns-in_default
returns-in_default c = λ all.
    let P = λ (r : MixedRoute). IsKindRoute c.args.kinds.now 1 (kind_plan r) in
    c.in_default.ensures.none (subst P (sym c.column-item.is) (All-get_or P c.args.columns.now c.loop-column.column-index c.column-item.result c.loop-column-test.true all))

pub returns : goal.returns
returns = grind (arith, common_steps)
