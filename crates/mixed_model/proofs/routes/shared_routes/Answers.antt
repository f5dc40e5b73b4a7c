use Rattle.std.proofs.Common.{◌+◌, refl, subst, sym, take, arith}
use Rattle.std.proofs.lemmas.Grind.{common_steps}
use Rattle.std.specs.List.{AllZip}
use Rattle.std.proofs.lemmas.List.Elements.{All-get_or}
use Rattle.certificate_check.specs.declared.cover.SharedRoute.{SharedRoute}
use Rattle.certificate_check.proofs.Zips.{zip_more}
use Rattle.mixed_model.specs.Covers.{IsKindRoute}
use Rattle.mixed_model.specs.Meaning.{kind_plan}
use Rattle.mixed_model.specs.declared.proof.MixedShare.{MixedShare}
use Rattle.mixed_model.specs.Tellings.{IsSharedIn}
use Rattle.mixed_model.proofs.routes.shared_routes.Goals as goal

pub loop-share-preserved : goal.loop-share-preserved
loop-share-preserved c =
    let kinds = c.args.kinds.now in
    let shares = c.args.shares.now in
    let x = c.share-item.result in
    let y : SharedRoute = record { share = x.share; route = c.in-Some.route } in
    let here : IsSharedIn kinds x y = record { share = refl; listed = c.in-Some.ensures.listed } in
    subst (AllZip (IsSharedIn kinds) (take (c.loop-share.share-index + 1) shares)) (sym c.in_ok-push.ensures.items)
    (zip_more (IsSharedIn kinds) shares c.loop-share.share-index x c.loop-share.routes.items y c.loop-share-test.true c.share-item.is here c.loop-share.invariant)

pub returns-in_default : goal.returns-in_default
returns-in_default c = λ all.
    let P = λ (x : MixedShare). IsKindRoute c.args.kinds.now 1 (kind_plan x.route) in
    c.in_default.ensures.none (subst P (sym c.share-item.is) (All-get_or P c.args.shares.now c.loop-share.share-index c.share-item.result c.loop-share-test.true all))

pub returns : goal.returns
returns = grind (arith, common_steps)
