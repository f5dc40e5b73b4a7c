use Rattle.std.proofs.Common.{◌+◌, refl, subst, sym, take, arith}
use Rattle.std.proofs.lemmas.Grind.{common_steps}
use Rattle.bound_certificate.specs.declared.certificate.Share.{Share}
use Rattle.certificate_check.specs.Routes.{IsListedRoute}
use Rattle.certificate_check.specs.Shares.{AreShared, IsSharedRoute}
use Rattle.certificate_check.specs.declared.cover.SharedRoute.{SharedRoute}
use Rattle.fleet_model.specs.Cover.{IsFleetRoute}
use Rattle.certificate_check.proofs.Even.{route_share}
use Rattle.certificate_check.proofs.Passed.{there}
use Rattle.certificate_check.proofs.Zips.{zip_more}
use Rattle.certificate_check.proofs.shares.shared_routes.Goals as goal

pub loop-share-preserved : goal.loop-share-preserved
loop-share-preserved c =
    let g = c.args.inst.now in
    let x = c.share-item.result in
    let y : SharedRoute = record { share = x.share; route = c.in-Some.route } in
    let route = subst (λ stops. IsListedRoute g stops c.in-Some.route) c.as_slice.ensures c.in-Some.ensures.route in
    let here : IsSharedRoute g x.share x.plan.stops y = record { share = refl; route = route; among = c.in-Some.ensures.among } in
    subst (AreShared g (take (c.loop-share.share-index + 1) c.args.shares.now)) (sym c.in_ok-push.ensures.items)
    (zip_more (λ (a : Share) (b : SharedRoute). IsSharedRoute g a.share a.plan.stops b) c.args.shares.now c.loop-share.share-index x c.loop-share.routes.items y c.loop-share-test.true c.share-item.is here c.loop-share.invariant)

pub returns-in_default : goal.returns-in_default
returns-in_default c =
    let x = c.share-item.result in (
      c.loop-share.share-index,
      route_share x,
      there route_share c.args.shares.now c.loop-share.share-index x c.loop-share-test.true c.share-item.is,
      subst (λ stops. IsFleetRoute c.args.inst.now 1 stops → ⊥) c.as_slice.ensures c.in_default.ensures.none,
    )

pub returns : goal.returns
returns = grind (arith, common_steps)
