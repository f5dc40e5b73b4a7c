use Rattle.std.proofs.Common.{ℕ, List, Option, subst, sym}
use Rattle.std.specs.Prelude.{MatchOption}
use Rattle.mixed_model.specs.declared.proof.MixedRoute.{MixedRoute}
use Rattle.mixed_fleet.specs.Held.{cost_at, routes_at}
use Rattle.mixed_fleet.specs.Outcome.{IsOutcome}
use Rattle.mixed_fleet.specs.Whole.{HasParts, IsAtBound}
use Rattle.mixed_fleet.proofs.Outcomes.{own_outcome, whole_outcome}
use Rattle.mixed_fleet.proofs.planning.outcome_of.Goals as goal

pub returns-in-Some : goal.returns-in-Some
returns-in-Some c =
    let p = c.args.proof in
    let at = subst (λ (o : Option (List MixedRoute)). MatchOption o (HasParts p.root) (IsAtBound c.args.kinds.now p)) c.in-Some.is c.requires.whole in
    whole_outcome c.args.kinds.now p c.in-Some.routes c.requires.proof at

pub returns-in-None : goal.returns-in-None
returns-in-None c =
    let kinds = c.args.kinds.now in
    let p = c.args.proof in
    let h = c.args.held in
    let parts = subst (λ (o : Option (List MixedRoute)). MatchOption o (HasParts p.root) (IsAtBound kinds p)) c.in-None.is c.requires.whole in
    let outcome : IsOutcome kinds (record { plan = routes_at h; cost = cost_at h; proof = p }) = own_outcome kinds p h c.requires.proof c.requires.held c.requires.own parts in
    let costed : IsOutcome kinds (record { plan = routes_at h; cost = c.cost_of.result; proof = p }) =
    subst (λ (x : Option ℕ). IsOutcome kinds (record { plan = routes_at h; cost = x; proof = p })) (sym c.cost_of.ensures) outcome in
    subst (λ (x : Option (List MixedRoute)). IsOutcome kinds (record { plan = x; cost = c.cost_of.result; proof = p })) (sym c.routes_of.ensures) costed
