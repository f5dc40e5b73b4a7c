use Rattle.std.proofs.Common.{List, ℕ}
use Rattle.ev_model.specs.Network.{Network}
use Rattle.route_steps.specs.Trips.{Journey}
use Rattle.fixed_certificate.proofs.ProofRanges.{is_true}
use Rattle.fixed_certificate.proofs.Quick.{fits_by}
use Rattle.fixed_certificate.proofs.proving.prove_route.Goals as goal

abbrev of : Network → List ℕ → ℕ → Journey
of g route start = record { network = g; route = route; start = start }

pub check_route-requires-clause-fits : goal.check_route-requires-clause-fits
check_route-requires-clause-fits c =
    fits_by (of c.args.inst.now c.args.route.now c.args.start) c.in_ok-plan.field-0.plan c.in_ok-plan.field-0.states.items c.in_ok-few.few c.in_ok-few.ensures
    (is_true (of c.args.inst.now c.args.route.now c.args.start) c.in_ok-plan.field-0.plan c.in_ok-plan.ensures.plan) c.in_ok-plan.ensures.network c.in_ok-plan.ensures.states

pub returns-in-Accepted-clause-fits : goal.returns-in-Accepted-clause-fits
returns-in-Accepted-clause-fits c =
    fits_by (of c.args.inst.now c.args.route.now c.args.start) c.in_ok-plan.field-0.plan c.in_ok-plan.field-0.states.items c.in_ok-few.few c.in_ok-few.ensures
    (is_true (of c.args.inst.now c.args.route.now c.args.start) c.in_ok-plan.field-0.plan c.in_ok-plan.ensures.plan) c.in_ok-plan.ensures.network c.in_ok-plan.ensures.states
