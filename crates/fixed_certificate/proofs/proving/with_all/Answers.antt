use Rattle.std.proofs.Common.{List, ℕ}
use Rattle.std.proofs.lemmas.Result.{IfOk-weaker}
use Rattle.ev_model.specs.Network.{Network}
use Rattle.route_steps.specs.Trips.{Journey}
use Rattle.fixed_certificate.proofs.Quick.{accepted_by, fits_by}
use Rattle.fixed_certificate.proofs.proving.with_all.Goals as goal

abbrev of : Network → List ℕ → ℕ → Journey
of g route start = record { network = g; route = route; start = start }

pub returns-clause-fits : goal.returns-clause-fits
returns-clause-fits c =
    IfOk-weaker c.proof_of.result _ _
    (λ p same. fits_by (of c.args.inst.now c.args.route.now c.args.start) c.args.few.plan c.in_ok-states.states.items p same c.requires.plan c.in_ok-states.ensures.network c.in_ok-states.ensures.on_way)
    c.proof_of.ensures

pub returns-clause-accepted : goal.returns-clause-accepted
returns-clause-accepted c =
    IfOk-weaker c.proof_of.result _ _
    (λ p same. accepted_by (of c.args.inst.now c.args.route.now c.args.start) c.args.few.plan c.in_ok-states.states.items p same c.requires.plan c.in_ok-states.ensures.all)
    c.proof_of.ensures
