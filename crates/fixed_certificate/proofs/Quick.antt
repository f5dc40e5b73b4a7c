-- What a proof with the labels of states is.
use Rattle.std.proofs.Common.{◌≡◌, List, Option, map, refl, subst, sym}
use Rattle.std.specs.List.{All}
use Rattle.ev_model.specs.Network.{IsNetwork}
use Rattle.frvcp_labels.specs.Listing.{HoldAll, IsStateOnWay}
use Rattle.route_plan.specs.declared.plan.RoutePlan.{RoutePlan}
use Rattle.route_proof.specs.Closed.{IsAccepted, IsTrue}
use Rattle.route_proof.specs.Ranges.{ProofFits}
use Rattle.route_proof.specs.declared.proof.RouteProof.{RouteProof}
use Rattle.route_steps.specs.Trips.{Journey}
use Rattle.route_steps.specs.declared.state.State.{State}
use Rattle.fixed_certificate.specs.Labels.{label_of}
use Rattle.fixed_certificate.proofs.ClosedStates.{is_accepted}
use Rattle.fixed_certificate.proofs.ProofRanges.{plan_fits, states_fit}

abbrev pub proof_of : Option RoutePlan → List State → RouteProof
proof_of plan states = record { plan = plan; labels = map label_of states }

module _ (t : Journey) (plan : Option RoutePlan) (states : List State) (p : RouteProof) (same : p ≡ proof_of plan states) (is : IsTrue t plan) where
  pub fits_by : IsNetwork t.network → All (IsStateOnWay t) states → ProofFits t.network t.route p
  fits_by network on_way = subst (λ (x : RouteProof). ProofFits t.network t.route x) (sym same) (record { plan = plan_fits t plan network is; labels = states_fit t states on_way })

  pub accepted_by : HoldAll t states → IsAccepted t p
  accepted_by all = subst (λ (x : RouteProof). IsAccepted t x) (sym same) (is_accepted t plan states (map label_of states) refl is all)

  pub shows_by : IsTrue t p.plan
  shows_by = subst (λ (x : RouteProof). IsTrue t x.plan) (sym same) is
