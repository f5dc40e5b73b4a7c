-- Bytes mean one network of a fleet at most, and those that break a rule mean none.
use Rattle.std.proofs.Common.{◌≡◌, ◌∙◌, ℕ, List, Option, ap, arith}
use Rattle.certificate_parts.specs.Ranges.{customer_count}
use Rattle.ev_model.specs.Network.{Network}
use Rattle.fleet_steps.specs.FleetNetwork.{HasFleetNetwork, IsFleetRefused}
use Rattle.job_frame.proofs.LimitedNetworks.{one_limited, refused_has_none}
use Rattle.refusal_lines.specs.RefusalText.{IsRule}
use Rattle.refusal_lines.specs.declared.refusal.Refusal.{Refusal}
use Rattle.refusal_lines.specs.declared.refusal.Refusal.TheVariants as refusal

pub same_fleet : (limit : Option ℕ) (bytes : List ℕ) (g h : Network) → HasFleetNetwork limit bytes g → HasFleetNetwork limit bytes h → g ≡ h
same_fleet limit bytes g h p q = one_limited limit bytes g h p.network q.network

-- the first steps of a job on fleets either break a rule or find a network
pub fleet_refused_not : (limit : Option ℕ) (bytes : List ℕ) (g : Network) (r : Refusal) → HasFleetNetwork limit bytes g → IsRule r → IsFleetRefused limit bytes r → ⊥
fleet_refused_not limit bytes g (refusal.Instance e) has rule first = refused_has_none limit bytes (refusal.Instance e) g rule first has.network
fleet_refused_not limit bytes g (refusal.Limit given) has rule past = refused_has_none limit bytes (refusal.Limit given) g rule past has.network
fleet_refused_not limit bytes g (refusal.Customers count) has rule (h, network, is, many) =
    let same : h ≡ g = one_limited limit bytes h g network has.network in
    let counts : count ≡ customer_count g = is ∙ ap (λ (x : Network). customer_count x) same in
    omega (arith, counts, many, has.few)
fleet_refused_not limit bytes g (refusal.Charge level) has rule is = absurd is
fleet_refused_not limit bytes g (refusal.Route e) has rule is = absurd is
fleet_refused_not limit bytes g (refusal.Plan e) has rule is = absurd is
fleet_refused_not limit bytes g (refusal.Certificate e) has rule is = absurd is
fleet_refused_not limit bytes g (refusal.Literal e) has rule is = absurd is
fleet_refused_not limit bytes g refusal.Maker has rule is = absurd is
