-- The two files that `plan` writes, read again, are accepted.
use Rattle.std.proofs.Common.{◌≡◌, ◌∙◌, ℕ, ◌≤◌, Bool, List, Option, ap, false, length, refl, subst, sym, true}
use Rattle.std.proofs.lemmas.Bool.{false≢true}
use Rattle.certificate_parts.specs.Limits as certificate
use Rattle.ev_model.specs.Network.{IsNetwork, Network}
use Rattle.fleet_steps.specs.PlanFile.{IsValid}
use Rattle.job_frame.specs.LimitedNetwork.{HasNetwork}
use Rattle.gap_search.specs.Gap.{IsGapOutcome, IsHeld, cost_held, plan_held}
use Rattle.gap_search.specs.declared.outcome.GapOutcome.{GapOutcome}
use Rattle.near_proof.specs.declared.proof.NearProof.{NearProof}
use Rattle.near_text.proofs.NearLaws.{one_near}
use Rattle.route_improve.proofs.Answered.{moved_orderly}
use Rattle.route_improve.specs.declared.improving.Improved.{Improved}
use Rattle.route_improve.specs.declared.improving.Improved.TheVariants.{Alone, Plan}
use Rattle.route_plan.specs.PlanTexts.{FitsFile, fleet_plan_text}
use Rattle.route_plan.specs.declared.plan.RoutePlan.{RoutePlan}
use Rattle.near_tree.specs.declared.proof.TreeProof.{TreeProof}
use Rattle.tree_text.proofs.BoundLaws.{proof_is_read}
use Rattle.tree_text.proofs.TreeLaws.{one_tree}
use Rattle.tree_text.specs.BoundProofs.{IsBoundShown, TakesCustomers, bound_of, bound_proof_text}
use Rattle.tree_text.specs.BoundTexts.{HasProof, begins_tree}
use Rattle.tree_text.specs.declared.bounds.proof.BoundProof.{BoundProof}
use Rattle.tree_text.specs.declared.bounds.proof.BoundProof.TheVariants.{Near, Tree}
use Rattle.evgap_run.specs.PlanAnswer.{AreAccepted, IsAcceptedBound}

pub held_fits : (g : Network) (start : Option (List RoutePlan)) (ended : Bool) (held : Improved) → IsHeld g start ended held → FitsFile (plan_held held)
held_fits g start ended (Plan plan) is = (moved_orderly g ended plan.routes is.0).text
held_fits g start ended (Alone node) is = tt

pub held_valid : (g : Network) (start : Option (List RoutePlan)) (ended : Bool) (held : Improved) → IsHeld g start ended held → IsValid g (plan_held held) (cost_held g held)
held_valid g start ended (Plan plan) is = ((moved_orderly g ended plan.routes is.0).fleet, refl)
held_valid g start ended (Alone node) is = refl

-- the text of a proof that is shown, where it isn't too long, is read as it
shown_again : (g : Network) (bytes : List ℕ) (p : BoundProof) → IsNetwork g → IsBoundShown g p → bytes ≡ bound_proof_text g p → length bytes ≤ certificate.most_bytes → HasProof g bytes p
shown_again g bytes p network shown is within =
    let short = subst (λ (bs : List ℕ). length bs ≤ certificate.most_bytes) is within in
    subst (λ (bs : List ℕ). HasProof g bs p) (sym is) (proof_is_read g network p shown.fits shown.kept short)

-- and may be written
pub takes : (g : Network) (p : BoundProof) → IsBoundShown g p → TakesCustomers g p
takes g (Near p) shown = shown.fits.0
takes g (Tree p) shown = tt

-- two proofs that are shown have one text only where they are one
pub one_shown : (g : Network) → IsNetwork g → (bytes : List ℕ) (p q : BoundProof) → IsBoundShown g p → IsBoundShown g q → bytes ≡ bound_proof_text g p → bytes ≡ bound_proof_text g q → p ≡ q
one_shown g network bytes (Near p) (Near q) is was text other =
    ap (λ (x : NearProof). Near x)
    (one_near g network is.fits.0 bytes p q (record { fits = is.fits.1; kept = is.kept; text = text }) (record { fits = was.fits.1; kept = was.kept; text = other }))
one_shown g network bytes (Near p) (Tree q) is was text other =
    let kind : begins_tree bytes ≡ false = ap begins_tree text in
    let tree : begins_tree bytes ≡ true = ap begins_tree other in
    absurd (false≢true (sym kind ∙ tree))
one_shown g network bytes (Tree p) (Near q) is was text other =
    let tree : begins_tree bytes ≡ true = ap begins_tree text in
    let kind : begins_tree bytes ≡ false = ap begins_tree other in
    absurd (false≢true (sym kind ∙ tree))
one_shown g network bytes (Tree p) (Tree q) is was text other =
    ap (λ (x : TreeProof). Tree x)
    (one_tree g network bytes p q (record { fits = is.fits; kept = is.kept; text = text }) (record { fits = was.fits; kept = was.kept; text = other }))

-- a text that is no tree's is that of a near proof, which `check-bound` accepts
bound_again : (limit : Option ℕ) (file bytes : List ℕ) (g : Network) (p : BoundProof) → IsNetwork g → HasNetwork limit file g → IsBoundShown g p → bytes ≡ bound_proof_text g p → begins_tree bytes ≡ false
    → length bytes ≤ certificate.most_bytes → IsAcceptedBound limit file bytes (bound_of p)
bound_again limit file bytes g (Near p) network has shown is kind within =
    let read = shown_again g bytes (Near p) network shown is within in
    record {
      network = g;
      fleet = record { network = has; few = shown.fits.0 };
      proof = p;
      has = record { read = read.read; spelled = read.spelled };
      accepted = shown.accepted;
      shows = shown.shows;
      bound_is = refl;
    }
bound_again limit file bytes g (Tree p) network has shown is kind within =
    let tree : begins_tree bytes ≡ true = ap begins_tree is in
    absurd (false≢true (sym kind ∙ tree))

pub are_accepted : (limit : Option ℕ) (file plan_bytes proof_bytes : List ℕ) (g : Network) (start : Option (List RoutePlan)) (ended : Bool) (o : GapOutcome) → IsNetwork g → HasNetwork limit file g → IsGapOutcome g start ended o
    → plan_bytes ≡ fleet_plan_text (plan_held o.plan) → proof_bytes ≡ bound_proof_text g o.proof
    → AreAccepted limit file plan_bytes proof_bytes g.denominator (cost_held g o.plan) (bound_of o.proof)
are_accepted limit file plan_bytes proof_bytes g start ended o network has is plan_is proof_is = record {
  both = λ short within. record {
    files = record {
      network = g;
      plan = plan_held o.plan;
      fleet = record {
        network = has;
        spelled = record { within = short; fits = held_fits g start ended o.plan is.plan; text = plan_is };
      };
      proof = o.proof;
      has = shown_again g proof_bytes o.proof network is.proof proof_is within;
    };
    cost = cost_held g o.plan;
    valid = held_valid g start ended o.plan is.plan;
    accepted = is.proof.accepted;
    shows = is.proof.shows;
    text_is = refl;
  };
  proof = bound_again limit file proof_bytes g o.proof network has is.proof proof_is;
}
