-- What holds of the two texts that jobs read which show or improve a plan: a rule of theirs is broken, or they hold one network and one plan.
use Rattle.std.proofs.Common.{◌≡◌, ◌∙◌, ℕ, List, Option, subst, sym}
use Rattle.ev_model.specs.Network.{Network}
use Rattle.ev_text.proofs.Results.{Err-ne-Ok}
use Rattle.fleet_steps.proofs.Plans.{same_plan}
use Rattle.fleet_steps.specs.PlanFile.{HoldsPlan, IsPlanEnded, IsTextRefused}
use Rattle.job_frame.proofs.LimitedNetworks.{one_limited, refused_has_none}
use Rattle.job_frame.specs.LimitedNetwork.{HasNetwork, IsNetworkRefused}
use Rattle.job_frame.specs.declared.answer.Ended.TheVariants.{Refused}
use Rattle.refusal_lines.specs.RefusalText.{IsRule}
use Rattle.refusal_lines.specs.declared.refusal.Refusal.{Refusal}
use Rattle.refusal_lines.specs.declared.refusal.Refusal.TheVariants as refusal
use Rattle.route_plan.proofs.PlanLaws.{fleet_plan_is_spelled}

module _ (limit : Option ℕ) (bytes plan_bytes : List ℕ) where
  -- what the files hold breaks no rule of a text
  pub refused_holds_not : (h : HoldsPlan limit bytes plan_bytes) (r : Refusal) → IsRule r → IsTextRefused limit bytes plan_bytes r → ⊥
  refused_holds_not h (refusal.Instance e) rule first = refused_has_none limit bytes (refusal.Instance e) h.network rule first h.has.network
  refused_holds_not h (refusal.Limit given) rule past = refused_has_none limit bytes (refusal.Limit given) h.network rule past h.has.network
  refused_holds_not h (refusal.Plan e) rule (g, other, fault) =
      Err-ne-Ok e h.plan (sym fault ∙ (fleet_plan_is_spelled plan_bytes h.plan).1 h.has.spelled)
  refused_holds_not h (refusal.Customers count) rule is = absurd is
  refused_holds_not h (refusal.Certificate e) rule is = absurd is
  refused_holds_not h (refusal.Charge level) rule is = absurd is
  refused_holds_not h (refusal.Route e) rule is = absurd is
  refused_holds_not h (refusal.Literal e) rule is = absurd is
  refused_holds_not h refusal.Maker rule is = absurd is

  pub same_network : (h other : HoldsPlan limit bytes plan_bytes) → other.network ≡ h.network
  same_network h other = one_limited limit bytes other.network h.network other.has.network h.has.network

  pub same_held : (h other : HoldsPlan limit bytes plan_bytes) → other.plan ≡ h.plan
  same_held h other = same_plan plan_bytes other.plan h.plan other.has.spelled h.has.spelled

  -- the first fault of a plan's text is a rule of theirs
  pub plan_rule : (g : Network) (r : Refusal) → HasNetwork limit bytes g → IsPlanEnded plan_bytes (Refused r) → IsTextRefused limit bytes plan_bytes r
  plan_rule g r network (fault, is, first) =
      subst (λ (x : Refusal). IsTextRefused limit bytes plan_bytes x) (sym is) (g, network, first)

  -- a rule of the instance is broken whatever the plan holds
  pub early_rule : (r : Refusal) → IsNetworkRefused limit bytes r → IsTextRefused limit bytes plan_bytes r
  early_rule (refusal.Instance e) is = is
  early_rule (refusal.Limit given) is = is
  early_rule (refusal.Customers count) is = absurd is
  early_rule (refusal.Charge level) is = absurd is
  early_rule (refusal.Route e) is = absurd is
  early_rule (refusal.Plan e) is = absurd is
  early_rule (refusal.Certificate e) is = absurd is
  early_rule (refusal.Literal e) is = absurd is
  early_rule refusal.Maker is = absurd is
