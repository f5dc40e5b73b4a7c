-- What holds of the two texts: a rule of theirs is broken, or they hold one network and one value.
use Rattle.std.proofs.Common.{◌≡◌, ◌∙◌, inl, inr, ℕ, ◌<◌, ◌≤◌, List, Option, ap, None, Some, Result, Ok, Err, IfErr, IfOk, arith, subst, sym}
use Rattle.ev_model.specs.Network.{Network}
use Rattle.ev_model.specs.declared.Stop.{Stop}
use Rattle.ev_text.proofs.Results.{Err-ne-Ok, Ok-injective}
use Rattle.fixed_reader.specs.FixedReading.{fixed_in}
use Rattle.fleet_steps.specs.PlanFile.{IsPlanEnded}
use Rattle.job_frame.proofs.LimitedNetworks.{one_limited, refused_has_none}
use Rattle.job_frame.specs.Ended.{IsNetworkEnded}
use Rattle.job_frame.specs.LimitedNetwork.{HasNetwork, IsNetworkRefused}
use Rattle.job_frame.specs.declared.answer.Ended.{Ended}
use Rattle.job_frame.specs.declared.answer.Ended.TheVariants.{Memory, Refused}
use Rattle.refusal_lines.specs.RefusalText.{IsRule}
use Rattle.refusal_lines.specs.declared.refusal.Refusal.{Refusal}
use Rattle.refusal_lines.specs.declared.refusal.Refusal.TheVariants as refusal
use Rattle.route_plan.proofs.PlanLaws.{fleet_plan_is_spelled}
use Rattle.route_plan.specs.PlanReading.{fleet_plan_in}
use Rattle.route_plan.specs.PlanTexts.{FitsFile, SpellsFleetPlan}
use Rattle.route_plan.specs.declared.plan.FleetPlan.{FleetPlan}
use Rattle.route_plan.specs.declared.text.plan_text.PlanText.{PlanText}
use Rattle.view_words.specs.Words.{ViewPlan}
use Rattle.view_words.specs.declared.form.PlanForm.{PlanForm}
use Rattle.view_words.specs.declared.form.PlanForm.TheVariants as plan_form
use Rattle.evview_run.specs.Held.{FitsHeld, HasFewRoutes, HasStart, HoldsPlans, IsHeldEnded, IsRouteEnded, IsSettingEnded, IsStartEnded, IsTextRefused, held_charged, held_fleet, held_in, level_of, start_of}
use Rattle.evview_run.specs.declared.held.HeldPlans.{HeldPlans}

-- ---- the level at the start is that of the words

fleet_starts : (start : ℕ) (read : Result (Option FleetPlan) PlanText) (held : HeldPlans) → held_fleet start read ≡ Ok held → held.start ≡ start
fleet_starts start (Ok plan) held is = let same = Ok-injective (record { start = start; plan = plan; told = None }) held is in λ i. (sym same i).start
fleet_starts start (Err fault) held is = absurd (Err-ne-Ok fault held is)

charged_starts : (start : ℕ) (read : Result (Option (List Stop × ℕ)) PlanText) (held : HeldPlans) → held_charged start read ≡ Ok held → held.start ≡ start
charged_starts start (Ok None) held is = let same = Ok-injective (record { start = start; plan = None; told = None }) held is in λ i. (sym same i).start
charged_starts start (Ok (Some route)) held is = let same = Ok-injective _ held is in λ i. (sym same i).start
charged_starts start (Err fault) held is = absurd (Err-ne-Ok fault held is)

pub held_starts : (g : Network) (form : PlanForm) (bytes : List ℕ) (held : HeldPlans) → held_in g form bytes ≡ Ok held → held.start ≡ start_of g form
held_starts g plan_form.Fleet bytes held is = fleet_starts g.capacity (fleet_plan_in bytes) held is
held_starts g plan_form.Part bytes held is = fleet_starts g.capacity (fleet_plan_in bytes) held is
held_starts g (plan_form.Fixed charge) bytes held is = charged_starts (level_of g charge) (fixed_in g.denominator bytes) held is

-- ---- what the bytes hold, by the form

pub spelled_is_held : (start : ℕ) (bytes : List ℕ) (plan : Option FleetPlan) → SpellsFleetPlan bytes plan → held_fleet start (fleet_plan_in bytes) ≡ Ok (record { start = start; plan = plan; told = None })
spelled_is_held start bytes plan spelled = ap (held_fleet start) ((fleet_plan_is_spelled bytes plan).1 spelled)

pub few_are_held : (plan : Option FleetPlan) → FitsFile plan → HasFewRoutes plan
few_are_held None fits = tt
few_are_held (Some plan) fits = fits.0

pub fleet_is_held : (g : Network) (form : PlanForm) (start : ℕ) (bytes : List ℕ) (held : HeldPlans) → form ≡ plan_form.Fleet → start ≡ start_of g form → held_fleet start (fleet_plan_in bytes) ≡ Ok held → held_in g form bytes ≡ Ok held
fleet_is_held g form start bytes held is starts found =
    let level : start ≡ g.capacity = starts ∙ ap (start_of g) is in
    ap (λ (f : PlanForm). held_in g f bytes) is ∙ ap (λ (n : ℕ). held_fleet n (fleet_plan_in bytes)) (sym level) ∙ found

pub part_is_held : (g : Network) (form : PlanForm) (start : ℕ) (bytes : List ℕ) (held : HeldPlans) → form ≡ plan_form.Part → start ≡ start_of g form → held_fleet start (fleet_plan_in bytes) ≡ Ok held → held_in g form bytes ≡ Ok held
part_is_held g form start bytes held is starts found =
    let level : start ≡ g.capacity = starts ∙ ap (start_of g) is in
    ap (λ (f : PlanForm). held_in g f bytes) is ∙ ap (λ (n : ℕ). held_fleet n (fleet_plan_in bytes)) (sym level) ∙ found

pub route_is_held : (g : Network) (form : PlanForm) (charge : Option ℕ) (start : ℕ) (bytes : List ℕ) (held : HeldPlans) → form ≡ plan_form.Fixed charge → start ≡ start_of g form → held_charged start (fixed_in g.denominator bytes) ≡ Ok held → held_in g form bytes ≡ Ok held
route_is_held g form charge start bytes held is starts found =
    let level : start ≡ level_of g charge = starts ∙ ap (start_of g) is in
    ap (λ (f : PlanForm). held_in g f bytes) is ∙ ap (λ (n : ℕ). held_charged n (fixed_in g.denominator bytes)) (sym level) ∙ found

pub fleet_ends : (g : Network) (form : PlanForm) (bytes : List ℕ) (ended : Ended) → form ≡ plan_form.Fleet → IsPlanEnded bytes ended → IsHeldEnded g form bytes ended
fleet_ends g form bytes Memory is ends = tt
fleet_ends g form bytes (Refused r) is (fault, same, first) = (fault, same, ap (λ (f : PlanForm). held_in g f bytes) is ∙ ap (held_fleet g.capacity) first)

pub part_ends : (g : Network) (form : PlanForm) (bytes : List ℕ) (ended : Ended) → form ≡ plan_form.Part → IsPlanEnded bytes ended → IsHeldEnded g form bytes ended
part_ends g form bytes Memory is ends = tt
part_ends g form bytes (Refused r) is (fault, same, first) = (fault, same, ap (λ (f : PlanForm). held_in g f bytes) is ∙ ap (held_fleet g.capacity) first)

pub route_ends : (g : Network) (form : PlanForm) (charge : Option ℕ) (bytes : List ℕ) (ended : Ended) → form ≡ plan_form.Fixed charge → IsRouteEnded g.denominator bytes ended → IsHeldEnded g form bytes ended
route_ends g form charge bytes Memory is ends = tt
route_ends g form charge bytes (Refused r) is (fault, same, first) = (fault, same, ap (λ (f : PlanForm). held_in g f bytes) is ∙ ap (held_charged (level_of g charge)) first)

-- ---- why there is no instance with a level at the start

pub network_ends : (limit : Option ℕ) (form : PlanForm) (bytes : List ℕ) (ended : Ended) → IsNetworkEnded limit bytes ended → IsSettingEnded limit form bytes ended
network_ends limit form bytes (Refused r) is = inl is.1
network_ends limit form bytes Memory is = tt

pub start_ends : (limit : Option ℕ) (form : PlanForm) (bytes : List ℕ) (g : Network) (ended : Ended) → HasNetwork limit bytes g → IsStartEnded g form ended → IsSettingEnded limit form bytes ended
start_ends limit form bytes g (Refused r) network is = inr (g, network, is)
start_ends limit form bytes g Memory network is = tt

pub starts_within : (job : ViewPlan) (bytes : List ℕ) (g : Network) (start : ℕ) → HasNetwork job.limit bytes g → start ≡ start_of g job.form → start ≤ g.capacity → HasStart job bytes g
starts_within job bytes g start network is within = record { network = network; within = omega (arith, is, within) }

-- ---- what the texts hold

module _ (job : ViewPlan) (bytes plan_bytes : List ℕ) where
  pub same_network : (h other : HoldsPlans job bytes plan_bytes) → other.network ≡ h.network
  same_network h other = one_limited job.limit bytes other.network h.network other.has.start.network h.has.start.network

  pub same_held : (h other : HoldsPlans job bytes plan_bytes) → other.held ≡ h.held
  same_held h other =
      let there : held_in h.network job.form plan_bytes ≡ Ok other.held = subst (λ (g : Network). held_in g job.form plan_bytes ≡ Ok other.held) (same_network h other) other.has.is in
      Ok-injective other.held h.held (sym there ∙ h.has.is)

  -- what the files hold breaks no rule of a text
  charge_is_within : (h : HoldsPlans job bytes plan_bytes) (level : ℕ) (g : Network) → HasNetwork job.limit bytes g → start_of g job.form ≡ level → g.capacity < level → ⊥
  charge_is_within h level g network is past =
      let same : h.network ≡ g = one_limited job.limit bytes h.network g h.has.start.network network in
      let within : start_of g job.form ≤ g.capacity = subst (λ (n : Network). start_of n job.form ≤ n.capacity) same h.has.start.within in
      omega (arith, within, is, past)

  plan_is_held : (h : HoldsPlans job bytes plan_bytes) (fault : PlanText) (g : Network) → HasStart job bytes g → held_in g job.form plan_bytes ≡ Err fault → ⊥
  plan_is_held h fault g start refused =
      let same : h.network ≡ g = one_limited job.limit bytes h.network g h.has.start.network start.network in
      let here : held_in g job.form plan_bytes ≡ Ok h.held = subst (λ (n : Network). held_in n job.form plan_bytes ≡ Ok h.held) same h.has.is in
      Err-ne-Ok fault h.held (sym refused ∙ here)

  pub refused_holds_not : (h : HoldsPlans job bytes plan_bytes) (r : Refusal) → IsRule r → IsTextRefused job bytes plan_bytes r → ⊥
  refused_holds_not h (refusal.Instance e) rule first = refused_has_none job.limit bytes (refusal.Instance e) h.network rule first h.has.start.network
  refused_holds_not h (refusal.Limit given) rule past = refused_has_none job.limit bytes (refusal.Limit given) h.network rule past h.has.start.network
  refused_holds_not h (refusal.Charge level) rule (g, network, is, past) = charge_is_within h level g network is past
  refused_holds_not h (refusal.Plan e) rule (g, start, refused) = plan_is_held h e g start refused
  refused_holds_not h (refusal.Customers count) rule is = absurd is
  refused_holds_not h (refusal.Certificate e) rule is = absurd is
  refused_holds_not h (refusal.Route e) rule is = absurd is
  refused_holds_not h (refusal.Literal e) rule is = absurd is
  refused_holds_not h refusal.Maker rule is = absurd is

  -- a rule of the instance is broken whatever the plan holds
  early_rule : (r : Refusal) → IsNetworkRefused job.limit bytes r → IsTextRefused job bytes plan_bytes r
  early_rule (refusal.Instance e) is = is
  early_rule (refusal.Limit given) is = is
  early_rule (refusal.Customers count) is = absurd is
  early_rule (refusal.Charge level) is = absurd is
  early_rule (refusal.Route e) is = absurd is
  early_rule (refusal.Plan e) is = absurd is
  early_rule (refusal.Certificate e) is = absurd is
  early_rule (refusal.Literal e) is = absurd is
  early_rule refusal.Maker is = absurd is

  -- so is the one on the level at the start
  start_rule : (g : Network) (r : Refusal) → HasNetwork job.limit bytes g → IsStartEnded g job.form (Refused r) → IsTextRefused job bytes plan_bytes r
  start_rule g r network (level, is, starts, past) = subst (λ (x : Refusal). IsTextRefused job bytes plan_bytes x) (sym is) (g, network, starts, past)

  pub setting_rule : (r : Refusal) → IsSettingEnded job.limit job.form bytes (Refused r) → IsTextRefused job bytes plan_bytes r
  setting_rule r (inl is) = early_rule r is
  setting_rule r (inr (g, network, is)) = start_rule g r network is

  -- the first fault of a plan's text is a rule of theirs
  pub plan_rule : (g : Network) (r : Refusal) → HasStart job bytes g → IsHeldEnded g job.form plan_bytes (Refused r) → IsTextRefused job bytes plan_bytes r
  plan_rule g r start (fault, is, first) = subst (λ (x : Refusal). IsTextRefused job bytes plan_bytes x) (sym is) (g, start, first)

-- ---- of what was made

pub if_ok : {A E : Type 0} {P Q : A → Type 0} (made : Result A E) → ((value : A) → P value → Q value) → IfOk made P → IfOk made Q
if_ok {A} {E} {P} {Q} (Ok value) each is = each value is
if_ok {A} {E} {P} {Q} (Err fault) each is = tt

pub if_err : {A E : Type 0} {P Q : E → Type 0} (made : Result A E) → ((fault : E) → P fault → Q fault) → IfErr made P → IfErr made Q
if_err {A} {E} {P} {Q} (Ok value) each is = tt
if_err {A} {E} {P} {Q} (Err fault) each is = each fault is

pub fits_held : {E : Type 0} (g : Network) (form : PlanForm) (start : ℕ) (made : Result HeldPlans E) → start ≡ start_of g form → start ≤ g.capacity
    → IfOk made (λ held. held.start ≡ start) → IfOk made (λ held. HasFewRoutes held.plan) → IfOk made (FitsHeld g form)
fits_held {E} g form start (Ok held) is within starts few = record { start = starts ∙ is; within = omega (arith, starts, within); few = few }
fits_held {E} g form start (Err fault) is within starts few = tt
