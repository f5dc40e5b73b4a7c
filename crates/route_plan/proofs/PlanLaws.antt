-- Plans and files are read exactly where bytes spell them, and a fault is the first from the left.
use Rattle.std.proofs.Common.{◌≡◌, ◌∙◌, ◌↔◌, ℕ, ◌<◌, ◌≤◌, Bool, true, false, List, Option, length, take, Result, Ok, Err, nat_lt, refl, sym, ap, arith, if◌then◌else◌}
use Rattle.std.proofs.lemmas.Bool.{le-ltb, lt-ltb, ltb-false, ltb-true}
use Rattle.ev_model.specs.declared.Stop.{Stop}
use Rattle.ev_text.specs.Readers.{whole_with}
use Rattle.ev_text.specs.Texts.{IsNoEnd, fault_place}
use Rattle.ev_text.specs.declared.TextFault.{TextFault}
use Rattle.ev_text.specs.declared.TextFault.TheVariants.{End}
use Rattle.ev_text.proofs.WholeLaws.{whole-cut, whole-spells, whole-wrong}
use Rattle.ev_text.proofs.Results.{Ok-injective}
use Rattle.route_plan.specs.Limits.{most_bytes}
use Rattle.route_plan.specs.PlanReading.{file_at, fleet_plan_in, or_bad, plan_at, plan_in, unless_too_long}
use Rattle.route_plan.specs.PlanTexts.{BeginsFile, BeginsPlan, FitsFile, FitsText, SpellsFleetPlan, SpellsPlan, fleet_plan_text, plan_text}
use Rattle.route_plan.specs.declared.plan.FleetPlan.{FleetPlan}
use Rattle.route_plan.specs.declared.text.plan_text.PlanText.TheVariants.{Bad, TooLong}
use Rattle.route_plan.proofs.PlanReaders.{AnyBehind, reader-file, reader-plan}

-- the value of a text that is not too long
value_within : {A : Type 0} (bytes : List ℕ) (found : Result A TextFault) (value : A) → (unless_too_long bytes found ≡ Ok value) ↔ ((length bytes ≤ most_bytes) × (found ≡ Ok value))
value_within {A} bytes found value = (by (nat_lt most_bytes (length bytes)) found refl, λ h. since h.0 h.1)
  where
    by : (long : Bool) (found : Result A TextFault) → nat_lt most_bytes (length bytes) ≡ long → (if long then Err (TooLong (length bytes)) else or_bad found) ≡ Ok value → (length bytes ≤ most_bytes) × (found ≡ Ok value)
    by true found long is = absurd (cc)
    by false (Ok own) long is = (omega (arith, ltb-false most_bytes (length bytes) long), ap (λ v. Ok v) (Ok-injective own value is))
    by false (Err other) long is = absurd (cc)

    since : length bytes ≤ most_bytes → found ≡ Ok value → unless_too_long bytes found ≡ Ok value
    since le is = ap (λ (b : Bool). if b then Err (TooLong (length bytes)) else or_bad found) (le-ltb most_bytes (length bytes) le) ∙ ap or_bad is

-- and its fault
fault_inside : {A : Type 0} (bytes : List ℕ) (found : Result A TextFault) (fault : TextFault) → unless_too_long bytes found ≡ Err (Bad fault) → found ≡ Err fault
fault_inside {A} bytes found fault = by (nat_lt most_bytes (length bytes)) found
  where
    by : (long : Bool) (found : Result A TextFault) → (if long then Err (TooLong (length bytes)) else or_bad found) ≡ Err (Bad fault) → found ≡ Err fault
    by true found is = absurd (cc)
    by false (Ok value) is = absurd (cc)
    by false (Err other) is = let same : other ≡ fault = cc in ap (λ f. Err f) same

pub too_long : {A : Type 0} (bytes : List ℕ) (found : Result A TextFault) (len : ℕ) → (unless_too_long bytes found ≡ Err (TooLong len)) ↔ ((most_bytes < length bytes) × (len ≡ length bytes))
too_long {A} bytes found len = (by (nat_lt most_bytes (length bytes)) found refl, λ h. since h.0 h.1)
  where
    by : (long : Bool) (found : Result A TextFault) → nat_lt most_bytes (length bytes) ≡ long → (if long then Err (TooLong (length bytes)) else or_bad found) ≡ Err (TooLong len) → (most_bytes < length bytes) × (len ≡ length bytes)
    by true found long is = (ltb-true most_bytes (length bytes) long, cc)
    by false (Ok value) long is = absurd (cc)
    by false (Err other) long is = absurd (cc)

    since : most_bytes < length bytes → len ≡ length bytes → unless_too_long bytes found ≡ Err (TooLong len)
    since long same = ap (λ (b : Bool). if b then Err (TooLong (length bytes)) else or_bad found) (lt-ltb most_bytes (length bytes) long) ∙ ap (λ n. Err (TooLong n)) (sym same)

pub plan_is_spelled : (bytes : List ℕ) (stops : List Stop) → (plan_in bytes ≡ Ok stops) ↔ SpellsPlan bytes stops
plan_is_spelled bytes stops =
    let whole = whole-spells plan_at plan_text FitsText AnyBehind reader-plan (λ stops fits. tt) bytes stops in (
      λ is. let found = (value_within bytes (whole_with plan_at bytes) stops).0 is in let parts = whole.0 found.1 in record { within = found.0; fits = parts.0; text = parts.1 },
      λ spells. (value_within bytes (whole_with plan_at bytes) stops).1 (spells.within, whole.1 (spells.fits, spells.text)),
    )

pub fleet_plan_is_spelled : (bytes : List ℕ) (plan : Option FleetPlan) → (fleet_plan_in bytes ≡ Ok plan) ↔ SpellsFleetPlan bytes plan
fleet_plan_is_spelled bytes plan =
    let whole = whole-spells file_at fleet_plan_text FitsFile AnyBehind reader-file (λ plan fits. tt) bytes plan in (
      λ is. let found = (value_within bytes (whole_with file_at bytes) plan).0 is in let parts = whole.0 found.1 in record { within = found.0; fits = parts.0; text = parts.1 },
      λ spells. (value_within bytes (whole_with file_at bytes) plan).1 (spells.within, whole.1 (spells.fits, spells.text)),
    )

pub plan_ends_too_early : (bytes : List ℕ) (at : ℕ) → plan_in bytes ≡ Err (Bad (End at)) → BeginsPlan bytes × (at ≤ length bytes)
plan_ends_too_early bytes at is = whole-cut plan_at plan_text FitsText AnyBehind reader-plan (λ stops fits. tt) bytes at (fault_inside bytes (whole_with plan_at bytes) (End at) is)

pub plan_is_wrong : (bytes : List ℕ) (fault : TextFault) → plan_in bytes ≡ Err (Bad fault) → IsNoEnd fault → (BeginsPlan bytes → ⊥) × BeginsPlan (take (fault_place fault) bytes) × (fault_place fault ≤ length bytes)
plan_is_wrong bytes fault is no_end = whole-wrong plan_at plan_text FitsText AnyBehind reader-plan (λ stops fits. tt) bytes fault (fault_inside bytes (whole_with plan_at bytes) fault is) no_end

pub file_ends_too_early : (bytes : List ℕ) (at : ℕ) → fleet_plan_in bytes ≡ Err (Bad (End at)) → BeginsFile bytes × (at ≤ length bytes)
file_ends_too_early bytes at is = whole-cut file_at fleet_plan_text FitsFile AnyBehind reader-file (λ plan fits. tt) bytes at (fault_inside bytes (whole_with file_at bytes) (End at) is)

pub file_is_wrong : (bytes : List ℕ) (fault : TextFault) → fleet_plan_in bytes ≡ Err (Bad fault) → IsNoEnd fault → (BeginsFile bytes → ⊥) × BeginsFile (take (fault_place fault) bytes) × (fault_place fault ≤ length bytes)
file_is_wrong bytes fault is no_end = whole-wrong file_at fleet_plan_text FitsFile AnyBehind reader-file (λ plan fits. tt) bytes fault (fault_inside bytes (whole_with file_at bytes) fault is) no_end
