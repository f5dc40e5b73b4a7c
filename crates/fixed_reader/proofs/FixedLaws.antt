-- Charged routes are read exactly where bytes spell them, and a fault is the first from the left.
use Rattle.std.proofs.Common.{◌≡◌, ◌∙◌, ◌↔◌, ℕ, ◌≤◌, ◌^◌, Bool, true, false, List, [], Option, Some, length, take, Result, Ok, Err, nat_lt, refl, ap, arith, if◌then◌else◌}
use Rattle.std.proofs.lemmas.Bool.{le-ltb, ltb-false}
use Rattle.ev_model.specs.Feasible.{IsFeasible}
use Rattle.ev_model.specs.Network.{IsNetwork, Network}
use Rattle.ev_model.specs.Time.{time_of}
use Rattle.ev_model.specs.declared.Stop.{Stop}
use Rattle.ev_text.specs.Readers.{whole_with}
use Rattle.ev_text.specs.Texts.{IsNoEnd, fault_place}
use Rattle.ev_text.specs.declared.TextFault.{TextFault}
use Rattle.ev_text.specs.declared.TextFault.TheVariants.{End}
use Rattle.ev_text.proofs.WholeLaws.{whole-cut, whole-spells, whole-wrong}
use Rattle.ev_text.proofs.Results.{Ok-injective}
use Rattle.report_lines.specs.FixedText.{fixed_text}
use Rattle.route_plan.proofs.PlanRanges.{feasible_fits}
use Rattle.route_plan.specs.Limits.{most_bytes}
use Rattle.route_plan.specs.PlanReading.{or_bad, unless_too_long}
use Rattle.route_plan.specs.PlanTexts.{FitsText}
use Rattle.route_plan.specs.declared.text.plan_text.PlanText.TheVariants.{Bad, TooLong}
use Rattle.fixed_reader.specs.FixedReading.{fixed_at, fixed_in}
use Rattle.fixed_reader.specs.Spelled.{BeginsFixed, FitsFixed, SpellsFixed}
use Rattle.fixed_reader.proofs.FixedReaders.{reads-fixed}

-- the value of a text that is not too long
value_within : {A : Type 0} (bytes : List ℕ) (found : Result A TextFault) (value : A) → (unless_too_long bytes found ≡ Ok value) ↔ ((length bytes ≤ most_bytes) × (found ≡ Ok value))
value_within {A} bytes found value = (by (nat_lt most_bytes (length bytes)) found refl, λ h. since h.0 h.1)
  where
    by : (long : Bool) (found : Result A TextFault) → nat_lt most_bytes (length bytes) ≡ long → (if long then Err (TooLong (length bytes)) else or_bad found) ≡ Ok value → (length bytes ≤ most_bytes) × (found ≡ Ok value)
    by true found long is = absurd (cc)
    by false (Ok own) long is = (omega (arith, ltb-false most_bytes (length bytes) long), ap (λ v. Ok v) (Ok-injective own value is))
    by false (Err other) long is = absurd (cc)

    since : length bytes ≤ most_bytes → found ≡ Ok value → unless_too_long bytes found ≡ Ok value
    since le is = ap (λ (b : Bool). if b then Err (TooLong (length bytes)) else or_bad found) (le-ltb most_bytes (length bytes) le) ∙ ap or_bad is

-- and its fault
fault_inside : {A : Type 0} (bytes : List ℕ) (found : Result A TextFault) (fault : TextFault) → unless_too_long bytes found ≡ Err (Bad fault) → found ≡ Err fault
fault_inside {A} bytes found fault = by (nat_lt most_bytes (length bytes)) found
  where
    by : (long : Bool) (found : Result A TextFault) → (if long then Err (TooLong (length bytes)) else or_bad found) ≡ Err (Bad fault) → found ≡ Err fault
    by true found is = absurd (cc)
    by false (Ok value) is = absurd (cc)
    by false (Err other) is = let same : other ≡ fault = cc in ap (λ f. Err f) same

pub fixed_is_spelled : (d : ℕ) (bytes : List ℕ) (plan : Option (List Stop × ℕ)) → (fixed_in d bytes ≡ Ok plan) ↔ SpellsFixed d bytes plan
fixed_is_spelled d bytes plan =
    let whole = whole-spells (fixed_at d) (fixed_text d) FitsFixed (λ plan rest. rest ≡ []) (reads-fixed d) (λ plan fits. refl) bytes plan in (
      λ is. let found = (value_within bytes (whole_with (fixed_at d) bytes) plan).0 is in let parts = whole.0 found.1 in record { within = found.0; fits = parts.0; text = parts.1 },
      λ spells. (value_within bytes (whole_with (fixed_at d) bytes) plan).1 (spells.within, whole.1 (spells.fits, spells.text)),
    )

pub fixed_ends_too_early : (d : ℕ) (bytes : List ℕ) (at : ℕ) → fixed_in d bytes ≡ Err (Bad (End at)) → BeginsFixed d bytes × (at ≤ length bytes)
fixed_ends_too_early d bytes at is =
    whole-cut (fixed_at d) (fixed_text d) FitsFixed (λ plan rest. rest ≡ []) (reads-fixed d) (λ plan fits. refl) bytes at (fault_inside bytes (whole_with (fixed_at d) bytes) (End at) is)

pub fixed_is_wrong : (d : ℕ) (bytes : List ℕ) (fault : TextFault) → fixed_in d bytes ≡ Err (Bad fault) → IsNoEnd fault → (BeginsFixed d bytes → ⊥) × BeginsFixed d (take (fault_place fault) bytes) × (fault_place fault ≤ length bytes)
fixed_is_wrong d bytes fault is no_end =
    whole-wrong (fixed_at d) (fixed_text d) FitsFixed (λ plan rest. rest ≡ []) (reads-fixed d) (λ plan fits. refl) bytes fault (fault_inside bytes (whole_with (fixed_at d) bytes) fault is) no_end

-- what is put of a plan that can be driven
pub put_is_read : (g : Network) (start : ℕ) (stops : List Stop) → IsNetwork g → IsFeasible g 1 start stops → length (fixed_text g.denominator (Some (stops, time_of g 1 start stops))) ≤ most_bytes
    → fixed_in g.denominator (fixed_text g.denominator (Some (stops, time_of g 1 start stops))) ≡ Ok (Some (stops, time_of g 1 start stops))
put_is_read g start stops network feasible short =
    let fits : FitsText stops = feasible_fits g start stops network feasible in
    let in_time : time_of g 1 start stops ≤ 10 ^ 18 = omega (arith, feasible.in_time, network.small_limit) in
    (fixed_is_spelled g.denominator (fixed_text g.denominator (Some (stops, time_of g 1 start stops))) (Some (stops, time_of g 1 start stops))).1
    (record { within = short; fits = (fits.small, in_time); text = refl })
