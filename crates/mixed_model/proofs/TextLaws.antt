-- Plans are read exactly where bytes spell them, and a fault is the first from the left.
use Rattle.std.proofs.Common.{◌≡◌, ◌↔◌, ◌∙◌, ℕ, ◌≤◌, Bool, true, false, List, Option, length, take, Result, Ok, Err, nat_lt, refl, ap, arith, if◌then◌else◌}
use Rattle.std.proofs.lemmas.Bool.{le-ltb, ltb-false}
use Rattle.ev_text.specs.Readers.{whole_with}
use Rattle.ev_text.specs.Texts.{IsNoEnd, fault_place}
use Rattle.ev_text.specs.declared.TextFault.{TextFault}
use Rattle.ev_text.specs.declared.TextFault.TheVariants.{End}
use Rattle.ev_text.proofs.Results.{Ok-injective}
use Rattle.ev_text.proofs.WholeLaws.{whole-cut, whole-spells, whole-wrong}
use Rattle.route_plan.specs.Limits.{most_bytes}
use Rattle.route_plan.specs.PlanReading.{or_bad, unless_too_long}
use Rattle.route_plan.specs.declared.text.plan_text.PlanText.TheVariants.{Bad, TooLong}
use Rattle.route_plan.proofs.PlanReaders.{AnyBehind}
use Rattle.mixed_model.specs.Kinds.{most_kinds}
use Rattle.mixed_model.specs.declared.proof.MixedRoute.{MixedRoute}
use Rattle.mixed_model.specs.MixedReading.{mixed_file_at, mixed_plan_in}
use Rattle.mixed_model.specs.MixedTexts.{BeginsMixedPlan, FitsMixedPlan, SpellsMixedPlan, mixed_plan_text}
use Rattle.mixed_model.proofs.FileReaders.{reader-file}

-- a value is that of a text that is not too long
value_is : {A : Type 0} (bytes : List ℕ) (value : A) (long : Bool) (found : Result A TextFault) → nat_lt most_bytes (length bytes) ≡ long → (if long then Err (TooLong (length bytes)) else or_bad found) ≡ Ok value →
    (length bytes ≤ most_bytes) × (found ≡ Ok value)
value_is bytes value true found long is = absurd (cc)
value_is bytes value false (Ok own) long is = (omega (arith, ltb-false most_bytes (length bytes) long), ap (λ v. Ok v) (Ok-injective own value is))
value_is bytes value false (Err fault) long is = absurd (cc)

is_value : {A : Type 0} (bytes : List ℕ) (found : Result A TextFault) (value : A) → length bytes ≤ most_bytes → found ≡ Ok value → unless_too_long bytes found ≡ Ok value
is_value bytes found value le is = ap (λ (b : Bool). if b then Err (TooLong (length bytes)) else or_bad found) (le-ltb most_bytes (length bytes) le) ∙ ap or_bad is

-- a bad place is a fault of the text
fault_is : {A : Type 0} (bytes : List ℕ) (fault : TextFault) (long : Bool) (found : Result A TextFault) → (if long then Err (TooLong (length bytes)) else or_bad found) ≡ Err (Bad fault) → found ≡ Err fault
fault_is bytes fault true found is = absurd (cc)
fault_is bytes fault false (Ok value) is = absurd (cc)
fault_is bytes fault false (Err other) is = let same : other ≡ fault = cc in ap (λ f. Err f) same

module _ (kinds : ℕ) (some : 1 ≤ kinds) (few : kinds ≤ most_kinds) (bytes : List ℕ) where
  pub plan_is_spelled : (plan : Option (List MixedRoute)) → (mixed_plan_in kinds bytes ≡ Ok plan) ↔ SpellsMixedPlan kinds bytes plan
  plan_is_spelled plan =
      let whole = whole-spells (mixed_file_at kinds) mixed_plan_text (FitsMixedPlan kinds) AnyBehind (reader-file kinds some few) (λ plan fits. tt) bytes plan in (
        λ is.
            let read = value_is bytes plan (nat_lt most_bytes (length bytes)) (whole_with (mixed_file_at kinds) bytes) refl is in
            let parts = whole.0 read.1 in
            record { within = read.0; fits = parts.0; text = parts.1 },
        λ spells. is_value bytes (whole_with (mixed_file_at kinds) bytes) plan spells.within (whole.1 (spells.fits, spells.text)),
      )

  pub ends_too_early : (at : ℕ) → mixed_plan_in kinds bytes ≡ Err (Bad (End at)) → BeginsMixedPlan kinds bytes × (at ≤ length bytes)
  ends_too_early at is =
      whole-cut (mixed_file_at kinds) mixed_plan_text (FitsMixedPlan kinds) AnyBehind (reader-file kinds some few) (λ plan fits. tt) bytes at
      (fault_is bytes (End at) (nat_lt most_bytes (length bytes)) (whole_with (mixed_file_at kinds) bytes) is)

  pub is_wrong : (fault : TextFault) → mixed_plan_in kinds bytes ≡ Err (Bad fault) → IsNoEnd fault → (BeginsMixedPlan kinds bytes → ⊥) × BeginsMixedPlan kinds (take (fault_place fault) bytes) × (fault_place fault ≤ length bytes)
  is_wrong fault is no_end =
      whole-wrong (mixed_file_at kinds) mixed_plan_text (FitsMixedPlan kinds) AnyBehind (reader-file kinds some few) (λ plan fits. tt) bytes fault
      (fault_is bytes fault (nat_lt most_bytes (length bytes)) (whole_with (mixed_file_at kinds) bytes) is) no_end
