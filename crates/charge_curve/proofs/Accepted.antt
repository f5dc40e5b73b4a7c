-- Where no rule is broken, the breakpoints are a curve.
use Rattle.std.proofs.Common.{◌≡◌, ℕ, suc, ◌+◌, ◌-◌, ◌*◌, ◌<◌, ◌≤◌, List, [], ◌∷◌, length, get_or, Option, None, Some, refl, true, false, sym, arith, Bool, nat_lt, nat_le, nat_eq, if◌then◌else◌}
use Rattle.std.proofs.lemmas.Bool.{and_parts, eqb-true, leb-true, ltb-true, false≢true}
use Rattle.std.proofs.lemmas.Option.{none-some}
use Rattle.ev_model.specs.Curve.{BeginsEmpty, IsConcave, Rises, last_charge}
use Rattle.charge_curve.specs.CutCurve.{IsAccepted, IsSmall, most_breakpoints}
use Rattle.charge_curve.specs.declared.fault.CurveFault.{CurveFault}
use Rattle.charge_curve.specs.declared.fault.CurveFault.TheVariants.{Start, Rise, Concave, Short, TooMany}
use Rattle.charge_curve.specs.Faults.{curve_fault, end_fault, first_fall, first_faster, has_start, is_no_faster, or_concave, or_rise, rises}

pub last_charge_at : (points : List (ℕ × ℕ)) (d : ℕ × ℕ) → 0 < length points → last_charge points ≡ (get_or points (length points - 1) d).1
last_charge_at [] d some = absurd (omega (arith, some))
last_charge_at (p ∷ []) d some = refl
last_charge_at (p ∷ q ∷ ps) d some =
    let rest = last_charge_at (q ∷ ps) d (omega arith) in
    let at_end : suc (suc (length ps)) - 1 ≡ suc (suc (length ps) - 1) = omega arith in
    rw at_end rest

rises_parts : (p q : ℕ × ℕ) → rises p q ≡ true → (p.0 < q.0) × (p.1 < q.1)
rises_parts p q up =
    let parts = and_parts (nat_lt p.0 q.0) (nat_lt p.1 q.1) up in
    (ltb-true p.0 q.0 parts.0, ltb-true p.1 q.1 parts.1)

-- a choice by a test that gives nothing at false
chosen : {X : Type 0} (test : Bool) (found : Option X) (x : X) → (if test then found else Some x) ≡ None → (test ≡ true) × (found ≡ None)
chosen true found x none = (refl, none)
chosen false found x none = absurd (none-some x (sym none))

rises_from : (n : ℕ) (points : List (ℕ × ℕ)) → first_fall n points ≡ None → Rises points
rises_from n [] none = tt
rises_from n (p ∷ []) none = tt
rises_from n (p ∷ q ∷ ps) none =
    let passed = chosen (rises p q) (first_fall (n + 1) (q ∷ ps)) n none in
    let up = rises_parts p q passed.0 in
    (up.0, up.1, rises_from (n + 1) (q ∷ ps) passed.1)

concave_from : (n : ℕ) (points : List (ℕ × ℕ)) → first_faster n points ≡ None → IsConcave points
concave_from n [] none = tt
concave_from n (p ∷ []) none = tt
concave_from n (p ∷ q ∷ []) none = tt
concave_from n (p ∷ q ∷ r ∷ ps) none =
    let passed = chosen (is_no_faster p q r) (first_faster (n + 1) (q ∷ r ∷ ps)) n none in
    (leb-true ((q.0 - p.0) * (r.1 - q.1)) ((r.0 - q.0) * (q.1 - p.1)) passed.0, concave_from (n + 1) (q ∷ r ∷ ps) passed.1)

no_rise_fault : (fall : Option ℕ) (later : Option CurveFault) → or_rise fall later ≡ None → (fall ≡ None) × (later ≡ None)
no_rise_fault None later none = (refl, none)
no_rise_fault (Some index) later none = absurd (none-some (Rise index) (sym none))

no_concave_fault : (faster : Option ℕ) (later : Option CurveFault) → or_concave faster later ≡ None → (faster ≡ None) × (later ≡ None)
no_concave_fault None later none = (refl, none)
no_concave_fault (Some index) later none = absurd (none-some (Concave index) (sym none))

begins_from : (points : List (ℕ × ℕ)) → has_start points ≡ true → BeginsEmpty points
begins_from [] has = absurd (false≢true has)
begins_from (p ∷ []) has = absurd (false≢true has)
begins_from (p ∷ q ∷ ps) has =
    let parts = and_parts (nat_eq p.0 0) (nat_eq p.1 0) has in
    let time : p.0 ≡ 0 = eqb-true p.0 0 parts.0 in
    let charge : p.1 ≡ 0 = eqb-true p.1 0 parts.1 in
    rw (time, charge) refl

end_from : (full : ℕ) (points : List (ℕ × ℕ)) → end_fault full points ≡ None → (full ≤ last_charge points) × (length points ≤ most_breakpoints)
end_from full points none =
    let reached = chosen (nat_le full (last_charge points)) (if nat_le (length points) most_breakpoints then None else Some TooMany) (Short (last_charge points)) none in
    let few = chosen (nat_le (length points) most_breakpoints) None TooMany reached.1 in
    (leb-true full (last_charge points) reached.0, leb-true (length points) most_breakpoints few.0)

-- a curve of which no rule is broken
pub is_accepted : (full : ℕ) (points : List (ℕ × ℕ)) → IsSmall points full → curve_fault full points ≡ None → IsAccepted (record { points = points; full = full })
is_accepted full points small none =
    let started = chosen (has_start points) (or_rise (first_fall 1 points) (or_concave (first_faster 2 points) (end_fault full points))) Start none in
    let rising = no_rise_fault (first_fall 1 points) (or_concave (first_faster 2 points) (end_fault full points)) started.1 in
    let concave = no_concave_fault (first_faster 2 points) (end_fault full points) rising.1 in
    let ends = end_from full points concave.1 in
    record {
      curve = record { begins = begins_from points started.0; rises = rises_from 1 points rising.0; concave = concave_from 2 points concave.0; reaches = ends.0 };
      small = small;
      few = ends.1;
    }
