-- Reading lines up to the end of the text: those so far, in front of those that are read from here on, are what is read in all.
use Rattle.std.proofs.Common.{◌≡◌, ◌∙◌, ℕ, zero, suc, ◌<◌, IsTrue, false, List, [], ◌∷◌, ◌++◌, length, length-drop, nat_eq, Ok, Err, refl, sym, ap, append-nil, arith}
use Rattle.std.proofs.lemmas.Bool.{false≢true, ne_eqb}
use Rattle.ev_model.specs.declared.Stop.{Stop}
use Rattle.ev_text.specs.Scans.{and_then, rest_of}
use Rattle.ev_text.specs.declared.TextFault.{TextFault}
use Rattle.ev_text.proofs.Loops.{in_front, in_front-none, in_front-twice}
use Rattle.report_lines.specs.FixedText.{stop_line}
use Rattle.route_plan.specs.PlanTexts.{IsSmallStop}
use Rattle.fixed_reader.specs.FixedReading.{each_to_end, few_to_end, line_at}
use Rattle.fixed_reader.proofs.FixedReaders.{has_word, reads-stop}
use Rattle.fixed_reader.proofs.ToEnd.{shorter}

abbrev pub AreReadTo : List ℕ × ℕ → List Stop → List ℕ × ℕ → Type 0
AreReadTo start stops s = (most : ℕ) × (length (rest_of s) < most) × (in_front stops (few_to_end line_at most s) ≡ each_to_end line_at start)

pub begins_lines : (start : List ℕ × ℕ) (stops : List Stop) → stops ≡ [] → AreReadTo start stops start
begins_lines start stops none =
    (suc (length start.0), omega (arith, length-drop start.1 start.0), ap (λ xs. in_front xs (each_to_end line_at start)) none ∙ in_front-none (each_to_end line_at start))

pub shorter_line : (s u : List ℕ × ℕ) (stop : Stop) → line_at s ≡ Ok (stop, u) → length (rest_of u) < length (rest_of s)
shorter_line s u stop found = shorter line_at stop_line IsSmallStop reads-stop has_word s u stop found

-- where something is left, a line and those behind it are next
next : (most : ℕ) (s : List ℕ × ℕ) → length (rest_of s) < most → 0 < length (rest_of s)
    → (fewer : ℕ) × (most ≡ suc fewer) × (few_to_end line_at most s ≡ and_then (line_at s) (λ item. in_front (item.0 ∷ []) (few_to_end line_at fewer item.1)))
next zero s lt some = absurd (omega (arith, lt))
next (suc most) s lt some =
    let test : nat_eq (length (rest_of s)) 0 ≡ false = ne_eqb (length (rest_of s)) 0 (λ none. absurd (omega (arith, none, some))) in
    (most, refl, rw test refl)

pub next_line : (start s u : List ℕ × ℕ) (stops more : List Stop) (stop : Stop) → AreReadTo start stops s → 0 < length (rest_of s) → line_at s ≡ Ok (stop, u) → more ≡ stops ++ stop ∷ [] → AreReadTo start more u
next_line start s u stops more stop (most, lt, is) some found more_is =
    let after = next most s lt some in
    let fewer = after.0 in
    let step : few_to_end line_at most s ≡ in_front (stop ∷ []) (few_to_end line_at fewer u) = after.2 ∙ ap (λ r. and_then r (λ item. in_front (item.0 ∷ []) (few_to_end line_at fewer item.1))) found in (
      fewer,
      omega (arith, lt, after.1, shorter_line s u stop found),
      ap (λ xs. in_front xs (few_to_end line_at fewer u)) more_is ∙ sym (in_front-twice stops stop (few_to_end line_at fewer u)) ∙ ap (λ r. in_front stops r) (sym step) ∙ is,
    )

pub no_line : (start s : List ℕ × ℕ) (stops : List Stop) (fault : TextFault) → AreReadTo start stops s → 0 < length (rest_of s) → line_at s ≡ Err fault → each_to_end line_at start ≡ Err fault
no_line start s stops fault (most, lt, is) some found =
    let after = next most s lt some in
    sym is ∙ ap (λ r. in_front stops r) (after.2 ∙ ap (λ r. and_then r (λ item. in_front (item.0 ∷ []) (few_to_end line_at after.0 item.1))) found)

pub ends_lines : (start s : List ℕ × ℕ) (stops : List Stop) → AreReadTo start stops s → rest_of s ≡ [] → each_to_end line_at start ≡ Ok (stops, s)
ends_lines start s stops (zero, lt, is) none = absurd (omega (arith, lt))
ends_lines start s stops (suc most, lt, is) none =
    let last : few_to_end line_at (suc most) s ≡ Ok ([], s) = rw none refl in
    sym is ∙ ap (λ r. in_front stops r) last ∙ ap (λ (xs : List Stop). Ok (xs, s)) (append-nil stops)

-- where the text doesn't end, something is left
pub something_left : (xs : List ℕ) → (xs ≡ [] → IsTrue false) → 0 < length xs
something_left [] some = absurd (false≢true (some refl))
something_left (x ∷ xs) some = omega arith
