-- The reader of a number that has to be a given one.
use Rattle.std.proofs.Common.{◌≡◌, ◌∙◌, ℕ, ◌≤◌, Bool, true, false, List, decimal, nat_eq, Result, Ok, Err, refl, sym, ap, subst, arith, if◌then◌else◌}
use Rattle.std.proofs.lemmas.Bool.{eq-eqb, eqb-true}
use Rattle.ev_text.specs.Scans.{and_then, whole_at}
use Rattle.ev_text.specs.Texts.{IsNoEnd, IsTextOf, StandsUnlessLonger, fault_place}
use Rattle.ev_text.specs.declared.TextFault.{TextFault}
use Rattle.ev_text.specs.declared.TextFault.TheVariants.{TooLarge}
use Rattle.ev_text.proofs.Mended.{IsMended, mended-here, mended-whole}
use Rattle.ev_text.proofs.ReadingLaws.{Reads}
use Rattle.ev_text.proofs.Results.{Err-ne-Ok}
use Rattle.ev_text.proofs.Numbers.{NoDigit, ranged}
use Rattle.route_plan.specs.Limits.{greatest_number}
use Rattle.certificate_parts.specs.Reading.{node_where}

module _ (own : ℕ) (small : own ≤ greatest_number) where
  abbrev is_own : ℕ → Bool
  is_own n = nat_eq n own

  abbrev tested : List ℕ × ℕ → ℕ × (List ℕ × ℕ) → Result (ℕ × (List ℕ × ℕ)) TextFault
  tested s found = if nat_eq found.0 own then Ok found else Err (TooLarge s.1)

  abbrev Language : List ℕ → Type 0
  Language = IsTextOf (λ n. decimal n) (λ n. n ≡ own)

  own_mended : (s : List ℕ × ℕ) (fault : TextFault) → node_where is_own s ≡ Err fault → IsMended Language s fault
  own_mended s fault is = by (whole_at greatest_number s) refl is
    where
      at_test : (n : ℕ) (t : List ℕ × ℕ) (kept : Bool) → (let answer : Result (ℕ × (List ℕ × ℕ)) TextFault = if kept then Ok (n, t) else Err (TooLarge s.1) in answer) ≡ Err fault → IsMended Language s fault
      at_test n t true e = absurd (Err-ne-Ok fault (n, t) (sym e))
      at_test n t false e =
          let same : TooLarge s.1 ≡ fault = cc in
          mended-here Language s fault (decimal own) (own, refl, refl) (ap fault_place (sym same)) (λ end. absurd (end (subst IsNoEnd same tt)))

      by : (answer : Result (ℕ × (List ℕ × ℕ)) TextFault) → whole_at greatest_number s ≡ answer → and_then answer (tested s) ≡ Err fault → IsMended Language s fault
      by (Err other) found e = let same : other ≡ fault = cc in mended-whole Language s fault greatest_number (decimal own) (found ∙ ap (λ f. Err f) same) (own, refl, refl)
      by (Ok (n, t)) found e = at_test n t (nat_eq n own) e

  pub own_number : Reads StandsUnlessLonger (node_where is_own) (λ n. decimal n) (λ n. n ≡ own) (λ n. n ≡ own) NoDigit
  own_number =
      let reader = ranged greatest_number is_own (omega arith) in
      record {
        example = (own, refl);
        loose = λ n is. is;
        standing = λ s t n is. let stands = reader.standing s t n is in (eqb-true n own stands.0.1, stands.1);
        taken = λ n rest s is before e. reader.taken n rest s (subst (λ (m : ℕ). m ≤ greatest_number) (sym is) small, eq-eqb n own is) before e;
        stays = reader.stays;
        mended = λ s fault within is. own_mended s fault is;
      }
