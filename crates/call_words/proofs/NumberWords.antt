-- A word is read as a number exactly where it is the number's digits, by what a scan takes.
use Rattle.std.proofs.Common.{◌≡◌, ◌↔◌, ◌∙◌, ◌∷◌, ℕ, ◌≤◌, ◌+◌, List, [], ◌++◌, length, drop, Ok, Err, Some, None, nat_eq, decimal, arith, ap, refl, sym, subst, Bool, true, false}
use Rattle.std.specs.Prelude.{Result, if◌then◌else◌}
use Rattle.std.proofs.lemmas.List.{append-nil}
use Rattle.std.proofs.lemmas.Bool.Decides.{nat_tests}
use Rattle.std.proofs.Math.Seq.{drop-append_seam}
use Rattle.ev_text.specs.Numerals.{BeginsWithoutDigit}
use Rattle.ev_text.specs.Scans.{TakesNumber, past, rest_of, whole_at}
use Rattle.ev_text.specs.declared.TextFault.{TextFault}
use Rattle.call_words.specs.Numbers.{all_taken, number_of}

empty : (xs : List ℕ) → nat_eq (length xs) 0 ≡ true → xs ≡ []
empty [] e = refl
empty (x ∷ xs) e = absurd (grind (arith, nat_tests))

kept : (test : Bool) (m n : ℕ) → (if test then Some m else None) ≡ Some n → (test ≡ true) × (m ≡ n)
kept true m n is = (refl, cc)
kept false m n is = absurd (cc)

-- what is taken to the end is the whole word
taken_whole : (found : Result (ℕ × (List ℕ × ℕ)) TextFault) (n : ℕ) → all_taken found ≡ Some n
    → (after : List ℕ × ℕ) × ((found ≡ Ok (n, after)) × (rest_of after ≡ []))
taken_whole (Err fault) n is = absurd (cc)
taken_whole (Ok found) n is =
    let both = kept (nat_eq (length (rest_of found.1)) 0) found.0 n is in
    (found.1, (ap (λ (number : ℕ). let r : Result (ℕ × (List ℕ × ℕ)) TextFault = Ok (number, found.1) in r) both.1, empty (rest_of found.1) both.0))

pub one_spelling : (most : ℕ) → ((n : ℕ) (scan after : List ℕ × ℕ) → (whole_at most scan ≡ Ok (n, after)) ↔ TakesNumber most n scan after)
    → (word : List ℕ) (n : ℕ) → (number_of most word ≡ Some n) ↔ ((word ≡ decimal n) × (n ≤ most))
one_spelling most taken word n = (there, back)
  where
    there : number_of most word ≡ Some n → (word ≡ decimal n) × (n ≤ most)
    there is =
        let whole = taken_whole (whole_at most (word, 0)) n is in
        let takes : TakesNumber most n (word, 0) whole.0 = (taken n (word, 0) whole.0).0 whole.1.0 in
        (takes.number.spelled ∙ ap (λ rest. decimal n ++ rest) whole.1.1 ∙ append-nil (decimal n), takes.within)

    back : (word ≡ decimal n) × (n ≤ most) → number_of most word ≡ Some n
    back h =
        let after : List ℕ × ℕ = past (decimal n) (word, 0) in
        let is : word ≡ decimal n ++ [] = h.0 ∙ sym (append-nil (decimal n)) in
        let place : 0 + length (decimal n) ≡ length (decimal n) = omega arith in
        let ended : rest_of after ≡ [] =
        ap (λ at. drop at word) place ∙ ap (λ text. drop (length (decimal n)) text) is ∙ drop-append_seam (decimal n) [] in
        let takes : TakesNumber most n (word, 0) after = record {
          within = h.1;
          number = record {
            spelled = is ∙ ap (λ rest. decimal n ++ rest) (sym ended);
            ended = subst BeginsWithoutDigit (sym ended) tt;
          };
          moved = refl;
        } in
        ap all_taken ((taken n (word, 0) after).1 takes)
        ∙ ap (λ rest. if nat_eq (length rest) 0 then Some n else None) ended
