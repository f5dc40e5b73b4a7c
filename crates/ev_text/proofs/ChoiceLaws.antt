-- What readers of words that may be missing owe.
use Rattle.std.proofs.Common.{◌≡◌, ◌≢◌, ◌∙◌, ℕ, Bool, true, false, List, [], ◌∷◌, ◌++◌, Result, Ok, Err, nat_eq, refl, sym, ap, subst, append-nil}
use Rattle.std.proofs.lemmas.Bool.{eqb-false, eqb-true}
use Rattle.ev_text.specs.Readers.{choice_at, if_taken, optional_at, unless_cut}
use Rattle.ev_text.specs.Scans.{past, rest_of, word_at, IsPrefixOf, IsProperPrefix}
use Rattle.ev_text.specs.Texts.{IsTextOf, optional_text}
use Rattle.ev_text.specs.declared.TextFault.{TextFault}
use Rattle.ev_text.specs.declared.TextFault.TheVariants.{End, NotWhole, TooLarge, Word}
use Rattle.ev_text.proofs.Grown.{Keeps, Within, grown, keeps-ok, no_list_is_shorter, past_within, rest_of-grown, word_at-grown}
use Rattle.ev_text.proofs.Mended.{IsMended, mended-word}
use Rattle.ev_text.proofs.ReaderLaws.{IsReader}
use Rattle.ev_text.proofs.Readings.{TakesWord-from_word_at, word_at-at_end, word_at-differs, word_at-other_byte, word_read}
use Rattle.ev_text.proofs.Results.{Err-ne-Ok, Ok-injective}
use Rattle.ev_text.proofs.ReadingLaws.{Takes}

-- a word that may stand there, by whether it was taken
pub optional_taken : (word : List ℕ) (s t : List ℕ × ℕ) → optional_at word s ≡ Ok (true, t) → (rest_of s ≡ word ++ rest_of t) × (t ≡ past word s)
optional_taken word s t = by (word_at word s) refl
  where
    by : (r : Result (List ℕ × ℕ) TextFault) → word_at word s ≡ r → if_taken s r ≡ Ok (true, t) → (rest_of s ≡ word ++ rest_of t) × (t ≡ past word s)
    by (Ok u) is same =
        let place : u ≡ t = ap (λ (p : Bool × (List ℕ × ℕ)). p.1) (Ok-injective (true, u) (true, t) same) in
        let takes = TakesWord-from_word_at word s t (is ∙ ap (λ (v : List ℕ × ℕ). Ok v) place) in
        (takes.standing, takes.moved)
    by (Err fault) is same = absurd (let untrue : false ≡ true = ap (λ (p : Bool × (List ℕ × ℕ)). p.0) (Ok-injective (false, s) (true, t) same) in cc)

pub optional_left : (word : List ℕ) (s t : List ℕ × ℕ) → optional_at word s ≡ Ok (false, t) → t ≡ s
optional_left word s t = by (word_at word s)
  where
    by : (r : Result (List ℕ × ℕ) TextFault) → if_taken s r ≡ Ok (false, t) → t ≡ s
    by (Ok u) same = absurd (let untrue : true ≡ false = ap (λ (p : Bool × (List ℕ × ℕ)). p.0) (Ok-injective (true, u) (false, t) same) in cc)
    by (Err fault) same = sym (ap (λ (p : Bool × (List ℕ × ℕ)). p.1) (Ok-injective (false, s) (false, t) same))

pub optional_never_fails : (word : List ℕ) (s : List ℕ × ℕ) (fault : TextFault) → optional_at word s ≡ Err fault → ⊥
optional_never_fails word s fault = by (word_at word s)
  where
    by : (r : Result (List ℕ × ℕ) TextFault) → if_taken s r ≡ Err fault → ⊥
    by (Ok u) same = Err-ne-Ok fault (true, u) (sym same)
    by (Err other) same = Err-ne-Ok fault (false, s) (sym same)

-- and by whether it does
pub optional_stands : (word rest : List ℕ) (s : List ℕ × ℕ) → rest_of s ≡ word ++ rest → optional_at word s ≡ Ok (true, past word s)
optional_stands word rest s e = ap (λ r. if_taken s r) (word_read word rest s e).0

pub optional_is_none : (b c : ℕ) (word rest : List ℕ) (s : List ℕ × ℕ) → rest_of s ≡ c ∷ rest → c ≢ b → optional_at (b ∷ word) s ≡ Ok (false, s)
optional_is_none b c word rest s e other = ap (λ r. if_taken s r) (word_at-other_byte b c word rest s e other)

pub optional_at_end : (b : ℕ) (word : List ℕ) (s : List ℕ × ℕ) → rest_of s ≡ [] → optional_at (b ∷ word) s ≡ Ok (false, s)
optional_at_end b word s none = ap (λ r. if_taken s r) (word_at-at_end b word s none)

-- the text doesn't begin with this byte
abbrev pub BeginsOtherwise : ℕ → List ℕ → Type 0
BeginsOtherwise b [] = Unit {0}
BeginsOtherwise b (c ∷ cs) = c ≢ b

pub optional_is_left : (b : ℕ) (word rest : List ℕ) (s : List ℕ × ℕ) → rest_of s ≡ rest → BeginsOtherwise b rest → optional_at (b ∷ word) s ≡ Ok (false, s)
optional_is_left b word [] s e other = optional_at_end b word s e
optional_is_left b word (c ∷ cs) s e other = optional_is_none b c word cs s e other

-- a byte that may be missing, in a text that goes on
pub keeps-optional : (b : ℕ) (more : List ℕ) (s : List ℕ × ℕ) → Within s → Keeps more s (optional_at (b ∷ []) s) (optional_at (b ∷ []) (grown more s))
keeps-optional b more s within = by (rest_of s) refl
  where
    both : (here later : Result (Bool × (List ℕ × ℕ)) TextFault) → optional_at (b ∷ []) s ≡ here → optional_at (b ∷ []) (grown more s) ≡ later → Keeps more s here later
        → Keeps more s (optional_at (b ∷ []) s) (optional_at (b ∷ []) (grown more s))
    both here later here_is later_is keeps =
        subst (λ (r : Result (Bool × (List ℕ × ℕ)) TextFault). Keeps more s (optional_at (b ∷ []) s) r) (sym later_is)
        (subst (λ (r : Result (Bool × (List ℕ × ℕ)) TextFault). Keeps more s r later) (sym here_is) keeps)

    by : (rest : List ℕ) → rest_of s ≡ rest → Keeps more s (optional_at (b ∷ []) s) (optional_at (b ∷ []) (grown more s))
    by [] e = both (Ok (false, s)) (optional_at (b ∷ []) (grown more s)) (optional_at_end b [] s e) refl (refl, within, λ none. none, λ some. absurd (some e))
    by (c ∷ cs) e = by_first (nat_eq c b) refl
      where
        longer : rest_of (grown more s) ≡ c ∷ (cs ++ more)
        longer = rest_of-grown more s within ∙ ap (λ xs. xs ++ more) e

        by_first : (same : Bool) → nat_eq c b ≡ same → Keeps more s (optional_at (b ∷ []) s) (optional_at (b ∷ []) (grown more s))
        by_first true is =
            let t = past (b ∷ []) s in
            let first = eqb-true c b is in
            both (Ok (true, t)) (Ok (true, grown more t)) (optional_stands (b ∷ []) cs s (e ∙ ap (λ x. x ∷ cs) first)) (optional_stands (b ∷ []) (cs ++ more) (grown more s) (longer ∙ ap (λ x. x ∷ (cs ++ more)) first))
            (refl, past_within (b ∷ []) cs s within (e ∙ ap (λ x. x ∷ cs) first), λ none. absurd (no_list_is_shorter c [] cs (sym e ∙ none)), λ some. refl)
        by_first false is =
            let other = eqb-false c b is in
            both (Ok (false, s)) (Ok (false, grown more s)) (optional_is_none b c [] cs s e other) (optional_is_none b c [] (cs ++ more) (grown more s) longer other) (keeps-ok more s false within)

abbrev pub BeforeOptional : ℕ → Bool → List ℕ → Type 0
BeforeOptional b true rest = Unit {0}
BeforeOptional b false rest = BeginsOtherwise b rest

-- a byte that may be missing
pub reader-optional : (b : ℕ) → IsReader (optional_at (b ∷ [])) (optional_text (b ∷ [])) (λ stands. Unit {0}) (BeforeOptional b)
reader-optional b = record {
  example = (true, tt);
  loose = λ stands any. any;
  standing = stood;
  taken = takes;
  stays = λ more s within. keeps-optional b more s within;
  mended = λ s fault within is. absurd (optional_never_fails (b ∷ []) s fault is);
}
  where
    stood : (s t : List ℕ × ℕ) (stands : Bool) → optional_at (b ∷ []) s ≡ Ok (stands, t) → Unit {0} × (rest_of s ≡ optional_text (b ∷ []) stands ++ rest_of t)
    stood s t true is = (tt, (optional_taken (b ∷ []) s t is).0)
    stood s t false is = (tt, ap rest_of (sym (optional_left (b ∷ []) s t is)))

    takes : (stands : Bool) (rest : List ℕ) (s : List ℕ × ℕ) → Unit {0} → BeforeOptional b stands rest → rest_of s ≡ optional_text (b ∷ []) stands ++ rest → Takes (optional_at (b ∷ []) s) stands rest
    takes true rest s fits before e = let word = word_read (b ∷ []) rest s e in record { after = past (b ∷ []) s; is = optional_stands (b ∷ []) rest s e; left = word.1 }
    takes false rest s fits before e = record { after = s; is = optional_is_left b [] rest s e before; left = e }

-- a word in whose place another may stand
abbrev pub BeforeChoice : List ℕ → Bool → List ℕ → Type 0
BeforeChoice word true rest = Unit {0}
BeforeChoice word false rest = ¬ (IsPrefixOf word rest) × ¬ (IsProperPrefix rest word)

-- a text that begins with another byte than the word
pub other_word : (b c : ℕ) (word rest : List ℕ) → c ≢ b → BeforeChoice (b ∷ word) false (c ∷ rest)
other_word b c word rest other = (λ h. other (first_byte h.1), λ h. other (sym (first_byte h.1)))
  where
    first_byte : {x y : ℕ} {xs ys : List ℕ} → x ∷ xs ≡ y ∷ ys → x ≡ y
    first_byte same = cc

pub reader-choice : (b : ℕ) (bs : List ℕ) → IsReader (choice_at (b ∷ bs)) (optional_text (b ∷ bs)) (λ stands. Unit {0}) (BeforeChoice (b ∷ bs))
reader-choice b bs = record {
  example = (true, tt);
  loose = λ stands any. any;
  standing = λ s t stands is. stood s t stands (word_at word s) refl is;
  taken = takes;
  stays = λ more s within.
      word_at-grown b bs more s (λ here later. Keeps more s (unless_cut s here) (unless_cut (grown more s) later)) within
      (λ t inside moved some. (ap (λ (u : List ℕ × ℕ). u.0) moved, inside, λ none. absurd (some none), λ left. refl))
      (λ later short. (λ none no_end. no_end, λ no_end always. absurd no_end))
      (λ some. keeps-ok more s false within);
  mended = λ s fault within is. cut s fault (word_at word s) refl is;
}
  where
    word : List ℕ
    word = b ∷ bs

    stood : (s t : List ℕ × ℕ) (stands : Bool) (r : Result (List ℕ × ℕ) TextFault) → word_at (b ∷ bs) s ≡ r → unless_cut s r ≡ Ok (stands, t) → Unit {0} × (rest_of s ≡ optional_text (b ∷ bs) stands ++ rest_of t)
    stood s t stands (Ok u) is same =
        subst (λ (p : Bool × (List ℕ × ℕ)). Unit {0} × (rest_of s ≡ optional_text (b ∷ bs) p.0 ++ rest_of p.1)) (Ok-injective (true, u) (stands, t) same) (tt, (TakesWord-from_word_at (b ∷ bs) s u is).standing)
    stood s t stands (Err (End at)) is same = absurd (Err-ne-Ok (End at) (stands, t) same)
    stood s t stands (Err (NotWhole at)) is same = subst (λ (p : Bool × (List ℕ × ℕ)). Unit {0} × (rest_of s ≡ optional_text (b ∷ bs) p.0 ++ rest_of p.1)) (Ok-injective (false, s) (stands, t) same) (tt, refl)
    stood s t stands (Err (TooLarge at)) is same = subst (λ (p : Bool × (List ℕ × ℕ)). Unit {0} × (rest_of s ≡ optional_text (b ∷ bs) p.0 ++ rest_of p.1)) (Ok-injective (false, s) (stands, t) same) (tt, refl)
    stood s t stands (Err (Word at)) is same = subst (λ (p : Bool × (List ℕ × ℕ)). Unit {0} × (rest_of s ≡ optional_text (b ∷ bs) p.0 ++ rest_of p.1)) (Ok-injective (false, s) (stands, t) same) (tt, refl)

    takes : (stands : Bool) (rest : List ℕ) (s : List ℕ × ℕ) → Unit {0} → BeforeChoice (b ∷ bs) stands rest → rest_of s ≡ optional_text (b ∷ bs) stands ++ rest → Takes (choice_at (b ∷ bs) s) stands rest
    takes true rest s fits before e = let found = word_read (b ∷ bs) rest s e in record { after = past (b ∷ bs) s; is = ap (λ r. unless_cut s r) found.0; left = found.1 }
    takes false rest s fits before e =
        let differs : word_at (b ∷ bs) s ≡ Err (Word s.1) = (word_at-differs (b ∷ bs) s).1 (
          λ h. before.0 (h.0, sym e ∙ h.1),
          λ h. before.1 (h.0, h.1 ∙ ap (λ xs. xs ++ h.0) e, h.2),
        ) in
        record { after = s; is = ap (λ r. unless_cut s r) differs; left = e }

    cut : (s : List ℕ × ℕ) (fault : TextFault) (r : Result (List ℕ × ℕ) TextFault) → word_at (b ∷ bs) s ≡ r → unless_cut s r ≡ Err fault → IsMended (IsTextOf (optional_text (b ∷ bs)) (λ stands. Unit {0})) s fault
    cut s fault (Ok u) is same = absurd (Err-ne-Ok fault (true, u) (sym same))
    cut s fault (Err (End at)) is same =
        let here : End at ≡ fault = cc in
        mended-word (IsTextOf (optional_text (b ∷ bs)) (λ stands. Unit {0})) s fault (b ∷ bs) [] (is ∙ ap (λ f. Err f) here) (true, tt, sym (append-nil (b ∷ bs)))
    cut s fault (Err (NotWhole at)) is same = absurd (Err-ne-Ok fault (false, s) (sym same))
    cut s fault (Err (TooLarge at)) is same = absurd (Err-ne-Ok fault (false, s) (sym same))
    cut s fault (Err (Word at)) is same = absurd (Err-ne-Ok fault (false, s) (sym same))
