-- What a text of a version is read from, and what its first fault tells.
use Rattle.std.proofs.Common.{◌≡◌, ◌≢◌, ◌∙◌, ◌↔◌, ◌⊎◌, inl, inr, ℕ, ◌<◌, ◌≤◌, Bool, true, false, not, List, [], ◌∷◌, ◌++◌, length, take, nat_eq, nat_lt, Result, Ok, Err, refl, sym, ap, subst, arith, if◌then◌else◌}
use Rattle.std.proofs.lemmas.Bool.{eq-eqb, false≢true, le-ltb, lt-ltb, ltb-false, ltb-true, ne_eqb}
use Rattle.ev_text.specs.Readers.{Reader, whole_with}
use Rattle.ev_text.specs.Scans.{rest_of}
use Rattle.ev_text.specs.Texts.{Begins, IsLonger, IsNoEnd, IsTextOf, StandsUnlessLonger, fault_place}
use Rattle.ev_text.specs.declared.TextFault.{TextFault}
use Rattle.ev_text.specs.declared.TextFault.TheVariants.{NotWhole, TooLarge, Word, End}
use Rattle.ev_text.proofs.ReadingLaws.{Reads}
use Rattle.ev_text.proofs.Results.{Ok-injective}
use Rattle.ev_text.proofs.WholeReads.{ranged-cut, ranged-first, ranged-spells, ranged-wrong}
use Rattle.ev_text.specs.Numbers.{UpTo}
use Rattle.ev_text.proofs.Numbers.{Anything, upto}
use Rattle.ev_text.proofs.Records.{parts-behind, parts-none, parts-then, reads-record}
use Rattle.certificate_parts.specs.Limits.{most_bytes}
use Rattle.certificate_parts.specs.Refusals.{or_refused}
use Rattle.certificate_parts.specs.Versions.{BeginsAnother, begins_another, greatest_version, is_another, text_in, version_at, version_line}
use Rattle.certificate_parts.specs.declared.cert_text.CertText.{CertText}
use Rattle.certificate_parts.specs.declared.cert_text.CertText.TheVariants.{Range, Text, TooLong, Version}

-- one cause before the other

abbrev chosen : {A : Type 0} → Bool → Bool → ℕ → Result A TextFault → Result A CertText
chosen long other len found = if long then Err (TooLong len) else if other then Err Version else or_refused found

module _ {A : Type 0} where
  value_chosen : (long other : Bool) (len : ℕ) (found : Result A TextFault) (value : A) → chosen long other len found ≡ Ok value → (long ≡ false) × (other ≡ false) × (found ≡ Ok value)
  value_chosen true other len found value is = absurd (cc)
  value_chosen false true len found value is = absurd (cc)
  value_chosen false false len (Err fault) value is = absurd (cc)
  value_chosen false false len (Ok own) value is = (refl, refl, ap (λ v. Ok v) (Ok-injective own value is))

  range_chosen : (long other : Bool) (len at : ℕ) (found : Result A TextFault) → chosen long other len found ≡ Err (Range at) → found ≡ Err (TooLarge at)
  range_chosen true other len at found is = absurd (cc)
  range_chosen false true len at found is = absurd (cc)
  range_chosen false false len at (Ok own) is = absurd (cc)
  range_chosen false false len at (Err (NotWhole there)) is = absurd (cc)
  range_chosen false false len at (Err (TooLarge there)) is = let same : there ≡ at = cc in ap (λ n. Err (TooLarge n)) same
  range_chosen false false len at (Err (Word there)) is = absurd (cc)
  range_chosen false false len at (Err (End there)) is = absurd (cc)

  -- a fault that stands however the text goes on, or a text that ends too early
  abbrev IsText : ℕ → Result A TextFault → Type 0
  IsText at found = (fault : TextFault) × (found ≡ Err fault) × (fault_place fault ≡ at) × ((fault ≡ End at) ⊎ (IsNoEnd fault × ((bytes more : List ℕ) → StandsUnlessLonger fault bytes more)))

  text_chosen : (long other : Bool) (len at : ℕ) (found : Result A TextFault) → chosen long other len found ≡ Err (Text at) → IsText at found
  text_chosen true other len at found is = absurd (cc)
  text_chosen false true len at found is = absurd (cc)
  text_chosen false false len at (Ok own) is = absurd (cc)
  text_chosen false false len at (Err (NotWhole there)) is = let same : there ≡ at = cc in (NotWhole there, refl, same, inr (tt, λ bytes more. tt))
  text_chosen false false len at (Err (TooLarge there)) is = absurd (cc)
  text_chosen false false len at (Err (Word there)) is = let same : there ≡ at = cc in (Word there, refl, same, inr (tt, λ bytes more. tt))
  text_chosen false false len at (Err (End there)) is = let same : there ≡ at = cc in (End there, refl, same, inl (ap (λ n. End n) same))

  version_chosen : (long other : Bool) (len : ℕ) (found : Result A TextFault) → chosen long other len found ≡ Err Version → (long ≡ false) × (other ≡ true)
  version_chosen true other len found is = absurd (cc)
  version_chosen false true len found is = (refl, refl)
  version_chosen false false len (Ok own) is = absurd (cc)
  version_chosen false false len (Err (NotWhole there)) is = absurd (cc)
  version_chosen false false len (Err (TooLarge there)) is = absurd (cc)
  version_chosen false false len (Err (Word there)) is = absurd (cc)
  version_chosen false false len (Err (End there)) is = absurd (cc)

  long_chosen : (long other : Bool) (len n : ℕ) (found : Result A TextFault) → chosen long other len found ≡ Err (TooLong n) → (long ≡ true) × (n ≡ len)
  long_chosen true other len n found is = (refl, cc)
  long_chosen false true len n found is = absurd (cc)
  long_chosen false false len n (Ok own) is = absurd (cc)
  long_chosen false false len n (Err (NotWhole there)) is = absurd (cc)
  long_chosen false false len n (Err (TooLarge there)) is = absurd (cc)
  long_chosen false false len n (Err (Word there)) is = absurd (cc)
  long_chosen false false len n (Err (End there)) is = absurd (cc)

-- the word begins with a byte, and the text has a version of its own
module _ (b : ℕ) (bs : List ℕ) (own : ℕ) where
  reads-version : Reads StandsUnlessLonger (version_at (b ∷ bs)) (version_line (b ∷ bs)) (UpTo greatest_version) (UpTo greatest_version) Anything
  reads-version =
      reads-record
      (parts-behind b bs (parts-then (upto greatest_version (omega arith)) (λ n. parts-behind 10 [] (parts-none n)) (λ n none rest small fits any. refl)))
      (record { parts = λ n small. ((n, tt), (small, tt), refl, λ rest any. tt); fits = λ p is. is.0; loose = λ p is. is.0; texts = λ p is. refl })

  another_stands : (bytes : List ℕ) → begins_another (b ∷ bs) own bytes ≡ true → BeginsAnother (b ∷ bs) own bytes
  another_stands bytes = by (version_at (b ∷ bs) (bytes, 0)) refl
    where
      other : (n : ℕ) → not (nat_eq n own) ≡ true → n ≢ own
      other n is same = false≢true (sym (ap not (eq-eqb n own same)) ∙ is)

      by : (found : Result (ℕ × (List ℕ × ℕ)) TextFault) → version_at (b ∷ bs) (bytes, 0) ≡ found → is_another own found ≡ true → BeginsAnother (b ∷ bs) own bytes
      by (Err fault) found is = absurd (false≢true is)
      by (Ok (n, t)) found is =
          let stands = reads-version.standing (bytes, 0) t n found in
          (n, stands.0, other n is, (rest_of t, stands.1))

  told_by_line : (bytes rest : List ℕ) (n : ℕ) → n ≤ greatest_version → bytes ≡ version_line (b ∷ bs) n ++ rest → begins_another (b ∷ bs) own bytes ≡ not (nat_eq n own)
  told_by_line bytes rest n small is = ap (is_another own) (reads-version.taken n rest (bytes, 0) small tt is).is

  another_is_told : (bytes : List ℕ) → BeginsAnother (b ∷ bs) own bytes → begins_another (b ∷ bs) own bytes ≡ true
  another_is_told bytes (n, small, other, begins) = told_by_line bytes begins.0 n small begins.1 ∙ ap not (ne_eqb n own other)

  own_is_none_other : (bytes rest : List ℕ) → own ≤ greatest_version → bytes ≡ version_line (b ∷ bs) own ++ rest → begins_another (b ∷ bs) own bytes ≡ false
  own_is_none_other bytes rest small is = told_by_line bytes rest own small is ∙ ap not (eq-eqb own own refl)

  module _ {A : Type 0} (read : Reader A) where
    -- bytes that are not too many, and have no other version, are read
    pub read_on : (bytes : List ℕ) → length bytes ≤ most_bytes → begins_another (b ∷ bs) own bytes ≡ false → text_in (b ∷ bs) own read bytes ≡ or_refused (whole_with read bytes)
    read_on bytes within none =
        ap (λ (long : Bool). chosen long (begins_another (b ∷ bs) own bytes) (length bytes) (whole_with read bytes)) (le-ltb most_bytes (length bytes) within)
        ∙ ap (λ (other : Bool). chosen false other (length bytes) (whole_with read bytes)) none

    other_version : (bytes : List ℕ) → length bytes ≤ most_bytes → begins_another (b ∷ bs) own bytes ≡ true → text_in (b ∷ bs) own read bytes ≡ Err Version
    other_version bytes within other =
        ap (λ (long : Bool). chosen long (begins_another (b ∷ bs) own bytes) (length bytes) (whole_with read bytes)) (le-ltb most_bytes (length bytes) within)
        ∙ ap (λ (is : Bool). chosen false is (length bytes) (whole_with read bytes)) other

    too_many : (bytes : List ℕ) → most_bytes < length bytes → text_in (b ∷ bs) own read bytes ≡ Err (TooLong (length bytes))
    too_many bytes long = ap (λ (is : Bool). chosen is (begins_another (b ∷ bs) own bytes) (length bytes) (whole_with read bytes)) (lt-ltb most_bytes (length bytes) long)

    pub version_told : (bytes : List ℕ) → (text_in (b ∷ bs) own read bytes ≡ Err Version) ↔ ((length bytes ≤ most_bytes) × BeginsAnother (b ∷ bs) own bytes)
    version_told bytes = (
      λ is.
          let causes = version_chosen (nat_lt most_bytes (length bytes)) (begins_another (b ∷ bs) own bytes) (length bytes) (whole_with read bytes) is in
          (omega (arith, ltb-false most_bytes (length bytes) causes.0), another_stands bytes causes.1),
      λ h. other_version bytes h.0 (another_is_told bytes h.1),
    )

    pub length_told : (bytes : List ℕ) (len : ℕ) → (text_in (b ∷ bs) own read bytes ≡ Err (TooLong len)) ↔ ((most_bytes < length bytes) × (len ≡ length bytes))
    length_told bytes len = (
      λ is.
          let causes = long_chosen (nat_lt most_bytes (length bytes)) (begins_another (b ∷ bs) own bytes) (length bytes) len (whole_with read bytes) is in
          (ltb-true most_bytes (length bytes) causes.0, causes.1),
      λ h. too_many bytes h.0 ∙ ap (λ n. Err (TooLong n)) (sym h.1),
    )

    -- each value that fits has a text, which begins with the line of its own version
    module _ (text : A → List ℕ) (Fits Loose : A → Type 0) (reader : Reads StandsUnlessLonger read text Fits Loose Anything)
        (small : own ≤ greatest_version) (line : (value : A) → (rest : List ℕ) × (text value ≡ version_line (b ∷ bs) own ++ rest)) where
      pub text_is_spelled : (bytes : List ℕ) (value : A) → (text_in (b ∷ bs) own read bytes ≡ Ok value) ↔ ((length bytes ≤ most_bytes) × Fits value × (bytes ≡ text value))
      text_is_spelled bytes value =
          let whole = ranged-spells StandsUnlessLonger read text Fits Loose Anything reader (λ value is. tt) bytes value in (
            λ is.
                let causes = value_chosen (nat_lt most_bytes (length bytes)) (begins_another (b ∷ bs) own bytes) (length bytes) (whole_with read bytes) value is in
                let spelled = whole.0 causes.2 in
                (omega (arith, ltb-false most_bytes (length bytes) causes.0), spelled.0, spelled.1),
            λ spells.
                let front = line value in
                read_on bytes spells.0 (own_is_none_other bytes front.0 small (spells.2 ∙ front.1)) ∙ ap or_refused (whole.1 (spells.1, spells.2)),
          )

      abbrev BeginsLoosely : List ℕ → Type 0
      BeginsLoosely bytes = Begins (IsTextOf text Loose) bytes

      -- no text that goes on with these bytes is that of a value that fits
      abbrev NoneGoesOn : List ℕ → List ℕ → Type 0
      NoneGoesOn bytes more = (value : A) → Fits value → text value ≡ bytes ++ more → ⊥

      first_of : (bytes : List ℕ) (fault : TextFault) (at : ℕ) → whole_with read bytes ≡ Err fault → fault_place fault ≡ at → BeginsLoosely (take at bytes) × (at ≤ length bytes)
      first_of bytes fault at is there =
          subst (λ (n : ℕ). BeginsLoosely (take n bytes) × (n ≤ length bytes)) there
          (ranged-first StandsUnlessLonger read text Fits Loose Anything reader (λ value is. tt) bytes fault is)

      wrong_of : (bytes : List ℕ) (fault : TextFault) → whole_with read bytes ≡ Err fault → IsNoEnd fault → (more : List ℕ) → StandsUnlessLonger fault bytes more → NoneGoesOn bytes more
      wrong_of bytes fault is no_end more still = ranged-wrong StandsUnlessLonger read text Fits Loose Anything reader (λ value is. tt) bytes fault is no_end more still

      pub range_is_first : (bytes : List ℕ) (at : ℕ) → text_in (b ∷ bs) own read bytes ≡ Err (Range at)
          → Begins (IsTextOf text Loose) (take at bytes) × (at ≤ length bytes) × ((more : List ℕ) → (IsLonger at bytes more → ⊥) → (value : A) → Fits value → text value ≡ bytes ++ more → ⊥)
      range_is_first bytes at is =
          let found = range_chosen (nat_lt most_bytes (length bytes)) (begins_another (b ∷ bs) own bytes) (length bytes) at (whole_with read bytes) is in
          let first = first_of bytes (TooLarge at) at found refl in
          (first.0, first.1, λ more still. wrong_of bytes (TooLarge at) found tt more still)

      pub text_is_first : (bytes : List ℕ) (at : ℕ) → text_in (b ∷ bs) own read bytes ≡ Err (Text at)
          → Begins (IsTextOf text Loose) (take at bytes) × (at ≤ length bytes) × (Begins (IsTextOf text Loose) bytes ⊎ ((more : List ℕ) (value : A) → Fits value → text value ≡ bytes ++ more → ⊥))
      text_is_first bytes at is =
          let found = text_chosen (nat_lt most_bytes (length bytes)) (begins_another (b ∷ bs) own bytes) (length bytes) at (whole_with read bytes) is in
          let first = first_of bytes found.0 at found.1 found.2 in (
            first.0,
            first.1,
            elim found.3 [
              | inl end ↦ inl (ranged-cut StandsUnlessLonger read text Fits Loose Anything reader (λ value is. tt) bytes at (found.1 ∙ ap (λ f. Err f) end))
              | inr h ↦ inr (λ more. wrong_of bytes found.0 found.1 h.0 more (h.1 bytes more))
            ],
          )
