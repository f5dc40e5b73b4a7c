-- What a reader of texts with range rules owes. A number may break a rule with numbers before it, so what stands before a fault
-- begins a text of a wider language; and a number with which the text ends may be mended by further digits.
use Rattle.std.proofs.Common.{◌≡◌, ◌≢◌, ◌∙◌, inl, inr, ℕ, ◌+◌, List, [], ◌∷◌, ◌++◌, length, length-append, length-drop, Result, Ok, Err, refl, sym, ap, subst, append_assoc, arith}
use Rattle.ev_text.specs.Readers.{Reader, behind_word, answer, then_reads}
use Rattle.ev_text.specs.Scans.{and_then, past, rest_of, word_at}
use Rattle.ev_text.specs.Texts.{Begins, IsTextOf}
use Rattle.ev_text.specs.declared.TextFault.{TextFault}
use Rattle.ev_text.proofs.Grown.{Stays, Within, grown, past_within, stays-then, stays-word}
use Rattle.ev_text.proofs.Mended.{IsMended, behind, mended-behind, mended-map, mended-word}
use Rattle.ev_text.proofs.Readings.{TakesWord-from_word_at, word_read}
use Rattle.ev_text.proofs.Results.{Err-ne-Ok, Ok-injective, and_then-ok, fault_of_two}

-- a value was taken, and the rest of the text is left
pub record Takes {A : Type 0} (answer : Result (A × (List ℕ × ℕ)) TextFault) (value : A) (rest : List ℕ) : Type 0 where
  pub after : List ℕ × ℕ
  pub is : answer ≡ Ok (value, after)
  pub left : rest_of after ≡ rest

-- a reader reads the texts of values that fit, in front of what may stand behind each; what stands before a fault begins the
-- text of a value that fits loosely
pub record Reads {A : Type 0} (Still : TextFault → List ℕ → List ℕ → Type 0) (read : Reader A) (text : A → List ℕ) (Fits Loose : A → Type 0) (Before : A → List ℕ → Type 0) : Type 0 where
  pub example : (value : A) × Loose value
  pub loose : (value : A) → Fits value → Loose value
  -- what was taken stands there
  pub standing : (s t : List ℕ × ℕ) (value : A) → read s ≡ Ok (value, t) → Fits value × (rest_of s ≡ text value ++ rest_of t)
  -- what stands there is taken
  pub taken : (value : A) (rest : List ℕ) (s : List ℕ × ℕ) → Fits value → Before value rest → rest_of s ≡ text value ++ rest → Takes (read s) value rest
  -- a text that goes on is read as before
  pub stays : (more : List ℕ) (s : List ℕ × ℕ) → Within s → Stays Still more s (read s) (read (grown more s))
  -- what stands before a fault can be continued
  pub mended : (s : List ℕ × ℕ) (fault : TextFault) → Within s → read s ≡ Err fault → IsMended (IsTextOf text Loose) s fault

module _ {A : Type 0} (Still : TextFault → List ℕ → List ℕ → Type 0) where
  -- what was taken moves the scan by its text
  pub reads-moves : (read : Reader A) (text : A → List ℕ) (Fits Loose : A → Type 0) (Before : A → List ℕ → Type 0) → Reads Still read text Fits Loose Before
      → (s t : List ℕ × ℕ) (value : A) → Within s → read s ≡ Ok (value, t) → (t.1 ≡ s.1 + length (text value)) × Within t × (t.0 ≡ s.0)
  reads-moves read text Fits Loose Before reader s t value within is =
      let stays = subst (λ (r : Result (A × (List ℕ × ℕ)) TextFault). Stays Still [] s r (read (grown [] s))) is (reader.stays [] s within) in
      let inside = stays.1 in
      let whole = ap (λ xs. length xs) stays.0 in
      (omega (arith, whole, length-drop s.1 s.0, length-drop t.1 t.0, ap (λ xs. length xs) (reader.standing s t value is).1, length-append (text value) (rest_of t)), inside, stays.0)

  -- a value that nothing is read for
  pub reads-answer : (own : A) → Reads Still (answer own) (λ value. []) (λ value. value ≡ own) (λ value. value ≡ own) (λ value rest. Unit {0})
  reads-answer own = record {
    example = (own, refl);
    loose = λ value fits. fits;
    standing = λ s t value is. let same = Ok-injective (own, s) (value, t) is in (ap (λ (p : A × (List ℕ × ℕ)). p.0) (sym same), ap (λ (p : A × (List ℕ × ℕ)). rest_of p.1) same);
    taken = λ value rest s fits before e. record { after = s; is = ap (λ (v : A). Ok (v, s)) (sym fits); left = e };
    stays = λ more s within. (refl, within, λ none. none, λ some. refl);
    mended = λ s fault within is. absurd (Err-ne-Ok fault (own, s) (sym is));
  }

-- the same reader, by other words
pub record SameReads {A : Type 0} (text other : A → List ℕ) (Fits Others Loose Looser : A → Type 0) (Before Behind : A → List ℕ → Type 0) : Type 0 where
  pub texts : (value : A) → Loose value → text value ≡ other value
  pub to : (value : A) → Fits value → Others value
  pub from : (value : A) → Others value → Fits value
  pub to_loose : (value : A) → Loose value → Looser value
  pub before : (value : A) (rest : List ℕ) → Others value → Behind value rest → Before value rest

pub reads-as : {A : Type 0} (Still : TextFault → List ℕ → List ℕ → Type 0) (read : Reader A) (text other : A → List ℕ) (Fits Others Loose Looser : A → Type 0) (Before Behind : A → List ℕ → Type 0)
    → SameReads text other Fits Others Loose Looser Before Behind → Reads Still read text Fits Loose Before → Reads Still read other Others Looser Behind
reads-as {A} Still read text other Fits Others Loose Looser Before Behind same reader = record {
  example = (reader.example.0, same.to_loose reader.example.0 reader.example.1);
  loose = λ value fits. same.to_loose value (reader.loose value (same.from value fits));
  standing = λ s t value is.
      let stands = reader.standing s t value is in
      (same.to value stands.0, stands.1 ∙ ap (λ xs. xs ++ rest_of t) (same.texts value (reader.loose value stands.0)));
  taken = λ value rest s fits before e.
      reader.taken value rest s (same.from value fits) (same.before value rest fits before) (e ∙ ap (λ xs. xs ++ rest) (sym (same.texts value (reader.loose value (same.from value fits)))));
  stays = reader.stays;
  mended = λ s fault within is.
      mended-map (IsTextOf text Loose) (IsTextOf other Looser) s fault
      (λ front begins. (begins.0, (begins.1.0, same.to_loose begins.1.0 begins.1.1, sym (same.texts begins.1.0 begins.1.1) ∙ begins.1.2))) (reader.mended s fault within is);
}

module _ (Still : TextFault → List ℕ → List ℕ → Type 0) where
  -- a word, and what stands behind it
  pub reads-behind : {A : Type 0} (b : ℕ) (bs : List ℕ) (read : Reader A) (text : A → List ℕ) (Fits Loose : A → Type 0) (Before : A → List ℕ → Type 0)
      → Reads Still read text Fits Loose Before → Reads Still (behind_word (b ∷ bs) read) (λ value. (b ∷ bs) ++ text value) Fits Loose Before
  reads-behind {A} b bs read text Fits Loose Before reader = record {
    example = reader.example;
    loose = reader.loose;
    standing = λ s t value is.
        let parts = and_then-ok (word_at (b ∷ bs) s) read (value, t) is in
        let takes = TakesWord-from_word_at (b ∷ bs) s parts.0 parts.1 in
        let stands = reader.standing parts.0 t value parts.2 in
        (stands.0, takes.standing ∙ ap (λ xs. (b ∷ bs) ++ xs) stands.1 ∙ sym (append_assoc (b ∷ bs) (text value) (rest_of t)));
    taken = λ value rest s fits before e.
        let word = word_read (b ∷ bs) (text value ++ rest) s (e ∙ append_assoc (b ∷ bs) (text value) rest) in
        let takes = reader.taken value rest (past (b ∷ bs) s) fits before word.1 in
        record { after = takes.after; is = ap (λ r. and_then r read) word.0 ∙ takes.is; left = takes.left };
    stays = λ more s within. stays-word Still b bs more s read read within (λ t inside. reader.stays more t inside);
    mended = λ s fault within is. elim (fault_of_two (word_at (b ∷ bs) s) read fault is) [
      | inl none ↦ mended-word (IsTextOf (λ value. (b ∷ bs) ++ text value) Loose) s fault (b ∷ bs) (text reader.example.0) none (reader.example.0, reader.example.1, refl)
      | inr h ↦
          let takes = TakesWord-from_word_at (b ∷ bs) s h.0 h.1 in
          mended-behind (IsTextOf (λ value. (b ∷ bs) ++ text value) Loose) s fault (b ∷ bs) h.0 takes.standing (ap (λ (u : List ℕ × ℕ). u.1) takes.moved)
          (mended-map (IsTextOf text Loose) (behind (b ∷ bs) (IsTextOf (λ value. (b ∷ bs) ++ text value) Loose)) h.0 fault
          (λ back begins. (begins.0, (begins.1.0, begins.1.1, ap (λ xs. (b ∷ bs) ++ xs) begins.1.2)))
          (reader.mended h.0 fault (subst Within (sym takes.moved) (past_within (b ∷ bs) (rest_of h.0) s within takes.standing)) h.2))
    ];
  }

-- a reader, and what stands behind its value
module _ {A B : Type 0} (Still : TextFault → List ℕ → List ℕ → Type 0) (read : Reader A) (next : A → Reader B) (text : A → List ℕ) (rest_text : A → B → List ℕ) (Fits Loose : A → Type 0) (Others Looser : B → Type 0)
    (Before : A → List ℕ → Type 0) (Behind : B → List ℕ → Type 0) (first : B → A) where
  abbrev both : B → List ℕ
  both whole = text (first whole) ++ rest_text (first whole) whole

  abbrev HasFirst : A → B → Type 0
  HasFirst value whole = Others whole × (first whole ≡ value)

  abbrev HasLooseFirst : A → B → Type 0
  HasLooseFirst value whole = Looser whole × (first whole ≡ value)

  module _ (reader : Reads Still read text Fits Loose Before)
      (readers : (value : A) → Fits value → Reads Still (next value) (rest_text value) (λ whole. Others whole × (first whole ≡ value)) (λ whole. Looser whole × (first whole ≡ value)) Behind)
      (fits_first : (whole : B) → Others whole → Fits (first whole))
      (loosened : (whole : B) → Others whole → Looser whole)
      (completed : (value : A) → Loose value → (whole : B) × (Looser whole × (first whole ≡ value)))
      (before_rest : (whole : B) (rest : List ℕ) → Others whole → Behind whole rest → Before (first whole) (rest_text (first whole) whole ++ rest)) where
    abbrev step : A × (List ℕ × ℕ) → Result (B × (List ℕ × ℕ)) TextFault
    step found = next found.0 found.1

    both_stand : (s t : List ℕ × ℕ) (whole : B) → and_then (read s) step ≡ Ok (whole, t) → Others whole × (rest_of s ≡ both whole ++ rest_of t)
    both_stand s t whole is =
        let parts = and_then-ok (read s) step (whole, t) is in
        let value = parts.0.0 in
        let u = parts.0.1 in
        let front = reader.standing s u value parts.1 in
        let back = (readers value front.0).standing u t whole parts.2 in (
          back.0.0,
          front.1 ∙ ap (λ xs. text value ++ xs) back.1 ∙ sym (append_assoc (text value) (rest_text value whole) (rest_of t))
              ∙ ap (λ v. (text v ++ rest_text v whole) ++ rest_of t) (sym back.0.1),
        )

    both_taken : (whole : B) (rest : List ℕ) (s : List ℕ × ℕ) → Others whole → Behind whole rest → rest_of s ≡ both whole ++ rest → Takes (and_then (read s) step) whole rest
    both_taken whole rest s others behind_it e =
        let value = first whole in
        let fits = fits_first whole others in
        let front = reader.taken value (rest_text value whole ++ rest) s fits (before_rest whole rest others behind_it) (e ∙ append_assoc (text value) (rest_text value whole) rest) in
        let back = (readers value fits).taken whole rest front.after (others, refl) behind_it front.left in
        record { after = back.after; is = ap (λ r. and_then r step) front.is ∙ back.is; left = back.left }

    both_mended : (s : List ℕ × ℕ) (fault : TextFault) → Within s → and_then (read s) step ≡ Err fault → IsMended (IsTextOf both Looser) s fault
    both_mended s fault within is = elim (fault_of_two (read s) step fault is) [
      | inl none ↦
          mended-map (IsTextOf text Loose) (IsTextOf both Looser) s fault (λ front begins. whole_text front begins.0 begins.1.0 begins.1.1 begins.1.2) (reader.mended s fault within none)
      | inr h ↦
          let value = h.0.0 in
          let u = h.0.1 in
          let front = reader.standing s u value h.1 in
          let moves = reads-moves Still read text Fits Loose Before reader s u value within h.1 in
          mended-behind (IsTextOf both Looser) s fault (text value) u front.1 moves.0
          (mended-map (IsTextOf (rest_text value) (HasLooseFirst value)) (behind (text value) (IsTextOf both Looser)) u fault
          (λ back begins. in_front value back begins.0 begins.1.0 begins.1.1 begins.1.2) ((readers value front.0).mended u fault moves.1 h.2))
    ]
      where
        whole_text : (front more : List ℕ) (value : A) → Loose value → text value ≡ front ++ more → Begins (IsTextOf both Looser) front
        whole_text front more value fits is =
            let some = completed value fits in
            let whole = some.0 in
            (more ++ rest_text value whole, (whole, some.1.0, ap (λ v. text v ++ rest_text v whole) some.1.1 ∙ ap (λ xs. xs ++ rest_text value whole) is ∙ append_assoc front more (rest_text value whole)))

        in_front : (value : A) (back more : List ℕ) (whole : B) → HasLooseFirst value whole → rest_text value whole ≡ back ++ more → Begins (behind (text value) (IsTextOf both Looser)) back
        in_front value back more whole fits is = (more, (whole, fits.0, ap (λ v. text v ++ rest_text v whole) fits.1 ∙ ap (λ xs. text value ++ xs) is))

    pub reads-then : Reads Still (then_reads read next) (λ whole. text (first whole) ++ rest_text (first whole) whole) Others Looser Behind
    reads-then =
        let some = reader.example in
        let whole = completed some.0 some.1 in
        record {
          example = (whole.0, whole.1.0);
          loose = loosened;
          standing = both_stand;
          taken = both_taken;
          stays = λ more s within. stays-then Still more s (read s) (read (grown more s)) step step (reader.stays more s within)
              (λ value t is inside. (readers value (reader.standing s t value is).0).stays more t inside);
          mended = both_mended;
        }
