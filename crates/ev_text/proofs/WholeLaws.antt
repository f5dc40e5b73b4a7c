-- The whole of a text is read exactly where it is that of a value, and its fault is the first from the left.
use Rattle.std.proofs.Common.{◌≡◌, ◌≢◌, ◌∙◌, ◌↔◌, inl, inr, ℕ, ◌≤◌, Bool, true, false, List, [], ◌∷◌, ◌++◌, length, length-append, take, Result, Ok, Err, nat_eq, refl, sym, ap, subst, append-nil, arith, if◌then◌else◌}
use Rattle.std.proofs.Math.Seq.{take-append_seam}
use Rattle.std.proofs.lemmas.Bool.{eqb-true, ne_eqb}
use Rattle.ev_text.specs.Readers.{Reader, whole_text, whole_with}
use Rattle.ev_text.specs.Scans.{and_then, rest_of}
use Rattle.ev_text.specs.Texts.{Begins, IsNoEnd, IsTextOf, fault_place}
use Rattle.ev_text.specs.declared.TextFault.{TextFault}
use Rattle.ev_text.specs.declared.TextFault.TheVariants.{End, Word}
use Rattle.ev_text.proofs.Grown.{Keeps, grown, rest_of-grown}
use Rattle.ev_text.proofs.Mended.{IsMended}
use Rattle.ev_text.proofs.ReaderLaws.{IsReader, reader-moves}
use Rattle.ev_text.proofs.Results.{Err-ne-Ok, Ok-injective, and_then-ok, fault_of_two, no_bytes}
use Rattle.ev_text.proofs.ReadingLaws.{Takes}

pub whole_text-end : {A : Type 0} (value : A) (t : List ℕ × ℕ) → rest_of t ≡ [] → whole_text (value, t) ≡ Ok value
whole_text-end value t none = rw none refl

pub whole_text-more : {A : Type 0} (value : A) (t : List ℕ × ℕ) → rest_of t ≢ [] → whole_text (value, t) ≡ Err (Word t.1)
whole_text-more value t some = ap (λ (b : Bool). if b then Ok value else Err (Word t.1)) (ne_eqb (length (rest_of t)) 0 (λ none. some (no_bytes (rest_of t) none)))

pub whole_text-ok : {A : Type 0} (found : A × (List ℕ × ℕ)) (value : A) → whole_text found ≡ Ok value → (rest_of found.1 ≡ []) × (found.0 ≡ value)
whole_text-ok {A} found value = by (nat_eq (length (rest_of found.1)) 0) refl
  where
    by : (none : Bool) → nat_eq (length (rest_of found.1)) 0 ≡ none → (if none then Ok found.0 else Err (Word found.1.1)) ≡ Ok value → (rest_of found.1 ≡ []) × (found.0 ≡ value)
    by true is same = (no_bytes (rest_of found.1) (eqb-true (length (rest_of found.1)) 0 is), Ok-injective found.0 value same)
    by false is same = absurd (Err-ne-Ok (Word found.1.1) value same)

pub something_behind : {A : Type 0} (value : A) (t : List ℕ × ℕ) (fault : TextFault) → whole_text (value, t) ≡ Err fault → (Word t.1 ≡ fault) × (rest_of t ≢ [])
something_behind {A} value t fault is = (by (nat_eq (length (rest_of t)) 0) is, λ none. Err-ne-Ok fault value (sym is ∙ whole_text-end value t none))
  where
    by : (none : Bool) → (if none then Ok value else Err (Word t.1)) ≡ Err fault → Word t.1 ≡ fault
    by true is = absurd (Err-ne-Ok fault value (sym is))
    by false is = cc

module _ {A : Type 0} (read : Reader A) (text : A → List ℕ) (Fits : A → Type 0) (Before : A → List ℕ → Type 0) (reader : IsReader read text Fits Before)
    (ends : (value : A) → Fits value → Before value []) where
  -- a whole text is read exactly where it is that of a value
  pub whole-spells : (bytes : List ℕ) (value : A) → (whole_with read bytes ≡ Ok value) ↔ (Fits value × (bytes ≡ text value))
  whole-spells bytes value = (spelled, λ h. reads h.0 h.1)
    where
      spelled : whole_with read bytes ≡ Ok value → Fits value × (bytes ≡ text value)
      spelled is =
          let parts = and_then-ok (read (bytes, 0)) whole_text value is in
          let end = whole_text-ok parts.0 value parts.2 in
          let stands = reader.standing (bytes, 0) parts.0.1 parts.0.0 parts.1 in
          (subst Fits end.1 stands.0, stands.1 ∙ ap (λ xs. text parts.0.0 ++ xs) end.0 ∙ append-nil (text parts.0.0) ∙ ap text end.1)

      reads : Fits value → bytes ≡ text value → whole_with read bytes ≡ Ok value
      reads fits is =
          let takes = reader.taken value [] (bytes, 0) fits (ends value fits) (is ∙ sym (append-nil (text value))) in
          ap (λ r. and_then r whole_text) takes.is ∙ whole_text-end value takes.after takes.left

  -- a fault is mended by what follows, or by what stands in its place
  whole-mended : (bytes : List ℕ) (fault : TextFault) → whole_with read bytes ≡ Err fault → IsMended (IsTextOf text Fits) (bytes, 0) fault
  whole-mended bytes fault is = elim (fault_of_two (read (bytes, 0)) whole_text fault is) [
    | inl none ↦ reader.mended (bytes, 0) fault (omega arith) none
    | inr h ↦
        let value = h.0.0 in
        let t = h.0.1 in
        let stands = reader.standing (bytes, 0) t value h.1 in
        let moves = reader-moves read text Fits Before reader (bytes, 0) t value (omega arith) h.1 in
        let place = something_behind value t fault h.2 in
        record {
          front = text value;
          back = rest_of t;
          parts = stands.1;
          place = omega (arith, ap fault_place (sym place.0), moves.0);
          before = ([], (value, stands.0, sym (append-nil (text value))));
          ended = λ end. absurd (end (subst IsNoEnd place.0 tt));
        }
  ]

  -- what stands before the place of a fault can be continued
  whole-first : (bytes : List ℕ) (fault : TextFault) → IsMended (IsTextOf text Fits) (bytes, 0) fault → Begins (IsTextOf text Fits) (take (fault_place fault) bytes) × (fault_place fault ≤ length bytes)
  whole-first bytes fault mended =
      let at : length mended.front ≡ fault_place fault = omega (arith, mended.place) in
      let front : take (fault_place fault) bytes ≡ mended.front = ap (λ n. take n bytes) (sym at) ∙ ap (λ xs. take (length mended.front) xs) mended.parts ∙ take-append_seam mended.front mended.back in
      (subst (Begins (IsTextOf text Fits)) (sym front) mended.before, omega (arith, at, ap (λ xs. length xs) mended.parts, length-append mended.front mended.back))

  -- a text that ends too early can be continued
  pub whole-cut : (bytes : List ℕ) (at : ℕ) → whole_with read bytes ≡ Err (End at) → Begins (IsTextOf text Fits) bytes × (at ≤ length bytes)
  whole-cut bytes at is =
      let mended = whole-mended bytes (End at) is in
      (mended.ended (λ no_end. no_end), (whole-first bytes (End at) mended).1)

  -- and no continuation mends another fault
  hopeless : (bytes : List ℕ) (fault : TextFault) → whole_with read bytes ≡ Err fault → IsNoEnd fault → (more : List ℕ) (value : A) → Fits value → text value ≡ bytes ++ more → ⊥
  hopeless bytes fault is no_end more value fits text_is = by (read (bytes, 0)) is (reader.stays more (bytes, 0) (omega arith))
    where
      takes : Takes (read (bytes ++ more, 0)) value []
      takes = reader.taken value [] (bytes ++ more, 0) fits (ends value fits) (sym text_is ∙ sym (append-nil (text value)))

      by : (found : Result (A × (List ℕ × ℕ)) TextFault) → and_then found whole_text ≡ Err fault → Keeps more (bytes, 0) found (read (bytes ++ more, 0)) → ⊥
      by (Err other) is keeps =
          let same : other ≡ fault = cc in
          Err-ne-Ok other (value, takes.after) (sym (keeps.1 (subst IsNoEnd (sym same) no_end) tt) ∙ takes.is)
      by (Ok (first, u)) is keeps =
          let behind = something_behind first u fault is in
          let same = Ok-injective (first, grown more u) (value, takes.after) (sym (keeps.3 behind.1) ∙ takes.is) in
          let empty : rest_of u ++ more ≡ [] = sym (rest_of-grown more u keeps.1) ∙ ap (λ (p : A × (List ℕ × ℕ)). rest_of p.1) same ∙ takes.left in
          behind.1 (front_is_empty (rest_of u) more empty)
        where
          front_is_empty : (xs ys : List ℕ) → xs ++ ys ≡ [] → xs ≡ []
          front_is_empty [] ys none = refl
          front_is_empty (x ∷ xs) ys none = absurd (cc)

  pub whole-wrong : (bytes : List ℕ) (fault : TextFault) → whole_with read bytes ≡ Err fault → IsNoEnd fault
      → (Begins (IsTextOf text Fits) bytes → ⊥) × Begins (IsTextOf text Fits) (take (fault_place fault) bytes) × (fault_place fault ≤ length bytes)
  whole-wrong bytes fault is no_end =
      let first = whole-first bytes fault (whole-mended bytes fault is) in
      (λ begins. hopeless bytes fault is no_end begins.0 begins.1.0 begins.1.1 begins.1.2, first.0, first.1)
