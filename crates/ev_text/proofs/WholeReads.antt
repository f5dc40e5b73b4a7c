-- The whole of a text with range rules is read exactly where it is that of a value, and what its fault tells.
use Rattle.std.proofs.Common.{◌≡◌, ◌∙◌, ◌↔◌, inl, inr, ℕ, ◌≤◌, List, [], ◌∷◌, ◌++◌, length, length-append, take, Result, Ok, Err, refl, sym, ap, subst, append-nil, arith}
use Rattle.std.proofs.Math.Seq.{take-append_seam}
use Rattle.ev_text.specs.Readers.{Reader, whole_text, whole_with}
use Rattle.ev_text.specs.Scans.{and_then, rest_of}
use Rattle.ev_text.specs.Texts.{Begins, IsNoEnd, IsTextOf, fault_place}
use Rattle.ev_text.specs.declared.TextFault.{TextFault}
use Rattle.ev_text.specs.declared.TextFault.TheVariants.{End}
use Rattle.ev_text.proofs.Grown.{Stays, grown, rest_of-grown}
use Rattle.ev_text.proofs.Mended.{IsMended}
use Rattle.ev_text.proofs.ReadingLaws.{Reads, Takes, reads-moves}
use Rattle.ev_text.proofs.Results.{Err-ne-Ok, Ok-injective, and_then-ok, fault_of_two}
use Rattle.ev_text.proofs.WholeLaws.{something_behind, whole_text-end, whole_text-ok}

module _ {A : Type 0} (Still : TextFault → List ℕ → List ℕ → Type 0) (read : Reader A) (text : A → List ℕ) (Fits Loose : A → Type 0) (Before : A → List ℕ → Type 0) (reader : Reads Still read text Fits Loose Before)
    (ends : (value : A) → Fits value → Before value []) where
  -- a whole text is read exactly where it is that of a value
  pub ranged-spells : (bytes : List ℕ) (value : A) → (whole_with read bytes ≡ Ok value) ↔ (Fits value × (bytes ≡ text value))
  ranged-spells bytes value = (spelled, λ h. reads h.0 h.1)
    where
      spelled : whole_with read bytes ≡ Ok value → Fits value × (bytes ≡ text value)
      spelled is =
          let parts = and_then-ok (read (bytes, 0)) whole_text value is in
          let end = whole_text-ok parts.0 value parts.2 in
          let stands = reader.standing (bytes, 0) parts.0.1 parts.0.0 parts.1 in
          (subst Fits end.1 stands.0, stands.1 ∙ ap (λ xs. text parts.0.0 ++ xs) end.0 ∙ append-nil (text parts.0.0) ∙ ap text end.1)

      reads : Fits value → bytes ≡ text value → whole_with read bytes ≡ Ok value
      reads fits is =
          let takes = reader.taken value [] (bytes, 0) fits (ends value fits) (is ∙ sym (append-nil (text value))) in
          ap (λ r. and_then r whole_text) takes.is ∙ whole_text-end value takes.after takes.left

  ranged-mended : (bytes : List ℕ) (fault : TextFault) → whole_with read bytes ≡ Err fault → IsMended (IsTextOf text Loose) (bytes, 0) fault
  ranged-mended bytes fault is = elim (fault_of_two (read (bytes, 0)) whole_text fault is) [
    | inl none ↦ reader.mended (bytes, 0) fault (omega arith) none
    | inr h ↦
        let value = h.0.0 in
        let t = h.0.1 in
        let stands = reader.standing (bytes, 0) t value h.1 in
        let moves = reads-moves Still read text Fits Loose Before reader (bytes, 0) t value (omega arith) h.1 in
        let place = something_behind value t fault h.2 in
        record {
          front = text value;
          back = rest_of t;
          parts = stands.1;
          place = omega (arith, ap fault_place (sym place.0), moves.0);
          before = ([], (value, reader.loose value stands.0, sym (append-nil (text value))));
          ended = λ end. absurd (end (subst IsNoEnd place.0 tt));
        }
  ]

  -- what stands before the place of a fault begins a text of a value that fits loosely
  pub ranged-first : (bytes : List ℕ) (fault : TextFault) → whole_with read bytes ≡ Err fault → Begins (IsTextOf text Loose) (take (fault_place fault) bytes) × (fault_place fault ≤ length bytes)
  ranged-first bytes fault is =
      let mended = ranged-mended bytes fault is in
      let at : length mended.front ≡ fault_place fault = omega (arith, mended.place) in
      let front : take (fault_place fault) bytes ≡ mended.front = ap (λ n. take n bytes) (sym at) ∙ ap (λ xs. take (length mended.front) xs) mended.parts ∙ take-append_seam mended.front mended.back in
      (subst (Begins (IsTextOf text Loose)) (sym front) mended.before, omega (arith, at, ap (λ xs. length xs) mended.parts, length-append mended.front mended.back))

  -- and so does a text that ends too early
  pub ranged-cut : (bytes : List ℕ) (at : ℕ) → whole_with read bytes ≡ Err (End at) → Begins (IsTextOf text Loose) bytes
  ranged-cut bytes at is = (ranged-mended bytes (End at) is).ended (λ no_end. no_end)

  -- no text that goes on so that the fault stands is that of a value that fits
  pub ranged-wrong : (bytes : List ℕ) (fault : TextFault) → whole_with read bytes ≡ Err fault → IsNoEnd fault → (more : List ℕ) → Still fault bytes more → (value : A) → Fits value → text value ≡ bytes ++ more → ⊥
  ranged-wrong bytes fault is no_end more still value fits text_is = by (read (bytes, 0)) is (reader.stays more (bytes, 0) (omega arith))
    where
      takes : Takes (read (bytes ++ more, 0)) value []
      takes = reader.taken value [] (bytes ++ more, 0) fits (ends value fits) (sym text_is ∙ sym (append-nil (text value)))

      by : (found : Result (A × (List ℕ × ℕ)) TextFault) → and_then found whole_text ≡ Err fault → Stays Still more (bytes, 0) found (read (bytes ++ more, 0)) → ⊥
      by (Err other) is stays =
          let same : other ≡ fault = cc in
          Err-ne-Ok other (value, takes.after) (sym (stays.1 (subst IsNoEnd (sym same) no_end) (subst (λ (f : TextFault). Still f bytes more) (sym same) still)) ∙ takes.is)
      by (Ok (first, u)) is stays =
          let behind = something_behind first u fault is in
          let same = Ok-injective (first, grown more u) (value, takes.after) (sym (stays.3 behind.1) ∙ takes.is) in
          let empty : rest_of u ++ more ≡ [] = sym (rest_of-grown more u stays.1) ∙ ap (λ (p : A × (List ℕ × ℕ)). rest_of p.1) same ∙ takes.left in
          behind.1 (front_is_empty (rest_of u) more empty)
        where
          front_is_empty : (xs ys : List ℕ) → xs ++ ys ≡ [] → xs ≡ []
          front_is_empty [] ys none = refl
          front_is_empty (x ∷ xs) ys none = absurd (cc)
