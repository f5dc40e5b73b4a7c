-- Lines of so many items, and what a count tells of them.
use Rattle.std.proofs.Common.{◌≡◌, ◌∙◌, ℕ, zero, suc, List, [], ◌∷◌, ◌++◌, codes, length, refl, sym, ap, subst, append_assoc, append-nil, arith}
use Rattle.ev_text.specs.Numerals.{BeginsWithoutDigit}
use Rattle.ev_text.specs.Readers.{Reader, exactly_from}
use Rattle.ev_text.specs.Texts.{AreLooseRun, AreRun, StandsUnlessLonger, marked_texts}
use Rattle.ev_text.proofs.MarkedLaws.{ended_text}
use Rattle.ev_text.proofs.ReadingLaws.{Reads}
use Rattle.ev_text.proofs.RunLaws.{reads-exactly}
use Rattle.ev_text.specs.Lines.{line_of}
use Rattle.ev_text.proofs.Numbers.{Anything, NoDigit}
use Rattle.ev_text.proofs.Records.{parts-behind, parts-last, parts-none, parts-then, reads-record}

-- loose items are as many as they are
pub loose_length : {A : Type 0} (Loose : A → Type 0) (count : ℕ) (items : List A) → AreLooseRun Loose count items → length items ≡ count
loose_length Loose zero [] loose = refl
loose_length Loose zero (a ∷ items) loose = absurd loose
loose_length Loose (suc count) [] loose = absurd loose
loose_length Loose (suc count) (a ∷ items) loose = ap (λ n. suc n) (loose_length Loose count items loose.1)

pub own_length : {A : Type 0} (Loose : A → Type 0) (count : ℕ) (items : List A) → AreLooseRun Loose count items → AreLooseRun Loose (length items) items
own_length Loose count items loose = subst (λ (n : ℕ). AreLooseRun Loose n items) (sym (loose_length Loose count items loose)) loose

module _ {A S : Type 0} (b : ℕ) (bs : List ℕ) (read : S → Reader A) (next : S → A → S) (text : A → List ℕ) (Fits : S → A → Type 0) (Loose : A → Type 0) (some : (a : A) × Loose a)
    (reader : (state : S) → Reads StandsUnlessLonger (read state) text (Fits state) Loose NoDigit) where
  abbrev line_text : List A → List ℕ
  line_text items = (b ∷ bs) ++ (marked_texts (codes " ") text items ++ 10 ∷ [])

  later : (count : ℕ) (state : S) → Reads StandsUnlessLonger (exactly_from (codes " ") (10 ∷ []) read next count state) (ended_text 32 10 [] text) (AreRun Fits next count state) (AreLooseRun Loose count) Anything
  later count state = reads-exactly StandsUnlessLonger read next text Fits Loose NoDigit some reader 32 10 [] (λ a rest. refl) (λ a rest. refl) count state

  begins : (items : List A) (rest : List ℕ) → BeginsWithoutDigit (ended_text 32 10 [] text items ++ rest)
  begins [] rest = refl
  begins (item ∷ items) rest = refl

  nothing : (items : List A) → length items ≡ 0 → [] ≡ items
  nothing [] none = refl
  nothing (item ∷ items) none = absurd (omega (arith, none))

  abbrev HasParts : ℕ → S → List A → Type 0
  HasParts count state items = (parts : A × List A) × (Fits state parts.0 × AreRun Fits next count (next state parts.0) parts.1) × (parts.0 ∷ parts.1 ≡ items)

  first_and_others : (count : ℕ) (state : S) (items : List A) → AreRun Fits next (suc count) state items → HasParts count state items
  first_and_others count state [] are = absurd (omega (arith, are.1))
  first_and_others count state (item ∷ items) are = ((item, items), (are.0.0, (are.0.1, omega (arith, are.1))), refl)

  -- a line that begins with a word has so many items
  pub reads-line : (count : ℕ) (state : S) → Reads StandsUnlessLonger (line_of (b ∷ bs) read next count state) (λ items. (b ∷ bs) ++ (marked_texts (codes " ") text items ++ 10 ∷ [])) (AreRun Fits next count state) (AreLooseRun Loose count) Anything
  reads-line zero state =
      reads-record (parts-behind b (bs ++ 10 ∷ []) (parts-none []))
      (record {
        parts = λ items are. (tt, tt, nothing items are.1, λ rest any. tt);
        fits = λ none any. (tt, refl);
        loose = λ none any. tt;
        texts = λ none any. append-nil ((b ∷ bs) ++ 10 ∷ []);
      })
  reads-line (suc count) state =
      reads-record (parts-behind b (bs ++ codes " ") (parts-then (reader state) (λ first. parts-last (later count (next state first)) (λ others. first ∷ others)) (λ first others rest fits are any. begins others rest)))
      (record {
        parts = λ items are. let p = first_and_others count state items are in (p.0, p.1, p.2, λ rest any. tt);
        fits = λ p are. ((are.0, are.1.0), ap (λ n. suc n) are.1.1);
        loose = λ p are. are;
        texts = λ p are.
            append_assoc (b ∷ bs) (codes " ") (text p.0 ++ (marked_texts (codes " ") text p.1 ++ 10 ∷ []))
            ∙ ap (λ xs. (b ∷ bs) ++ (codes " " ++ xs)) (sym (append_assoc (text p.0) (marked_texts (codes " ") text p.1) (10 ∷ [])));
      })
