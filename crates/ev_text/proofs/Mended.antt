-- What stands before a fault can be continued to a whole text, and so can a text that ends too early.
use Rattle.std.proofs.Common.{◌≡◌, ◌∙◌, ℕ, ◌+◌, Bool, true, false, List, [], ◌++◌, length, length-append, Result, Ok, Err, nat_eq, refl, sym, ap, subst, append_assoc, arith, if◌then◌else◌}
use Rattle.ev_text.specs.Readers.{positive_at}
use Rattle.ev_text.specs.Scans.{and_then, past, rest_of, whole_at, word_at}
use Rattle.ev_text.specs.Texts.{Begins, IsNoEnd, fault_place}
use Rattle.ev_text.specs.declared.TextFault.{TextFault}
use Rattle.ev_text.specs.declared.TextFault.TheVariants.{End, NotWhole, TooLarge, Word}
use Rattle.ev_text.proofs.GrownNumbers.{unless_zero}
use Rattle.ev_text.proofs.Readings.{whole_at-cases, word_at-cases}
use Rattle.ev_text.proofs.Results.{Err-ne-Ok}

-- a fault of the text at the scan, which is to be of a language: what stands before its place can be continued to one, and where
-- the text ends too early all of it
pub record IsMended (Language : List ℕ → Type 0) (s : List ℕ × ℕ) (fault : TextFault) : Type 0 where
  pub front : List ℕ
  pub back : List ℕ
  pub parts : rest_of s ≡ front ++ back
  pub place : fault_place fault ≡ s.1 + length front
  pub before : Begins Language front
  pub ended : (IsNoEnd fault → ⊥) → Begins Language (rest_of s)

-- what is to stand behind a text that was taken
abbrev pub behind : List ℕ → (List ℕ → Type 0) → List ℕ → Type 0
behind text Language more = Language (text ++ more)

-- what begins a text of the one language begins one of the other
pub mended-map : (Language Other : List ℕ → Type 0) (s : List ℕ × ℕ) (fault : TextFault) → ((text : List ℕ) → Begins Language text → Begins Other text) → IsMended Language s fault → IsMended Other s fault
mended-map Language Other s fault each mended = record {
  front = mended.front;
  back = mended.back;
  parts = mended.parts;
  place = mended.place;
  before = each mended.front mended.before;
  ended = λ end. each (rest_of s) (mended.ended end);
}

module _ (Language : List ℕ → Type 0) (s : List ℕ × ℕ) (fault : TextFault) where
  pub mended-here : (more : List ℕ) → Language more → fault_place fault ≡ s.1 → ((IsNoEnd fault → ⊥) → Begins Language (rest_of s)) → IsMended Language s fault
  mended-here more whole place ended = record { front = []; back = rest_of s; parts = refl; place = omega (arith, place); before = (more, whole); ended = ended }

  pub mended-behind : (text : List ℕ) (t : List ℕ × ℕ) → rest_of s ≡ text ++ rest_of t → t.1 ≡ s.1 + length text → IsMended (behind text Language) t fault → IsMended Language s fault
  mended-behind text t e moved mended = record {
    front = text ++ mended.front;
    back = mended.back;
    parts = e ∙ ap (λ xs. text ++ xs) mended.parts ∙ sym (append_assoc text mended.front mended.back);
    place = omega (arith, mended.place, moved, length-append text mended.front);
    before = (mended.before.0, subst Language (sym (append_assoc text mended.front mended.before.0)) mended.before.1);
    ended = λ end. let whole = mended.ended end in (whole.0, subst Language (sym (append_assoc text (rest_of t) whole.0) ∙ ap (λ xs. xs ++ whole.0) (sym e)) whole.1);
  }

  pub mended-word : (word more : List ℕ) → word_at word s ≡ Err fault → Language (word ++ more) → IsMended Language s fault
  mended-word word more is whole =
      word_at-cases word s (λ r. r ≡ Err fault → IsMended Language s fault)
      (λ stands e. absurd (Err-ne-Ok fault (past word s) (sym e)))
      (λ cut e. let same : End s.1 ≡ fault = cc in mended-here (word ++ more) whole (ap fault_place (sym same)) (λ end. (cut.0 ++ more, subst Language (ap (λ xs. xs ++ more) cut.1 ∙ append_assoc (rest_of s) cut.0 more) whole)))
      (λ other uncut e. let same : Word s.1 ≡ fault = cc in mended-here (word ++ more) whole (ap fault_place (sym same)) (λ end. absurd (end (subst IsNoEnd same tt))))
      is

  pub mended-whole : (limit : ℕ) (more : List ℕ) → whole_at limit s ≡ Err fault → Language more → IsMended Language s fault
  mended-whole limit more is whole =
      whole_at-cases limit s (λ r. r ≡ Err fault → IsMended Language s fault)
      (λ none e. let same : End s.1 ≡ fault = cc in mended-here more whole (ap fault_place (sym same)) (λ end. (more, subst (λ (xs : List ℕ). Language (xs ++ more)) (sym none) whole)))
      (λ some spoiled e. let same : NotWhole s.1 ≡ fault = cc in mended-here more whole (ap fault_place (sym same)) (λ end. absurd (end (subst IsNoEnd same tt))))
      (λ canonical large e. let same : TooLarge s.1 ≡ fault = cc in mended-here more whole (ap fault_place (sym same)) (λ end. absurd (end (subst IsNoEnd same tt))))
      (λ canonical fits e. absurd (cc))
      is

  pub mended-positive : (limit : ℕ) (more : List ℕ) → positive_at limit s ≡ Err fault → Language more → IsMended Language s fault
  mended-positive limit more is whole = by (whole_at limit s) refl is
    where
      at_zero : (n : ℕ) (t : List ℕ × ℕ) (none : Bool) → (let answer : Result (ℕ × (List ℕ × ℕ)) TextFault = if none then Err (NotWhole s.1) else Ok (n, t) in answer) ≡ Err fault → IsMended Language s fault
      at_zero n t true e = let same : NotWhole s.1 ≡ fault = cc in mended-here more whole (ap fault_place (sym same)) (λ end. absurd (end (subst IsNoEnd same tt)))
      at_zero n t false e = absurd (Err-ne-Ok fault (n, t) (sym e))

      by : (answer : Result (ℕ × (List ℕ × ℕ)) TextFault) → whole_at limit s ≡ answer → and_then answer (unless_zero s) ≡ Err fault → IsMended Language s fault
      by (Err other) found e = let same : other ≡ fault = cc in mended-whole limit more (found ∙ ap (λ f. Err f) same) whole
      by (Ok (n, t)) found e = at_zero n t (nat_eq n 0) e
