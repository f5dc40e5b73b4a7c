-- A reader that chooses between two by a word reads the parts of the one or of the other.
use Rattle.std.proofs.Common.{◌≡◌, ◌⊎◌, inl, inr, ℕ, Bool, true, false, List, [], ◌∷◌, ◌++◌, refl}
use Rattle.ev_text.specs.Readers.{Reader, choice_at, optional_at, then_reads}
use Rattle.ev_text.specs.Texts.{optional_text}
use Rattle.ev_text.specs.declared.TextFault.{TextFault}
use Rattle.ev_text.proofs.ChoiceLaws.{BeforeChoice, BeforeOptional, reader-choice, reader-optional}
use Rattle.ev_text.proofs.ReadingLaws.{Reads}
use Rattle.ev_text.proofs.ReaderLaws.{reads-reader}
use Rattle.ev_text.proofs.Records.{BothFit, ReadsParts, both_text, parts-as, parts-then}

-- by which of two readers parts were read
abbrev pub either {ℓ} : {R S : Type 0} {X : Type ℓ} → (R → X) → (S → X) → R ⊎ S → X
either one other (inl parts) = one parts
either one other (inr parts) = other parts

abbrev Chosen : Type 0 → Type 0 → Bool → Type 0
Chosen R S true = R
Chosen R S false = S

abbrev chosen {ℓ} : {R S : Type 0} {X : Type ℓ} → (R → X) → (S → X) → (stands : Bool) → Chosen R S stands → X
chosen one other true parts = one parts
chosen one other false parts = other parts

abbrev pub Whichever : Bool → Type 0
Whichever stands = Unit {0}

-- the word, or what stands in its place
pub parts-either : {R S B : Type 0} {Still : TextFault → List ℕ → List ℕ → Type 0} {choose : Reader Bool} {word_text : Bool → List ℕ} {Said : Bool → List ℕ → Type 0} {make : R → B} {text : R → List ℕ} {Fits Loose : R → Type 0} {Before : R → List ℕ → Type 0}
    {other_make : S → B} {other_text : S → List ℕ} {OtherFits OtherLoose : S → Type 0} {OtherBefore : S → List ℕ → Type 0}
    (next : Bool → Reader B) → Reads Still choose word_text Whichever Whichever Said
    → ReadsParts Still (next true) make text Fits Loose Before → ReadsParts Still (next false) other_make other_text OtherFits OtherLoose OtherBefore
    → ((parts : R) (rest : List ℕ) → Fits parts → Before parts rest → Said true (text parts ++ rest))
    → ((parts : S) (rest : List ℕ) → OtherFits parts → OtherBefore parts rest → Said false (other_text parts ++ rest))
    → ReadsParts {R = R ⊎ S} Still (then_reads choose next) (either make other_make) (either (λ parts. word_text true ++ text parts) (λ parts. word_text false ++ other_text parts))
    (either Fits OtherFits) (either Loose OtherLoose) (either Before OtherBefore)
parts-either {R} {S} {B} {Still} {choose} {word_text} {Said} {make} {text} {Fits} {Loose} {Before} {other_make} {other_text} {OtherFits} {OtherLoose} {OtherBefore} next choice behind instead said unsaid =
    parts-as
    (parts-then {R = Chosen R S} {make = chosen make other_make} {more_text = chosen text other_text} {MoreFit = chosen Fits OtherFits} {MoreLoose = chosen Loose OtherLoose} {Behind = chosen Before OtherBefore} choice each follows)
    (record { parts = parts; fits = fits; loose = loosely; texts = texts }) (either make other_make) makes
  where
    each : (stands : Bool) → ReadsParts Still (next stands) (chosen make other_make stands) (chosen text other_text stands) (chosen Fits OtherFits stands) (chosen Loose OtherLoose stands) (chosen Before OtherBefore stands)
    each true = behind
    each false = instead

    follows : (stands : Bool) (p : Chosen R S stands) (rest : List ℕ) → Whichever stands → chosen Fits OtherFits stands p → chosen Before OtherBefore stands p rest → Said stands (chosen text other_text stands p ++ rest)
    follows true p rest any fits before = said p rest fits before
    follows false p rest any fits before = unsaid p rest fits before

    arrange : (stands : Bool) × Chosen R S stands → R ⊎ S
    arrange (true, p) = inl p
    arrange (false, p) = inr p

    makes : (p : (stands : Bool) × Chosen R S stands) → either make other_make (arrange p) ≡ chosen make other_make p.0 p.1
    makes (true, p) = refl
    makes (false, p) = refl

    parts : (q : R ⊎ S) → either Fits OtherFits q
        → (p : (stands : Bool) × Chosen R S stands) × BothFit Whichever (chosen Fits OtherFits) p × (arrange p ≡ q) × ((rest : List ℕ) → either Before OtherBefore q rest → chosen Before OtherBefore p.0 p.1 rest)
    parts (inl p) fit = ((true, p), (tt, fit), refl, λ rest before. before)
    parts (inr p) fit = ((false, p), (tt, fit), refl, λ rest before. before)

    fits : (p : (stands : Bool) × Chosen R S stands) → BothFit Whichever (chosen Fits OtherFits) p → either Fits OtherFits (arrange p)
    fits (true, p) fit = fit.1
    fits (false, p) fit = fit.1

    loosely : (p : (stands : Bool) × Chosen R S stands) → BothFit Whichever (chosen Loose OtherLoose) p → either Loose OtherLoose (arrange p)
    loosely (true, p) loose = loose.1
    loosely (false, p) loose = loose.1

    texts : (p : (stands : Bool) × Chosen R S stands) → BothFit Whichever (chosen Loose OtherLoose) p
        → both_text word_text (chosen text other_text) p ≡ either (λ parts. word_text true ++ text parts) (λ parts. word_text false ++ other_text parts) (arrange p)
    texts (true, p) loose = refl
    texts (false, p) loose = refl

-- whether a word stands there in place of another
pub reads-choice : {Still : TextFault → List ℕ → List ℕ → Type 0} (b : ℕ) (bs : List ℕ) → Reads Still (choice_at (b ∷ bs)) (optional_text (b ∷ bs)) Whichever Whichever (BeforeChoice (b ∷ bs))
reads-choice {Still} b bs = reads-reader Still (choice_at (b ∷ bs)) (optional_text (b ∷ bs)) Whichever (BeforeChoice (b ∷ bs)) (reader-choice b bs)

-- whether a byte stands there, which may be missing
pub reads-optional : {Still : TextFault → List ℕ → List ℕ → Type 0} (b : ℕ) → Reads Still (optional_at (b ∷ [])) (optional_text (b ∷ [])) Whichever Whichever (BeforeOptional b)
reads-optional {Still} b = reads-reader Still (optional_at (b ∷ [])) (optional_text (b ∷ [])) Whichever (BeforeOptional b) (reader-optional b)
