-- What readers of lists owe: items parted by a mark up to a word that ends them, and so many items.
use Rattle.std.proofs.Common.{◌≡◌, ◌≢◌, ℕ, zero, suc, List, [], ◌∷◌, ◌++◌, length, refl, sym, ap, subst, append_assoc, append-nil, arith}
use Rattle.std.specs.List.{All}
use Rattle.std.proofs.lemmas.List.Elements.{All-cons, All-head, All-nil, All-tail}
use Rattle.ev_text.specs.Readers.{Reader, each_behind, answer, list_at, so_many, then_reads}
use Rattle.ev_text.specs.Texts.{joined_texts, marked_texts, parted_texts}
use Rattle.ev_text.proofs.MarkedLaws.{ended_text, reader-each}
use Rattle.ev_text.proofs.ReaderLaws.{IsReader, reader-as, reader-answer, reader-then}

-- a first item in front of others: their text, and what holds of them
abbrev pub cons_text : {A : Type 0} → (A → List ℕ) → (List A → List ℕ) → List A → List ℕ
cons_text text more_text [] = []
cons_text text more_text (a ∷ all) = text a ++ more_text all

abbrev pub ConsFits : {A : Type 0} → (A → Type 0) → (List A → Type 0) → List A → Type 0
ConsFits Fits MoreFit [] = ⊥
ConsFits Fits MoreFit (a ∷ all) = Fits a × MoreFit all

abbrev pub ConsBefore : {A : Type 0} → (List A → List ℕ → Type 0) → List A → List ℕ → Type 0
ConsBefore MoreBefore [] rest = Unit {0}
ConsBefore MoreBefore (a ∷ all) rest = MoreBefore all rest

abbrev front_or : {A : Type 0} → A → List A → A
front_or some [] = some
front_or some (a ∷ all) = a

abbrev back : {A : Type 0} → List A → List A
back [] = []
back (a ∷ all) = all

module _ {A : Type 0} (read : Reader A) (more : Reader (List A)) (text : A → List ℕ) (more_text : List A → List ℕ) (Fits : A → Type 0) (MoreFit : List A → Type 0)
    (Before : A → List ℕ → Type 0) (MoreBefore : List A → List ℕ → Type 0) (reader : IsReader read text Fits Before) (others : IsReader more more_text MoreFit MoreBefore) where
  abbrev OwnFits : A → List A → Type 0
  OwnFits a all = (ConsFits Fits MoreFit) all × ((front_or reader.example.0) all ≡ a)

  behind_first : (a : A) → Fits a → IsReader (then_reads more (λ rest. answer (a ∷ rest))) (λ all. more_text (back all)) (λ all. (ConsFits Fits MoreFit) all × ((front_or reader.example.0) all ≡ a)) (ConsBefore MoreBefore)
  behind_first a fits =
      reader-as (then_reads more (λ rest. answer (a ∷ rest))) (λ all. more_text (back all) ++ []) (λ all. more_text (back all)) (OwnFits a) (OwnFits a) (ConsBefore MoreBefore) (ConsBefore MoreBefore)
      (record { texts = λ all is. append-nil (more_text (back all)); to = λ all is. is; from = λ all is. is; before = λ all rest is before. before })
      (reader-then more (λ rest. answer (a ∷ rest)) more_text (λ rest all. []) MoreFit (OwnFits a) MoreBefore (ConsBefore MoreBefore) back others
      (λ rest fit. reader-as (answer (a ∷ rest)) (λ all. []) (λ all. []) (λ all. all ≡ a ∷ rest) (λ all. OwnFits a all × (back all ≡ rest)) (λ all left. Unit {0}) (ConsBefore MoreBefore)
      (record { texts = λ all is. refl; to = λ all is. made all rest fit is; from = λ all is. parts all rest is.0 is.1; before = λ all left is before. tt }) (reader-answer (a ∷ rest)))
      fit_behind before_behind)
    where
      made : (all rest : List A) → MoreFit rest → all ≡ a ∷ rest → OwnFits a all × (back all ≡ rest)
      made all rest fit is = subst (λ (xs : List A). ((ConsFits Fits MoreFit) xs × ((front_or reader.example.0) xs ≡ a)) × (back xs ≡ rest)) (sym is) (((fits, fit), refl), refl)

      parts : (all rest : List A) → OwnFits a all → back all ≡ rest → all ≡ a ∷ rest
      parts [] rest own is = absurd own.0
      parts (x ∷ xs) rest own is = λ i. own.1 i ∷ is i

      fit_behind : (all : List A) → OwnFits a all → MoreFit (back all)
      fit_behind [] own = absurd own.0
      fit_behind (x ∷ xs) own = own.0.1

      before_behind : (all : List A) (rest : List ℕ) → OwnFits a all → (ConsBefore MoreBefore) all rest → MoreBefore (back all) rest
      before_behind [] rest own before = absurd own.0
      before_behind (x ∷ xs) rest own before = before

  module _ (before_others : (a : A) (all : List A) (rest : List ℕ) → Fits a → MoreFit all → MoreBefore all rest → Before a (more_text all ++ rest)) where
    pub reader-cons : IsReader (then_reads read (λ first. then_reads more (λ rest. answer (first ∷ rest)))) (cons_text text more_text) (ConsFits Fits MoreFit) (ConsBefore MoreBefore)
    reader-cons =
        reader-as (then_reads read (λ first. then_reads more (λ rest. answer (first ∷ rest)))) (λ all. text ((front_or reader.example.0) all) ++ more_text (back all)) (cons_text text more_text) (ConsFits Fits MoreFit) (ConsFits Fits MoreFit) (ConsBefore MoreBefore) (ConsBefore MoreBefore)
        (record { texts = texts; to = λ all is. is; from = λ all is. is; before = λ all rest is before. before })
        (reader-then read (λ first. then_reads more (λ rest. answer (first ∷ rest))) text (λ first all. more_text (back all)) Fits (ConsFits Fits MoreFit) Before (ConsBefore MoreBefore) (front_or reader.example.0) reader behind_first fit_front before_front)
      where
        texts : (all : List A) → (ConsFits Fits MoreFit) all → text ((front_or reader.example.0) all) ++ more_text (back all) ≡ (cons_text text more_text) all
        texts [] fit = absurd fit
        texts (a ∷ all) fit = refl

        fit_front : (all : List A) → (ConsFits Fits MoreFit) all → Fits ((front_or reader.example.0) all)
        fit_front [] fit = absurd fit
        fit_front (a ∷ all) fit = fit.0

        before_front : (all : List A) (rest : List ℕ) → (ConsFits Fits MoreFit) all → (ConsBefore MoreBefore) all rest → Before ((front_or reader.example.0) all) (more_text (back all) ++ rest)
        before_front [] rest fit before = absurd fit
        before_front (a ∷ all) rest fit before = before_others a all rest fit.0 fit.1 before

-- so many items, one behind the other
module _ {A : Type 0} (read : Reader A) (text : A → List ℕ) (Fits : A → Type 0) (Before : A → List ℕ → Type 0) (reader : IsReader read text Fits Before)
    (before_any : (value : A) (rest : List ℕ) → Fits value → Before value rest) where
  abbrev pub AreSoMany : ℕ → List A → Type 0
  AreSoMany count items = All Fits items × (length items ≡ count)

  abbrev AnyBefore : List A → List ℕ → Type 0
  AnyBefore items rest = Unit {0}

  pub reader-many : (count : ℕ) → IsReader (so_many count read) (joined_texts text) (AreSoMany count) AnyBefore
  reader-many zero =
      reader-as (answer []) (λ items. []) (joined_texts text) (λ items. items ≡ []) (AreSoMany 0) AnyBefore AnyBefore
      (record { texts = λ items none. ap (joined_texts text) (sym none); to = λ items none. subst (AreSoMany 0) (sym none) (All-nil Fits, refl); from = λ items are. nothing items are.1; before = λ items rest are before. tt })
      (reader-answer [])
    where
      nothing : (items : List A) → length items ≡ 0 → items ≡ []
      nothing [] none = refl
      nothing (item ∷ items) none = absurd (omega (arith, none))
  reader-many (suc count) =
      reader-as (so_many (suc count) read) (cons_text text (joined_texts text)) (joined_texts text) (ConsFits Fits (AreSoMany count)) (AreSoMany (suc count)) (ConsBefore AnyBefore) AnyBefore
      (record { texts = texts; to = to; from = from; before = before })
      (reader-cons read (so_many count read) text (joined_texts text) Fits (AreSoMany count) Before AnyBefore reader (reader-many count) (λ item items rest fits are before. before_any item (joined_texts text items ++ rest) fits))
    where
      texts : (items : List A) → ConsFits Fits (AreSoMany count) items → cons_text text (joined_texts text) items ≡ joined_texts text items
      texts [] fit = absurd fit
      texts (item ∷ items) fit = refl

      to : (items : List A) → ConsFits Fits (AreSoMany count) items → AreSoMany (suc count) items
      to [] fit = absurd fit
      to (item ∷ items) fit = (All-cons Fits item items fit.0 fit.1.0, ap (λ n. suc n) fit.1.1)

      from : (items : List A) → AreSoMany (suc count) items → ConsFits Fits (AreSoMany count) items
      from [] are = absurd (omega (arith, are.1))
      from (item ∷ items) are = (All-head Fits item items are.0, (All-tail Fits item items are.0, omega (arith, are.1)))

      before : (items : List A) (rest : List ℕ) → AreSoMany (suc count) items → AnyBefore items rest → ConsBefore AnyBefore items rest
      before [] rest are any = tt
      before (item ∷ items) rest are any = tt

-- one item at least, parted by a byte, up to a word that ends them
module _ {A : Type 0} (b e : ℕ) (es : List ℕ) (read : Reader A) (text : A → List ℕ) (Fits : A → Type 0) (Before : A → List ℕ → Type 0) (reader : IsReader read text Fits Before)
    (other : e ≢ b) (before_mark : (value : A) (rest : List ℕ) → Fits value → Before value (b ∷ rest)) (before_end : (value : A) (rest : List ℕ) → Fits value → Before value (e ∷ rest)) where
  abbrev pub AreParted : List A → Type 0
  AreParted items = (items ≢ []) × All Fits items

  abbrev Anything : List A → List ℕ → Type 0
  Anything items rest = Unit {0}

  abbrev all_ended : List A → List ℕ
  all_ended items = parted_texts (b ∷ []) text items ++ (e ∷ es)

  abbrev ended : List A → List ℕ
  ended = ended_text b e es text

  pub reader-parted : IsReader (list_at (b ∷ []) (e ∷ es) read) (λ items. parted_texts (b ∷ []) text items ++ (e ∷ es)) AreParted Anything
  reader-parted =
      reader-as (list_at (b ∷ []) (e ∷ es) read) (cons_text text ended) all_ended (ConsFits Fits (All Fits)) AreParted (ConsBefore Anything) Anything
      (record { texts = texts; to = to; from = from; before = before })
      (reader-cons read (each_behind (b ∷ []) (e ∷ es) read) text ended Fits (All Fits) Before Anything reader (reader-each b e es read text Fits Before reader other before_mark before_end)
      (λ item items rest fits fit any. before_others item items rest fits))
    where
      before_others : (item : A) (items : List A) (rest : List ℕ) → Fits item → Before item (ended_text b e es text items ++ rest)
      before_others item [] rest fits = before_end item (es ++ rest) fits
      before_others item (next ∷ items) rest fits = before_mark item ((text next ++ marked_texts (b ∷ []) text items) ++ (e ∷ es) ++ rest) fits

      texts : (items : List A) → ConsFits Fits (All Fits) items → cons_text text (ended_text b e es text) items ≡ parted_texts (b ∷ []) text items ++ (e ∷ es)
      texts [] fit = absurd fit
      texts (item ∷ items) fit = sym (append_assoc (text item) (marked_texts (b ∷ []) text items) (e ∷ es))

      to : (items : List A) → ConsFits Fits (All Fits) items → AreParted items
      to [] fit = absurd fit
      to (item ∷ items) fit = (λ none. absurd (cc), All-cons Fits item items fit.0 fit.1)

      from : (items : List A) → AreParted items → ConsFits Fits (All Fits) items
      from [] are = absurd (are.0 refl)
      from (item ∷ items) are = (All-head Fits item items are.1, All-tail Fits item items are.1)

      before : (items : List A) (rest : List ℕ) → AreParted items → Anything items rest → ConsBefore Anything items rest
      before [] rest are any = tt
      before (item ∷ items) rest are any = tt
