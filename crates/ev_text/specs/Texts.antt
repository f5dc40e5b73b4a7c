-- Texts of values, put together from few, and what a fault from the left says of a text.
use Rattle.std.specs.Prelude.{◌≡◌, ◌⊎◌, ℕ, zero, suc, Bool, true, List, [], ◌∷◌, ◌++◌, drop, length, if◌then◌else◌}
use Rattle.std.specs.Char.{is_ascii_digit}
use Rattle.ev_text.specs.declared.TextFault.{TextFault}
use Rattle.ev_text.specs.declared.TextFault.TheVariants.{NotWhole, TooLarge, Word, End}

-- a word, where it stands
abbrev pub optional_text : List ℕ → Bool → List ℕ
optional_text word stands = if stands then word else []

-- items, each behind a mark
abbrev pub marked_texts : {A : Type 0} → List ℕ → (A → List ℕ) → List A → List ℕ
marked_texts mark text [] = []
marked_texts mark text (a ∷ others) = mark ++ text a ++ marked_texts mark text others

-- items, parted by marks
abbrev pub parted_texts : {A : Type 0} → List ℕ → (A → List ℕ) → List A → List ℕ
parted_texts mark text [] = []
parted_texts mark text (a ∷ others) = text a ++ marked_texts mark text others

-- items, one behind the other
abbrev pub joined_texts : {A : Type 0} → (A → List ℕ) → List A → List ℕ
joined_texts text [] = []
joined_texts text (a ∷ others) = text a ++ joined_texts text others

-- the bytes are the text of a value that fits
abbrev pub IsTextOf : {A : Type 0} → (A → List ℕ) → (A → Type 0) → List ℕ → Type 0
IsTextOf {A} text Fits bytes = (value : A) × Fits value × (text value ≡ bytes)

-- the bytes can be continued to a text of a language
abbrev pub Begins : (List ℕ → Type 0) → List ℕ → Type 0
Begins Language bytes = (more : List ℕ) × Language (bytes ++ more)

-- the byte where a fault is
abbrev pub fault_place : TextFault → ℕ
fault_place (NotWhole at) = at
fault_place (TooLarge at) = at
fault_place (Word at) = at
fault_place (End at) = at

-- the fault is another one than that the text ends too early
abbrev pub IsNoEnd : TextFault → Type 0
IsNoEnd (NotWhole at) = Unit {0}
IsNoEnd (TooLarge at) = Unit {0}
IsNoEnd (Word at) = Unit {0}
IsNoEnd (End at) = ⊥

-- each item is as the state before it asks; the state goes from item to item
abbrev pub AllFrom : {A S : Type 0} → (S → A → Type 0) → (S → A → S) → S → List A → Type 0
AllFrom Fits next state [] = Unit {0}
AllFrom Fits next state (a ∷ others) = Fits state a × AllFrom Fits next (next state a) others

-- so many items, each as the state before it asks
abbrev pub AreRun : {A S : Type 0} → (S → A → Type 0) → (S → A → S) → ℕ → S → List A → Type 0
AreRun Fits next count state items = AllFrom Fits next state items × (length items ≡ count)

-- so many items, each by itself
abbrev pub AreLooseRun : {A : Type 0} → (A → Type 0) → ℕ → List A → Type 0
AreLooseRun Loose zero [] = Unit {0}
AreLooseRun Loose zero (a ∷ items) = ⊥
AreLooseRun Loose (suc count) [] = ⊥
AreLooseRun Loose (suc count) (a ∷ items) = Loose a × AreLooseRun Loose count items

-- a first item in front of others, which depend on it
abbrev pub ConsFrom : {A : Type 0} → (A → Type 0) → (A → List A → Type 0) → List A → Type 0
ConsFrom Fits MoreFit [] = ⊥
ConsFrom Fits MoreFit (a ∷ all) = Fits a × MoreFit a all

abbrev pub ConsLoose : {A : Type 0} → (A → Type 0) → (List A → Type 0) → List A → Type 0
ConsLoose Loose MoreLoose [] = ⊥
ConsLoose Loose MoreLoose (a ∷ all) = Loose a × MoreLoose all

abbrev pub BeginsWithDigit : List ℕ → Type 0
BeginsWithDigit [] = ⊥
BeginsWithDigit (b ∷ bs) = is_ascii_digit b ≡ true

-- digits and signs alone
abbrev pub AreOfNumber : List ℕ → Type 0
AreOfNumber [] = Unit {0}
AreOfNumber (b ∷ bs) = ((is_ascii_digit b ≡ true) ⊎ (b ≡ 45)) × AreOfNumber bs

-- a number with which the text ends, at a place, is made longer by what the text goes on with
abbrev pub IsLonger : ℕ → List ℕ → List ℕ → Type 0
IsLonger at text more = AreOfNumber (drop at text) × BeginsWithDigit more

-- however the text goes on the fault stands, unless it is a number out of range that is made longer
abbrev pub StandsUnlessLonger : TextFault → List ℕ → List ℕ → Type 0
StandsUnlessLonger (NotWhole at) text more = Unit {0}
StandsUnlessLonger (TooLarge at) text more = IsLonger at text more → ⊥
StandsUnlessLonger (Word at) text more = Unit {0}
StandsUnlessLonger (End at) text more = Unit {0}
