-- Readers of texts from left to right, put together from few. A reader answers the value that stands at a scan, with the
-- scan behind it, or the first fault from the left.
use Rattle.std.specs.Prelude.{ℕ, zero, suc, ℤ, pos, negsuc, Bool, true, false, List, [], ◌∷◌, length, nat_eq, if◌then◌else◌, Result, Ok, Err}
use Rattle.ev_text.specs.Scans.{and_then, rest_of, whole_at, word_at}
use Rattle.ev_text.specs.declared.TextFault.{TextFault}
use Rattle.ev_text.specs.declared.TextFault.TheVariants.{NotWhole, TooLarge, Word, End}

abbrev pub Reader : Type 0 → Type 0
Reader A = List ℕ × ℕ → Result (A × (List ℕ × ℕ)) TextFault

-- a value that nothing is read for
abbrev pub answer : {A : Type 0} → A → Reader A
answer value s = Ok (value, s)

-- what stands behind a value depends on it
abbrev pub then_reads : {A B : Type 0} → Reader A → (A → Reader B) → Reader B
then_reads read next s = and_then (read s) (λ found. next found.0 found.1)

-- a word, and what stands behind it
abbrev pub behind_word : {A : Type 0} → List ℕ → Reader A → Reader A
behind_word word read s = and_then (word_at word s) read

abbrev pub if_taken : List ℕ × ℕ → Result (List ℕ × ℕ) TextFault →
    Result (Bool × (List ℕ × ℕ)) TextFault
if_taken s (Ok t) = Ok (true, t)
if_taken s (Err fault) = Ok (false, s)

-- whether a word stands there, which may be missing: it is taken if it does
abbrev pub optional_at : List ℕ → Reader Bool
optional_at word s = if_taken s (word_at word s)

abbrev pub unless_cut : List ℕ × ℕ → Result (List ℕ × ℕ) TextFault →
    Result (Bool × (List ℕ × ℕ)) TextFault
unless_cut s (Ok t) = Ok (true, t)
unless_cut s (Err (End at)) = Err (End at)
unless_cut s (Err (NotWhole at)) = Ok (false, s)
unless_cut s (Err (TooLarge at)) = Ok (false, s)
unless_cut s (Err (Word at)) = Ok (false, s)

-- whether a word stands there in place of another: it is taken if it does, and a text that ends within it has that fault
abbrev pub choice_at : List ℕ → Reader Bool
choice_at word s = unless_cut s (word_at word s)

-- a number from 1 to limit
abbrev pub positive_at : ℕ → Reader ℕ
positive_at limit s =
    and_then (whole_at limit s) (λ found. if nat_eq found.0 0 then Err (NotWhole s.1) else Ok found)

-- items, each behind a mark, up to the word that ends them, and at most so many
abbrev pub few_behind : {A : Type 0} → List ℕ → List ℕ → Reader A → ℕ → Reader (List A)
few_behind mark end read zero s = Err (End s.1)
few_behind mark end read (suc most) s =
    and_then (optional_at mark s) (λ marked.
    if marked.0 then and_then (read marked.1) (λ item.
    and_then (few_behind mark end read most item.1) (λ items. Ok (item.0 ∷ items.0, items.1)))
    else and_then (word_at end marked.1) (λ t. Ok ([], t)))

-- items, each behind a mark, up to the word that ends them; no text has more of them than bytes
abbrev pub each_behind : {A : Type 0} → List ℕ → List ℕ → Reader A → Reader (List A)
each_behind mark end read s = few_behind mark end read (length s.0) s

-- one item at least, parted by marks, up to the word that ends them
abbrev pub list_at : {A : Type 0} → List ℕ → List ℕ → Reader A → Reader (List A)
list_at mark end read =
    then_reads read (λ first.
    then_reads (each_behind mark end read) (λ others. answer (first ∷ others)))

-- so many items
abbrev pub so_many : {A : Type 0} → ℕ → Reader A → Reader (List A)
so_many zero read = answer []
so_many (suc count) read =
    then_reads read (λ first. then_reads (so_many count read) (λ others. answer (first ∷ others)))

-- the text ends behind the value
abbrev pub whole_text : {A : Type 0} → A × (List ℕ × ℕ) → Result A TextFault
whole_text found = if nat_eq (length (rest_of found.1)) 0 then Ok found.0 else Err (Word found.1.1)

-- the value that a text is, from its beginning to its end
abbrev pub whole_with : {A : Type 0} → Reader A → List ℕ → Result A TextFault
whole_with read bytes = and_then (read (bytes, 0)) whole_text

-- a number up to a limit that keeps a rule; one that breaks the rule is out of range, as one past the limit is
abbrev pub number_where : ℕ → (ℕ → Bool) → Reader ℕ
number_where limit keeps s =
    and_then (whole_at limit s) (λ found.
    if keeps found.0 then Ok found else Err (TooLarge s.1))

-- so many items, one behind the other; how an item is read depends on a state, which goes from item to item
abbrev pub many_from : {A S : Type 0} → (S → Reader A) → (S → A → S) → ℕ → S → Reader (List A)
many_from read next zero state = answer []
many_from read next (suc count) state =
    then_reads (read state) (λ first.
    then_reads (many_from read next count (next state first)) (λ others. answer (first ∷ others)))

-- so many items, each behind a mark, and then the word that ends them
abbrev pub exactly_from : {A S : Type 0} → List ℕ → List ℕ → (S → Reader A) → (S → A → S) → ℕ → S
    → Reader (List A)
exactly_from mark end read next zero state = behind_word end (answer [])
exactly_from mark end read next (suc count) state =
    behind_word mark (then_reads (read state) (λ first.
    then_reads (exactly_from mark end read next count (next state first)) (λ others.
    answer (first ∷ others))))

-- items, each behind a mark, up to the word that ends them, and at most so many
abbrev pub few_from : {A S : Type 0} → List ℕ → List ℕ → (S → Reader A) → (S → A → S) → ℕ → S
    → Reader (List A)
few_from mark end read next zero state s = Err (End s.1)
few_from mark end read next (suc most) state s =
    and_then (optional_at mark s) (λ marked.
    if marked.0 then and_then (read state marked.1) (λ item.
    and_then (few_from mark end read next most (next state item.0) item.1) (λ items.
    Ok (item.0 ∷ items.0, items.1)))
    else and_then (word_at end marked.1) (λ t. Ok ([], t)))

-- items, each behind a mark, up to the word that ends them; no text has more of them than bytes
abbrev pub each_from : {A S : Type 0} → List ℕ → List ℕ → (S → Reader A) → (S → A → S) → S
    → Reader (List A)
each_from mark end read next state s = few_from mark end read next (length s.0) state s

-- the number behind a sign that stands at a place; 0 has no sign, and a number out of range is told at its sign
abbrev pub negated : ℕ → ℕ × (List ℕ × ℕ) → Result (ℤ × (List ℕ × ℕ)) TextFault
negated at (zero, t) = Err (TooLarge at)
negated at (suc n, t) = Ok (negsuc n, t)

abbrev pub below_zero : ℕ → Result (ℕ × (List ℕ × ℕ)) TextFault →
    Result (ℤ × (List ℕ × ℕ)) TextFault
below_zero at (Ok found) = negated at found
below_zero at (Err (NotWhole there)) = Err (NotWhole there)
below_zero at (Err (TooLarge there)) = Err (TooLarge at)
below_zero at (Err (Word there)) = Err (Word there)
below_zero at (Err (End there)) = Err (End there)

abbrev pub with_sign : ℕ → ℕ → Bool × (List ℕ × ℕ) → Result (ℤ × (List ℕ × ℕ)) TextFault
with_sign limit at (true, t) = below_zero at (whole_at limit t)
with_sign limit at (false, t) = and_then (whole_at limit t) (λ found. Ok (pos found.0, found.1))

-- a number up to a limit in size, with a `-` where it is below 0
abbrev pub signed_at : ℕ → Reader ℤ
signed_at limit s = and_then (optional_at (45 ∷ []) s) (with_sign limit s.1)
