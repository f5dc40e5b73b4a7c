-- Items that ask for others: each is read as the first of a list of states asks, which it takes
-- away, and puts others in its place. So the nodes of a tree stand in preorder, each by what the
-- way down to it says.
use Rattle.std.specs.Prelude.{ℕ, zero, suc, List, [], ◌∷◌, ◌++◌, length, Result, Ok, Err, if◌then◌else◌, Option, None, Some, ◌+◌}
use Rattle.ev_text.specs.Readers.{Reader, optional_at}
use Rattle.ev_text.specs.Scans.{and_then}
use Rattle.ev_text.specs.declared.TextFault.{TextFault}
use Rattle.ev_text.specs.declared.TextFault.TheVariants.{End, TooLarge}

-- items until nothing is asked for any more, and at most so many
abbrev pub few_asked : {A S : Type 0} → (S → Reader A) → (S → A → List S) → ℕ → List S
    → Reader (List A)
few_asked read next most [] s = Ok ([], s)
few_asked read next zero (state ∷ states) s = Err (End s.1)
few_asked read next (suc most) (state ∷ states) s =
    and_then (read state s) (λ item.
    and_then (few_asked read next most (next state item.0 ++ states) item.1) (λ items.
    Ok (item.0 ∷ items.0, items.1)))

-- items until nothing is asked for any more; no text has more of them than bytes
abbrev pub each_asked : {A S : Type 0} → (S → Reader A) → (S → A → List S) → List S
    → Reader (List A)
each_asked read next states s = few_asked read next (suc (length s.0)) states s

-- each item is as the state asks that it takes away, and in the end nothing is asked for
abbrev pub AllAsked : {A S : Type 0} → (S → A → Type 0) → (S → A → List S) → List S → List A
    → Type 0
AllAsked Fits next [] [] = Unit {0}
AllAsked Fits next (state ∷ states) [] = ⊥
AllAsked Fits next [] (a ∷ others) = ⊥
AllAsked Fits next (state ∷ states) (a ∷ others) =
    Fits state a × AllAsked Fits next (next state a ++ states) others

-- a value that stands there, and a byte may not
abbrev pub unless_byte : {A : Type 0} → ℕ → Reader A → Reader A
unless_byte b read s =
    and_then (optional_at (b ∷ []) s) (λ marked.
    if marked.0 then Err (TooLarge s.1) else read marked.1)

abbrev pub or_told : {A : Type 0} → ℕ → A × (List ℕ × ℕ) → Option ℕ
    → Result (A × (List ℕ × ℕ)) TextFault
or_told at found None = Ok found
or_told at found (Some place) = Err (TooLarge (at + place))

-- a value that is tested once it is whole: where it breaks a rule, the number that does stands so
-- many bytes behind its beginning
abbrev pub tested_at : {A : Type 0} → Reader A → (A → Option ℕ) → Reader A
tested_at read broken s = and_then (read s) (λ found. or_told s.1 found (broken found.0))
