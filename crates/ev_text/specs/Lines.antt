-- Lines of so many items.
use Rattle.std.specs.Prelude.{ℕ, zero, suc, List, [], ◌∷◌, ◌++◌, codes}
use Rattle.ev_text.specs.Readers.{Reader, answer, behind_word, exactly_from, then_reads}

-- a line that begins with a word, with so many items, each behind a space; the word takes the first space with it
abbrev pub line_of : {A S : Type 0} → List ℕ → (S → Reader A) → (S → A → S) → ℕ → S
    → Reader (List A)
line_of word read next zero state = behind_word (word ++ 10 ∷ []) (answer [])
line_of word read next (suc count) state =
    behind_word (word ++ codes " ") (then_reads (read state) (λ first.
    then_reads (exactly_from (codes " ") (10 ∷ []) read next count (next state first)) (λ others.
    answer (first ∷ others))))
