-- A set gives its words back.
use Rattle.std.specs.Prelude.{◌≡◌, ℕ, List}
use Rattle.std.proofs.Common.{◌∙◌, ap, sym}
use Rattle.customer_sets.specs.declared.large_set.LargeSet.TheInside.{Inside}
use Rattle.customer_sets.specs.LargeMembers.{AreWords, large_members, words_of, words_of-members}

abbrev pub restored_words : List ℕ → Inside
restored_words set = record { words = words_of set }

pub restored_words-members : (s : Inside) → AreWords s.words →
    restored_words (large_members s.words) ≡ s
restored_words-members s are =
    ap (λ (w : List ℕ). let r : Inside = record { words = w } in r) (words_of-members s.words are)

-- the words that a set came from
pub words_of-view : (words set : List ℕ) → large_members words ≡ set → AreWords words →
    words_of set ≡ words
words_of-view words set view are = ap words_of (sym view) ∙ words_of-members words are
