-- Words that can be no options.
use Rattle.std.specs.Prelude.{◌==◌, Bool, true, not, List, ℕ, [], ◌∷◌}

-- the word does not begin with `-`, or is that alone
abbrev pub is_plain : List ℕ → Bool
is_plain [] = true
is_plain (b ∷ []) = true
is_plain (b ∷ c ∷ bs) = not (b == 45)
