-- Names that are listed, and names that are different ones.
use Rattle.std.specs.Prelude.{◌&&◌, Bool, true, not, List, [], ◌∷◌}
use Rattle.std.specs.List.{list_any}
use Rattle.std.specs.Str.{bytes_eq}
use Rattle.clap.specs.Words.{Text}

-- the text is one of the names
abbrev pub is_listed : Text → List Text → Bool
is_listed text names = list_any (λ name. bytes_eq name text) names

-- the names are pairwise different texts
abbrev pub are_different : List Text → Bool
are_different [] = true
are_different (name ∷ names) = not (is_listed name names) && are_different names
