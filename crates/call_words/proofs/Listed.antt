-- A text is among names where it is among what they point to.
use Rattle.std.proofs.Common.{◌≡◌, ◌||◌, ◌∷◌, [], List, Bor, ap, refl}
use Rattle.std.specs.List.{list_any}
use Rattle.std.specs.Str.{bytes_eq}
use Rattle.clap.specs.Words.{Text}
use Rattle.clap.specs.Walk.{texts}
use Rattle.call_words.specs.Names.{is_listed}

pub listed : (names : List (Bor Text)) (text : Text) → list_any (λ name. bytes_eq name.now text) names ≡ is_listed text (texts names)
listed [] text = refl
listed (name ∷ names) text = ap (λ rest. bytes_eq name.now text || rest) (listed names text)
