-- A clock that said that its time is up stays so.
use Rattle.std.proofs.Common.{◌≡◌, ◌∙◌, Bool, false, true, refl, sym}
use Rattle.std.specs.Prelude.{IsTrue}
use Rattle.std.proofs.lemmas.Bool.{false≢true}

-- where it hasn't said so, it hadn't before
pub not_before : (before after : Bool) → (IsTrue before → IsTrue after) → after ≡ false → before ≡ false
not_before false after stays none = refl
not_before true after stays none = absurd (false≢true (sym none ∙ stays refl))
