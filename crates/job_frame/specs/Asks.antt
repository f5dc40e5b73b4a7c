-- That it was asked whether files can be written.
use Rattle.std.specs.Prelude.{◌≡◌, ℕ, IsErrOf, List, Result}
use Rattle.ev_outside.specs.Shelf.{CountsNeverFall, CountsStay, ShelfState}
use Rattle.ev_outside.specs.declared.shelf.ShelfFault.{ShelfFault}
use Rattle.ev_outside.specs.declared.shelf.ShelfFault.TheVariants.{Failed}
use Rattle.job_frame.specs.Faults.{FailsAsking}

-- it was asked of files of these names: one can't be written, or no call failed; and no file changed
pub record Asks {A : Type 0} (IsAsked : List ℕ → Type 0)
    (before after : ShelfState) (asked : Result A ShelfFault) : Type 0 where
  pub failed : IsErrOf asked Failed → FailsAsking IsAsked before after
  pub stays : (IsErrOf asked Failed → ⊥) → CountsStay before after
  pub falls : CountsNeverFall before after
  pub files : after.files ≡ before.files
