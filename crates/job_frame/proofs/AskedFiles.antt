-- What was asked of several files, and what a command finds behind it.
use Rattle.std.proofs.Common.{◌≡◌, ◌∙◌, ℕ, List, Result, Ok, Err, inr, refl}
use Rattle.ev_outside.specs.Shelf.{ShelfState}
use Rattle.ev_outside.specs.declared.shelf.ShelfFault.{ShelfFault}
use Rattle.job_frame.proofs.FileReads.{finds_since, finds_unsought, never_fall_since, nothing_fails, nothing_falls, ok_is_no_error}
use Rattle.job_frame.proofs.FileWrites.{counts_since, failed_since}
use Rattle.job_frame.specs.Asks.{Asks}
use Rattle.job_frame.specs.Faults.{FailsAsking}
use Rattle.job_frame.specs.Finds.{Finds}
use Rattle.job_frame.specs.Task.{Task}
use Rattle.job_frame.specs.declared.found.Found.{Found}

fails_among : {P R : List ℕ → Type 0} {before after : ShelfState} → ((name : List ℕ) → P name → R name) → FailsAsking P before after → FailsAsking R before after
fails_among {P} {R} {before} {after} among fails = record {
  name = fails.name;
  is_asked = among fails.name fails.is_asked;
  failed = fails.failed;
}

-- files were asked, which are some of these
pub asks_some : {A : Type 0} {P R : List ℕ → Type 0} {before after : ShelfState} {asked : Result A ShelfFault} → ((name : List ℕ) → P name → R name) → Asks P before after asked → Asks R before after asked
asks_some {A} {P} {R} {before} {after} {asked} among asks = record {
  failed = λ is. fails_among among (asks.failed is);
  stays = asks.stays;
  falls = asks.falls;
  files = asks.files;
}

-- none was asked
pub asks_none : {A : Type 0} {a : A} {R : List ℕ → Type 0} (shelf : ShelfState) → Asks {A = A} R shelf shelf (Ok a)
asks_none {A} {a} {R} shelf = record {
  failed = λ is. absurd (ok_is_no_error is);
  stays = λ none. nothing_fails shelf;
  falls = nothing_falls shelf;
  files = refl;
}

-- others were asked behind those that can be written
pub asks_then : {A B : Type 0} {a : A} {R : List ℕ → Type 0} {before later after : ShelfState} {asked : Result B ShelfFault} → Asks {A = A} R before later (Ok a) → Asks R later after asked → Asks R before after asked
asks_then {A} {B} {a} {R} {before} {later} {after} {asked} first then =
    let stays = first.stays (λ failed. ok_is_no_error failed) in
    record {
      failed = λ is.
          let fails = then.failed is in
          record { name = fails.name; is_asked = fails.is_asked; failed = failed_since before later after fails.name stays fails.failed };
      stays = λ none. counts_since before later after stays (then.stays none);
      falls = never_fall_since before later after first.falls then.falls;
      files = then.files ∙ first.files;
    }

-- one can't be written, or memory was refused
pub finds_unasked : {C : Type 0} {A : Type 0} {task : Task C} {before after : ShelfState} {fault : ShelfFault} → Asks {A = A} task.asks before after (Err fault) → Finds task before after (Err fault)
finds_unasked {C} {A} {task} {before} {after} {fault} asks = finds_unsought {A = A} task before after fault (λ is. inr (asks.failed is)) asks.stays asks.falls asks.files

-- all can be, and this is found then
pub finds_asked : {C : Type 0} {A : Type 0} {a : A} {task : Task C} {before later after : ShelfState} {found : Result (Found C) ShelfFault} → Asks {A = A} task.asks before later (Ok a) → Finds task later after found
    → Finds task before after found
finds_asked {C} {A} {a} {task} {before} {later} {after} {found} asks finds = finds_since task before later after found asks.files (asks.stays (λ failed. ok_is_no_error failed)) asks.falls finds
