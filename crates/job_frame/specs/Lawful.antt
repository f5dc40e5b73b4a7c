-- Tasks whose bytes have one status.
use Rattle.std.specs.Prelude.{◌≡◌, ℕ, List, Some}
use Rattle.ev_outside.specs.Shelf.{Files}
use Rattle.job_frame.specs.Task.{Outcome, Task}
use Rattle.job_frame.specs.Writes.{HoldsAll}
use Rattle.job_frame.specs.declared.status.Status.TheVariants as status

-- the same files hold what both outcomes wrote
pub record AreWrittenAlike (o p : Outcome) : Type 0 where
  pub files : Files
  pub one : HoldsAll o.writes (Some files)
  pub other : HoldsAll p.writes (Some files)

-- what each command proves of its own task: its answers to the same bytes have one status, and a
-- budget alone stops it
pub record IsLawful {C : Type 0} (task : Task C) : Type 0 where
  pub one_status : (bytes : List (List ℕ)) (o p : Outcome) → task.answers bytes o
      → task.answers bytes p → (task.is_open → AreWrittenAlike o p) → o.status ≡ p.status
  pub stopped : (bytes : List (List ℕ)) (o : Outcome) → task.answers bytes o
      → o.status ≡ status.Stopped → task.has_budget
