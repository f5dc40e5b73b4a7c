-- What is told of a program, and the job of telling it.
use Rattle.std.specs.Prelude.{◌≡◌, List, [], ◌++◌, codes, ℕ}
use Rattle.job_frame.specs.Heard.{HearsDone}
use Rattle.job_frame.specs.Task.{Outcome, Task}
use Rattle.job_frame.specs.declared.status.Status.TheVariants as status
use Rattle.job_telling.specs.declared.words.Told.{Told}
use Rattle.job_telling.specs.declared.words.Told.TheVariants.{Help, Version}

-- the version of all programs
abbrev pub version : List ℕ
version = codes "0.1.0"

-- the line of the version of a program of this name
abbrev pub version_text : List ℕ → List ℕ
version_text program = program ++ codes " " ++ version ++ codes "\n"

-- what is told of a program of this name, which is called so
abbrev pub told_text : List ℕ → List ℕ → Told → List ℕ
told_text program usage Help = usage
told_text program usage Version = version_text program

-- the text is put, and that is all
abbrev pub told_outcome : List ℕ → Outcome
told_outcome text = record { status = status.Done; writes = []; text = text }

-- the job reads no file, writes none and asks of none, and is done
abbrev pub tell_task : {C : Type 0} → List ℕ → List ℕ → Told → Task C
tell_task {C} program usage told = record {
  reads = [];
  goes_on = λ bytes. ⊥;
  answers = λ bytes o. o ≡ told_outcome (told_text program usage told);
  heard = HearsDone;
  asks = λ name. ⊥;
  writes_first = λ ws. ⊥;
  is_open = ⊥;
  has_budget = ⊥;
}
