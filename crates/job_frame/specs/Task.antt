-- A job as data: which files it reads, in order, and what it answers to their bytes.
use Rattle.std.specs.Prelude.{◌≡◌, ℕ, ◌≤◌, List, [], ◌∷◌, length, take, Option, None, Some}
use Rattle.ev_outside.specs.Shelf.{Files, bytes_under}
use Rattle.job_frame.specs.Writes.{Written}
use Rattle.job_frame.specs.declared.status.Status.{Status}
use Rattle.job_frame.specs.declared.status.Status.TheVariants as status

-- a file that is read, and how many of its bytes at most
pub record Read : Type 0 where
  pub name : List ℕ
  pub most : ℕ

-- an answer: its status, the files that are written, in order, and the text that is put behind them
pub record Outcome : Type 0 where
  pub status : Status
  pub writes : List Written
  pub text : List ℕ

-- a job whose causes are such values
pub record Task (C : Type 0) : Type 1 where
  -- the files that are read, in order
  pub reads : List Read
  -- the bytes of the first of them break no rule, so that the next is read
  pub goes_on : List (List ℕ) → Type 0
  -- what is answered to the bytes of all of them
  pub answers : List (List ℕ) → Outcome → Type 0
  -- what is heard of an answer with this status and this text, if anything is
  pub heard : Status → List ℕ → Option C → Type 0
  -- of the file of this name it is asked, before any is read, whether it can be written
  pub asks : List ℕ → Type 0
  -- these files are written before an answer is sought
  pub writes_first : List Written → Type 0
  -- these bytes leave open what is found, and so the status: the written files tell it
  pub is_open : Type 0
  -- a budget may end the job
  pub has_budget : Type 0

-- the job did what it was asked for, or refused it, or its budget ended it
abbrev pub IsAnswered : Status → Type 0
IsAnswered status.Done = Unit {0}
IsAnswered status.Negative = Unit {0}
IsAnswered status.Refused = Unit {0}
IsAnswered status.Stopped = Unit {0}
IsAnswered other = ⊥

-- the bytes that a read of the name for so many gives; where the shelf does not tell them, any
-- of this count
abbrev pub AreReadUpTo : ℕ → Option Files → List ℕ → List ℕ → Type 0
AreReadUpTo most None name bytes = length bytes ≤ most
AreReadUpTo most (Some files) name bytes = bytes ≡ take most (bytes_under files name)

-- the bytes that the reads give, one after another
abbrev pub AreRead : Option Files → List Read → List (List ℕ) → Type 0
AreRead files [] [] = Unit {0}
AreRead files (r ∷ rs) (bytes ∷ more) =
    AreReadUpTo r.most files r.name bytes × AreRead files rs more
AreRead files [] (bytes ∷ more) = ⊥
AreRead files (r ∷ rs) [] = ⊥

-- the task answers so to these files
pub record Answers {C : Type 0} (task : Task C) (files : Option Files) (o : Outcome) : Type 0 where
  pub bytes : List (List ℕ)
  pub read : AreRead files task.reads bytes
  pub answer : task.answers bytes o

-- the shelf tells all that is read
abbrev pub Tells : List Read → Option Files → Type 0
Tells [] files = Unit {0}
Tells (r ∷ rs) None = ⊥
Tells (r ∷ rs) (Some files) = Unit {0}
