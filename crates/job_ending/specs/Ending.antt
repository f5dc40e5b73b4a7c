-- What people are told when a program ends.
use Rattle.std.specs.Prelude.{◌≡◌, ◌≢◌, ℕ, List, [], ◌∷◌, ◌++◌, Option, None, Some, IsNone, codes}
use Rattle.std.specs.declared.io.Error.{Error}
use Rattle.ev_outside.specs.Shelf.{HasAsked}
use Rattle.ev_outside.specs.declared.failure.Failure.{Failure}
use Rattle.job_frame.specs.Codes.{code_of}
use Rattle.job_frame.specs.declared.status.Status.TheVariants as status
use Rattle.job_ending.specs.declared.message.Message.{Message}
use Rattle.job_ending.specs.declared.message.Message.TheVariants as message

-- People were told this message behind what they were told before. Whether it is kept doesn't
-- change.
abbrev pub Tells : Option (List Message) → Message → Option (List Message) → Type 0
Tells None message new = new ≡ None
Tells (Some old) message new = new ≡ Some (old ++ message ∷ [])

-- They were told this message, or nothing where there is none.
abbrev pub TellsIfSome : Option (List Message) → Option Message → Option (List Message) → Type 0
TellsIfSome old None new = new ≡ old
TellsIfSome old (Some message) new = Tells old message new

-- the name of the output, for people
abbrev pub output_name : List ℕ
output_name = codes "standard output"

-- a failure is told: of this cause, under a name that is right
abbrev pub TellsCause : Error → (List ℕ → Type 0) → Option Failure → Type 0
TellsCause cause IsName None = ⊥
TellsCause cause IsName (Some failure) = (failure.cause ≡ cause) × IsName failure.name.now

-- the failure that is told, by why the last call failed on the output, why it failed on the file
-- that was asked for last (no cause where none has failed), and the name of that file where it is
-- kept: that of the output, or else that of the file, or else none
abbrev pub IsLastFailure :
    Option Error → Option Error → Option (List ℕ) → Option Failure → Type 0
IsLastFailure (Some of_output) of_file asked told =
    TellsCause of_output (λ name. name ≡ output_name) told
IsLastFailure None (Some of_file) asked told =
    TellsCause of_file (λ name. HasAsked name asked) told
IsLastFailure None None asked told = IsNone told

-- what is told at an exit status where the words were had, by why the last call failed on the
-- output and on the file that was asked for last, and that name: that memory was refused, or that
-- a file or the output failed, and nothing else
pub record IsToldAt (code : ℕ) (of_output of_file : Option Error) (asked : Option (List ℕ))
    (told : Option Message) : Type 0 where
  pub memory : code ≡ code_of status.Memory → told ≡ Some message.Memory
  pub fault : code ≡ code_of status.Fault → (failure : Option Failure)
      × (told ≡ Some (message.Failure failure)) × IsLastFailure of_output of_file asked failure
  pub none : code ≢ code_of status.Memory → code ≢ code_of status.Fault → IsNone told
