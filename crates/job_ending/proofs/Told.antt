-- What is told at an exit status, by what is told at the code that it is of; and what is told of words that were had or not.
use Rattle.std.proofs.Common.{◌≡◌, ◌≢◌, ◌∙◌, Err, IfErr, IfOk, List, Ok, Option, Result, Some, sym, ℕ}
use Rattle.std.specs.Prelude.{IsNone}
use Rattle.std.specs.declared.io.Error.{Error}
use Rattle.ev_outside.specs.declared.failure.Failure.{Failure}
use Rattle.job_ending.specs.Ending.{IsLastFailure, IsToldAt}
use Rattle.job_ending.specs.declared.message.Message.{Message}
use Rattle.job_ending.specs.declared.message.Message.TheVariants as message
use Rattle.job_frame.specs.Codes.{code_of}
use Rattle.job_frame.specs.declared.status.Status.TheVariants as status

pub told_at : (exit code : ℕ) (of_output of_file : Option Error) (asked : Option (List ℕ)) (failure : Option Failure) (told : Option Message) → exit ≡ code
    → (code ≡ code_of status.Memory → told ≡ Some message.Memory) → (code ≡ code_of status.Fault → told ≡ Some (message.Failure failure))
    → (code ≢ code_of status.Memory → code ≢ code_of status.Fault → IsNone told) → IsLastFailure of_output of_file asked failure → IsToldAt exit of_output of_file asked told
told_at exit code of_output of_file asked failure told same memory fault none last = record {
  memory = λ is. memory (sym same ∙ is);
  fault = λ is. (failure, fault (sym same ∙ is), last);
  none = λ other fails. none (λ is. other (same ∙ is)) (λ is. fails (same ∙ is));
}

-- ---- where words were had, and where not

pub whatever_had : {A E : Type 0} {P Q : A → Type 0} (had : Result A E) → ((a : A) → P a → Q a) → IfOk had P → IfOk had Q
whatever_had (Ok a) by p = by a p
whatever_had (Err e) by p = tt

pub told_apart : {A E : Type 0} (P Q R : E → Type 0) (had : Result A E) → IfErr had (λ e. P e → Q e × R e) → IfErr had (λ e. P e → Q e)
told_apart P Q R (Ok a) told = tt
told_apart P Q R (Err e) told = λ p. (told p).0
