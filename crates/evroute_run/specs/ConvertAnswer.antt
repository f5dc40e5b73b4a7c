-- What `convert` makes of the bytes of its file.
use Rattle.std.specs.Prelude.{◌≡◌, ℕ, List, [], ◌∷◌, Ok, Err}
use Rattle.command_line.specs.Words.{ConvertJob}
use Rattle.decimal_import.specs.Conversion.{conversion_of}
use Rattle.decimal_import.specs.Converted.{IsConverted}
use Rattle.refusal_lines.specs.RefusalText.{IsRule, refusal_text}
use Rattle.refusal_lines.specs.declared.refusal.Refusal.{Refusal}
use Rattle.refusal_lines.specs.declared.refusal.Refusal.TheVariants as refusal
use Rattle.job_frame.specs.Caps.{file_read}
use Rattle.evroute_causes.specs.Heard.{HearsRefusals}
use Rattle.job_frame.specs.Task.{Outcome, Task}
use Rattle.job_frame.specs.Writes.{Written}
use Rattle.job_frame.specs.declared.status.Status.{Status}
use Rattle.job_frame.specs.declared.status.Status.TheVariants as status
use Rattle.evroute_causes.specs.declared.cause.Cause.{Cause}

-- the bytes become this text: none of the rules of conversion is broken, each number under a key with a unit is the
-- least whole number with the digits of the words, and every other byte stays
pub record BecomesWhole (job : ConvertJob) (bytes whole : List ℕ) : Type 0 where
  pub unbroken : conversion_of bytes job.time_digits job.energy_digits ≡ Ok whole
  pub converted : IsConverted job.time_digits job.energy_digits bytes whole

-- the first broken rule: of the length of the bytes, the digits of the words, the first broken byte
abbrev pub IsConvertRefused : ConvertJob → List ℕ → Refusal → Type 0
IsConvertRefused job bytes (refusal.Literal fault) =
    conversion_of bytes job.time_digits job.energy_digits ≡ Err fault
IsConvertRefused job bytes other = ⊥

-- what the bytes become is written under the other name, and nothing is put
pub record WritesWhole (job : ConvertJob) (bytes : List ℕ) (ws : List Written) (text : List ℕ)
    : Type 0 where
  pub whole : List ℕ
  pub becomes : BecomesWhole job bytes whole
  pub written : ws ≡ record { name = job.outfile; bytes = whole } ∷ []
  pub text_is : text ≡ []

-- the first broken rule is put, and nothing is written
pub record PutsConvertRefusal (job : ConvertJob) (bytes : List ℕ) (ws : List Written)
    (text : List ℕ) : Type 0 where
  pub refusal : Refusal
  pub rule : IsRule refusal
  pub refused : IsConvertRefused job bytes refusal
  pub none : ws ≡ []
  pub text_is : text ≡ refusal_text refusal

-- the files and the text that belong to a status
abbrev pub ConvertAnswers : ConvertJob → List ℕ → Status → List Written → List ℕ → Type 0
ConvertAnswers job bytes status.Done ws text = WritesWhole job bytes ws text
ConvertAnswers job bytes status.Refused ws text = PutsConvertRefusal job bytes ws text
ConvertAnswers job bytes other ws text = ⊥

abbrev pub convert_answers : ConvertJob → List (List ℕ) → Outcome → Type 0
convert_answers job (bytes ∷ []) o = ConvertAnswers job bytes o.status o.writes o.text
convert_answers job other o = ⊥

abbrev pub convert_task : ConvertJob → Task Cause
convert_task job = record {
  reads = file_read job.file ∷ [];
  goes_on = λ before. Unit {0};
  answers = convert_answers job;
  heard = HearsRefusals;
  asks = λ name. ⊥;
  writes_first = λ ws. ⊥;
  is_open = ⊥;
  has_budget = ⊥;
}
