-- The job that a value of the program stands for.
use Rattle.std.specs.Prelude.{◌≡◌, IfOk, IfSome, List, Option, Result, map, option_map, string_bytes, true}
use Rattle.std.specs.Borrow.{Bor}
use Rattle.clap.specs.Words.{Text}
use Rattle.call_words.specs.Names.{are_different}
use Rattle.view_words.specs.Clocks.{IsDayClock}
use Rattle.view_words.specs.Words as words
use Rattle.view_words.specs.Words.{ViewPlan, view_job_of, written_names}
use Rattle.view_words.specs.declared.Job.{Job}
use Rattle.view_words.specs.declared.Job.TheVariants.{Tell, View}
use Rattle.view_words.specs.declared.ViewWords.{ViewWords}

-- the job of showing a plan
abbrev pub view_value : ViewWords → ViewPlan
view_value w =
    view_job_of (string_bytes w.file) (string_bytes w.plan) w.limit w.route w.form w.exact
    w.clock
    (option_map (λ s. string_bytes s) w.places)
    (option_map (λ s. string_bytes s) w.svg) (option_map (λ s. string_bytes s) w.json)
    (option_map (λ s. string_bytes s) w.csv) (option_map (λ s. string_bytes s) w.map)

abbrev pub job_value : Job → words.Job
job_value (View w) = words.Viewing (view_value w)
job_value (Tell told) = words.Telling told

-- what is more of the words of showing a plan: the files that are written have different names, and
-- the clock is one
pub record IsViewJob (w : ViewWords) : Type 0 where
  pub different : are_different (written_names (view_value w)) ≡ true
  pub clock : IfSome w.clock IsDayClock

-- the same of every job
abbrev pub IsJob : Job → Type 0
IsJob (View w) = IsViewJob w
IsJob (Tell told) = Unit {0}

-- the names of files, where they are given
abbrev pub names_in : List (Option (Bor Text)) → List (Option Text)
names_in names = map (λ name. option_map (λ text. text.now) name) names

-- the answer stands for the job of showing a plan, unless it is want of memory
abbrev pub AnswersJob : {E : Type 0} → Result (Option ViewWords) E → Option ViewPlan → Type 0
AnswersJob result job = IfOk result (λ found. option_map view_value found ≡ job)
