-- The job that a value of the program stands for.
use Rattle.std.specs.Prelude.{◌≡◌, ◌≢◌, IfOk, Option, Result, option_map, string_bytes}
use Rattle.gap_words.specs.Words as words
use Rattle.gap_words.specs.Words.{CheckGap, PlanGap, check_job_of, plan_job_of}
use Rattle.gap_words.specs.declared.CheckWords.{CheckWords}
use Rattle.gap_words.specs.declared.PlanWords.{PlanWords}
use Rattle.gap_words.specs.declared.Job.{Job}
use Rattle.gap_words.specs.declared.Job.TheVariants.{Check, Plan, Tell}

-- the job of planning
abbrev pub plan_value : PlanWords → PlanGap
plan_value w =
    plan_job_of (string_bytes w.file) (string_bytes w.plan) (string_bytes w.proof)
    w.limit w.seconds (option_map (λ s. string_bytes s) w.start) w.seed w.effort w.nodes

-- the job of judging
abbrev pub check_value : CheckWords → CheckGap
check_value w =
    check_job_of (string_bytes w.file) (string_bytes w.plan) (string_bytes w.proof) w.limit

abbrev pub job_value : Job → words.Job
job_value (Plan w) = words.Planning (plan_value w)
job_value (Check w) = words.Checking (check_value w)
job_value (Tell told) = words.Telling told

-- what is more of the words of `plan`: the two files that are written are different ones
abbrev pub IsPlanJob : PlanWords → Type 0
IsPlanJob w = string_bytes w.plan ≢ string_bytes w.proof

-- the same of every job
abbrev pub IsJob : Job → Type 0
IsJob (Plan w) = IsPlanJob w
IsJob (Check w) = Unit {0}
IsJob (Tell told) = Unit {0}

-- the answer stands for the job, unless it is want of memory
abbrev pub AnswersJob : {E : Type 0} → Result (Option Job) E → Option words.Job → Type 0
AnswersJob result job = IfOk result (λ found. option_map job_value found ≡ job)
