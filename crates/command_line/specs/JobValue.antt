-- The job that a value of the program stands for.
use Rattle.std.specs.Prelude.{◌≡◌, ◌≢◌, ◌≤◌, ◌∷◌, IfOk, IfSome, List, Option, Result, length, map, option_map, string_bytes, true}
use Rattle.clap.specs.Words.{Text}
use Rattle.call_words.specs.Names.{are_different}
use Rattle.command_line.specs.Words.{BoundFleets, FixedRoute, PlanFleet, PlanMixed, CheckPlan, ConvertFile, MakeInstance, ImprovePlan, MixedJob, ProofJob, ProveRoute, bound_check_job_of, bound_job_of, check_job_of, convert_job_of, fleet_job_of, improve_job_of, job_with, make_job_of, mixed_job_of, most_kinds, proof_job_of}
use Rattle.command_line.specs.Words as words
use Rattle.command_line.specs.declared.FleetWords.{FleetWords}
use Rattle.command_line.specs.declared.Job.{Job}
use Rattle.command_line.specs.declared.MixedWords.{MixedWords}
use Rattle.command_line.specs.declared.ProofWords.{ProofWords}
use Rattle.command_line.specs.declared.Job.TheVariants.{Bound, Fixed, Fleet, Check, CheckBound, CheckMixed, CheckRoute, Convert, Make, Mixed, Improve, Prove}

-- the job of proving, or of judging a proof
abbrev pub proof_value : ProofWords → ProofJob
proof_value w =
    proof_job_of (string_bytes w.file) (string_bytes w.route) (string_bytes w.cert) w.options

-- the names of the files of instances
abbrev pub files_of : MixedWords → List Text
files_of w = map string_bytes w.files.items

-- the job of planning for several kinds, or of judging that
abbrev pub mixed_value : MixedWords → MixedJob
mixed_value w = mixed_job_of (string_bytes w.plan) (string_bytes w.cert) (files_of w) w.limit

abbrev pub job_value : Job → words.Job
job_value (Fixed w) = FixedRoute (job_with (string_bytes w.file) (string_bytes w.route) w.options)
job_value (Fleet w) =
    PlanFleet (fleet_job_of (string_bytes w.file) (string_bytes w.plan) (string_bytes w.cert)
    w.limit w.nodes)
job_value (Check w) =
    CheckPlan (check_job_of (string_bytes w.file) (string_bytes w.plan) (string_bytes w.cert) w.limit)
job_value (Convert w) =
    ConvertFile (convert_job_of (string_bytes w.file) (string_bytes w.outfile)
    w.time_digits w.energy_digits)
job_value (Make w) =
    MakeInstance (make_job_of w.seed w.customers w.stations (string_bytes w.outfile))
job_value (Bound w) =
    BoundFleets (bound_job_of (string_bytes w.file) (string_bytes w.cert) w.near w.limit)
job_value (CheckBound w) =
    words.CheckBound (bound_check_job_of (string_bytes w.file) (string_bytes w.cert) w.limit)
job_value (Prove w) = ProveRoute (proof_value w)
job_value (CheckRoute w) = words.CheckRoute (proof_value w)
job_value (Improve w) =
    ImprovePlan (improve_job_of (string_bytes w.file) (string_bytes w.plan)
    (string_bytes w.outfile) w.limit)
job_value (Mixed w) = PlanMixed (mixed_value w)
job_value (CheckMixed w) = words.CheckMixed (mixed_value w)

-- what is more of the words of `fleet`: the two files that are written are different ones, and the search may look at
-- one node at least
pub record IsFleetJob (w : FleetWords) : Type 0 where
  pub files : string_bytes w.plan ≢ string_bytes w.cert
  pub nodes : IfSome w.nodes (λ nodes. 1 ≤ nodes)

-- what is more of the words of `mixed` and `check-mixed`: there is a file of an instance, there are
-- no more than the most, and all files are different ones
pub record IsMixedJob (w : MixedWords) : Type 0 where
  pub some : 1 ≤ length (files_of w)
  pub few : length (files_of w) ≤ most_kinds
  pub different : are_different (string_bytes w.plan ∷ string_bytes w.cert ∷ files_of w) ≡ true

-- the same of every job
abbrev pub IsJob : Job → Type 0
IsJob (Fleet w) = IsFleetJob w
IsJob (Mixed w) = IsMixedJob w
IsJob (CheckMixed w) = IsMixedJob w
IsJob other = Unit {0}

-- the answer stands for the job, unless it is want of memory
abbrev pub AnswersJob : {E : Type 0} → Result (Option Job) E → Option words.Job → Type 0
AnswersJob result job = IfOk result (λ found. option_map job_value found ≡ job)
