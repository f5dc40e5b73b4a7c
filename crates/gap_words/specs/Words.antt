-- The job that the words of `evgap` name: a function of what the command finds in them.
use Rattle.std.specs.Prelude.{ℕ, ◌&&◌, Bool, List, [], ◌∷◌, Option, None, Some, is_none, codes, nat_lt, option_and_then, option_map, if◌then◌else◌}
use Rattle.std.specs.Str.{bytes_eq}
use Rattle.clap.specs.Words.{Row, Text, fault_of, first_of, matches_of}
use Rattle.call_words.specs.Matches.{job_unless, limit_in, rest_in}
use Rattle.call_words.specs.Names.{are_different}
use Rattle.call_words.specs.Numbers.{most_value, number_of, optional_number}
use Rattle.gap_words.specs.Command.{evgap}
use Rattle.job_telling.specs.Words.{told_by, told_or}
use Rattle.job_telling.specs.declared.words.Told.{Told}

-- the job of planning a fleet with a close bound: the names of its files, the limit where one is
-- given, how many seconds the search may take where they are given, the name of the file with the
-- plan to begin with where one is, the seed of the first plan, the effort for it where it is given,
-- and how many nodes of a tree the search may look at where one is to be grown
pub record PlanGap : Type 0 where
  pub file : Text
  pub plan : Text
  pub proof : Text
  pub limit : Option ℕ
  pub seconds : Option ℕ
  pub start : Option Text
  pub seed : ℕ
  pub effort : Option ℕ
  pub nodes : Option ℕ

-- the job of judging such a plan and such a proof: the names of their files, and the limit where
-- one is given
pub record CheckGap : Type 0 where
  pub file : Text
  pub plan : Text
  pub proof : Text
  pub limit : Option ℕ

pub data Job : Type 0 where
  Planning : PlanGap → Job
  Checking : CheckGap → Job
  Telling : Told → Job

-- the number of seconds, where it is given; none where its value is no number of them
abbrev pub seconds_in : List Row → Option (Option ℕ)
seconds_in rows = optional_number most_value (first_of (codes "seconds") rows)

-- the name of the file with the plan to begin with
abbrev pub start_in : List Row → Option Text
start_in rows = first_of (codes "start") rows

-- the greatest effort
abbrev pub most_effort : ℕ
most_effort = 30

-- the effort for the first plan, where it is given; none where its value is no number of at most
-- the greatest one
abbrev pub effort_in : List Row → Option (Option ℕ)
effort_in rows = optional_number most_effort (first_of (codes "effort") rows)

-- the number of a word, 1 where there is no word; none where the word is no number
abbrev pub number_or_one : Option Text → Option ℕ
number_or_one None = Some 1
number_or_one (Some word) = number_of most_value word

-- the seed of the first plan, which is 1 where none is given; none where its value is no number
abbrev pub seed_in : List Row → Option ℕ
seed_in rows = number_or_one (first_of (codes "seed") rows)

-- a number where it is given, which isn't 0
abbrev pub at_least_one : Option ℕ → Option (Option ℕ)
at_least_one None = Some None
at_least_one (Some n) = if nat_lt 0 n then Some (Some n) else None

-- how many nodes of a tree the search may look at, where it is given; none where its value is no
-- number of them, or 0
abbrev pub nodes_in : List Row → Option (Option ℕ)
nodes_in rows =
    option_and_then at_least_one (optional_number most_value (first_of (codes "nodes") rows))

-- whether nothing is said of how plans are sought
abbrev pub says_no_search : List Row → Bool
says_no_search rows =
    is_none (first_of (codes "seconds") rows) && is_none (start_in rows)
    && is_none (first_of (codes "seed") rows) && is_none (first_of (codes "effort") rows)
    && is_none (first_of (codes "nodes") rows)

-- the names of all files
abbrev pub all_names : Option Text → List Text → List Text
all_names None names = names
all_names (Some start) names = start ∷ names

-- the job of these words
abbrev pub plan_job_of : Text → Text → Text → Option ℕ → Option ℕ → Option Text → ℕ → Option ℕ →
    Option ℕ → PlanGap
plan_job_of file plan proof limit seconds start seed effort nodes = record {
  file = file;
  plan = plan;
  proof = proof;
  limit = limit;
  seconds = seconds;
  start = start;
  seed = seed;
  effort = effort;
  nodes = nodes;
}

-- `plan FILE PLAN PROOF [--limit N] [--seconds N] [--start PLAN0] [--seed N] [--effort N]
-- [--nodes N]`
abbrev pub plan_with : Text → Text → Text → Option (Option ℕ) → Option (Option ℕ) → Option Text →
    Option ℕ → Option (Option ℕ) → Option (Option ℕ) → Option Job
plan_with file plan proof (Some limit) (Some seconds) start (Some seed) (Some effort) (Some nodes) =
    Some (Planning (plan_job_of file plan proof limit seconds start seed effort nodes))
plan_with file plan proof limit seconds start seed effort nodes = None

abbrev pub plan_of : List Text → List Row → Option Job
plan_of (file ∷ plan ∷ proof ∷ []) rows =
    if are_different (all_names (start_in rows) (file ∷ plan ∷ proof ∷ []))
    then plan_with file plan proof (limit_in rows) (seconds_in rows) (start_in rows)
    (seed_in rows) (effort_in rows) (nodes_in rows)
    else None
plan_of rest rows = None

-- the job of these words
abbrev pub check_job_of : Text → Text → Text → Option ℕ → CheckGap
check_job_of file plan proof limit =
    record { file = file; plan = plan; proof = proof; limit = limit }

-- `check FILE PLAN PROOF [--limit N]`
abbrev pub check_with : Text → Text → Text → Option (Option ℕ) → Option Job
check_with file plan proof limit =
    option_map (λ n. Checking (check_job_of file plan proof n)) limit

abbrev pub check_of : List Text → List Row → Option Job
check_of (file ∷ plan ∷ proof ∷ []) rows =
    if says_no_search rows && are_different (file ∷ plan ∷ proof ∷ [])
    then check_with file plan proof (limit_in rows)
    else None
check_of rest rows = None

-- the job of a command, of the words behind it and of the options
abbrev pub job_of_command : Text → List Text → List Row → Option Job
job_of_command command rest rows =
    if bytes_eq command (codes "plan") then plan_of rest rows
    else if bytes_eq command (codes "check") then check_of rest rows
    else None

-- the job of what the command finds
abbrev pub job_in : List Row → Option Job
job_in rows =
    option_and_then (λ command. job_of_command command (rest_in rows) rows)
    (first_of (codes "command") rows)

-- the words with the name of the program in front of them
abbrev pub named : List Text → List Text
named words = codes "evgap" ∷ words

-- the job of what the command finds in the words, if they name one
abbrev pub command_job : List Text → Option Job
command_job words =
    job_unless (fault_of evgap (named words)) (job_in (matches_of evgap (named words)))

-- the job of the words, if they name one: they ask of the program alone, or name a command
abbrev pub job_of : List Text → Option Job
job_of words = told_or (λ told. Telling told) (told_by words) (command_job words)
