-- The job that the words of a command line name: a function of what the command finds in them.
use Rattle.std.specs.Prelude.{ℕ, ◌-◌, ◌^◌, ◌&&◌, Bool, List, [], ◌∷◌, Option, None, Some, codes, nat_le, nat_lt, option_and_then, option_map, if◌then◌else◌, length}
use Rattle.std.specs.Str.{bytes_eq}
use Rattle.clap.specs.Words.{Row, Text, fault_of, first_of, matches_of}
use Rattle.call_words.specs.Matches.{gives_own, job_unless, limit_in, rest_in}
use Rattle.call_words.specs.Names.{are_different}
use Rattle.call_words.specs.Numbers.{most_value, number_of, optional_number, required_number}
use Rattle.command_line.specs.Command.{evroute}
use Rattle.command_line.specs.declared.Options.{Options}

-- the job of charging one route: the names of its words, and its options
pub record FixedJob : Type 0 where
  pub file : Text
  pub route : Text
  pub options : Options

-- the job of judging a plan and a certificate: the names of its files, and the limit where one is given
pub record CheckJob : Type 0 where
  pub file : Text
  pub plan : Text
  pub cert : Text
  pub limit : Option ℕ

-- the job of planning a fleet: the names of its files, the limit where one is given, and the number of nodes that the search
-- may look at where it is given
pub record FleetJob : Type 0 where
  pub file : Text
  pub plan : Text
  pub cert : Text
  pub limit : Option ℕ
  pub nodes : Option ℕ

-- the job of making the decimals of a file whole: the names of the files, and how many digits are kept
pub record ConvertJob : Type 0 where
  pub file : Text
  pub outfile : Text
  pub time_digits : ℕ
  pub energy_digits : ℕ

-- the job of making an instance: the number that it is made from, how many customers and stations it has, and the name of
-- its file
pub record MakeJob : Type 0 where
  pub seed : ℕ
  pub customers : ℕ
  pub stations : ℕ
  pub outfile : Text

-- the job of bounding the cost of fleet plans by near routes: the names of its files, how many
-- other customers stand in a near set at most, and the limit where one is given
pub record BoundJob : Type 0 where
  pub file : Text
  pub cert : Text
  pub near : ℕ
  pub limit : Option ℕ

-- the job of judging such a bound: the names of its files, and the limit where one is given
pub record BoundCheckJob : Type 0 where
  pub file : Text
  pub cert : Text
  pub limit : Option ℕ

-- the job of proving that a charge of a route is a fastest one, or of judging such a proof: the
-- names of its files, the word of its route, and its options
pub record ProofJob : Type 0 where
  pub file : Text
  pub route : Text
  pub cert : Text
  pub options : Options

-- the job of making a plan cheaper: the names of its files, and the limit where one is given
pub record ImproveJob : Type 0 where
  pub file : Text
  pub plan : Text
  pub outfile : Text
  pub limit : Option ℕ

-- the job of planning a fleet of several kinds of vehicles, or of judging such a plan and its
-- proof: the names of the files of the plan and of the proof, those of the instances, one a kind,
-- and the limit where one is given
pub record MixedJob : Type 0 where
  pub plan : Text
  pub cert : Text
  pub files : List Text
  pub limit : Option ℕ

-- a job of the program
pub data Job : Type 0 where
  FixedRoute : FixedJob → Job
  PlanFleet : FleetJob → Job
  CheckPlan : CheckJob → Job
  ConvertFile : ConvertJob → Job
  MakeInstance : MakeJob → Job
  BoundFleets : BoundJob → Job
  CheckBound : BoundCheckJob → Job
  ProveRoute : ProofJob → Job
  CheckRoute : ProofJob → Job
  ImprovePlan : ImproveJob → Job
  PlanMixed : MixedJob → Job
  CheckMixed : MixedJob → Job

-- the greatest number of digits
abbrev pub most_digits : ℕ
most_digits = 10 ^ 9

-- the most other customers of a near set
abbrev pub most_near : ℕ
most_near = 10 ^ 9

-- the greatest number that an instance is made from
abbrev pub most_seed : ℕ
most_seed = 2 ^ 64 - 1

-- the greatest count of customers or stations
abbrev pub most_count : ℕ
most_count = 2 ^ 32 - 1

-- the most files of instances, one a kind of vehicles
abbrev pub most_kinds : ℕ
most_kinds = 8

-- a number that is given is at least 1
abbrev pub at_least_one : Option ℕ → Option (Option ℕ)
at_least_one None = Some None
at_least_one (Some n) = if nat_lt 0 n then Some (Some n) else None

-- there is a file, and no more than the most
abbrev pub are_few : List Text → Bool
are_few files = nat_lt 0 (length files) && nat_le (length files) most_kinds

abbrev pub option_names : List Text
option_names =
    codes "limit" ∷ codes "charge" ∷ codes "nodes"
    ∷ codes "time-digits" ∷ codes "energy-digits" ∷ codes "near" ∷ []

-- no option is given but some of these
abbrev pub gives_only : List Text → List Row → Bool
gives_only own rows = gives_own own rows option_names

abbrev pub charge_in : List Row → Option (Option ℕ)
charge_in rows = optional_number most_value (first_of (codes "charge") rows)

abbrev pub nodes_in : List Row → Option (Option ℕ)
nodes_in rows =
    option_and_then at_least_one (optional_number most_value (first_of (codes "nodes") rows))

abbrev pub digits_in : Text → List Row → Option ℕ
digits_in name rows = required_number most_digits (first_of name rows)

abbrev pub time_digits_in : List Row → Option ℕ
time_digits_in rows = digits_in (codes "time-digits") rows

abbrev pub energy_digits_in : List Row → Option ℕ
energy_digits_in rows = digits_in (codes "energy-digits") rows

abbrev pub near_in : List Row → Option ℕ
near_in rows = required_number most_near (first_of (codes "near") rows)

-- the job of these words with these options
abbrev pub job_with : Text → Text → Options → FixedJob
job_with file route options = record { file = file; route = route; options = options }

-- `fixed FILE ROUTE [--limit N] [--charge N]`
abbrev pub fixed_with : Text → Text → Option (Option ℕ) → Option (Option ℕ) → Option Job
fixed_with file route (Some limit) (Some charge) =
    Some (FixedRoute (job_with file route (record { limit = limit; charge = charge })))
fixed_with file route limit charge = None

abbrev pub fixed_of : List Text → List Row → Option Job
fixed_of (file ∷ route ∷ []) rows =
    if gives_only (codes "limit" ∷ codes "charge" ∷ []) rows
    then fixed_with file route (limit_in rows) (charge_in rows)
    else None
fixed_of rest rows = None

-- the job of these words with these options
abbrev pub fleet_job_of : Text → Text → Text → Option ℕ → Option ℕ → FleetJob
fleet_job_of file plan cert limit nodes =
    record { file = file; plan = plan; cert = cert; limit = limit; nodes = nodes }

-- `fleet FILE PLAN CERT [--limit N] [--nodes N]`
abbrev pub fleet_with : Text → Text → Text → Option (Option ℕ) → Option (Option ℕ) → Option Job
fleet_with file plan cert (Some limit) (Some nodes) =
    Some (PlanFleet (fleet_job_of file plan cert limit nodes))
fleet_with file plan cert limit nodes = None

abbrev pub fleet_of : List Text → List Row → Option Job
fleet_of (file ∷ plan ∷ cert ∷ []) rows =
    if gives_only (codes "limit" ∷ codes "nodes" ∷ []) rows
    && are_different (file ∷ plan ∷ cert ∷ [])
    then fleet_with file plan cert (limit_in rows) (nodes_in rows)
    else None
fleet_of rest rows = None

-- the job of these words with this limit
abbrev pub check_job_of : Text → Text → Text → Option ℕ → CheckJob
check_job_of file plan cert limit =
    record { file = file; plan = plan; cert = cert; limit = limit }

-- `check FILE PLAN CERT [--limit N]`
abbrev pub check_with : Text → Text → Text → Option (Option ℕ) → Option Job
check_with file plan cert limit =
    option_map (λ n. CheckPlan (check_job_of file plan cert n)) limit

abbrev pub check_of : List Text → List Row → Option Job
check_of (file ∷ plan ∷ cert ∷ []) rows =
    if gives_only (codes "limit" ∷ []) rows && are_different (file ∷ plan ∷ cert ∷ [])
    then check_with file plan cert (limit_in rows)
    else None
check_of rest rows = None

-- the job of these words with these digits
abbrev pub convert_job_of : Text → Text → ℕ → ℕ → ConvertJob
convert_job_of file outfile time energy =
    record { file = file; outfile = outfile; time_digits = time; energy_digits = energy }

-- `convert FILE OUTFILE --time-digits N --energy-digits N`
abbrev pub convert_with : Text → Text → Option ℕ → Option ℕ → Option Job
convert_with file outfile (Some time) (Some energy) =
    Some (ConvertFile (convert_job_of file outfile time energy))
convert_with file outfile time energy = None

abbrev pub digits_names : List Text
digits_names = codes "time-digits" ∷ codes "energy-digits" ∷ []

abbrev pub convert_of : List Text → List Row → Option Job
convert_of (file ∷ outfile ∷ []) rows =
    if gives_only digits_names rows && are_different (file ∷ outfile ∷ [])
    then convert_with file outfile (time_digits_in rows) (energy_digits_in rows)
    else None
convert_of rest rows = None

-- the job of these words with these numbers
abbrev pub make_job_of : ℕ → ℕ → ℕ → Text → MakeJob
make_job_of seed customers stations outfile =
    record { seed = seed; customers = customers; stations = stations; outfile = outfile }

-- `make SEED CUSTOMERS STATIONS OUTFILE`
abbrev pub make_with : Option ℕ → Option ℕ → Option ℕ → Text → Option Job
make_with (Some seed) (Some customers) (Some stations) outfile =
    Some (MakeInstance (make_job_of seed customers stations outfile))
make_with seed customers stations outfile = None

abbrev pub make_of : List Text → List Row → Option Job
make_of (seed ∷ customers ∷ stations ∷ outfile ∷ []) rows =
    if gives_only [] rows
    then make_with (number_of most_seed seed) (number_of most_count customers)
    (number_of most_count stations) outfile
    else None
make_of rest rows = None

-- the job of these words with this size of near sets and this limit
abbrev pub bound_job_of : Text → Text → ℕ → Option ℕ → BoundJob
bound_job_of file cert near limit =
    record { file = file; cert = cert; near = near; limit = limit }

-- `bound FILE CERT --near N [--limit N]`
abbrev pub bound_with : Text → Text → Option ℕ → Option (Option ℕ) → Option Job
bound_with file cert (Some near) (Some limit) =
    Some (BoundFleets (bound_job_of file cert near limit))
bound_with file cert near limit = None

abbrev pub bound_of : List Text → List Row → Option Job
bound_of (file ∷ cert ∷ []) rows =
    if gives_only (codes "near" ∷ codes "limit" ∷ []) rows && are_different (file ∷ cert ∷ [])
    then bound_with file cert (near_in rows) (limit_in rows)
    else None
bound_of rest rows = None

-- the job of these words with this limit
abbrev pub bound_check_job_of : Text → Text → Option ℕ → BoundCheckJob
bound_check_job_of file cert limit = record { file = file; cert = cert; limit = limit }

-- `check-bound FILE CERT [--limit N]`
abbrev pub check_bound_with : Text → Text → Option (Option ℕ) → Option Job
check_bound_with file cert limit =
    option_map (λ n. CheckBound (bound_check_job_of file cert n)) limit

abbrev pub check_bound_of : List Text → List Row → Option Job
check_bound_of (file ∷ cert ∷ []) rows =
    if gives_only (codes "limit" ∷ []) rows && are_different (file ∷ cert ∷ [])
    then check_bound_with file cert (limit_in rows)
    else None
check_bound_of rest rows = None

-- the job of these words with these options
abbrev pub proof_job_of : Text → Text → Text → Options → ProofJob
proof_job_of file route cert options =
    record { file = file; route = route; cert = cert; options = options }

-- `FILE ROUTE CERT [--limit N] [--charge N]`
abbrev pub proof_with : Text → Text → Text → Option (Option ℕ) → Option (Option ℕ) → Option ProofJob
proof_with file route cert (Some limit) (Some charge) =
    Some (proof_job_of file route cert (record { limit = limit; charge = charge }))
proof_with file route cert limit charge = None

abbrev pub proof_of : List Text → List Row → Option ProofJob
proof_of (file ∷ route ∷ cert ∷ []) rows =
    if gives_only (codes "limit" ∷ codes "charge" ∷ []) rows && are_different (file ∷ cert ∷ [])
    then proof_with file route cert (limit_in rows) (charge_in rows)
    else None
proof_of rest rows = None

-- `prove FILE ROUTE CERT [--limit N] [--charge N]`
abbrev pub prove_of : List Text → List Row → Option Job
prove_of rest rows = option_map (λ job. ProveRoute job) (proof_of rest rows)

-- `check-route FILE ROUTE CERT [--limit N] [--charge N]`
abbrev pub check_route_of : List Text → List Row → Option Job
check_route_of rest rows = option_map (λ job. CheckRoute job) (proof_of rest rows)

-- the job of these words with this limit
abbrev pub improve_job_of : Text → Text → Text → Option ℕ → ImproveJob
improve_job_of file plan outfile limit =
    record { file = file; plan = plan; outfile = outfile; limit = limit }

-- `improve FILE PLAN OUTFILE [--limit N]`
abbrev pub improve_with : Text → Text → Text → Option (Option ℕ) → Option Job
improve_with file plan outfile limit =
    option_map (λ n. ImprovePlan (improve_job_of file plan outfile n)) limit

abbrev pub improve_of : List Text → List Row → Option Job
improve_of (file ∷ plan ∷ outfile ∷ []) rows =
    if gives_only (codes "limit" ∷ []) rows && are_different (file ∷ plan ∷ outfile ∷ [])
    then improve_with file plan outfile (limit_in rows)
    else None
improve_of rest rows = None

-- the job of these words with this limit
abbrev pub mixed_job_of : Text → Text → List Text → Option ℕ → MixedJob
mixed_job_of plan cert files limit =
    record { plan = plan; cert = cert; files = files; limit = limit }

-- `PLAN CERT FILE.. [--limit N]`
abbrev pub mixed_with : Text → Text → List Text → Option (Option ℕ) → Option MixedJob
mixed_with plan cert files limit = option_map (mixed_job_of plan cert files) limit

abbrev pub mixed_words_of : List Text → List Row → Option MixedJob
mixed_words_of (plan ∷ cert ∷ files) rows =
    if gives_only (codes "limit" ∷ []) rows && are_few files && are_different (plan ∷ cert ∷ files)
    then mixed_with plan cert files (limit_in rows)
    else None
mixed_words_of rest rows = None

-- `mixed PLAN CERT FILE.. [--limit N]`
abbrev pub mixed_of : List Text → List Row → Option Job
mixed_of rest rows = option_map (λ job. PlanMixed job) (mixed_words_of rest rows)

-- `check-mixed PLAN CERT FILE.. [--limit N]`
abbrev pub check_mixed_of : List Text → List Row → Option Job
check_mixed_of rest rows = option_map (λ job. CheckMixed job) (mixed_words_of rest rows)

-- the job of a command, of the words behind it and of the options
abbrev pub job_of_command : Text → List Text → List Row → Option Job
job_of_command command rest rows =
    if bytes_eq command (codes "fixed") then fixed_of rest rows
    else if bytes_eq command (codes "fleet") then fleet_of rest rows
    else if bytes_eq command (codes "check") then check_of rest rows
    else if bytes_eq command (codes "convert") then convert_of rest rows
    else if bytes_eq command (codes "make") then make_of rest rows
    else if bytes_eq command (codes "bound") then bound_of rest rows
    else if bytes_eq command (codes "check-bound") then check_bound_of rest rows
    else if bytes_eq command (codes "prove") then prove_of rest rows
    else if bytes_eq command (codes "check-route") then check_route_of rest rows
    else if bytes_eq command (codes "improve") then improve_of rest rows
    else if bytes_eq command (codes "mixed") then mixed_of rest rows
    else if bytes_eq command (codes "check-mixed") then check_mixed_of rest rows
    else None

-- the job of what the command finds
abbrev pub job_in : List Row → Option Job
job_in rows =
    option_and_then (λ command. job_of_command command (rest_in rows) rows)
    (first_of (codes "command") rows)

-- the words with the name of the program in front of them
abbrev pub named : List Text → List Text
named words = codes "evroute" ∷ words

-- the job of the words, if they name one
abbrev pub job_of : List Text → Option Job
job_of words =
    job_unless (fault_of evroute (named words)) (job_in (matches_of evroute (named words)))
