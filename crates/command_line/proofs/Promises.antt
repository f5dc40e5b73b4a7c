-- The files that a search writes are different ones, and it may look at one node at least; and what
-- is told of the files of a job of several kinds of vehicles.
use Rattle.std.proofs.Common.{◌≡◌, ◌≢◌, ◌≤◌, ◌&&◌, ◌||◌, ◌∷◌, [], ℕ, List, Option, None, Some, Result, Ok, Err, Bool, true, false, IfOk, IfSome, arith, codes, nat_lt, not, refl, sym, subst}
use Rattle.std.proofs.lemmas.Bool.Decides.{nat_tests}
use Rattle.std.proofs.lemmas.Slice.Eq.{bytes_eq-Decides}
use Rattle.std.specs.Prelude.{if◌then◌else◌, option_and_then, option_map}
use Rattle.std.specs.Str.{bytes_eq}
use Rattle.clap.specs.Words.{Row, Text, first_of}
use Rattle.command_line.proofs.MixedFiles.{AreMixedFiles, mixed_files}
use Rattle.command_line.proofs.Tested.{both_true, where_passed}
use Rattle.command_line.specs.JobValue.{IsJob, IsMixedJob, job_value, mixed_value}
use Rattle.call_words.specs.Matches.{limit_in, rest_in}
use Rattle.call_words.specs.Names.{are_different, is_listed}
use Rattle.call_words.specs.Numbers.{most_value, number_of, optional_number}
use Rattle.command_line.specs.Words.{BoundFleets, CheckBound, CheckMixed, CheckPlan, CheckRoute, ConvertFile, FixedRoute, ImprovePlan, Job, MakeInstance, MixedJob, PlanFleet, PlanMixed, ProofJob, ProveRoute, at_least_one, bound_of, bound_with, charge_in, check_bound_of, check_bound_with, check_mixed_of, check_of, check_route_of, check_with, convert_of, convert_with, energy_digits_in, fixed_of, fixed_with, fleet_of, fleet_with, gives_only, improve_of, improve_with, job_in, job_of_command, make_of, make_with, mixed_of, mixed_words_of, most_count, most_seed, near_in, nodes_in, proof_of, prove_of, time_digits_in}
use Rattle.command_line.specs.declared.Job as values
use Rattle.command_line.specs.declared.MixedWords.{MixedWords}
use Rattle.command_line.specs.declared.Job.TheVariants as value

AtLeastOne : Option ℕ → Type 0
AtLeastOne n = IfSome n (λ (k : ℕ). 1 ≤ k)

Looks : Job → Type 0
Looks (PlanFleet job) = (job.plan ≢ job.cert) × AtLeastOne job.nodes
Looks (FixedRoute job) = Unit {0}
Looks (CheckPlan job) = Unit {0}
Looks (ConvertFile job) = Unit {0}
Looks (MakeInstance job) = Unit {0}
Looks (BoundFleets job) = Unit {0}
Looks (CheckBound job) = Unit {0}
Looks (ProveRoute job) = Unit {0}
Looks (CheckRoute job) = Unit {0}
Looks (ImprovePlan job) = Unit {0}
Looks (PlanMixed job) = AreMixedFiles job
Looks (CheckMixed job) = AreMixedFiles job

if_looks : (test : Bool) (p q : Option Job) → IfSome p Looks → IfSome q Looks → IfSome (if test then p else q) Looks
if_looks true p q h k = h
if_looks false p q h k = k

true_is_not_false : true ≡ false → ⊥
true_is_not_false is = cc

-- the last two of three different names are different
last_differ : (file plan cert : Text) → are_different (file ∷ plan ∷ cert ∷ []) ≡ true → plan ≢ cert
last_differ file plan cert is same =
    let rest = (both_true (not (is_listed file (plan ∷ cert ∷ []))) (are_different (plan ∷ cert ∷ [])) is).1 in
    let other : not (bytes_eq cert plan || false) ≡ true = (both_true (not (is_listed plan (cert ∷ []))) (are_different (cert ∷ [])) rest).0 in
    let equal : bytes_eq cert plan ≡ true = subst (λ (name : Text). bytes_eq name plan ≡ true) same ((bytes_eq-Decides plan plan).1 refl) in
    true_is_not_false (sym (subst (λ (b : Bool). not (b || false) ≡ true) equal other))

positive : (n : ℕ) (test : Bool) → nat_lt 0 n ≡ test → IfSome (if test then Some (Some n) else None) AtLeastOne
unfolding AtLeastOne
positive n true is = grind (arith, nat_tests, is)
positive n false is = tt

at_least : (n : Option ℕ) → IfSome (at_least_one n) AtLeastOne
unfolding AtLeastOne
at_least None = tt
at_least (Some n) = positive n (nat_lt 0 n) refl

given : (option : Option (Option ℕ)) → IfSome (option_and_then at_least_one option) AtLeastOne
given None = tt
given (Some n) = at_least n

fleet_with_looks : (file plan cert : Text) (limit nodes : Option (Option ℕ)) → plan ≢ cert → IfSome nodes AtLeastOne → IfSome (fleet_with file plan cert limit nodes) Looks
unfolding Looks
fleet_with_looks file plan cert None nodes differ h = tt
fleet_with_looks file plan cert (Some l) None differ h = tt
fleet_with_looks file plan cert (Some l) (Some n) differ h = (differ, h)

fixed_with_looks : (file route : Text) (limit charge : Option (Option ℕ)) → IfSome (fixed_with file route limit charge) Looks
unfolding Looks
fixed_with_looks file route None charge = tt
fixed_with_looks file route (Some l) None = tt
fixed_with_looks file route (Some l) (Some c) = tt

check_with_looks : (file plan cert : Text) (limit : Option (Option ℕ)) → IfSome (check_with file plan cert limit) Looks
unfolding Looks
check_with_looks file plan cert None = tt
check_with_looks file plan cert (Some l) = tt

improve_with_looks : (file plan outfile : Text) (limit : Option (Option ℕ)) → IfSome (improve_with file plan outfile limit) Looks
unfolding Looks
improve_with_looks file plan outfile None = tt
improve_with_looks file plan outfile (Some l) = tt

convert_with_looks : (file outfile : Text) (time energy : Option ℕ) → IfSome (convert_with file outfile time energy) Looks
unfolding Looks
convert_with_looks file outfile None energy = tt
convert_with_looks file outfile (Some t) None = tt
convert_with_looks file outfile (Some t) (Some e) = tt

bound_with_looks : (file cert : Text) (near : Option ℕ) (limit : Option (Option ℕ)) → IfSome (bound_with file cert near limit) Looks
unfolding Looks
bound_with_looks file cert None limit = tt
bound_with_looks file cert (Some n) None = tt
bound_with_looks file cert (Some n) (Some l) = tt

check_bound_with_looks : (file cert : Text) (limit : Option (Option ℕ)) → IfSome (check_bound_with file cert limit) Looks
unfolding Looks
check_bound_with_looks file cert None = tt
check_bound_with_looks file cert (Some l) = tt

make_with_looks : (seed customers stations : Option ℕ) (outfile : Text) → IfSome (make_with seed customers stations outfile) Looks
unfolding Looks
make_with_looks None customers stations outfile = tt
make_with_looks (Some s) None stations outfile = tt
make_with_looks (Some s) (Some c) None outfile = tt
make_with_looks (Some s) (Some c) (Some t) outfile = tt

fleet_looks : (rest : List Text) (rows : List Row) → IfSome (fleet_of rest rows) Looks
fleet_looks [] rows = tt
fleet_looks (a ∷ []) rows = tt
fleet_looks (a ∷ b ∷ []) rows = tt
fleet_looks (a ∷ b ∷ c ∷ []) rows =
    where_passed Looks (gives_only (codes "limit" ∷ codes "nodes" ∷ []) rows && are_different (a ∷ b ∷ c ∷ []))
    (fleet_with a b c (limit_in rows) (nodes_in rows))
    (λ is. fleet_with_looks a b c (limit_in rows) (nodes_in rows)
    (last_differ a b c (both_true (gives_only (codes "limit" ∷ codes "nodes" ∷ []) rows) (are_different (a ∷ b ∷ c ∷ [])) is).1)
    (given (optional_number most_value (first_of (codes "nodes") rows))))
fleet_looks (a ∷ b ∷ c ∷ d ∷ rest) rows = tt

fixed_looks : (rest : List Text) (rows : List Row) → IfSome (fixed_of rest rows) Looks
fixed_looks [] rows = tt
fixed_looks (a ∷ []) rows = tt
fixed_looks (a ∷ b ∷ []) rows =
    if_looks _ (fixed_with a b (limit_in rows) (charge_in rows)) None (fixed_with_looks a b (limit_in rows) (charge_in rows)) tt
fixed_looks (a ∷ b ∷ c ∷ rest) rows = tt

check_looks : (rest : List Text) (rows : List Row) → IfSome (check_of rest rows) Looks
check_looks [] rows = tt
check_looks (a ∷ []) rows = tt
check_looks (a ∷ b ∷ []) rows = tt
check_looks (a ∷ b ∷ c ∷ []) rows = if_looks _ (check_with a b c (limit_in rows)) None (check_with_looks a b c (limit_in rows)) tt
check_looks (a ∷ b ∷ c ∷ d ∷ rest) rows = tt

improve_looks : (rest : List Text) (rows : List Row) → IfSome (improve_of rest rows) Looks
improve_looks [] rows = tt
improve_looks (a ∷ []) rows = tt
improve_looks (a ∷ b ∷ []) rows = tt
improve_looks (a ∷ b ∷ c ∷ []) rows = if_looks _ (improve_with a b c (limit_in rows)) None (improve_with_looks a b c (limit_in rows)) tt
improve_looks (a ∷ b ∷ c ∷ d ∷ rest) rows = tt

convert_looks : (rest : List Text) (rows : List Row) → IfSome (convert_of rest rows) Looks
convert_looks [] rows = tt
convert_looks (a ∷ []) rows = tt
convert_looks (a ∷ b ∷ []) rows =
    if_looks _ (convert_with a b (time_digits_in rows) (energy_digits_in rows)) None
    (convert_with_looks a b (time_digits_in rows) (energy_digits_in rows)) tt
convert_looks (a ∷ b ∷ c ∷ rest) rows = tt

bound_looks : (rest : List Text) (rows : List Row) → IfSome (bound_of rest rows) Looks
bound_looks [] rows = tt
bound_looks (a ∷ []) rows = tt
bound_looks (a ∷ b ∷ []) rows = if_looks _ (bound_with a b (near_in rows) (limit_in rows)) None (bound_with_looks a b (near_in rows) (limit_in rows)) tt
bound_looks (a ∷ b ∷ c ∷ rest) rows = tt

check_bound_looks : (rest : List Text) (rows : List Row) → IfSome (check_bound_of rest rows) Looks
check_bound_looks [] rows = tt
check_bound_looks (a ∷ []) rows = tt
check_bound_looks (a ∷ b ∷ []) rows = if_looks _ (check_bound_with a b (limit_in rows)) None (check_bound_with_looks a b (limit_in rows)) tt
check_bound_looks (a ∷ b ∷ c ∷ rest) rows = tt

make_looks : (rest : List Text) (rows : List Row) → IfSome (make_of rest rows) Looks
make_looks [] rows = tt
make_looks (a ∷ []) rows = tt
make_looks (a ∷ b ∷ []) rows = tt
make_looks (a ∷ b ∷ c ∷ []) rows = tt
make_looks (a ∷ b ∷ c ∷ d ∷ []) rows =
    if_looks _ (make_with (number_of most_seed a) (number_of most_count b) (number_of most_count c) d) None
    (make_with_looks (number_of most_seed a) (number_of most_count b) (number_of most_count c) d) tt
make_looks (a ∷ b ∷ c ∷ d ∷ e ∷ rest) rows = tt

prove_looks : (found : Option ProofJob) → IfSome (option_map (λ job. ProveRoute job) found) Looks
unfolding Looks
prove_looks None = tt
prove_looks (Some job) = tt

check_route_looks : (found : Option ProofJob) → IfSome (option_map (λ job. CheckRoute job) found) Looks
unfolding Looks
check_route_looks None = tt
check_route_looks (Some job) = tt

mixed_looks : (found : Option MixedJob) → IfSome found AreMixedFiles
    → IfSome (option_map (λ job. PlanMixed job) found) Looks
unfolding Looks
mixed_looks None h = tt
mixed_looks (Some job) h = h

check_mixed_looks : (found : Option MixedJob) → IfSome found AreMixedFiles
    → IfSome (option_map (λ job. CheckMixed job) found) Looks
unfolding Looks
check_mixed_looks None h = tt
check_mixed_looks (Some job) h = h

command_looks : (command : Text) (rest : List Text) (rows : List Row) → IfSome (job_of_command command rest rows) Looks
command_looks command rest rows =
    if_looks (bytes_eq command (codes "fixed")) (fixed_of rest rows) _ (fixed_looks rest rows)
    (if_looks (bytes_eq command (codes "fleet")) (fleet_of rest rows) _ (fleet_looks rest rows)
    (if_looks (bytes_eq command (codes "check")) (check_of rest rows) _ (check_looks rest rows)
    (if_looks (bytes_eq command (codes "convert")) (convert_of rest rows) _ (convert_looks rest rows)
    (if_looks (bytes_eq command (codes "make")) (make_of rest rows) _ (make_looks rest rows)
    (if_looks (bytes_eq command (codes "bound")) (bound_of rest rows) _ (bound_looks rest rows)
    (if_looks (bytes_eq command (codes "check-bound")) (check_bound_of rest rows) _ (check_bound_looks rest rows)
    (if_looks (bytes_eq command (codes "prove")) (prove_of rest rows) _ (prove_looks (proof_of rest rows))
    (if_looks (bytes_eq command (codes "check-route")) (check_route_of rest rows) _ (check_route_looks (proof_of rest rows))
    (if_looks (bytes_eq command (codes "improve")) (improve_of rest rows) _
    (improve_looks rest rows)
    (if_looks (bytes_eq command (codes "mixed")) (mixed_of rest rows) _
    (mixed_looks (mixed_words_of rest rows) (mixed_files rest rows))
    (if_looks (bytes_eq command (codes "check-mixed")) (check_mixed_of rest rows) None
    (check_mixed_looks (mixed_words_of rest rows) (mixed_files rest rows)) tt)))))))))))

and_then_looks : (command : Option Text) (rows : List Row) → IfSome (option_and_then (λ c. job_of_command c (rest_in rows) rows) command) Looks
and_then_looks None rows = tt
and_then_looks (Some command) rows = command_looks command (rest_in rows) rows

is_mixed_job : (w : MixedWords) → AreMixedFiles (mixed_value w) → IsMixedJob w
is_mixed_job w h = record { some = h.some; few = h.few; different = h.different }

value_looks : (found : Option values.Job) → IfSome (option_map job_value found) Looks → IfSome found IsJob
unfolding Looks AtLeastOne
value_looks None h = tt
value_looks (Some (value.Fixed w)) h = tt
value_looks (Some (value.Fleet w)) h = record { files = h.0; nodes = h.1 }
value_looks (Some (value.Check w)) h = tt
value_looks (Some (value.Convert w)) h = tt
value_looks (Some (value.Make w)) h = tt
value_looks (Some (value.Bound w)) h = tt
value_looks (Some (value.CheckBound w)) h = tt
value_looks (Some (value.Prove w)) h = tt
value_looks (Some (value.CheckRoute w)) h = tt
value_looks (Some (value.Improve w)) h = tt
value_looks (Some (value.Mixed w)) h = is_mixed_job w h
value_looks (Some (value.CheckMixed w)) h = is_mixed_job w h

is_job : (rows : List Row) (found : Option values.Job) → option_map job_value found ≡ job_in rows → IfSome found IsJob
is_job rows found is =
    value_looks found (subst (λ (job : Option Job). IfSome job Looks) (sym is) (and_then_looks (first_of (codes "command") rows) rows))

pub are_jobs : {E : Type 0} (rows : List Row) (answer : Result (Option values.Job) E) → IfOk answer (λ found. option_map job_value found ≡ job_in rows) → IfOk answer (λ found. IfSome found IsJob)
are_jobs {E} rows (Err e) is = tt
are_jobs {E} rows (Ok found) is = is_job rows found is
