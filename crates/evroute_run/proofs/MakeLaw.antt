-- The causes of the statuses of `make` exclude each other.
use Rattle.std.proofs.Common.{◌≡◌, ℕ, List, [], ◌∷◌, subst}
use Rattle.command_line.specs.Words.{MakeJob}
use Rattle.ev_model.specs.Fastest.{HasNoPlan}
use Rattle.ev_model.specs.Network.{Network}
use Rattle.instance_reader.proofs.LawsLemmas.{one_network}
use Rattle.job_frame.proofs.OneStatus.{ExcludeEachOther, IsPlain, lawful, nothing_excludes}
use Rattle.job_frame.specs.Lawful.{IsLawful}
use Rattle.job_frame.specs.Task.{Outcome}
use Rattle.job_frame.specs.Writes.{Written}
use Rattle.evroute_run.proofs.MadeInstances.{refused_has_no_instance}
use Rattle.evroute_run.specs.MakeAnswer.{MakeAnswers, MakesNetwork, PutsNoTime, PutsTime, make_answers, make_task, route_of_all}
use Rattle.job_frame.specs.declared.status.Status.{Status}
use Rattle.job_frame.specs.declared.status.Status.TheVariants as status

same_made : (job : MakeJob) (g h : Network) → MakesNetwork job g → MakesNetwork job h → g ≡ h
same_made job g h p q = one_network _ g h p.instance q.instance

time_is_some : (job : MakeJob) (ws vs : List Written) (text other : List ℕ) → PutsTime job ws text → PutsNoTime job vs other → ⊥
time_is_some job ws vs text other p q =
    let same : q.network ≡ p.network = same_made job q.network p.network q.makes p.makes in
    let none : HasNoPlan p.network (route_of_all job.customers) p.network.capacity =
    subst (λ (x : Network). HasNoPlan x (route_of_all job.customers) x.capacity) same q.none in
    none 1 p.stops p.fastest.feasible p.fastest.follows

MakeCause : MakeJob → Status → Type 0
MakeCause job s = (ws : List Written) × ((text : List ℕ) × MakeAnswers job s ws text)

make_answered : (job : MakeJob) (s : Status) → MakeCause job s → IsPlain s
unfolding MakeCause
make_answered job status.Done p = tt
make_answered job status.Negative p = tt
make_answered job status.Refused p = tt
make_answered job status.Words p = absurd p.1.1
make_answered job status.Fault p = absurd p.1.1
make_answered job status.Memory p = absurd p.1.1
make_answered job status.Stopped p = absurd p.1.1

make_exclude : (job : MakeJob) → ExcludeEachOther (MakeCause job)
unfolding MakeCause
make_exclude job = record {
  answered = make_answered job;
  done_negative = λ p q. time_is_some job p.0 q.0 p.1.0 q.1.0 p.1.1 q.1.1;
  done_refused = λ p q. p.1.1.makes.within (refused_has_no_instance job q.1.1.refusal q.1.1.refused);
  negative_refused = λ p q. p.1.1.makes.within (refused_has_no_instance job q.1.1.refusal q.1.1.refused);
}

abbrev make_cause : MakeJob → List (List ℕ) → Status → Type 0
make_cause job [] s = MakeCause job s
make_cause job other s = ⊥

make_has : (job : MakeJob) (bytes : List (List ℕ)) (o : Outcome) → make_answers job bytes o → make_cause job bytes o.status
unfolding MakeCause
make_has job [] o is = (o.writes, (o.text, is))
make_has job (bytes ∷ others) o is = absurd is

make_each : (job : MakeJob) (bytes : List (List ℕ)) → ExcludeEachOther (make_cause job bytes)
make_each job [] = make_exclude job
make_each job (bytes ∷ others) = nothing_excludes

pub make_lawful : (job : MakeJob) → IsLawful (make_task job)
make_lawful job = lawful (make_task job) (make_cause job) (make_has job) (make_each job)
