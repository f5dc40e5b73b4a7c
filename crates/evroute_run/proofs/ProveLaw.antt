-- What `prove` puts is what `fixed` puts, so the causes of its statuses exclude each other.
use Rattle.std.proofs.Common.{◌≡◌, ℕ, List, [], ◌∷◌, Option, None, Some}
use Rattle.command_line.specs.Words.{ProofJob}
use Rattle.command_line.specs.declared.Options.{Options}
use Rattle.ev_model.specs.Network.{Network}
use Rattle.job_frame.proofs.OneStatus.{lawful}
use Rattle.job_frame.specs.Lawful.{IsLawful}
use Rattle.job_frame.specs.Task.{Outcome}
use Rattle.job_frame.specs.Writes.{Written}
use Rattle.job_frame.specs.declared.status.Status.{Status}
use Rattle.job_frame.specs.declared.status.Status.TheVariants as status
use Rattle.report_lines.specs.FixedText.{fixed_text}
use Rattle.route_plan.specs.declared.plan.RoutePlan.{RoutePlan}
use Rattle.route_proof.specs.Closed.{IsTrue}
use Rattle.evroute_run.proofs.FixedLaw.{caused, fixed_cause, fixed_each}
use Rattle.evroute_run.specs.FixedAnswer.{FixedAnswers, IsTask, PutsInfeasible, PutsPlan, start_of}
use Rattle.evroute_run.specs.CheckRouteAnswer.{journey_of}
use Rattle.evroute_run.specs.ProveAnswer.{ProveAnswers, fixed_job_of, fixed_status, prove_answers, prove_task, timed_plan}

module _ (options : Options) (word bytes : List ℕ) (g : Network) (route : List ℕ) (task : IsTask options word bytes g route) where
  puts_plan : (text : List ℕ) (plan : Option RoutePlan) → IsTrue (journey_of options g route) plan → status.Done ≡ fixed_status plan
      → text ≡ fixed_text g.denominator (timed_plan g (start_of g options.charge) plan) → PutsPlan options word bytes text
  puts_plan text None shows is text_is = absurd (cc)
  puts_plan text (Some plan) shows is text_is = record { network = g; route = route; task = task; stops = plan.stops; fastest = shows; text_is = text_is }

  puts_none : (text : List ℕ) (plan : Option RoutePlan) → IsTrue (journey_of options g route) plan → status.Negative ≡ fixed_status plan
      → text ≡ fixed_text g.denominator (timed_plan g (start_of g options.charge) plan) → PutsInfeasible options word bytes text
  puts_none text None shows is text_is = record { network = g; route = route; task = task; none = shows; text_is = text_is }
  puts_none text (Some plan) shows is text_is = absurd (cc)

as_fixed : (options : Options) (word cert bytes : List ℕ) (s : Status) (ws : List Written) (text : List ℕ) → ProveAnswers options word cert bytes s ws text → FixedAnswers options word bytes s text
as_fixed options word cert bytes status.Done ws text p = puts_plan options word bytes p.network p.route p.task text p.proof.plan p.shows p.status_is p.text_is
as_fixed options word cert bytes status.Negative ws text p = puts_none options word bytes p.network p.route p.task text p.proof.plan p.shows p.status_is p.text_is
as_fixed options word cert bytes status.Refused ws text p = record { refusal = p.refusal; rule = p.rule; refused = p.refused; text_is = p.text_is }
as_fixed options word cert bytes status.Words ws text p = absurd p
as_fixed options word cert bytes status.Fault ws text p = absurd p
as_fixed options word cert bytes status.Memory ws text p = absurd p
as_fixed options word cert bytes status.Stopped ws text p = absurd p

prove_has : (job : ProofJob) (bytes : List (List ℕ)) (o : Outcome) → prove_answers job bytes o → fixed_cause (fixed_job_of job) bytes o.status
prove_has job (bytes ∷ []) o is = caused job.options job.route bytes o.status o.text (as_fixed job.options job.route job.cert bytes o.status o.writes o.text is)
prove_has job [] o is = absurd is
prove_has job (bytes ∷ more ∷ others) o is = absurd is

pub prove_lawful : (job : ProofJob) → IsLawful (prove_task job)
prove_lawful job = lawful (prove_task job) (fixed_cause (fixed_job_of job)) (prove_has job) (fixed_each (fixed_job_of job))
