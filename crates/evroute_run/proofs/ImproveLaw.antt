-- The causes of the statuses of `improve` exclude each other.
use Rattle.std.proofs.Common.{◌≡◌, ◌⊎◌, ℕ, List, [], ◌∷◌, Option, None, inl, inr, subst, sym, ◌∙◌}
use Rattle.command_line.specs.Words.{ImproveJob}
use Rattle.ev_model.specs.Network.{Network}
use Rattle.job_frame.proofs.OneStatus.{ExcludeEachOther, IsPlain, lawful, nothing_excludes}
use Rattle.job_frame.specs.Lawful.{IsLawful}
use Rattle.job_frame.specs.Task.{Outcome}
use Rattle.job_frame.specs.Writes.{Written}
use Rattle.route_improve.specs.Improved.{CostsNoMore, IsFirstAlone}
use Rattle.route_plan.specs.declared.plan.FleetPlan.{FleetPlan}
use Rattle.fleet_steps.proofs.PlanFiles.{refused_holds_not, same_held, same_network}
use Rattle.fleet_steps.proofs.Plans.{valid_breaks_none}
use Rattle.fleet_steps.specs.PlanFile.{BreaksFirst, HoldsPlan, routes_of}
use Rattle.evroute_run.specs.ImproveAnswer.{ImproveAnswers, PutsAlone, PutsBrokenPlan, PutsImproved, improve_answers, improve_task}
use Rattle.job_frame.specs.declared.status.Status.{Status}
use Rattle.job_frame.specs.declared.status.Status.TheVariants as status

-- a plan that became cheaper breaks no rule
improved_is_unbroken : (limit : Option ℕ) (outfile bytes plan_bytes : List ℕ) (ws vs : List Written) (text other : List ℕ) →
    PutsImproved limit outfile bytes plan_bytes ws text → PutsBrokenPlan limit bytes plan_bytes vs other → ⊥
improved_is_unbroken limit outfile bytes plan_bytes ws vs text other p q =
    let here : BreaksFirst p.files.network q.files.plan q.fault =
    subst (λ (g : Network). BreaksFirst g q.files.plan q.fault) (same_network limit bytes plan_bytes p.files q.files) q.broken in
    let broken : BreaksFirst p.files.network p.files.plan q.fault =
    subst (λ (plan : Option FleetPlan). BreaksFirst p.files.network plan q.fault) (same_held limit bytes plan_bytes p.files q.files) here in
    valid_breaks_none p.files.network p.files.plan p.was q.fault p.valid broken

-- where a plan came of none, each customer has a route of his own
improved_leaves_none : (limit : Option ℕ) (outfile bytes plan_bytes : List ℕ) (ws vs : List Written) (text other : List ℕ) →
    PutsImproved limit outfile bytes plan_bytes ws text → PutsAlone limit bytes plan_bytes vs other → ⊥
improved_leaves_none limit outfile bytes plan_bytes ws vs text other p q =
    let alone : IsFirstAlone p.files.network q.node =
    subst (λ (g : Network). IsFirstAlone g q.node) (same_network limit bytes plan_bytes p.files q.files) q.alone in
    let none : p.files.plan ≡ None = sym (same_held limit bytes plan_bytes p.files q.files) ∙ q.no_plan in
    let own = subst (λ (plan : Option FleetPlan). CostsNoMore p.files.network (routes_of plan) p.cost) none p.no_more in
    own.each q.node alone.customer alone.none

done_is_no_negative : (limit : Option ℕ) (outfile bytes plan_bytes : List ℕ) (ws vs : List Written) (text other : List ℕ) →
    PutsImproved limit outfile bytes plan_bytes ws text → PutsBrokenPlan limit bytes plan_bytes vs other ⊎ PutsAlone limit bytes plan_bytes vs other → ⊥
done_is_no_negative limit outfile bytes plan_bytes ws vs text other p (inl broken) = improved_is_unbroken limit outfile bytes plan_bytes ws vs text other p broken
done_is_no_negative limit outfile bytes plan_bytes ws vs text other p (inr alone) = improved_leaves_none limit outfile bytes plan_bytes ws vs text other p alone

negative_holds : (limit : Option ℕ) (bytes plan_bytes : List ℕ) (ws : List Written) (text : List ℕ) →
    PutsBrokenPlan limit bytes plan_bytes ws text ⊎ PutsAlone limit bytes plan_bytes ws text → HoldsPlan limit bytes plan_bytes
negative_holds limit bytes plan_bytes ws text (inl broken) = broken.files
negative_holds limit bytes plan_bytes ws text (inr alone) = alone.files

ImproveCause : ImproveJob → List ℕ → List ℕ → Status → Type 0
ImproveCause job bytes plan_bytes s = (ws : List Written) × ((text : List ℕ) × ImproveAnswers job.limit job.outfile bytes plan_bytes s ws text)

improve_answered : (job : ImproveJob) (bytes plan_bytes : List ℕ) (s : Status) → ImproveCause job bytes plan_bytes s → IsPlain s
unfolding ImproveCause
improve_answered job bytes plan_bytes status.Done p = tt
improve_answered job bytes plan_bytes status.Negative p = tt
improve_answered job bytes plan_bytes status.Refused p = tt
improve_answered job bytes plan_bytes status.Words p = absurd p.1.1
improve_answered job bytes plan_bytes status.Fault p = absurd p.1.1
improve_answered job bytes plan_bytes status.Memory p = absurd p.1.1
improve_answered job bytes plan_bytes status.Stopped p = absurd p.1.1

improve_exclude : (job : ImproveJob) (bytes plan_bytes : List ℕ) → ExcludeEachOther (ImproveCause job bytes plan_bytes)
unfolding ImproveCause
improve_exclude job bytes plan_bytes = record {
  answered = improve_answered job bytes plan_bytes;
  done_negative = λ p q. done_is_no_negative job.limit job.outfile bytes plan_bytes p.0 q.0 p.1.0 q.1.0 p.1.1 q.1.1;
  done_refused = λ p q. refused_holds_not job.limit bytes plan_bytes p.1.1.files q.1.1.refusal q.1.1.rule q.1.1.refused;
  negative_refused = λ p q.
      refused_holds_not job.limit bytes plan_bytes (negative_holds job.limit bytes plan_bytes p.0 p.1.0 p.1.1) q.1.1.refusal q.1.1.rule q.1.1.refused;
}

abbrev improve_cause : ImproveJob → List (List ℕ) → Status → Type 0
improve_cause job (bytes ∷ plan_bytes ∷ []) s = ImproveCause job bytes plan_bytes s
improve_cause job other s = ⊥

improve_has : (job : ImproveJob) (bytes : List (List ℕ)) (o : Outcome) → improve_answers job bytes o → improve_cause job bytes o.status
unfolding ImproveCause
improve_has job (bytes ∷ plan_bytes ∷ []) o is = (o.writes, (o.text, is))
improve_has job [] o is = absurd is
improve_has job (bytes ∷ []) o is = absurd is
improve_has job (bytes ∷ plan_bytes ∷ more ∷ others) o is = absurd is

improve_each : (job : ImproveJob) (bytes : List (List ℕ)) → ExcludeEachOther (improve_cause job bytes)
improve_each job (bytes ∷ plan_bytes ∷ []) = improve_exclude job bytes plan_bytes
improve_each job [] = nothing_excludes
improve_each job (bytes ∷ []) = nothing_excludes
improve_each job (bytes ∷ plan_bytes ∷ more ∷ others) = nothing_excludes

pub improve_lawful : (job : ImproveJob) → IsLawful (improve_task job)
improve_lawful job = lawful (improve_task job) (improve_cause job) (improve_has job) (improve_each job)
