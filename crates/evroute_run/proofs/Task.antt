-- The steps of a job, put together.
use Rattle.std.proofs.Common.{◌≡◌, ℕ, ◌≤◌, List, length, Option, None, Some, Result, Ok, Err, IfOk, refl, subst, sym}
use Rattle.std.specs.Option.{MatchOption}
use Rattle.command_line.specs.declared.Options.{Options}
use Rattle.ev_model.specs.Fastest.{HasNoPlan, IsFastest}
use Rattle.ev_model.specs.Network.{Network, node_count}
use Rattle.ev_model.specs.Route.{IsRoute}
use Rattle.ev_model.specs.Time.{time_of}
use Rattle.ev_model.specs.declared.Stop.{Stop}
use Rattle.ev_text.proofs.Results.{Err-ne-Ok}
use Rattle.report_lines.specs.FixedText.{fixed_text}
use Rattle.route_plan.proofs.Routes.{is_short}
use Rattle.route_plan.proofs.Spelled.{reads_what_is_spelled}
use Rattle.route_plan.specs.Limits.{most_route_nodes}
use Rattle.route_plan.specs.RouteRules.{route_fault, route_in, unless_fault}
use Rattle.route_plan.specs.RouteWords.{SpellsRoute, nodes_in}
use Rattle.route_plan.specs.declared.route.RouteFault.{RouteFault}
use Rattle.evroute_run.specs.FixedAnswer.{FixedAnswers, HasStart, IsTask, start_of}
use Rattle.evroute_run.specs.Ended.{IsEnded}
use Rattle.job_frame.specs.Ended.{IsNetworkEnded}
use Rattle.job_frame.specs.LimitedNetwork.{HasNetwork}
use Rattle.job_frame.specs.declared.found.Answer.{Answer}
use Rattle.job_frame.specs.declared.answer.Ended.{Ended}
use Rattle.job_frame.specs.declared.answer.Ended.TheVariants.{Refused, Memory}
use Rattle.job_frame.specs.declared.status.Status.{Status}
use Rattle.job_frame.specs.declared.status.Status.TheVariants as status
use Rattle.refusal_lines.specs.declared.refusal.Refusal.TheVariants as refusal
use Rattle.evroute_causes.specs.declared.cause.Cause.{Cause}

pub has_start : (options : Options) (bytes : List ℕ) (g : Network) (level : ℕ) → HasNetwork options.limit bytes g → level ≡ start_of g options.charge → level ≤ g.capacity → HasStart options bytes g
has_start options bytes g level network is within = record { network = network; within = subst (λ l. l ≤ g.capacity) is within }

pub is_task : (options : Options) (word bytes : List ℕ) (g : Network) (route : List ℕ) (level : ℕ) → HasNetwork options.limit bytes g → level ≡ start_of g options.charge → level ≤ g.capacity
    → SpellsRoute word route → IsRoute g route → length route ≤ most_route_nodes → IsTask options word bytes g route
is_task options word bytes g route level network is within spelled is_route short = record {
  start = has_start options bytes g level network is within;
  spelled = spelled;
  is_route = is_route;
  short = short;
}

no_fault : (nodes other : List ℕ) (fault : Option RouteFault) → unless_fault nodes fault ≡ Ok other → fault ≡ None
no_fault nodes other None is = refl
no_fault nodes other (Some fault) is = absurd (Err-ne-Ok fault other is)

-- a route that was read of a word is short
pub short_route : (g : Network) (word route : List ℕ) → SpellsRoute word route → route_in (node_count g) word ≡ Ok route → length route ≤ most_route_nodes
short_route g word route spelled read =
    let nodes : nodes_in word ≡ Ok route = reads_what_is_spelled word route spelled in
    let told : unless_fault route (route_fault (node_count g) route) ≡ Ok route = rw nodes at read in
    is_short g route (no_fault route route (route_fault (node_count g) route) told)

-- a rule that the first steps break is a rule of `fixed`
pub ended_of : (options : Options) (word bytes : List ℕ) (ended : Ended) → IsNetworkEnded options.limit bytes ended → IsEnded options word bytes ended
ended_of options word bytes Memory is = tt
ended_of options word bytes (Refused (refusal.Instance fault)) is = is
ended_of options word bytes (Refused (refusal.Limit limit)) is = is
ended_of options word bytes (Refused (refusal.Customers count)) is = absurd is.1
ended_of options word bytes (Refused (refusal.Charge level)) is = absurd is.1
ended_of options word bytes (Refused (refusal.Route fault)) is = absurd is.1
ended_of options word bytes (Refused (refusal.Plan fault)) is = absurd is.1
ended_of options word bytes (Refused (refusal.Certificate fault)) is = absurd is.1
ended_of options word bytes (Refused (refusal.Literal fault)) is = absurd is.1
ended_of options word bytes (Refused refusal.Maker) is = absurd is.1

-- ---- the answer to a task

pub match_some : {A : Type 0} (answer : Option A) (a : A) (P : Type 0) (Q : A → Type 0) → answer ≡ Some a → MatchOption answer P Q → Q a
match_some {A} answer a P Q is holds = subst (λ (o : Option A). MatchOption o P Q) is holds

pub match_none : {A : Type 0} (answer : Option A) (P : Type 0) (Q : A → Type 0) → answer ≡ None → MatchOption answer P Q → P
match_none {A} answer P Q is holds = subst (λ (o : Option A). MatchOption o P Q) is holds

pub puts_plan : {E : Type 0} (options : Options) (word bytes : List ℕ) (g : Network) (route : List ℕ) (level : ℕ) → IsTask options word bytes g route → level ≡ start_of g options.charge
    → (stops : List Stop) → IsFastest g route level stops → (made : Result (Answer Cause) E) → IfOk made (λ a. a.status ≡ status.Done)
    → IfOk made (λ a. a.text.items ≡ fixed_text g.denominator (Some (stops, time_of g 1 level stops)))
    → IfOk made (λ a. FixedAnswers options word bytes a.status a.text.items)
puts_plan options word bytes g route level task is stops fastest (Err none) answered text = tt
puts_plan options word bytes g route level task is stops fastest (Ok a) answered text =
    subst (λ (s : Status). FixedAnswers options word bytes s a.text.items) (sym answered) (record {
      network = g;
      route = route;
      task = task;
      stops = stops;
      fastest = subst (λ n. IsFastest g route n stops) is fastest;
      text_is = subst (λ n. a.text.items ≡ fixed_text g.denominator (Some (stops, time_of g 1 n stops))) is text;
    })

pub puts_infeasible : {E : Type 0} (options : Options) (word bytes : List ℕ) (g : Network) (route : List ℕ) (level : ℕ) → IsTask options word bytes g route → level ≡ start_of g options.charge
    → HasNoPlan g route level → (made : Result (Answer Cause) E) → IfOk made (λ a. a.status ≡ status.Negative)
    → IfOk made (λ a. a.text.items ≡ fixed_text g.denominator None)
    → IfOk made (λ a. FixedAnswers options word bytes a.status a.text.items)
puts_infeasible options word bytes g route level task is none (Err e) answered text = tt
puts_infeasible options word bytes g route level task is none (Ok a) answered text =
    subst (λ (s : Status). FixedAnswers options word bytes s a.text.items) (sym answered) (record {
      network = g;
      route = route;
      task = task;
      none = subst (λ n. HasNoPlan g route n) is none;
      text_is = text;
    })
