-- What `fixed` answers to the bytes of its file.
use Rattle.std.specs.Prelude.{◌≡◌, ℕ, ◌<◌, ◌≤◌, List, [], ◌∷◌, length, Option, None, Some, Err}
use Rattle.ev_model.specs.Network.{Network, node_count}
use Rattle.ev_model.specs.Time.{time_of}
use Rattle.ev_model.specs.declared.Stop.{Stop}
use Rattle.command_line.specs.Words.{FixedJob}
use Rattle.command_line.specs.declared.Options.{Options}
use Rattle.instance_reader.specs.Faults.{IsFirstFault}
use Rattle.ev_model.specs.Fastest.{HasNoPlan, IsFastest}
use Rattle.report_lines.specs.FixedText.{fixed_text}
use Rattle.refusal_lines.specs.RefusalText.{IsRule, refusal_text}
use Rattle.refusal_lines.specs.declared.refusal.Refusal.{Refusal}
use Rattle.refusal_lines.specs.declared.refusal.Refusal.TheVariants as refusal
use Rattle.ev_model.specs.Route.{IsRoute}
use Rattle.route_plan.specs.Limits.{most_route_nodes}
use Rattle.route_plan.specs.RouteRules.{route_in}
use Rattle.route_plan.specs.RouteWords.{SpellsRoute}
use Rattle.job_frame.specs.Caps.{file_read}
use Rattle.job_frame.specs.LimitedNetwork.{HasNetwork, IsPastLimit}
use Rattle.evroute_causes.specs.Heard.{HearsRefusals}
use Rattle.job_frame.specs.Task.{Outcome, Task}
use Rattle.job_frame.specs.declared.status.Status.{Status}
use Rattle.job_frame.specs.declared.status.Status.TheVariants as status
use Rattle.evroute_causes.specs.declared.cause.Cause.{Cause}

-- the level at which the vehicle starts: that of the words, else a full battery
abbrev pub start_of : Network → Option ℕ → ℕ
start_of g None = g.capacity
start_of g (Some charge) = charge

-- the bytes are an instance, and the vehicle can start with the charge of the words
pub record HasStart (options : Options) (bytes : List ℕ) (g : Network) : Type 0 where
  pub network : HasNetwork options.limit bytes g
  pub within : start_of g options.charge ≤ g.capacity

-- besides, the word spells this route
pub record IsTask
    (options : Options) (word bytes : List ℕ) (g : Network) (route : List ℕ) : Type 0 where
  pub start : HasStart options bytes g
  pub spelled : SpellsRoute word route
  pub is_route : IsRoute g route
  pub short : length route ≤ most_route_nodes

-- the first broken rule: of the instance, the limit, the charge, the route
abbrev pub IsRefused : Options → List ℕ → List ℕ → Refusal → Type 0
IsRefused options word bytes (refusal.Instance fault) = IsFirstFault bytes fault
IsRefused options word bytes (refusal.Limit limit) = IsPastLimit options.limit bytes limit
IsRefused options word bytes (refusal.Charge level) =
    (g : Network) × HasNetwork options.limit bytes g
    × (options.charge ≡ Some level) × (g.capacity < level)
IsRefused options word bytes (refusal.Route fault) =
    (g : Network) × HasStart options bytes g × (route_in (node_count g) word ≡ Err fault)
IsRefused options word bytes other = ⊥

-- a plan of the route than which none is faster in any fraction of a unit, with its time
pub record PutsPlan (options : Options) (word bytes text : List ℕ) : Type 0 where
  pub network : Network
  pub route : List ℕ
  pub task : IsTask options word bytes network route
  pub stops : List Stop
  pub fastest : IsFastest network route (start_of network options.charge) stops
  pub text_is : text ≡ fixed_text network.denominator
      (Some (stops, time_of network 1 (start_of network options.charge) stops))

-- no plan of the route is feasible, in any fraction of a unit
pub record PutsInfeasible (options : Options) (word bytes text : List ℕ) : Type 0 where
  pub network : Network
  pub route : List ℕ
  pub task : IsTask options word bytes network route
  pub none : HasNoPlan network route (start_of network options.charge)
  pub text_is : text ≡ fixed_text network.denominator None

-- the first broken rule
pub record PutsRefusal (options : Options) (word bytes text : List ℕ) : Type 0 where
  pub refusal : Refusal
  pub rule : IsRule refusal
  pub refused : IsRefused options word bytes refusal
  pub text_is : text ≡ refusal_text refusal

-- the text that belongs to a status
abbrev pub FixedAnswers : Options → List ℕ → List ℕ → Status → List ℕ → Type 0
FixedAnswers options word bytes status.Done text = PutsPlan options word bytes text
FixedAnswers options word bytes status.Negative text = PutsInfeasible options word bytes text
FixedAnswers options word bytes status.Refused text = PutsRefusal options word bytes text
FixedAnswers options word bytes other text = ⊥

-- `fixed` reads its file, and writes none
abbrev pub fixed_answers : FixedJob → List (List ℕ) → Outcome → Type 0
fixed_answers job (bytes ∷ []) o =
    FixedAnswers job.options job.route bytes o.status o.text × (o.writes ≡ [])
fixed_answers job other o = ⊥

abbrev pub fixed_task : FixedJob → Task Cause
fixed_task job = record {
  reads = file_read job.file ∷ [];
  goes_on = λ before. Unit {0};
  answers = fixed_answers job;
  heard = HearsRefusals;
  asks = λ name. ⊥;
  writes_first = λ ws. ⊥;
  is_open = ⊥;
  has_budget = ⊥;
}
