-- What `make` writes and puts: functions of the numbers of its words.
use Rattle.std.specs.Prelude.{◌≡◌, ℕ, List, [], ◌∷◌, ◌++◌, None, Some}
use Rattle.std.specs.List.{range_with_len}
use Rattle.command_line.specs.Words.{MakeJob}
use Rattle.ev_model.specs.Fastest.{HasNoPlan, IsFastest}
use Rattle.ev_model.specs.Network.{Network, node_count}
use Rattle.ev_model.specs.Time.{time_of}
use Rattle.ev_model.specs.declared.Stop.{Stop}
use Rattle.instance_maker.specs.MadeInstance.{IsOutOfRange, made_text}
use Rattle.instance_reader.specs.Faults.{IsInstanceOf}
use Rattle.plan_writer.specs.MakeText.{make_text}
use Rattle.refusal_lines.specs.RefusalText.{IsRule, refusal_text}
use Rattle.refusal_lines.specs.declared.refusal.Refusal.{Refusal}
use Rattle.refusal_lines.specs.declared.refusal.Refusal.TheVariants as refusal
use Rattle.evroute_causes.specs.Heard.{HearsRefusals}
use Rattle.job_frame.specs.Task.{Outcome, Task}
use Rattle.job_frame.specs.Writes.{Written}
use Rattle.job_frame.specs.declared.status.Status.{Status}
use Rattle.job_frame.specs.declared.status.Status.TheVariants as status
use Rattle.evroute_causes.specs.declared.cause.Cause.{Cause}

-- no instance is made of the numbers
abbrev pub HasNoInstance : MakeJob → Type 0
HasNoInstance job = IsOutOfRange job.seed job.customers job.stations

-- the text of the instance that is made of the numbers
abbrev pub text_made : MakeJob → List ℕ
text_made job = made_text job.seed job.customers job.stations

-- the made text as a file that is written
abbrev pub made_file : MakeJob → Written
made_file job = record { name = job.outfile; bytes = text_made job }

-- an instance is made of the numbers, and g is its network
pub record MakesNetwork (job : MakeJob) (g : Network) : Type 0 where
  pub within : HasNoInstance job → ⊥
  pub instance : IsInstanceOf (text_made job) g

-- the route over all customers, in rising order
abbrev pub route_of_all : ℕ → List ℕ
route_of_all customers = 0 ∷ range_with_len 1 customers ++ 0 ∷ []

-- the rule that is broken: a number is out of its range
abbrev pub IsMakeRefused : MakeJob → Refusal → Type 0
IsMakeRefused job refusal.Maker = HasNoInstance job
IsMakeRefused job other = ⊥

-- the time of a plan of the route than which none is faster in any fraction of a unit, from a
-- full battery, behind the made text
pub record PutsTime (job : MakeJob) (ws : List Written) (text : List ℕ) : Type 0 where
  pub network : Network
  pub makes : MakesNetwork job network
  pub stops : List Stop
  pub fastest : IsFastest network (route_of_all job.customers) network.capacity stops
  pub written : ws ≡ made_file job ∷ []
  pub text_is : text ≡ make_text (node_count network) network.denominator
      (Some (time_of network 1 network.capacity stops))

-- no plan of the route is feasible, in any fraction of a unit
pub record PutsNoTime (job : MakeJob) (ws : List Written) (text : List ℕ) : Type 0 where
  pub network : Network
  pub makes : MakesNetwork job network
  pub none : HasNoPlan network (route_of_all job.customers) network.capacity
  pub written : ws ≡ made_file job ∷ []
  pub text_is : text ≡ make_text (node_count network) network.denominator None

-- the line of the broken rule, and nothing is written
pub record PutsMakeRefusal (job : MakeJob) (ws : List Written) (text : List ℕ) : Type 0 where
  pub refusal : Refusal
  pub rule : IsRule refusal
  pub refused : IsMakeRefused job refusal
  pub nothing : ws ≡ []
  pub text_is : text ≡ refusal_text refusal

-- the files and the text that belong to a status
abbrev pub MakeAnswers : MakeJob → Status → List Written → List ℕ → Type 0
MakeAnswers job status.Done ws text = PutsTime job ws text
MakeAnswers job status.Negative ws text = PutsNoTime job ws text
MakeAnswers job status.Refused ws text = PutsMakeRefusal job ws text
MakeAnswers job other ws text = ⊥

-- `make` reads nothing
abbrev pub make_answers : MakeJob → List (List ℕ) → Outcome → Type 0
make_answers job [] o = MakeAnswers job o.status o.writes o.text
make_answers job other o = ⊥

-- it writes its file wherever an instance is made, before the route is charged
abbrev pub make_task : MakeJob → Task Cause
make_task job = record {
  reads = [];
  goes_on = λ before. ⊥;
  answers = make_answers job;
  heard = HearsRefusals;
  asks = λ name. ⊥;
  writes_first = λ ws. (HasNoInstance job → ⊥) × (ws ≡ made_file job ∷ []);
  is_open = ⊥;
  has_budget = ⊥;
}
