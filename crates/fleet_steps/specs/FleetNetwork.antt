-- The instance of a file for a fleet: with the limit of the words, and without too many customers.
use Rattle.std.specs.Prelude.{◌≡◌, ℕ, ◌<◌, ◌≤◌, List, Option}
use Rattle.certificate_parts.specs.Ranges.{customer_count}
use Rattle.ev_model.specs.Network.{Network}
use Rattle.instance_reader.specs.Faults.{IsFirstFault}
use Rattle.instance_reader.specs.Instance.{most_customers}
use Rattle.job_frame.specs.LimitedNetwork.{HasNetwork, IsPastLimit}
use Rattle.job_frame.specs.declared.answer.Ended.{Ended}
use Rattle.job_frame.specs.declared.answer.Ended.TheVariants.{Refused, Memory}
use Rattle.refusal_lines.specs.RefusalText.{IsRule}
use Rattle.refusal_lines.specs.declared.refusal.Refusal.{Refusal}
use Rattle.refusal_lines.specs.declared.refusal.Refusal.TheVariants as refusal

-- the bytes are an instance without too many customers, and g is its network with the limit of
-- the words
pub record HasFleetNetwork (limit : Option ℕ) (bytes : List ℕ) (g : Network) : Type 0 where
  pub network : HasNetwork limit bytes g
  pub few : customer_count g ≤ most_customers

-- the first broken rule: of the instance, the limit, the count of customers
abbrev pub IsFleetRefused : Option ℕ → List ℕ → Refusal → Type 0
IsFleetRefused limit bytes (refusal.Instance fault) = IsFirstFault bytes fault
IsFleetRefused limit bytes (refusal.Limit given) = IsPastLimit limit bytes given
IsFleetRefused limit bytes (refusal.Customers count) =
    (g : Network) × HasNetwork limit bytes g × (count ≡ customer_count g) × (most_customers < count)
IsFleetRefused limit bytes other = ⊥

-- why these steps are the last: such a rule is broken, or memory was refused
abbrev pub IsFleetEnded : Option ℕ → List ℕ → Ended → Type 0
IsFleetEnded limit bytes (Refused refusal) = IsRule refusal × IsFleetRefused limit bytes refusal
IsFleetEnded limit bytes Memory = Unit {0}
