-- Labels under judgement, and what the tests of them tell.
use Rattle.std.specs.Prelude.{◌≡◌, ℕ, ◌+◌, ◌<◌, ◌≤◌, Bool, ◌&&◌, ◌||◌, Option, None, Some, MatchBool, length, nat_eq, slice_get, true}
use Rattle.std.specs.List.{All}
use Rattle.customer_sets.specs.CustSet.{has}
use Rattle.ev_model.specs.Network.{is_customer, Network, node_count}
use Rattle.fleet_model.specs.Labels.{IsLevel}
use Rattle.fleet_model.specs.Places.{customer_number}
use Rattle.instance_reader.specs.Instance.{customer_nodes, most_customers}
use Rattle.near_proof.specs.Accepted.{HasTight, terms_of}
use Rattle.near_proof.specs.Broken.{at_home, at_step, EarnsHome, MissesStep}
use Rattle.near_proof.specs.Covered.{IsNearCovered}
use Rattle.near_proof.specs.Ranges.{NearLabelFits, SetsFit}
use Rattle.near_proof.specs.States.{label_of, near_at}
use Rattle.near_proof.specs.Steps.{at_near_customer, at_near_station, IsNearCustomerStep, IsNearStationStep}
use Rattle.near_proof.specs.Terms.{near_set, price_of, Terms}
use Rattle.near_proof.specs.declared.proof.NearLabel.{NearLabel}
use Rattle.near_proof.specs.declared.proof.NearProof.{NearProof}
use Rattle.near_proof.specs.declared.verdict.NearVerdict.{NearVerdict}
use Rattle.near_proof.specs.declared.verdict.NearVerdict.TheVariants.{End as BadEnd, Start as NoStart, Step as BadStep}
use Rattle.near_proof.specs.declared.faults.NearLabelFault.{NearLabelFault}
use Rattle.near_proof.specs.declared.faults.NearLabelFault.TheVariants.{End, Start, Step}
use Rattle.near_proof.specs.Faults.{IsFault, Judged, terms_in}
use Rattle.near_proof.specs.Links.{AreEntries}
use Rattle.near_proof.specs.declared.coverage.Target.{Target}
use Rattle.near_proof.specs.declared.judge.Judge.{Judge}

-- the verdict on a near proof whose labels are not closed
abbrev pub as_verdict : NearLabelFault → NearVerdict
as_verdict Start = NoStart
as_verdict (Step label node) = BadStep label node
as_verdict (End label) = BadEnd label

-- the labels of a near proof, with its terms
abbrev pub judged_in : NearProof → Judged
judged_in p = record { terms = terms_of p; labels = p.labels }

-- what is judged
abbrev pub judged : Judge → Judged
judged j = record { terms = terms_in j.terms; labels = j.labels.now }

pub record IsJudge (j : Judge) : Type 0 where
  pub few : length (customer_nodes j.inst.now) ≤ most_customers
  pub weight : j.terms.weight ≤ 1
  pub one_price : length j.terms.prices.now ≡ length (customer_nodes j.inst.now)
  pub sets : SetsFit (length (customer_nodes j.inst.now)) j.terms.sets.now
  pub labels : All (NearLabelFits j.inst.now) j.labels.now
  pub entries : AreEntries j.labels.now j.entries.now

-- a step from the label to the node leads to a state that is not covered
abbrev pub IsUncovered : Network → Judged → NearLabel → ℕ → Type 0
IsUncovered g j l x = MissesStep g j.terms j.labels l x

-- each state is covered to which a step from the label to the node leads
pub record AreStepsCovered (g : Network) (j : Judged) (l : NearLabel) (x : ℕ) : Type 0 where
  pub customer : (y : ℕ) → IsLevel (label_of l) y → IsNearCustomerStep g (near_at l y) x →
      IsNearCovered j.terms.weight j.labels (at_near_customer g j.terms (near_at l y) x)
  pub station : (y z : ℕ) → IsLevel (label_of l) y → IsNearStationStep g (near_at l y) x z →
      IsNearCovered j.terms.weight j.labels (at_near_station g (near_at l y) x z)

abbrev pub TellsStep : Network → Judged → NearLabel → ℕ → Bool → Type 0
TellsStep g j l x covered = MatchBool covered (AreStepsCovered g j l x) (IsUncovered g j l x)

-- the first node to which a step leads to a state that is not covered
abbrev pub TellsFirst : Network → Judged → NearLabel → Option ℕ → Type 0
TellsFirst g j l None = (x : ℕ) → AreStepsCovered g j l x
TellsFirst g j l (Some node) =
    IsUncovered g j l node × ((x : ℕ) → x < node → IsUncovered g j l x → ⊥)

-- whether a step home earns more than it takes
abbrev pub TellsHome : Network → ℕ → NearLabel → Bool → Type 0
TellsHome g weight l earns = MatchBool earns (EarnsHome g weight l) (EarnsHome g weight l → ⊥)

-- the first step that is broken, by the label's number and the node
abbrev pub TellsBadStep : Network → Judged → Option (ℕ × ℕ) → Type 0
TellsBadStep g j None =
    (n x : ℕ) (l : NearLabel) → slice_get j.labels n ≡ Some l → AreStepsCovered g j l x
TellsBadStep g j (Some step) =
    IsFault g j (at_step step.0 step.1)
    × ((n x : ℕ) → n < step.0 → IsFault g j (at_step n x) → ⊥)
    × ((x : ℕ) → x < step.1 → IsFault g j (at_step step.0 x) → ⊥)

-- the first label whose step home is broken
abbrev pub TellsBadEnd : Network → Judged → Option ℕ → Type 0
TellsBadEnd g j None = (n : ℕ) → IsFault g j (at_home n) → ⊥
TellsBadEnd g j (Some label) =
    IsFault g j (at_home label) × ((n : ℕ) → n < label → IsFault g j (at_home n) → ⊥)

-- a node is no customer, or the customer there has a tight route
abbrev pub TellsTight : Network → NearProof → ℕ → Bool → Type 0
TellsTight g p x tight = MatchBool tight
    (is_customer g x ≡ true → HasTight g p (customer_number g x))
    ((is_customer g x ≡ true) × (HasTight g p (customer_number g x) → ⊥))

-- the first node whose customer has no tight route
abbrev pub TellsLoose : Network → NearProof → Option ℕ → Type 0
TellsLoose g p None =
    (x : ℕ) → x < node_count g → is_customer g x ≡ true → HasTight g p (customer_number g x)
TellsLoose g p (Some node) =
    (node < node_count g) × (is_customer g node ≡ true)
    × (HasTight g p (customer_number g node) → ⊥)
    × ((x : ℕ) → x < node → is_customer g x ≡ true → HasTight g p (customer_number g x))

-- what is common to the states after a label's service of a customer at a node, by number
pub record IsServed (t : Terms) (l : NearLabel) (x c : ℕ) (to : Target) : Type 0 where
  pub node : to.node ≡ x
  pub memory : (d : ℕ) → has to.memory d
      ≡ (nat_eq c d || (has l.memory d && has (near_set t.sets c) d))
  pub count : to.count ≡ l.count + 1
  pub earned : to.earned ≡ l.earned + price_of t.prices c
