-- What faults of listed labels tell.
use Rattle.std.proofs.Common.{ℕ, List, inl, inr}
use Rattle.label_search.specs.Answers.{EarnsThere, StepsOn}
use Rattle.near_proof.specs.Broken.{at_home, at_step}
use Rattle.near_proof.specs.Faults.{IsFault, Judged}
use Rattle.near_proof.specs.declared.proof.NearLabel.{NearLabel}
use Rattle.near_pricing.specs.Labels.{near_space}
use Rattle.near_pricing.specs.Questions.{Question}

-- the labels, with what they are judged by
abbrev pub judged_by : Question → List NearLabel → Judged
judged_by q labels = record { terms = q.terms; labels = labels }

module _ (q : Question) (labels : List NearLabel) (n : ℕ) where
  -- the label earns at home
  pub earns_there : IsFault q.network (judged_by q labels) (at_home n) → EarnsThere (near_space q) labels n
  earns_there fault = record { label = fault.0; at = fault.1; earns = fault.2 }

  -- the step can be made
  pub steps_on : (x : ℕ) → IsFault q.network (judged_by q labels) (at_step n x) → StepsOn (near_space q) labels n x
  steps_on x fault = record {
    label = fault.0;
    at = fault.1;
    known = elim (fault.2.2) [
      | inl customer ↦ customer.0.step.known
      | inr station ↦ station.1.step.known
    ];
    step = (
      fault.2.0,
      fault.2.1,
      elim (fault.2.2) [
        | inl customer ↦ inl customer.0
        | inr station ↦ inr (station.0, station.1)
      ],
    );
  }
