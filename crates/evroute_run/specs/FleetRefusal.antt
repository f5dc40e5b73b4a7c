-- The line of the first broken rule of an instance for a fleet, before anything is written.
use Rattle.std.specs.Prelude.{◌≡◌, ℕ, List, [], Option}
use Rattle.fleet_steps.specs.FleetNetwork.{IsFleetRefused}
use Rattle.job_frame.specs.Writes.{Written}
use Rattle.refusal_lines.specs.RefusalText.{IsRule, refusal_text}
use Rattle.refusal_lines.specs.declared.refusal.Refusal.{Refusal}

-- the line of the first broken rule is put, and nothing is written
pub record PutsFleetRefusal (limit : Option ℕ) (bytes : List ℕ)
    (ws : List Written) (text : List ℕ) : Type 0 where
  pub refusal : Refusal
  pub rule : IsRule refusal
  pub refused : IsFleetRefused limit bytes refusal
  pub none : ws ≡ []
  pub text_is : text ≡ refusal_text refusal
