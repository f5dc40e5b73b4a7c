-- The proof of a file, of either kind, on a network.
use Rattle.std.specs.Prelude.{◌≡◌, List, ℕ}
use Rattle.ev_model.specs.Network.{Network}
use Rattle.job_frame.specs.declared.answer.Ended.{Ended}
use Rattle.job_frame.specs.declared.answer.Ended.TheVariants.{Memory, Refused}
use Rattle.refusal_lines.specs.declared.refusal.Refusal.{Refusal}
use Rattle.refusal_lines.specs.declared.refusal.Refusal.TheVariants as refusal
use Rattle.tree_text.specs.BoundTexts.{IsUnread}
use Rattle.tree_text.specs.declared.bounds.reading.BoundText.{BoundText}
use Rattle.tree_text.specs.declared.bounds.reading.BoundText.TheVariants.{Customers, Text}

-- the rule that a fault of a proof's text breaks
abbrev pub refusal_of : BoundText → Refusal
refusal_of (Customers count) = refusal.Customers count
refusal_of (Text fault) = refusal.Certificate fault

-- the bytes are no text of a proof, by this fault, or memory was refused
abbrev pub IsProofEnded : Network → List ℕ → Ended → Type 0
IsProofEnded g bytes (Refused r) =
    (fault : BoundText) × (r ≡ refusal_of fault) × IsUnread g bytes fault
IsProofEnded g bytes Memory = Unit {0}
