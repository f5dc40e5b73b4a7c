-- The proof of bytes, or why they are none: too many bytes, another version, or the first fault
-- from the left.
use Rattle.std.specs.Prelude.{◌≡◌, ℕ, ◌≤◌, Bool, List, Result, codes, length}
use Rattle.ev_model.specs.Network.{Network}
use Rattle.ev_text.specs.Texts.{Begins, IsTextOf}
use Rattle.certificate_parts.specs.Limits.{most_bytes}
use Rattle.certificate_parts.specs.Versions.{BeginsAnother, begins_another, text_in}
use Rattle.certificate_parts.specs.declared.cert_text.CertText.{CertText}
use Rattle.route_proof.specs.Ranges.{ProofFits}
use Rattle.route_proof.specs.declared.proof.RouteProof.{RouteProof}
use Rattle.route_proof.specs.TextRanges.{ProofLoose}
use Rattle.route_proof.specs.ProofTexts.{proof_text}
use Rattle.route_proof.specs.Reading.{proof_at}

-- the word in front of the version of a proof
abbrev pub proof_word : List ℕ
proof_word = codes "evroute proof "

-- the bytes begin with the first line of another version
abbrev pub has_other_version : List ℕ → Bool
has_other_version bytes = begins_another proof_word 1 bytes

-- the proof of the bytes, or the first cause why there is none
abbrev pub proof_in : Network → List ℕ → List ℕ → Result RouteProof CertText
proof_in g route bytes = text_in proof_word 1 (proof_at g route) bytes

-- the bytes begin with the first line of a version that is not the first
abbrev pub BeginsOtherVersion : List ℕ → Type 0
BeginsOtherVersion bytes = BeginsAnother proof_word 1 bytes

-- the bytes are the text of a proof in its ranges, and are not too many
pub record SpellsProof (g : Network) (route : List ℕ) (bytes : List ℕ) (p : RouteProof) : Type 0 where
  pub within : length bytes ≤ most_bytes
  pub fits : ProofFits g route p
  pub text : bytes ≡ proof_text p

-- the bytes can be continued to a text in which each number is in its range by itself
abbrev pub BeginsLoosely : Network → List ℕ → List ℕ → Type 0
BeginsLoosely g route bytes = Begins (IsTextOf proof_text (ProofLoose g route)) bytes
