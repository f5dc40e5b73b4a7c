-- The near proof of a file on a network.
use Rattle.std.specs.Prelude.{◌≡◌, ℕ, List, Ok, Err}
use Rattle.certificate_parts.specs.declared.cert_text.CertText.{CertText}
use Rattle.ev_model.specs.Network.{Network}
use Rattle.job_frame.specs.declared.answer.Ended.{Ended}
use Rattle.job_frame.specs.declared.answer.Ended.TheVariants.{Refused, Memory}
use Rattle.near_proof.specs.declared.proof.NearProof.{NearProof}
use Rattle.near_text.specs.NearIn.{IsSpelledBy, near_in}
use Rattle.near_text.specs.Written.{written_near}
use Rattle.refusal_lines.specs.declared.refusal.Refusal.TheVariants as refusal

-- the bytes are the text of a near proof of the network, and are read as it
pub record HasNear (g : Network) (bytes : List ℕ) (p : NearProof) : Type 0 where
  pub read : near_in g bytes ≡ Ok (written_near g p)
  pub spelled : IsSpelledBy g bytes p

-- the bytes are no text of a near proof, by this fault, or memory was refused
abbrev pub IsProofEnded : Network → List ℕ → Ended → Type 0
IsProofEnded g bytes (Refused r) =
    (fault : CertText) × (r ≡ refusal.Certificate fault) × (near_in g bytes ≡ Err fault)
IsProofEnded g bytes Memory = Unit {0}
