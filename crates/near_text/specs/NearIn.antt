-- The near proof of bytes, or why they are none: too many bytes, another version, or the first
-- fault from the left.
use Rattle.std.specs.Prelude.{◌≡◌, ℕ, ◌≤◌, Bool, List, Result, codes, length}
use Rattle.std.specs.List.{All}
use Rattle.customer_sets.specs.CustSet.{IsCustomerSet}
use Rattle.ev_model.specs.Network.{Network}
use Rattle.ev_text.specs.Texts.{Begins, IsTextOf}
use Rattle.certificate_parts.specs.Limits.{most_bytes}
use Rattle.certificate_parts.specs.Versions.{BeginsAnother, begins_another, text_in}
use Rattle.certificate_parts.specs.declared.cert_text.CertText.{CertText}
use Rattle.near_proof.specs.Ranges.{NearFits}
use Rattle.near_proof.specs.declared.proof.NearLabel.{NearLabel}
use Rattle.near_proof.specs.declared.proof.NearProof.{NearProof}
use Rattle.near_text.specs.NearTexts.{near_text}
use Rattle.near_text.specs.Reading.{near_proof_at}
use Rattle.near_text.specs.Written.{WrittenNear, written_near}
use Rattle.near_text.specs.WrittenRanges.{NearIs, NearLoose}

-- the word in front of the version of a near proof
abbrev pub near_word : List ℕ
near_word = codes "evroute near "

-- the bytes begin with the first line of another version
abbrev pub has_other_version : List ℕ → Bool
has_other_version bytes = begins_another near_word 1 bytes

-- the near proof of the bytes as it is written, or the first cause why there is none
abbrev pub near_in : Network → List ℕ → Result WrittenNear CertText
near_in g bytes = text_in near_word 1 (near_proof_at g) bytes

-- the bytes begin with the first line of a version that is not the first
abbrev pub BeginsOtherVersion : List ℕ → Type 0
BeginsOtherVersion bytes = BeginsAnother near_word 1 bytes

-- the bytes are the text of what is written, and are not too many
pub record SpellsWritten (g : Network) (bytes : List ℕ) (w : WrittenNear) : Type 0 where
  pub within : length bytes ≤ most_bytes
  pub ranges : NearIs g w
  pub text : bytes ≡ near_text w

-- the bytes can be continued to a text in which each number is in its range by itself
abbrev pub BeginsLoosely : Network → List ℕ → Type 0
BeginsLoosely g bytes = Begins (IsTextOf near_text (NearLoose g)) bytes

-- what the memory of a label is by its type: a set
abbrev pub HasMemory : NearLabel → Type 0
HasMemory l = IsCustomerSet l.memory

-- what near sets and memories are by their type: numbers below 128, in rising order
pub record IsKept (p : NearProof) : Type 0 where
  pub sets : All IsCustomerSet p.sets
  pub memories : All HasMemory p.labels

-- a near proof in the ranges of the network whose text these bytes are
pub record IsSpelledBy (g : Network) (bytes : List ℕ) (p : NearProof) : Type 0 where
  pub fits : NearFits g p
  pub kept : IsKept p
  pub text : bytes ≡ near_text (written_near g p)
