-- The proof for several kinds of vehicles of bytes, or why they are none: too many bytes, another
-- version, or the first fault from the left.
use Rattle.std.specs.Prelude.{◌≡◌, ℕ, ◌≤◌, Bool, List, Result, codes, length}
use Rattle.std.specs.List.{All}
use Rattle.ev_model.specs.Network.{Network}
use Rattle.ev_text.specs.Texts.{Begins, IsTextOf}
use Rattle.piece_fn.specs.declared.label.Label.{Label}
use Rattle.certificate_parts.specs.Limits.{most_bytes, most_items}
use Rattle.certificate_parts.specs.Ranges.{HasSet, LabelFits}
use Rattle.certificate_parts.specs.Versions.{BeginsAnother, begins_another, text_in}
use Rattle.certificate_parts.specs.declared.cert_text.CertText.{CertText}
use Rattle.mixed_model.specs.Ranges.{MixedFits}
use Rattle.mixed_model.specs.declared.proof.MixedProof.{MixedProof}
use Rattle.mixed_text.specs.MixedTexts.{mixed_text}
use Rattle.mixed_text.specs.Reading.{mixed_proof_at}
use Rattle.mixed_text.specs.Written.{WrittenMixed, written_mixed}
use Rattle.mixed_text.specs.WrittenRanges.{MixedIs, MixedLoose}

-- the word in front of the version of such a proof
abbrev pub mixed_word : List ℕ
mixed_word = codes "evroute mixed "

-- the bytes begin with the first line of another version
abbrev pub has_other_version : List ℕ → Bool
has_other_version bytes = begins_another mixed_word 1 bytes

-- the proof of the bytes as it is written, or the first cause why there is none
abbrev pub mixed_in : List Network → List ℕ → Result WrittenMixed CertText
mixed_in kinds bytes = text_in mixed_word 1 (mixed_proof_at kinds) bytes

-- the bytes begin with the first line of a version that is not the first
abbrev pub BeginsOtherVersion : List ℕ → Type 0
BeginsOtherVersion bytes = BeginsAnother mixed_word 1 bytes

-- the bytes are the text of what is written, and are not too many
pub record SpellsWritten (kinds : List Network) (bytes : List ℕ) (w : WrittenMixed) : Type 0 where
  pub within : length bytes ≤ most_bytes
  pub ranges : MixedIs kinds w
  pub text : bytes ≡ mixed_text w

-- the bytes can be continued to a text in which each number is in its range by itself
abbrev pub BeginsLoosely : List Network → List ℕ → Type 0
BeginsLoosely kinds bytes = Begins (IsTextOf mixed_text (MixedLoose kinds)) bytes

-- the labels of a kind are in the ranges of its network
pub record ListFits (g : Network) (labels : List Label) : Type 0 where
  pub few : length labels ≤ most_items
  pub each : All (LabelFits g) labels

-- what the sets of labels are by their type: numbers below 128, in rising order
abbrev pub HaveSets : List (List Label) → Type 0
HaveSets lists = All (λ labels. All HasSet labels) lists

-- a proof in the ranges of the kinds whose text these bytes are
pub record IsSpelledBy (kinds : List Network) (bytes : List ℕ) (p : MixedProof) : Type 0 where
  pub fits : MixedFits kinds p
  pub kept : HaveSets p.labels
  pub text : bytes ≡ mixed_text (written_mixed kinds p)
