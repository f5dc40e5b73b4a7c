-- Texts that begin with the line of their version; and the value of bytes, or why they are none:
-- too many bytes, another version, or the first fault from the left.
use Rattle.std.specs.Prelude.{◌≢◌, ℕ, ◌-◌, ◌≤◌, ◌^◌, Bool, false, not, List, [], ◌∷◌, ◌++◌, Result, Ok, Err, decimal, length, nat_eq, nat_lt, if◌then◌else◌}
use Rattle.ev_text.specs.Readers.{Reader, answer, behind_word, then_reads, whole_with}
use Rattle.ev_text.specs.Scans.{IsPrefixOf, whole_at}
use Rattle.ev_text.specs.declared.TextFault.{TextFault}
use Rattle.certificate_parts.specs.Limits.{most_bytes}
use Rattle.certificate_parts.specs.Refusals.{or_refused}
use Rattle.certificate_parts.specs.declared.cert_text.CertText.{CertText}
use Rattle.certificate_parts.specs.declared.cert_text.CertText.TheVariants.{TooLong, Version}

-- the greatest number of a version that is told from text that is none: it has 38 digits
abbrev pub greatest_version : ℕ
greatest_version = 10 ^ 38 - 1

-- the first line of a version, which begins with the word for its kind of text
abbrev pub version_line : List ℕ → ℕ → List ℕ
version_line word n = word ++ (decimal n ++ 10 ∷ [])

abbrev pub version_at : List ℕ → Reader ℕ
version_at word =
    behind_word word (then_reads (whole_at greatest_version) (λ n.
    behind_word (10 ∷ []) (answer n)))

abbrev pub is_another : ℕ → Result (ℕ × (List ℕ × ℕ)) TextFault → Bool
is_another own (Ok found) = not (nat_eq found.0 own)
is_another own (Err fault) = false

-- the bytes begin with the first line of another version than their own
abbrev pub begins_another : List ℕ → ℕ → List ℕ → Bool
begins_another word own bytes = is_another own (version_at word (bytes, 0))

-- the value of the bytes, or the first cause why there is none
abbrev pub text_in : {A : Type 0} → List ℕ → ℕ → Reader A → List ℕ → Result A CertText
text_in word own read bytes =
    if nat_lt most_bytes (length bytes) then Err (TooLong (length bytes))
    else if begins_another word own bytes then Err Version
    else or_refused (whole_with read bytes)

-- the bytes begin with the first line of a version that is not their own
abbrev pub BeginsAnother : List ℕ → ℕ → List ℕ → Type 0
BeginsAnother word own bytes =
    (n : ℕ) × (n ≤ greatest_version) × (n ≢ own) × IsPrefixOf (version_line word n) bytes
