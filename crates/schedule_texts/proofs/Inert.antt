-- No byte of a name in XML opens or ends an element or the value of an attribute.
use Rattle.std.proofs.Common.{◌≡◌, ◌==◌, ℕ, ◌++◌, Bool, false, true, List, [], ◌∷◌, codes, refl}
use Rattle.std.specs.Prelude.{if◌then◌else◌}
use Rattle.std.specs.List.{All}
use Rattle.std.proofs.lemmas.List.Elements.{All-append, All-cons, All-nil}
use Rattle.ev_text.specs.Texts.{joined_texts}
use Rattle.schedule_texts.specs.Labels.{IsInert, xml_byte, xml_text}

inert_entity : (a b c d : ℕ) → IsInert a → IsInert b → IsInert c → IsInert d → All IsInert (a ∷ b ∷ c ∷ d ∷ [])
inert_entity a b c d p q r s =
    All-cons IsInert a (b ∷ c ∷ d ∷ []) p (All-cons IsInert b (c ∷ d ∷ []) q (All-cons IsInert c (d ∷ []) r (All-cons IsInert d [] s (All-nil IsInert))))

inert_longer : (a b c d e : ℕ) → IsInert a → IsInert b → IsInert c → IsInert d → IsInert e → All IsInert (a ∷ b ∷ c ∷ d ∷ e ∷ [])
inert_longer a b c d e p q r s t = All-cons IsInert a (b ∷ c ∷ d ∷ e ∷ []) p (inert_entity b c d e q r s t)

-- by which of the tests holds
by_tests : (byte : ℕ) (amp less more single double : Bool)
    → ((byte == 60) ≡ less) × ((byte == 62) ≡ more) × ((byte == 39) ≡ single) × ((byte == 34) ≡ double)
    → All IsInert (if amp then codes "&amp;" else if less then codes "&lt;" else if more then codes "&gt;" else if single then codes "&#39;" else if double then codes "&#34;" else byte ∷ [])
by_tests byte true less more single double are = inert_longer 38 97 109 112 59 refl refl refl refl refl
by_tests byte false true more single double are = inert_entity 38 108 116 59 refl refl refl refl
by_tests byte false false true single double are = inert_entity 38 103 116 59 refl refl refl refl
by_tests byte false false false true double are = inert_longer 38 35 51 57 59 refl refl refl refl refl
by_tests byte false false false false true are = inert_longer 38 35 51 52 59 refl refl refl refl refl
by_tests byte false false false false false (less, more, single, double) =
    All-cons IsInert byte [] (rw (less, more, single, double) refl) (All-nil IsInert)

inert_byte : (byte : ℕ) → All IsInert (xml_byte byte)
inert_byte byte = by_tests byte (byte == 38) (byte == 60) (byte == 62) (byte == 39) (byte == 34) (refl, refl, refl, refl)

pub all_inert : (name : List ℕ) → All IsInert (xml_text name)
all_inert [] = All-nil IsInert
all_inert (byte ∷ bytes) = All-append IsInert (xml_byte byte) (joined_texts xml_byte bytes) (inert_byte byte) (all_inert bytes)
