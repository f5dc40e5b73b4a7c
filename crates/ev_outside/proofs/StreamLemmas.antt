-- How far a loop over the reads or writes of std has come.
use Rattle.std.proofs.Common.{◌≡◌, ◌∙◌, sym, ap, ℕ, ◌+◌, ◌-◌, ◌≤◌, List, ◌++◌, length, take, Option, Some, None, IfSome, arith, append_assoc, length-append, length-drop, drop}
use Rattle.std.proofs.lemmas.List.{append-nil, take_all, take-append-drop, take_rest}
use Rattle.std.proofs.Math.Seq.{take-append_seam, take-add}
use Rattle.std.specs.Io.KnownBytes.{Consumes, IsAtEnd}
use Rattle.ev_text.specs.Scans.{IsPrefixOf}

-- A part of what the source had was appended, and `left` bytes of `most` are still wanted.
pub record HasRead (before now : Option (List ℕ)) (old new : List ℕ) (most left : ℕ) : Type 0 where
  pub part : List ℕ
  pub appended : new ≡ old ++ part
  pub consumed : Consumes before now part
  pub counted : length part + left ≡ most

pub Consumes-append : (a b c : Option (List ℕ)) (xs ys : List ℕ) → Consumes a b xs → Consumes b c ys → Consumes a c (xs ++ ys)
Consumes-append None b c xs ys p q = p
Consumes-append (Some a) None c xs ys p q = absurd p
Consumes-append (Some a) (Some b) None xs ys p q = absurd q
Consumes-append (Some a) (Some b) (Some c) xs ys p q = p ∙ ap (λ n. xs ++ n) q ∙ sym (append_assoc xs ys c)

pub HasRead-more : (a b c : Option (List ℕ)) (old new newer piece : List ℕ) (most left after : ℕ) → HasRead a b old new most left → Consumes b c piece → newer ≡ new ++ piece → length piece + after ≡ left → HasRead a c old newer most after
HasRead-more a b c old new newer piece most left after h consumed appended counted = record {
  part = h.part ++ piece;
  appended = appended ∙ ap (λ n. n ++ piece) h.appended ∙ append_assoc old h.part piece;
  consumed = Consumes-append a b c h.part piece h.consumed consumed;
  counted = omega (arith, length-append h.part piece, counted, h.counted);
}

-- Nothing more is wanted.
pub HasRead-full : (a c : Option (List ℕ)) (old new : List ℕ) (most : ℕ) → HasRead a c old new most 0 → IfSome a (λ whole. new ≡ old ++ take most whole)
HasRead-full None c old new most h = tt
HasRead-full (Some whole) None old new most h = absurd h.consumed
HasRead-full (Some whole) (Some rest) old new most h =
    let counted : length h.part ≡ most = omega (arith, h.counted) in
    let taken : take most whole ≡ h.part = ap (λ n. take n whole) (sym counted) ∙ ap (λ xs. take (length h.part) xs) h.consumed ∙ take-append_seam h.part rest in
    h.appended ∙ ap (λ xs. old ++ xs) (sym taken)

-- The source has nothing more.
pub HasRead-end : (a c : Option (List ℕ)) (old new : List ℕ) (most left : ℕ) → HasRead a c old new most left → IsAtEnd c → IfSome a (λ whole. new ≡ old ++ take most whole)
HasRead-end None c old new most left h end = tt
HasRead-end (Some whole) None old new most left h end = absurd h.consumed
HasRead-end (Some whole) (Some rest) old new most left h end =
    let all : whole ≡ h.part = h.consumed ∙ ap (λ xs. h.part ++ xs) end ∙ append-nil h.part in
    let short : length whole ≤ most = omega (arith, h.counted, ap length all) in
    let taken : take most whole ≡ whole = take_all most whole short in
    h.appended ∙ ap (λ xs. old ++ xs) (sym all ∙ sym taken)

-- The next `count` bytes stand behind the first ones.
pub next_pieces : (bytes : List ℕ) (at count : ℕ) → take at bytes ++ take count (take (length bytes - at) (drop at bytes)) ≡ take (at + count) bytes
next_pieces bytes at count = ap (λ xs. take at bytes ++ take count xs) (take_rest bytes at) ∙ sym (take-add at count bytes)

-- A write takes no more than is left.
pub within-rest : (bytes : List ℕ) (at count : ℕ) → at ≤ length bytes → count ≤ length (take (length bytes - at) (drop at bytes)) → at + count ≤ length bytes
within-rest bytes at count h k = omega (arith, length-drop at bytes, ap length (take_rest bytes at))

-- The first bytes are a prefix.
pub take-IsPrefixOf : (count : ℕ) (bytes : List ℕ) → IsPrefixOf (take count bytes) bytes
take-IsPrefixOf count bytes = (drop count bytes, sym (take-append-drop count bytes))
