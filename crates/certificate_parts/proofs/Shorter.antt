-- What is read leaves no more of the text than stood before it.
use Rattle.std.proofs.Common.{◌≡◌, ◌∙◌, ℕ, ◌+◌, ◌≤◌, ◌==◌, Option, Bool, true, false, not, ◌&&◌, List, codes, length, length-drop, nat_lt, Result, Ok, Err, refl, sym, ap, subst, arith, if◌then◌else◌}
use Rattle.std.specs.Str.Parse.{digits_value}
use Rattle.ev_model.specs.Network.{Network, scaled_limit}
use Rattle.ev_text.specs.Numerals.{is_canonical, leading_digits}
use Rattle.ev_text.specs.Readers.{answer, behind_word, number_where, then_reads}
use Rattle.ev_text.specs.Scans.{past, rest_of, whole_at, word_at}
use Rattle.ev_text.specs.declared.TextFault.{TextFault}
use Rattle.ev_text.specs.declared.TextFault.TheVariants.{NotWhole, TooLarge, End}
use Rattle.ev_text.proofs.Readings.{TakesWord-from_word_at}
use Rattle.ev_text.proofs.Results.{Err-ne-Ok, Ok-injective, and_then-ok}
use Rattle.certificate_parts.specs.Reading.{customer_at, is_higher, is_later, point_at}

past_shorter : (word : List ℕ) (s : List ℕ × ℕ) → length (rest_of (past word s)) ≤ length (rest_of s)
past_shorter word s = omega (arith, length-drop (s.1 + length word) s.0, length-drop s.1 s.0)

whole_shorter : (limit : ℕ) (s t : List ℕ × ℕ) (n : ℕ) → whole_at limit s ≡ Ok (n, t) → length (rest_of t) ≤ length (rest_of s)
whole_shorter limit s t n is =
    let digits = leading_digits (rest_of s) in
    let moved = by (length (rest_of s) == 0) (not (is_canonical digits)) (nat_lt limit (digits_value 10 digits)) (End s.1) (NotWhole s.1) (TooLarge s.1) (digits_value 10 digits) (past digits s) is in
    subst (λ (u : List ℕ × ℕ). length (rest_of u) ≤ length (rest_of s)) moved (past_shorter digits s)
  where
    by : (b1 b2 b3 : Bool) (f1 f2 f3 : TextFault) (v : ℕ) (u : List ℕ × ℕ) → (let found : Result (ℕ × (List ℕ × ℕ)) TextFault = if b1 then Err f1 else (if b2 then Err f2 else (if b3 then Err f3 else Ok (v, u))) in found) ≡ Ok (n, t) → u ≡ t
    by true b2 b3 f1 f2 f3 v u e = absurd (Err-ne-Ok f1 (n, t) e)
    by false true b3 f1 f2 f3 v u e = absurd (Err-ne-Ok f2 (n, t) e)
    by false false true f1 f2 f3 v u e = absurd (Err-ne-Ok f3 (n, t) e)
    by false false false f1 f2 f3 v u e = ap (λ (p : ℕ × (List ℕ × ℕ)). p.1) (Ok-injective (v, u) (n, t) e)

pub number_shorter : (limit : ℕ) (keeps : ℕ → Bool) (s t : List ℕ × ℕ) (n : ℕ) → number_where limit keeps s ≡ Ok (n, t) → length (rest_of t) ≤ length (rest_of s)
number_shorter limit keeps s t n is =
    let found = and_then-ok (whole_at limit s) (λ found. if keeps found.0 then Ok found else Err (TooLarge s.1)) (n, t) is in
    let same = by (keeps found.0.0) found.0 found.2 in
    subst (λ (u : List ℕ × ℕ). length (rest_of u) ≤ length (rest_of s)) same (whole_shorter limit s found.0.1 found.0.0 found.1)
  where
    by : (kept : Bool) (u : ℕ × (List ℕ × ℕ)) → (let r : Result (ℕ × (List ℕ × ℕ)) TextFault = if kept then Ok u else Err (TooLarge s.1) in r) ≡ Ok (n, t) → u.1 ≡ t
    by true u e = ap (λ (p : ℕ × (List ℕ × ℕ)). p.1) (Ok-injective u (n, t) e)
    by false u e = absurd (Err-ne-Ok (TooLarge s.1) (n, t) e)

word_shorter : (word : List ℕ) (s t : List ℕ × ℕ) → word_at word s ≡ Ok t → length (rest_of t) ≤ length (rest_of s)
word_shorter word s t is = subst (λ (u : List ℕ × ℕ). length (rest_of u) ≤ length (rest_of s)) (sym (TakesWord-from_word_at word s t is).moved) (past_shorter word s)

pub member_shorter : (g : Network) (last : Option ℕ) (s t : List ℕ × ℕ) (node : ℕ) → customer_at g last s ≡ Ok (node, t) → length (rest_of t) ≤ length (rest_of s)
member_shorter g last s t node is = number_shorter _ _ s t node is

pub point_shorter : (g : Network) (last : Option (ℕ × ℕ)) (s t : List ℕ × ℕ) (p : ℕ × ℕ) → point_at g last s ≡ Ok (p, t) → length (rest_of t) ≤ length (rest_of s)
point_shorter g last s t p is =
    let level = and_then-ok (number_where g.capacity (is_higher last) s) (λ found. behind_word (codes ":") (then_reads (number_where (scaled_limit g) (is_later last found.0)) (λ time. answer (found.0, time))) found.1) (p, t) is in
    let colon = and_then-ok (word_at (codes ":") level.0.1) (then_reads (number_where (scaled_limit g) (is_later last level.0.0)) (λ time. answer (level.0.0, time))) (p, t) level.2 in
    let time = and_then-ok (number_where (scaled_limit g) (is_later last level.0.0) colon.0) (λ found. answer (level.0.0, found.0) found.1) (p, t) colon.2 in
    let same : time.0.1 ≡ t = ap (λ (q : (ℕ × ℕ) × (List ℕ × ℕ)). q.1) (Ok-injective ((level.0.0, time.0.0), time.0.1) (p, t) time.2) in
    let first = number_shorter g.capacity (is_higher last) s level.0.1 level.0.0 level.1 in
    let second = word_shorter (codes ":") level.0.1 colon.0 colon.1 in
    let third = number_shorter (scaled_limit g) (is_later last level.0.0) colon.0 time.0.1 time.0.0 time.1 in
    subst (λ (u : List ℕ × ℕ). length (rest_of u) ≤ length (rest_of s)) same (omega (arith, first, second, third))

-- a number that keeps a rule, and keeps or breaks a further one
number_parts : (limit : ℕ) (keeps : ℕ → Bool) (s t : List ℕ × ℕ) (n : ℕ) → number_where limit keeps s ≡ Ok (n, t) → (whole_at limit s ≡ Ok (n, t)) × (keeps n ≡ true)
number_parts limit keeps s t n is =
    let found = and_then-ok (whole_at limit s) (λ found. if keeps found.0 then Ok found else Err (TooLarge s.1)) (n, t) is in
    by (keeps found.0.0) found.0 found.1 refl found.2
  where
    by : (kept : Bool) (u : ℕ × (List ℕ × ℕ)) → whole_at limit s ≡ Ok u → keeps u.0 ≡ kept → (let r : Result (ℕ × (List ℕ × ℕ)) TextFault = if kept then Ok u else Err (TooLarge s.1) in r) ≡ Ok (n, t) → (whole_at limit s ≡ Ok (n, t)) × (keeps n ≡ true)
    by true u whole kept e =
        let same = Ok-injective u (n, t) e in
        (whole ∙ ap (λ v. Ok v) same, subst (λ (v : ℕ × (List ℕ × ℕ)). keeps v.0 ≡ true) same kept)
    by false u whole kept e = absurd (Err-ne-Ok (TooLarge s.1) (n, t) e)

pub kept_more : (limit : ℕ) (keeps more : ℕ → Bool) (s t : List ℕ × ℕ) (n : ℕ) → number_where limit keeps s ≡ Ok (n, t) → more n ≡ true → number_where limit (λ m. keeps m && more m) s ≡ Ok (n, t)
kept_more limit keeps more s t n is also =
    let parts = number_parts limit keeps s t n is in
    let whole : whole_at limit s ≡ Ok (n, t) = parts.0 in
    let kept : keeps n ≡ true = parts.1 in
    rw (whole, kept, also) refl

pub kept_less : (limit : ℕ) (keeps more : ℕ → Bool) (s t : List ℕ × ℕ) (n : ℕ) → number_where limit keeps s ≡ Ok (n, t) → more n ≡ false → number_where limit (λ m. keeps m && more m) s ≡ Err (TooLarge s.1)
kept_less limit keeps more s t n is broken =
    let parts = number_parts limit keeps s t n is in
    let whole : whole_at limit s ≡ Ok (n, t) = parts.0 in
    let kept : keeps n ≡ true = parts.1 in
    rw (whole, kept, broken) refl
