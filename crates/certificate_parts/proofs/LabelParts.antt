-- The readers of sets and points read exactly their texts.
use Rattle.std.proofs.Common.{◌≡◌, ◌≢◌, inl, inr, false, ℕ, ◌^◌, ◌<◌, ◌&&◌, List, [], ◌∷◌, ◌++◌, Option, None, Some, decimal, codes, refl, sym, subst, append_assoc, arith}
use Rattle.std.specs.Char.{is_ascii_digit}
use Rattle.std.specs.List.{All}
use Rattle.ev_model.specs.Network.{Network, scaled_limit}
use Rattle.ev_text.specs.Numerals.{BeginsWithoutDigit}
use Rattle.ev_text.specs.Readers.{each_from}
use Rattle.ev_text.specs.Texts.{AllFrom, StandsUnlessLonger, marked_texts}
use Rattle.ev_text.proofs.ChoiceLaws.{BeginsOtherwise}
use Rattle.ev_text.proofs.EachFromLaws.{reads-each}
use Rattle.ev_text.proofs.MarkedLaws.{ended_text}
use Rattle.ev_text.proofs.ListLaws.{cons_text}
use Rattle.ev_text.proofs.ReadingLaws.{Reads}
use Rattle.ev_text.proofs.RunLaws.{ConsBehind, reads-cons}
use Rattle.ev_text.specs.Numbers.{UpTo}
use Rattle.ev_text.proofs.Choices.{parts-either, reads-optional}
use Rattle.ev_text.proofs.Numbers.{Anything, NoDigit, number_is_no_mark, ranged}
use Rattle.ev_text.proofs.Records.{parts-behind, parts-last, parts-none, parts-then, reads-record}
use Rattle.route_plan.specs.Limits.{greatest_number}
use Rattle.certificate_parts.specs.Texts.{point_text, set_text}
use Rattle.certificate_parts.specs.Reading.{customer_at, is_above, is_customer_node, point_at, points_at, set_at, set_behind}
use Rattle.certificate_parts.specs.WrittenRanges.{MemberIs, PointIs, PointLoose, PointsAre, PointsLoose, SetIs, SetLoose, next_member, next_point}
use Rattle.certificate_parts.proofs.PointParts.{reads-point}

-- the byte that ends a set is no comma and no digit
module _ (g : Network) (mark : ℕ) (no_comma : mark ≢ 44) (no_digit : is_ascii_digit mark ≡ false) where
  member : (last : Option ℕ) → Reads StandsUnlessLonger (customer_at g last) (λ n. decimal n) (MemberIs g last) (UpTo greatest_number) NoDigit
  member last = ranged greatest_number (λ n. is_customer_node g n && is_above last n) (omega arith)

  others : (first : ℕ) → Reads StandsUnlessLonger (each_from (codes ",") (mark ∷ []) (customer_at g) (λ before node. Some node) (Some first)) (ended_text 44 mark [] (λ n. decimal n)) (AllFrom (MemberIs g) next_member (Some first)) (All (UpTo greatest_number)) Anything
  others first =
      reads-each StandsUnlessLonger 44 mark [] (customer_at g) next_member (λ n. decimal n) (MemberIs g) (UpTo greatest_number) NoDigit member no_comma (λ n rest. refl) (λ n rest. no_digit) (Some first)

  begins : (nodes : List ℕ) (rest : List ℕ) → BeginsWithoutDigit (ended_text 44 mark [] (λ n. decimal n) nodes ++ rest)
  begins [] rest = no_digit
  begins (x ∷ xs) rest = refl

  pub reads-set : Reads StandsUnlessLonger (set_at g mark) (λ nodes. set_text nodes ++ mark ∷ []) (SetIs g) SetLoose Anything
  reads-set =
      reads-record
      (parts-either (set_behind g mark) (reads-optional 45) (parts-behind mark [] (parts-none []))
      (parts-then (member None) (λ first. parts-last (others first) (λ nodes. first ∷ nodes)) (λ first nodes rest is are any. begins nodes rest))
      (λ none rest fits any. tt)
      (λ p rest is any. subst (BeginsOtherwise 45) (sym (append_assoc (decimal p.0) (ended_text 44 mark [] (λ n. decimal n) p.1) rest)) (number_is_no_mark 45 p.0 (ended_text 44 mark [] (λ n. decimal n) p.1 ++ rest) refl (omega (arith, is.0.0)))))
      (record {
        parts = elim [ [] ↦ λ is. (inl tt, tt, refl, λ rest any. tt) | x ∷ xs ↦ λ is. (inr (x, xs), is, refl, λ rest any. tt) ];
        fits = elim [ inl none ↦ λ is. tt | inr p ↦ λ is. is ];
        loose = elim [ inl none ↦ λ is. tt | inr p ↦ λ is. is ];
        texts = elim [ inl none ↦ λ is. refl | inr p ↦ λ is. sym (append_assoc (decimal p.0) (marked_texts (codes ",") (λ n. decimal n) p.1) (mark ∷ [])) ];
      })

module _ (g : Network) (small_capacity : g.capacity < 10 ^ 64) (small_limit : scaled_limit g < 10 ^ 64) where
  feed_is_no_space : ◌≢◌ {A = ℕ} 10 32
  feed_is_no_space same = omega arith

  other_points : (first : ℕ × ℕ) → Reads StandsUnlessLonger (each_from (codes " ") (10 ∷ []) (point_at g) (λ before point. Some point) (Some first)) (ended_text 32 10 [] point_text) (AllFrom (PointIs g) next_point (Some first)) (All (PointLoose g)) Anything
  other_points first =
      reads-each StandsUnlessLonger 32 10 [] (point_at g) next_point point_text (PointIs g) (PointLoose g) NoDigit (reads-point g small_capacity small_limit) feed_is_no_space (λ p rest. refl) (λ p rest. refl) (Some first)

  pub reads-points : Reads StandsUnlessLonger (points_at g) (cons_text point_text (ended_text 32 10 [] point_text)) (PointsAre g) (PointsLoose g) (ConsBehind Anything)
  reads-points =
      reads-cons StandsUnlessLonger (point_at g None) (λ first. each_from (codes " ") (10 ∷ []) (point_at g) (λ before point. Some point) (Some first)) point_text (ended_text 32 10 [] point_text)
      (PointIs g None) (PointLoose g) (λ first. AllFrom (PointIs g) next_point (Some first)) (All (PointLoose g)) NoDigit Anything (reads-point g small_capacity small_limit None) (λ first fits. other_points first)
      ((other_points (0, 0)).example) (λ first all rest fits are any. before all rest)
    where
      before : (all : List (ℕ × ℕ)) (rest : List ℕ) → BeginsWithoutDigit (ended_text 32 10 [] point_text all ++ rest)
      before [] rest = refl
      before (p ∷ ps) rest = refl
