-- The reader of a certificate with its first lines reads exactly its text.
use Rattle.std.proofs.Common.{◌≡◌, ℕ, ◌^◌, ◌<◌, ◌≤◌, Bool, true, false, [], ◌∷◌, ◌++◌, decimal, codes, refl, append_assoc}
use Rattle.ev_model.specs.Network.{Network, scaled_limit}
use Rattle.ev_text.specs.Texts.{StandsUnlessLonger}
use Rattle.ev_text.proofs.ReadingLaws.{Reads}
use Rattle.ev_text.proofs.Numbers.{Anything}
use Rattle.ev_text.proofs.Records.{parts-behind, parts-own, parts-then, reads-record}
use Rattle.route_plan.specs.Limits.{greatest_number}
use Rattle.bound_certificate.specs.CertificateTexts.{body_text, certificate_text, head_lines, is_first_version}
use Rattle.bound_certificate.specs.Reading.{behind_head, body_at, certificate_at}
use Rattle.bound_certificate.specs.Written.{Written}
use Rattle.bound_certificate.specs.WrittenRanges.{WrittenIs, WrittenLoose}
use Rattle.bound_certificate.proofs.CertificateReading.{reads-body}
use Rattle.certificate_parts.proofs.OwnNumbers.{own_number}

module _ (g : Network) (small_capacity : g.capacity < 10 ^ 64) (small_limit : scaled_limit g < 10 ^ 64) (small_reserve : g.reserve ≤ greatest_number) (small_home : g.home_level ≤ greatest_number) where
  second_lines : (reserve home : ℕ) (w : Written) → reserve ≡ g.reserve → home ≡ g.home_level
      → (codes "evroute certificate 2" ++ 10 ∷ []) ++ (codes "levels " ++ (decimal reserve ++ (codes " " ++ (decimal home ++ (10 ∷ body_text w))))) ≡ head_lines false g.reserve g.home_level ++ body_text w
  second_lines reserve home w first second = rw (first, second) (simp append_assoc)

  first_lines : (first : Bool) → Reads StandsUnlessLonger (behind_head first g.reserve g.home_level (body_at g)) (λ w. head_lines first g.reserve g.home_level ++ body_text w) (WrittenIs g) (WrittenLoose g) Anything
  first_lines true =
      reads-record (parts-behind 101 (codes "vroute certificate 1" ++ 10 ∷ []) (parts-own (reads-body g small_capacity small_limit)))
      (record { parts = λ w is. (w, is, refl, λ rest any. tt); fits = λ w is. is; loose = λ w is. is; texts = λ w is. refl })
  first_lines false =
      reads-record
      (parts-behind 101 (codes "vroute certificate 2" ++ 10 ∷ []) (parts-behind 108 (codes "evels ") (parts-then (own_number g.reserve small_reserve)
      (λ reserve. parts-behind 32 [] (parts-then (own_number g.home_level small_home) (λ home. parts-behind 10 [] (parts-own (reads-body g small_capacity small_limit))) (λ home w rest is fits any. refl)))
      (λ reserve more rest is fits any. refl))))
      (record {
        parts = λ w is. ((g.reserve, (g.home_level, w)), (refl, (refl, is)), refl, λ rest any. tt);
        fits = λ p is. is.1.1;
        loose = λ p is. is.1.1;
        texts = λ p is. second_lines p.0 p.1.0 p.1.1 is.0 is.1.0;
      })

  pub reads-certificate : Reads StandsUnlessLonger (certificate_at g) (certificate_text g) (WrittenIs g) (WrittenLoose g) Anything
  reads-certificate = first_lines (is_first_version g)
