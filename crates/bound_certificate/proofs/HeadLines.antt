-- Reading the lines in front of the bound.
use Rattle.std.proofs.Common.{◌≡◌, ℕ, false, List, [], ◌∷◌, ◌++◌, Ok, Err, codes, nat_eq, refl, subst}
use Rattle.ev_model.specs.Network.{Network}
use Rattle.ev_text.specs.Scans.{word_at}
use Rattle.ev_text.specs.declared.TextFault.{TextFault}
use Rattle.bound_certificate.specs.CertificateTexts.{is_first_version}
use Rattle.certificate_parts.specs.Reading.{node_where}
use Rattle.bound_certificate.specs.Reading.{certificate_at}

-- the level at home is another one
pub other_home : (g : Network) (s t u v w : List ℕ × ℕ) (reserve home : ℕ) (fault : TextFault) → is_first_version g ≡ false → word_at (codes "evroute certificate 2" ++ 10 ∷ []) s ≡ Ok t → word_at (codes "levels ") t ≡ Ok u
    → reserve ≡ g.reserve → node_where (λ n. nat_eq n reserve) u ≡ Ok (reserve, v) → word_at (codes " ") v ≡ Ok w → home ≡ g.home_level → node_where (λ n. nat_eq n home) w ≡ Err fault → certificate_at g s ≡ Err fault
other_home g s t u v w reserve home fault second line levels reserve_is own space home_is other =
    let first : node_where (λ n. nat_eq n g.reserve) u ≡ Ok (g.reserve, v) = subst (λ (m : ℕ). node_where (λ n. nat_eq n m) u ≡ Ok (m, v)) reserve_is own in
    let last : node_where (λ n. nat_eq n g.home_level) w ≡ Err fault = subst (λ (m : ℕ). node_where (λ n. nat_eq n m) w ≡ Err fault) home_is other in
    rw (second, line, levels, first, space, last) refl
