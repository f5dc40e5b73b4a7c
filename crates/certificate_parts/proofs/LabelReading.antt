-- Reading the line of a label.
use Rattle.std.proofs.Common.{◌≡◌, ℕ, List, Ok, Err, codes, nat_lt, ap}
use Rattle.ev_model.specs.Network.{Network, node_count}
use Rattle.ev_text.specs.Scans.{word_at}
use Rattle.certificate_parts.specs.Refusals.{or_refused}
use Rattle.certificate_parts.specs.Reading.{is_place, label_at, node_where, points_at, set_at}
use Rattle.certificate_parts.specs.declared.cert_text.CertText.{CertText}
use Rattle.certificate_parts.proofs.ItemLoops.{refused_since}

-- the points are none
pub no_points : (g : Network) (s t u v w x y : List ℕ × ℕ) (last node : ℕ) (served : List ℕ) (refusal : CertText) → word_at (codes "label ") s ≡ Ok t → node_where (is_place g) t ≡ Ok (last, u) → word_at (codes " ") u ≡ Ok v
    → node_where (λ n. nat_lt n (node_count g)) v ≡ Ok (node, w) → word_at (codes " ") w ≡ Ok x → set_at g 32 x ≡ Ok (served, y) → or_refused (points_at g y) ≡ Err refusal → or_refused (label_at g s) ≡ Err refusal
no_points g s t u v w x y last node served refusal word first space second gap third is =
    let found = refused_since (points_at g y) refusal is in
    let none : points_at g y ≡ Err found.0 = found.1 in
    rw (word, first, space, second, gap, third, none) (ap (λ r. Err r) found.2)
