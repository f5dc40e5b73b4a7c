-- Reading the points of a label, one after another.
use Rattle.std.proofs.Common.{◌≡◌, ℕ, ◌^◌, ◌<◌, ◌-◌, ◌%◌, Bool, true, false, ◌&&◌, List, [], ◌∷◌, ◌++◌, Option, None, Some, length, nat_eq, nat_le, Ok, Err, codes, refl}
use Rattle.std.specs.List.{All}
use Rattle.std.proofs.lemmas.Bool.{eqb-true, false≢true, leb-true, ltb-true}
use Rattle.std.proofs.lemmas.List.Elements.{All-cons, All-nil}
use Rattle.charge_curve.specs.Points.{ArePoints}
use Rattle.ev_model.specs.Network.{Network, scaled_limit}
use Rattle.ev_text.specs.Readers.{optional_at}
use Rattle.ev_text.specs.Scans.{rest_of, word_at}
use Rattle.ev_text.specs.Texts.{AllFrom}
use Rattle.ev_text.specs.declared.TextFault.{TextFault}
use Rattle.ev_text.proofs.RunLoops.{IsEachTo, each_from-begins, each_from-breaks, each_from-breaks_off, each_from-ends, each_from-goes_on, each_from-shorter}
use Rattle.certificate_parts.specs.Ranges.{PointFits}
use Rattle.certificate_parts.specs.Reading.{point_at, points_at}
use Rattle.certificate_parts.specs.WrittenRanges.{PointIs, PointsAre, next_point}
use Rattle.certificate_parts.proofs.LabelParts.{reads-points}
use Rattle.certificate_parts.proofs.Shorter.{point_shorter}

pub both_true : (a b : Bool) → (a && b) ≡ true → (a ≡ true) × (b ≡ true)
both_true true b is = (refl, is)
both_true false b is = absurd (false≢true is)

module _ (g : Network) where
  points_from : (p : ℕ × ℕ) (ps : List (ℕ × ℕ)) → AllFrom (PointIs g) next_point (Some p) ps → ArePoints (p ∷ ps)
  points_from p [] all = tt
  points_from p (q ∷ ps) all =
      let time = both_true (nat_le p.1 q.1) (nat_eq ((q.1 - p.1) % (q.0 - p.0)) 0) all.0.time.1 in
      (ltb-true p.0 q.0 all.0.level.1, leb-true p.1 q.1 time.0, eqb-true ((q.1 - p.1) % (q.0 - p.0)) 0 time.1, points_from q ps all.1)

  each_fits : (last : Option (ℕ × ℕ)) (ps : List (ℕ × ℕ)) → AllFrom (PointIs g) next_point last ps → All (PointFits g) ps
  each_fits last [] all = All-nil (PointFits g)
  each_fits last (p ∷ ps) all = All-cons (PointFits g) p ps (all.0.level.0, all.0.time.0) (each_fits (Some p) ps all.1)

  pub points_are_valid : (points : List (ℕ × ℕ)) → PointsAre g points → ArePoints points
  points_are_valid [] are = absurd are
  points_are_valid (p ∷ ps) are = points_from p ps are.1

  pub points_fit : (points : List (ℕ × ℕ)) → PointsAre g points → All (PointFits g) points
  points_fit [] are = absurd are
  points_fit (p ∷ ps) are = All-cons (PointFits g) p ps (are.0.level.0, are.0.time.0) (each_fits (Some p) ps are.1)

  pub points_read : g.capacity < 10 ^ 64 → scaled_limit g < 10 ^ 64 → (s t : List ℕ × ℕ) (points : List (ℕ × ℕ)) → points_at g s ≡ Ok (points, t) → PointsAre g points
  points_read small_capacity small_limit s t points is = ((reads-points g small_capacity small_limit).standing s t points is).0

  abbrev pub ArePointsTo : List ℕ × ℕ → List (ℕ × ℕ) → ℕ × ℕ → List ℕ × ℕ → Type 0
  ArePointsTo start points last s = IsEachTo 32 10 [] (point_at g) next_point (point_shorter g) (points_at g start) points (Some last) s

  pub points-begin : (start s : List ℕ × ℕ) (points : List (ℕ × ℕ)) (p : ℕ × ℕ) → point_at g None start ≡ Ok (p, s) → points ≡ p ∷ [] → ArePointsTo start points p s
  points-begin start s points p found is = each_from-begins 32 10 [] (point_at g) next_point (point_shorter g) (points_at g start) points (Some p) s (rw (found, is) refl)

  pub points-shorter : (p q : ℕ × ℕ) (s t u : List ℕ × ℕ) → optional_at (codes " ") s ≡ Ok (true, t) → point_at g (Some p) t ≡ Ok (q, u) → length (rest_of u) < length (rest_of s)
  points-shorter p q s t u space found = each_from-shorter 32 10 [] (point_at g) next_point (point_shorter g) (Some p) s t u q space found

  pub points-go_on : (start s t u : List ℕ × ℕ) (points more : List (ℕ × ℕ)) (p q : ℕ × ℕ) → ArePointsTo start points p s → optional_at (codes " ") s ≡ Ok (true, t) → point_at g (Some p) t ≡ Ok (q, u) → more ≡ points ++ q ∷ [] → ArePointsTo start more q u
  points-go_on start s t u points more p q so_far space found is = each_from-goes_on 32 10 [] (point_at g) next_point (point_shorter g) (points_at g start) (Some p) s t u points more q so_far space found is

  pub points-break : (start s t : List ℕ × ℕ) (points : List (ℕ × ℕ)) (p : ℕ × ℕ) (fault : TextFault) → ArePointsTo start points p s → optional_at (codes " ") s ≡ Ok (true, t) → point_at g (Some p) t ≡ Err fault → points_at g start ≡ Err fault
  points-break start s t points p fault so_far space found = each_from-breaks 32 10 [] (point_at g) next_point (point_shorter g) (points_at g start) (Some p) s t points fault so_far space found

  pub points-end : (start s t u : List ℕ × ℕ) (points : List (ℕ × ℕ)) (p : ℕ × ℕ) → ArePointsTo start points p s → optional_at (codes " ") s ≡ Ok (false, t) → word_at (10 ∷ []) t ≡ Ok u → points_at g start ≡ Ok (points, u)
  points-end start s t u points p so_far none found = each_from-ends 32 10 [] (point_at g) next_point (point_shorter g) (points_at g start) (Some p) s t u points so_far none found

  pub points-break_off : (start s t : List ℕ × ℕ) (points : List (ℕ × ℕ)) (p : ℕ × ℕ) (fault : TextFault) → ArePointsTo start points p s → optional_at (codes " ") s ≡ Ok (false, t) → word_at (10 ∷ []) t ≡ Err fault → points_at g start ≡ Err fault
  points-break_off start s t points p fault so_far none found = each_from-breaks_off 32 10 [] (point_at g) next_point (point_shorter g) (points_at g start) (Some p) s t points fault so_far none found
