-- What is left of points from a level on, moved, up to a limit.
use Rattle.std.proofs.Common.{◌≡◌, ◌∙◌, ℕ, ◌+◌, ◌-◌, ◌*◌, ◌/◌, ◌<◌, ◌≤◌, max, refl, sym, ap, subst, List, [], ◌∷◌, arith, drop, get_or, inl, inr}
use Rattle.std.proofs.Math.Nat.{mul-le-mul_left, mul-mod_left, mul-div_cancel, div-mul-le_self, lt-div-mul-add}
use Rattle.std.proofs.lemmas.Bool.{cases_eq, cases_lt, le-leb, lt-leb, lt-ltb, le-ltb}
use Rattle.charge_curve.specs.Points.{ArePoints, last_level, slope, time_on}
use Rattle.dominance.proofs.Pieces.{never_falls, piece_end, time_on-before, time_on-first, time_on-later}
use Rattle.piece_fn.specs.Cuts.{AreAbove, begun_at, cut_end, from_piece, IsOnFirst, moved, tail_to, up_to}
use Rattle.piece_fn.specs.PieceFn.{first_level}
use Rattle.piece_fn.proofs.Levels.{first_is_least}
use Rattle.piece_fn.proofs.Walks.{from_piece-on_first, from_piece-points, time_on-from_piece}

-- a point put on a piece keeps its slope
cut_gap : (p q : ℕ × ℕ) (e : ℕ) → ArePoints (p ∷ q ∷ []) → p.0 ≤ e → e < q.0 → q.1 - (p.1 + slope p q * (e - p.0)) ≡ slope p q * (q.0 - e)
cut_gap p q e are le lt =
    let end = piece_end p q are.1 are.2 in
    let parts : q.0 - p.0 ≡ (e - p.0) + (q.0 - e) = omega (arith, le, lt) in
    let whole : p.1 + slope p q * ((e - p.0) + (q.0 - e)) ≡ q.1 = ap (λ d. p.1 + slope p q * d) (sym parts) ∙ end in
    omega (arith, whole)

cut_later : (p q : ℕ × ℕ) (e : ℕ) → ArePoints (p ∷ q ∷ []) → p.0 ≤ e → e < q.0 → p.1 + slope p q * (e - p.0) ≤ q.1
cut_later p q e are le lt =
    let end = piece_end p q are.1 are.2 in
    let parts : q.0 - p.0 ≡ (e - p.0) + (q.0 - e) = omega (arith, le, lt) in
    let whole : p.1 + slope p q * ((e - p.0) + (q.0 - e)) ≡ q.1 = ap (λ d. p.1 + slope p q * d) (sym parts) ∙ end in
    omega (arith, whole)

cut_points : (p q : ℕ × ℕ) (ps : List (ℕ × ℕ)) (e : ℕ) → ArePoints (p ∷ q ∷ ps) → p.0 ≤ e → e < q.0 → ArePoints ((e, p.1 + slope p q * (e - p.0)) ∷ q ∷ ps)
cut_points p q ps e are le lt =
    let gap = cut_gap p q e (are.0, are.1, are.2, tt) le lt in
    (lt, cut_later p q e (are.0, are.1, are.2, tt) le lt, rw gap (mul-mod_left (slope p q) (q.0 - e)), are.3)

cut_slope : (p q : ℕ × ℕ) (e : ℕ) → ArePoints (p ∷ q ∷ []) → p.0 ≤ e → e < q.0 → slope (e, p.1 + slope p q * (e - p.0)) q ≡ slope p q
cut_slope p q e are le lt =
    let gap = cut_gap p q e are le lt in
    let some : 0 < q.0 - e = omega (arith, lt) in
    rw gap (mul-div_cancel (slope p q) some)

cut_time : (p q : ℕ × ℕ) (ps : List (ℕ × ℕ)) (e level : ℕ) → ArePoints (p ∷ q ∷ ps) → p.0 ≤ e → e < q.0 → e ≤ level → time_on ((e, p.1 + slope p q * (e - p.0)) ∷ q ∷ ps) level ≡ time_on (p ∷ q ∷ ps) level
cut_time p q ps e level are le lt el = elim (cases_lt q.0 level) [
  | inl beyond ↦ time_on-later (e, p.1 + slope p q * (e - p.0)) q ps level (cut_points p q ps e are le lt) (omega (arith, beyond)) ∙ sym (time_on-later p q ps level are (omega (arith, beyond)))
  | inr within ↦
      let same = cut_slope p q e (are.0, are.1, are.2, tt) le lt in
      let parts : level - p.0 ≡ (e - p.0) + (level - e) = omega (arith, le, el) in
      time_on-first (e, p.1 + slope p q * (e - p.0)) q ps level within ∙ rw (same, time_on-first p q ps level within, parts) (omega arith)
]

-- the points from a level on
pub record IsFrom (e : ℕ) (ps cut : List (ℕ × ℕ)) : Type 0 where
  pub are : ArePoints cut
  pub first : first_level cut ≡ max e (first_level ps)
  pub last : last_level cut ≡ last_level ps
  pub times : (level : ℕ) → e ≤ level → time_on cut level ≡ time_on ps level

pub is_from : (e : ℕ) (ps : List (ℕ × ℕ)) → ArePoints ps → e ≤ last_level ps → IsFrom e ps (begun_at e (from_piece e ps))
is_from e [] are le = absurd are
is_from e (p ∷ []) are le = record { are = tt; first = refl; last = omega (arith, le); times = λ level h. refl }
is_from e (p ∷ q ∷ ps) are le = elim (cases_lt e q.0) [
  | inr beyond ↦
      let rest = is_from e (q ∷ ps) are.3 le in
      rw (le-ltb e q.0 beyond) (record {
        are = rest.are;
        first = omega (arith, rest.first, are.0, beyond);
        last = rest.last;
        times = λ level h. rest.times level h ∙ sym (time_on-later p q ps level are (omega (arith, beyond, h)));
      })
  | inl inside ↦ elim (cases_lt p.0 e) [
    | inr whole ↦
        let at : max e p.0 ≡ p.0 = omega (arith, whole) in
        let value = time_on-before p (q ∷ ps) e are whole in
        rw (lt-ltb e q.0 inside, value, at) (record { are = are; first = omega (arith, whole); last = refl; times = λ level h. refl })
    | inl over ↦
        let at : max e p.0 ≡ e = omega (arith, over) in
        let value = time_on-first p q ps e (omega (arith, inside)) in
        rw (lt-ltb e q.0 inside, value, at) (record {
          are = cut_points p q ps e are (omega (arith, over)) inside;
          first = omega (arith, over);
          last = refl;
          times = λ level h. cut_time p q ps e level are (omega (arith, over)) inside h;
        })
  ]
]

-- moved points
lower_gap : (p q : ℕ × ℕ) (down : ℕ) → down ≤ p.0 → p.0 < q.0 → (q.0 - down) - (p.0 - down) ≡ q.0 - p.0
lower_gap p q down le lt = omega (arith, le, lt)

time_gap : (p q : ℕ × ℕ) (zero_time base : ℕ) → zero_time ≤ p.1 → p.1 ≤ q.1 → (base + (q.1 - zero_time)) - (base + (p.1 - zero_time)) ≡ q.1 - p.1
time_gap p q zero_time base low le = omega (arith, low, le)

pub moved_points : (down zero_time base : ℕ) (p : ℕ × ℕ) (ps : List (ℕ × ℕ)) → ArePoints (p ∷ ps) → down ≤ p.0 → zero_time ≤ p.1 → ArePoints (moved down zero_time base (p ∷ ps))
moved_points down zero_time base p [] are le low = tt
moved_points down zero_time base p (q ∷ ps) are le low =
    (omega (arith, are.0, le), omega (arith, are.1), rw (lower_gap p q down le are.0, time_gap p q zero_time base low are.1) are.2, moved_points down zero_time base q ps are.3 (omega (arith, le, are.0)) (omega (arith, low, are.1)))

pub time_on-moved : (down zero_time base level : ℕ) (p : ℕ × ℕ) (ps : List (ℕ × ℕ)) → ArePoints (p ∷ ps) → down ≤ p.0 → zero_time ≤ p.1 → time_on (moved down zero_time base (p ∷ ps)) (level - down) ≡ base + (time_on (p ∷ ps) level - zero_time)
time_on-moved down zero_time base level p [] are le low = refl
time_on-moved down zero_time base level p (q ∷ ps) are le low = elim (cases_lt q.0 level) [
  | inl beyond ↦
      time_on-later (p.0 - down, base + (p.1 - zero_time)) (q.0 - down, base + (q.1 - zero_time)) (moved down zero_time base ps) (level - down) (moved_points down zero_time base p (q ∷ ps) are le low) (omega (arith, beyond))
      ∙ time_on-moved down zero_time base level q ps are.3 (omega (arith, le, are.0)) (omega (arith, low, are.1)) ∙ rw (time_on-later p q ps level are (omega (arith, beyond))) refl
  | inr within ↦
      let gap : (level - down) - (p.0 - down) ≡ level - p.0 = omega (arith, le) in
      time_on-first (p.0 - down, base + (p.1 - zero_time)) (q.0 - down, base + (q.1 - zero_time)) (moved down zero_time base ps) (level - down) (omega (arith, within))
      ∙ rw (lower_gap p q down le are.0, time_gap p q zero_time base low are.1, gap, time_on-first p q ps level within) (omega (arith, low))
]

last_level-moved : (down zero_time base : ℕ) (p : ℕ × ℕ) (ps : List (ℕ × ℕ)) → last_level (moved down zero_time base (p ∷ ps)) ≡ last_level (p ∷ ps) - down
last_level-moved down zero_time base p [] = refl
last_level-moved down zero_time base p (q ∷ ps) = last_level-moved down zero_time base q ps

-- the points up to a limit
pub record IsUpTo (limit : ℕ) (ps cut : List (ℕ × ℕ)) : Type 0 where
  pub are : ArePoints cut
  pub first : first_level cut ≡ first_level ps
  pub last : last_level cut ≤ last_level ps
  pub times : (level : ℕ) → level ≤ last_level cut → time_on cut level ≡ time_on ps level
  pub within : time_on ps (last_level cut) ≤ limit
  pub all : (level : ℕ) → level ≤ last_level ps → time_on ps level ≤ limit → level ≤ last_level cut

-- how many levels of a piece are within
abbrev pub levels_within : ℕ → ℕ × ℕ → ℕ × ℕ → ℕ
levels_within limit p q = (limit - p.1) / slope p q

pub steep : (limit : ℕ) (p q : ℕ × ℕ) → ArePoints (p ∷ q ∷ []) → p.1 ≤ limit → limit < q.1 → 0 < slope p q
steep limit p q are low high = elim (cases_eq (slope p q) 0) [
  | inl none ↦
      let end = piece_end p q are.1 are.2 in
      let flat : slope p q * (q.0 - p.0) ≡ 0 * (q.0 - p.0) = ap (λ m. m * (q.0 - p.0)) none in
      absurd (omega (arith, end, flat, low, high))
  | inr some ↦ omega (arith, some)
]

-- fewer than the piece has
pub few : (limit : ℕ) (p q : ℕ × ℕ) → ArePoints (p ∷ q ∷ []) → p.1 ≤ limit → limit < q.1 → p.0 + levels_within limit p q < q.0
few limit p q are low high = elim (cases_lt (levels_within limit p q) (q.0 - p.0)) [
  | inl less ↦ omega (arith, less, are.0)
  | inr more ↦
      let end = piece_end p q are.1 are.2 in
      let back = div-mul-le_self (limit - p.1) (slope p q) in
      let scaled : slope p q * (q.0 - p.0) ≤ slope p q * levels_within limit p q = mul-le-mul_left (slope p q) more in
      absurd (omega (arith, end, back, scaled, low, high))
]

pub in_limit : (limit : ℕ) (p q : ℕ × ℕ) → p.1 ≤ limit → p.1 + slope p q * levels_within limit p q ≤ limit
in_limit limit p q low = let back = div-mul-le_self (limit - p.1) (slope p q) in omega (arith, back, low)

-- and a further one is past the limit
past : (limit : ℕ) (p q : ℕ × ℕ) (n : ℕ) → 0 < slope p q → p.1 ≤ limit → p.1 + slope p q * n ≤ limit → n ≤ levels_within limit p q
past limit p q n some low inside = elim (cases_lt (levels_within limit p q) n) [
  | inl more ↦
      let above : limit - p.1 < levels_within limit p q * slope p q + slope p q = lt-div-mul-add some in
      let scaled : slope p q * (levels_within limit p q + 1) ≤ slope p q * n = mul-le-mul_left (slope p q) (omega (arith, more)) in
      absurd (omega (arith, above, scaled, inside, low))
  | inr fine ↦ fine
]

is_cut : (limit : ℕ) (p q : ℕ × ℕ) (ps : List (ℕ × ℕ)) → ArePoints (p ∷ q ∷ ps) → p.1 ≤ limit → limit < q.1 → IsUpTo limit (p ∷ q ∷ ps) (p ∷ cut_end limit p q)
is_cut limit p q ps are low high =
    let two : ArePoints (p ∷ q ∷ []) = (are.0, are.1, are.2, tt) in
    let some = steep limit p q two low high in
    let less = few limit p q two low high in
    let end = first_is_least (q ∷ ps) are.3 in
    let every : (level : ℕ) → level ≤ last_level (p ∷ q ∷ ps) → time_on (p ∷ q ∷ ps) level ≤ limit → level ≤ p.0 + levels_within limit p q = λ level top inside.
    elim (cases_lt q.0 level) [
      | inl beyond ↦
          let rises = never_falls (p ∷ q ∷ ps) are q.0 level (omega (arith, beyond)) in
          let at_end = time_on-first p q ps q.0 (omega arith) ∙ piece_end p q are.1 are.2 in
          absurd (omega (arith, rises, at_end, inside, high))
      | inr on_piece ↦
          let value = time_on-first p q ps level on_piece in
          let fits = past limit p q (level - p.0) some low (omega (arith, value, inside)) in
          omega (arith, fits)
    ] in
    elim (cases_lt 0 (levels_within limit p q)) [
      | inl more ↦
          let stop : ℕ × ℕ = (p.0 + levels_within limit p q, p.1 + slope p q * levels_within limit p q) in
          let step : p.0 + levels_within limit p q - p.0 ≡ levels_within limit p q = omega arith in
          let gap : p.1 + slope p q * levels_within limit p q - p.1 ≡ slope p q * levels_within limit p q = omega arith in
          let same : slope p stop ≡ slope p q = rw (step, gap) (mul-div_cancel (slope p q) more) in
          rw (lt-ltb 0 (levels_within limit p q) more) (record {
            are = (omega (arith, more), omega arith, rw (step, gap) (mul-mod_left (slope p q) (levels_within limit p q)), tt);
            first = refl;
            last = omega (arith, less, end);
            times = λ level le. time_on-first p stop [] level le ∙ rw (same, time_on-first p q ps level (omega (arith, le, less))) refl;
            within = rw (time_on-first p q ps (p.0 + levels_within limit p q) (omega (arith, less)), step) (in_limit limit p q low);
            all = every;
          })
      | inr none ↦
          let zero_is : levels_within limit p q ≡ 0 = omega (arith, none) in
          rw (le-ltb 0 (levels_within limit p q) none) (record {
            are = tt;
            first = refl;
            last = omega (arith, are.0, end);
            times = λ level le. sym (time_on-before p (q ∷ ps) level are le);
            within = rw (time_on-before p (q ∷ ps) p.0 are (omega arith)) low;
            all = λ level top inside. omega (arith, every level top inside, zero_is);
          })
    ]

consed : (limit : ℕ) (p q : ℕ × ℕ) (ps tail : List (ℕ × ℕ)) → ArePoints (p ∷ q ∷ ps) → IsUpTo limit (q ∷ ps) (q ∷ tail) → IsUpTo limit (p ∷ q ∷ ps) (p ∷ q ∷ tail)
consed limit p q ps tail are rest =
    let mine : ArePoints (p ∷ q ∷ tail) = (are.0, are.1, are.2, rest.are) in
    let top = first_is_least (q ∷ tail) rest.are in
    record {
      are = mine;
      first = refl;
      last = rest.last;
      times = λ level le. elim (cases_lt q.0 level) [
        | inl beyond ↦ time_on-later p q tail level mine (omega (arith, beyond)) ∙ rest.times level le ∙ sym (time_on-later p q ps level are (omega (arith, beyond)))
        | inr on_piece ↦ time_on-first p q tail level on_piece ∙ sym (time_on-first p q ps level on_piece)
      ];
      within = rw (time_on-later p q ps (last_level (q ∷ tail)) are top) rest.within;
      all = λ level le inside. elim (cases_lt q.0 level) [
        | inl beyond ↦ rest.all level le (let value = time_on-later p q ps level are (omega (arith, beyond)) in omega (arith, value, inside))
        | inr on_piece ↦ omega (arith, top, on_piece)
      ];
    }

pub is_up_to : (limit : ℕ) (p : ℕ × ℕ) (ps : List (ℕ × ℕ)) → ArePoints (p ∷ ps) → p.1 ≤ limit → IsUpTo limit (p ∷ ps) (p ∷ tail_to limit p ps)
is_up_to limit p [] are low = record { are = tt; first = refl; last = omega arith; times = λ level le. refl; within = low; all = λ level le inside. le }
is_up_to limit p (q ∷ ps) are low = elim (cases_lt limit q.1) [
  | inl over ↦ rw (lt-leb q.1 limit over) (is_cut limit p q ps are low over)
  | inr fits ↦ rw (le-leb q.1 limit fits) (consed limit p q ps (tail_to limit q ps) are (is_up_to limit q ps are.3 fits))
]

-- all three together
pub record IsPart (from down zero_time base limit : ℕ) (ps out : List (ℕ × ℕ)) : Type 0 where
  pub are : ArePoints out
  pub first : first_level out ≡ max from (first_level ps) - down
  pub last : last_level out + down ≤ last_level ps
  pub times : (level : ℕ) → from ≤ level → level ≤ last_level out + down → time_on out (level - down) ≡ base + (time_on ps level - zero_time)
  pub within : base + (time_on ps (last_level out + down) - zero_time) ≤ limit
  pub all : (level : ℕ) → from ≤ level → level ≤ last_level ps → base + (time_on ps level - zero_time) ≤ limit → level ≤ last_level out + down

part_of : (from down zero_time base limit : ℕ) (ps cut : List (ℕ × ℕ)) → IsFrom from ps cut → ArePoints ps → down ≤ max from (first_level ps) → zero_time ≤ time_on ps from → base + (time_on ps from - zero_time) ≤ limit
    → IsPart from down zero_time base limit ps (up_to limit (moved down zero_time base cut))
part_of from down zero_time base limit ps [] is are low early fits = absurd is.are
part_of from down zero_time base limit ps (p ∷ cut) is are low early fits =
    let begins : down ≤ p.0 = omega (arith, is.first, low) in
    let start = time_on-before p cut (first_level (p ∷ cut)) is.are (omega arith) in
    let there : time_on (p ∷ cut) from ≡ time_on ps from = is.times from (omega arith) in
    let early_here : time_on (p ∷ cut) from ≡ p.1 = time_on-before p cut from is.are (omega (arith, is.first)) in
    let zero_low : zero_time ≤ p.1 = omega (arith, early, there, early_here) in
    let up = is_up_to limit (p.0 - down, base + (p.1 - zero_time)) (moved down zero_time base cut) (moved_points down zero_time base p cut is.are begins zero_low) (omega (arith, fits, there, early_here)) in
    let top = last_level-moved down zero_time base p cut in
    let ends = first_is_least (p ∷ cut) is.are in
    let out = up_to limit (moved down zero_time base (p ∷ cut)) in
    let out_ends = first_is_least (up_to limit (moved down zero_time base (p ∷ cut))) up.are in
    let last : last_level (up_to limit (moved down zero_time base (p ∷ cut))) + down ≤ last_level ps = omega (arith, up.last, top, is.last, begins, ends) in
    let value : (level : ℕ) → from ≤ level → time_on (moved down zero_time base (p ∷ cut)) (level - down) ≡ base + (time_on ps level - zero_time) = λ level le.
    time_on-moved down zero_time base level p cut is.are begins zero_low ∙ ap (λ t. base + (t - zero_time)) (is.times level le) in
    let at_last : last_level (up_to limit (moved down zero_time base (p ∷ cut))) + down - down ≡ last_level (up_to limit (moved down zero_time base (p ∷ cut))) = omega arith in
    let last_high : from ≤ last_level (up_to limit (moved down zero_time base (p ∷ cut))) + down = omega (arith, out_ends, up.first, is.first, begins) in
    record {
      are = up.are;
      first = omega (arith, up.first, is.first);
      last = last;
      times = λ level le high. up.times (level - down) (omega (arith, high)) ∙ value level le;
      within =
          let here : time_on (moved down zero_time base (p ∷ cut)) (last_level (up_to limit (moved down zero_time base (p ∷ cut)))) ≡ base + (time_on ps (last_level (up_to limit (moved down zero_time base (p ∷ cut))) + down) - zero_time)
          = ap (λ x. time_on (moved down zero_time base (p ∷ cut)) x) (sym at_last) ∙ value (last_level (up_to limit (moved down zero_time base (p ∷ cut))) + down) last_high in
          omega (arith, here, up.within);
      all = λ level le high inside.
          let here = value level le in
          let found = up.all (level - down) (omega (arith, high, is.last, top)) (omega (arith, here, inside)) in
          omega (arith, found);
    }

pub is_part : (from down zero_time base limit : ℕ) (ps : List (ℕ × ℕ)) → ArePoints ps → from ≤ last_level ps → down ≤ max from (first_level ps) → zero_time ≤ time_on ps from → base + (time_on ps from - zero_time) ≤ limit
    → IsPart from down zero_time base limit ps (up_to limit (moved down zero_time base (begun_at from (from_piece from ps))))
is_part from down zero_time base limit ps are le low early fits = part_of from down zero_time base limit ps (begun_at from (from_piece from ps)) (is_from from ps are le) are low early fits

-- the first point of a part, and the others
pub record IsStart (from : ℕ) (ps rest : List (ℕ × ℕ)) : Type 0 where
  pub are : ArePoints rest
  pub on_first : IsOnFirst from rest
  pub time : time_on rest from ≡ time_on ps from
  pub first : max from (first_level rest) ≡ max from (first_level ps)

first_from_piece : (from : ℕ) (ps : List (ℕ × ℕ)) → ArePoints ps → max from (first_level (from_piece from ps)) ≡ max from (first_level ps)
first_from_piece from [] are = refl
first_from_piece from (p ∷ []) are = refl
first_from_piece from (p ∷ q ∷ ps) are = elim (cases_lt from q.0) [
  | inl under ↦ rw (lt-ltb from q.0 under) refl
  | inr over ↦ rw (le-ltb from q.0 over) (omega (arith, first_from_piece from (q ∷ ps) are.3, are.0, over))
]

pub is_start : (from : ℕ) (ps rest : List (ℕ × ℕ)) → ArePoints ps → rest ≡ from_piece from ps → IsStart from ps rest
is_start from ps rest are is = subst (λ xs. IsStart from ps xs) (sym is) (record {
  are = from_piece-points from ps are;
  on_first = from_piece-on_first from ps are;
  time = time_on-from_piece from ps from are (omega arith);
  first = first_from_piece from ps are;
})

pub moved_begun : (down zero_time base from : ℕ) (rest : List (ℕ × ℕ)) (d : ℕ × ℕ) → ArePoints rest
    → moved down zero_time base (begun_at from rest) ≡ (max from (get_or rest 0 d).0 - down, base + (time_on rest from - zero_time)) ∷ moved down zero_time base (drop 1 rest)
moved_begun down zero_time base from [] d are = absurd are
moved_begun down zero_time base from (p ∷ ps) d are = refl

points_above : (level time : ℕ) (p : ℕ × ℕ) (ps : List (ℕ × ℕ)) → ArePoints (p ∷ ps) → level ≤ p.0 → time ≤ p.1 → AreAbove level time ps
points_above level time p [] are le early = tt
points_above level time p (q ∷ ps) are le early = (omega (arith, le, are.0), omega (arith, early, are.1), points_above level time q ps are.3 (omega (arith, le, are.0)) (omega (arith, early, are.1)))

pub begun_above : (down zero_time from : ℕ) (rest : List (ℕ × ℕ)) → ArePoints (begun_at from rest) → down ≤ max from (first_level rest) → zero_time ≤ time_on rest from → AreAbove down zero_time (drop 1 rest)
begun_above down zero_time from [] are low early = tt
begun_above down zero_time from (p ∷ ps) are low early = points_above down zero_time (max from p.0, time_on (p ∷ ps) from) ps are low early

pub begun_moved : (down zero_time base from : ℕ) (rest : List (ℕ × ℕ)) → ArePoints (begun_at from rest) → down ≤ max from (first_level rest) → zero_time ≤ time_on rest from → ArePoints (moved down zero_time base (begun_at from rest))
begun_moved down zero_time base from [] are low early = are
begun_moved down zero_time base from (p ∷ ps) are low early = moved_points down zero_time base (max from p.0, time_on (p ∷ ps) from) ps are low early

pub begun_points : (from : ℕ) (ps rest : List (ℕ × ℕ)) → ArePoints ps → from ≤ last_level ps → rest ≡ from_piece from ps → ArePoints (begun_at from rest)
begun_points from ps rest are le is = subst (λ xs. ArePoints (begun_at from xs)) (sym is) (is_from from ps are le).are
