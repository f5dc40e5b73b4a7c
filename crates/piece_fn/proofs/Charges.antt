-- Charging from few levels is enough: each charge is covered by one that begins at a supporting level or ends where it began.
use Rattle.std.proofs.Common.{◌≡◌, ◌∙◌, ℕ, zero, suc, ◌+◌, ◌-◌, ◌<◌, ◌≤◌, Bool, true, false, ◌||◌, ◌⊎◌, refl, sym, ap, subst, List, [], ◌∷◌, ◌++◌, length, take, get_or, arith, inl, inr}
use Rattle.std.specs.Prelude.{nat_eq}
use Rattle.std.specs.List.{All, AllZip, Any, filter, list_any, range_with_len}
use Rattle.std.proofs.lemmas.Bool.{cases_Bool, cases_eq, cases_lt, eq-eqb, eqb-true, false≢true, or_cases, or_left, or_right}
use Rattle.std.proofs.lemmas.List.{take_more}
use Rattle.std.proofs.lemmas.List.Elements.{All-cons, All-head, All-nil, All-tail}
use Rattle.charge_curve.specs.Points.{ArePoints, IsSlowing, last_level, time_on}
use Rattle.dominance.specs.Coverage.{Reaches, SomeReaches}
use Rattle.dominance.specs.LevelTimes.{IsLevel, LevelTimes, time_at}
use Rattle.dominance.specs.Steps.{IsCharge, IsChargeFrom}
use Rattle.dominance.proofs.Pieces.{never_falls}
use Rattle.piece_fn.specs.PieceFn.{first_level, IsChargeList, IsChargedFrom, is_support, level_times, starts}
use Rattle.piece_fn.proofs.LeastDifference.{Bends, IsLeastAt, least_at}
use Rattle.piece_fn.proofs.Straight.{slows, straight}
use Rattle.piece_fn.proofs.Exact.{first_support, last_support}
use Rattle.piece_fn.proofs.Levels.{is_level, level_is, time_at-level_times}

-- the end of a charge by the points
abbrev by_points : List (ℕ × ℕ) → List (ℕ × ℕ) → ℕ → ℕ → ℕ
by_points ps curve from level = time_on ps from + (time_on curve level - time_on curve from)

-- no charge to a level is faster than one from a supporting level, or none at all
pub record HasCandidate (ps curve : List (ℕ × ℕ)) (from level : ℕ) : Type 0 where
  pub start : ℕ
  pub above : first_level ps ≤ start
  pub within : start ≤ last_level ps
  pub below : start ≤ level
  pub candidate : (start ≡ level) ⊎ (is_support ps start ≡ true)
  pub no_later : by_points ps curve start level ≤ by_points ps curve from level

search_to : (ps curve : List (ℕ × ℕ)) (from high : ℕ) → ArePoints ps → ArePoints curve → IsSlowing curve → high ≤ last_level curve → first_level ps ≤ from → from ≤ high
    → IsLeastAt (time_on ps) (time_on curve) (is_support ps) (first_level ps) high from
search_to ps curve from high are curve_are slow top low le =
    let bends : (x : ℕ) → first_level ps < x → x < high → is_support ps x ≡ false → Bends (time_on ps) (time_on curve) x = λ x lx xh none.
    let same = straight ps x are (omega (arith, lx)) none in
    let more = slows curve x curve_are slow (omega (arith, lx)) (omega (arith, xh, top)) in
    omega (arith, same, more) in
    least_at (time_on ps) (time_on curve) (is_support ps) (first_level ps) high bends from low le

sooner : (a b c d e : ℕ) → a + d ≤ b + c → c ≤ e → d ≤ e → a + (e - c) ≤ b + (e - d)
sooner a b c d e less ce de = omega (arith, less, ce, de)

candidates : (ps curve : List (ℕ × ℕ)) (from level : ℕ) → ArePoints ps → ArePoints curve → IsSlowing curve → level ≤ last_level curve → first_level ps ≤ from → from ≤ last_level ps → from ≤ level → HasCandidate ps curve from level
candidates ps curve from level are curve_are slow top low high le = elim (cases_lt (last_level ps) level) [
  | inl beyond ↦
      let found = search_to ps curve from (last_level ps) are curve_are slow (omega (arith, beyond, top)) low high in
      let marked : is_support ps found.at ≡ true = elim found.place [
        | inl first ↦ rw first (first_support ps are)
        | inr (inl last) ↦ rw last (last_support ps are)
        | inr (inr mark) ↦ mark
      ] in
      record {
        start = found.at;
        above = found.above;
        within = found.below;
        below = omega (arith, found.below, beyond);
        candidate = inr marked;
        no_later = sooner (time_on ps found.at) (time_on ps from) (time_on curve found.at) (time_on curve from) (time_on curve level) found.less (never_falls curve curve_are found.at level (omega (arith, found.below, beyond))) (never_falls curve curve_are from level le);
      }
  | inr within ↦
      let found = search_to ps curve from level are curve_are slow top low le in
      let where_from : (found.at ≡ level) ⊎ (is_support ps found.at ≡ true) = elim found.place [
        | inl first ↦ inr (rw first (first_support ps are))
        | inr (inl end) ↦ inl end
        | inr (inr mark) ↦ inr mark
      ] in
      record {
        start = found.at;
        above = found.above;
        within = omega (arith, found.below, within);
        below = found.below;
        candidate = where_from;
        no_later = sooner (time_on ps found.at) (time_on ps from) (time_on curve found.at) (time_on curve from) (time_on curve level) found.less (never_falls curve curve_are found.at level found.below) (never_falls curve curve_are from level le);
      }
]

-- numbers of a filtered range
kept : (p : ℕ → Bool) (n a x : ℕ) → a ≤ x → x < a + n → p x ≡ true → list_any (λ y. nat_eq y x) (filter p (range_with_len a n)) ≡ true
kept p zero a x low high is = absurd (omega (arith, low, high))
kept p (suc n) a x low high is = elim (cases_eq a x) [
  | inl same ↦
      let here : p a ≡ true = ap p same ∙ is in
      rw here (or_left (nat_eq a x) (list_any (λ y. nat_eq y x) (filter p (range_with_len (a + 1) n))) (eq-eqb a x same))
  | inr other ↦
      let rest = kept p n (a + 1) x (omega (arith, low, other)) (omega (arith, high)) is in
      elim (cases_Bool (p a)) [
        | inl passes ↦ rw passes (or_right (nat_eq a x) (list_any (λ y. nat_eq y x) (filter p (range_with_len (a + 1) n))) rest)
        | inr none ↦ rw none rest
      ]
]

all_kept : (p : ℕ → Bool) (P : ℕ → Type 0) (n a : ℕ) → ((x : ℕ) → a ≤ x → x < a + n → P x) → All P (filter p (range_with_len a n))
all_kept p P zero a each = All-nil P
all_kept p P (suc n) a each =
    let rest = all_kept p P n (a + 1) (λ x low high. each x (omega (arith, low)) (omega (arith, high))) in
    elim (cases_Bool (p a)) [
      | inl passes ↦ rw passes (All-cons P a (filter p (range_with_len (a + 1) n)) (each a (omega arith) (omega arith)) rest)
      | inr none ↦ rw none rest
    ]

starts_at : (ps curve : List (ℕ × ℕ)) (level : ℕ) → IsLevel (level_times ps) level → is_support ps level ≡ true → list_any (λ y. nat_eq y level) (starts ps curve) ≡ true
unfolding starts
starts_at ps curve level is support =
    kept (λ x. is_support ps x || is_support curve x) (length (level_times ps).times) (level_times ps).first level is.0 is.1 (or_left (is_support ps level) (is_support curve level) support)

pub each_start : (ps curve : List (ℕ × ℕ)) → All (λ level. IsLevel (level_times ps) level) (starts ps curve)
unfolding starts
each_start ps curve =
    all_kept (λ x. is_support ps x || is_support curve x) (λ level. IsLevel (level_times ps) level) (length (level_times ps).times) (level_times ps).first (λ x low high. (low, high))

-- lists side by side
module _ {V : Type 0} where
  any_later : (P : V → Type 0) (x : V) (xs : List V) → Any P xs → Any P (x ∷ xs)
  any_later P x xs found = (suc found.0, found.1, omega (arith, found.2), found.3, found.4)

  zip_any : (R : ℕ → V → Type 0) (xs : List ℕ) (ys : List V) (x : ℕ) → AllZip R xs ys → list_any (λ y. nat_eq y x) xs ≡ true → Any (R x) ys
  zip_any R [] [] x zip is = absurd (false≢true is)
  zip_any R [] (y ∷ ys) x zip is = absurd zip
  zip_any R (a ∷ xs) [] x zip is = absurd zip
  zip_any R (a ∷ xs) (y ∷ ys) x zip is = elim (or_cases (nat_eq a x) (list_any (λ z. nat_eq z x) xs) is) [
    | inl here ↦ (zero, y, omega arith, refl, subst (λ z. R z y) (eqb-true a x here) zip.0)
    | inr later ↦ any_later (R x) y ys (zip_any R xs ys x zip.1 later)
  ]

  zip_all : (R : ℕ → V → Type 0) (P : ℕ → Type 0) (Q : V → Type 0) → ((x : ℕ) (y : V) → P x → R x y → Q y) → (xs : List ℕ) (ys : List V) → AllZip R xs ys → All P xs → All Q ys
  zip_all R P Q each [] [] zip all = All-nil Q
  zip_all R P Q each [] (y ∷ ys) zip all = absurd zip
  zip_all R P Q each (a ∷ xs) [] zip all = absurd zip
  zip_all R P Q each (a ∷ xs) (y ∷ ys) zip all = All-cons Q y ys (each a y (All-head P a xs all) zip.0) (zip_all R P Q each xs ys zip.1 (All-tail P a xs all))

  zip_push : (R : ℕ → V → Type 0) (xs : List ℕ) (ys : List V) (x : ℕ) (y : V) → AllZip R xs ys → R x y → AllZip R (xs ++ x ∷ []) (ys ++ y ∷ [])
  zip_push R [] [] x y zip is = (is, tt)
  zip_push R [] (b ∷ ys) x y zip is = absurd zip
  zip_push R (a ∷ xs) [] x y zip is = absurd zip
  zip_push R (a ∷ xs) (b ∷ ys) x y zip is = (zip.0, zip_push R xs ys x y zip.1 is)

  any_weaker : (P Q : V → Type 0) → ((x : V) → P x → Q x) → (xs : List V) → Any P xs → Any Q xs
  any_weaker P Q each xs found = (found.0, found.1, found.2, found.3, each found.1 found.4)

-- what a charge from one level tells
only_from : (ps curve : List (ℕ × ℕ)) (limit from : ℕ) (w : LevelTimes) → IsLevel (level_times ps) from → IsChargeFrom (level_times ps) curve limit from w → (level : ℕ) → IsLevel w level → IsCharge (level_times ps) curve limit level (time_at w level)
only_from ps curve limit from w starts_there is level low =
    let inside = (is.levels level).0 low in
    record { from = from; starts = starts_there; rises = inside.0; fits = inside.1; takes = is.later level low; in_time = omega (arith, is.later level low, inside.2) }

stays : (ps curve : List (ℕ × ℕ)) (limit level : ℕ) → IsLevel (level_times ps) level → level ≤ last_level curve → time_at (level_times ps) level ≤ limit → IsCharge (level_times ps) curve limit level (time_at (level_times ps) level)
stays ps curve limit level is fits in_time = record { from = level; starts = is; rises = omega arith; fits = fits; takes = omega arith; in_time = in_time }

pub only_charges : (ps curve : List (ℕ × ℕ)) (limit : ℕ) (values : List (List (ℕ × ℕ))) → IsChargeList ps curve limit values
    → ((level : ℕ) → IsLevel (level_times ps) level → level ≤ last_level curve) → ((level : ℕ) → IsLevel (level_times ps) level → time_at (level_times ps) level ≤ limit)
    → All (λ value. (level : ℕ) → IsLevel (level_times value) level → IsCharge (level_times ps) curve limit level (time_at (level_times value) level)) values
only_charges ps curve limit [] list fits in_time = absurd list
only_charges ps curve limit (u ∷ charged_values) list fits in_time =
    let Q : List (ℕ × ℕ) → Type 0 = λ value. (level : ℕ) → IsLevel (level_times value) level → IsCharge (level_times ps) curve limit level (time_at (level_times value) level) in
    let first : Q u = subst Q (sym list.0) (λ level is. stays ps curve limit level is (fits level is) (in_time level is)) in
    All-cons Q u charged_values first
    (zip_all (λ from after. IsChargeFrom (level_times ps) curve limit from (level_times after)) (λ level. IsLevel (level_times ps) level) Q (λ from after starts_there is. only_from ps curve limit from (level_times after) starts_there is) (starts ps curve) charged_values list.1 (each_start ps curve))

pub every_charge : (ps curve : List (ℕ × ℕ)) (limit : ℕ) (values : List (List (ℕ × ℕ))) → ArePoints ps → ArePoints curve → IsSlowing curve → IsChargeList ps curve limit values
    → (level time : ℕ) → IsCharge (level_times ps) curve limit level time → SomeReaches level_times values 0 level time
every_charge ps curve limit [] are curve_are slow list level time is = absurd list
every_charge ps curve limit (u ∷ charged_values) are curve_are slow list level time is =
    let Q : List (ℕ × ℕ) → Type 0 = λ value. Reaches (level_times value) 0 level time in
    let begins = level_is ps is.from are is.starts in
    let start_time = time_at-level_times ps is.from are is.starts in
    let found = candidates ps curve is.from level are curve_are slow is.fits begins.0 begins.1 is.rises in
    let there = is_level ps found.start are found.above found.within in
    let there_time = time_at-level_times ps found.start are there in
    elim found.candidate [
      | inl same ↦
          let here : IsLevel (level_times ps) level = subst (λ x. IsLevel (level_times ps) x) same there in
          let here_time : time_at (level_times ps) level ≡ time_on ps found.start = ap (λ x. time_at (level_times ps) x) (sym same) ∙ there_time in
          let reach : Q u = subst Q (sym list.0) (level, here, (omega arith, omega (arith, here_time, start_time, is.takes, found.no_later))) in
          (zero, u, omega arith, refl, reach)
      | inr support ↦
          let after = zip_any (λ from after. IsChargeFrom (level_times ps) curve limit from (level_times after)) (starts ps curve) charged_values found.start list.1 (starts_at ps curve found.start there support) in
          any_later Q u charged_values (any_weaker (λ after. IsChargeFrom (level_times ps) curve limit found.start (level_times after)) Q (λ w from.
          let low = (from.levels level).1 (found.below, is.fits, omega (arith, there_time, start_time, is.takes, is.in_time, found.no_later)) in
          (level, low, (omega arith, omega (arith, from.later level low, there_time, start_time, is.takes, found.no_later)))) charged_values after)
    ]

-- one more value in the list
pub charge_more : (ps curve : List (ℕ × ℕ)) (limit : ℕ) (all : List ℕ) (n : ℕ) (values : List (List (ℕ × ℕ))) (w : List (ℕ × ℕ)) → n < length all → IsChargedFrom ps curve limit (take n all) values
    → IsChargeFrom (level_times ps) curve limit (get_or all n 0) (level_times w) → IsChargedFrom ps curve limit (take (n + 1) all) (values ++ w ∷ [])
charge_more ps curve limit all n [] w less list is = absurd list
charge_more ps curve limit all n (u ∷ charged_values) w less list is =
    let R : ℕ → List (ℕ × ℕ) → Type 0 = λ from after. IsChargeFrom (level_times ps) curve limit from (level_times after) in
    let zip = zip_push R (take n all) charged_values (get_or all n 0) w list.1 is in
    (list.0, rw (take_more all n 0 less) zip)
