-- Sums over lists.
use Rattle.std.proofs.Common.{◌≡◌, ℕ, suc, ◌+◌, ◌*◌, ◌^◌, ◌<◌, ◌≤◌, List, [], ◌∷◌, drop, drop-cons, get_or, length, map, refl, sym, ap, subst, arith}
use Rattle.std.specs.List.{All}
use Rattle.std.proofs.lemmas.List.Elements.{All-cons, All-head, All-nil, All-tail}
use Rattle.plan_schedule.specs.Schedules.{HasSmallTotals}
use Rattle.plan_schedule.specs.Totals.{AreRouteSums, AreSmall, nothing, of_visit, plan_totals, plus, summed}
use Rattle.plan_schedule.specs.declared.schedule.RouteSchedule.{RouteSchedule}
use Rattle.plan_schedule.specs.declared.schedule.Totals.{Totals}
use Rattle.plan_schedule.specs.declared.schedule.Visit.{Visit}

-- each sum is at most that of others
pub record AtMost (a b : Totals) : Type 0 where
  pub driving : a.driving ≤ b.driving
  pub serving : a.serving ≤ b.serving
  pub plugging : a.plugging ≤ b.plugging
  pub charging : a.charging ≤ b.charging
  pub time : a.time ≤ b.time
  pub energy_driven : a.energy_driven ≤ b.energy_driven
  pub energy_charged : a.energy_charged ≤ b.energy_charged
  pub stops : a.stops ≤ b.stops

-- sums grow
pub summed_grows : (t : Totals) (ts : List Totals) → AtMost t (summed t ts)
summed_grows t [] = record {
  driving = omega arith;
  serving = omega arith;
  plugging = omega arith;
  charging = omega arith;
  time = omega arith;
  energy_driven = omega arith;
  energy_charged = omega arith;
  stops = omega arith;
}
summed_grows t (u ∷ ts) =
    let rest = summed_grows (plus t u) ts in
    record {
      driving = omega (arith, rest.driving);
      serving = omega (arith, rest.serving);
      plugging = omega (arith, rest.plugging);
      charging = omega (arith, rest.charging);
      time = omega (arith, rest.time);
      energy_driven = omega (arith, rest.energy_driven);
      energy_charged = omega (arith, rest.energy_charged);
      stops = omega (arith, rest.stops);
    }

small_below : (a b : Totals) → AtMost a b → AreSmall b → AreSmall a
small_below a b most small = record {
  driving = omega (arith, most.driving, small.driving);
  serving = omega (arith, most.serving, small.serving);
  plugging = omega (arith, most.plugging, small.plugging);
  charging = omega (arith, most.charging, small.charging);
  time = omega (arith, most.time, small.time);
  energy_driven = omega (arith, most.energy_driven, small.energy_driven);
  energy_charged = omega (arith, most.energy_charged, small.energy_charged);
  stops = omega (arith, most.stops, small.stops);
}

-- what is added next stays small where the whole sum is
pub next_small : (t u all : Totals) (ts : List Totals) → summed t (u ∷ ts) ≡ all → AreSmall all → AreSmall (plus t u)
next_small t u all ts is small = small_below (plus t u) (summed (plus t u) ts) (summed_grows (plus t u) ts) (subst AreSmall (sym is) small)

-- so many times the same
abbrev pub so_often : ℕ → Totals → Totals
so_often n b = record {
  driving = n * b.driving;
  serving = n * b.serving;
  plugging = n * b.plugging;
  charging = n * b.charging;
  time = n * b.time;
  energy_driven = n * b.energy_driven;
  energy_charged = n * b.energy_charged;
  stops = n * b.stops;
}

once_more : (t u n b rest : ℕ) → u ≤ b → rest ≤ t + u + n * b → rest ≤ t + suc n * b
once_more t u n b rest h k = omega arith

-- items within bounds add up to no more than so many times the bounds
pub summed_within : (b t : Totals) (ts : List Totals) → All (λ u. AtMost u b) ts → AtMost (summed t ts) (plus t (so_often (length ts) b))
summed_within b t [] all = record {
  driving = omega arith;
  serving = omega arith;
  plugging = omega arith;
  charging = omega arith;
  time = omega arith;
  energy_driven = omega arith;
  energy_charged = omega arith;
  stops = omega arith;
}
summed_within b t (u ∷ ts) all =
    let rest = summed_within b (plus t u) ts (All-tail (λ w. AtMost w b) u ts all) in
    let n = length ts in
    let most = All-head (λ w. AtMost w b) u ts all in
    record {
      driving = once_more t.driving u.driving n b.driving (summed (plus t u) ts).driving most.driving rest.driving;
      serving = once_more t.serving u.serving n b.serving (summed (plus t u) ts).serving most.serving rest.serving;
      plugging = once_more t.plugging u.plugging n b.plugging (summed (plus t u) ts).plugging most.plugging rest.plugging;
      charging = once_more t.charging u.charging n b.charging (summed (plus t u) ts).charging most.charging rest.charging;
      time = once_more t.time u.time n b.time (summed (plus t u) ts).time most.time rest.time;
      energy_driven = once_more t.energy_driven u.energy_driven n b.energy_driven (summed (plus t u) ts).energy_driven most.energy_driven rest.energy_driven;
      energy_charged = once_more t.energy_charged u.energy_charged n b.energy_charged (summed (plus t u) ts).energy_charged most.energy_charged rest.energy_charged;
      stops = once_more t.stops u.stops n b.stops (summed (plus t u) ts).stops most.stops rest.stops;
    }

pub small_sums : (t : Totals) → AreRouteSums t → AreSmall t
small_sums t sums = record {
  driving = omega (arith, sums.driving);
  serving = omega (arith, sums.serving);
  plugging = omega (arith, sums.plugging);
  charging = omega (arith, sums.charging);
  time = omega (arith, sums.time);
  energy_driven = omega (arith, sums.energy_driven);
  energy_charged = omega (arith, sums.energy_charged);
  stops = omega (arith, sums.stops);
}

-- the greatest sums of a route
abbrev greatest : Totals
greatest = record {
  driving = 10 ^ 18;
  serving = 10 ^ 18;
  plugging = 10 ^ 18;
  charging = 10 ^ 18;
  time = 10 ^ 18;
  energy_driven = 2 ^ 64 * 10 ^ 9;
  energy_charged = 2 ^ 64 * 10 ^ 9;
  stops = 2 ^ 64;
}

all_within : (routes : List RouteSchedule) → All HasSmallTotals routes → All (λ u. AtMost u greatest) (map (λ r. r.totals) routes)
all_within [] all = All-nil (λ u. AtMost u greatest)
all_within (r ∷ routes) all =
    let small = All-head HasSmallTotals r routes all in
    All-cons (λ u. AtMost u greatest) r.totals (map (λ r. r.totals) routes)
    (record {
      driving = small.driving;
      serving = small.serving;
      plugging = small.plugging;
      charging = small.charging;
      time = small.time;
      energy_driven = small.energy_driven;
      energy_charged = small.energy_charged;
      stops = small.stops;
    }) (all_within routes (All-tail HasSmallTotals r routes all))

as_many : (routes : List RouteSchedule) → length (map (λ r. r.totals) routes) ≡ length routes
as_many [] = refl
as_many (r ∷ routes) = ap suc (as_many routes)

-- the sums of a plan of routes that are no more than a text may have
pub small_plan : (routes : List RouteSchedule) → All HasSmallTotals routes → length routes ≤ 10 ^ 6 → AreSmall (plan_totals routes)
small_plan routes all few =
    let many = as_many routes in
    let most = summed_within greatest nothing (map (λ r. r.totals) routes) (all_within routes all) in
    record {
      driving = omega (arith, most.driving, many, few);
      serving = omega (arith, most.serving, many, few);
      plugging = omega (arith, most.plugging, many, few);
      charging = omega (arith, most.charging, many, few);
      time = omega (arith, most.time, many, few);
      energy_driven = omega (arith, most.energy_driven, many, few);
      energy_charged = omega (arith, most.energy_charged, many, few);
      stops = omega (arith, most.stops, many, few);
    }

-- the next item of a loop over visits
pub next_visit : (t u all : Totals) (visits : List Visit) (d : Visit) (i : ℕ) → u ≡ of_visit (get_or visits i d) → i < length visits → summed t (map of_visit (drop i visits)) ≡ all → AreSmall all → AreSmall (plus t u)
next_visit t u all visits d i is within told small =
    let cut : drop i visits ≡ get_or visits i d ∷ drop (suc i) visits = drop-cons visits i d within in
    let told_next : summed t (of_visit (get_or visits i d) ∷ map of_visit (drop (suc i) visits)) ≡ all = subst (λ vs. summed t (map of_visit vs) ≡ all) cut told in
    subst (λ w. AreSmall (plus t w)) (sym is) (next_small t (of_visit (get_or visits i d)) all (map of_visit (drop (suc i) visits)) told_next small)

-- the next item of a loop over routes
pub next_route : (t all : Totals) (routes : List RouteSchedule) (r : RouteSchedule) (i : ℕ) → r ≡ get_or routes i r → i < length routes → summed t (map (λ x. x.totals) (drop i routes)) ≡ all → AreSmall all → AreSmall (plus t r.totals)
next_route t all routes r i is within told small =
    let cut : drop i routes ≡ get_or routes i r ∷ drop (suc i) routes = drop-cons routes i r within in
    let told_next : summed t ((get_or routes i r).totals ∷ map (λ x. x.totals) (drop (suc i) routes)) ≡ all = subst (λ rs. summed t (map (λ x. x.totals) rs) ≡ all) cut told in
    subst (λ (x : RouteSchedule). AreSmall (plus t x.totals)) (sym is) (next_small t (get_or routes i r).totals all (map (λ x. x.totals) (drop (suc i) routes)) told_next small)
