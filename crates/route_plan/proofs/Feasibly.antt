-- A plan that is walked to its end is feasible.
use Rattle.std.proofs.Common.{◌≡◌, ◌≢◌, ◌∙◌, ℕ, ◌+◌, ◌-◌, ◌*◌, ◌<◌, ◌≤◌, Bool, true, false, ◌&&◌, not, List, [], ◌∷◌, Result, Ok, Err, is_some, nat_eq, nat_lt, refl, sym, ap, subst, arith, inl, inr, if◌then◌else◌}
use Rattle.std.specs.Result.{IfErr, IfOk}
use Rattle.std.proofs.Math.Nat.{le-max_left, le-max_right}
use Rattle.std.proofs.lemmas.Bool.{and_parts, cases_Bool, eqb-true, lt-ltb, ltb-false, ltb-true}
use Rattle.std.proofs.lemmas.Bool.Decides.{nat_tests}
use Rattle.ev_model.specs.Feasible.{IsFeasible}
use Rattle.ev_model.specs.Levels.{KeepsBatteryFrom, leaving_level, level_after}
use Rattle.ev_model.specs.Network.{Network, curve_at, energy, node_count, scaled_limit}
use Rattle.ev_model.specs.Plan.{AreStopsFrom, EndsAtDepot, IsEnd, IsStop}
use Rattle.ev_model.specs.Time.{time_from, time_of}
use Rattle.ev_model.specs.declared.Stop.{Stop}
use Rattle.route_plan.specs.declared.walks.Walk.{Walk}
use Rattle.route_plan.specs.declared.walks.WalkFault.{WalkFault}
use Rattle.route_plan.specs.declared.walks.WalkFault.TheVariants.{Ends, Unknown, Again, Empty, NotStation, Full, Late}
use Rattle.route_plan.specs.Walking.{end_level, has_station, is_end, is_last, least_level, step_at, time_after, walk_along, walk_behind, walk_on}
use Rattle.route_plan.specs.FirstPlaces.{ends_pass, last_passes}
use Rattle.ev_text.proofs.Results.{and_then-ok}
use Rattle.route_plan.proofs.Walked.{feasible_is_walked, leaving_in_ones, time_after-stop}

-- a rule that is not broken
unless-ok : (b : Bool) (fault : WalkFault) (r : Result Walk WalkFault) (w : Walk) → (if b then Err fault else r) ≡ Ok w → (b ≡ false) × (r ≡ Ok w)
unless-ok true fault r w is = absurd (cc)
unless-ok false fault r w is = (refl, is)

-- a stop that is at a station where it has to be
is_stop : (g : Network) (s : Stop) → s.node < node_count g → has_station g s ≡ true → IsStop g s
is_stop g s known has = record {
  known = known;
  station = λ why. elim (cases_Bool (is_some (curve_at g s.node))) [
    | inl some ↦ some
    | inr none ↦ elim why [
      | inl via ↦
          let inserted : s.via ≡ true = via in
          let h : has_station g s ≡ false = rw (none, inserted) refl in
          absurd (cc)
      | inr more ↦
          let charges : nat_lt 0 s.added ≡ true = lt-ltb 0 s.added more in
          let h : has_station g s ≡ false = elim (cases_Bool s.via) [
            | inl inserted ↦ rw (none, inserted) refl
            | inr own ↦ rw (none, own, charges) refl
          ] in
          absurd (cc)
    ]
  ];
}

-- a stop at which no rule is broken
record StepsWell (g : Network) (last : Bool) (from level time : ℕ) (s : Stop) (w : Walk) : Type 0 where
  moves : s.node ≢ from
  stop : IsStop g s
  reaches : energy g from s.node + least_level g last ≤ level
  full : level - energy g from s.node + s.added ≤ g.capacity
  in_time : time_after g from level time s ≤ scaled_limit g
  is : record { time = time_after g from level time s; last = level - energy g from s.node + s.added } ≡ w

unnot : (b : Bool) → not b ≡ false → b ≡ true
unnot true is = refl
unnot false is = absurd (cc)

steps_well : (g : Network) (last : Bool) (from level time at : ℕ) (s : Stop) (w : Walk) → step_at g last from level time at s ≡ Ok w → StepsWell g last from level time s w
steps_well g last from level time at s w is =
    let known = unless-ok (not (nat_lt s.node (node_count g))) (Unknown at) _ w is in
    let moves = unless-ok (nat_eq s.node from) (Again at) _ w known.1 in
    let reaches = unless-ok (nat_lt level (energy g from s.node + least_level g last)) (Empty at) _ w moves.1 in
    let station = unless-ok (not (has_station g s)) (NotStation at) _ w reaches.1 in
    let full = unless-ok (nat_lt g.capacity (level - energy g from s.node + s.added)) (Full at) _ w station.1 in
    let in_time = unless-ok (nat_lt (scaled_limit g) (time_after g from level time s)) (Late at) _ w full.1 in
    let differs : nat_eq s.node from ≡ false = moves.0 in
    record {
      moves = λ same. let h : nat_eq s.node s.node ≡ false = subst (λ n. nat_eq s.node n ≡ false) (sym same) differs in grind (arith, nat_tests, h);
      stop = is_stop g s (ltb-true s.node (node_count g) (unnot _ known.0)) (unnot _ station.0);
      reaches = ltb-false level (energy g from s.node + least_level g last) reaches.0;
      full = ltb-false g.capacity (level - energy g from s.node + s.added) full.0;
      in_time = ltb-false (scaled_limit g) (time_after g from level time s) in_time.0;
      is = cc;
    }

-- stops that are walked to their end
record WalksWell (g : Network) (from level time : ℕ) (ss : List Stop) (w : Walk) : Type 0 where
  stops : AreStopsFrom g from ss
  battery : KeepsBatteryFrom g 1 from level ss
  spent : w.time ≡ time + time_from g 1 from level ss
  last : w.last ≡ level_after g 1 from level ss
  in_time : time ≤ scaled_limit g → w.time ≤ scaled_limit g
  home : ss ≢ [] → g.home_level ≤ level_after g 1 from level ss

-- a stop that was reached with the least level keeps the reserve
keeps_reserve : (g : Network) (last : Bool) (needed level : ℕ) → needed + least_level g last ≤ level → 1 * needed + 1 * g.reserve ≤ level
keeps_reserve g true needed level le = let most = le-max_left g.reserve g.home_level in omega (arith, most, le)
keeps_reserve g false needed level le = omega (arith, le)

-- and the last one has the level at home
keeps_home : (g : Network) (from level : ℕ) (s : Stop) (ss : List Stop) → energy g from s.node + least_level g (is_last ss) ≤ level
    → (ss ≢ [] → g.home_level ≤ level_after g 1 s.node (leaving_level g 1 from level s) ss) → g.home_level ≤ level_after g 1 from level (s ∷ ss)
keeps_home g from level s [] le later = let most = le-max_right g.reserve g.home_level in omega (arith, most, le, leaving_in_ones g from level s)
keeps_home g from level s (t ∷ ss) le later = later (λ none. absurd (cc))

walks_well : (g : Network) (from level time at : ℕ) (ss : List Stop) (w : Walk) → walk_behind g from level time at ss ≡ Ok w → WalksWell g from level time ss w
walks_well g from level time at [] w is =
    let same : record { time = time; last = level } ≡ w = cc in
    let spent : time ≡ w.time = ap (λ (v : Walk). v.time) same in
    let last : level ≡ w.last = ap (λ (v : Walk). v.last) same in
    record { stops = tt; battery = tt; spent = omega (arith, spent); last = sym last; in_time = λ le. omega (arith, spent, le); home = λ some. absurd (some refl) }
walks_well g from level time at (s ∷ ss) w is =
    let step = and_then-ok (step_at g (is_last ss) from level time at s) (λ (next : Walk). walk_behind g s.node next.last next.time (at + 1) ss) w is in
    let next = step.0 in
    let here = steps_well g (is_last ss) from level time at s next step.1 in
    let rest = walks_well g s.node next.last next.time (at + 1) ss w step.2 in
    let leaves = leaving_in_ones g from level s in
    let left_with : next.last ≡ leaving_level g 1 from level s = sym (ap (λ (v : Walk). v.last) here.is) ∙ sym leaves in
    let left_at : next.time ≡ time_after g from level time s = sym (ap (λ (v : Walk). v.time) here.is) in
    let spends = time_after-stop g from level time s in
    let later : time_from g 1 s.node next.last ss ≡ time_from g 1 s.node (leaving_level g 1 from level s) ss = ap (λ l. time_from g 1 s.node l ss) left_with in
    record {
      stops = (here.moves, here.stop, rest.stops);
      battery = (
        keeps_reserve g (is_last ss) (energy g from s.node) level here.reaches,
        omega (arith, leaves, here.full),
        subst (λ l. KeepsBatteryFrom g 1 s.node l ss) left_with rest.battery,
      );
      spent = omega (arith, rest.spent, left_at, spends, later);
      last = rest.last ∙ ap (λ l. level_after g 1 s.node l ss) left_with;
      in_time = λ le. rest.in_time (omega (arith, left_at, here.in_time));
      home = λ some. keeps_home g from level s ss here.reaches (subst (λ l. ss ≢ [] → g.home_level ≤ level_after g 1 s.node l ss) left_with rest.home);
    }

is_end_of : (s : Stop) → is_end s ≡ true → IsEnd s
is_end_of s is =
    let first = and_parts (nat_eq s.node 0 && not s.via) (nat_eq s.added 0) is in
    let second = and_parts (nat_eq s.node 0) (not s.via) first.0 in
    let node : s.node ≡ 0 = eqb-true s.node 0 second.0 in
    let own : s.via ≡ false = elim (cases_Bool s.via) [ inl via ↦ let h : false ≡ true = rw via at second.1 in absurd (cc) | inr own ↦ own ] in
    let none : s.added ≡ 0 = eqb-true s.added 0 first.1 in
    rw (node, own, none) refl

ends_at_depot : (ss : List Stop) → last_passes is_end ss ≡ true → EndsAtDepot ss
ends_at_depot [] is = absurd (cc)
ends_at_depot (s ∷ []) is = is_end_of s is
ends_at_depot (s ∷ t ∷ ss) is = ends_at_depot (t ∷ ss) is

when_ends : (b : Bool) (r : Result Walk WalkFault) (w : Walk) → (if b then r else Err Ends) ≡ Ok w → (b ≡ true) × (r ≡ Ok w)
when_ends true r w is = (refl, is)
when_ends false r w is = absurd (cc)

some_stop : (ss : List Stop) → last_passes is_end ss ≡ true → ss ≢ []
some_stop [] is none = cc
some_stop (s ∷ ss) is none = cc

-- a plan that is walked to its end is feasible, and the walk tells its time and last level
pub walked_is_feasible : (g : Network) (start : ℕ) (stops : List Stop) (w : Walk) → walk_along g start stops ≡ Ok w →
    IsFeasible g 1 start stops × (w.time ≡ time_of g 1 start stops) × (w.last ≡ end_level g start stops)
walked_is_feasible g start [] w is = absurd (cc)
walked_is_feasible g start (first ∷ stops) w is =
    let ends = when_ends (ends_pass is_end (first ∷ stops)) (walk_on g start (first ∷ stops)) w is in
    let parts = and_parts (is_end first) (last_passes is_end stops) ends.0 in
    let walks = walks_well g first.node start 0 1 stops w ends.1 in
    let once : start ≡ 1 * start = omega arith in
    let time_is : time_of g 1 start (first ∷ stops) ≡ time_from g 1 first.node start stops = sym (ap (λ l. time_from g 1 first.node l stops) once) in (
      record {
        plan = (omega arith, is_end_of first parts.0, ends_at_depot stops parts.1, walks.stops);
        battery = (
          subst (λ l. KeepsBatteryFrom g 1 first.node l stops) once walks.battery,
          subst (λ l. 1 * g.home_level ≤ level_after g 1 first.node l stops) once (omega (arith, walks.home (some_stop stops parts.1))),
        );
        in_time = omega (arith, time_is, walks.spent, walks.in_time (omega arith));
      },
      omega (arith, time_is, walks.spent),
      walks.last,
    )

-- a feasible plan is walked to its end, told by its time and last level
pub feasible_as_walked : (g : Network) (start : ℕ) (stops : List Stop) (w : Walk) → IsFeasible g 1 start stops → w.time ≡ time_of g 1 start stops → w.last ≡ end_level g start stops →
    walk_along g start stops ≡ Ok w
feasible_as_walked g start stops w feasible time last =
    feasible_is_walked g start stops feasible
    ∙ ap (λ t. Ok (record { time = t; last = end_level g start stops })) (sym time)
    ∙ ap (λ l. Ok (record { time = w.time; last = l })) (sym last)

-- what the answer of a walk tells
pub record Tells (g : Network) (start : ℕ) (stops : List Stop) (answer : Result Walk WalkFault) : Type 0 where
  pub feasible : IfOk answer (λ w. IsFeasible g 1 start stops)
  pub time : IfOk answer (λ w. w.time ≡ time_of g 1 start stops)
  pub last : IfOk answer (λ w. w.last ≡ end_level g start stops)
  pub infeasible : IfErr answer (λ fault. IsFeasible g 1 start stops → ⊥)

pub tells : (g : Network) (start : ℕ) (stops : List Stop) (answer : Result Walk WalkFault) → walk_along g start stops ≡ answer → Tells g start stops answer
tells g start stops (Ok w) is =
    let meaning = walked_is_feasible g start stops w is in
    record { feasible = meaning.0; time = meaning.1; last = meaning.2; infeasible = tt }
tells g start stops (Err fault) is = record {
  feasible = tt;
  time = tt;
  last = tt;
  infeasible = λ feasible. let well = feasible_is_walked g start stops feasible in absurd (cc);
}

-- what the walk past the ends answers
pub past_ends : (g : Network) (start : ℕ) (stops : List Stop) (answer : Result Walk WalkFault) → ends_pass is_end stops ≡ true → answer ≡ walk_on g start stops → walk_along g start stops ≡ answer
past_ends g start stops answer ends is = rw ends (sym is)

pub without_ends : (g : Network) (start : ℕ) (stops : List Stop) → ends_pass is_end stops ≡ false → walk_along g start stops ≡ Err Ends
without_ends g start stops ends = rw ends refl
