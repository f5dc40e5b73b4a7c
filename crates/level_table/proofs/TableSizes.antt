-- Facts about tables: sizes, and what a better cell changes.
use Rattle.std.proofs.Common.{◌≡◌, ◌∙◌, ℕ, zero, suc, ◌+◌, ◌-◌, ◌*◌, ◌^◌, ◌<◌, ◌≤◌, List, [], ◌∷◌, Option, Some, None, length, refl, sym, ap, arith, length-append}
use Rattle.std.proofs.Math.Nat.{mul-le-mul_left, mul-le-mul_right}
use Rattle.std.proofs.lemmas.List.Sums.{count_by-le-length, sum_by-cons}
use Rattle.std.specs.Prelude.{nat_lt, cond, set, false, true, MatchOption, IsTrue, ◌↔◌}
use Rattle.std.proofs.Common.{◌⊎◌, ◌≢◌, inl, inr, subst, length-set}
use Rattle.std.proofs.lemmas.Bool.{cases_lt}
use Rattle.std.proofs.lemmas.Bool.Decides.{nat_tests}
use Rattle.std.proofs.lemmas.List.{get_or-set_same, get_or-set_other, get_or_past}
use Rattle.std.proofs.lemmas.List.Sums.{sum_by-set}
use Rattle.ev_model.specs.Network.{Network, scaled_limit}
use Rattle.ev_model.specs.Route.{IsRoute}
use Rattle.level_table.specs.Stations.{stations}
use Rattle.level_table.specs.Table.{IsClosedAt, IsNoFarther, IsOffer, IsSupported, IsTable, entry_at, nearer_count, rank_at, rank_over, total_rank}
use Rattle.level_table.specs.Moves.{place_after}
use Rattle.level_table.specs.Places.{IsTrip, entry_count, index_of, place_of}
use Rattle.level_table.specs.declared.moves.Move.{Move}
use Rattle.level_table.specs.declared.offers.Offer.{Offer}
use Rattle.level_table.specs.declared.place.Place.{Place}
use Rattle.level_table.specs.Reach.{rank, rank_of}
use Rattle.level_table.specs.declared.reach.Reach.{Reach}

-- a route has at least two nodes
pub route-length : (g : Network) (route : List ℕ) → IsRoute g route → 2 ≤ length route
route-length g route (inner, is) = omega (arith, ap length is.ends, length-append inner (0 ∷ []))

-- a table has at least one row for each arc
capacity-small : (r n m : ℕ) → 1 ≤ r → 1 ≤ n → m ≤ r * n * m
capacity-small r n m some one =
    let rows : r * 1 ≤ r * n = mul-le-mul_left r one in
    let entries : 1 * m ≤ r * n * m = mul-le-mul_right m (omega (arith, rows)) in
    omega (arith, entries)

pub few-entries : (g : Network) (route : List ℕ) → IsTrip g route → entry_count g route + (g.capacity + 1) * 2 ≤ 80000000
few-entries g route trip =
    let two = route-length g route trip.is_route in
    let small = capacity-small (length route - 1) (length (stations g) + 1) (g.capacity + 1) (omega arith) (omega arith) in
    omega (arith, small, trip.small)

-- no cell has more moves than there are entries
pub few-steps : (g : Network) (route : List ℕ) (entries : List (Option Reach)) (index : ℕ) (r : Reach) →
    IsTrip g route → IsTable g route entries → entry_at entries index ≡ Some r → r.steps ≤ 80000000
few-steps g route entries index r trip table is =
    let steps = table.few index r is in
    let all = count_by-le-length (λ cell. nat_lt (rank_of (scaled_limit g) cell) (rank r)) entries in
    omega (arith, steps, all, table.count, few-entries g route trip)

-- a cell that holds something is one of the table
pub held-within : (entries : List (Option Reach)) (index : ℕ) (r : Reach) → entry_at entries index ≡ Some r → index < length entries
held-within entries index r is = elim (cases_lt index (length entries)) [
  | inl less ↦ less
  | inr past ↦ let none : entry_at entries index ≡ None = get_or_past entries index None (omega (arith, past)) in cc
]

-- no cell ranks behind one without a way home
pub rank-top : (g : Network) (route : List ℕ) (entries : List (Option Reach)) (index : ℕ) (o : Option Reach) → IsTrip g route → IsTable g route entries →
    entry_at entries index ≡ o → rank_of (scaled_limit g) o ≤ (scaled_limit g + 1) * 2 ^ 32
rank-top g route entries index None trip table is = omega arith
rank-top g route entries index (Some r) trip table is =
    let time = table.in_time index r is in
    let steps = few-steps g route entries index r trip table is in
    omega (arith, time, steps)

-- what a comparison says of ranks
pub nearer-rank : (limit : ℕ) (reach : Reach) (held : Option Reach) → reach.time ≤ limit → reach.steps < 2 ^ 32 →
    MatchOption held (IsTrue true) (λ other. IsTrue true ↔ (rank reach < rank other)) → rank reach < rank_of limit held
nearer-rank limit reach None time steps is = omega (arith, time, steps)
nearer-rank limit reach (Some other) time steps is = is.0 refl

pub farther-rank : (limit : ℕ) (reach : Reach) (held : Option Reach) →
    MatchOption held (IsTrue false) (λ other. IsTrue false ↔ (rank reach < rank other)) → rank_of limit held ≤ rank reach
farther-rank limit reach None is = cc
farther-rank limit reach (Some other) is = elim (cases_lt (rank reach) (rank other)) [
  | inl less ↦ let both : false ≡ true = is.1 less in cc
  | inr not_less ↦ omega (arith, not_less)
]

count-cons : (limit b : ℕ) (cell : Option Reach) (entries : List (Option Reach)) →
    nearer_count limit b (cell ∷ entries) ≡ cond (nat_lt (rank_of limit cell) b) 1 0 + nearer_count limit b entries
count-cons limit b cell entries = sum_by-cons (λ x. cond (nat_lt (rank_of limit x) b) 1 0) cell entries

one_more : (x b c : ℕ) → b ≤ c → cond (nat_lt x b) 1 0 ≤ cond (nat_lt x c) 1 0
one_more x b c le = grind (arith, nat_tests)

-- more entries rank before a later bound
count-later : (limit b c : ℕ) (entries : List (Option Reach)) → b ≤ c → nearer_count limit b entries ≤ nearer_count limit c entries
count-later limit b c [] le = omega arith
count-later limit b c (cell ∷ entries) le =
    let first = one_more (rank_of limit cell) b c le in
    let rest = count-later limit b c entries le in
    rw (count-cons limit b cell entries, count-cons limit c cell entries) (omega (arith, first, rest))

here : (x : ℕ) → cond (nat_lt x x) 1 0 + 1 ≤ cond (nat_lt x (x + 1)) 1 0
here x = grind (arith, nat_tests)

-- a cell ranks before the bound behind its own rank
count-past : (limit : ℕ) (entries : List (Option Reach)) (index : ℕ) → index < length entries →
    nearer_count limit (rank_of limit (entry_at entries index)) entries + 1 ≤ nearer_count limit (rank_of limit (entry_at entries index) + 1) entries
count-past limit [] index within = absurd (omega arith)
count-past limit (cell ∷ entries) zero within =
    let b = rank_of limit cell in
    let first = here b in
    let rest = count-later limit b (b + 1) entries (omega arith) in
    rw (count-cons limit b cell entries, count-cons limit (b + 1) cell entries) (omega (arith, first, rest))
count-past limit (cell ∷ entries) (suc index) within =
    let b = rank_of limit (entry_at entries index) in
    let first = one_more (rank_of limit cell) b (b + 1) (omega arith) in
    let rest = count-past limit entries index (omega arith) in
    rw (count-cons limit b cell entries, count-cons limit (b + 1) cell entries) (omega (arith, first, rest))

one_less : (x y b : ℕ) → y ≤ x → cond (nat_lt x b) 1 0 ≤ cond (nat_lt y b) 1 0
one_less x y b le = grind (arith, nat_tests)

-- a nearer cell leaves no fewer before a bound
count-set : (limit b : ℕ) (entries : List (Option Reach)) (index : ℕ) (new : Option Reach) → rank_of limit new ≤ rank_of limit (entry_at entries index) →
    nearer_count limit b entries ≤ nearer_count limit b (set entries index new)
count-set limit b [] index new le = omega arith
count-set limit b (cell ∷ entries) zero new le = let first = one_less (rank_of limit cell) (rank_of limit new) b le in
    rw (count-cons limit b cell entries, count-cons limit b new entries) (omega (arith, first))
count-set limit b (cell ∷ entries) (suc index) new le =
    let rest = count-set limit b entries index new le in
    rw (count-cons limit b cell entries, count-cons limit b cell (set entries index new)) (omega (arith, rest))

same_or_not : (a b : ℕ) → (a ≡ b) ⊎ (a ≢ b)
same_or_not a b = elim (cases_lt a b) [
  | inl less ↦ inr (λ e. absurd (omega arith))
  | inr not_less ↦ elim (cases_lt b a) [
    | inl more ↦ inr (λ e. absurd (omega arith))
    | inr not_more ↦ inl (omega arith)
  ]
]

-- a cell of the table takes a nearer way home
module _ (g : Network) (route : List ℕ) (entries : List (Option Reach)) (index : ℕ) (offer : Offer)
    (trip : IsTrip g route) (table : IsTable g route entries) (below : index < entry_count g route)
    (is_offer : IsOffer g route entries (place_of g index) offer) (nearer : rank offer.reach < rank_at g entries index) where
  abbrev better : List (Option Reach)
  better = set entries index (Some offer.reach)

  at_index : entry_at better index ≡ Some offer.reach
  at_index = get_or-set_same entries index (Some offer.reach) None (omega (arith, table.count))

  at_other : (i : ℕ) → i ≢ index → entry_at better i ≡ entry_at entries i
  at_other i ne = get_or-set_other entries index i (Some offer.reach) None ne

  rank_falls : (i : ℕ) → rank_at g better i ≤ rank_at g entries i
  rank_falls i = elim (same_or_not i index) [
    | inl same ↦ rw (same, at_index) (omega (arith, nearer))
    | inr other ↦ rw (at_other i other) (omega arith)
  ]

  over_falls : (from : Place) (step : Move) → rank_over g route better step from ≤ rank_over g route entries step from
  over_falls from step = let falls = rank_falls (index_of g (place_after g route step from)) in omega (arith, falls)

  still_supported : (from : Place) (bound : ℕ) → IsSupported g route entries from bound → IsSupported g route better from bound
  still_supported from bound is = record { step = is.step; can = is.can; enough = let falls = over_falls from is.step in omega (arith, falls, is.enough) }

  -- the cell that the offer's move leads to
  abbrev target : ℕ
  target = index_of g (place_after g route offer.step (place_of g index))

  target_holds : entry_at entries target ≡ Some is_offer.rest.0
  target_holds = ap (λ (p : Place). entry_at entries (index_of g p)) (sym is_offer.leads) ∙ is_offer.rest.1

  offer_over : rank_over g route entries offer.step (place_of g index) ≤ rank offer.reach
  offer_over = rw target_holds (omega (arith, is_offer.rest.2, is_offer.rest.3))

  offer_supported : IsSupported g route better (place_of g index) (rank offer.reach)
  offer_supported = record {
    step = offer.step;
    can = is_offer.can;
    enough = let falls = over_falls (place_of g index) offer.step in omega (arith, falls, offer_over);
  }

  offer_few : offer.reach.steps ≤ nearer_count (scaled_limit g) (rank offer.reach) better
  offer_few =
      let limit = scaled_limit g in
      let r = is_offer.rest.0 in
      let steps = table.few target r target_holds in
      let past : nearer_count limit (rank r) entries + 1 ≤ nearer_count limit (rank r + 1) entries =
      rw target_holds at (count-past limit entries target (held-within entries target r target_holds)) in
      let later = count-later limit (rank r + 1) (rank offer.reach) entries (omega (arith, is_offer.rest.2, is_offer.rest.3)) in
      let kept = count-set limit (rank offer.reach) entries index (Some offer.reach) (omega (arith, nearer)) in
      omega (arith, is_offer.rest.3, steps, past, later, kept)

  others_few : (r : Reach) (i : ℕ) → entry_at entries i ≡ Some r → r.steps ≤ nearer_count (scaled_limit g) (rank r) better
  others_few r i is =
      let steps = table.few i r is in
      let kept = count-set (scaled_limit g) (rank r) entries index (Some offer.reach) (omega (arith, nearer)) in
      omega (arith, steps, kept)

  same_reach : (r : Reach) → entry_at better index ≡ Some r → offer.reach ≡ r
  same_reach r is = let both : Some offer.reach ≡ Some r = sym at_index ∙ is in cc

  -- it is still a table
  pub better-table : IsTable g route better
  better-table = record {
    trip = trip;
    count = length-set entries index (Some offer.reach) ∙ table.count;
    home = λ i from within.
        at_other i (λ same. absurd (omega (arith, same)))
        ∙ table.home i from (let same : length better ≡ length entries = length-set entries index (Some offer.reach) in omega (arith, within, same));
    in_time = λ i r is. elim (same_or_not i index) [
      | inl same ↦ subst (λ (x : Reach). x.time ≤ scaled_limit g) (same_reach r (subst (λ (j : ℕ). entry_at better j ≡ Some r) same is)) is_offer.in_time
      | inr other ↦ table.in_time i r (sym (at_other i other) ∙ is)
    ];
    few = λ i r is. elim (same_or_not i index) [
      | inl same ↦ subst (λ (x : Reach). x.steps ≤ nearer_count (scaled_limit g) (rank x) better)
          (same_reach r (subst (λ (j : ℕ). entry_at better j ≡ Some r) same is)) offer_few
      | inr other ↦ others_few r i (sym (at_other i other) ∙ is)
    ];
    supported = λ i r less is. elim (same_or_not i index) [
      | inl same ↦
          let reach_is = same_reach r (subst (λ (j : ℕ). entry_at better j ≡ Some r) same is) in
          subst (λ (j : ℕ). IsSupported g route better (place_of g j) (rank r)) (sym same)
          (subst (λ (x : Reach). IsSupported g route better (place_of g index) (rank x)) reach_is offer_supported)
      | inr other ↦ still_supported (place_of g i) (rank r) (table.supported i r less (sym (at_other i other) ∙ is))
    ];
  }

  -- and ranks less in all
  pub better-total : total_rank (scaled_limit g) better < total_rank (scaled_limit g) entries
  better-total =
      let sums = sum_by-set (rank_of (scaled_limit g)) entries index (Some offer.reach) None (omega (arith, table.count)) in
      omega (arith, sums, nearer)

nothing_held : (entries : List (Option Reach)) (index : ℕ) (r : Reach) → entry_at entries index ≡ None → entry_at entries index ≡ Some r → ⊥
nothing_held entries index r none is = cc

home_held : (entries : List (Option Reach)) (index : ℕ) (r home : Reach) → entry_at entries index ≡ Some home → entry_at entries index ≡ Some r → home ≡ r
home_held entries index r home at_home is = let both : Some home ≡ Some r = sym at_home ∙ is in cc

-- a table that knows home alone
pub home-table : (g : Network) (route : List ℕ) (entries : List (Option Reach)) → IsTrip g route → length entries ≡ entry_count g route + (g.capacity + 1) * 2 →
    ((i : ℕ) → i < entry_count g route → entry_at entries i ≡ None) →
    ((i : ℕ) → entry_count g route ≤ i → i < length entries → entry_at entries i ≡ Some (record { time = 0; steps = 0 })) → IsTable g route entries
home-table g route entries trip count before home =
    let is_home : (i : ℕ) (r : Reach) → entry_at entries i ≡ Some r → ◌≡◌ {A = Reach} (record { time = 0; steps = 0 }) r =
    λ i r is. elim (cases_lt i (entry_count g route)) [
      | inl less ↦ absurd (nothing_held entries i r (before i less) is)
      | inr not_less ↦ home_held entries i r (record { time = 0; steps = 0 }) (home i (omega (arith, not_less)) (held-within entries i r is)) is
    ] in
    record {
      trip = trip;
      count = count;
      home = home;
      in_time = λ i r is. subst (λ (x : Reach). x.time ≤ scaled_limit g) (is_home i r is) (omega arith);
      few = λ i r is. subst (λ (x : Reach). x.steps ≤ nearer_count (scaled_limit g) (rank x) entries) (is_home i r is) (omega arith);
      supported = λ i r less is. absurd (nothing_held entries i r (before i less) is);
    }

-- a nearer way home is taken where there is one, and where there is none the cell is closed
pub closed-none : (g : Network) (route : List ℕ) (entries : List (Option Reach)) (index : ℕ) → IsTrip g route → IsTable g route entries →
    ((step : Move) → IsNoFarther g route entries (place_of g index) step ((scaled_limit g + 1) * 2 ^ 32)) → IsClosedAt g route entries index
closed-none g route entries index trip table least = λ step can.
    let top = rank-top g route entries index (entry_at entries index) trip table refl in
    omega (arith, least step can, top)

pub closed-farther : (g : Network) (route : List ℕ) (entries : List (Option Reach)) (index : ℕ) (reach : Reach) →
    MatchOption (entry_at entries index) (IsTrue false) (λ other. IsTrue false ↔ (rank reach < rank other)) →
    ((step : Move) → IsNoFarther g route entries (place_of g index) step (rank reach)) → IsClosedAt g route entries index
closed-farther g route entries index reach compared least = λ step can.
    let le = farther-rank (scaled_limit g) reach (entry_at entries index) compared in
    omega (arith, least step can, le)
