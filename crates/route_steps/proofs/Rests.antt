-- Along the rest of a plan each vehicle is reached by a label, or a label waits that is no later.
use Rattle.std.proofs.Common.{◌≡◌, ℕ, suc, ◌+◌, ◌-◌, ◌<◌, ◌≤◌, ◌⊎◌, inl, inr, List, [], ◌∷◌, length, drop, drop-cons, get_or, refl, sym, ◌∙◌, ap, subst, arith, false}
use Rattle.std.proofs.lemmas.List.{length-drop}
use Rattle.std.specs.Prelude.{◌≢◌, Bool}
use Rattle.std.proofs.lemmas.Bool.{cases_Bool}
use Rattle.ev_model.specs.Network.{Network, scaled_limit}
use Rattle.ev_model.specs.Plan.{EndsAtDepot}
use Rattle.ev_model.specs.Levels.{leaving_level}
use Rattle.ev_model.specs.Route.{route_of}
use Rattle.ev_model.specs.Time.{stop_time, time_from}
use Rattle.ev_model.specs.declared.Stop.{Stop}
use Rattle.route_steps.specs.Ways.{IsRest, Leaving, MayStop, leaving_after, passed_after}

add_assoc : (a b c : ℕ) → (a + b) + c ≡ a + (b + c)
add_assoc a b c = omega arith

-- some stop was not inserted: the last
own_stops : (s : Stop) (ss : List Stop) → EndsAtDepot (s ∷ ss) → 1 ≤ length (route_of (s ∷ ss))
own_stops s [] ends =
    let own : s.via ≡ false = ap (λ (x : Stop). x.via) ends in
    rw own (omega arith)
own_stops s (t ∷ ss) ends = elim (cases_Bool s.via) [
  | inl via ↦ rw via (own_stops t ss ends)
  | inr own ↦ let rest = own_stops t ss ends in rw own (omega (arith, rest))
]

cons_not_nil : (s : Stop) (ss : List Stop) → (s ∷ ss) ≢ []
cons_not_nil s ss e = cc

-- the end of what may follow
ends_after : (s : Stop) (ss : List Stop) → EndsAtDepot (s ∷ ss) → ss ≢ [] → EndsAtDepot ss
ends_after s [] ends some = absurd (some refl)
ends_after s (t ∷ ss) ends some = ends

module _ (g : Network) (route : List ℕ) where
  -- what is left of the route after a stop
  follows_after : (passed : ℕ) (s : Stop) (ss : List Stop) → passed < length route → route_of (s ∷ ss) ≡ drop (passed + 1) route
      → (route_of ss ≡ drop (passed_after passed s + 1) route) × (s.via ≡ false → get_or route (passed + 1) 0 ≡ s.node) × (passed_after passed s < length route) × (passed_after passed s ≡ passed ⊎ (s.via ≡ false))
  follows_after passed s ss within follows = elim (cases_Bool s.via) [
    | inl via ↦ (let rest : route_of ss ≡ drop (passed + 1) route = rw via at follows in rw via (rest, λ f. absurd (cc), within, inl refl))
    | inr own ↦
        let all : s.node ∷ route_of ss ≡ drop (passed + 1) route = rw own at follows in
        let count : suc (length (route_of ss)) ≡ length route - (passed + 1) = ap length all ∙ length-drop (passed + 1) route in
        let inside : passed + 1 < length route = omega arith in
        let parts : drop (passed + 1) route ≡ get_or route (passed + 1) 0 ∷ drop (suc (passed + 1)) route = drop-cons route (passed + 1) 0 inside in
        let both : s.node ∷ route_of ss ≡ get_or route (passed + 1) 0 ∷ drop (suc (passed + 1)) route = all ∙ parts in
        let later : suc (passed + 1) ≡ passed + 1 + 1 = omega arith in
        let rest : route_of ss ≡ drop (suc (passed + 1)) route = cc in
        let head : get_or route (passed + 1) 0 ≡ s.node = cc in
        rw own (rest ∙ ap (λ n. drop n route) later, λ f. head, inside, inr refl)
  ]

  -- the stop at the end of the route is the last
  home_stop : (v : Leaving) (s : Stop) (ss : List Stop) → IsRest g route v (s ∷ ss) → EndsAtDepot (s ∷ ss) → route_of ss ≡ drop (passed_after v.passed s + 1) route → passed_after v.passed s ≡ length route - 1
      → (s.added ≡ 0) × (g.home_level ≤ leaving_level g 1 v.node v.level s)
  home_stop v s [] is ends follows last = (ap (λ (x : Stop). x.added) ends, is.home)
  home_stop v s (t ∷ ss) is ends follows last =
      let some = own_stops t ss ends in
      let count : length (route_of (t ∷ ss)) ≡ length route - (passed_after v.passed s + 1) = ap length follows ∙ length-drop (passed_after v.passed s + 1) route in
      absurd (omega arith)

  -- the first stop of a rest may be made, and what follows it is a rest
  pub rest_step : (v : Leaving) (s : Stop) (ss : List Stop) → IsRest g route v (s ∷ ss) → MayStop g route v s × IsRest g route (leaving_after g v s) ss
  rest_step v s ss is =
      let ends = is.ends (cons_not_nil s ss) in
      let after = follows_after v.passed s ss is.within is.follows in
      let some = own_stops s ss ends in
      let count : length (route_of (s ∷ ss)) ≡ length route - (v.passed + 1) = ap length is.follows ∙ length-drop (v.passed + 1) route in
      let total : v.time + (stop_time g 1 v.node v.level s + time_from g 1 s.node (leaving_level g 1 v.node v.level s) ss) ≤ scaled_limit g = is.in_time in (
        record {
          other = is.moves.0;
          stop = is.moves.1;
          on_way = omega arith;
          next = after.1;
          reserve = omega (arith, is.battery.0);
          within = omega (arith, is.battery.1);
          home = λ last. home_stop v s ss is ends after.0 last;
          in_time = omega arith;
        },
        record {
          moves = is.moves.2;
          ends = ends_after s ss ends;
          battery = is.battery.2;
          home = is.home;
          follows = after.0;
          within = after.2;
          in_time = omega arith;
        },
      )

  -- where each vehicle that a settled label reaches goes on to one that a label reaches, and a vehicle that a
  -- waiting label reaches bounds the time of each rest, the bound holds for each rest of a reached vehicle
  pub way_home : (Settled Waiting : Leaving → Type 0) (Bounds : ℕ → Type 0) → ((v : Leaving) (s : Stop) → Settled v → MayStop g route v s → Settled (leaving_after g v s) ⊎ Waiting (leaving_after g v s))
      → ((v : Leaving) (stops : List Stop) → Waiting v → IsRest g route v stops → Bounds (v.time + time_from g 1 v.node v.level stops)) → ((v : Leaving) → Settled v → v.passed < length route - 1)
      → (stops : List Stop) (v : Leaving) → Settled v ⊎ Waiting v → IsRest g route v stops → Bounds (v.time + time_from g 1 v.node v.level stops)
  way_home Settled Waiting Bounds closed low on_way [] v reached is = elim reached [
    | inl settled ↦
        let before : v.passed < length route - 1 = on_way v settled in
        let count : 0 ≡ length route - (v.passed + 1) = ap length is.follows ∙ length-drop (v.passed + 1) route in
        absurd (omega arith)
    | inr waiting ↦ low v [] waiting is
  ]
  way_home Settled Waiting Bounds closed low on_way (s ∷ ss) v reached is = elim reached [
    | inl settled ↦
        let step = rest_step v s ss is in
        let rest = way_home Settled Waiting Bounds closed low on_way ss (leaving_after g v s) (closed v s settled step.0) step.1 in
        subst Bounds (add_assoc v.time (stop_time g 1 v.node v.level s) (time_from g 1 s.node (leaving_level g 1 v.node v.level s) ss)) rest
    | inr waiting ↦ low v (s ∷ ss) waiting is
  ]

  -- the last stop of a rest is the end of the route
  is_end : (v : Leaving) (s : Stop) → get_or route (length route - 1) 0 ≡ 0 → MayStop g route v s → passed_after v.passed s ≡ length route - 1 → s ≡ record { node = 0; added = 0; via = false }
  is_end v s last may home = elim (cases_Bool s.via) [
    | inl via ↦ (let stays : v.passed ≡ length route - 1 = rw via at home in let before = may.on_way in absurd (omega arith))
    | inr own ↦
        let on : v.passed + 1 ≡ length route - 1 = rw own at home in
        let node : s.node ≡ 0 = sym (may.next own) ∙ ap (λ n. get_or route n 0) on ∙ last in
        let added : s.added ≡ 0 = (may.home home).0 in
        let made : ℕ → ℕ → Bool → Stop = λ n a b. record { node = n; added = a; via = b } in
        ap (λ n. made n s.added s.via) node ∙ ap (λ a. made 0 a s.via) added ∙ ap (λ b. made 0 0 b) own
  ]

  follows_before : (v : Leaving) (s : Stop) (ss : List Stop) → MayStop g route v s → route_of ss ≡ drop (passed_after v.passed s + 1) route → route_of (s ∷ ss) ≡ drop (v.passed + 1) route
  follows_before v s ss may follows = elim (cases_Bool s.via) [
    | inl via ↦ (let rest : route_of ss ≡ drop (v.passed + 1) route = rw via at follows in rw via rest)
    | inr own ↦
        let rest : route_of ss ≡ drop (v.passed + 1 + 1) route = rw own at follows in
        let inside : v.passed + 1 < length route = (let before = may.on_way in omega arith) in
        let parts : drop (v.passed + 1) route ≡ get_or route (v.passed + 1) 0 ∷ drop (suc (v.passed + 1)) route = drop-cons route (v.passed + 1) 0 inside in
        let later : v.passed + 1 + 1 ≡ suc (v.passed + 1) = omega arith in
        let head : s.node ≡ get_or route (v.passed + 1) 0 = sym (may.next own) in
        let tail : route_of ss ≡ drop (suc (v.passed + 1)) route = rest ∙ ap (λ n. drop n route) later in
        rw own (ap (λ n. n ∷ route_of ss) head ∙ ap (λ l. get_or route (v.passed + 1) 0 ∷ l) tail ∙ sym parts)
  ]

  ends_before : (v : Leaving) (s : Stop) (ss : List Stop) → get_or route (length route - 1) 0 ≡ 0 → MayStop g route v s → IsRest g route (leaving_after g v s) ss → EndsAtDepot (s ∷ ss)
  ends_before v s [] last may is =
      let count : 0 ≡ length route - (passed_after v.passed s + 1) = ap length is.follows ∙ length-drop (passed_after v.passed s + 1) route in
      let within : passed_after v.passed s < length route = is.within in
      is_end v s last may (omega arith)
  ends_before v s (t ∷ ss) last may is = is.ends (cons_not_nil t ss)

  -- a stop that may be made, before a rest
  pub rest_before : (v : Leaving) (s : Stop) (ss : List Stop) → get_or route (length route - 1) 0 ≡ 0 → MayStop g route v s → IsRest g route (leaving_after g v s) ss → IsRest g route v (s ∷ ss)
  rest_before v s ss last may is =
      let before = may.on_way in
      let after : v.time + stop_time g 1 v.node v.level s + time_from g 1 s.node (leaving_level g 1 v.node v.level s) ss ≤ scaled_limit g = is.in_time in
      record {
        moves = (may.other, may.stop, is.moves);
        ends = λ some. ends_before v s ss last may is;
        battery = (omega (arith, may.reserve), omega (arith, may.within), is.battery);
        home = is.home;
        follows = follows_before v s ss may is.follows;
        within = omega arith;
        in_time = omega arith;
      }
