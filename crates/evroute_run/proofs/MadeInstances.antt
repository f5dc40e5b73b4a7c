-- The answers of `make` on the instance that was made.
use Rattle.std.proofs.Common.{◌≡◌, ◌≢◌, ◌∙◌, ℕ, zero, suc, ◌+◌, ◌<◌, ◌≤◌, List, [], ◌∷◌, ◌++◌, Option, None, Some, MatchOption, Result, Ok, Err, IfOk, ap, arith, refl, subst, sym}
use Rattle.std.proofs.lemmas.List.Elements.{All-cons, All-nil}
use Rattle.std.specs.List.{All, range_with_len}
use Rattle.command_line.specs.Words.{MakeJob}
use Rattle.ev_model.specs.Fastest.{HasNoPlan, IsFastest}
use Rattle.ev_model.specs.Network.{Network, node_count}
use Rattle.ev_model.specs.Route.{IsRoute, Moves}
use Rattle.ev_model.specs.Time.{time_of}
use Rattle.evroute_run.proofs.Task.{match_none, match_some}
use Rattle.evroute_run.specs.MakeAnswer.{HasNoInstance, IsMakeRefused, MakeAnswers, MakesNetwork, made_file, route_of_all}
use Rattle.job_frame.specs.declared.found.Answer.{Answer}
use Rattle.job_frame.specs.Writes.{Written}
use Rattle.job_frame.specs.declared.status.Status.{Status}
use Rattle.job_frame.specs.declared.status.Status.TheVariants as status
use Rattle.plan_writer.specs.MakeText.{make_text}
use Rattle.refusal_lines.specs.declared.refusal.Refusal.{Refusal}
use Rattle.refusal_lines.specs.declared.refusal.Refusal.TheVariants as refusal
use Rattle.route_plan.specs.declared.plan.RoutePlan.{RoutePlan}
use Rattle.evroute_causes.specs.declared.cause.Cause.{Cause}

-- ---- the route over all customers

range_more : (low count : ℕ) → range_with_len low count ++ (low + count) ∷ [] ≡ range_with_len low (count + 1)
range_more low zero = ap (λ n. n ∷ []) (omega arith)
range_more low (suc count) =
    let same : low + suc count ≡ low + 1 + count = omega arith in
    let more : suc count + 1 ≡ suc (count + 1) = omega arith in
    rw (same, more) (ap (λ (ns : List ℕ). low ∷ ns) (range_more (low + 1) count))

-- one more customer was pushed
pub one_more : (customer : ℕ) (before after : List ℕ) → after ≡ before ++ (customer + 1) ∷ [] → before ≡ 0 ∷ range_with_len 1 customer → after ≡ 0 ∷ range_with_len 1 (customer + 1)
one_more customer before after pushed so_far =
    let same : customer + 1 ≡ 1 + customer = omega arith in
    pushed ∙ ap (λ (ns : List ℕ). ns ++ (customer + 1) ∷ []) so_far
    ∙ ap (λ (n : ℕ). 0 ∷ range_with_len 1 customer ++ n ∷ []) same ∙ ap (λ (ns : List ℕ). 0 ∷ ns) (range_more 1 customer)

numbers_within : (most low count : ℕ) → 1 ≤ low → low + count ≤ most → All (λ node. node < most) (range_with_len low count ++ 0 ∷ [])
numbers_within most low zero some within = All-cons (λ node. node < most) 0 [] (omega (arith, some, within)) (All-nil (λ node. node < most))
numbers_within most low (suc count) some within =
    All-cons (λ node. node < most) low (range_with_len (low + 1) count ++ 0 ∷ []) (omega (arith, within)) (numbers_within most (low + 1) count (omega arith) (omega (arith, within)))

no_depot_within : (low count : ℕ) → 1 ≤ low → All (λ node. node ≢ 0) (range_with_len low count)
no_depot_within low zero some = All-nil (λ node. node ≢ 0)
no_depot_within low (suc count) some =
    All-cons (λ node. node ≢ 0) low (range_with_len (low + 1) count) (λ is. absurd (omega (arith, some, is))) (no_depot_within (low + 1) count (omega arith))

moves_home : (from low count : ℕ) → from < low → 1 ≤ from → Moves (from ∷ range_with_len low count ++ 0 ∷ [])
moves_home from low zero below some = (λ is. absurd (omega (arith, some, is)), tt)
moves_home from low (suc count) below some = (λ is. absurd (omega (arith, below, is)), moves_home low (low + 1) count (omega arith) (omega (arith, below)))

moves_all : (customers : ℕ) → 1 ≤ customers → Moves (route_of_all customers)
moves_all zero some = absurd (omega arith)
moves_all (suc customers) some = (λ is. absurd (omega (arith, is)), moves_home 1 2 customers (omega arith) (omega arith))

pub is_route_of_all : (g : Network) (customers : ℕ) (route : List ℕ) → 1 ≤ customers → customers < node_count g → route ≡ route_of_all customers → IsRoute g route
is_route_of_all g customers route some within is =
    subst (λ (r : List ℕ). IsRoute g r) (sym is) (
      range_with_len 1 customers,
      record {
        ends = refl;
        known = All-cons (λ node. node < node_count g) 0 (range_with_len 1 customers ++ 0 ∷ []) (omega (arith, within)) (numbers_within (node_count g) 1 customers (omega arith) (omega (arith, within)));
        no_depot = no_depot_within 1 customers (omega arith);
        moves = moves_all customers some;
      },
    )

-- ---- the answers

-- the one rule of the numbers
pub refused_has_no_instance : (job : MakeJob) (r : Refusal) → IsMakeRefused job r → HasNoInstance job
refused_has_no_instance job refusal.Maker none = none
refused_has_no_instance job (refusal.Instance e) is = absurd is
refused_has_no_instance job (refusal.Limit given) is = absurd is
refused_has_no_instance job (refusal.Customers count) is = absurd is
refused_has_no_instance job (refusal.Charge level) is = absurd is
refused_has_no_instance job (refusal.Route e) is = absurd is
refused_has_no_instance job (refusal.Plan e) is = absurd is
refused_has_no_instance job (refusal.Certificate e) is = absurd is
refused_has_no_instance job (refusal.Literal e) is = absurd is

of_all : (job : MakeJob) (customers : ℕ) (route : List ℕ) → job.customers ≡ customers → route ≡ route_of_all customers → route ≡ route_of_all job.customers
of_all job customers route same is = is ∙ ap route_of_all (sym same)

pub puts_time : {E : Type 0} (job : MakeJob) (customers : ℕ) (g : Network) (route : List ℕ) (start : ℕ) (found : Option RoutePlan) (plan : RoutePlan)
    → job.customers ≡ customers → MakesNetwork job g → route ≡ route_of_all customers → start ≡ g.capacity → found ≡ Some plan
    → MatchOption found (HasNoPlan g route start) (λ p. IsFastest g route start p.stops)
    → (made : Result (Answer Cause) E) → IfOk made (λ a. a.status ≡ status.Done)
    → IfOk made (λ a. a.text.items ≡ make_text (node_count g) g.denominator (Some (time_of g 1 g.capacity plan.stops)))
    → IfOk made (λ a. (ws : List Written) → ws ≡ made_file job ∷ [] → MakeAnswers job a.status ws a.text.items)
puts_time {E} job customers g route start found plan same makes is full some answer (Err none) answered text = tt
puts_time {E} job customers g route start found plan same makes is full some answer (Ok a) answered text =
    let all = of_all job customers route same is in
    let fastest = match_some found plan (HasNoPlan g route start) (λ p. IsFastest g route start p.stops) some answer in
    λ ws written. subst (λ (s : Status). MakeAnswers job s ws a.text.items) (sym answered) (record {
      network = g;
      makes = makes;
      stops = plan.stops;
      fastest = subst (λ (n : ℕ). IsFastest g (route_of_all job.customers) n plan.stops) full (subst (λ (r : List ℕ). IsFastest g r start plan.stops) all fastest);
      written = written;
      text_is = text;
    })

pub puts_no_time : {E : Type 0} (job : MakeJob) (customers : ℕ) (g : Network) (route : List ℕ) (start : ℕ) (found : Option RoutePlan)
    → job.customers ≡ customers → MakesNetwork job g → route ≡ route_of_all customers → start ≡ g.capacity → found ≡ None
    → MatchOption found (HasNoPlan g route start) (λ p. IsFastest g route start p.stops)
    → (made : Result (Answer Cause) E) → IfOk made (λ a. a.status ≡ status.Negative)
    → IfOk made (λ a. a.text.items ≡ make_text (node_count g) g.denominator None)
    → IfOk made (λ a. (ws : List Written) → ws ≡ made_file job ∷ [] → MakeAnswers job a.status ws a.text.items)
puts_no_time {E} job customers g route start found same makes is full none answer (Err e) answered text = tt
puts_no_time {E} job customers g route start found same makes is full none answer (Ok a) answered text =
    let all = of_all job customers route same is in
    let no_plan = match_none found (HasNoPlan g route start) (λ p. IsFastest g route start p.stops) none answer in
    λ ws written. subst (λ (s : Status). MakeAnswers job s ws a.text.items) (sym answered) (record {
      network = g;
      makes = makes;
      none = subst (λ (n : ℕ). HasNoPlan g (route_of_all job.customers) n) full (subst (λ (r : List ℕ). HasNoPlan g r start) all no_plan);
      written = written;
      text_is = text;
    })
