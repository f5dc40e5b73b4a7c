-- Routes that no move makes cheaper have settled orders.
use Rattle.std.proofs.Common.{◌≡◌, ◌∙◌, ℕ, zero, suc, ◌+◌, ◌<◌, ◌≤◌, List, [], ◌∷◌, ◌++◌, length, get_or, set, refl, sym, ap, subst, arith, sum}
use Rattle.std.specs.Prelude.{remove, slice_index}
use Rattle.std.specs.List.{All}
use Rattle.std.proofs.lemmas.List.{get_or_append_left, length-append, length-map, length-set, map-append, set-append_left}
use Rattle.std.proofs.lemmas.List.Sums.{sum_by-append, sum_by-cons}
use Rattle.ev_model.specs.Network.{Network}
use Rattle.index_links.specs.Lists.{list_at}
use Rattle.route_improve.specs.Moves.{IsExchange, IsRelocation, IsSettled, exchanged, put_over, relocated, taken_out, with_customers}
use Rattle.route_improve.specs.Orders.{AreLeastTimes, HaveCost}
use Rattle.route_improve.specs.Routes.{AreRoutes, AreSettledTo, cost_of_routes, count_at, lists_of}
use Rattle.route_improve.specs.declared.route.Route.{Route}
use Rattle.route_improve.proofs.Prices.{TakesLeast, priced}

-- ---- lists without customers cost nothing

all_times : (g : Network) (lists : List (List ℕ)) (times : List ℕ) → AreLeastTimes g (with_customers lists) times → (every : List ℕ) × AreLeastTimes g lists every × (sum every ≡ sum times)
all_times g [] times are = (times, are, refl)
all_times g ([] ∷ lists) times are =
    let rest = all_times g lists times are in
    (0 ∷ rest.0, (refl, rest.1), omega (arith, rest.2))
all_times g ((x ∷ xs) ∷ lists) [] are = absurd are
all_times g ((x ∷ xs) ∷ lists) (t ∷ ts) are =
    let rest = all_times g lists ts are.1 in
    (t ∷ rest.0, (are.0, rest.1), omega (arith, rest.2, sum_by-cons (λ x. x) t rest.0, sum_by-cons (λ x. x) t ts))

with_empty : (g : Network) (lists : List (List ℕ)) (cost : ℕ) → HaveCost g (with_customers lists) cost → HaveCost g lists cost
with_empty g lists cost have =
    let all = all_times g lists have.times have.least in
    record { times = all.0; least = all.1; total = have.total ∙ sym all.2 }

padded_times : (g : Network) (lists : List (List ℕ)) (times : List ℕ) → AreLeastTimes g lists times → AreLeastTimes g (lists ++ [] ∷ []) (times ++ 0 ∷ []) × (sum (times ++ 0 ∷ []) ≡ sum times)
padded_times g [] [] are = ((refl, tt), refl)
padded_times g [] (t ∷ ts) are = absurd are
padded_times g (l ∷ lists) [] are = absurd are
padded_times g (l ∷ lists) (t ∷ ts) are =
    let rest = padded_times g lists ts are.1 in
    ((are.0, rest.0), omega (arith, rest.1, sum_by-cons (λ x. x) t (ts ++ 0 ∷ []), sum_by-cons (λ x. x) t ts))

padded : (g : Network) (lists : List (List ℕ)) (cost : ℕ) → HaveCost g lists cost → HaveCost g (lists ++ [] ∷ []) cost
padded g lists cost have =
    let more = padded_times g lists have.times have.least in
    record { times = have.times ++ 0 ∷ []; least = more.0; total = have.total ∙ sym more.1 }

-- ---- a list without customers behind the others changes no other list

at_padded : (lists : List (List ℕ)) (b : ℕ) → list_at (lists ++ [] ∷ []) b ≡ list_at lists b
at_padded [] zero = refl
at_padded [] (suc b) = refl
at_padded (l ∷ lists) zero = refl
at_padded (l ∷ lists) (suc b) = at_padded lists b

out_padded : (lists : List (List ℕ)) (a i : ℕ) → a < length lists → taken_out (lists ++ [] ∷ []) a i ≡ taken_out lists a i ++ [] ∷ []
out_padded lists a i within =
    ap (λ l. set (lists ++ [] ∷ []) a (remove l i)) (at_padded lists a) ∙ set-append_left lists ([] ∷ []) a (remove (list_at lists a) i) within

over_padded : (lists : List (List ℕ)) (a i x : ℕ) → a < length lists → put_over (lists ++ [] ∷ []) a i x ≡ put_over lists a i x ++ [] ∷ []
over_padded lists a i x within =
    ap (λ l. set (lists ++ [] ∷ []) a (set l i x)) (at_padded lists a) ∙ set-append_left lists ([] ∷ []) a (set (list_at lists a) i x) within

exchanged_padded : (lists : List (List ℕ)) (a i b j : ℕ) → a < length lists → b < length lists → exchanged (lists ++ [] ∷ []) a i b j ≡ exchanged lists a i b j ++ [] ∷ []
exchanged_padded lists a i b j one other =
    let x = slice_index (list_at lists a) i in
    let y = slice_index (list_at lists b) j in
    let there : b < length (put_over lists a i y) = rw length-set other in
    ap (λ l. put_over (put_over (lists ++ [] ∷ []) a i (slice_index l j)) b j (slice_index (list_at (lists ++ [] ∷ []) a) i)) (at_padded lists b)
    ∙ ap (λ l. put_over (put_over (lists ++ [] ∷ []) a i y) b j (slice_index l i)) (at_padded lists a)
    ∙ ap (λ l. put_over l b j x) (over_padded lists a i y one)
    ∙ over_padded (put_over lists a i y) b j x there

-- ---- routes and one without customers behind them

module _ (g : Network) (front : List Route) (empty : Route) (none : empty.order.items ≡ []) (no_time : empty.time ≡ 0) where
  abbrev all : List Route
  all = front ++ empty ∷ []

  lists_all : lists_of all ≡ lists_of front ++ [] ∷ []
  lists_all = map-append (λ (r : Route). r.order.items) front (empty ∷ []) ∙ ap (λ l. lists_of front ++ l ∷ []) none

  pub cost_all : cost_of_routes all ≡ cost_of_routes front
  cost_all =
      let parts = sum_by-append (λ (r : Route). r.time) front (empty ∷ []) in
      let last = sum_by-cons (λ (r : Route). r.time) empty [] in
      omega (arith, parts, last, no_time)

  pub least_front : AreRoutes g all → All (TakesLeast g) front
  least_front are = λ k d within.
      let long : k < length all = omega (arith, length-append front (empty ∷ [])) in
      let at : TakesLeast g (get_or all k d) = are.least k d long in
      subst (TakesLeast g) (get_or_append_left front (empty ∷ []) d k within) at

  cost_front : (cost : ℕ) → AreRoutes g all → HaveCost g (lists_of front) cost → cost ≡ cost_of_routes all
  cost_front cost are have = have.total ∙ priced g front have.times (least_front are) have.least ∙ sym cost_all

  list_all : (a : ℕ) → list_at (lists_of all) a ≡ list_at (lists_of front) a
  list_all a = ap (λ l. list_at l a) lists_all ∙ at_padded (lists_of front) a

  count_front : length (lists_of front) + 1 ≡ length all
  count_front = let count : length (lists_of front) ≡ length front = length-map front (λ (r : Route). r.order.items) in omega (arith, count, length-append front (empty ∷ []))

  relocation_kept : (moved : List (List ℕ)) (other : ℕ) → AreSettledTo g all (length all) → IsRelocation (lists_of front) moved → HaveCost g moved other → cost_of_routes all ≤ other
  relocation_kept moved other each move gives =
      let place : move.i < count_at all move.a = rw (list_all move.a) move.from.place in
      let count = count_front in
      let list = move.from.list in
      let to = move.to in
      let at = each move.a (omega arith) move.b (omega arith) move.i place move.j in
      let room : move.j ≤ length (list_at (taken_out (lists_of all) move.a move.i) move.b) =
      subst (λ l. move.j ≤ length (list_at (taken_out l move.a move.i) move.b)) (sym lists_all)
      (subst (λ l. move.j ≤ length (list_at l move.b)) (sym (out_padded (lists_of front) move.a move.i list))
      (subst (λ l. move.j ≤ length l) (sym (at_padded (taken_out (lists_of front) move.a move.i) move.b)) move.place)) in
      let lists : List (List ℕ) = relocated (lists_of front ++ [] ∷ []) move.a move.i move.b move.j in
      let customer : relocated (lists_of front ++ [] ∷ []) move.a move.i move.b move.j ≡ relocated (lists_of all) move.a move.i move.b move.j = ap (λ l. relocated l move.a move.i move.b move.j) (sym lists_all) in
      let have = with_empty g (relocated (lists_of front ++ [] ∷ []) move.a move.i move.b move.j) other (subst (λ l. HaveCost g l other) move.is gives) in
      at.relocation room other (subst (λ l. HaveCost g l other) customer have)

  exchange_kept : (moved : List (List ℕ)) (other : ℕ) → AreSettledTo g all (length all) → IsExchange (lists_of front) moved → HaveCost g moved other → cost_of_routes all ≤ other
  exchange_kept moved other each move gives =
      let place : move.i < count_at all move.a = rw (list_all move.a) move.one.place in
      let there : move.j < length (list_at (lists_of all) move.b) = rw (list_all move.b) move.other.place in
      let count = count_front in
      let one = move.one.list in
      let next = move.other.list in
      let at = each move.a (omega arith) move.b (omega arith) move.i place move.j in
      let lists : exchanged (lists_of front) move.a move.i move.b move.j ++ [] ∷ [] ≡ exchanged (lists_of all) move.a move.i move.b move.j =
      sym (exchanged_padded (lists_of front) move.a move.i move.b move.j one next) ∙ ap (λ l. exchanged l move.a move.i move.b move.j) (sym lists_all) in
      let have = padded g (exchanged (lists_of front) move.a move.i move.b move.j) other (subst (λ l. HaveCost g l other) move.is gives) in
      at.exchange there other (subst (λ l. HaveCost g l other) lists have)

  pub settled : AreRoutes g all → AreSettledTo g all (length all) → IsSettled g (lists_of front)
  settled are each = record {
    relocations = λ moved cost other move have gives. subst (λ c. c ≤ other) (sym (cost_front cost are have)) (relocation_kept moved other each move gives);
    exchanges = λ moved cost other move have gives. subst (λ c. c ≤ other) (sym (cost_front cost are have)) (exchange_kept moved other each move gives);
  }
