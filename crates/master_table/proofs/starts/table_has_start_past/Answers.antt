use Rattle.std.proofs.Common.{◌≡◌, ◌+◌, ◌<◌, ◌≤◌, suc, arith, rules, refl, sym, subst, length, get_or, ◌∷◌, None, Some}
use Rattle.std.proofs.lemmas.Grind.{elements}
use Rattle.std.proofs.lemmas.Bool.{both_ways}
use Rattle.master_table.specs.Tableau.{IsBasisPast, size}
use Rattle.master_table.specs.Leaving.{IsLastToGo, brought}
use Rattle.master_table.proofs.StartSteps.{IsGoing, going_end, going_on, going_past, going_stops}
use Rattle.master_table.proofs.starts.table_has_start_past.Goals as goal

pub returns-then-is_past-clause-past : goal.returns-then-is_past-clause-past
returns-then-is_past-clause-past c e =
    let inside : c.loop-col.col-index < length c.args.entries.now = search (rules, arith) in
    let past : IsBasisPast c.loop-col.t = c.is_past.ensures.0 c.if-is_past.true in
    going_past c.args.t.now c.loop-col.t c.args.entries.now c.loop-col.col-index c.loop-col.taken c.loop-col.invariant (omega arith) past

pub returns-in_default-clause-within : goal.returns-in_default-clause-within
returns-in_default-clause-within c e p =
    let col = get_or c.args.entries.now c.loop-col.col-index 0 in
    let inside : c.loop-col.col-index < length c.args.entries.now = search (rules, arith) in
    let small : col < length c.loop-col.t.columns = subst (λ xs. col < length xs) (sym c.loop-col.invariant.columns) (c.requires.entries c.loop-col.col-index 0 inside) in
    let is : c.leaving_row.result ≡ None = search rules in
    let stuck : IsLastToGo c.loop-col.t c.loop-col.taken col (size c.loop-col.t) None = subst (λ o. IsLastToGo c.loop-col.t c.loop-col.taken col (size c.loop-col.t) o) is c.leaving_row.ensures.last in
    going_stops c.args.t.now c.loop-col.t c.args.entries.now c.loop-col.col-index c.loop-col.taken c.loop-col.invariant col inside refl small
    (λ q. both_ways c.is_past.result c.if-is_past.false (c.is_past.ensures.1 q)) stuck p

pub with-taken-requires : goal.with-taken-requires
with-taken-requires c = search rules

pub returns-in-Err-Wide-clause-past : goal.returns-in-Err-Wide-clause-past
returns-in-Err-Wide-clause-past c e =
    let col = get_or c.args.entries.now c.loop-col.col-index 0 in
    let inside : c.loop-col.col-index < length c.args.entries.now = search (rules, arith) in
    let small : col < length c.loop-col.t.columns = subst (λ xs. col < length xs) (sym c.loop-col.invariant.columns) (c.requires.entries c.loop-col.col-index 0 inside) in
    let last : IsLastToGo c.loop-col.t c.loop-col.taken col (size c.loop-col.t) (Some c.in-Some.row) = subst (λ o. IsLastToGo c.loop-col.t c.loop-col.taken col (size c.loop-col.t) o) c.in-Some.is c.leaving_row.ensures.last in
    let past : IsBasisPast (brought c.in-Some.row col c.loop-col.t) = search rules in
    let next = going_on c.args.t.now c.loop-col.t c.args.entries.now c.loop-col.col-index c.loop-col.taken c.loop-col.invariant col inside refl small c.in-Some.row (c.in-Some.row ∷ c.loop-col.taken)
    (λ q. both_ways c.is_past.result c.if-is_past.false (c.is_past.ensures.1 q)) last (λ x. refl) in
    going_past c.args.t.now (brought c.in-Some.row col c.loop-col.t) c.args.entries.now (suc c.loop-col.col-index) (c.in-Some.row ∷ c.loop-col.taken) next inside past

pub loop-col-preserved : goal.loop-col-preserved
loop-col-preserved c =
    let col = get_or c.args.entries.now c.loop-col.col-index 0 in
    let inside : c.loop-col.col-index < length c.args.entries.now = search (rules, arith) in
    let small : col < length c.loop-col.t.columns = subst (λ xs. col < length xs) (sym c.loop-col.invariant.columns) (c.requires.entries c.loop-col.col-index 0 inside) in
    let last : IsLastToGo c.loop-col.t c.loop-col.taken col (size c.loop-col.t) (Some c.in-Some.row) = subst (λ o. IsLastToGo c.loop-col.t c.loop-col.taken col (size c.loop-col.t) o) c.in-Some.is c.leaving_row.ensures.last in
    let is : c.bring_in.new.t ≡ brought c.in-Some.row col c.loop-col.t = search rules in
    let one : suc c.loop-col.col-index ≡ c.loop-col.col-index + 1 = omega arith in
    let next = going_on c.args.t.now c.loop-col.t c.args.entries.now c.loop-col.col-index c.loop-col.taken c.loop-col.invariant col inside refl small c.in-Some.row c.with-taken.result
    (λ q. both_ways c.is_past.result c.if-is_past.false (c.is_past.ensures.1 q)) last c.with-taken.ensures.members in
    subst (λ t. IsGoing c.args.t.now t c.args.entries.now (c.loop-col.col-index + 1) c.with-taken.result) (sym is)
    (subst (λ k. IsGoing c.args.t.now (brought c.in-Some.row col c.loop-col.t) c.args.entries.now k c.with-taken.result) one next)

pub returns-clause-past : goal.returns-clause-past
returns-clause-past c e =
    let inside : c.loop-col.col-index ≤ length c.args.entries.now = search (rules, arith) in
    going_past c.args.t.now c.loop-col.t c.args.entries.now c.loop-col.col-index c.loop-col.taken c.loop-col.invariant inside (c.is_past-2.ensures.0 e)

pub returns-clause-within : goal.returns-clause-within
returns-clause-within c e p =
    let end : length c.args.entries.now ≤ c.loop-col.col-index = search (rules, arith) in
    going_end c.args.t.now c.loop-col.t c.args.entries.now c.loop-col.col-index c.loop-col.taken c.loop-col.invariant end (λ q. both_ways c.is_past-2.result e (c.is_past-2.ensures.1 q)) p

pub bring_in-requires-clause-col : goal.bring_in-requires-clause-col
bring_in-requires-clause-col = grind (arith, elements)
