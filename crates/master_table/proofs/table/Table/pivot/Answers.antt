use Rattle.std.proofs.Common.{◌≡◌, ◌∙◌, arith, sym, refl, length, rules, IsErrOf}
use Rattle.std.proofs.lemmas.Grind.{common_steps}
use Rattle.master_table.specs.declared.caps.TableFault.TheVariants.{Wide}
use Rattle.master_table.proofs.TableFacts.{all_small, all_some, first_same, index_small, new_table, pivot_rows, pivot_same, pivot_solutions, pivot_tableau, turned_length, turned_small}
use Rattle.master_table.specs.Pivoting.{pivoted}
use Rattle.master_table.proofs.PastCaps.{is_past}
use Rattle.master_table.proofs.table.Table.pivot.Goals as goal

pub turn_row-requires-clause-small : goal.turn_row-requires-clause-small
turn_row-requires-clause-small c = index_small c.self.inside c.args.self.now c.self.view_is c.self.invariant c.args.row c.args.col c.requires.row c.requires.col c.requires.entry c.index.result.now c.index.ensures

pub returns-in_err-turn-clause-tableau : goal.returns-in_err-turn-clause-tableau
returns-in_err-turn-clause-tableau c = pivot_tableau c.self.inside c.args.self.now c.self.view_is c.self.invariant c.args.row c.args.col c.requires.row c.requires.col c.requires.entry

pub rows_after-requires-clause-same : goal.rows_after-requires-clause-same
rows_after-requires-clause-same c =
    let n : c.len-n.result ≡ length c.self.inside.basis.items = omega arith in
    turned_length c.self.inside c.args.self.now c.self.view_is c.self.invariant c.args.row c.args.col c.requires.row c.requires.col c.requires.entry c.index.result.now c.index.ensures c.in_ok-turn.turn c.in_ok-turn.ensures c.as_slice.result.now c.as_slice.ensures.value c.len-n.result n

pub rows_after-requires-clause-rows : goal.rows_after-requires-clause-rows
rows_after-requires-clause-rows c =
    let n : c.len-n.result ≡ length c.self.inside.basis.items = omega arith in
    all_small c.self.inside c.args.self.now c.self.view_is c.self.invariant c.args.row c.args.col c.requires.row c.requires.col c.requires.entry c.index.result.now c.index.ensures c.in_ok-turn.turn c.in_ok-turn.ensures c.as_slice.result.now c.as_slice.ensures.value c.len-n.result n

pub rows_after-requires-clause-turned : goal.rows_after-requires-clause-turned
rows_after-requires-clause-turned c =
    let n : c.len-n.result ≡ length c.self.inside.basis.items = omega arith in
    turned_small c.self.inside c.args.self.now c.self.view_is c.self.invariant c.args.row c.args.col c.requires.row c.requires.col c.requires.entry c.index.result.now c.index.ensures c.in_ok-turn.turn c.in_ok-turn.ensures c.as_slice.result.now c.as_slice.ensures.value c.len-n.result n

pub rows_after-requires-clause-some : goal.rows_after-requires-clause-some
rows_after-requires-clause-some c i d lt apart more =
    let n : c.len-n.result ≡ length c.self.inside.basis.items = omega arith in
    all_some c.self.inside c.args.self.now c.self.view_is c.self.invariant c.args.row c.args.col c.requires.row c.requires.col c.requires.entry c.index.result.now c.index.ensures c.in_ok-turn.turn c.in_ok-turn.ensures c.as_slice.result.now c.as_slice.ensures.value c.len-n.result n i d lt apart

pub returns-in_err-rows-clause-wide : goal.returns-in_err-rows-clause-wide
returns-in_err-rows-clause-wide c p q e =
    let n : c.len-n.result ≡ length c.self.inside.basis.items = omega arith in
    let found : IsErrOf c.rows_after.result (Wide p q) = search (rules, e) in
    sym (first_same c.self.inside c.args.self.now c.self.view_is c.self.invariant c.args.row c.args.col c.requires.row c.requires.col c.requires.entry c.index.result.now c.index.ensures c.in_ok-turn.turn c.in_ok-turn.ensures c.as_slice.result.now c.as_slice.ensures.value c.len-n.result n)
    ∙ c.rows_after.ensures.wide p q found

pub returns-in_err-rows-clause-past : goal.returns-in_err-rows-clause-past
returns-in_err-rows-clause-past c p q e =
    let n : c.len-n.result ≡ length c.self.inside.basis.items = omega arith in
    let found : IsErrOf c.rows_after.result (Wide p q) = search (rules, e) in
    let table = pivot_tableau c.self.inside c.args.self.now c.self.view_is c.self.invariant c.args.row c.args.col c.requires.row c.requires.col c.requires.entry in
    is_past (pivoted c.args.row c.args.col c.args.self.now) table (p, q)
    (sym (first_same c.self.inside c.args.self.now c.self.view_is c.self.invariant c.args.row c.args.col c.requires.row c.requires.col c.requires.entry c.index.result.now c.index.ensures c.in_ok-turn.turn c.in_ok-turn.ensures c.as_slice.result.now c.as_slice.ensures.value c.len-n.result n)
    ∙ c.rows_after.ensures.wide p q found)

pub returns-in_err-rows-clause-tableau : goal.returns-in_err-rows-clause-tableau
returns-in_err-rows-clause-tableau c = pivot_tableau c.self.inside c.args.self.now c.self.view_is c.self.invariant c.args.row c.args.col c.requires.row c.requires.col c.requires.entry

pub invariant_of-self : goal.invariant_of-self
invariant_of-self c =
    let n : c.len-n.result ≡ length c.self.inside.basis.items = omega arith in
    let same = pivot_same c.self.inside c.args.self.now c.self.view_is c.self.invariant c.args.row c.args.col c.requires.row c.requires.col c.requires.entry c.index.result.now c.index.ensures c.in_ok-turn.turn c.in_ok-turn.ensures c.as_slice.result.now c.as_slice.ensures.value c.len-n.result n in
    let first = first_same c.self.inside c.args.self.now c.self.view_is c.self.invariant c.args.row c.args.col c.requires.row c.requires.col c.requires.entry c.index.result.now c.index.ensures c.in_ok-turn.turn c.in_ok-turn.ensures c.as_slice.result.now c.as_slice.ensures.value c.len-n.result n in
    new_table c.self.inside c.args.self.now c.self.view_is c.self.invariant c.args.row c.args.col c.requires.row c.requires.col c.requires.entry c.in_ok-rows.rows _ (c.in_ok-rows.ensures.rows ∙ same) refl (sym first ∙ c.in_ok-rows.ensures.within)

pub returns-clause-tableau : goal.returns-clause-tableau
returns-clause-tableau c = pivot_tableau c.self.inside c.args.self.now c.self.view_is c.self.invariant c.args.row c.args.col c.requires.row c.requires.col c.requires.entry

pub returns-in_err-turn-clause-rows : goal.returns-in_err-turn-clause-rows
returns-in_err-turn-clause-rows c = pivot_rows c.self.inside c.args.self.now c.self.view_is c.self.invariant c.args.row c.args.col c.requires.row c.requires.col c.requires.entry

pub returns-in_err-turn-clause-solutions : goal.returns-in_err-turn-clause-solutions
returns-in_err-turn-clause-solutions c = pivot_solutions c.self.inside c.args.self.now c.self.view_is c.self.invariant c.args.row c.args.col c.requires.row c.requires.col c.requires.entry

pub returns-in_err-rows-clause-rows : goal.returns-in_err-rows-clause-rows
returns-in_err-rows-clause-rows c = pivot_rows c.self.inside c.args.self.now c.self.view_is c.self.invariant c.args.row c.args.col c.requires.row c.requires.col c.requires.entry

pub returns-in_err-rows-clause-solutions : goal.returns-in_err-rows-clause-solutions
returns-in_err-rows-clause-solutions c = pivot_solutions c.self.inside c.args.self.now c.self.view_is c.self.invariant c.args.row c.args.col c.requires.row c.requires.col c.requires.entry

pub returns-clause-rows : goal.returns-clause-rows
returns-clause-rows c = pivot_rows c.self.inside c.args.self.now c.self.view_is c.self.invariant c.args.row c.args.col c.requires.row c.requires.col c.requires.entry

pub returns-clause-solutions : goal.returns-clause-solutions
returns-clause-solutions c = pivot_solutions c.self.inside c.args.self.now c.self.view_is c.self.invariant c.args.row c.args.col c.requires.row c.requires.col c.requires.entry

pub rows_after-requires-clause-col : goal.rows_after-requires-clause-col
rows_after-requires-clause-col = grind (arith, common_steps)

pub returns-clause-ok : goal.returns-clause-ok
returns-clause-ok = grind (arith, common_steps)

pub rows_after-requires-clause-helpers : goal.rows_after-requires-clause-helpers
rows_after-requires-clause-helpers = grind (arith, common_steps)

pub returns-clause-past : goal.returns-clause-past
returns-clause-past = grind (arith, common_steps)

pub turn_row-requires-clause-col : goal.turn_row-requires-clause-col
turn_row-requires-clause-col = grind (arith, common_steps)

pub index_mut-requires : goal.index_mut-requires
index_mut-requires = grind (arith, common_steps)

pub index-requires : goal.index-requires
index-requires = grind (arith, common_steps)

pub returns-in_err-turn-clause-past : goal.returns-in_err-turn-clause-past
returns-in_err-turn-clause-past = grind (arith, common_steps)

pub returns-clause-within : goal.returns-clause-within
returns-clause-within = grind (arith, common_steps)
