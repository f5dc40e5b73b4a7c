use Rattle.std.proofs.Common.{None, [], ◌∷◌, ◌++◌, ◌≡◌, ◌∙◌, ◌<◌, ◌≤◌, arith, ap, subst, sym, length, get_or, map, rules, unsigned_abs, ℕ, ◌^◌}
use Rattle.std.proofs.lemmas.Grind.{common_steps}
use Rattle.fleet_model.specs.Equations.{route}
use Rattle.master_table.specs.Adding.{new_entries, past_row}
use Rattle.master_table.specs.RowView.{IsSmallRow, equation_of, limits_of}
use Rattle.master_table.specs.declared.rows.Row.{Row}
use Rattle.master_table.proofs.TableFacts.{column_tableau, few_weights, long_rows, rows_small, same_count, size_is, wider_table}
use Rattle.master_table.proofs.table.Table.add_column.Goals as goal

pub new_entries-requires-clause-helpers : goal.new_entries-requires-clause-helpers
new_entries-requires-clause-helpers c k d lt =
    let n : c.len-n.result ≡ length c.self.inside.basis.items = omega arith in
    let s = size_is c.self.inside c.args.self.now c.self.view_is c.self.invariant in
    let slice = c.as_slice.ensures.value in
    let inside : k < length c.self.inside.rows.items = subst (λ m. k < m) (ap length slice) lt in
    let long = long_rows c.self.inside c.args.self.now c.self.view_is c.self.invariant k d inside in
    let ok = (get_or c.as_slice.result.now k d).entries.ok in
    let there : length (get_or c.as_slice.result.now k d).entries.items ≡ length (get_or c.self.inside.rows.items k d).entries.items = ap (λ xs. length (get_or xs k d).entries.items) slice in
    omega arith

pub new_entries-requires-clause-rows : goal.new_entries-requires-clause-rows
new_entries-requires-clause-rows c = subst (λ xs. (k : ℕ) (d : Row) → k < length xs → IsSmallRow (2 ^ 84) (equation_of (get_or xs k d))) (sym c.as_slice.ensures.value) (rows_small c.self.inside c.args.self.now c.self.view_is c.self.invariant)

pub new_entries-requires-clause-weights : goal.new_entries-requires-clause-weights
new_entries-requires-clause-weights c i d lt le =
    let n : c.len-n.result ≡ length c.self.inside.basis.items = omega arith in
    let s = size_is c.self.inside c.args.self.now c.self.view_is c.self.invariant in
    let slice = c.as_slice.ensures.value in
    let inside : i < length c.self.inside.rows.items = subst (λ m. i < m) (ap length slice) lt in
    let small = few_weights c.self.inside c.args.self.now c.self.view_is c.self.invariant i d inside (omega arith) in
    subst (λ xs. unsigned_abs (get_or xs i d).weight ≤ 2 ^ 40) (sym slice) small

pub returns-in_err-entries-clause-tableau : goal.returns-in_err-entries-clause-tableau
returns-in_err-entries-clause-tableau c = column_tableau c.self.inside c.args.self.now c.self.view_is c.self.invariant c.args.set c.args.cost

pub returns-in-Some-clause-tableau : goal.returns-in-Some-clause-tableau
returns-in-Some-clause-tableau c = column_tableau c.self.inside c.args.self.now c.self.view_is c.self.invariant c.args.set c.args.cost

pub returns-in_err-make_room-clause-tableau : goal.returns-in_err-make_room-clause-tableau
returns-in_err-make_room-clause-tableau c = column_tableau c.self.inside c.args.self.now c.self.view_is c.self.invariant c.args.set c.args.cost

pub returns-in_err-reserve-clause-tableau : goal.returns-in_err-reserve-clause-tableau
returns-in_err-reserve-clause-tableau c = column_tableau c.self.inside c.args.self.now c.self.view_is c.self.invariant c.args.set c.args.cost

pub push_entries-requires-clause-same : goal.push_entries-requires-clause-same
push_entries-requires-clause-same c =
    let n : c.len-n.result ≡ length c.self.inside.basis.items = omega arith in
    let slice = c.as_slice.ensures.value in
    let entries : c.as_slice-3.result.now ≡ new_entries c.len-n.result (route c.args.set c.args.cost) 0 (map equation_of c.as_slice.result.now) = c.as_slice-3.ensures.value ∙ c.in_ok-entries.ensures in
    same_count c.self.inside c.args.self.now c.self.view_is c.self.invariant c.args.set c.args.cost c.as_slice.result.now slice c.len-n.result n c.as_slice-3.result.now entries c.make_room.new.rows.items c.make_room.ensures.same

pub invariant_of-self-2 : goal.invariant_of-self-2
invariant_of-self-2 c =
    let n : c.len-n.result ≡ length c.self.inside.basis.items = omega arith in
    let slice = c.as_slice.ensures.value in
    let entries : c.as_slice-3.result.now ≡ new_entries c.len-n.result (route c.args.set c.args.cost) 0 (map equation_of c.as_slice.result.now) = c.as_slice-3.ensures.value ∙ c.in_ok-entries.ensures in
    let no_place : c.past_row.result ≡ None = search rules in
    let none : past_row (limits_of c.self.inside.caps) c.len-n.result 0 c.as_slice-3.result.now ≡ None =
    ap (past_row (limits_of c.self.inside.caps) c.len-n.result 0) (c.as_slice-3.ensures.value ∙ sym c.as_slice-2.ensures.value) ∙ sym c.past_row.ensures ∙ no_place in
    let pushed : c.push.new.self.items ≡ c.self.inside.added.items ++ (record { set = c.args.set; cost = c.args.cost }) ∷ [] = search rules in
    wider_table c.self.inside c.args.self.now c.self.view_is c.self.invariant c.args.set c.args.cost c.as_slice.result.now slice c.len-n.result n c.as_slice-3.result.now entries none
    c.make_room.new.rows.items c.make_room.ensures.same c.push_entries.new.rows c.push_entries.ensures c.push.new.self pushed

pub returns-clause-tableau : goal.returns-clause-tableau
returns-clause-tableau c = column_tableau c.self.inside c.args.self.now c.self.view_is c.self.invariant c.args.set c.args.cost

pub prove-unreachable-requires : goal.prove-unreachable-requires
prove-unreachable-requires = grind (arith, common_steps)

pub returns-clause-ok : goal.returns-clause-ok
returns-clause-ok = grind (arith, common_steps)

pub push_entries-requires-clause-room : goal.push_entries-requires-clause-room
push_entries-requires-clause-room = grind (arith, common_steps)
