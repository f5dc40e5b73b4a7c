use Rattle.std.proofs.Common.{◌≡◌, ◌≢◌, ◌∙◌, arith, rules, sym, ap, ap₂, pos, get_or, vec_len, FitsSigned, of_z}
use Rattle.std.proofs.lemmas.Grind.{common_steps, elements}
use Rattle.std.specs.Int.{w128}
use Rattle.std.proofs.lemmas.Int.{to_z-of_z}
use Rattle.std.proofs.lemmas.List.{get_or_read_under}
use Rattle.std.proofs.lemmas.Result.{IfOk-weaker}
use Rattle.master_table.specs.Pivoting.{excess, combined_row, reduced_row}
use Rattle.master_table.specs.RowView.{equation_of}
use Rattle.master_table.proofs.Reduced.{row_after-other}
use Rattle.master_table.proofs.rows.row_after.Goals as goal

pub returns : goal.returns
returns c =
    let row = equation_of c.args.row.now in
    let turned = equation_of c.args.turned.now in
    let by : FitsSigned w128 c.excess-by.result = search rules in
    let by_is : c.excess-by.result ≡ excess c.args.n c.args.col c.args.i row = c.excess-by.ensures.value in
    let own : FitsSigned w128 c.index.result.now = search rules in
    let own_is : c.index.result.now ≡ get_or turned.entries c.args.col (pos 0) = get_or_read_under turned.entries c.args.col (vec_len c.args.turned.now.entries) c.index.result.now (pos 0) c.index.ensures c.requires.col (omega arith) in
    let some : excess c.args.n c.args.col c.args.i row ≢ pos 0 = λ e. c.if-by-eq0.false (ap (of_z w128) (by_is ∙ e)) in
    let found = simp to_z-of_z at c.next_row.ensures in
    let same = ap₂ (λ f g. reduced_row c.args.n (combined_row f g row turned)) own_is by_is ∙ sym (row_after-other c.args.n c.args.r c.args.col c.args.i turned row c.if-i-r.false some) in
    IfOk-weaker c.next_row.result _ _ (λ v e. e ∙ same) found

pub next_row-requires-clause-own : goal.next_row-requires-clause-own
next_row-requires-clause-own = grind (arith, common_steps)

pub next_row-requires-clause-row : goal.next_row-requires-clause-row
next_row-requires-clause-row = grind (arith, common_steps)

pub next_row-requires-clause-turned : goal.next_row-requires-clause-turned
next_row-requires-clause-turned = grind (arith, common_steps)

pub returns-then-by-eq0 : goal.returns-then-by-eq0
returns-then-by-eq0 = grind (arith, common_steps)

pub next_row-requires-clause-some : goal.next_row-requires-clause-some
next_row-requires-clause-some = grind (arith, elements)
