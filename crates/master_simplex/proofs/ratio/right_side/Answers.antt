use Rattle.std.proofs.Common.{◌≡◌, ◌≤◌, ◌^◌, arith, rules, sym, subst, FitsSigned, unsigned_abs}
use Rattle.std.specs.Int.{w128}
use Rattle.std.proofs.lemmas.Int.{ints}
use Rattle.master_table.specs.Tableau.{row_at}
use Rattle.master_simplex.proofs.Tables.{number_small}
use Rattle.master_simplex.proofs.ratio.right_side.Goals as goal

pub returns-clause-small : goal.returns-clause-small
returns-clause-small c =
    let fits : FitsSigned w128 c.entry.result = search rules in
    let is : c.entry.result ≡ (row_at c.args.t.now c.args.i).right = search rules in
    let small = number_small c.args.t.now c.rows-n.ensures.within c.caps-body.ensures.body c.args.i 0 c.requires in
    let here : unsigned_abs c.entry.result ≤ 2 ^ 40 = subst (λ z. unsigned_abs z ≤ 2 ^ 40) (sym is) small.1 in
    omega (arith, ints)
