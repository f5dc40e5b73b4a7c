use Rattle.std.proofs.Common.{◌≡◌, arith, rules, FitsSigned, pos, ◌<ℤ◌, ◌≤ℤ◌, Some, subst}
use Rattle.std.proofs.lemmas.Grind.{common_steps}
use Rattle.std.specs.Int.{w128}
use Rattle.std.proofs.lemmas.Int.{ints}
use Rattle.master_table.specs.Tableau.{entry_at}
use Rattle.master_simplex.specs.Phase.{IsLeast}
use Rattle.master_simplex.proofs.LeavingRows.{least_keep, least_new, least_old}
use Rattle.master_simplex.proofs.ratio.better.Goals as goal

pub returns-then-entry-le0 : goal.returns-then-entry-le0
returns-then-entry-le0 c =
    let fits : FitsSigned w128 c.entry.result = search rules in
    let is : c.entry.result ≡ entry_at c.args.t.now c.args.i c.args.col = search rules in
    let none : entry_at c.args.t.now c.args.i c.args.col ≤ℤ pos 0 = omega (arith, ints) in
    least_keep c.args.t.now c.args.places.now c.args.col c.args.i c.args.best c.requires.least none

pub returns-then-precedes : goal.returns-then-precedes
returns-then-precedes c =
    let fits : FitsSigned w128 c.entry.result = search rules in
    let is : c.entry.result ≡ entry_at c.args.t.now c.args.i c.args.col = search rules in
    let above : pos 0 <ℤ entry_at c.args.t.now c.args.i c.args.col = omega (arith, ints) in
    let least : IsLeast c.args.t.now c.args.places.now c.args.col c.args.i (Some c.in-Some.r) = subst (λ best. IsLeast c.args.t.now c.args.places.now c.args.col c.args.i best) c.in-Some.is c.requires.least in
    least_new c.args.t.now c.args.places.now c.args.col c.args.i c.rows-n.ensures.tableau c.rows-n.ensures.within c.requires.i above c.in-Some.r least (search rules)

pub returns : goal.returns
returns c =
    let fits : FitsSigned w128 c.entry.result = search rules in
    let is : c.entry.result ≡ entry_at c.args.t.now c.args.i c.args.col = search rules in
    let above : pos 0 <ℤ entry_at c.args.t.now c.args.i c.args.col = omega (arith, ints) in
    let least : IsLeast c.args.t.now c.args.places.now c.args.col c.args.i (Some c.in-Some.r) = subst (λ best. IsLeast c.args.t.now c.args.places.now c.args.col c.args.i best) c.in-Some.is c.requires.least in
    least_old c.args.t.now c.args.places.now c.args.col c.args.i c.rows-n.ensures.tableau c.rows-n.ensures.within c.requires.i above c.in-Some.r least (search rules)

pub precedes-requires-clause-placed : goal.precedes-requires-clause-placed
precedes-requires-clause-placed = grind (arith, common_steps)

pub precedes-requires-clause-r : goal.precedes-requires-clause-r
precedes-requires-clause-r = grind (arith, common_steps)
