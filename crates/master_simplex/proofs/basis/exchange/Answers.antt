use Rattle.std.proofs.Common.{◌≡◌, rules, sym, subst, set, arith}
use Rattle.std.proofs.lemmas.Grind.{common_steps, elements}
use Rattle.master_table.specs.Tableau.{IsBasisPast}
use Rattle.master_table.specs.Pivoting.{pivoted}
use Rattle.master_simplex.specs.Phase.{IsReached, IsRefused}
use Rattle.master_simplex.proofs.Tables.{pivot_reached, refused_is}
use Rattle.master_simplex.proofs.basis.exchange.Goals as goal

pub returns-in-Ok-clause-reached : goal.returns-in-Ok-clause-reached
returns-in-Ok-clause-reached c =
    let is : c.pivot.new.self ≡ pivoted c.args.row c.args.col c.args.t.now = search rules in
    subst (λ t. IsReached c.args.t.now t) (sym is) (pivot_reached c.args.row c.args.col c.args.t.now (pivoted c.args.row c.args.col c.args.t.now) c.pivot.ensures.rows c.pivot.ensures.solutions)

pub returns-in-Ok-basis_with-clause-wide : goal.returns-in-Ok-basis_with-clause-wide
returns-in-Ok-basis_with-clause-wide c basis e =
    let is : c.pivot.new.self ≡ c.args.t.now = search rules in
    let past : IsBasisPast (pivoted c.args.row c.args.col c.args.t.now) = search rules in
    let made : c.in-Ok-basis_with.basis.items ≡ set c.pivot.new.self.basis c.args.row c.args.col = search rules in
    let same : c.in-Ok-basis_with.basis ≡ basis = cc in
    let items : basis.items ≡ set c.args.t.now.basis c.args.row c.args.col = cc in
    subst (λ t. IsRefused basis.items t) (sym is) (refused_is c.args.t.now c.args.row c.args.col basis.items c.requires.row items past)

pub returns-in-Err-Memory-clause-tableau : goal.returns-in-Err-Memory-clause-tableau
returns-in-Err-Memory-clause-tableau = grind (arith, common_steps)

pub prove-unreachable-requires-in-Ok : goal.prove-unreachable-requires-in-Ok
prove-unreachable-requires-in-Ok = grind (arith, common_steps)

pub basis_with-requires : goal.basis_with-requires
basis_with-requires = grind (arith, common_steps)

pub returns-in-Ok-clause-within : goal.returns-in-Ok-clause-within
returns-in-Ok-clause-within = grind (arith, common_steps)

pub returns-in-Err-clause-tableau : goal.returns-in-Err-clause-tableau
returns-in-Err-clause-tableau = grind (arith, common_steps)

pub returns-in-Ok-basis_with-clause-tableau : goal.returns-in-Ok-basis_with-clause-tableau
returns-in-Ok-basis_with-clause-tableau = grind (arith, common_steps)

pub returns-in-Err-clause-wide : goal.returns-in-Err-clause-wide
returns-in-Err-clause-wide = grind (arith, common_steps)

pub returns-in-Ok-clause-ok : goal.returns-in-Ok-clause-ok
returns-in-Ok-clause-ok = grind (arith, common_steps)

pub returns-in-Err-Memory-clause-within : goal.returns-in-Err-Memory-clause-within
returns-in-Err-Memory-clause-within = grind (arith, elements)

pub returns-in-Err-clause-within : goal.returns-in-Err-clause-within
returns-in-Err-clause-within = grind (arith, elements)

pub returns-in-Ok-basis_with-clause-within : goal.returns-in-Ok-basis_with-clause-within
returns-in-Ok-basis_with-clause-within = grind (arith, elements)
