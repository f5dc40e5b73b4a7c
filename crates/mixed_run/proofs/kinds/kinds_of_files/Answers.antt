use Rattle.std.proofs.Common.{◌≤◌, ℕ, subst, sym, arith}
use Rattle.std.proofs.lemmas.Grind.{common_steps}
use Rattle.mixed_model.specs.Kinds.{most_kinds}
use Rattle.mixed_run.proofs.KindReading.{as_many_kinds}
use Rattle.mixed_run.proofs.kinds.kinds_of_files.Goals as goal

pub unfit-requires-clause-some : goal.unfit-requires-clause-some
unfit-requires-clause-some g c =
    let ok = c.in_ok-read_kinds.ensures.ok in
    let same = as_many_kinds c.args.limit c.args.files.now (g.S.Shelf.state c.args.shelf.now).files c.new-kinds.result.items c.read_kinds.new.kinds.items c.as_slice.result.now ok.0
    c.new-kinds.ensures.items ok.2 c.as_slice.ensures.value ok.1 in
    subst (λ (n : ℕ). 1 ≤ n) (sym same) c.requires.some

pub unfit-requires-clause-few : goal.unfit-requires-clause-few
unfit-requires-clause-few g c =
    let ok = c.in_ok-read_kinds.ensures.ok in
    let same = as_many_kinds c.args.limit c.args.files.now (g.S.Shelf.state c.args.shelf.now).files c.new-kinds.result.items c.read_kinds.new.kinds.items c.as_slice.result.now ok.0
    c.new-kinds.ensures.items ok.2 c.as_slice.ensures.value ok.1 in
    subst (λ (n : ℕ). n ≤ most_kinds) (sym same) c.requires.few

pub returns-in-None-clause-stays : goal.returns-in-None-clause-stays
returns-in-None-clause-stays = grind (arith, common_steps)

pub returns-in-Some-clause-stays : goal.returns-in-Some-clause-stays
returns-in-Some-clause-stays = grind (arith, common_steps)

pub returns-in-Some-clause-falls : goal.returns-in-Some-clause-falls
returns-in-Some-clause-falls = grind (arith, common_steps)

pub returns-in-None-clause-falls : goal.returns-in-None-clause-falls
returns-in-None-clause-falls = grind (arith, common_steps)

pub returns-in-None-clause-ok : goal.returns-in-None-clause-ok
returns-in-None-clause-ok = grind (arith, common_steps)

pub returns-in-Some-clause-halt : goal.returns-in-Some-clause-halt
returns-in-Some-clause-halt = grind (arith, common_steps)
