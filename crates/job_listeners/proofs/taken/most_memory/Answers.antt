use Rattle.std.proofs.Common.{◌≡◌, ◌∙◌, ℕ, ◌+◌, ◌<◌, List, ◌∷◌, suc, false, ap, arith, drop, drop-cons, get_or, length, nat_eq, subst, sym}
use Rattle.std.proofs.lemmas.List.{take_rest}
use Rattle.std.specs.List.{starts_with}
use Rattle.job_listeners.proofs.Marks.{behind}
use Rattle.job_listeners.specs.MostMemory.{mark}
use Rattle.job_listeners.proofs.taken.most_memory.Goals as goal

pub loop-at-preserved : goal.loop-at-preserved
loop-at-preserved c =
    let text = c.args.status.now in
    let at = c.loop-at.at in
    let lt : at < length text = omega (arith, c.loop-at-test.true) in
    let next : suc at ≡ at + 1 = omega arith in
    behind (drop at text) (get_or text at 0) (drop (at + 1) text)
    (drop-cons text at 0 lt ∙ ap (λ (n : ℕ). get_or text at 0 ∷ drop n text) next)
    (subst (λ (bs : List ℕ). starts_with nat_eq bs mark ≡ false) (take_rest text at) (sym c.starts_with.ensures.value ∙ c.if-starts_with.false))
    ∙ c.loop-at.invariant
