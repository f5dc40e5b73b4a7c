use Rattle.std.proofs.Common.{◌≡◌, ◌∙◌, ℕ, List, [], ◌∷◌, ◌++◌, arith, ap, sym}
use Rattle.master_table.proofs.FreshFacts.{range_more}
use Rattle.master_table.proofs.fresh.fresh_basis.Goals as goal

pub loop-c-preserved : goal.loop-c-preserved
loop-c-preserved c =
    let pushed : c.push.new.self.items ≡ c.loop-c.basis.items ++ c.loop-c.c ∷ [] = c.in_ok-push.ensures.items in
    pushed ∙ ap (λ (xs : List ℕ). xs ++ c.loop-c.c ∷ []) c.loop-c.invariant ∙ sym (range_more 0 c.loop-c.c c.loop-c.c (omega arith))
