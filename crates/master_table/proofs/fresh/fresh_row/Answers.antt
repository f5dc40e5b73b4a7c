use Rattle.std.proofs.Common.{◌≡◌, ◌∙◌, ℤ, List, [], ◌∷◌, ◌++◌, arith, rules, ap, sym, FitsSigned}
use Rattle.std.specs.Int.{w128}
use Rattle.std.proofs.lemmas.Int.{to_z-of_z}
use Rattle.std.proofs.lemmas.List.FromFn.{map-range_with_len_more}
use Rattle.master_table.specs.Fresh.{fresh_entry}
use Rattle.master_table.proofs.fresh.fresh_row.Goals as goal

pub loop-c-preserved : goal.loop-c-preserved
loop-c-preserved c =
    let fits : FitsSigned w128 c.fresh_entry.result = search rules in
    let pushed : c.push.new.self.items ≡ c.loop-c.entries.items ++ c.fresh_entry.result ∷ [] = simp to_z-of_z at c.in_ok-push.ensures.items in
    pushed ∙ ap (λ (x : ℤ). c.loop-c.entries.items ++ x ∷ []) c.fresh_entry.ensures ∙ ap (λ (xs : List ℤ). xs ++ fresh_entry c.args.n c.args.i c.loop-c.c ∷ []) c.loop-c.invariant
    ∙ sym (map-range_with_len_more (fresh_entry c.args.n c.args.i) 0 c.loop-c.c c.loop-c.c (omega arith))
