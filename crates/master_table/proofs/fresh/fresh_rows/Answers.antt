use Rattle.std.proofs.Common.{◌≡◌, ◌∙◌, List, [], ◌∷◌, ◌++◌, arith, ap, sym, map}
use Rattle.std.proofs.lemmas.List.{map-append}
use Rattle.std.proofs.lemmas.List.FromFn.{map-range_with_len_more}
use Rattle.master_table.specs.Fresh.{fresh_row}
use Rattle.master_table.specs.RowView.{equation_of}
use Rattle.master_table.specs.Tableau.{Equation}
use Rattle.master_table.specs.declared.rows.Row.{Row}
use Rattle.master_table.proofs.fresh.fresh_rows.Goals as goal

pub loop-i-preserved : goal.loop-i-preserved
loop-i-preserved c =
    let pushed : c.push.new.self.items ≡ c.loop-i.rows.items ++ c.in_ok-fresh_row.field-0 ∷ [] = c.in_ok-push.ensures.items in
    ap (λ (xs : List Row). map equation_of xs) pushed ∙ map-append equation_of c.loop-i.rows.items (c.in_ok-fresh_row.field-0 ∷ [])
    ∙ ap (λ (x : Equation). map equation_of c.loop-i.rows.items ++ x ∷ []) c.in_ok-fresh_row.ensures
    ∙ ap (λ (xs : List Equation). xs ++ fresh_row c.args.n c.loop-i.i ∷ []) c.loop-i.invariant
    ∙ sym (map-range_with_len_more (fresh_row c.args.n) 0 c.loop-i.i c.loop-i.i (omega arith))
