use Rattle.std.proofs.Common.{◌≡◌, ◌∙◌, ◌<◌, ℕ, add-one, arith, rules, ap, sym, subst, map, take, drop, ◌++◌, pos, get_or, set, get_or-set_other, length-set, vec_len, vec_capacity, FitsSigned}
use Rattle.std.proofs.lemmas.Grind.{common_steps}
use Rattle.std.specs.Int.{w128}
use Rattle.std.proofs.lemmas.Int.{to_z-of_z}
use Rattle.master_table.specs.declared.rows.Row.{Row}
use Rattle.master_table.specs.Adding.{extended_row, extended_rows}
use Rattle.master_table.specs.RowView.{equation_of}
use Rattle.master_table.proofs.Added.{extended_more}
use Rattle.master_table.proofs.adding.push_entries.Goals as goal

pub loop-i-preserved : goal.loop-i-preserved
loop-i-preserved c =
    let i = c.loop-i.i in
    let rows = c.loop-i.rows.items in
    let entries = c.args.entries.now in
    let in_entries : FitsSigned w128 (get_or entries i (pos 0)) = search rules in
    let pushed : equation_of c.push_entry.new.row ≡ extended_row (equation_of c.index_mut.result.now) (get_or entries i (pos 0)) = simp to_z-of_z at c.push_entry.ensures in
    let made : equation_of c.push_entry.new.row ≡ extended_row (equation_of (get_or rows i c.index_mut.result.now)) (get_or entries i (pos 0)) = pushed ∙ ap (λ (row : Row). extended_row (equation_of row) (get_or entries i (pos 0))) c.index_mut.ensures.value in
    let more = extended_more equation_of i rows entries c.push_entry.new.row c.index_mut.result.now (omega arith) (omega arith) made in
    record {
      count = length-set rows i c.push_entry.new.row ∙ c.loop-i.invariant.count;
      last = c.loop-i.invariant.last;
      rows = ap (λ (k : ℕ). map equation_of (take k (set rows i c.push_entry.new.row)) ++ extended_rows (map equation_of (drop k (set rows i c.push_entry.new.row))) (drop k entries)) (add-one i) ∙ more ∙ c.loop-i.invariant.rows;
      room = λ k d le lt. subst (λ (row : Row). vec_len row.entries < vec_capacity row.entries) (sym (get_or-set_other rows i k c.push_entry.new.row d (λ e. absurd (omega arith)))) (c.loop-i.invariant.room k d (omega arith) (omega (arith, length-set rows i c.push_entry.new.row)));
    }

pub returns : goal.returns
returns = grind (arith, common_steps)
