use Rattle.std.proofs.Common.{◌≡◌, ◌∙◌, ◌<◌, ◌+◌, ℕ, arith, ap, sym, subst, get_or, set, get_or-set_same, get_or-set_other, length-set, vec_len, vec_capacity, ◌⊎◌, inl, inr, ◌≢◌}
use Rattle.fleet_model.proofs.Signs.{same_or_not}
use Rattle.master_table.specs.declared.rows.Row.{Row}
use Rattle.master_table.specs.RowView.{equation_of}
use Rattle.master_table.proofs.Added.{same_map}
use Rattle.master_table.proofs.adding.make_room.Goals as goal

pub returns-in_err-make_room_in-clause-same : goal.returns-in_err-make_room_in-clause-same
returns-in_err-make_room_in-clause-same c =
    same_map equation_of c.loop-i.rows.items c.loop-i.i c.make_room_in.new.row c.index_mut.result.now (omega arith)
    (c.make_room_in.ensures.same ∙ ap equation_of c.index_mut.ensures.value) ∙ c.loop-i.invariant.same

pub loop-i-preserved : goal.loop-i-preserved
loop-i-preserved c = record {
  last = c.loop-i.invariant.last ∙ sym (length-set c.loop-i.rows.items c.loop-i.i c.make_room_in.new.row);
  same =
      same_map equation_of c.loop-i.rows.items c.loop-i.i c.make_room_in.new.row c.index_mut.result.now (omega arith)
      (c.make_room_in.ensures.same ∙ ap equation_of c.index_mut.ensures.value) ∙ c.loop-i.invariant.same;
  room = λ k d lt. by_cases k d lt (same_or_not k c.loop-i.i);
}
  where
    by_cases : (k : ℕ) (d : Row) → k < c.loop-i.i + 1 → (k ≡ c.loop-i.i) ⊎ (k ≢ c.loop-i.i)
        → vec_len (get_or (set c.loop-i.rows.items c.loop-i.i c.make_room_in.new.row) k d).entries < vec_capacity (get_or (set c.loop-i.rows.items c.loop-i.i c.make_room_in.new.row) k d).entries
    by_cases k d lt (inl e) =
        let is : get_or (set c.loop-i.rows.items c.loop-i.i c.make_room_in.new.row) k d ≡ c.make_room_in.new.row =
        ap (λ (j : ℕ). get_or (set c.loop-i.rows.items c.loop-i.i c.make_room_in.new.row) j d) e ∙ get_or-set_same c.loop-i.rows.items c.loop-i.i c.make_room_in.new.row d (omega arith) in
        subst (λ (row : Row). vec_len row.entries < vec_capacity row.entries) (sym is) c.in_ok-make_room_in.ensures.room
    by_cases k d lt (inr other) =
        subst (λ (row : Row). vec_len row.entries < vec_capacity row.entries) (sym (get_or-set_other c.loop-i.rows.items c.loop-i.i k c.make_room_in.new.row d other)) (c.loop-i.invariant.room k d (omega arith))
