use Rattle.std.proofs.Common.{◌≡◌, ◌≢◌, ◌+◌, ◌<◌, ◌≤◌, ℕ, pos, get_or, rules}
use Rattle.master_table.specs.Tableau.{entry_at, size}
use Rattle.master_table.specs.Pivoting.{IsPivotOf}
use Rattle.master_simplex.specs.Phase.{AreBasic}
use Rattle.master_simplex.proofs.Returns.{basic_after, basic_same, some_added_row}
use Rattle.master_simplex.proofs.HelperStarts.{on_ok}
use Rattle.master_simplex.proofs.restore.bring_back.Goals as goal

pub returns-in_default-clause-basic : goal.returns-in_default-clause-basic
returns-in_default-clause-basic c =
    let found = c.in_default.ensures.some in
    basic_same c.args.t.now c.args.helper c.in_default.field-0 c.requires.before found.0 found.1

pub returns-in_default-added_row-clause-basic : goal.returns-in_default-added_row-clause-basic
returns-in_default-added_row-clause-basic c =
    let outside : (i : ℕ) → i < size c.args.t.now → get_or c.args.t.now.basis i 0 ≢ c.args.helper = search rules in
    let none : (i : ℕ) → i < size c.args.t.now → size c.args.t.now ≤ get_or c.args.t.now.basis i 0 → entry_at c.args.t.now i c.args.helper ≡ pos 0 = search rules in
    absurd (some_added_row c.args.t.now c.rows-n.ensures.tableau c.args.helper c.requires.helper outside none)

pub returns-clause-basic : goal.returns-clause-basic
returns-clause-basic c =
    let found = c.in-Some.ensures.some in
    on_ok c.exchange.result (IsPivotOf c.in-Some.row c.args.helper c.args.t.now c.exchange.new.t) (AreBasic c.exchange.new.t (c.args.helper + 1)) c.exchange.ensures.ok
    (λ pivot. basic_after c.args.t.now c.exchange.new.t c.args.helper c.in-Some.row c.requires.helper c.requires.before found.0 found.1 pivot)
