use Rattle.dominance.specs.Coverage.{CoversEach, does_cover}
use Rattle.dominance.specs.Laws.{covers_exactly}
use Rattle.dominance.proofs.Rows.{same_test}
use Rattle.dominance.proofs.row.RowCovers.covers_whole.Goals as goal

pub returns : goal.returns
returns c =
    let own = c.args.self.now in
    let other = c.args.other.now in
    same_test c.covers.result (does_cover own other 0) (CoversEach own other 0) c.covers.ensures (covers_exactly own other 0)
