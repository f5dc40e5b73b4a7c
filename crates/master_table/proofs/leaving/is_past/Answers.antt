use Rattle.std.proofs.Common.{◌≡◌, ◌↔◌, rules, sym, subst, is_none, IsTrue}
use Rattle.master_table.specs.Tableau.{IsBasisPast}
use Rattle.master_table.proofs.ShareWeights.{tells_past}
use Rattle.master_table.proofs.leaving.is_past.Goals as goal

pub returns : goal.returns
returns c =
    let is : c.is_none.result ≡ is_none c.share_weight.result = search rules in
    subst (λ b. IsTrue b ↔ IsBasisPast c.args.t.now) (sym is)
    (tells_past c.args.t.now c.rows-n.ensures.tableau c.rows-n.ensures.within c.share_weight.result c.share_weight.ensures.some c.share_weight.ensures.within c.share_weight.ensures.past)
