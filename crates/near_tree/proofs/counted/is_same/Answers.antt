use Rattle.std.proofs.Common.{◌∙◌, sym}
use Rattle.std.proofs.lemmas.Bool.{false≢true}
use Rattle.near_tree.proofs.Counting.{apart_by, apart_within, same_told}
use Rattle.near_tree.proofs.counted.is_same.Goals as goal

pub returns-then-len : goal.returns-then-len
returns-then-len c = apart_by c.args.one c.args.other c.len.result c.len-2.result c.len.ensures.value c.len-2.ensures.value c.if-len.true

pub returns-then-not-is_subset : goal.returns-then-not-is_subset
returns-then-not-is_subset c = apart_within c.args.one c.args.other (λ within. false≢true (sym c.if-not-is_subset.true ∙ c.is_subset.ensures.1 within))

pub returns : goal.returns
returns c = same_told c.args.one c.args.other c.len.ensures.set.rising c.len-2.ensures.set.rising (c.is_subset.ensures.0 c.if-not-is_subset.false) c.is_subset-2.result c.is_subset-2.ensures
