use Rattle.std.proofs.Common.{subst, ◌∙◌, List, ℕ, take}
use Rattle.std.proofs.lemmas.List.{append-nil}
use Rattle.ev_outside.proofs.StreamLemmas.{next_pieces, take-IsPrefixOf, within-rest}
use Rattle.ev_outside.proofs.streams.write_whole.Goals as goal

pub returns-in-Err-clause-takes : goal.returns-in-Err-clause-takes
returns-in-Err-clause-takes g c =
    let front = take c.loop-at.at c.args.bytes.now in
    (front, take-IsPrefixOf c.loop-at.at c.args.bytes.now, subst (λ (xs : List ℕ). g.S.Stream.takes c.args.stream.now xs c.write.new.self) (append-nil front) (g.met.S.Stream.more c.args.stream.now c.loop-at.stream c.write.new.self front _ c.loop-at.invariant.takes c.in-Err.ensures.takes))

pub loop-at-preserved : goal.loop-at-preserved
loop-at-preserved g c = record {
  takes = subst (λ (xs : List ℕ). g.S.Stream.takes c.args.stream.now xs c.write.new.self) (next_pieces c.args.bytes.now c.loop-at.at c.in-Ok.count) (g.met.S.Stream.more c.args.stream.now c.loop-at.stream c.write.new.self _ _ c.loop-at.invariant.takes c.in-Ok.ensures.takes);
  within = within-rest c.args.bytes.now c.loop-at.at c.in-Ok.count c.loop-at.invariant.within c.in-Ok.ensures.some.0;
  stays = c.in-Ok.ensures.counts ∙ c.loop-at.invariant.stays;
  asked = c.in-Ok.ensures.asked ∙ c.loop-at.invariant.asked;
}
