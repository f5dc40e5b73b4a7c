use Rattle.std.proofs.Common.{◌+◌, arith, inl, inr}
use Rattle.std.proofs.lemmas.Bool.{cases_lt}
use Rattle.piece_fn.proofs.Levels.{first_is_least, first-level_times, is_level, level_is}
use Rattle.near_proof.proofs.asking.covers_value.Goals as goal

pub loop-to-init : goal.loop-to-init
loop-to-init g c =
    let value = c.args.value.now in
    let are = c.last_level-last.ensures.valid in
    let begin = first-level_times value in
    let first = c.least-level.ensures.level in
    record {
      level = is_level value c.least-level.result.0 are (omega (arith, begin, first)) (let le = first_is_least value are in omega (arith, begin, first, le));
      covered = λ y is less. absurd (omega (arith, first, is.0, less));
    }

pub returns-then-to-last-clause-covered : goal.returns-then-to-last-clause-covered
returns-then-to-last-clause-covered g c _ y is =
    let value = c.args.value.now in
    let are = c.last_level-last.ensures.valid in
    let inside = level_is value y are is in
    elim (cases_lt y c.loop-to.level) [
      | inl less ↦ c.loop-to.invariant.covered y is less
      | inr more ↦ c.in-Some.ensures.some.covered y more (omega (arith, inside.1, c.last_level-last.ensures.value, c.if-to-last.true))
    ]

pub loop-to-preserved : goal.loop-to-preserved
loop-to-preserved g c =
    let value = c.args.value.now in
    let are = c.last_level-last.ensures.valid in
    let last = c.last_level-last.ensures.value in
    let ends = level_is value c.in-Some.to are c.in-Some.ensures.some.ends in
    record {
      level = is_level value (c.in-Some.to + 1) are (omega (arith, ends.0)) (omega (arith, last, c.if-to-last.false));
      covered = λ y is less. elim (cases_lt y c.loop-to.level) [
        | inl before ↦ c.loop-to.invariant.covered y is before
        | inr more ↦ c.in-Some.ensures.some.covered y more (omega (arith, less))
      ];
    }
