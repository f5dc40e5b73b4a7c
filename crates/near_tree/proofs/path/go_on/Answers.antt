use Rattle.std.proofs.Common.{refl}
use Rattle.near_tree.proofs.Paths.{second_next, shorter}
use Rattle.near_tree.proofs.path.go_on.Goals as goal

pub loop-turn-preserved : goal.loop-turn-preserved
loop-turn-preserved c = shorter c.args.path.now.items c.loop-turn.path.items c.pop.new.self.items c.in-Some.turn c.in-Some.ensures.items c.loop-turn.invariant c.if-not-turn.false

pub returns-then-not-turn : goal.returns-then-not-turn
returns-then-not-turn c = second_next c.args.path.now.items c.loop-turn.path.items c.pop.new.self.items c.in-Some.turn c.in-Some.ensures.items c.loop-turn.invariant c.if-not-turn.true _ c.push.new.self.items c.in_ok-push.ensures.items refl refl
