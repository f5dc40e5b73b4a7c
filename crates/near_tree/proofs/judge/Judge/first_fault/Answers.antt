use Rattle.std.proofs.Common.{subst}
use Rattle.near_tree.specs.Judging.{TellsBadHome, TellsBadStep}
use Rattle.near_tree.specs.Sites.{leaf_of}
use Rattle.near_tree.proofs.Told.{closed, end_first, start_first, step_first}
use Rattle.near_tree.proofs.judge.Judge.first_fault.Goals as goal

pub returns-then-not-covers_start : goal.returns-then-not-covers_start
returns-then-not-covers_start c = start_first c.args.self.now.site.inst.now (leaf_of c.args.self.now.site) (c.covers_start.ensures.missed c.if-not-covers_start.true)

pub returns-in-Some : goal.returns-in-Some
returns-in-Some c =
    let begins = c.covers_start.ensures.covered c.if-not-covers_start.false in
    step_first c.args.self.now.site.inst.now (leaf_of c.args.self.now.site) begins (c.in-Some.label, c.in-Some.node) (subst (TellsBadStep c.args.self.now.site.inst.now (leaf_of c.args.self.now.site)) c.in-Some.is c.in_ok-label.ensures)

pub returns-in-Some-2 : goal.returns-in-Some-2
returns-in-Some-2 c =
    let begins = c.covers_start.ensures.covered c.if-not-covers_start.false in
    let steps = subst (TellsBadStep c.args.self.now.site.inst.now (leaf_of c.args.self.now.site)) c.in_default.is c.in_ok-label.ensures in
    end_first c.args.self.now.site.inst.now (leaf_of c.args.self.now.site) begins steps c.in-Some-2.label (subst (TellsBadHome c.args.self.now.site.inst.now (leaf_of c.args.self.now.site)) c.in-Some-2.is c.in_ok-label-2.ensures)

pub returns : goal.returns
returns c =
    let begins = c.covers_start.ensures.covered c.if-not-covers_start.false in
    let steps = subst (TellsBadStep c.args.self.now.site.inst.now (leaf_of c.args.self.now.site)) c.in_default.is c.in_ok-label.ensures in
    closed c.args.self.now.site.inst.now (leaf_of c.args.self.now.site) begins steps (subst (TellsBadHome c.args.self.now.site.inst.now (leaf_of c.args.self.now.site)) c.in-None.is c.in_ok-label-2.ensures)
