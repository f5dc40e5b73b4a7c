-- What contracts see of the states of a target that are asked.
use Rattle.std.specs.Prelude.{◌+◌, ◌<◌, ◌^◌, ◌≤◌, unsigned_abs}
use Rattle.certificate_parts.specs.Ranges.{customer_count}
use Rattle.near_tree.specs.Judging.{IsJudge}
use Rattle.near_tree.specs.Targets.{Asking}
use Rattle.near_tree.specs.declared.coverage.Asked.TheInside.{Inside}

abbrev pub asking : Inside → Asking
asking a = record {
  network = a.judge.site.inst.now;
  path = a.judge.site.path.now;
  section = a.judge.site.section.now;
  target = a.target;
}

pub record IsAsked (a : Inside) : Type 0 where
  pub judge : IsJudge a.judge
  pub last : a.target.last < customer_count a.judge.site.inst.now + 2
  pub earned : unsigned_abs a.target.earned ≤ 2 ^ 98
