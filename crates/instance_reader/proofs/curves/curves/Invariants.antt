use Rattle.std.proofs.Common.{◌≡◌, ◌++◌, All, map, drop}
use Rattle.charge_curve.specs.CutCurve.{IsAccepted}
use Rattle.instance_reader.specs.Curves.{bad_curve, bad_curve_in, cut_curve}
use Rattle.instance_reader.specs.Search.{first_along}
use Rattle.instance_reader.specs.Views.{curve_view}
use Rattle.instance_reader.proofs.curves.curves.Given as goal

abbrev pub invariant-loop-index : goal.invariant-loop-index
invariant-loop-index l = record {
  good : first_along (bad_curve l.max_q) l.index (map curve_view (drop l.index l.entries)) ≡ bad_curve_in l.max_q (map curve_view l.entries);
  value : l.curves.items ++ map (cut_curve l.max_q) (map curve_view (drop l.index l.entries))
      ≡ map (cut_curve l.max_q) (map curve_view l.entries);
  accepted : All IsAccepted l.curves.items;
}
