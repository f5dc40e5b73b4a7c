-- What a certificate stands for, in the definitions of lower bounds.
use Rattle.std.specs.Prelude.{◌≡◌, ℤ, List, map}
use Rattle.customer_sets.specs.Pairs.{allows_of}
use Rattle.ev_model.specs.Network.{Network}
use Rattle.ev_model.specs.Time.{time_of}
use Rattle.fleet_model.specs.Cover.{Share as RouteShare}
use Rattle.fleet_model.specs.Equations.{Column as TableColumn, column_at, helper, route}
use Rattle.fleet_model.specs.Labels.{Label as PricedLabel}
use Rattle.fleet_model.specs.Places.{numbers_of}
use Rattle.fleet_model.specs.Prices.{price_sum}
use Rattle.fleet_model.specs.Section.{Section as PricedSection}
use Rattle.fleet_model.specs.Tree.{BranchTree}
use Rattle.piece_fn.specs.PieceFn.{first_level, level_times}
use Rattle.piece_fn.specs.declared.label.Label.{Label}
use Rattle.route_plan.specs.declared.plan.RoutePlan.{RoutePlan}
use Rattle.bound_certificate.specs.Trees.{lines_of}
use Rattle.certificate_parts.specs.declared.entry.BasisEntry.{BasisEntry}
use Rattle.certificate_parts.specs.declared.entry.BasisEntry.TheVariants.{Helper, Column}
use Rattle.bound_certificate.specs.declared.certificate.Section.{Section}
use Rattle.bound_certificate.specs.declared.certificate.Share.{Share}
use Rattle.bound_certificate.specs.declared.certificate.TreeLine.{TreeLine}

-- a label with a time at each level; what it has paid is the price sum of its set
abbrev pub priced_label : List ℤ → Label → PricedLabel
priced_label prices l = record {
  last = l.last;
  node = l.node;
  served = l.set;
  paid = price_sum prices l.set;
  first = first_level l.value;
  times = (level_times l.value).times;
}

abbrev pub priced_section : Section → PricedSection
priced_section s = record {
  weight = s.weight;
  prices = s.prices;
  allows = allows_of s.pairs;
  labels = map (priced_label s.prices) s.labels;
}

abbrev pub priced_sections : List Section → List PricedSection
priced_sections sections = map priced_section sections

-- the routes of an exact root with their shares
abbrev pub route_shares : List Share → List RouteShare
route_shares shares = map (λ x. record { share = x.share; plan = x.plan.stops }) shares

-- a listed route as a column of the master problem: its customers by number, and its scaled time
abbrev pub route_column : Network → RoutePlan → TableColumn
route_column g p = route (numbers_of g p.stops) (time_of g 1 g.capacity p.stops)

abbrev pub route_columns : Network → List RoutePlan → List TableColumn
route_columns g columns = map (route_column g) columns

-- an entry of a basis over listed routes
abbrev pub entry_column : List TableColumn → BasisEntry → TableColumn
entry_column columns (Helper c) = helper c
entry_column columns (Column k) = column_at columns k

abbrev pub basis_columns : Network → List RoutePlan → List BasisEntry → List TableColumn
basis_columns g columns basis = map (entry_column (route_columns g columns)) basis

-- the lines are those of the tree
abbrev pub IsTreeOf : List TreeLine → BranchTree → Type 0
IsTreeOf lines tree = lines ≡ lines_of tree
