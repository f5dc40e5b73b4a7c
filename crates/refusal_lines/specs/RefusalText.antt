-- The line of a refusal: its kind, the number of the broken rule, and the place or the number that breaks it.
-- Want of memory is no rule; it has no line, and its text here is empty.
use Rattle.std.specs.Prelude.{◌≢◌, ℕ, ◌++◌, ◌∷◌, [], List, Option, None, Some, decimal, codes}
use Rattle.certificate_parts.specs.declared.cert_text.CertText.{CertText}
use Rattle.certificate_parts.specs.declared.cert_text.CertText.TheVariants as certificate
use Rattle.charge_curve.specs.declared.fault.CurveFault.{CurveFault}
use Rattle.charge_curve.specs.declared.fault.CurveFault.TheVariants as curve
use Rattle.decimal_import.specs.declared.fault.ImportFault.{ImportFault}
use Rattle.decimal_import.specs.declared.fault.ImportFault.TheVariants as literal
use Rattle.ev_text.specs.declared.TextFault.{TextFault}
use Rattle.ev_text.specs.declared.TextFault.TheVariants as text
use Rattle.instance_reader.specs.Places.{key_text, part_text}
use Rattle.instance_reader.specs.declared.faults.ReadFault.{ReadFault}
use Rattle.instance_reader.specs.declared.faults.ReadFault.TheVariants as instance
use Rattle.instance_reader.specs.declared.places.Part.{Part}
use Rattle.instance_reader.specs.declared.places.Place.{Place}
use Rattle.route_plan.specs.declared.text.plan_text.PlanText.{PlanText}
use Rattle.route_plan.specs.declared.text.plan_text.PlanText.TheVariants as plan
use Rattle.route_plan.specs.declared.route.RouteFault.{RouteFault}
use Rattle.route_plan.specs.declared.route.RouteFault.TheVariants as route
use Rattle.refusal_lines.specs.declared.refusal.Refusal.{Refusal}
use Rattle.refusal_lines.specs.declared.refusal.Refusal.TheVariants.{Instance, Limit, Charge, Route, Customers, Plan, Certificate, Literal, Maker}

-- the fault of an instance is a rule: neither it nor the fault of a curve in it is want of memory
pub record IsInstanceRule (fault : ReadFault) : Type 0 where
  pub no_memory : fault ≢ instance.Memory
  pub no_curve_memory : (index : ℕ) → fault ≢ instance.BadCurve index curve.Memory

-- the refusal names a rule: no want of memory stands in it
abbrev pub IsRule : Refusal → Type 0
IsRule (Instance fault) = IsInstanceRule fault
IsRule (Route fault) = fault ≢ route.Memory
IsRule (Plan fault) = fault ≢ plan.Memory
IsRule (Certificate fault) = fault ≢ certificate.Memory
IsRule (Literal fault) = fault ≢ literal.Memory
IsRule other = Unit {0}

-- an index behind a slash, where there is one
abbrev pub slash_index : Option ℕ → List ℕ
slash_index None = []
slash_index (Some index) = codes "/" ++ decimal index

abbrev pub slash_part : Option Part → List ℕ
slash_part None = []
slash_part (Some part) = codes "/" ++ part_text part

-- keys and indices joined by slashes
abbrev pub place_text : Place → List ℕ
place_text place =
    key_text place.key ++ slash_index place.i ++ slash_part place.part ++ slash_index place.j

abbrev pub curve_text : CurveFault → List ℕ
curve_text curve.Start = codes "start"
curve_text (curve.Rise index) = codes "rise " ++ decimal index
curve_text (curve.Concave index) = codes "concave " ++ decimal index
curve_text (curve.Short last) = codes "short " ++ decimal last
curve_text curve.TooMany = codes "toomany"
curve_text curve.Memory = []

-- the entry of a curve and its broken rule
abbrev pub curve_fault_text : ℕ → CurveFault → List ℕ
curve_fault_text index fault =
    codes "9 breakpoints_by_type/" ++ decimal index ++ codes " " ++ curve_text fault

abbrev pub instance_text : ReadFault → List ℕ
instance_text (instance.TooLong len) = codes "1 " ++ decimal len
instance_text instance.NotJson = codes "2"
instance_text (instance.Missing key) = codes "3 " ++ key_text key
instance_text (instance.Kind place) = codes "4 " ++ place_text place
instance_text (instance.TooLarge place) = codes "5 " ++ place_text place
instance_text (instance.Shape place) = codes "6 " ++ place_text place
instance_text (instance.Node place) = codes "7 " ++ place_text place
instance_text (instance.TypeName place) = codes "8 " ++ place_text place
instance_text (instance.BadCurve index fault) = curve_fault_text index fault
instance_text instance.Denominator = codes "10"
instance_text (instance.Horizon limit) = codes "11 " ++ decimal limit
instance_text (instance.Level place) = codes "12 " ++ place_text place
instance_text instance.Memory = []

abbrev pub route_text : RouteFault → List ℕ
route_text (route.Text at) = codes "1 at " ++ decimal at
route_text route.TooLong = codes "2"
route_text (route.Unknown at) = codes "3 at " ++ decimal at
route_text route.Ends = codes "4"
route_text (route.InnerDepot at) = codes "5 at " ++ decimal at
route_text (route.Again at) = codes "6 at " ++ decimal at
route_text route.Memory = []

-- a place is a byte of the text
abbrev pub fault_text : TextFault → List ℕ
fault_text (text.NotWhole at) = codes "1 at " ++ decimal at
fault_text (text.TooLarge at) = codes "2 at " ++ decimal at
fault_text (text.Word at) = codes "3 at " ++ decimal at
fault_text (text.End at) = codes "4 at " ++ decimal at

abbrev pub plan_fault_text : PlanText → List ℕ
plan_fault_text (plan.Bad fault) = fault_text fault
plan_fault_text (plan.TooLong len) = codes "5 " ++ decimal len
plan_fault_text plan.Memory = []

-- a place is a byte of the certificate's file
abbrev pub certificate_fault_text : CertText → List ℕ
certificate_fault_text (certificate.Text at) = codes "1 at " ++ decimal at
certificate_fault_text (certificate.Range at) = codes "2 at " ++ decimal at
certificate_fault_text certificate.Version = codes "3"
certificate_fault_text (certificate.TooLong len) = codes "4 " ++ decimal len
certificate_fault_text certificate.Memory = []

-- a place is a byte of the file that is converted
abbrev pub literal_text : ImportFault → List ℕ
literal_text (literal.Token at) = codes "1 at " ++ decimal at
literal_text (literal.Negative at) = codes "2 at " ++ decimal at
literal_text (literal.TooLarge at) = codes "3 at " ++ decimal at
literal_text literal.Digits = codes "4"
literal_text (literal.TooLong len) = codes "5 " ++ decimal len
literal_text literal.Memory = []

abbrev pub cause_text : Refusal → List ℕ
cause_text (Instance fault) = codes "instance " ++ instance_text fault
cause_text (Limit limit) = codes "limit " ++ decimal limit
cause_text (Charge level) = codes "charge " ++ decimal level
cause_text (Route fault) = codes "route " ++ route_text fault
cause_text (Customers count) = codes "customers " ++ decimal count
cause_text (Plan fault) = codes "plan " ++ plan_fault_text fault
cause_text (Certificate fault) = codes "certificate " ++ certificate_fault_text fault
cause_text (Literal fault) = codes "literal " ++ literal_text fault
cause_text Maker = codes "maker 1"

abbrev pub refusal_text : Refusal → List ℕ
refusal_text refusal = codes "refused " ++ cause_text refusal ++ 10 ∷ []
