-- The first fault of bytes names a rule: neither it nor the fault of a curve in it is want of memory.
use Rattle.std.proofs.Common.{◌+◌, ℕ, Bool, true, false, List, [], ◌∷◌, Option, None, Some, inl, inr, length, subst}
use Rattle.std.specs.Bool.{then_some}
use Rattle.std.specs.Option.{option_map, option_or}
use Rattle.std.specs.Prelude.{nat_le, if◌then◌else◌}
use Rattle.charge_curve.specs.CutCurve.{most_breakpoints}
use Rattle.charge_curve.specs.Faults.{curve_fault, end_fault, first_fall, first_faster, has_start, or_concave, or_rise}
use Rattle.charge_curve.specs.declared.fault.CurveFault.{CurveFault}
use Rattle.charge_curve.specs.declared.fault.CurveFault.TheVariants as curve
use Rattle.ev_model.specs.Curve.{last_charge}
use Rattle.instance_reader.specs.Contents.{Contents, CurveOfType, contents_of, points_of}
use Rattle.instance_reader.specs.Curves.{bad_curve}
use Rattle.instance_reader.specs.Faults.{IsFirstFault, IsFirstFaultOf, early_fault, late_fault, value_fault}
use Rattle.instance_reader.specs.Kinds.{first_wrong_kind}
use Rattle.instance_reader.specs.Levels.{first_level_past_full}
use Rattle.instance_reader.specs.Limits.{past_horizon}
use Rattle.instance_reader.specs.Meaning.{given_limit}
use Rattle.instance_reader.specs.Nodes.{first_wrong_node}
use Rattle.instance_reader.specs.RequiredKeys.{first_missing}
use Rattle.instance_reader.specs.Search.{first_along}
use Rattle.instance_reader.specs.Shapes.{first_wrong_shape}
use Rattle.instance_reader.specs.Sizes.{first_large}
use Rattle.instance_reader.specs.Types.{first_wrong_type}
use Rattle.instance_reader.specs.declared.faults.ReadFault.{ReadFault}
use Rattle.instance_reader.specs.declared.faults.ReadFault.TheVariants as fault
use Rattle.refusal_lines.specs.RefusalText.{IsInstanceRule}

-- ---- curves

abbrev NoMemory : Option CurveFault → Type 0
NoMemory None = Unit {0}
NoMemory (Some curve.Memory) = ⊥
NoMemory (Some other) = Unit {0}

either : (b : Bool) (x y : Option CurveFault) → NoMemory x → NoMemory y → NoMemory (if b then x else y)
either true x y p q = p
either false x y p q = q

rise : (found : Option ℕ) (later : Option CurveFault) → NoMemory later → NoMemory (or_rise found later)
rise None later p = p
rise (Some index) later p = tt

concave : (found : Option ℕ) (later : Option CurveFault) → NoMemory later → NoMemory (or_concave found later)
concave None later p = p
concave (Some index) later p = tt

curve_is_rule : (full : ℕ) (points : List (ℕ × ℕ)) → NoMemory (curve_fault full points)
curve_is_rule full points =
    either (has_start points) _ _
    (rise (first_fall 1 points) _ (concave (first_faster 2 points) (end_fault full points)
    (either (nat_le full (last_charge points)) _ _ (either (nat_le (length points) most_breakpoints) _ _ tt tt) tt)))
    tt

-- ---- the rules of the reader

abbrev IsPlain : ReadFault → Type 0
IsPlain fault.Memory = ⊥
IsPlain (fault.BadCurve index curve.Memory) = ⊥
IsPlain other = Unit {0}

abbrev ArePlain : Option ReadFault → Type 0
ArePlain None = Unit {0}
ArePlain (Some e) = IsPlain e

or_plain : (a b : Option ReadFault) → ArePlain a → ArePlain b → ArePlain (option_or a b)
or_plain None b p q = q
or_plain (Some e) b p q = p

map_plain : {A : Type 0} (rule : A → ReadFault) → ((x : A) → IsPlain (rule x)) → (o : Option A) → ArePlain (option_map rule o)
map_plain {A} rule each None = tt
map_plain {A} rule each (Some x) = each x

some_plain : (b : Bool) (e : ReadFault) → IsPlain e → ArePlain (then_some b e)
some_plain true e p = p
some_plain false e p = tt

bad_plain : (number : ℕ) (found : Option CurveFault) → NoMemory found → ArePlain (option_map (λ e. fault.BadCurve number e) found)
bad_plain number None p = tt
bad_plain number (Some curve.Memory) p = absurd p
bad_plain number (Some curve.Start) p = tt
bad_plain number (Some (curve.Rise index)) p = tt
bad_plain number (Some (curve.Concave index)) p = tt
bad_plain number (Some (curve.Short charge)) p = tt
bad_plain number (Some curve.TooMany) p = tt

curves_plain : (capacity number : ℕ) (curves : List CurveOfType) → ArePlain (first_along (bad_curve capacity) number curves)
curves_plain capacity number [] = tt
curves_plain capacity number (c ∷ cs) =
    or_plain _ _ (bad_plain number (curve_fault capacity (points_of c)) (curve_is_rule capacity (points_of c))) (curves_plain capacity (number + 1) cs)

early_plain : (c : Contents) → ArePlain (early_fault c)
early_plain c =
    or_plain _ _ (or_plain _ _ (map_plain fault.TooLarge (λ x. tt) (first_large c)) (or_plain _ _ (map_plain fault.Shape (λ x. tt) (first_wrong_shape c)) tt))
    (or_plain _ _ (or_plain _ _ (map_plain fault.Node (λ x. tt) (first_wrong_node c)) (or_plain _ _ (map_plain fault.TypeName (λ x. tt) (first_wrong_type c)) tt))
    (or_plain _ _ (curves_plain c.capacity 0 c.curves) tt))

horizon_plain : (d : ℕ) (limit : Option ℕ) → ArePlain (past_horizon d limit)
horizon_plain d None = tt
horizon_plain d (Some limit) = some_plain _ (fault.Horizon limit) tt

late_plain : (d : ℕ) (c : Contents) → ArePlain (late_fault d c)
late_plain d c =
    or_plain _ _ (some_plain _ fault.Denominator tt)
    (or_plain _ _ (horizon_plain d (given_limit c)) (or_plain _ _ (map_plain fault.Level (λ x. tt) (first_level_past_full c)) tt))

value_plain : (top : _) → ArePlain (value_fault top)
value_plain top =
    or_plain _ _ (map_plain fault.Missing (λ x. tt) (first_missing top))
    (or_plain _ _ (map_plain fault.Kind (λ x. tt) (first_wrong_kind top)) (or_plain _ _ (early_plain (contents_of top)) tt))

first_plain : (top : _) (e : ReadFault) → IsFirstFaultOf top e → IsPlain e
first_plain top e (inl early) = subst ArePlain early (value_plain top)
first_plain top e (inr (none, (d, denominator, late))) = subst ArePlain late (late_plain d (contents_of top))

rule_of : (e : ReadFault) → IsPlain e → IsInstanceRule e
rule_of e plain = record {
  no_memory = λ is. subst IsPlain is plain;
  no_curve_memory = λ index is. subst IsPlain is plain;
}

pub first_faults_are_rules : (bytes : List ℕ) (e : ReadFault) → IsFirstFault bytes e → IsInstanceRule e
first_faults_are_rules bytes (fault.TooLong len) h = rule_of (fault.TooLong len) tt
first_faults_are_rules bytes fault.NotJson h = rule_of fault.NotJson tt
first_faults_are_rules bytes (fault.Missing key) h = rule_of (fault.Missing key) tt
first_faults_are_rules bytes (fault.Kind place) h = rule_of (fault.Kind place) tt
first_faults_are_rules bytes (fault.TooLarge place) h = rule_of (fault.TooLarge place) tt
first_faults_are_rules bytes (fault.Shape place) h = rule_of (fault.Shape place) tt
first_faults_are_rules bytes (fault.Node place) h = rule_of (fault.Node place) tt
first_faults_are_rules bytes (fault.TypeName place) h = rule_of (fault.TypeName place) tt
first_faults_are_rules bytes (fault.BadCurve index e) h = rule_of (fault.BadCurve index e) (first_plain h.1.0 (fault.BadCurve index e) h.1.2)
first_faults_are_rules bytes fault.Denominator h = rule_of fault.Denominator tt
first_faults_are_rules bytes (fault.Horizon limit) h = rule_of (fault.Horizon limit) tt
first_faults_are_rules bytes (fault.Level place) h = rule_of (fault.Level place) tt
first_faults_are_rules bytes fault.Memory h = absurd h
