-- The rules in their order, and what each step of the reading knows of the contents.
use Rattle.std.proofs.Common.{◌≡◌, ◌≢◌, ◌∙◌, ℕ, ◌*◌, ◌/◌, ◌<◌, ◌≤◌, ◌^◌, List, Option, None, Some, Result, Ok, Err, IfErr, Bool, true, false, All, length, map, get_or, nat_lt, option_map, unwrap_or, refl, ap, subst, sym, inl, inr, arith}
use Rattle.std.proofs.lemmas.Bool.Decides.{nat_tests}
use Rattle.std.proofs.lemmas.List.Elements.{All-map}
use Rattle.std.proofs.lemmas.Simd.{map-map}
use Rattle.std.specs.Bool.{then_some}
use Rattle.charge_curve.proofs.Curves.{common_exists, is_denominator}
use Rattle.charge_curve.specs.CutCurve.{CutCurve, points_of}
use Rattle.charge_curve.specs.Multiples.{IsCommonDenominator}
use Rattle.ev_model.specs.Curve.{IsCurve, IsDenominator, IsMultipleOfSlopes}
use Rattle.ev_model.specs.Network.{Network}
use Rattle.serde_json.specs.Data.{Data}
use Rattle.instance_reader.proofs.CheckedLemmas.{levels_within, neither, shaped_contents, small_contents}
use Rattle.instance_reader.proofs.PartsLemmas.{All-unmap}
use Rattle.instance_reader.specs.Checked.{HasShape, HasSmallNumbers}
use Rattle.instance_reader.specs.Contents.{Contents, contents_of}
use Rattle.instance_reader.specs.Curves.{all_points, cut_curve}
use Rattle.instance_reader.specs.Faults.{AreGood, IsFirstFault, IsFirstFaultIn, IsFirstFaultOf, IsMeantBy, early_fault, late_fault, longest, size_fault}
use Rattle.instance_reader.specs.Instance.{TellsChargeTime}
use Rattle.instance_reader.specs.Kinds.{first_wrong_kind}
use Rattle.instance_reader.specs.Levels.{first_level_past_full}
use Rattle.instance_reader.specs.Limits.{IsDenominatorOf, past_horizon}
use Rattle.instance_reader.specs.Meaning.{AreCurveNumbers, given_limit, network_of}
use Rattle.instance_reader.specs.Parts.{AreParts}
use Rattle.instance_reader.specs.Refusal.{OnContents, Refuses}
use Rattle.instance_reader.specs.RequiredKeys.{first_missing}
use Rattle.instance_reader.specs.Shapes.{first_wrong_shape}
use Rattle.instance_reader.specs.Sizes.{first_large}
use Rattle.instance_reader.specs.Values.{IsValueOf}
use Rattle.instance_reader.specs.declared.curves.StationCurve.{StationCurve}
use Rattle.instance_reader.specs.declared.faults.ReadFault.{ReadFault}
use Rattle.instance_reader.specs.declared.faults.ReadFault.TheVariants as fault
use Rattle.instance_reader.specs.declared.places.Place.{Place}

-- ---- faults, and what holds of them

pub OnContents-map : (P Q : ReadFault → Type 0) → ((e : ReadFault) → P e → Q e) → (e : ReadFault) → OnContents P e → OnContents Q e
OnContents-map P Q f (fault.TooLong len) h = h
OnContents-map P Q f fault.NotJson h = h
OnContents-map P Q f (fault.Missing key) h = f (fault.Missing key) h
OnContents-map P Q f (fault.Kind place) h = f (fault.Kind place) h
OnContents-map P Q f (fault.TooLarge place) h = f (fault.TooLarge place) h
OnContents-map P Q f (fault.Shape place) h = f (fault.Shape place) h
OnContents-map P Q f (fault.Node place) h = f (fault.Node place) h
OnContents-map P Q f (fault.TypeName place) h = f (fault.TypeName place) h
OnContents-map P Q f (fault.BadCurve index curve) h = f (fault.BadCurve index curve) h
OnContents-map P Q f fault.Denominator h = f fault.Denominator h
OnContents-map P Q f (fault.Horizon limit) h = f (fault.Horizon limit) h
OnContents-map P Q f (fault.Level place) h = f (fault.Level place) h
OnContents-map P Q f fault.Memory h = h

-- a rule that is found broken
pub Refuses-OnContents : (found : Option ReadFault) (e : ReadFault) → Refuses found e → OnContents (λ fault. found ≡ Some fault) e
Refuses-OnContents found (fault.TooLong len) h = h
Refuses-OnContents found fault.NotJson h = h
Refuses-OnContents found (fault.Missing key) h = h
Refuses-OnContents found (fault.Kind place) h = h
Refuses-OnContents found (fault.TooLarge place) h = h
Refuses-OnContents found (fault.Shape place) h = h
Refuses-OnContents found (fault.Node place) h = h
Refuses-OnContents found (fault.TypeName place) h = h
Refuses-OnContents found (fault.BadCurve index curve) h = h
Refuses-OnContents found fault.Denominator h = h
Refuses-OnContents found (fault.Horizon limit) h = h
Refuses-OnContents found (fault.Level place) h = h
Refuses-OnContents found fault.Memory h = h

-- a rule that needs no denominator is the first that is broken
pub early_is_first : (c : Contents) (e : ReadFault) → Refuses (early_fault c) e → OnContents (IsFirstFaultIn c) e
early_is_first c e h = OnContents-map (λ fault. early_fault c ≡ Some fault) (IsFirstFaultIn c) (λ fault is. inl is) e (Refuses-OnContents (early_fault c) e h)

past_horizon_of : (limit : ℕ) (b : Bool) (e : ReadFault) → then_some b (fault.Horizon limit) ≡ Some e → e ≡ fault.Horizon limit
past_horizon_of limit false e h = cc
past_horizon_of limit true e h = cc

past_horizon_is : (d : ℕ) (given : Option ℕ) (e : ReadFault) → past_horizon d given ≡ Some e → (limit : ℕ) × (e ≡ fault.Horizon limit)
past_horizon_is d None e h = cc
past_horizon_is d (Some limit) e h = (limit, past_horizon_of limit (nat_lt (10 ^ 18) (d * limit)) e h)

unmapped : {A B : Type 0} (f : A → B) (o : Option A) → option_map f o ≡ None → o ≡ None
unmapped f None h = refl
unmapped f (Some x) h = cc

-- the rules on sizes and shapes hold
pub sizes_hold : (c : Contents) → size_fault c ≡ None → HasSmallNumbers c × HasShape c
sizes_hold c h =
    let large_then_shape = neither (option_map fault.TooLarge (first_large c)) _ h in
    let shape = neither (option_map fault.Shape (first_wrong_shape c)) None large_then_shape.1 in
    (small_contents c (unmapped fault.TooLarge (first_large c) large_then_shape.0), shaped_contents c (unmapped fault.Shape (first_wrong_shape c) shape.0))

cut_points : (c : Contents) (curves : List CutCurve) → AreGood c curves → points_of curves ≡ all_points c.curves
cut_points c curves h = ap points_of h.given ∙ map-map (λ k. k.points) (cut_curve c.capacity) c.curves

all_full : (c : Contents) (curves : List CutCurve) → AreGood c curves → All (λ k. k.full ≡ c.capacity) curves
all_full c curves h = rw h.given (All-map (λ k. k.full ≡ c.capacity) (cut_curve c.capacity) c.curves (λ k e within. refl))

all_curves : (c : Contents) (curves : List CutCurve) → AreGood c curves → All (IsCurve c.capacity) (all_points c.curves)
all_curves c curves h =
    let full = all_full c curves h in
    let each : All (λ x. IsCurve c.capacity x.points) curves =
    (λ k e within. subst (λ n. IsCurve n (get_or curves k e).points) (full k e within) (h.accepted k e within).curve) in
    subst (All (IsCurve c.capacity)) (cut_points c curves h) (All-map (IsCurve c.capacity) (λ k. k.points) curves each)

-- the denominator that the curves' crate tells
pub denominator_is : (c : Contents) (curves : List CutCurve) (d : ℕ) → AreGood c curves → IsCommonDenominator curves d → IsDenominatorOf c d
denominator_is c curves d h told = rw (← cut_points c curves h) (is_denominator curves c.capacity d (all_full c curves h) told)

pub multiple_of_curves : (c : Contents) (curves : List CutCurve) (d : ℕ) → AreGood c curves → IsDenominator c.capacity (all_points c.curves) d →
    All (λ k. IsMultipleOfSlopes k.full k.points d) curves
multiple_of_curves c curves d h is =
    let full = all_full c curves h in
    let multiple : All (λ p. IsMultipleOfSlopes c.capacity p d) (points_of curves) = rw (cut_points c curves h) is.multiple in
    let each = All-unmap (λ p. IsMultipleOfSlopes c.capacity p d) (λ k. k.points) curves multiple in
    (λ k e within. rw (full k e within) (each k e within))

-- no rule is broken that needs no denominator
no_early_fault : (c : Contents) (curves : List CutCurve) → AreGood c curves → early_fault c ≡ None
no_early_fault c curves h = rw (h.sizes, h.stations, h.good) refl

-- the rule on the denominator is the first that is broken
pub denominator_fault : (c : Contents) (curves : List CutCurve) → AreGood c curves →
    ((d : ℕ) → IsCommonDenominator curves d → 10 ^ 9 < d) → IsFirstFaultIn c fault.Denominator
denominator_fault c curves h past =
    let found = common_exists curves h.accepted in
    let large = past found.0 found.1 in
    let test : nat_lt (10 ^ 9) found.0 ≡ true = grind (arith, nat_tests, large) in
    inr (no_early_fault c curves h, (found.0, denominator_is c curves found.0 h found.1, rw test refl))

-- the rule on the limit is the first that is broken
horizon_is_first : (c : Contents) (curves : List CutCurve) (d limit : ℕ) (e : ReadFault) → AreGood c curves → IsDenominatorOf c d →
    d ≤ 10 ^ 9 → past_horizon d (given_limit c) ≡ Some e → e ≡ fault.Horizon limit → OnContents (IsFirstFaultIn c) e
horizon_is_first c curves d limit e h is small past e_is =
    let test : nat_lt (10 ^ 9) d ≡ false = grind (arith, nat_tests, small) in
    let told : late_fault d c ≡ Some e = rw (test, past) refl in
    let first : IsFirstFaultIn c e = inr (no_early_fault c curves h, (d, is, told)) in
    subst (OnContents (IsFirstFaultIn c)) (sym e_is) (subst (IsFirstFaultIn c) e_is first)

pub horizon_fault : (c : Contents) (curves : List CutCurve) (d : ℕ) (e : ReadFault) → AreGood c curves → IsDenominatorOf c d →
    d ≤ 10 ^ 9 → past_horizon d (given_limit c) ≡ Some e → OnContents (IsFirstFaultIn c) e
horizon_fault c curves d e h is small past =
    let found = past_horizon_is d (given_limit c) e past in
    horizon_is_first c curves d found.0 e h is small past found.1

-- the rule on levels is the first that is broken
pub level_fault : (c : Contents) (curves : List CutCurve) (d : ℕ) (place : Place) → AreGood c curves → IsDenominatorOf c d →
    d ≤ 10 ^ 9 → past_horizon d (given_limit c) ≡ None → first_level_past_full c ≡ Some place → IsFirstFaultIn c (fault.Level place)
level_fault c curves d place h is small within past =
    let test : nat_lt (10 ^ 9) d ≡ false = grind (arith, nat_tests, small) in
    inr (no_early_fault c curves h, (d, is, rw (test, within, past) refl))

pub parts_of : (c : Contents) (curves : List CutCurve) (scaled : List StationCurve) (numbers : List (Option ℕ)) (d limit : ℕ) → AreGood c curves →
    map (λ s. s.curve) scaled ≡ curves → All (λ s. TellsChargeTime s.curve.full d s.curve.points s.scaled) scaled → AreCurveNumbers c numbers →
    IsDenominator c.capacity (all_points c.curves) d → d ≤ 10 ^ 9 → d * limit ≤ 10 ^ 18 → first_level_past_full c ≡ None → AreParts c scaled numbers d limit
parts_of c curves scaled numbers d limit h same tells by_node is small within levels =
    let sizes = sizes_hold c h.sizes in
    let full : All (λ k. k.full ≡ c.capacity) (map (λ s. s.curve) scaled) = rw same (all_full c curves h) in
    let each = All-unmap (λ k. k.full ≡ c.capacity) (λ s. s.curve) scaled full in
    record {
      small = sizes.0;
      shape = sizes.1;
      levels = levels_within c levels;
      given = same ∙ h.given;
      good = all_curves c curves h;
      tells = λ k e inside. subst (λ n. TellsChargeTime n d (get_or scaled k e).curve.points (get_or scaled k e).scaled) (each k e inside) (tells k e inside);
      by_node = by_node;
      denominator = is;
      small_denominator = small;
      small_limit = within;
    }

pub meant_by : (c : Contents) (curves : List CutCurve) (d limit : ℕ) (g : Network) → AreGood c curves →
    IsDenominator c.capacity (all_points c.curves) d → d ≤ 10 ^ 9 → past_horizon d (given_limit c) ≡ None → first_level_past_full c ≡ None →
    limit ≡ unwrap_or (given_limit c) (10 ^ 18 / d) → g ≡ record (network_of d c) { limit = limit } → IsMeantBy c g
unfolding network_of
meant_by c curves d limit g h is small within levels is_limit made =
    let test : nat_lt (10 ^ 9) d ≡ false = grind (arith, nat_tests, small) in
    let late : late_fault d c ≡ None = rw (test, within, levels) refl in
    rw (made, is_limit) (record { denominator = is; early = no_early_fault c curves h; late = late; network = refl })

-- ---- the value and the bytes

-- the first broken rule of the contents is that of a value whose keys and kinds are right
first_of_value : (top : Data) → first_missing top ≡ None → first_wrong_kind top ≡ None → (e : ReadFault) → IsFirstFaultIn (contents_of top) e → IsFirstFaultOf top e
first_of_value top keys kinds e (inl h) = inl (rw (keys, kinds, h) refl)
first_of_value top keys kinds e (inr h) = inr (rw (keys, kinds, h.0) refl, h.1)

pub result_of_value : (top : Data) (r : Result Network ReadFault) → first_missing top ≡ None → first_wrong_kind top ≡ None →
    IfErr r (OnContents (IsFirstFaultIn (contents_of top))) → IfErr r (OnContents (IsFirstFaultOf top))
result_of_value top (Ok g) keys kinds h = tt
result_of_value top (Err e) keys kinds h = OnContents-map (IsFirstFaultIn (contents_of top)) (IsFirstFaultOf top) (first_of_value top keys kinds) e h

-- the first broken rule of the value is that of the bytes
fault_of_bytes : (bytes : List ℕ) (top : Data) (e : ReadFault) → length bytes ≤ longest → IsValueOf bytes top →
    OnContents (IsFirstFaultOf top) e → e ≢ fault.Memory → IsFirstFault bytes e
fault_of_bytes bytes top (fault.TooLong len) short value h other = absurd h
fault_of_bytes bytes top fault.NotJson short value h other = absurd h
fault_of_bytes bytes top (fault.Missing key) short value h other = (short, (top, value, h))
fault_of_bytes bytes top (fault.Kind place) short value h other = (short, (top, value, h))
fault_of_bytes bytes top (fault.TooLarge place) short value h other = (short, (top, value, h))
fault_of_bytes bytes top (fault.Shape place) short value h other = (short, (top, value, h))
fault_of_bytes bytes top (fault.Node place) short value h other = (short, (top, value, h))
fault_of_bytes bytes top (fault.TypeName place) short value h other = (short, (top, value, h))
fault_of_bytes bytes top (fault.BadCurve index curve) short value h other = (short, (top, value, h))
fault_of_bytes bytes top fault.Denominator short value h other = (short, (top, value, h))
fault_of_bytes bytes top (fault.Horizon limit) short value h other = (short, (top, value, h))
fault_of_bytes bytes top (fault.Level place) short value h other = (short, (top, value, h))
fault_of_bytes bytes top fault.Memory short value h other = absurd (other refl)

pub result_of_bytes : (bytes : List ℕ) (top : Data) (r : Result Network ReadFault) → length bytes ≤ longest → IsValueOf bytes top →
    IfErr r (OnContents (IsFirstFaultOf top)) → IfErr r (λ e. e ≢ fault.Memory → IsFirstFault bytes e)
result_of_bytes bytes top (Ok g) short value h = tt
result_of_bytes bytes top (Err e) short value h = fault_of_bytes bytes top e short value h
