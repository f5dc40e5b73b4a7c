use Rattle.std.proofs.Common.{◌≡◌, ◌∙◌, None, Some, sym}
use Rattle.std.proofs.lemmas.Result.{err_from_is_err_and}
use Rattle.instance_reader.proofs.FaultsLemmas.{denominator_fault, denominator_is, horizon_fault, level_fault, meant_by, multiple_of_curves, parts_of}
use Rattle.instance_reader.specs.Levels.{first_level_past_full}
use Rattle.instance_reader.specs.Meaning.{given_limit}
use Rattle.instance_reader.specs.Views.{contents_view}
use Rattle.instance_reader.proofs.read.read_fields.Goals as goal

pub returns-in_default-clause-fault : goal.returns-in_default-clause-fault
returns-in_default-clause-fault c =
    let slice = c.as_slice.ensures.value in
    let none = c.in_default.ensures.none in
    denominator_fault (contents_view c.args.fields) c.in_ok-curves.field-0.curves.items c.in_ok-curves.ensures.good (rw slice at none)

pub checked_limit-requires : goal.checked_limit-requires
checked_limit-requires c =
    let told = rw c.as_slice.ensures.value at c.in-Some.ensures.some in
    (denominator_is (contents_view c.args.fields) c.in_ok-curves.field-0.curves.items c.in-Some.denominator c.in_ok-curves.ensures.good told).some

pub returns-in_err-limit-clause-fault : goal.returns-in_err-limit-clause-fault
returns-in_err-limit-clause-fault c =
    let contents = contents_view c.args.fields in
    let told = rw c.as_slice.ensures.value at c.in-Some.ensures.some in
    let is = denominator_is contents c.in_ok-curves.field-0.curves.items c.in-Some.denominator c.in_ok-curves.ensures.good told in
    let given : c.smaller.result ≡ given_limit contents = c.smaller.ensures in
    let past = rw given at c.in_err-limit.ensures.err in
    let fault = horizon_fault contents c.in_ok-curves.field-0.curves.items c.in-Some.denominator _ c.in_ok-curves.ensures.good is c.in-Some.ensures.within past in
    let returned = err_from_is_err_and c.from_residual-in_err-limit.result c.from_residual-in_err-limit.ensures.1 in
    rw (returned.1, returned.2) fault

pub returns-in-Some-first_level_past_full-clause-fault : goal.returns-in-Some-first_level_past_full-clause-fault
returns-in-Some-first_level_past_full-clause-fault c =
    let contents = contents_view c.args.fields in
    let told = rw c.as_slice.ensures.value at c.in-Some.ensures.some in
    let is = denominator_is contents c.in_ok-curves.field-0.curves.items c.in-Some.denominator c.in_ok-curves.ensures.good told in
    let given : c.smaller.result ≡ given_limit contents = c.smaller.ensures in
    let within = rw given at c.in_ok-limit.ensures.ok in
    let past : first_level_past_full contents ≡ Some c.in-Some-first_level_past_full.place = sym c.first_level_past_full.ensures ∙ c.in-Some-first_level_past_full.is in
    level_fault contents c.in_ok-curves.field-0.curves.items c.in-Some.denominator c.in-Some-first_level_past_full.place c.in_ok-curves.ensures.good is
    c.in-Some.ensures.within within past

pub scaled-requires-clause-multiple : goal.scaled-requires-clause-multiple
scaled-requires-clause-multiple c =
    let contents = contents_view c.args.fields in
    let told = rw c.as_slice.ensures.value at c.in-Some.ensures.some in
    let is = denominator_is contents c.in_ok-curves.field-0.curves.items c.in-Some.denominator c.in_ok-curves.ensures.good told in
    multiple_of_curves contents c.in_ok-curves.field-0.curves.items c.in-Some.denominator c.in_ok-curves.ensures.good is

pub build-requires : goal.build-requires
build-requires c =
    let contents = contents_view c.args.fields in
    let told = rw c.as_slice.ensures.value at c.in-Some.ensures.some in
    let is = denominator_is contents c.in_ok-curves.field-0.curves.items c.in-Some.denominator c.in_ok-curves.ensures.good told in
    let levels : first_level_past_full contents ≡ None = sym c.first_level_past_full.ensures ∙ c.in_default-first_level_past_full.is in
    parts_of contents c.in_ok-curves.field-0.curves.items c.in-Ok.curves.items c.in_ok-curves.field-0.curve_numbers.items c.in-Some.denominator c.in_ok-limit.limit
    c.in_ok-curves.ensures.good c.in-Ok.ensures.same c.in-Ok.ensures.scaled c.in_ok-curves.ensures.by_node is c.in-Some.ensures.within c.in_ok-limit.ensures.within levels

pub returns-in-Ok-build-clause-instance : goal.returns-in-Ok-build-clause-instance
returns-in-Ok-build-clause-instance c =
    let contents = contents_view c.args.fields in
    let told = rw c.as_slice.ensures.value at c.in-Some.ensures.some in
    let is = denominator_is contents c.in_ok-curves.field-0.curves.items c.in-Some.denominator c.in_ok-curves.ensures.good told in
    let given : c.smaller.result ≡ given_limit contents = c.smaller.ensures in
    let within = rw given at c.in_ok-limit.ensures.ok in
    let limit = rw given at c.in_ok-limit.ensures.value in
    let levels : first_level_past_full contents ≡ None = sym c.first_level_past_full.ensures ∙ c.in_default-first_level_past_full.is in
    meant_by contents c.in_ok-curves.field-0.curves.items c.in-Some.denominator c.in_ok-limit.limit c.in-Ok-build.instance c.in_ok-curves.ensures.good
    is c.in-Some.ensures.within within levels limit c.in-Ok-build.ensures
