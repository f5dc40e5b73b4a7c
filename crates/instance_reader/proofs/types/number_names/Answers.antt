use Rattle.std.proofs.Common.{◌≡◌, ◌∙◌, ◌∷◌, ◌++◌, [], true, false, Some, map, take, sym, ap, arith}
use Rattle.std.proofs.lemmas.Grind.{common_steps}
use Rattle.instance_reader.proofs.TypesLemmas.{fresh_here, fresh_key, known_key, next_name, repeated_here}
use Rattle.instance_reader.specs.Types.{is_among, names_of}
use Rattle.instance_reader.specs.Views.{curve_view, name_view}
use Rattle.instance_reader.proofs.types.number_names.Goals as goal

pub loop-index-preserved : goal.loop-index-preserved
loop-index-preserved c =
    let x = c.index-curves-index.result in
    let i = c.loop-index.index in
    let grown = fresh_key c.loop-index.names.keys _ _ _ c.in-Ok-true.field-0-test c.in-Ok-true.ensures.added c.in-Ok-true.ensures.keys in
    let fresh : is_among (name_view x.type_name) (names_of (map curve_view (take i c.args.curves.now))) ≡ false =
    rw (← c.loop-index.invariant.names) grown.0 in
    record {
      names = grown.1 ∙ ap (λ names. names ++ name_view x.type_name ∷ []) c.loop-index.invariant.names
          ∙ sym (next_name c.args.curves.now i x c.loop-index-test.true c.index-curves-index.is);
      once = fresh_here c.args.curves.now i x c.loop-index-test.true c.index-curves-index.is fresh ∙ c.loop-index.invariant.once;
    }

pub returns-in-Ok-false-clause-err : goal.returns-in-Ok-false-clause-err
returns-in-Ok-false-clause-err c =
    let x = c.index-curves-index.result in
    let i = c.loop-index.index in
    let known : is_among (name_view x.type_name) (names_of (map curve_view (take i c.args.curves.now))) ≡ true =
    rw (← c.loop-index.invariant.names) (known_key c.loop-index.names.keys x.type_name _ c.in-Ok-false.field-0-test c.in-Ok-false.ensures.added) in
    sym c.loop-index.invariant.once ∙ repeated_here c.args.curves.now i x c.loop-index-test.true c.index-curves-index.is known
    ∙ ap Some (sym c.type_place.ensures)

pub returns-clause-once : goal.returns-clause-once
returns-clause-once = grind (arith, common_steps)
