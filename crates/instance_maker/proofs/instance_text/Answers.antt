use Rattle.std.proofs.Common.{◌≡◌, ◌∙◌, ap, ◌<◌, ◌≤◌, ◌+◌, ◌^◌, false, vec_len, length, Some, arith}
use Rattle.serde_json.specs.Data.{Data, depth}
use Rattle.serde_json.specs.Read.{read, max_depth}
use Rattle.serde_json.specs.View.{view}
use Rattle.serde_json.specs.Written.{has_float, compact_text}
use Rattle.instance_maker.specs.MadeInstance.{made_value}
use Rattle.instance_maker.proofs.MadeLemmas.{IsSmall-made, IfOk-map}
use Rattle.instance_maker.proofs.instance_text.Goals as goal

pub returns-clause-text : goal.returns-clause-text
returns-clause-text c =
    let few : c.args.customers + c.args.stations ≤ 399 = omega arith in
    let made : Data = made_value c.args.seed c.args.customers c.args.stations in
    let value : Data = view c.in_ok-instance_value.field-0 in
    let is_made : value ≡ made = c.in_ok-instance_value.ensures in
    let no_float : has_float value ≡ false = ap has_float is_made ∙ (IsSmall-made c.args.seed c.args.customers c.args.stations few).no_float in
    IfOk-map c.to_vec.result (λ text. has_float value ≡ false → text.items ≡ compact_text value) (λ text. text.items ≡ compact_text made) (λ text written. written no_float ∙ ap compact_text is_made) c.to_vec.ensures.text

pub returns-clause-reads_back : goal.returns-clause-reads_back
returns-clause-reads_back c =
    let few : c.args.customers + c.args.stations ≤ 399 = omega arith in
    let made : Data = made_value c.args.seed c.args.customers c.args.stations in
    let value : Data = view c.in_ok-instance_value.field-0 in
    let is_made : value ≡ made = c.in_ok-instance_value.ensures in
    let shallow : depth value ≤ max_depth = omega (arith, ap depth is_made, (IsSmall-made c.args.seed c.args.customers c.args.stations few).shallow) in
    IfOk-map c.to_vec.result (λ text. depth value ≤ max_depth → read text.items ≡ Some value) (λ text. read text.items ≡ Some made) (λ text reads. reads shallow ∙ ap (λ d. Some d) is_made) c.to_vec.ensures.reads_back

pub returns-clause-short : goal.returns-clause-short
returns-clause-short c =
    let few : c.args.customers + c.args.stations ≤ 399 = omega arith in
    let made : Data = made_value c.args.seed c.args.customers c.args.stations in
    let short : length (compact_text made) ≤ 1700000 = (IsSmall-made c.args.seed c.args.customers c.args.stations few).short in
    IfOk-map c.to_vec.result (λ text. text.items ≡ compact_text made) (λ text. vec_len text < 2 ^ 22) (λ text is_text. omega (arith, ap length is_text, short)) (returns-clause-text c)
