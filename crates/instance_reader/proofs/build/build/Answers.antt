use Rattle.std.proofs.Common.{◌≡◌, ◌∙◌, length, map, refl, rules, arith}
use Rattle.std.proofs.lemmas.Grind.{elements}
use Rattle.instance_reader.proofs.PartsLemmas.{parts_make_an_instance, parts_make_the_network}
use Rattle.instance_reader.specs.Contents.{nodes_of}
use Rattle.instance_reader.specs.Customers.{AreCustomers}
use Rattle.instance_reader.specs.Meaning.{plug_time_of_number}
use Rattle.instance_reader.specs.Views.{contents_view}
use Rattle.instance_reader.specs.declared.instance.Instance.TheInside.{Inside}
use Rattle.instance_reader.proofs.build.build.Goals as goal

pub invariant_of-result : goal.invariant_of-result
invariant_of-result c =
    let contents = contents_view c.args.fields in
    let numbers : c.len.result ≡ length c.args.curve_numbers.items = search rules in
    let count : c.len.result ≡ nodes_of contents = numbers ∙ c.requires.by_node.all in
    let all : AreCustomers c.args.curve_numbers.items (length c.args.curve_numbers.items) c.in_ok-nodes.field-0.nodes.items c.in_ok-nodes.field-0.numbers.items =
    search rules in
    let plugs : c.in_ok-plug_times.plug_times.items ≡ map (plug_time_of_number contents.curves) c.args.curve_numbers.items = search rules in
    let customers = rw c.requires.by_node.all at all in
    parts_make_an_instance _ contents refl refl refl plugs refl refl (rw (← count) c.in_ok-process_times.ensures) c.requires customers

pub returns : goal.returns
returns c =
    let contents = contents_view c.args.fields in
    let numbers : c.len.result ≡ length c.args.curve_numbers.items = search rules in
    let count : c.len.result ≡ nodes_of contents = numbers ∙ c.requires.by_node.all in
    let plugs : c.in_ok-plug_times.plug_times.items ≡ map (plug_time_of_number contents.curves) c.args.curve_numbers.items = search rules in
    let made : Inside = record {
      max_q = c.args.fields.max_q;
      min_q = c.args.fields.min_q;
      home_q = c.args.fields.home_q;
      energies = c.args.fields.energies;
      times = c.args.fields.times;
      process_times = c.in_ok-process_times.process_times;
      curves = c.args.curves;
      curve_numbers = c.args.curve_numbers;
      plug_times = c.in_ok-plug_times.plug_times;
      customers = c.in_ok-nodes.field-0.nodes;
      customer_numbers = c.in_ok-nodes.field-0.numbers;
      denominator = c.args.denominator;
      limit = c.args.limit;
    } in
    parts_make_the_network made contents refl refl refl plugs refl refl (rw (← count) c.in_ok-process_times.ensures) c.requires

pub plug_times-requires : goal.plug_times-requires
plug_times-requires = grind (arith, elements)
