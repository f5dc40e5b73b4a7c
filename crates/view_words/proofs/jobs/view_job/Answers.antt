use Rattle.std.proofs.Common.{rules, [], ◌∷◌, Some, option_map, sym}
use Rattle.view_words.proofs.Differ.{written_differ}
use Rattle.view_words.proofs.jobs.view_job.Goals as goal

pub returns-clause-is : goal.returns-clause-is
returns-clause-is c =
    let svg = option_map (λ text. text.now) c.first_of-svg.result in
    let json = option_map (λ text. text.now) c.first_of-json.result in
    let csv = option_map (λ text. text.now) c.first_of-csv.result in
    let map = option_map (λ text. text.now) c.first_of-map.result in
    let places = option_map (λ text. text.now) c.first_of-places.result in
    record {
      different = written_differ svg json csv map (places ∷ Some c.args.file.now ∷ Some c.args.plan.now ∷ []) _ _ _ _
          c.in_ok-owned-2.ensures c.in_ok-owned-3.ensures c.in_ok-owned-4.ensures c.in_ok-owned-5.ensures (sym c.if-not-given_differ.ensures);
      clock = search rules;
    }
