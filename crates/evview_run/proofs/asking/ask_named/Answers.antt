use Rattle.std.proofs.Common.{◌∙◌, ℕ, Global, List, Option, Some, String, ap, string_bytes, sym}
use Rattle.std.specs.Option.{option_map}
use Rattle.job_frame.proofs.AskedFiles.{asks_none, asks_some}
use Rattle.evview_run.proofs.asking.ask_named.Goals as goal

pub returns-in-Some : goal.returns-in-Some
returns-in-Some g c =
    let named = ap (λ (o : Option (String Global)). option_map (λ s. string_bytes s) o) c.in-Some.is in
    asks_some (λ asked is. named ∙ ap (λ (bs : List ℕ). Some bs) (sym (is ∙ c.as_str.ensures.value))) c.ask_file.ensures

pub returns-in-None : goal.returns-in-None
returns-in-None g c = asks_none (g.S.Shelf.state c.args.shelf.now)
