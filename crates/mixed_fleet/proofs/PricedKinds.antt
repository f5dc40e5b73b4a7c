-- One kind more has been priced.
use Rattle.std.proofs.Common.{◌≡◌, ◌∙◌, ℕ, ◌+◌, List, [], ◌∷◌, length, sym, ap, subst, arith, ℤ}
use Rattle.std.specs.List.{All}
use Rattle.std.proofs.lemmas.List.{length-append}
use Rattle.std.proofs.lemmas.List.Elements.{All-append, All-cons}
use Rattle.ev_model.specs.Network.{Network}
use Rattle.piece_fn.specs.declared.label.Label.{Label}
use Rattle.price_loop.specs.Problems.{IsEarning}
use Rattle.price_loop.specs.declared.earners.Earned.{Earned}
use Rattle.price_loop.specs.declared.earners.Earned.TheVariants.{Better, Closed}
use Rattle.mixed_fleet.specs.Gathered.{AreGathered, IsGathered}
use Rattle.mixed_fleet.specs.Problem.{AreClosedBelow, IsEarnedBy, problem_of}
use Rattle.mixed_fleet.specs.declared.searched.Searched.{Searched}
use Rattle.mixed_fleet.proofs.KindAnswers.{closed_more}

module _ (kinds : List Network) (n weight : ℕ) (prices : List ℤ) (found : List Searched) (lists : List (List Label)) (before : AreGathered kinds n weight prices found lists) where
  abbrev Earns : Searched → Type 0
  Earns r = IsEarning (problem_of kinds) weight prices r

  pub gathered_more : (earned : Earned Searched (List Label)) (new_found : List Searched) (new_lists : List (List Label)) → IsEarnedBy kinds n weight prices earned → IsGathered earned found lists new_found new_lists
      → AreGathered kinds (n + 1) weight prices new_found new_lists
  gathered_more (Better first further) new_found new_lists by is =
      let long = ap (λ (rs : List Searched). length rs) is.0 ∙ length-append found (first ∷ further.items) in
      let some : new_found ≡ [] → ⊥ = λ none. (let e = ap (λ (rs : List Searched). length rs) none in omega (arith, long, e)) in
      record {
        earn = subst (λ (rs : List Searched). All Earns rs) (sym is.0) (All-append Earns found (first ∷ further.items) before.earn (All-cons Earns first further.items by.0 by.1));
        one_list = λ none. absurd (some none);
        closed = λ none. absurd (some none);
      }
  gathered_more (Closed labels) new_found new_lists by is = record {
    earn = subst (λ (rs : List Searched). All Earns rs) (sym is.0) before.earn;
    one_list = λ none.
        let count = before.one_list (sym is.0 ∙ none) in
        let long = ap (λ (ls : List (List Label)). length ls) is.1 ∙ length-append lists (labels ∷ []) in
        omega (arith, count, long);
    closed = λ none.
        let old : found ≡ [] = sym is.0 ∙ none in
        subst (λ (ls : List (List Label)). AreClosedBelow kinds (n + 1) weight prices ls) (sym is.1)
        (closed_more kinds n weight prices lists labels (before.one_list old) (before.closed old) by);
  }
