use Rattle.std.proofs.Common.{◌≡◌, true, subst, sym}
use Rattle.clap.specs.Words.{is_simple, is_simple_and_free}
use Rattle.view_words.proofs.Simple.{evview_is_free, evview_is_simple}
use Rattle.view_words.proofs.arguments.found_in.Goals as goal

pub matches_of-requires-clause-simple : goal.matches_of-requires-clause-simple
matches_of-requires-clause-simple c = subst (λ app. is_simple app ≡ true) (sym c.in_ok-command.ensures) evview_is_simple

pub matches_of-requires-clause-free : goal.matches_of-requires-clause-free
matches_of-requires-clause-free c = subst (λ app. is_simple_and_free app ≡ true) (sym c.in_ok-command.ensures) evview_is_free
