-- How the text of a proof for several kinds of vehicles is read from left to right: the proof as it
-- is written, or the first fault.
use Rattle.std.specs.Prelude.{ℕ, ◌+◌, ◌-◌, Bool, true, false, List, [], ◌∷◌, ◌++◌, Option, codes, length, nat_eq}
use Rattle.ev_model.specs.Network.{Network}
use Rattle.ev_text.specs.Readers.{Reader, answer, behind_word, choice_at, so_many, then_reads}
use Rattle.ev_text.specs.Scans.{whole_at}
use Rattle.certificate_parts.specs.Limits.{greatest_weight, most_items}
use Rattle.certificate_parts.specs.Reading.{basis_at, bound_at, label_at, node_where, plan_line, prices_at, weight_at}
use Rattle.certificate_parts.specs.Written.{WrittenLabel}
use Rattle.mixed_model.specs.Kinds.{first_of}
use Rattle.mixed_model.specs.declared.proof.MixedRoot.{MixedRoot}
use Rattle.mixed_model.specs.declared.proof.MixedRoot.TheVariants as root
use Rattle.mixed_model.specs.declared.proof.MixedRoute.{MixedRoute}
use Rattle.mixed_model.specs.declared.proof.MixedShare.{MixedShare}
use Rattle.mixed_text.specs.Written.{WrittenMixed}

-- a route of one of so many kinds, up to the end of the line: a kind that there isn't is out of
-- range
abbrev pub mixed_route_at : ℕ → Reader MixedRoute
mixed_route_at count =
    then_reads (whole_at (count - 1)) (λ kind.
    behind_word (codes " ") (then_reads plan_line (λ plan.
    answer (record { kind = kind; plan = plan }))))

abbrev pub mixed_share_at : ℕ → Reader MixedShare
mixed_share_at count =
    behind_word (codes "share ") (then_reads weight_at (λ share.
    behind_word (codes " ") (then_reads (mixed_route_at count) (λ route.
    answer (record { share = share; route = route })))))

abbrev pub mixed_column_at : ℕ → Reader MixedRoute
mixed_column_at count = behind_word (codes "column ") (mixed_route_at count)

abbrev pub mixed_exact_at : ℕ → Reader MixedRoot
mixed_exact_at count =
    then_reads weight_at (λ over.
    behind_word (codes " ") (then_reads (whole_at most_items) (λ many.
    behind_word (10 ∷ []) (then_reads (so_many many (mixed_share_at count)) (λ shares.
    answer (root.Exact over shares))))))

abbrev pub mixed_wide_at : ℕ → Network → Reader MixedRoot
mixed_wide_at count g =
    then_reads (whole_at most_items) (λ many.
    behind_word (10 ∷ []) (then_reads (so_many many (mixed_column_at count)) (λ columns.
    then_reads (basis_at g many) (λ basis. answer (root.Wide columns basis)))))

abbrev pub mixed_exact_or_wide : ℕ → Network → Bool → Reader MixedRoot
mixed_exact_or_wide count g true = mixed_exact_at count
mixed_exact_or_wide count g false = behind_word (codes "root wide ") (mixed_wide_at count g)

abbrev pub mixed_none_or_other : ℕ → Network → Bool → Reader MixedRoot
mixed_none_or_other count g true = answer root.None
mixed_none_or_other count g false =
    then_reads (choice_at (codes "root exact ")) (mixed_exact_or_wide count g)

-- the root, where helpers name nodes of a network
abbrev pub mixed_root_at : ℕ → Network → Reader MixedRoot
mixed_root_at count g =
    then_reads (choice_at (codes "root none" ++ 10 ∷ [])) (mixed_none_or_other count g)

-- the labels of the kind with a number
abbrev pub kind_at : ℕ → Network → Reader (List WrittenLabel)
kind_at kind g =
    behind_word (codes "kind ") (then_reads (node_where (λ n. nat_eq n kind)) (λ own.
    behind_word (codes " ") (then_reads (whole_at most_items) (λ many.
    behind_word (10 ∷ []) (so_many many (label_at g))))))

-- the labels of the kinds, in order, from a number on
abbrev pub kinds_at : ℕ → List Network → Reader (List (List WrittenLabel))
kinds_at kind [] = answer []
kinds_at kind (g ∷ kinds) =
    then_reads (kind_at kind g) (λ labels.
    then_reads (kinds_at (kind + 1) kinds) (λ others. answer (labels ∷ others)))

-- the lines behind that with the weight
abbrev pub lines_at : List Network → Option ℕ → MixedRoot → ℕ → Reader WrittenMixed
lines_at kinds bound root_part weight =
    then_reads (prices_at (first_of kinds)) (λ prices.
    then_reads (kinds_at 0 kinds) (λ labels.
    answer (record {
      bound = bound;
      root = root_part;
      weight = weight;
      prices = prices;
      labels = labels;
    })))

-- the text behind its first two lines
abbrev pub mixed_body_at : List Network → Reader WrittenMixed
mixed_body_at kinds =
    then_reads bound_at (λ bound.
    then_reads (mixed_root_at (length kinds) (first_of kinds)) (λ root_part.
    behind_word (codes "section ") (then_reads (whole_at greatest_weight) (λ weight.
    behind_word (10 ∷ []) (lines_at kinds bound root_part weight)))))

abbrev pub mixed_proof_at : List Network → Reader WrittenMixed
mixed_proof_at kinds =
    behind_word (codes "evroute mixed 1" ++ 10 ∷ [])
    (behind_word (codes "kinds ") (then_reads (node_where (λ n. nat_eq n (length kinds))) (λ own.
    behind_word (10 ∷ []) (mixed_body_at kinds))))
