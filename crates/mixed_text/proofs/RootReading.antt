-- The readers of routes with their kinds, and of the root over them, read exactly their texts.
use Rattle.std.proofs.Common.{◌≡◌, inl, inr, ℕ, ◌-◌, ◌≤◌, List, [], ◌∷◌, ◌++◌, decimal, codes, length, nat_le, refl, sym, subst, append_assoc, arith}
use Rattle.std.specs.List.{All}
use Rattle.ev_model.specs.Network.{Network}
use Rattle.ev_text.specs.Readers.{so_many}
use Rattle.ev_text.specs.Texts.{AreLooseRun, AreRun, StandsUnlessLonger, joined_texts}
use Rattle.ev_text.proofs.ReadingLaws.{Reads}
use Rattle.ev_text.proofs.RunLaws.{reads-so_many}
use Rattle.ev_text.proofs.Choices.{parts-either, reads-choice}
use Rattle.ev_text.proofs.Lines.{loose_length, own_length}
use Rattle.ev_text.proofs.Numbers.{Anything, ranged, upto}
use Rattle.ev_text.proofs.Records.{parts-behind, parts-last, parts-none, parts-own, parts-then, reads-record}
use Rattle.certificate_parts.specs.Limits.{greatest_weight, most_items}
use Rattle.certificate_parts.specs.Ranges.{customer_count}
use Rattle.certificate_parts.specs.Texts.{basis_text}
use Rattle.certificate_parts.specs.WrittenRanges.{EntryIs, next_entry}
use Rattle.certificate_parts.specs.declared.entry.BasisEntry.{BasisEntry}
use Rattle.certificate_parts.proofs.BasisLines.{reads-basis}
use Rattle.certificate_parts.proofs.PlanParts.{reads-plan}
use Rattle.mixed_model.specs.Kinds.{most_kinds}
use Rattle.mixed_model.specs.Ranges.{RouteFits}
use Rattle.mixed_model.specs.declared.proof.MixedRoot.TheVariants as root
use Rattle.mixed_model.specs.declared.proof.MixedRoute.{MixedRoute}
use Rattle.mixed_model.specs.declared.proof.MixedShare.{MixedShare}
use Rattle.mixed_text.specs.MixedTexts.{mixed_column_text, mixed_root_text, mixed_route_text, mixed_share_text}
use Rattle.mixed_text.specs.Reading.{mixed_column_at, mixed_exact_or_wide, mixed_none_or_other, mixed_root_at, mixed_route_at, mixed_share_at}
use Rattle.mixed_text.specs.WrittenRanges.{MixedRootIs, MixedRootLoose, MixedShareIs, MixedShareLoose}
use Rattle.mixed_text.proofs.TextParts.{other_behind}

module _ (count : ℕ) (some : 1 ≤ count) (few : count ≤ most_kinds) where
  reads-route : Reads StandsUnlessLonger (mixed_route_at count) mixed_route_text (RouteFits count) (RouteFits count) Anything
  reads-route =
      reads-record
      (parts-then (upto (count - 1) (omega (arith, few)))
      (λ kind. parts-behind 32 [] (parts-last reads-plan (λ plan. record { kind = kind; plan = plan })))
      (λ kind plan rest is fits any. refl))
      (record {
        parts = λ r is. ((r.kind, r.plan), (let known = is.kind in omega (arith, known), is.plan), refl, λ rest any. tt);
        fits = λ p is. record { kind = omega (arith, some, is.0); plan = is.1 };
        loose = λ p is. record { kind = omega (arith, some, is.0); plan = is.1 };
        texts = λ p is. refl;
      })

  reads-column : Reads StandsUnlessLonger (mixed_column_at count) mixed_column_text (RouteFits count) (RouteFits count) Anything
  reads-column =
      reads-record (parts-behind 99 (codes "olumn ") (parts-own reads-route))
      (record { parts = λ r is. (r, is, refl, λ rest any. tt); fits = λ r is. is; loose = λ r is. is; texts = λ r is. refl })

  reads-share : Reads StandsUnlessLonger (mixed_share_at count) mixed_share_text (MixedShareIs count) (MixedShareLoose count) Anything
  reads-share =
      reads-record
      (parts-behind 115 (codes "hare ") (parts-then (ranged greatest_weight (λ n. nat_le 1 n) (omega arith))
      (λ share. parts-behind 32 [] (parts-last reads-route (λ route. record { share = share; route = route })))
      (λ share route rest is fits any. refl)))
      (record {
        parts = λ x is. ((x.share, x.route), (is.share, is.route), refl, λ rest any. tt);
        fits = λ p is. record { share = is.0; route = is.1 };
        loose = λ p is. record { share = is.0; route = is.1 };
        texts = λ p is. refl;
      })

  shares_read : (many : ℕ) → Reads StandsUnlessLonger (so_many many (mixed_share_at count)) (joined_texts mixed_share_text) (λ shares. All (MixedShareIs count) shares × (length shares ≡ many)) (AreLooseRun (MixedShareLoose count) many) Anything
  shares_read many =
      reads-so_many StandsUnlessLonger (mixed_share_at count) mixed_share_text (MixedShareIs count) (MixedShareLoose count) Anything reads-share (λ x rest. tt) many

  columns_read : (many : ℕ) → Reads StandsUnlessLonger (so_many many (mixed_column_at count)) (joined_texts mixed_column_text) (λ columns. All (RouteFits count) columns × (length columns ≡ many)) (AreLooseRun (RouteFits count) many) Anything
  columns_read many =
      reads-so_many StandsUnlessLonger (mixed_column_at count) mixed_column_text (RouteFits count) (RouteFits count) Anything reads-column (λ p rest. tt) many

  exact_lines : (over many : ℕ) (shares : List MixedShare) → length shares ≡ many
      → codes "root exact " ++ (decimal over ++ (codes " " ++ (decimal many ++ (10 ∷ joined_texts mixed_share_text shares)))) ≡ mixed_root_text (root.Exact over shares)
  exact_lines over many shares is =
      subst (λ (n : ℕ). codes "root exact " ++ (decimal over ++ (codes " " ++ (decimal n ++ (10 ∷ joined_texts mixed_share_text shares)))) ≡ mixed_root_text (root.Exact over shares)) is (simp append_assoc)

  wide_lines : (many : ℕ) (columns : List MixedRoute) (basis : List BasisEntry) → length columns ≡ many
      → codes "root wide " ++ (decimal many ++ (10 ∷ (joined_texts mixed_column_text columns ++ basis_text basis))) ≡ mixed_root_text (root.Wide columns basis)
  wide_lines many columns basis is =
      subst (λ (n : ℕ). codes "root wide " ++ (decimal n ++ (10 ∷ (joined_texts mixed_column_text columns ++ basis_text basis))) ≡ mixed_root_text (root.Wide columns basis)) is (simp append_assoc)

  pub reads-root : (g : Network) → Reads StandsUnlessLonger (mixed_root_at count g) mixed_root_text (MixedRootIs count g) (MixedRootLoose count g) Anything
  reads-root g =
      reads-record
      (parts-either (mixed_none_or_other count g) (reads-choice 114 (codes "oot none" ++ 10 ∷ [])) (parts-none root.None)
      (parts-either (mixed_exact_or_wide count g) (reads-choice 114 (codes "oot exact "))
      (parts-then (ranged greatest_weight (λ n. nat_le 1 n) (omega arith))
      (λ over. parts-behind 32 [] (parts-then (upto most_items (omega arith)) (λ many. parts-behind 10 [] (parts-last (shares_read many) (λ shares. root.Exact over shares))) (λ many shares rest small are any. refl)))
      (λ over more rest is fits any. refl))
      (parts-behind 114 (codes "oot wide ") (parts-then (upto most_items (omega arith))
      (λ many. parts-behind 10 [] (parts-then (columns_read many) (λ columns. parts-last (reads-basis g many) (λ basis. root.Wide columns basis)) (λ columns basis rest are is any. tt)))
      (λ many more rest small fits any. refl)))
      (λ p rest fits any. tt) (λ p rest fits any. other_behind (codes "root ") 101 119 (codes "xact ") _ (λ same. omega arith)))
      (λ none rest fits any. tt)
      (elim [
        | inl p ↦ λ rest fits any. other_behind (codes "root ") 110 101 (codes "one" ++ 10 ∷ []) _ (λ same. omega arith)
        | inr p ↦ λ rest fits any. other_behind (codes "root ") 110 119 (codes "one" ++ 10 ∷ []) _ (λ same. omega arith)
      ]))
      (record {
        parts = elim [
          | root.None ↦ λ is. (inl tt, tt, refl, λ rest any. tt)
          | root.Exact over shares ↦ λ is. (inr (inl (over, (length shares, shares))), (is.0, (is.1, (is.2, refl))), refl, λ rest any. tt)
          | root.Wide columns basis ↦ λ is. (inr (inr (length columns, (columns, basis))), (is.0, ((is.1, refl), is.2)), refl, λ rest any. tt)
        ];
        fits = elim [
          | inl none ↦ λ is. tt
          | inr (inl p) ↦ λ is. (is.0, omega (arith, is.1.1.1, is.1.0), is.1.1.0)
          | inr (inr p) ↦ λ is. (omega (arith, is.1.0.1, is.0), is.1.0.0, subst (λ (n : ℕ). AreRun (EntryIs g n) next_entry (customer_count g) [] p.1.1) (sym is.1.0.1) is.1.1)
        ];
        loose = elim [
          | inl none ↦ λ is. tt
          | inr (inl p) ↦ λ is. (is.0, omega (arith, loose_length (MixedShareLoose count) p.1.0 p.1.1 is.1.1, is.1.0), own_length (MixedShareLoose count) p.1.0 p.1.1 is.1.1)
          | inr (inr p) ↦ λ is. (omega (arith, loose_length (RouteFits count) p.0 p.1.0 is.1.0, is.0), own_length (RouteFits count) p.0 p.1.0 is.1.0, is.1.1)
        ];
        texts = elim [
          | inl none ↦ λ is. refl
          | inr (inl p) ↦ λ is. exact_lines p.0 p.1.0 p.1.1 (loose_length (MixedShareLoose count) p.1.0 p.1.1 is.1.1)
          | inr (inr p) ↦ λ is. wide_lines p.0 p.1.0 p.1.1 (loose_length (RouteFits count) p.0 p.1.0 is.1.0)
        ];
      })
