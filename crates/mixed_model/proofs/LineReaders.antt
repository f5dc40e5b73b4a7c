-- The reader of a route's line reads exactly its text.
use Rattle.std.proofs.Common.{◌≡◌, ◌≢◌, ℕ, ◌-◌, ◌<◌, ◌≤◌, List, [], ◌∷◌, ◌++◌, codes, decimal, refl, sym, subst, append-nil, arith}
use Rattle.ev_model.specs.declared.Stop.{Stop}
use Rattle.ev_text.specs.Numerals.{BeginsWithoutDigit}
use Rattle.ev_text.specs.Readers.{Reader, answer, behind_word, then_reads}
use Rattle.ev_text.specs.Scans.{whole_at}
use Rattle.ev_text.specs.Texts.{parted_texts}
use Rattle.ev_text.proofs.ListLaws.{AreParted, reader-parted}
use Rattle.ev_text.proofs.ReaderLaws.{IsReader, reader-answer, reader-as, reader-behind, reader-number, reader-then}
use Rattle.route_plan.specs.PlanReading.{stop_at, stops_at}
use Rattle.route_plan.specs.PlanTexts.{FitsText, IsSmallStop, stop_text}
use Rattle.route_plan.proofs.PlanReaders.{AnyBehind, BeforeStop, reader-stop}
use Rattle.mixed_model.specs.Kinds.{most_kinds}
use Rattle.mixed_model.specs.declared.proof.MixedRoute.{MixedRoute}
use Rattle.mixed_model.specs.MixedReading.{mixed_route_at}
use Rattle.mixed_model.specs.MixedTexts.{FitsRoute, mixed_route_text}

abbrev stops_text : List Stop → List ℕ
stops_text stops = parted_texts (codes " ") stop_text stops ++ 10 ∷ []

reader-stops : IsReader stops_at stops_text FitsText AnyBehind
reader-stops =
    reader-as stops_at stops_text stops_text Parted FitsText AnyBehind AnyBehind
    (record { texts = λ stops is. refl; to = λ stops is. record { some = is.0; small = is.1 }; from = λ stops is. (is.some, is.small); before = λ stops rest is before. tt })
    (reader-parted 32 10 [] stop_at stop_text IsSmallStop BeforeStop reader-stop ten_differs before_space before_feed)
  where
    ten_differs : ◌≢◌ {A = ℕ} 10 32
    ten_differs same = omega arith

    before_space : (s : Stop) (rest : List ℕ) → IsSmallStop s → BeforeStop s (32 ∷ rest)
    before_space s rest small = (refl, λ same. absurd (omega arith))

    before_feed : (s : Stop) (rest : List ℕ) → IsSmallStop s → BeforeStop s (10 ∷ rest)
    before_feed s rest small = (refl, λ same. absurd (omega arith))

    Parted : List Stop → Type 0
    Parted = AreParted 32 10 [] stop_at stop_text IsSmallStop BeforeStop reader-stop ten_differs before_space before_feed

made : ℕ → List Stop → MixedRoute
made kind stops = record { kind = kind; plan = record { stops = stops } }

module _ (kinds : ℕ) where
  abbrev HasKind : ℕ → MixedRoute → Type 0
  HasKind kind r = FitsRoute kinds r × (r.kind ≡ kind)

  abbrev HasStops : ℕ → List Stop → MixedRoute → Type 0
  HasStops kind stops r = HasKind kind r × (r.plan.stops ≡ stops)

  reader-made : (kind : ℕ) (stops : List Stop) → kind < kinds → FitsText stops → IsReader (answer (made kind stops)) (λ r. []) (HasStops kind stops) AnyBehind
  unfolding made
  reader-made kind stops known fits =
      reader-as (answer (made kind stops)) (λ r. []) (λ r. []) (λ r. r ≡ made kind stops) (HasStops kind stops) AnyBehind AnyBehind
      (record {
        texts = λ r is. refl;
        to = λ r is. subst (HasStops kind stops) (sym is) ((record { kind = known; stops = fits }, refl), refl);
        from = λ r is. λ i. record { kind = is.0.1 i; plan = record { stops = is.1 i } };
        before = λ r rest is before. tt;
      })
      (reader-answer (made kind stops))

  abbrev stops_behind : ℕ → Reader MixedRoute
  stops_behind kind = then_reads stops_at (λ stops. answer (record { kind = kind; plan = record { stops = stops } }))

  reader-stops_behind : (kind : ℕ) → kind < kinds → IsReader (stops_behind kind) (λ r. stops_text r.plan.stops) (HasKind kind) AnyBehind
  unfolding made
  reader-stops_behind kind known =
      reader-as (stops_behind kind) (λ r. stops_text r.plan.stops ++ []) (λ r. stops_text r.plan.stops) (HasKind kind) (HasKind kind) AnyBehind AnyBehind
      (record { texts = λ r is. append-nil (stops_text r.plan.stops); to = λ r is. is; from = λ r is. is; before = λ r rest is before. tt })
      (reader-then stops_at (λ stops. answer (made kind stops)) stops_text (λ stops r. []) FitsText (HasKind kind) AnyBehind AnyBehind (λ r. r.plan.stops)
      reader-stops (λ stops fits. reader-made kind stops known fits) (λ r is. is.0.stops) (λ r rest is before. tt))

  abbrev kind_behind : Reader MixedRoute
  kind_behind = then_reads (whole_at (kinds - 1)) (λ kind. behind_word (codes " route ") (stops_behind kind))

  reader-kind_behind : 1 ≤ kinds → kinds ≤ most_kinds → IsReader kind_behind (λ r. decimal r.kind ++ (codes " route " ++ stops_text r.plan.stops)) (FitsRoute kinds) AnyBehind
  reader-kind_behind some few =
      reader-then (whole_at (kinds - 1)) (λ kind. behind_word (codes " route ") (stops_behind kind)) (λ n. decimal n) (λ kind r. codes " route " ++ stops_text r.plan.stops)
      (λ n. n ≤ kinds - 1) (FitsRoute kinds) (λ n rest. BeginsWithoutDigit rest) AnyBehind (λ r. r.kind) (reader-number (kinds - 1) (omega (arith, few)))
      (λ kind within. reader-behind 32 (codes "route ") (stops_behind kind) (λ r. stops_text r.plan.stops) (HasKind kind) AnyBehind (reader-stops_behind kind (omega (arith, some, within))))
      (λ r is. let known = is.kind in omega (arith, known)) (λ r rest is before. refl)

  pub reader-route : 1 ≤ kinds → kinds ≤ most_kinds → IsReader (mixed_route_at kinds) mixed_route_text (FitsRoute kinds) AnyBehind
  reader-route some few =
      reader-behind 107 (codes "ind ") kind_behind (λ r. decimal r.kind ++ (codes " route " ++ stops_text r.plan.stops)) (FitsRoute kinds) AnyBehind (reader-kind_behind some few)
