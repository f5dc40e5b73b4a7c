-- The nodes that have a curve.
use Rattle.std.proofs.Common.{◌≡◌, ◌∙◌, ℕ, zero, suc, ◌+◌, ◌<◌, ◌≤◌, List, [], ◌∷◌, ◌++◌, Option, Some, None, Bool, true, false, length, length-append, get_or, is_some, refl, sym, subst, inl, inr, arith}
use Rattle.std.specs.Prelude.{MatchOption}
use Rattle.std.specs.Option.{IsSome}
use Rattle.std.specs.List.{All}
use Rattle.std.proofs.Math.ListN.{get_or-append}
use Rattle.std.proofs.Math.Seq.{get_or-append_seam}
use Rattle.std.proofs.lemmas.Bool.{cases_Bool, cases_eq}
use Rattle.std.proofs.lemmas.List.Elements.{All-append, All-cons, All-get_or, All-nil}
use Rattle.ev_model.specs.Network.{Network, curve_at, node_count}
use Rattle.instance_reader.specs.Instance.{IsCurveAt}
use Rattle.level_table.specs.Stations.{stations, stations_below}

-- what is told of a node's curve
pub told_curve : {X : Type 0} (now : X → List (ℕ × ℕ)) (g : Network) (node : ℕ) (told : Option X) →
    MatchOption told (curve_at g node ≡ None) (λ s. IsCurveAt g node (now s)) → is_some (curve_at g node) ≡ is_some told
told_curve now g node None is = rw is refl
told_curve now g node (Some s) is = rw is.1 refl

-- the next node is a station, or it is none
pub with_next : (g : Network) (n : ℕ) → is_some (curve_at g n) ≡ true → stations_below g (n + 1) ≡ stations_below g n ++ n ∷ []
with_next g n has =
    let same : suc n ≡ n + 1 = omega arith in
    subst (λ m. stations_below g m ≡ stations_below g n ++ n ∷ []) same (here has)
  where
    here : is_some (curve_at g n) ≡ true → stations_below g (suc n) ≡ stations_below g n ++ n ∷ []
    here has = rw has refl

pub without_next : (g : Network) (n : ℕ) → is_some (curve_at g n) ≡ false → stations_below g (n + 1) ≡ stations_below g n
without_next g n none =
    let same : suc n ≡ n + 1 = omega arith in
    subst (λ m. stations_below g m ≡ stations_below g n) same (here none)
  where
    here : is_some (curve_at g n) ≡ false → stations_below g (suc n) ≡ stations_below g n
    here none = rw none refl

-- each is a node with a curve
record IsStation (g : Network) (most node : ℕ) : Type 0 where
  known : node < most
  curve : IsSome (curve_at g node)

each_below : (g : Network) (most n : ℕ) → n ≤ most → All (IsStation g most) (stations_below g n)
each_below g most zero within = All-nil (IsStation g most)
each_below g most (suc n) within =
    let rest : All (IsStation g most) (stations_below g n) = each_below g most n (omega (arith, within)) in
    elim (cases_Bool (is_some (curve_at g n))) [
      | inl has ↦ rw has (All-append (IsStation g most) (stations_below g n) (n ∷ []) rest (All-cons (IsStation g most) n [] (record { known = omega (arith, within); curve = has }) (All-nil (IsStation g most))))
      | inr none ↦ rw none rest
    ]

each : (g : Network) (j : ℕ) → j < length (stations g) → IsStation g (node_count g) (get_or (stations g) j 0)
unfolding stations
each g j h = All-get_or (IsStation g (node_count g)) (stations g) j 0 h (each_below g (node_count g) (node_count g) (omega arith))

pub station-known : (g : Network) (j : ℕ) → j < length (stations g) → get_or (stations g) j 0 < node_count g
station-known g j h = (each g j h).known

pub station-curve : (g : Network) (j : ℕ) → j < length (stations g) → IsSome (curve_at g (get_or (stations g) j 0))
station-curve g j h = (each g j h).curve

-- a node with a curve stands in the list
StandsAt : List ℕ → ℕ → Type 0
StandsAt xs node = (j : ℕ) × (j < length xs) × (get_or xs j 0 ≡ node)

stands_before : (xs : List ℕ) (last node : ℕ) → StandsAt xs node → StandsAt (xs ++ last ∷ []) node
unfolding StandsAt
stands_before xs last node at =
    (at.0, omega (arith, at.1, length-append xs (last ∷ [])), get_or-append xs (last ∷ []) 0 at.0 at.1 ∙ at.2)

stands_last : (xs : List ℕ) (node : ℕ) → StandsAt (xs ++ node ∷ []) node
unfolding StandsAt
stands_last xs node = (length xs, omega (arith, length-append xs (node ∷ [])), get_or-append_seam xs node [] 0)

stands_below : (g : Network) (node n : ℕ) → node < n → is_some (curve_at g node) ≡ true → StandsAt (stations_below g n) node
stands_below g node zero less has = absurd (omega (arith, less))
stands_below g node (suc n) less has = elim (cases_eq node n) [
  | inl same ↦ subst (λ m. StandsAt (stations_below g (suc m)) node) same (rw has (stands_last (stations_below g node) node))
  | inr other ↦ elim (cases_Bool (is_some (curve_at g n))) [
    | inl next ↦ rw next (stands_before (stations_below g n) n node (stands_below g node n (omega (arith, less, other)) has))
    | inr none ↦ rw none (stands_below g node n (omega (arith, less, other)) has)
  ]
]

pub station-number : (g : Network) (node : ℕ) → node < node_count g → IsSome (curve_at g node) →
    (j : ℕ) × (j < length (stations g)) × (get_or (stations g) j 0 ≡ node)
unfolding stations StandsAt
station-number g node known has = stands_below g node (node_count g) known has
