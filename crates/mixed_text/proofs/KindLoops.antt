-- Reading the labels of each kind, one kind after another.
use Rattle.std.proofs.Common.{◌≡◌, ◌∙◌, inl, inr, ℕ, ◌+◌, ◌<◌, ◌≤◌, List, [], ◌∷◌, ◌++◌, drop, get_or, length, length-append, map, Ok, Err, sym, ap, subst, arith, append-nil}
use Rattle.std.specs.List.{All}
use Rattle.std.specs.Prelude.{slice_index_or}
use Rattle.std.proofs.Math.ListN.{drop_of_length-le, get_or-append}
use Rattle.std.proofs.Math.Seq.{get_or-append_seam}
use Rattle.std.proofs.lemmas.Bool.{cases_eq}
use Rattle.std.proofs.lemmas.List.{drop_more}
use Rattle.std.proofs.lemmas.List.Elements.{All-from_get_or, All-nil}
use Rattle.ev_model.specs.Network.{IsNetwork, Network}
use Rattle.ev_text.specs.Scans.{and_then}
use Rattle.ev_text.proofs.Loops.{in_front, in_front-none, in_front-twice}
use Rattle.piece_fn.specs.declared.label.Label.{Label}
use Rattle.certificate_parts.specs.Ranges.{HasSet}
use Rattle.certificate_parts.specs.Refusals.{or_refused}
use Rattle.certificate_parts.specs.Written.{WrittenLabel}
use Rattle.certificate_parts.specs.declared.cert_text.CertText.{CertText}
use Rattle.certificate_parts.proofs.ItemLoops.{all_more, refused_since}
use Rattle.mixed_model.specs.Kinds.{AreKinds, first_of, network_of, no_network}
use Rattle.mixed_text.specs.MixedIn.{HaveSets, ListFits}
use Rattle.mixed_text.specs.Reading.{kind_at, kinds_at}
use Rattle.mixed_text.specs.Written.{written_labels}
use Rattle.mixed_text.proofs.KindNumbers.{agrees, by_first}
use Rattle.mixed_text.proofs.TextParts.{map_more}

-- one number more
below_more : (P : ℕ → Type 0) (n : ℕ) → ((k : ℕ) → k < n → P k) → P n → (k : ℕ) → k < n + 1 → P k
below_more P n before here k below = elim (cases_eq k n) [
  | inl same ↦ subst P (sym same) here
  | inr other ↦ before k (omega (arith, other, below))
]

module _ (kinds : List Network) where
  abbrev written : List (List Label) → List (List WrittenLabel)
  written lists = map (written_labels (first_of kinds)) lists

  -- the lists of the kinds below a number
  pub record KindsUpTo (start : List ℕ × ℕ) (lists : List (List Label)) (kind : ℕ) (s : List ℕ × ℕ) : Type 0 where
    pub so_far : in_front (written lists) (kinds_at kind (drop kind kinds) s) ≡ kinds_at 0 kinds start
    pub many : length lists ≡ kind
    pub fit : (k : ℕ) → k < kind → ListFits (network_of kinds k) (slice_index_or lists k [])
    pub kept : HaveSets lists
    pub networks : (k : ℕ) → k < kind → IsNetwork (network_of kinds k)

  pub kinds-begin : (start : List ℕ × ℕ) (lists : List (List Label)) → lists ≡ [] → KindsUpTo start lists 0 start
  kinds-begin start lists none = record {
    so_far = ap (λ xs. in_front (written xs) (kinds_at 0 kinds start)) none ∙ in_front-none (kinds_at 0 kinds start);
    many = ap (λ (xs : List (List Label)). length xs) none;
    fit = λ k below. absurd (omega (arith, below));
    kept = subst HaveSets (sym none) (All-nil (λ labels. All HasSet labels));
    networks = λ k below. absurd (omega (arith, below));
  }

  -- what is left begins with the kind
  left : (kind : ℕ) → kind < length kinds → drop kind kinds ≡ network_of kinds kind ∷ drop (kind + 1) kinds
  left kind known = drop_more kinds kind no_network known

  fit_more : (lists more : List (List Label)) (labels : List Label) (kind : ℕ) → length lists ≡ kind → more ≡ lists ++ labels ∷ [] → ((k : ℕ) → k < kind → ListFits (network_of kinds k) (slice_index_or lists k []))
      → ListFits (network_of kinds kind) labels → (k : ℕ) → k < kind + 1 → ListFits (network_of kinds k) (slice_index_or more k [])
  fit_more lists more labels kind many is before here =
      below_more (λ k. ListFits (network_of kinds k) (slice_index_or more k [])) kind
      (λ k below.
      let same : get_or more k [] ≡ get_or lists k [] = ap (λ (xs : List (List Label)). get_or xs k []) is ∙ get_or-append lists (labels ∷ []) [] k (omega (arith, many, below)) in
      subst (ListFits (network_of kinds k)) (sym same) (before k below))
      (let same : get_or more kind [] ≡ labels = ap (λ (xs : List (List Label)). get_or xs kind []) is ∙ ap (λ (n : ℕ). get_or (lists ++ labels ∷ []) n []) (sym many) ∙ get_or-append_seam lists labels [] [] in
      subst (ListFits (network_of kinds kind)) (sym same) here)

  pub kinds-go_on : AreKinds kinds → (start s t : List ℕ × ℕ) (lists more : List (List Label)) (labels : List Label) (kind : ℕ) → kind < length kinds → KindsUpTo start lists kind s
      → kind_at kind (network_of kinds kind) s ≡ Ok (written_labels (network_of kinds kind) labels, t) → ListFits (network_of kinds kind) labels → All HasSet labels → IsNetwork (network_of kinds kind) → more ≡ lists ++ labels ∷ [] → KindsUpTo start more (kind + 1) t
  kinds-go_on are start s t lists more labels kind known before found fits kept network is =
      let first = first_of kinds in
      let g = network_of kinds kind in
      let own : kind_at kind g s ≡ Ok (written_labels first labels, t) = found ∙ ap (λ ws. Ok (ws, t)) (by_first first g (agrees kinds kind are known) labels) in
      let rest = kinds_at (kind + 1) (drop (kind + 1) kinds) t in
      let item = written_labels first labels in
      record {
        so_far = ap (λ xs. in_front xs rest) (ap written is ∙ map_more (written_labels first) lists labels)
            ∙ sym (in_front-twice (written lists) item rest)
            ∙ ap (λ r. in_front (written lists) r) (sym (ap (λ r. and_then r (λ one. in_front (one.0 ∷ []) (kinds_at (kind + 1) (drop (kind + 1) kinds) one.1))) own))
            ∙ ap (λ gs. in_front (written lists) (kinds_at kind gs s)) (sym (left kind known))
            ∙ before.so_far;
        many = let count = before.many in omega (arith, count, ap (λ (xs : List (List Label)). length xs) is, length-append lists (labels ∷ []));
        fit = fit_more lists more labels kind before.many is before.fit fits;
        kept = all_more (λ ls. All HasSet ls) lists more labels before.kept kept is;
        networks = below_more (λ k. IsNetwork (network_of kinds k)) kind before.networks network;
      }

  pub kinds-break : (start s : List ℕ × ℕ) (lists : List (List Label)) (kind : ℕ) (refusal : CertText) → kind < length kinds → KindsUpTo start lists kind s → or_refused (kind_at kind (network_of kinds kind) s) ≡ Err refusal → or_refused (kinds_at 0 kinds start) ≡ Err refusal
  kinds-break start s lists kind refusal known before is =
      let found = refused_since (kind_at kind (network_of kinds kind) s) refusal is in
      ap or_refused (sym before.so_far ∙ ap (λ gs. in_front (written lists) (kinds_at kind gs s)) (left kind known)
      ∙ ap (λ r. in_front (written lists) (and_then r (λ one. in_front (one.0 ∷ []) (kinds_at (kind + 1) (drop (kind + 1) kinds) one.1)))) found.1)
      ∙ ap (λ r. Err r) found.2

  pub kinds-end : (start s : List ℕ × ℕ) (lists : List (List Label)) (kind : ℕ) → length kinds ≤ kind → KindsUpTo start lists kind s → kinds_at 0 kinds start ≡ Ok (written lists, s)
  kinds-end start s lists kind past before =
      sym before.so_far ∙ ap (λ gs. in_front (written lists) (kinds_at kind gs s)) (drop_of_length-le kinds past) ∙ ap (λ (xs : List (List WrittenLabel)). Ok (xs, s)) (append-nil (written lists))

  pub kinds-networks : (start s : List ℕ × ℕ) (lists : List (List Label)) (kind : ℕ) → length kinds ≤ kind → KindsUpTo start lists kind s → All IsNetwork kinds
  kinds-networks start s lists kind past before = All-from_get_or IsNetwork kinds no_network (λ i within. before.networks i (omega (arith, within, past)))

  -- the kind by what stands there, and its labels as they are kept
  pub kinds-step : AreKinds kinds → (start s t : List ℕ × ℕ) (lists more : List (List Label)) (own labels : List Label) (kind : ℕ) (g : Network) → kind < length kinds → KindsUpTo start lists kind s → network_of kinds kind ≡ g → own ≡ labels
      → kind_at kind g s ≡ Ok (written_labels g labels, t) → ListFits g labels → All HasSet labels → IsNetwork g → more ≡ lists ++ own ∷ [] → KindsUpTo start more (kind + 1) t
  kinds-step are start s t lists more own labels kind g known before there same found fits kept network is =
      kinds-go_on are start s t lists more labels kind known before (subst (λ (h : Network). kind_at kind h s ≡ Ok (written_labels h labels, t)) (sym there) found)
      (subst (λ (h : Network). ListFits h labels) (sym there) fits) kept (subst IsNetwork (sym there) network) (is ∙ ap (λ (x : List Label). lists ++ x ∷ []) same)
