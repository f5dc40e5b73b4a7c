-- The layers of a table of ways.
use Rattle.std.proofs.Common.{◌≡◌, ◌∙◌, ℕ, ◌+◌, ◌-◌, ◌*◌, ◌^◌, ◌<◌, ◌≤◌, List, [], ◌∷◌, ◌++◌, ap, arith, get_or, inl, inr, length, subst, sym}
use Rattle.std.proofs.lemmas.Bool.{cases_eq, cases_lt}
use Rattle.std.proofs.Math.Nat.{min-eq_left, min-eq_right, min-le_left, min-le_right}
use Rattle.std.proofs.lemmas.List.{get_or-map, get_or_append_left, get_or_at, length-map, map-append}
use Rattle.std.specs.Global.{Vec}
use Rattle.std.specs.Prelude.{slice_index}
use Rattle.std.specs.List.{All}
use Rattle.std.proofs.lemmas.List.Elements.{All-from_get_or}
use Rattle.ev_model.specs.Network.{Network, node_count}
use Rattle.frvcp_labels.specs.Bounds.{AreWayCosts, IsLayer, capped, lists_in}
use Rattle.frvcp_labels.specs.Rest.{AreLayers, IsDirect, IsSteady, step_cost}
use Rattle.frvcp_labels.proofs.RestTable.{filled}

-- one layer more
pub layer_more : (g : Network) (rate : ℕ) (layers : List (Vec ℕ)) (layer : Vec ℕ) (n : ℕ) → length layers ≡ n → ((to : ℕ) → to < n → IsLayer g rate to (get_or (lists_in layers) to [])) → IsLayer g rate n layer.items
    → (to : ℕ) → to < n + 1 → IsLayer g rate to (get_or (lists_in (layers ++ layer ∷ [])) to [])
layer_more g rate layers layer n count are is to within =
    let lists : lists_in (layers ++ layer ∷ []) ≡ lists_in layers ++ layer.items ∷ [] = map-append (λ (l : Vec ℕ). l.items) layers (layer ∷ []) in
    let long : length (lists_in layers) ≡ n = length-map layers (λ (l : Vec ℕ). l.items) ∙ count in
    elim (cases_eq to n) [
      | inl same ↦
          let at : get_or (lists_in (layers ++ layer ∷ [])) to [] ≡ layer.items = ap (λ l. get_or l to []) lists ∙ get_or_at (lists_in layers) layer.items [] [] to (long ∙ sym same) in
          subst (IsLayer g rate to) (sym at) (subst (λ k. IsLayer g rate k layer.items) (sym same) is)
      | inr apart ↦
          let before : to < n = omega (arith, within, apart) in
          let at : get_or (lists_in (layers ++ layer ∷ [])) to [] ≡ get_or (lists_in layers) to [] = ap (λ l. get_or l to []) lists ∙ get_or_append_left (lists_in layers) (layer.items ∷ []) [] to (omega (arith, before, long)) in
          subst (IsLayer g rate to) (sym at) (are to before)
    ]

-- there is a layer for each node
pub layers_count : (g : Network) (rate : ℕ) (layers : List (Vec ℕ)) → AreWayCosts g rate (lists_in layers) → length layers ≡ node_count g
layers_count g rate layers are = sym (length-map layers (λ (l : Vec ℕ). l.items)) ∙ are.count

-- each layer has an entry for each
pub layers_square : (g : Network) (rate : ℕ) (layers : List (Vec ℕ)) → AreWayCosts g rate (lists_in layers) → All (λ layer. length layer ≡ length layers) (lists_in layers)
layers_square g rate layers are =
    All-from_get_or (λ layer. length layer ≡ length layers) (lists_in layers) []
    (λ to within. (are.layers_are to (subst (λ n. to < n) are.count within)).count ∙ sym (layers_count g rate layers are))

-- a sum that is capped is so behind a step too
capped_step : (x step y after : ℕ) → x ≤ step + y → capped (x + after) ≤ step + capped (y + after)
capped_step x step y after less = elim (cases_lt (y + after) (2 ^ 64 - 1)) [
  | inl under ↦
      let most = min-le_left (x + after) (2 ^ 64 - 1) in
      let same : capped (y + after) ≡ y + after = min-eq_left (omega arith) in
      omega (arith, less, most, same)
  | inr over ↦
      let most = min-le_right (x + after) (2 ^ 64 - 1) in
      let same : capped (y + after) ≡ 2 ^ 64 - 1 = min-eq_right (omega arith) in
      omega (arith, most, same)
]

module _ (g : Network) (rate to : ℕ) (layer least : List ℕ) (base after : ℕ) (is : IsLayer g rate to layer) (laid : (n : ℕ) → n < length layer → slice_index least (base + n) ≡ capped (slice_index layer n + after)) where
  entry : (n : ℕ) → n < node_count g → slice_index least (base + n) ≡ capped (slice_index layer n + after)
  entry n known = laid n (subst (λ k. n < k) (sym is.count) known)

  -- what is laid of a layer is one with what comes after it
  pub laid_direct : (own : ℕ) → own ≡ after → IsDirect g rate least base to own
  laid_direct own same node known =
      let here = entry node known in
      let most : capped (slice_index layer node + after) ≤ slice_index layer node + after = min-le_left (slice_index layer node + after) (2 ^ 64 - 1) in
      let direct = is.direct node known in
      let at : slice_index layer (0 + node) ≡ slice_index layer node = ap (slice_index layer) (omega arith) in
      omega (arith, here, direct, same, most, at)

  pub laid_steady : IsSteady g rate least base
  laid_steady node known over there curve =
      let here = entry node known in
      let behind = entry over there in
      let steady = is.steady node known over there curve in
      let at : slice_index layer (0 + node) ≡ slice_index layer node = ap (slice_index layer) (omega arith) in
      let on : slice_index layer (0 + over) ≡ slice_index layer over = ap (slice_index layer) (omega arith) in
      let sum = capped_step (slice_index layer node) (step_cost g rate node over) (slice_index layer over) after (omega (arith, steady, at, on)) in
      omega (arith, here, behind, sum)

-- the layer of a node, as it is read
pub layer_at : (g : Network) (rate : ℕ) (layers : List (Vec ℕ)) (to : ℕ) (layer : Vec ℕ) → AreWayCosts g rate (lists_in layers) → to < node_count g → layer ≡ get_or layers to layer → IsLayer g rate to layer.items
layer_at g rate layers to layer are known is =
    let inside : to < length layers = subst (λ n. to < n) (sym (layers_count g rate layers are)) known in
    let at : get_or (lists_in layers) to [] ≡ layer.items = get_or-map (λ (l : Vec ℕ). l.items) layers to layer [] inside ∙ ap (λ (l : Vec ℕ). l.items) (sym is) in
    subst (IsLayer g rate to) at (are.layers_are to known)

-- one layer more of the rest of ways along a route
module _ (g : Network) (route : List ℕ) (rate : ℕ) (layer old now : List ℕ) (nodes passed after : ℕ) (same : nodes ≡ node_count g) (on_way : passed < length route - 1) (is : IsLayer g rate (slice_index route (passed + 1)) layer)
    (known : slice_index route (passed + 1) < node_count g) (before : AreLayers g route rate old (passed + 1)) (told : after ≡ slice_index old ((passed + 1) * nodes + slice_index route (passed + 1)))
    (laid : (n : ℕ) → n < length layer → slice_index now (passed * nodes + n) ≡ capped (slice_index layer n + after)) (stays : (i : ℕ) → passed * nodes + length layer ≤ i → slice_index now i ≡ slice_index old i) where
  pub rest_more : AreLayers g route rate now passed
  rest_more =
      let count : length layer ≡ node_count g = is.count in
      let base : (passed + 1) * nodes + slice_index route (passed + 1) ≡ passed * nodes + node_count g + slice_index route (passed + 1) = (let more : (passed + 1) * nodes ≡ passed * nodes + nodes = omega arith in omega (arith, more, same)) in
      let stay : slice_index now (passed * nodes + node_count g + slice_index route (passed + 1)) ≡ slice_index old (passed * nodes + node_count g + slice_index route (passed + 1)) = stays (passed * nodes + node_count g + slice_index route (passed + 1)) (omega (arith, count)) in
      let own : slice_index now (passed * nodes + node_count g + slice_index route (passed + 1)) ≡ after = stay ∙ ap (slice_index old) (sym base) ∙ sym told in
      filled g route rate old now nodes passed same on_way before (λ i h. stays i (omega (arith, h, count)))
      (laid_steady g rate (slice_index route (passed + 1)) layer now (passed * nodes) after is laid)
      (laid_direct g rate (slice_index route (passed + 1)) layer now (passed * nodes) after is laid (slice_index now (passed * nodes + node_count g + slice_index route (passed + 1))) own)
