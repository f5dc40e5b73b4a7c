-- Reading the nodes of a word, one after another.
use Rattle.std.proofs.Common.{◌≡◌, ◌∙◌, ℕ, zero, suc, ◌<◌, ◌≤◌, ◌==◌, false, List, [], ◌∷◌, ◌++◌, length, Result, Ok, Err, refl, sym, ap, subst, append_assoc, append-nil, arith}
use Rattle.std.proofs.lemmas.Bool.{ne_eqb}
use Rattle.ev_text.specs.Scans.{rest_of}
use Rattle.route_plan.specs.RouteWords.{more_nodes, read_next, read_node, nodes_in, with_nodes}
use Rattle.route_plan.specs.declared.route.RouteFault.{RouteFault}

-- the nodes so far and those that follow are all of the word
abbrev pub IsReadTo : List ℕ → List ℕ → List ℕ × ℕ → Type 0
IsReadTo word nodes s = (most : ℕ) × (length (rest_of s) ≤ most) × (with_nodes nodes (more_nodes most s) ≡ nodes_in word)

pub begins : (word items : List ℕ) (n : ℕ) (start s : List ℕ × ℕ) → start ≡ (word, 0) → read_node start ≡ Ok (n, s) → length (rest_of s) ≤ length (rest_of start) → items ≡ n ∷ [] → IsReadTo word items s
begins word items n start s start_is found le is =
    let here : read_node (word, 0) ≡ Ok (n, s) = subst (λ (x : List ℕ × ℕ). read_node x ≡ Ok (n, s)) start_is found in
    (length word, subst (λ (x : List ℕ × ℕ). length (rest_of s) ≤ length (rest_of x)) start_is le, rw (here, is) refl)

with_nodes-twice : (first : List ℕ) (n : ℕ) (rest : Result (List ℕ) RouteFault) → with_nodes first (with_nodes (n ∷ []) rest) ≡ with_nodes (first ++ n ∷ []) rest
with_nodes-twice first n (Ok ns) = ap (λ xs. Ok xs) (sym (append_assoc first (n ∷ []) ns))
with_nodes-twice first n (Err fault) = refl

some_length : (xs : List ℕ) → (xs ≡ [] → ⊥) → 0 < length xs
some_length [] some = absurd (some refl)
some_length (x ∷ xs) some = omega arith

pub goes_on : (word nodes items : List ℕ) (n : ℕ) (s t : List ℕ × ℕ) → IsReadTo word nodes s → (rest_of s ≡ [] → ⊥) → read_next s ≡ Ok (n, t) → length (rest_of t) < length (rest_of s) → items ≡ nodes ++ n ∷ [] → IsReadTo word items t
goes_on word nodes items n s t (zero, le, is) some found less items_is = absurd (omega (arith, le, some_length (rest_of s) some))
goes_on word nodes items n s t (suc most, le, is) some found less items_is =
    let more : (length (rest_of s) == 0) ≡ false = ne_eqb (length (rest_of s)) 0 (λ none. absurd (omega (arith, none, some_length (rest_of s) some))) in
    let step : more_nodes (suc most) s ≡ with_nodes (n ∷ []) (more_nodes most t) = rw (more, found) refl in
    (most, omega (arith, le, less), ap (λ xs. with_nodes xs (more_nodes most t)) items_is ∙ sym (with_nodes-twice nodes n (more_nodes most t)) ∙ ap (λ r. with_nodes nodes r) (sym step) ∙ is)

ended : (most : ℕ) (s : List ℕ × ℕ) → rest_of s ≡ [] → more_nodes most s ≡ Ok []
ended zero s none = refl
ended (suc most) s none = rw none refl

pub ends : (word nodes : List ℕ) (s : List ℕ × ℕ) → IsReadTo word nodes s → rest_of s ≡ [] → nodes_in word ≡ Ok nodes
ends word nodes s (most, le, is) none = sym is ∙ ap (λ r. with_nodes nodes r) (ended most s none) ∙ ap (λ xs. Ok xs) (append-nil nodes)
