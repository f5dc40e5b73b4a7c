-- What the calls of a shelf in memory do to its names and counts.
use Rattle.std.proofs.Common.{◌≡◌, ◌≢◌, ◌∙◌, sym, ap, refl, ℕ, ◌+◌, false, cond, List, [], ◌∷◌, ◌++◌, Option, Some, arith, string_bytes, String, Vec}
use Rattle.std.specs.Str.{bytes_eq}
use Rattle.std.specs.Option.{option_map}
use Rattle.std.specs.String.{string_cmp}
use Rattle.std.specs.BTreeMap.{BTreeMap, UpdatesBy, get_by_text}
use Rattle.std.specs.Cmp.Lexicographic.{slice_cmp}
use Rattle.std.specs.Ordering.{nat_cmp}
use Rattle.std.specs.declared.alloc.Global.{Global}
use Rattle.std.proofs.lemmas.Bool.{false_from_ne_true}
use Rattle.std.proofs.lemmas.List.Sums.{fold-append}
use Rattle.std.proofs.lemmas.Map.Text.{btree_map_updates_text}
use Rattle.std.proofs.lemmas.Slice.Eq.{bytes_eq-Decides}
use Rattle.ev_outside.specs.Counts.{Rose}
use Rattle.ev_outside.specs.MemoryShelf.{times_in}

pub times_in-listed : (names : List (List ℕ)) (name : List ℕ) → times_in (names ++ name ∷ []) name ≡ times_in names name + 1
times_in-listed names name =
    fold-append (λ count listed. count + cond (bytes_eq name listed) 1 0) 0 names (name ∷ [])
    ∙ ap (λ same. times_in names name + cond same 1 0) ((bytes_eq-Decides name name).1 refl)

-- A name that is listed once more.
pub Rose-listed : (names listed : List (List ℕ)) (name : List ℕ) → listed ≡ names ++ name ∷ [] → Rose (times_in names name) (times_in listed name)
Rose-listed names listed name e =
    let counted : times_in listed name ≡ times_in names name + 1 = ap (λ l. times_in l name) e ∙ times_in-listed names name in
    omega (arith, counted)

-- what a map holds under a name, after its key with these bytes was set
abbrev pub items_under : BTreeMap (String Global) (Vec ℕ Global) → List ℕ → Option (List ℕ)
items_under files name = option_map (λ bytes. bytes.items) (get_by_text files name)

pub items_under-same : (name : List ℕ) (old new : BTreeMap (String Global) (Vec ℕ Global)) (bytes : Vec ℕ Global) → UpdatesBy string_cmp (λ key. slice_cmp nat_cmp name (string_bytes key)) old new (Some bytes) → items_under new name ≡ Some bytes.items
items_under-same name old new bytes h =
    ap (λ found. option_map (λ held. held.items) found)
    (btree_map_updates_text name old new (Some bytes) h name
    ∙ ap (λ same. cond same (Some bytes) (get_by_text old name)) ((bytes_eq-Decides name name).1 refl))

pub items_under-other : (name other : List ℕ) (old new : BTreeMap (String Global) (Vec ℕ Global)) (bytes : Vec ℕ Global) → UpdatesBy string_cmp (λ key. slice_cmp nat_cmp name (string_bytes key)) old new (Some bytes) → other ≢ name → items_under new other ≡ items_under old other
items_under-other name other old new bytes h ne =
    let differ : bytes_eq name other ≡ false = false_from_ne_true (bytes_eq name other) (λ e. ne (sym ((bytes_eq-Decides name other).0 e))) in
    ap (λ found. option_map (λ held. held.items) found)
    (btree_map_updates_text name old new (Some bytes) h other
    ∙ ap (λ same. cond same (Some bytes) (get_by_text old other)) differ)
