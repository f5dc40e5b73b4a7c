-- Types by name, as the code compares and numbers them.
use Rattle.std.proofs.Common.{◌≡◌, ◌∙◌, ℕ, ◌+◌, ◌<◌, Bool, true, false, List, [], ◌∷◌, ◌++◌, Option, None, Some, IfSome, cond, length, map, take, drop, get_or, not, refl, sym, add-one}
use Rattle.std.proofs.lemmas.List.{take_more, map-append}
use Rattle.std.proofs.Math.Seq.{drop-cons}
use Rattle.std.specs.Borrow.{Bor}
use Rattle.std.specs.List.{list_any, position_or_len}
use Rattle.indexmap.specs.IndexSet.{insert_key}
use Rattle.instance_reader.specs.Types.{is_among, names_of, repeated_in, type_place}
use Rattle.instance_reader.specs.Values.{same_name}
use Rattle.instance_reader.specs.Views.{curve_view, name_view, names_in}
use Rattle.instance_reader.specs.contracts.fields.TypeNamePartialEq.TheImpl as derived
use Rattle.instance_reader.specs.declared.fields.CurveEntry.{CurveEntry}
use Rattle.instance_reader.specs.declared.fields.TypeName.{TypeName}
use Rattle.instance_reader.specs.declared.fields.TypeName.TheVariants.{Text, Whole}
use Rattle.instance_reader.specs.declared.places.Key.TheVariants.{Breaks}

-- `==` tells whether two types are the same
pub eq-same_name : (a b : TypeName) → (derived.ghosts).eq a b ≡ same_name (name_view a) (name_view b)
eq-same_name (Text s) (Text t) = refl
eq-same_name (Text s) (Whole n) = refl
eq-same_name (Whole m) (Text t) = refl
eq-same_name (Whole m) (Whole n) = refl

-- a key is found by its name
pub list_any-keys : (key : TypeName) (keys : List (Bor TypeName)) →
    list_any (λ other. (derived.ghosts).eq key other.now) keys ≡ is_among (name_view key) (names_in keys)
list_any-keys key [] = refl
list_any-keys key (k ∷ keys) = rw (eq-same_name key k.now, list_any-keys key keys) refl

not_true : (b : Bool) → not b ≡ true → b ≡ false
not_true true h = cc
not_true false h = refl

not_false : (b : Bool) → not b ≡ false → b ≡ true
not_false true h = refl
not_false false h = cc

-- the keys after a key that isn't among them
pub fresh_key : (keys new : List (Bor TypeName)) (key : Bor TypeName) (added : Bool) → added ≡ true →
    added ≡ not (list_any (λ other. (derived.ghosts).eq key.now other.now) keys) →
    new ≡ insert_key (λ a b. (derived.ghosts).eq a.now b.now) keys key →
    (is_among (name_view key.now) (names_in keys) ≡ false) × (names_in new ≡ names_in keys ++ name_view key.now ∷ [])
fresh_key keys new key added was_added is grown =
    let none : list_any (λ other. (derived.ghosts).eq key.now other.now) keys ≡ false = not_true _ (sym is ∙ was_added) in (
      sym (list_any-keys key.now keys) ∙ none,
      rw (grown, none, map-append (λ other. name_view other.now) keys (key ∷ [])) refl,
    )

-- a key that is among them
pub known_key : (keys : List (Bor TypeName)) (key : TypeName) (added : Bool) → added ≡ false →
    added ≡ not (list_any (λ other. (derived.ghosts).eq key other.now) keys) →
    is_among (name_view key) (names_in keys) ≡ true
known_key keys key added not_added is = sym (list_any-keys key keys) ∙ not_false _ (sym is ∙ not_added)

-- the names so far, and the next one
pub next_name : (xs : List CurveEntry) (i : ℕ) (x : CurveEntry) → i < length xs → x ≡ get_or xs i x →
    names_of (map curve_view (take (i + 1) xs)) ≡ names_of (map curve_view (take i xs)) ++ name_view x.type_name ∷ []
next_name xs i x h is =
    rw (
      take_more xs i x h,
      map-append curve_view (take i xs) (get_or xs i x ∷ []),
      ← is,
      map-append (λ curve. curve.type_name) (map curve_view (take i xs)) (curve_view x ∷ []),
    ) refl

-- the names from here on
names_from : (xs : List CurveEntry) (i : ℕ) (x : CurveEntry) → i < length xs → x ≡ get_or xs i x →
    names_of (map curve_view (drop i xs)) ≡ name_view x.type_name ∷ names_of (map curve_view (drop (i + 1) xs))
names_from xs i x h is = rw (drop-cons xs i x h, ← is, add-one) refl

-- a name that stands among the earlier ones is the first such
pub repeated_here : (xs : List CurveEntry) (i : ℕ) (x : CurveEntry) → i < length xs → x ≡ get_or xs i x →
    is_among (name_view x.type_name) (names_of (map curve_view (take i xs))) ≡ true →
    repeated_in i (names_of (map curve_view (take i xs))) (names_of (map curve_view (drop i xs)))
    ≡ Some (type_place Breaks i)
repeated_here xs i x h is known = rw (names_from xs i x h is, known) refl

-- any other name is passed
pub fresh_here : (xs : List CurveEntry) (i : ℕ) (x : CurveEntry) → i < length xs → x ≡ get_or xs i x →
    is_among (name_view x.type_name) (names_of (map curve_view (take i xs))) ≡ false →
    repeated_in (i + 1) (names_of (map curve_view (take (i + 1) xs))) (names_of (map curve_view (drop (i + 1) xs)))
    ≡ repeated_in i (names_of (map curve_view (take i xs))) (names_of (map curve_view (drop i xs)))
fresh_here xs i x h is fresh = rw (names_from xs i x h is, fresh, next_name xs i x h is) refl

-- a key has the number of its name
pub position_or_len-keys : (key : TypeName) (keys : List (Bor TypeName)) →
    position_or_len (λ other. (derived.ghosts).eq key other.now) keys ≡ position_or_len (same_name (name_view key)) (names_in keys)
position_or_len-keys key [] = refl
position_or_len-keys key (k ∷ keys) = rw (eq-same_name key k.now, position_or_len-keys key keys) refl

some_is : (k n : ℕ) (b : Bool) → Some k ≡ cond b (Some n) None → k ≡ n
some_is k n true h = cc
some_is k n false h = cc

-- what is found at a position is that position
pub found_is : (o : Option ℕ) (n : ℕ) (b : Bool) → o ≡ cond b (Some n) None → IfSome o (λ k. k ≡ n)
found_is None n b h = tt
found_is (Some k) n b h = some_is k n b h
