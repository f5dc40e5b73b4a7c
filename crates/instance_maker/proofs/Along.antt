-- Searches along lists that find nothing.
use Rattle.std.proofs.Common.{◌≡◌, ◌∙◌, ℕ, zero, suc, ◌+◌, ◌≤◌, ◌<◌, List, [], ◌∷◌, ◌++◌, Option, None, Some, ap, arith, map, refl, replicate}
use Rattle.std.proofs.lemmas.Bool.{le-ltb}
use Rattle.std.proofs.lemmas.List.{map-append}
use Rattle.std.specs.Bool.{then_some}
use Rattle.std.specs.Option.{option_or}
use Rattle.std.specs.Prelude.{nat_lt}
use Rattle.serde_json.specs.Data.{Data}
use Rattle.serde_json.specs.View.{items_of}
use Rattle.instance_maker.proofs.MadeLemmas.{AllOf}
use Rattle.instance_maker.specs.Lists.{tabulate}
use Rattle.instance_maker.specs.MadeInstance.{whole}
use Rattle.instance_reader.specs.Contents.{number_in}
use Rattle.instance_reader.specs.Search.{first_along}
use Rattle.instance_reader.specs.Values.{list_of}

-- the items of an array are those of its list
pub list_of-items_of : (ds : List Data) → list_of (items_of ds) ≡ ds
list_of-items_of [] = refl
list_of-items_of (d ∷ ds) = ap (λ xs. d ∷ xs) (list_of-items_of ds)

-- nothing is found along a list where nothing is found at each item
pub along_none : {A B : Type 0} (look : ℕ → A → Option B) (P : A → Type 0) → ((k : ℕ) (x : A) → P x → look k x ≡ None) →
    (k : ℕ) (xs : List A) → AllOf P xs → first_along look k xs ≡ None
along_none look P each k [] all = refl
along_none look P each k (x ∷ xs) all = rw (each k x all.0) (along_none look P each (k + 1) xs all.1)

pub AllOf-append : {A : Type 0} (P : A → Type 0) (xs ys : List A) → AllOf P xs → AllOf P ys → AllOf P (xs ++ ys)
AllOf-append P [] ys all more = more
AllOf-append P (x ∷ xs) ys all more = (all.0, AllOf-append P xs ys all.1 more)

pub AllOf-replicate : {A : Type 0} (P : A → Type 0) (count : ℕ) (x : A) → P x → AllOf P (replicate count x)
AllOf-replicate P zero x holds = tt
AllOf-replicate P (suc count) x holds = (holds, AllOf-replicate P count x holds)

pub AllOf-tabulate : {A : Type 0} (P : A → Type 0) (f : ℕ → A) (count : ℕ) → ((k : ℕ) → P (f k)) → AllOf P (tabulate f count)
AllOf-tabulate P f zero each = tt
AllOf-tabulate P f (suc count) each = AllOf-append P (tabulate f count) (f count ∷ []) (AllOf-tabulate P f count each) (each count, tt)

pub AllOf-map : {A B : Type 0} (P : A → Type 0) (Q : B → Type 0) (f : A → B) → ((x : A) → P x → Q (f x)) → (xs : List A) → AllOf P xs → AllOf Q (map f xs)
AllOf-map P Q f each [] all = tt
AllOf-map P Q f each (x ∷ xs) all = (each x all.0, AllOf-map P Q f each xs all.1)

-- whatever holds of everything holds of all
pub AllOf-each : {A : Type 0} (P : A → Type 0) → ((x : A) → P x) → (xs : List A) → AllOf P xs
AllOf-each P each [] = tt
AllOf-each P each (x ∷ xs) = (each x, AllOf-each P each xs)

-- ---- lists of numbers

-- the numbers of an array of whole numbers
pub numbers_mapped : {A : Type 0} (f : A → ℕ) (xs : List A) → map (λ d. number_in (Some d)) (map (λ x. whole (f x)) xs) ≡ map f xs
numbers_mapped f [] = refl
numbers_mapped f (x ∷ xs) = ap (λ ns. f x ∷ ns) (numbers_mapped f xs)

pub numbers_replicated : (count n : ℕ) → map (λ d. number_in (Some d)) (replicate count (whole n)) ≡ replicate count n
numbers_replicated zero n = refl
numbers_replicated (suc count) n = ap (λ ns. n ∷ ns) (numbers_replicated count n)

pub map-tabulate : {A B : Type 0} (f : A → B) (g : ℕ → A) (count : ℕ) → map f (tabulate g count) ≡ tabulate (λ k. f (g k)) count
map-tabulate f g zero = refl
map-tabulate f g (suc count) =
    map-append f (tabulate g count) (g count ∷ []) ∙ ap (λ xs. xs ++ f (g count) ∷ []) (map-tabulate f g count)

-- a test that a number is past another one fails
pub not_past : {A : Type 0} (most n : ℕ) (x : A) → n ≤ most → then_some (nat_lt most n) x ≡ None
not_past most n x within = rw (le-ltb most n within) refl

-- two searches find nothing where neither does
pub none_then : {A : Type 0} (a b : Option A) → a ≡ None → b ≡ None → option_or a b ≡ None
none_then a b none rest = rw none rest

pub AllOf-below : {A : Type 0} (P : A → Type 0) (f : ℕ → A) (count : ℕ) → ((k : ℕ) → k < count → P (f k)) → AllOf P (tabulate f count)
AllOf-below P f zero each = tt
AllOf-below P f (suc count) each =
    AllOf-append P (tabulate f count) (f count ∷ []) (AllOf-below P f count (λ k below. each k (omega arith))) (each count (omega arith), tt)
