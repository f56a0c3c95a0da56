-- The value that is kept for the key of a logical line.
use Rattle.std.proofs.Common.{◌≡◌, ◌<◌, ℕ, ◌+◌, List, [], ◌∷◌, ◌++◌, length, drop, get_or, take, refl, sym, ap, ◌∙◌}
use Rattle.std.specs.Prelude.{map, Option, Some, None}
use Rattle.std.proofs.lemmas.List.{drop_more, map-append, take-append-drop, take_more}
use Rattle.std.specs.declared.string.String.{String}
use Rattle.properties_format.specs.Items.{Outcome, broken, comment, given, ignored, pair}
use Rattle.properties_items.specs.BorrowedItems.{outcome_pair}
use Rattle.properties_renaming.specs.Private.Keyed.{value_at, value_of}
use Rattle.properties_renaming.proofs.RenamedKeys.{first-of}

pub value-pair : {V Y : Type 0} (values : List (String Y × V)) (o : Outcome) (key value : List ℕ) → outcome_pair o ≡ Some (key, value)
    → value_of values o ≡ value_at values key
value-pair values (given (pair k v)) key value h = ap (λ w. value_at values (first-of (key, value) w)) h
value-pair values (given (comment text)) key value h = absurd (cc)
value-pair values ignored key value h = absurd (cc)
value-pair values (broken kind) key value h = absurd (cc)

pub value-none : {V Y : Type 0} (values : List (String Y × V)) (o : Outcome) → outcome_pair o ≡ None → None ≡ value_of values o
value-none values (given (pair k v)) h = absurd (cc)
value-none values (given (comment text)) h = refl
value-none values ignored h = refl
value-none values (broken kind) h = refl

-- A pair whose key has a value.
pub value-some : {V Y : Type 0} (values : List (String Y × V)) (o : Outcome) (v : V) → value_of values o ≡ Some v
    → (key : List ℕ) × (value : List ℕ) × (o ≡ given (pair key value)) × (value_at values key ≡ Some v)
value-some values (given (pair key value)) v h = (key, value, refl, h)
value-some values (given (comment text)) v h = absurd (cc)
value-some values ignored v h = absurd (cc)
value-some values (broken kind) v h = absurd (cc)

-- One more of a list.
pub mapped-more : {X Y : Type 0} (f : X → Y) (xs : List X) (i : ℕ) (x : X) → i < length xs → x ≡ get_or xs i x
    → map f (take (i + 1) xs) ≡ map f (take i xs) ++ f x ∷ []
mapped-more f xs i x h is =
    ap (map f) (take_more xs i x h ∙ ap (λ r. take i xs ++ r ∷ []) (sym is)) ∙ map-append f (take i xs) (x ∷ [])

pub mapped-parts : {X Y : Type 0} (f : X → Y) (xs : List X) (i : ℕ) (x : X) → i < length xs → x ≡ get_or xs i x
    → map f xs ≡ map f (take i xs) ++ f x ∷ map f (drop (i + 1) xs)
mapped-parts f xs i x h is =
    ap (map f) (sym (take-append-drop i xs) ∙ ap (λ r. take i xs ++ r) (drop_more xs i x h ∙ ap (λ y. y ∷ drop (i + 1) xs) (sym is)))
    ∙ map-append f (take i xs) (x ∷ drop (i + 1) xs)

pub not-some : {X : Type 0} (o : Option X) → ((x : X) → o ≡ Some x → ⊥) → o ≡ None
not-some None h = refl
not-some (Some x) h = absurd (h x refl)
