-- The map of an input exists and is unique.
use Rattle.std.proofs.Common.{rules, arith, ◌≡◌, ℕ, Bool, true, false, if◌then◌else◌, List, [], ◌∷◌, ◌++◌, refl, ap, sym, ◌∙◌, subst}
use Rattle.std.specs.Prelude.{Option, Some, None, bytes_eq}
use Rattle.std.proofs.lemmas.Bool.{cond-true, cond-false, false_from_ne_true}
use Rattle.std.proofs.lemmas.Slice.Eq.{bytes_eq-Decides}
use Rattle.properties_format.specs.Items.{comment, pair, Entry, item}
use Rattle.properties_format.specs.Maps.{HasNoPair, IsValue, IsMap}
use Rattle.properties_format.specs.Computed.Maps.{first_value}

-- the value of one entry, if it is a pair with this key
abbrev pub value_of : Entry → List ℕ → Option (List ℕ)
value_of (item n (pair k v)) key = if bytes_eq k key then Some v else None
value_of entry key = None

-- the value of a key, searched for from the last entry
abbrev pub value_in : List Entry → List ℕ → Option (List ℕ)
value_in [] key = None
value_in (entry ∷ entries) key = first_value (value_in entries key) (value_of entry key)

abbrev IsPairOf : List ℕ → List ℕ → Entry → Type 0
IsPairOf key value entry = (n : ℕ) × (entry ≡ item n (pair key value))

-- the value that one entry gives a key
abbrev IsValueBy : List ℕ → Entry → Option (List ℕ) → Type 0
IsValueBy key entry None = (entries : List Entry) → HasNoPair key entries → HasNoPair key (entry ∷ entries)
IsValueBy key entry (Some value) = IsPairOf key value entry

-- A pair gives its key its value, and no other key.
pair-says : (n : ℕ) (k v key : List ℕ) (b : Bool) → bytes_eq k key ≡ b → IsValueBy key (item n (pair k v)) (value_of (item n (pair k v)) key)
pair-says n k v key b h1 = search (rules, bytes_eq-Decides)

-- The computed value of an entry is the one that it gives.
says : (entry : Entry) (key : List ℕ) → IsValueBy key entry (value_of entry key)
says (item n (pair k v)) key = pair-says n k v key (bytes_eq k key) refl
says entry key = λ entries h. h

-- The value of a key in entries with one more at the front.
with_front : (entry : Entry) (entries : List Entry) (key : List ℕ) (r o : Option (List ℕ)) → IsValue entries key r → IsValueBy key entry o
    → IsValue (entry ∷ entries) key (first_value r o)
with_front entry entries key (Some v) o g s =
    record { before = entry ∷ g.before; number = g.number; after = g.after; division = ap (λ x. entry ∷ x) g.division; no_later = g.no_later }
with_front entry entries key None None h s = s entries h
with_front entry entries key None (Some v) h s = record { before = []; number = s.0; after = entries; division = ap (λ x. x ∷ entries) s.1; no_later = h }

-- The computed value is the value of the key.
pub value_in-meets : (entries : List Entry) (key : List ℕ) → IsValue entries key (value_in entries key)
value_in-meets [] key = tt
value_in-meets (entry ∷ entries) key = with_front entry entries key (value_in entries key) (value_of entry key) (value_in-meets entries key) (says entry key)

-- If no entry is a pair with the key, there is no value.
none-in : (entries : List Entry) (key : List ℕ) → HasNoPair key entries → value_in entries key ≡ None
none-in [] key h = refl
none-in (item n (pair k v) ∷ entries) key h = grind (arith, none-in entries key h.1, cond-false, false_from_ne_true, bytes_eq-Decides)
none-in (entry ∷ entries) key h = ap (λ r. first_value r None) (none-in entries key h)

-- the last pair with the key gives the value
last-in : (before : List Entry) (n : ℕ) (key value : List ℕ) (after : List Entry) → HasNoPair key after
    → value_in (before ++ (item n (pair key value) ∷ after)) key ≡ Some value
last-in [] n key value after h = grind (arith, none-in, cond-true, bytes_eq-Decides)
last-in (entry ∷ before) n key value after h = ap (λ r. first_value r (value_of entry key)) (last-in before n key value after h)

-- A value of the key is the computed one.
pub value_in-only : (entries : List Entry) (key : List ℕ) (r : Option (List ℕ)) → IsValue entries key r → r ≡ value_in entries key
value_in-only entries key r h1 = grind (arith, none-in, last-in)

-- The computed values are a map of the entries.
pub map-meets : (entries : List Entry) → IsMap entries (value_in entries)
map-meets entries key = value_in-meets entries key

-- Every map of the entries gives each key that value.
pub map-only : (entries : List Entry) (value_at : List ℕ → Option (List ℕ)) → IsMap entries value_at → (key : List ℕ) → value_at key ≡ value_in entries key
map-only entries value_at h key = value_in-only entries key (value_at key) (h key)

-- ---- one more entry

-- Choosing the first of three values is associative.
pub first-assoc : (a b c : Option (List ℕ)) → first_value (first_value a b) c ≡ first_value a (first_value b c)
first-assoc a b c = grind (arith)

-- Without a second value, the first is chosen.
pub first-none : (o : Option (List ℕ)) → first_value o None ≡ o
first-none o = grind (arith)

-- In two lists of entries, the value is that in the second, or else that in the first.
pub value_in-append : (xs ys : List Entry) (key : List ℕ) → value_in (xs ++ ys) key ≡ first_value (value_in ys key) (value_in xs key)
value_in-append [] ys key = sym (first-none (value_in ys key))
value_in-append (x ∷ xs) ys key = simp (first-assoc, value_in-append xs ys key)

-- A function with the same value for each key is a map of the entries too.
same-map : (entries : List Entry) (f : List ℕ → Option (List ℕ)) → ((key : List ℕ) → f key ≡ value_in entries key) → IsMap entries f
same-map entries f same key = let P : Option (List ℕ) → Type 0 = IsValue entries key in subst P (sym (same key)) (value_in-meets entries key)

-- the map of no entries is empty
pub map-none : (f : List ℕ → Option (List ℕ)) → ((key : List ℕ) → f key ≡ None) → IsMap [] f
map-none f empty = same-map [] f empty

-- a comment changes nothing
pub map-comment : (entries : List Entry) (number : ℕ) (text : List ℕ) (f : List ℕ → Option (List ℕ)) → IsMap entries f
    → IsMap (entries ++ item number (comment text) ∷ []) f
map-comment entries number text f h =
    same-map (entries ++ item number (comment text) ∷ []) f (λ key. map-only entries f h key ∙ sym (value_in-append entries _ key))

-- A pair sets the value of its key.
pub map-pair : (entries : List Entry) (number : ℕ) (key value : List ℕ) (f g : List ℕ → Option (List ℕ)) → IsMap entries f
    → ((k : List ℕ) → g k ≡ (if bytes_eq key k then Some value else f k)) → IsMap (entries ++ item number (pair key value) ∷ []) g
map-pair entries number key value f g h puts =
    same-map (entries ++ item number (pair key value) ∷ []) g (λ k. puts k ∙ chosen (bytes_eq key k) k ∙ sym (value_in-append entries _ k))
  where
    chosen : (b : Bool) (k : List ℕ) → (if b then Some value else f k) ≡ first_value (if b then Some value else None) (value_in entries k)
    chosen true k = refl
    chosen false k = map-only entries f h k
