-- What a map has at a text, and after a change at another.
use Rattle.std.proofs.Common.{◌≡◌, ℕ, Bool, true, false, List, [], ◌∷◌, refl, ap, ap₂, sym, ◌∙◌, inl, inr}
use Rattle.std.specs.Prelude.{Option, Some, None, bytes_eq, string_bytes, cond}
use Rattle.std.specs.Option.{option_map}
use Rattle.std.specs.Str.{chars, all_scalars, encode_utf8_all, IsUtf8}
use Rattle.std.specs.String.{string_eq, string_cmp}
use Rattle.std.specs.HashMap.{HashMap}
use Rattle.std.specs.HashMap as hashed
use Rattle.std.specs.BTreeMap.{BTreeMap}
use Rattle.std.specs.BTreeMap as sorted
use Rattle.std.specs.Ordering.{nat_cmp}
use Rattle.std.specs.Cmp.Lexicographic.{slice_cmp}
use Rattle.std.specs.Map.{lookup, update}
use Rattle.std.specs.declared.string.String.{String}
use Rattle.std.proofs.Math.Path.{fun_ext}
use Rattle.std.proofs.lemmas.Bool.{cases_Bool, cond-false, false_from_ne_true}
use Rattle.std.proofs.lemmas.Bool.Decides.{same_from_decides, Decides-like}
use Rattle.std.proofs.lemmas.Cmp.{nat_list_eq_equiv}
use Rattle.std.proofs.lemmas.Map.Text.{hash_map_updates_text, btree_map_updates_text, is_eq-slice_cmp}
use Rattle.std.proofs.lemmas.Slice.Eq.{bytes_eq-Decides}
use Rattle.std.proofs.lemmas.Str.{IsUtf8-string_bytes, chars-encodes, encodes-chars, scalars-chars}
use lib.Utf8.{encodes}
use Rattle.properties_items.specs.Texts.{characters, value_at}

-- a test that none passes finds nothing
lookup-never : {K X : Type 0} (t : K → Bool) → ((k : K) → t k ≡ false) → (es : List (K × X)) → lookup t es ≡ None
lookup-never t never [] = refl
lookup-never t never (e ∷ es) = rw (never e.0) (lookup-never t never es)

-- two texts are the same by their bytes where they are by their characters
pub same-characters : (x y : List ℕ) → IsUtf8 x → IsUtf8 y → bytes_eq x y ≡ bytes_eq (chars x) (chars y)
same-characters x y u v = same_from_decides _ _ (bytes_eq-Decides x y)
    (Decides-like _ (λ e. sym (encodes-chars x u) ∙ ap encodes e ∙ encodes-chars y v) (ap chars) (bytes_eq-Decides (chars x) (chars y)))

-- a key of characters is looked up by its bytes
compares_encoded : (key : List ℕ) → all_scalars key ≡ true → (x : List ℕ) → IsUtf8 x → bytes_eq key (chars x) ≡ bytes_eq (encode_utf8_all key) x
compares_encoded key s x is =
    ap (λ v. bytes_eq v (chars x)) (sym (chars-encodes key s)) ∙ sym (same-characters (encode_utf8_all key) x (key, (s, refl)) is)

-- a test of bytes is the same the other way round
pub flipped : (x y : List ℕ) → bytes_eq x y ≡ bytes_eq y x
flipped = nat_list_eq_equiv.symm

-- and what is no text is no key
no-key : (key : List ℕ) → all_scalars key ≡ false → (x : List ℕ) → IsUtf8 x → bytes_eq key (chars x) ≡ false
no-key key s x is = false_from_ne_true (bytes_eq key (chars x))
    (λ h. let t = scalars-chars x is in let e = ap all_scalars ((bytes_eq-Decides key (chars x)).0 h) in absurd (cc))

-- what entries have at the key that has these characters,
abbrev pub at_chars : {Y X : Type 0} → List (String Y × X) → List ℕ → Option X
at_chars entries key = lookup (λ x. bytes_eq key (characters x)) entries

-- and at the key that has these bytes
abbrev at_bytes : {Y X : Type 0} → List (String Y × X) → List ℕ → Option X
at_bytes entries bytes = lookup (λ x. bytes_eq bytes (string_bytes x)) entries

-- what entries have at characters is what they have at their bytes,
by-bytes : {Y X : Type 0} (k : List ℕ) → all_scalars k ≡ true → (f : List (String Y × X)) → at_chars f k ≡ at_bytes f (encode_utf8_all k)
by-bytes k s f = ap (λ test. lookup test f) (fun_ext (λ x. compares_encoded k s (string_bytes x) (IsUtf8-string_bytes x)))

-- and at what is no text they have nothing
by-none : {Y X : Type 0} (k : List ℕ) → all_scalars k ≡ false → (f : List (String Y × X)) → at_chars f k ≡ None
by-none k s f = lookup-never (λ x. bytes_eq k (characters x)) (λ x. no-key k s (string_bytes x) (IsUtf8-string_bytes x)) f

-- what entries have at the characters of a text is what they have at its bytes
by-text : {Y X : Type 0} (key : List ℕ) → IsUtf8 key → (f : List (String Y × X)) → at_chars f (chars key) ≡ at_bytes f key
by-text key is f = by-bytes (chars key) (scalars-chars key is) f ∙ ap (at_bytes f) (encodes-chars key is)

-- a sorted map is searched by the order of the bytes
by-order : {Y X : Type 0} (f : BTreeMap (String Y) X) (bytes : List ℕ) → at_bytes f.entries bytes ≡ sorted.get_by_text f bytes
by-order f bytes = ap (λ test. lookup test f.entries) (fun_ext (λ x. sym (is_eq-slice_cmp bytes (string_bytes x))))

-- What a map has at the characters of a text is what `get` finds by that text,
pub value_at_text : {Y Z S : Type 0} (f : HashMap (String Y) (String Z) S) (key : List ℕ) → IsUtf8 key
    → value_at f.entries (chars key) ≡ option_map characters (hashed.get_by_text f key)
value_at_text f key is = ap (option_map characters) (by-text key is f.entries)

-- and so it is of a sorted map.
pub at_chars-sorted : {Y X : Type 0} (f : BTreeMap (String Y) X) (key : List ℕ) → IsUtf8 key → at_chars f.entries (chars key) ≡ sorted.get_by_text f key
at_chars-sorted f key is = by-text key is f.entries ∙ by-order f key

-- What a sorted map has at the characters of a text is what `get` finds by that text, as characters.
pub value_at_text_sorted : {Y Z : Type 0} (f : BTreeMap (String Y) (String Z)) (key : List ℕ) → IsUtf8 key
    → value_at f.entries (chars key) ≡ option_map characters (sorted.get_by_text f key)
value_at_text_sorted f key is = ap (option_map characters) (at_chars-sorted f key is)

-- at the key of these bytes the entries have this, and at others what they had
abbrev IsPut : {Y X : Type 0} → List (String Y × X) → List ℕ → Option X → List (String Y × X) → Type 0
IsPut old key value new = (bytes : List ℕ) → at_bytes new bytes ≡ update bytes_eq (at_bytes old) key value bytes

-- So it is at characters.
module _ {Y X : Type 0} (old new : List (String Y × X)) (key : List ℕ) (is : IsUtf8 key) (value : Option X) (h : IsPut old key value new) (k : List ℕ) where
  of-text : all_scalars k ≡ true → at_chars new k ≡ update bytes_eq (at_chars old) (chars key) value k
  of-text s =
      let same = same-characters key (encode_utf8_all k) is (k, (s, refl)) ∙ ap (bytes_eq (chars key)) (chars-encodes k s) in
      by-bytes k s new ∙ h (encode_utf8_all k) ∙ ap₂ (λ b o. cond b value o) same (sym (by-bytes k s old))

  of-none : all_scalars k ≡ false → at_chars new k ≡ update bytes_eq (at_chars old) (chars key) value k
  of-none s =
      by-none k s new
      ∙ sym (by-none k s old)
      ∙ sym (cond-false (bytes_eq (chars key) k) value (at_chars old k) (flipped (chars key) k ∙ no-key k s key is))

  at_chars-put : at_chars new k ≡ update bytes_eq (at_chars old) (chars key) value k
  at_chars-put = elim (cases_Bool (all_scalars k)) [ inl s ↦ of-text s | inr s ↦ of-none s ]

-- What a sorted map has at any characters, after a change at the key of a text.
pub at_chars-updated : {Y X : Type 0} (m n : BTreeMap (String Y) X) (key : List ℕ) → IsUtf8 key → (value : Option X)
    → sorted.UpdatesBy string_cmp (λ x. slice_cmp nat_cmp key (string_bytes x)) m n value
    → (k : List ℕ) → at_chars n.entries k ≡ update bytes_eq (at_chars m.entries) (chars key) value k
at_chars-updated m n key is value h = at_chars-put m.entries n.entries key is value (λ bytes.
    by-order n bytes
    ∙ btree_map_updates_text key m n value h bytes
    ∙ ap (cond (bytes_eq key bytes) value) (sym (by-order m bytes)))

chosen : {Z : Type 0} (b : Bool) (value : String Z) (o : Option (String Z))
    → option_map characters (cond b (Some value) o) ≡ cond b (Some (characters value)) (option_map characters o)
chosen true value o = refl
chosen false value o = refl

-- after an insertion into a hash map
pub value-inserted : {Y Z S : Type 0} (m n : HashMap (String Y) (String Z) S) (key : String Y) (value : String Z)
    → hashed.UpdatesBy string_eq (string_eq key) m n (Some value)
    → (k : List ℕ) → value_at n.entries k ≡ update bytes_eq (value_at m.entries) (characters key) (Some (characters value)) k
value-inserted m n key value h k =
    let put = hash_map_updates_text (string_bytes key) m n (Some value) h in
    ap (option_map characters) (at_chars-put m.entries n.entries (string_bytes key) (IsUtf8-string_bytes key) (Some value) put k)
    ∙ chosen (bytes_eq (characters key) k) value (at_chars m.entries k)

-- after an insertion into a sorted map
pub value-inserted-sorted : {Y Z : Type 0} (m n : BTreeMap (String Y) (String Z)) (key : String Y) (value : String Z)
    → sorted.UpdatesBy string_cmp (string_cmp key) m n (Some value)
    → (k : List ℕ) → value_at n.entries k ≡ update bytes_eq (value_at m.entries) (characters key) (Some (characters value)) k
value-inserted-sorted m n key value h k =
    ap (option_map characters) (at_chars-updated m n (string_bytes key) (IsUtf8-string_bytes key) (Some value) h k)
    ∙ chosen (bytes_eq (characters key) k) value (at_chars m.entries k)
