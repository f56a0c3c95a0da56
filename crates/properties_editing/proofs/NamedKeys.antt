-- Keys that are named, and their lengths.
use Rattle.std.proofs.Common.{◌≡◌, ◌%◌, ◌==◌, length, Bool, ◌⊎◌, ◌*◌, ◌^◌, ℕ, true, false, List, [], ap, subst, sym, refl, ◌∙◌, inl, inr, arith}
use Rattle.std.specs.Prelude.{Some, not, encode_utf8_all, bytes_eq, bit_and, bit_or, ◌||◌, ◌<◌, max}
use Rattle.std.specs.Int.{bit_at}
use Rattle.std.specs.Map.{update}
use Rattle.std.specs.BTreeMap.{IsOrdered}
use Rattle.std.specs.String.{string_cmp}
use Rattle.std.proofs.lemmas.Bool.{cases_Bool, cond-true, cond-false, eqb-true, false_from_ne_true}
use Rattle.std.proofs.lemmas.Nat.{pow_pos}
use Rattle.std.proofs.lemmas.Nat.Bits.{and_pow, bit_at-lt, bit_at-pow_same, bit_at_or}
use Rattle.std.proofs.lemmas.Slice.Eq.{bytes_eq-Decides}
use Rattle.properties_editing.specs.Private.BodyParts.{AddsTold, AreMasked, AreUnplaced, MayHave, NamesKey, gap_with, is_named, length_place, span_of_group, listed_places, places_of, stored_of}
use Rattle.properties_format.specs.Items.{Outcome, ignored, given, broken, comment, pair}
use Rattle.properties_format.specs.Computed.Edited.{IsSoundOutcome}
use Rattle.properties_format.specs.Computed.Items.{outcome_of}
use Rattle.properties_text.proofs.Texts.Resolving.{holds_backslash-text}
use Rattle.properties_items.specs.BorrowedItems.{outcome_pair}
use Rattle.properties_editing.specs.declared.groups.Group.{Group}
use Rattle.properties_editing.specs.declared.parts.read.Gap.{Gap}
use Rattle.properties_editing.specs.declared.parts.Parts.{Parts}
use Rattle.properties_editing.specs.declared.parts.KeyPlaces.{KeyPlaces}
use Rattle.properties_editing.specs.declared.parts.NamedKeys.{NamedKeys}

-- A key whose bit isn't set isn't named.
pub not-masked : (keys : NamedKeys) (key : List ℕ) → AreMasked keys → keys.all ≡ false → bit_and keys.lengths (2 ^ length_place key) ≡ 0
    → is_named keys key ≡ false
not-masked keys key masked some none = false_from_ne_true (is_named keys key) (λ named.
    let n = length_place key in
    let set : 1 * 2 ^ n ≡ 0 = ap (λ b. b * 2 ^ n) (sym (masked some key named)) ∙ sym (and_pow keys.lengths n) ∙ none in
    let some : 0 < 2 ^ n = pow_pos n in
    absurd (omega arith))

or-not : (a b : Bool) → (a || not b) ≡ false → (a ≡ false) × (b ≡ true)
or-not true b h = absurd (cc)
or-not false true h = (refl, refl)
or-not false false h = absurd (cc)

-- A key that can't be named, by its length, isn't.
pub not-named : (keys : NamedKeys) (key : List ℕ) (size : ℕ) → AreMasked keys → size ≡ length (encode_utf8_all key) → MayHave keys size false → is_named keys key ≡ false
not-named keys key size masked same told =
    let none = or-not keys.all (bit_and keys.lengths (2 ^ (size % 64)) == 0) (sym told) in
    not-masked keys key masked none.0 (ap (λ n. bit_and keys.lengths (2 ^ (n % 64))) (sym same) ∙ eqb-true _ 0 none.1)

pair-sound : (o : Outcome) (p : List ℕ × List ℕ) → outcome_pair o ≡ Some p → IsSoundOutcome o
pair-sound ignored p h = tt
pair-sound (given (comment x)) p h = tt
pair-sound (given (pair k v)) p h = tt
pair-sound (broken kind) p h = absurd (cc)

pub ruleset plain_lines = (holds_backslash-text)

-- A pair with such a key is passed over.
pub told-other : (d x : List ℕ) (group : Group) (next : ℕ) (gap after : Gap) (p : List ℕ × List ℕ) (size : ℕ) (old : Parts)
    → AreMasked old.keys → outcome_pair (outcome_of x) ≡ Some p → size ≡ length (encode_utf8_all p.0) → MayHave old.keys size false
    → after ≡ gap_with gap group.start (Some (span_of_group group)) → IsSoundOutcome (outcome_of x) × AddsTold d group next (outcome_pair (outcome_of x)) gap old after old
told-other d x group next gap after p size old masked said same told is =
    (pair-sound (outcome_of x) p said, rw said (inr (not-named old.keys p.0 size masked same told, record { parts = refl; keys = refl; gap_after = is })))

larger : (a b : ℕ) → a < 2 → b < 2 → (a ≡ 1) ⊎ (b ≡ 1) → max a b ≡ 1
larger a b p q (inl h) = omega arith
larger a b p q (inr h) = omega arith

-- A key more is named.
module _ (key : List ℕ) (next : KeyPlaces) (old new : NamedKeys) (unplaced : AreUnplaced old) (some : old.all ≡ false) (all : new.all ≡ old.all)
    (none : listed_places next ≡ [])
    (stored : (k : List ℕ) → stored_of new.places.entries k ≡ update bytes_eq (stored_of old.places.entries) key (Some next) k) where
  stored-key : (k : List ℕ) → bytes_eq key k ≡ true → stored_of new.places.entries k ≡ Some next
  stored-key k same = stored k ∙ cond-true (bytes_eq key k) (Some next) (stored_of old.places.entries k) same

  stored-other : (k : List ℕ) → bytes_eq key k ≡ false → stored_of new.places.entries k ≡ stored_of old.places.entries k
  stored-other k other = stored k ∙ cond-false (bytes_eq key k) (Some next) (stored_of old.places.entries k) other

  names : (k : List ℕ) → is_named new k ≡ (bytes_eq key k || is_named old k)
  names k = elim (cases_Bool (bytes_eq key k)) [
    | inl b ↦ rw (b, all, some, stored-key k b) refl
    | inr b ↦ rw (b, all, some, stored-other k b) refl
  ]

  masks : new.lengths ≡ bit_or old.lengths (2 ^ length_place key) → AreMasked new
  masks lengths not k named =
      let bit = bit_at (2 ^ length_place key) (length_place k) in
      let bit_below : bit < 2 = bit_at-lt (2 ^ length_place key) (length_place k) in
      let below : bit_at old.lengths (length_place k) < 2 = bit_at-lt old.lengths (length_place k) in
      ap (λ n. bit_at n (length_place k)) lengths ∙ bit_at_or old.lengths (2 ^ length_place key) (length_place k)
      ∙ elim (cases_Bool (bytes_eq key k)) [
        | inl b ↦
            let set : bit ≡ 1 = subst (λ v. bit_at (2 ^ length_place key) (length_place v) ≡ 1) ((bytes_eq-Decides key k).0 b)
            (bit_at-pow_same (length_place key)) in
            larger (bit_at old.lengths (length_place k)) bit below bit_below (inr set)
        | inr b ↦
            let was = sym (names k ∙ ap (λ v. v || is_named old k) b) ∙ named in
            larger (bit_at old.lengths (length_place k)) bit below bit_below (inl (unplaced.masked some k was))
      ]

  pub names-key : new.lengths ≡ bit_or old.lengths (2 ^ length_place key) → IsOrdered string_cmp new.places → NamesKey key old new
  names-key lengths ordered = record {
    unplaced = record {
      none = λ k. elim (cases_Bool (bytes_eq key k)) [
        | inl b ↦ ap places_of (stored-key k b) ∙ none
        | inr b ↦ ap places_of (stored-other k b) ∙ unplaced.none k
      ];
      unread = λ is. let no : true ≡ false = sym is ∙ all ∙ some in absurd (cc);
      ordered = ordered;
      masked = masks lengths;
    };
    named = names;
    all = all;
  }
