-- Keys that are sought, and their values.
use Rattle.std.proofs.Common.{◌≡◌, ℕ, Bool, zero, suc, ◌<◌, ◌++◌, ◌∷◌, true, false, List, [], length, refl, ap, sym, ◌∙◌, inl, inr, subst, arith, append-nil, if◌then◌else◌}
use Rattle.std.specs.Prelude.{map, Option, Some, None, bytes_eq, cond, encode_utf8_all}
use Rattle.std.specs.{Global.Global, BTreeMap.IsOrdered, Map.update, Option.option_map, Str.chars, Str.IsUtf8, String.string_cmp, declared.string.String.String}
use Rattle.std.proofs.{Math.ListN.get_or, Math.ListN.set, lemmas.Bool.cases_Bool, lemmas.Bool.cond-true, lemmas.Bool.cond-false, lemmas.Grind.get_or-set_at}
use Rattle.std.proofs.{lemmas.List.length-set, lemmas.Slice.Eq.bytes_eq-Decides, lemmas.Str.encodes-chars}
use Rattle.properties_format.specs.{Encoding.Encoding, Edits.ArePairs, Edits.AreInComments, Edits.EscapesAre, Items.pair, Items.Entry, Items.item}
use Rattle.properties_format.specs.{Computed.Maps.Has, Computed.Maps.first_value}
use Rattle.properties_format.proofs.{Found.found-in_groups, Maps.value_in, Maps.value_in-append, Maps.value_in-meets}
use Rattle.properties_items.specs.{Texts.characters, declared.findings.MalformedEscape.MalformedEscape}
use Rattle.properties_items.proofs.TextMaps.Values.{at_chars}
use Rattle.properties_editing.proofs.PartLists.{none-changed}
use Rattle.properties_tables.specs.Private.Sought.{or_else, found_value, held_value, is_marked, mark_for, IsSeeking, Seeks, SeeksMore, TookSought}
use Rattle.properties_tables.specs.Private.Fold.{found_escape, found_pair, found_pairs, AreFindings, Finding, Takes}
use Rattle.properties_tables.specs.{Values.HaveValues, Sources.first_in_pair, declared.values.Sought.Sought}
use Rattle.properties_tables.proofs.{SourceFindings.findings-groups, SourceFindings.pairs-append, SourceFindings.pairs-groups, FirstKeys.has-split}
use Rattle.properties_tables.proofs.{RefusedSources.first-kept, RefusedSources.first-more, RefusedSources.none-found}

-- ---- marks

-- A mark stays.
stays : (marks : List Bool) (m n : ℕ) → get_or marks n false ≡ true → get_or (set marks m true) n false ≡ true
stays [] m n h = h
stays (b ∷ bs) zero zero h = refl
stays (b ∷ bs) zero (suc n) h = h
stays (b ∷ bs) (suc m) zero h = h
stays (b ∷ bs) (suc m) (suc n) h = stays bs m n h

nothing : {A : Type 0} (o : Option A) → ((x : A) → o ≡ Some x → ⊥) → o ≡ None
nothing None h = refl
nothing (Some x) h = absurd (h x refl)

-- A key that isn't marked isn't sought.
pub not-sought : (s : Sought) (key : List ℕ) → IsUtf8 key → IsSeeking s → is_marked s key ≡ false → held_value s (chars key) ≡ None
not-sought s key is seeking none = nothing (held_value s (chars key)) (λ value held.
    let marked = ap (is_marked s) (sym (encodes-chars key is)) ∙ seeking.marked (chars key) value held in
    absurd (cc))

-- ---- one more key

-- what is held after something was put at a key
pub held-put : (old new : Sought) (key : List ℕ) (value : Option (Option (String Global)))
    → ((k : List ℕ) → at_chars new.values.entries k ≡ update bytes_eq (at_chars old.values.entries) key value k)
    → (k : List ℕ) → held_value new k ≡ update bytes_eq (held_value old) key (option_map (option_map characters) value) k
held-put old new key value put k = ap (option_map (option_map characters)) (put k) ∙ chosen (bytes_eq key k)
  where
    chosen : (b : Bool) → option_map (option_map characters) (cond b value (at_chars old.values.entries k))
        ≡ cond b (option_map (option_map characters) value) (held_value old k)
    chosen true = refl
    chosen false = refl

module _ (key : List ℕ) (is : IsUtf8 key) (old new : Sought) (seeking : IsSeeking old) (ordered : IsOrdered string_cmp new.values) (mark : ℕ)
    (at : mark ≡ mark_for (length old.marks.items) key) (within : mark < length old.marks.items) (marks : new.marks.items ≡ set old.marks.items mark true)
    (put : (k : List ℕ) → at_chars new.values.entries k ≡ update bytes_eq (at_chars old.values.entries) (chars key) (Some None) k) where
  size : length new.marks.items ≡ length old.marks.items
  size = ap length marks ∙ length-set old.marks.items mark true

  mark-is : (k : List ℕ) → is_marked new k ≡ get_or (set old.marks.items mark true) (mark_for (length old.marks.items) k) false
  mark-is k = ap (λ n. get_or new.marks.items (mark_for n k) false) size ∙ ap (λ v. get_or v (mark_for (length old.marks.items) k) false) marks

  here : (k : List ℕ) → bytes_eq (chars key) k ≡ true → held_value new k ≡ Some None
  here k same = held-put old new (chars key) (Some None) put k ∙ cond-true (bytes_eq (chars key) k) (Some None) (held_value old k) same

  there : (k : List ℕ) → bytes_eq (chars key) k ≡ false → held_value new k ≡ held_value old k
  there k other = held-put old new (chars key) (Some None) put k ∙ cond-false (bytes_eq (chars key) k) (Some None) (held_value old k) other

  still : IsSeeking new
  still = record {
    ordered = ordered;
    some = let a = size in let b = seeking.some in omega arith;
    marked = λ k value held. mark-is (encode_utf8_all k) ∙ elim (cases_Bool (bytes_eq (chars key) k)) [
      | inl same ↦
          let e : encode_utf8_all k ≡ key = ap encode_utf8_all (sym ((bytes_eq-Decides (chars key) k).0 same)) ∙ encodes-chars key is in
          rw e (get_or-set_at old.marks.items mark (mark_for (length old.marks.items) key) true false (sym at) within)
      | inr other ↦ stays old.marks.items mark _ (seeking.marked k value (sym (there k other) ∙ held))
    ];
  }

  pub seeks-more : new.malformed ≡ old.malformed → SeeksMore (chars key) old new
  seeks-more malformed = (
    still,
    λ keys h. record {
      seeking = still;
      malformed = malformed ∙ h.malformed;
      without = λ k value held. elim (cases_Bool (bytes_eq (chars key) k)) [
        | inl same ↦ let e = sym (here k same) ∙ held in cc
        | inr other ↦ h.without k value (sym (there k other) ∙ held)
      ];
      each = λ k m. elim (cases_Bool (bytes_eq (chars key) k)) [
        | inl same ↦ here k same
        | inr other ↦ there k other ∙ elim (has-split k (chars key) keys m) [
          | inl l ↦ h.each k l
          | inr e ↦ let t = (bytes_eq-Decides (chars key) k).1 e in absurd (cc)
        ]
      ];
    },
  )

-- ---- what is taken

pub took-none : (keys : List (List ℕ)) (s : Sought) → Seeks keys s → TookSought s [] s
took-none keys s h = record { malformed = h.malformed; seeking = h.seeking; values = λ key. same (held_value s key) (h.without key) }
  where
    same : (o : Option (Option (List ℕ))) → ((value : Option (List ℕ)) → o ≡ Some value → value ≡ None) → o ≡ option_map (λ none. None) o
    same None f = refl
    same (Some value) f = ap Some (f value refl)

value-more : (entries : List Entry) (number : ℕ) (key value k : List ℕ)
    → value_in (entries ++ item number (pair key value) ∷ []) k ≡ (if bytes_eq key k then Some value else value_in entries k)
value-more entries number key value k = value_in-append entries (item number (pair key value) ∷ []) k ∙ chosen (bytes_eq key k)
  where
    chosen : (b : Bool) → first_value (if b then Some value else None) (value_in entries k) ≡ (if b then Some value else value_in entries k)
    chosen true = refl
    chosen false = refl

-- It is still a key that is sought.
some-before : (value : Option (List ℕ)) (o : Option (Option (List ℕ))) (v : Option (List ℕ)) → option_map (λ h. value) o ≡ Some v
    → (w : Option (List ℕ)) × (o ≡ Some w)
some-before value None v h = absurd (cc)
some-before value (Some w) v h = (w, refl)

module _ (old new : Sought) (number : ℕ) (key value : List ℕ) (seeking : IsSeeking old) where
  -- a pair
  pub took-pair : new.malformed ≡ old.malformed → IsOrdered string_cmp new.values → new.marks ≡ old.marks
      → ((k : List ℕ) → held_value new k ≡ update bytes_eq (held_value old) key (option_map (λ h. Some value) (held_value old key)) k)
      → Takes TookSought old (found_pair number key value) new
  took-pair stays ordered marks put = λ first findings took. record {
    malformed = stays ∙ took.malformed ∙ sym (first-kept findings number key value);
    seeking = record {
      ordered = ordered;
      some = rw marks seeking.some;
      marked = λ k v held. let w = before k v (sym (put k) ∙ held) in rw marks (seeking.marked k w.0 w.1);
    };
    values = λ k.
        let entries = found_pairs findings in
        let more = ap (λ v. value_in v k) (pairs-append findings (found_pair number key value ∷ [])) ∙ value-more entries number key value k in
        put k ∙ step k (held_value first k) (value_in entries k) (took.values k)
        ∙ sym (ap (λ v. option_map (λ none. v) (held_value first k)) more);
  }
    where
      before : (k : List ℕ) (v : Option (List ℕ)) → update bytes_eq (held_value old) key (option_map (λ h. Some value) (held_value old key)) k ≡ Some v
          → (w : Option (List ℕ)) × (held_value old k ≡ Some w)
      before k v h = elim (cases_Bool (bytes_eq key k)) [
        | inl same ↦ subst (λ n. (w : Option (List ℕ)) × (held_value old n ≡ Some w)) ((bytes_eq-Decides key k).0 same)
            (some-before (Some value) (held_value old key) v (rw same at h))
        | inr other ↦ (v, rw other at h)
      ]

      again : (o : Option (Option (List ℕ))) (x : Option (List ℕ)) → option_map (λ h. Some value) (option_map (λ none. x) o) ≡ option_map (λ none. Some value) o
      again None x = refl
      again (Some v) x = refl

      step : (k : List ℕ) (first : Option (Option (List ℕ))) (x : Option (List ℕ)) → held_value old k ≡ option_map (λ none. x) first
          → update bytes_eq (held_value old) key (option_map (λ h. Some value) (held_value old key)) k
          ≡ option_map (λ none. if bytes_eq key k then Some value else x) first
      step k first x h = elim (cases_Bool (bytes_eq key k)) [
        | inl same ↦
            let e : key ≡ k = (bytes_eq-Decides key k).0 same in
            rw same (ap (λ v. option_map (λ h. Some value) (held_value old v)) e ∙ ap (option_map (λ h. Some value)) h ∙ again first x)
        | inr other ↦ rw other h
      ]

  -- one whose key isn't sought
  pub took-other : held_value old key ≡ None → new ≡ old → Takes TookSought old (found_pair number key value) new
  took-other none same = took-pair (ap (λ (s : Sought). s.malformed) same) (subst (λ (s : Sought). IsOrdered string_cmp s.values) (sym same) seeking.ordered)
      (ap (λ (s : Sought). s.marks) same) (λ k. ap (λ s. held_value s k) same ∙ none-changed (held_value old) key (λ h. Some value) k none)

  -- one whose key is sought
  pub took-found : (text : String Global) → new.malformed ≡ old.malformed → IsOrdered string_cmp new.values
      → new.marks ≡ old.marks → characters text ≡ value → (was : Option (String Global)) → at_chars old.values.entries key ≡ Some was
      → ((k : List ℕ) → at_chars new.values.entries k ≡ update bytes_eq (at_chars old.values.entries) key (Some (Some text)) k)
      → Takes TookSought old (found_pair number key value) new
  took-found text stays ordered marks is was found put = took-pair stays ordered marks (λ k.
      held-put old new key (Some (Some text)) put k
      ∙ ap (λ v. update bytes_eq (held_value old) key v k)
      (ap (λ v. Some (Some v)) is ∙ sym (ap (λ o. option_map (λ h. Some value) (option_map (option_map characters) o)) found)))

-- a malformed escape
pub took-escape : (old new : Sought) (escape : MalformedEscape) (x : List ℕ) → new.values ≡ old.values → new.marks ≡ old.marks
    → new.malformed ≡ or_else old.malformed (first_in_pair (escape ∷ [])) → Takes TookSought old (found_escape escape x) new
took-escape old new escape x values marks now_first = λ first findings took. record {
  malformed = first-more findings escape x old.malformed new.malformed took.malformed now_first;
  seeking = record {
    ordered = rw values took.seeking.ordered;
    some = rw marks took.seeking.some;
    marked = λ key value held. rw marks (took.seeking.marked key value (rw values at held));
  };
  values = λ key. rw (values, pairs-append findings (found_escape escape x ∷ []) ∙ append-nil (found_pairs findings)) (took.values key);
}

-- ---- a source

module _ (e : Encoding) (source : List ℕ) (findings : List Finding) (are : AreFindings e source findings) (first new : Sought)
    (took : TookSought first findings new) (none : new.malformed ≡ None) where
  pub in-comments : EscapesAre e source AreInComments
  in-comments = none-found e source findings are (sym none ∙ took.malformed)

  pairs-are : ArePairs e source (found_pairs findings)
  pairs-are =
      let g = findings-groups e source findings are in
      subst (ArePairs e source) (sym (ap found_pairs g.2 ∙ pairs-groups g.0)) (found-in_groups _ g.1)

  -- The keys that were sought have their values.
  pub have-found : (keys : List (List ℕ)) → ((key : List ℕ) → Has key keys → held_value first key ≡ Some None)
      → HaveValues e source keys (map (found_value new) keys)
  have-found [] each = tt
  have-found (key ∷ keys) each = (
    record {
      in_comments = in-comments;
      pairs = found_pairs findings;
      are = pairs-are;
      is = rw (took.values key, each key (inl refl)) (value_in-meets (found_pairs findings) key);
    },
    have-found keys (λ k m. each k (inr m)),
  )
