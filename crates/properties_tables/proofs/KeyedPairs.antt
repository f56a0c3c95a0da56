-- The pairs of a source whose keys are sound.
use Rattle.std.proofs.Common.{◌≡◌, ℕ, true, false, List, [], ◌∷◌, ◌++◌, refl, ap, sym, ◌∙◌, inl, inr, subst}
use Rattle.std.specs.Prelude.{◌⊎◌, Option, Some, None}
use Rattle.std.proofs.lemmas.Bool.{cases_Bool}
use Rattle.properties_format.specs.{Encoding.Encoding, Split.IsSplit, Split.Logical, Text.begins, Text.is_comment_sign, Text.without_leading_blanks}
use Rattle.properties_format.specs.{Computed.Escapes.meaning_of, Computed.Split.split_full, Computed.Split.split_of}
use Rattle.properties_format.specs.Escapes.{breaks, means, IsMeaning, Malformed, Meaning, Means}
use Rattle.properties_format.specs.Items.{broken, pair, Entry, item, Outcome}
use Rattle.properties_format.specs.Lines.{first_number, is_comment_line, joined, Line}
use Rattle.properties_format.specs.Computed.Items.{comment_outcome, outcome_of, pair_outcome, split_outcome}
use Rattle.properties_format.proofs.{Escapes.Unique.meaning_of-meets, Escapes.Unique.means-only, Split.Unique.split_of-meets, Split.Unique.split_of-only}
use Rattle.properties_format.proofs.{Keys.are-keys, Keys.pair_keys}
use Rattle.java_properties.specs.Findings.{KeyPlace}
use Rattle.properties_tables.specs.Private.Fold.{before_some, escapes_among, found_escape, found_pair, found_pairs, key_meant, keyed_pairs, outcome_finding, sound_key, with_key, AreFindings, Finding}
use Rattle.properties_tables.specs.{Private.Table.place_keys, Private.Table.HasPlaces, Private.Table.HoldPlaces, SoundKeys.AreKeyedIn, SoundKeys.AreKeyedPairs}
use Rattle.properties_tables.specs.{SoundKeys.HasSoundKey, Sources.first_in_pair}
use Rattle.properties_tables.proofs.{FindingFolds.findings_in, SourceFindings.findings-groups}

-- ---- among findings

with-append : (n : ℕ) (key : Option (List ℕ)) (xs ys : List Entry) → with_key n key (xs ++ ys) ≡ with_key n key xs ++ ys
with-append n None xs ys = refl
with-append n (Some key) xs ys = refl

pub keyed-append : (fs gs : List Finding) → keyed_pairs (fs ++ gs) ≡ keyed_pairs fs ++ keyed_pairs gs
keyed-append [] gs = refl
keyed-append (found_pair n key value ∷ fs) gs = ap (λ v. item n (pair key value) ∷ v) (keyed-append fs gs)
keyed-append (found_escape escape x ∷ fs) gs = elim (cases_Bool escape.in_comment) [
  | inl comment ↦ rw comment (keyed-append fs gs)
  | inr in_pair ↦
      let key = sound_key (split_of x) in
      rw in_pair (ap (with_key escape.line_number key) (keyed-append fs gs) ∙ with-append escape.line_number key (keyed_pairs fs) (keyed_pairs gs))
]

no-some : {A : Type 0} (x : A) → Some x ≡ None → ⊥
no-some x h = cc

-- Where no pair is malformed, they are all pairs.
pub keyed-same : (fs : List Finding) → first_in_pair (escapes_among fs) ≡ None → keyed_pairs fs ≡ found_pairs fs
keyed-same [] h = refl
keyed-same (found_pair n key value ∷ fs) h = ap (λ v. item n (pair key value) ∷ v) (keyed-same fs h)
keyed-same (found_escape escape x ∷ fs) h = elim (cases_Bool escape.in_comment) [
  | inl comment ↦ rw comment (keyed-same fs (rw comment at h))
  | inr in_pair ↦ absurd (no-some _ (rw in_pair at h))
]

-- ---- in a logical line

-- A comment line is no pair.
comment-keyless : (x : List ℕ) → is_comment_line x ≡ true → sound_key (split_of x) ≡ None
unfolding split_of
comment-keyless x h = on (without_leading_blanks x) h
  where
    on : (y : List ℕ) → begins is_comment_sign y ≡ true → sound_key (split_full y) ≡ None
    on [] h = refl
    on (c ∷ cs) h = rw h refl

module _ (x : List ℕ) where
  pub key-found : (what : Logical) → IsSplit x what → sound_key (split_of x) ≡ sound_key what
  key-found what h = ap sound_key (sym (split_of-only x what h))

  pub key-of_pair : (raw_key raw_value : List ℕ) (m : Meaning) → IsSplit x (Logical.pair raw_key raw_value) → m ≡ meaning_of raw_key
      → sound_key (split_of x) ≡ key_meant m
  key-of_pair raw_key raw_value m h is = key-found (Logical.pair raw_key raw_value) h ∙ ap key_meant (sym is)

  keyless : sound_key (split_of x) ≡ None → (key : List ℕ) → HasSoundKey x key → ⊥
  keyless none key h =
      let some : sound_key (split_of x) ≡ Some key = key-of_pair h.raw_key h.raw_value (means key) h.split (means-only h.raw_key key h.means) in
      let no : None ≡ Some key = sym none ∙ some in
      cc

  has-key : (key : List ℕ) → sound_key (split_of x) ≡ Some key → HasSoundKey x key
  has-key key h = on (split_of x) (split_of-meets x) h
    where
      meant : (raw : List ℕ) (m : Meaning) → IsMeaning raw m → key_meant m ≡ Some key → Means raw key
      meant raw (means text) is e = subst (Means raw) (let same : text ≡ key = cc in same) is
      meant raw (breaks kind) is e = absurd (let no : None ≡ Some key = e in cc)

      on : (l : Logical) → IsSplit x l → sound_key l ≡ Some key → HasSoundKey x key
      on Logical.blank is e = absurd (let no : None ≡ Some key = e in cc)
      on (Logical.comment raw) is e = absurd (let no : None ≡ Some key = e in cc)
      on (Logical.pair raw_key raw_value) is e =
          record { raw_key = raw_key; raw_value = raw_value; split = is; means = meant raw_key (meaning_of raw_key) (meaning_of-meets raw_key) e }

module _ (n : ℕ) (x : List ℕ) (fs : List Finding) where
  -- The line adds a pair with this key, or none.
  abbrev Adds : Option (List ℕ) → List Entry → Type 0
  Adds None pairs = pairs ≡ keyed_pairs fs
  Adds (Some key) pairs = (value : List ℕ) × (pairs ≡ item n (pair key value) ∷ keyed_pairs fs)

  abbrev key : Option (List ℕ)
  key = sound_key (split_of x)

  abbrev with_outcome : Outcome → List Entry
  with_outcome o = keyed_pairs (before_some (outcome_finding n x o) fs)

  adds-key : (o : Option (List ℕ)) → Adds o (with_key n o (keyed_pairs fs))
  adds-key None = refl
  adds-key (Some k) = ([], refl)

  adds-broken : (kind : Malformed) → Adds key (with_outcome (broken kind))
  adds-broken kind = elim (cases_Bool (is_comment_line x)) [
    | inl comment ↦ rw (comment, comment-keyless x comment) refl
    | inr in_pair ↦ rw in_pair (adds-key key)
  ]

  adds-comment : (m : Meaning) → key ≡ None → Adds key (with_outcome (comment_outcome m))
  adds-comment (means text) none = rw none refl
  adds-comment (breaks kind) none = adds-broken kind

  adds-pair : (k v : Meaning) → key ≡ key_meant k → Adds key (with_outcome (pair_outcome k v))
  adds-pair (breaks kind) v is = adds-broken kind
  adds-pair (means k) (breaks kind) is = adds-broken kind
  adds-pair (means k) (means value) is = rw is (value, refl)

  adds-split : (l : Logical) → key ≡ sound_key l → Adds key (with_outcome (split_outcome l))
  adds-split Logical.blank none = rw none refl
  adds-split (Logical.comment raw) none = adds-comment (meaning_of raw) none
  adds-split (Logical.pair raw_key raw_value) is = adds-pair (meaning_of raw_key) (meaning_of raw_value) is

  -- So do they among the findings of groups.
  pub adds-line : (o : Option (List ℕ)) → key ≡ o → Adds o (with_outcome (outcome_of x))
      → ((k : List ℕ) × (value : List ℕ) × HasSoundKey x k × (with_outcome (outcome_of x) ≡ item n (pair k value) ∷ keyed_pairs fs))
      ⊎ (((k : List ℕ) → HasSoundKey x k → ⊥) × (with_outcome (outcome_of x) ≡ keyed_pairs fs))
  adds-line None is same = inr (keyless x is, same)
  adds-line (Some k) is (value, same) = inl (k, value, has-key x k is, same)

-- ---- in a source

keyed-groups : (gs : List (List Line)) → AreKeyedIn gs (keyed_pairs (findings_in gs))
keyed-groups [] = refl
keyed-groups (g ∷ gs) =
    let x = joined g in
    let fs = findings_in gs in
    (keyed_pairs fs, keyed-groups gs, adds-line (first_number g) x fs (sound_key (split_of x)) refl (adds-split (first_number g) x fs (split_of x) refl))

pub keyed-read : (e : Encoding) (source : List ℕ) (findings : List Finding) (places : List KeyPlace) → AreFindings e source findings
    → HoldPlaces (keyed_pairs findings) places → HasPlaces (AreKeyedPairs e source) places
keyed-read e source findings places are h =
    let g = findings-groups e source findings are in
    let pairs = keyed_pairs findings in
    record {
      pairs = pairs;
      are = record { groups = g.0; has_groups = g.1; are = subst (AreKeyedIn g.0) (ap keyed_pairs (sym g.2)) (keyed-groups g.0) };
      keys = are-keys pairs (pair_keys pairs) (place_keys places) refl h.first;
      each = h.each;
    }
