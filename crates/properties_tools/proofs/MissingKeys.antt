-- The keys that one table has and another doesn't are those of its pairs that no pair of the other has.
use Rattle.std.proofs.Common.{◌≡◌, ℕ, zero, suc, Bool, true, false, List, [], ◌∷◌, ◌++◌, refl, ap, sym, ◌∙◌, inl, inr, subst, arith, append_assoc, append-nil}
use Rattle.std.specs.Prelude.{◌&&◌, ◌||◌, not, AllPairs, Contains, Option, Some, None, bytes_eq, filter, is_some, string_bytes}
use Rattle.std.specs.{Global.Global, declared.string.String.String}
use Rattle.std.proofs.lemmas.Bool.{cases_Bool, and_parts, not-true, not-false}
use Rattle.std.proofs.lemmas.List.Elements.{All-contains, All-contains_itself, All-filter, filter_passes}
use Rattle.std.proofs.{lemmas.List.Kept.AllPairs-filter, lemmas.Slice.Eq.bytes_eq-Decides}
use Rattle.properties_format.specs.{Computed.Maps.HasNot, Items.Entry, Encoding.Encoding}
use Rattle.properties_format.specs.Maps.{AreKeys, HasNoPair, IsLastValue, PairComesBefore}
use Rattle.properties_format.proofs.{Maps.value_in-only, Changed.Maps.other-test}
use Rattle.java_properties.specs.Findings.{KeyPlace}
use Rattle.properties_checking.specs.{Check.IsReport, Private.Checking.IsChecked, Private.Objects.AddsReport, Kinds.reported, declared.check.Reported.Reported}
use Rattle.properties_checking.specs.{declared.kinds.Kind.TheVariants.MissingKey, declared.kinds.Kind.TheVariants.SurplusKey, declared.request.Check.Check}
use Rattle.properties_tools.specs.Private.Lacking.{is_among, is_lacking, lacking}
use Rattle.properties_tables.specs.{Private.Table.table_places, Private.Table.FindsKey, Private.Table.HasPlaces, Table.IsFirstLine}
use Rattle.properties_tables.specs.{Lines.starts_with_utf_32_mark, SoundKeys.AreKeyedPairs, declared.key_table.KeyTable.KeyTable}
use Rattle.properties_tools.specs.Propedit.Against.{is_compared, keys_at, missing_line, missing_value, surplus_line, surplus_value, AreKeyPlaces, AreLacking, IsBaseOf, IsReportAgainst, KnownBase, TellsWellFormed}
use Rattle.properties_tools.proofs.Differences.{no-value}

-- ---- a key among others

among-found : (key : List ℕ) (keys : List (List ℕ)) (row : ℕ) → FindsKey key keys (Some row) → is_among key keys ≡ true
among-found key [] row f = absurd (let l = f.0 in omega arith)
among-found key (k ∷ ks) zero f = rw ((bytes_eq-Decides k key).1 (f.1 [])) refl
among-found key (k ∷ ks) (suc row) f = elim (cases_Bool (bytes_eq k key)) [
  | inl same ↦ rw same refl
  | inr other ↦ rw other (among-found key ks row ((let l = f.0 in omega arith), f.1))
]

among-none : (key : List ℕ) (keys : List (List ℕ)) → HasNot key keys → is_among key keys ≡ false
among-none key [] h = refl
among-none key (k ∷ ks) h = rw (other-test k key h.0) (among-none key ks h.1)

-- A key isn't found if it isn't among the keys.
pub found-told : (key : List ℕ) (keys : List (List ℕ)) (found : Option ℕ) (is : Bool) → FindsKey key keys found → is_some found ≡ not is
    → is ≡ not (is_among key keys)
found-told key keys None is f h = rw (among-none key keys f) (not-false is (sym h))
found-told key keys (Some row) is f h = rw (among-found key keys row f) (not-true is (sym h))

among-contained : (key : List ℕ) (keys : List (List ℕ)) → Contains keys key → is_among key keys ≡ true
among-contained key [] (n, l, e) = absurd (omega arith)
among-contained key (k ∷ ks) (zero, l, e) = rw ((bytes_eq-Decides k key).1 e) refl
among-contained key (k ∷ ks) (suc n, l, e) = elim (cases_Bool (bytes_eq k key)) [
  | inl same ↦ rw same refl
  | inr other ↦ rw other (among-contained key ks (n, omega arith, e))
]

among-there : (key : List ℕ) (keys : List (List ℕ)) → is_among key keys ≡ true → Contains keys key
among-there key [] h = absurd (cc)
among-there key (k ∷ ks) h = elim (cases_Bool (bytes_eq k key)) [
  | inl same ↦ (0, omega arith, (bytes_eq-Decides k key).0 same)
  | inr other ↦ let c = among-there key ks (rw other at h) in (suc c.0, (let l = c.1 in omega arith), c.2)
]

-- ---- keys that are kept

keys-kept : (p : List ℕ → Bool) (places : List KeyPlace) → keys_at (filter (λ q. p q.key) places) ≡ filter p (keys_at places)
keys-kept p [] = refl
keys-kept p (q ∷ qs) = elim (cases_Bool (p q.key)) [
  | inl kept ↦ rw kept (ap (λ v. q.key ∷ v) (keys-kept p qs))
  | inr left ↦ rw left (keys-kept p qs)
]

kept-there : (p : List ℕ → Bool) (keys : List (List ℕ)) (key : List ℕ) → Contains keys key → p key ≡ true → Contains (filter p keys) key
kept-there p [] key (n, l, e) h = absurd (omega arith)
kept-there p (k ∷ ks) key (zero, l, e) h = rw (ap p e ∙ h) (0, omega arith, e)
kept-there p (k ∷ ks) key (suc n, l, e) h =
    let rest = kept-there p ks key (n, omega arith, e) h in
    elim (cases_Bool (p k)) [
      | inl kept ↦ rw kept (suc rest.0, (let m = rest.1 in omega arith), rest.2)
      | inr left ↦ rw left rest
    ]

-- ---- keys that the other table doesn't have

-- A key with a value has a pair.
some-pair : (pairs : List Entry) (key value : List ℕ) → IsLastValue pairs key value → HasNoPair key pairs → ⊥
some-pair pairs key value is none =
    let e : Some value ≡ None = value_in-only pairs key (Some value) is ∙ sym (value_in-only pairs key None none) in
    cc

module _ (w : Bool) (pairs other : List Entry) (places : List KeyPlace) (keys : List (List ℕ)) (own : AreKeyPlaces pairs places) (others : AreKeys other keys) where
  abbrev Kept : List (List ℕ)
  Kept = filter (is_lacking w keys) (keys_at places)

  no-pair : (key : List ℕ) → is_among key keys ≡ false → HasNoPair key other
  no-pair key absent = no-value other key (λ value is.
      let there = among-contained key keys ((others.each key).1 (value, is)) in
      let e : true ≡ false = sym there ∙ absent in
      cc)

  is-lacking : (key : List ℕ) → Contains Kept key
      → (value : List ℕ) × IsLastValue pairs key value × HasNoPair key other × (is_compared w key ≡ true)
  is-lacking key c =
      let lacks = is_lacking w keys in
      let there = All-contains (Contains (keys_at places)) Kept key
      (All-filter lacks (Contains (keys_at places)) (keys_at places) (All-contains_itself (keys_at places))) c in
      let passes = All-contains (λ k. lacks k ≡ true) Kept key (filter_passes lacks (keys_at places)) c in
      let both = and_parts (not (is_among key keys)) (is_compared w key) passes in
      let has = (own.keys.each key).0 there in
      (has.0, has.1, no-pair key (not-true (is_among key keys) both.0), both.1)

  has-lacking : (key : List ℕ) → (value : List ℕ) × IsLastValue pairs key value × HasNoPair key other × (is_compared w key ≡ true)
      → Contains Kept key
  has-lacking key (value, is, none, compared) =
      kept-there (is_lacking w keys) (keys_at places) key ((own.keys.each key).1 (value, is)) lacks
    where
      lacks : is_lacking w keys key ≡ true
      lacks = elim (cases_Bool (is_among key keys)) [
        | inl there ↦ let has = (others.each key).0 (among-there key keys there) in absurd (some-pair other key has.0 has.1 none)
        | inr absent ↦ rw absent compared
      ]

  pub lacking-are : AreLacking w pairs other (lacking w keys places)
  lacking-are =
      let same = keys-kept (is_lacking w keys) places in
      record {
        each = λ key. (
          (λ c. is-lacking key (subst (λ v. Contains v key) same c)),
          (λ h. subst (λ v. Contains v key) (sym same) (has-lacking key h)),
        );
        in_order = subst (AllPairs (PairComesBefore pairs)) (sym same)
            (AllPairs-filter (PairComesBefore pairs) (is_lacking w keys) (keys_at places) own.keys.in_order);
        lines = All-filter (λ p. is_lacking w keys p.key) (λ p. IsFirstLine pairs p.key p.number) places own.lines;
      }

-- ---- reports

-- If one of the two is in UTF-32, nothing is compared.
pub not-compared : (base : KnownBase) (name : List ℕ) (e : Encoding) (check : Check) (source report : List ℕ) → IsReport name e check source report
    → (base.is_utf_32 || starts_with_utf_32_mark source) ≡ true → IsReportAgainst base name e check source report
not-compared base name e check source report is_report unread = record {
  report = report;
  is_report = is_report;
  compared = [];
  if_read = λ read. let clash : true ≡ false = sym unread ∙ read in absurd (cc);
  if_not = λ _. refl;
  is = sym (append-nil report);
}

module _ (name : List ℕ) (e : Encoding) (check : Check) (source : List ℕ) (r : Reported) (h : IsChecked name e check source r)
    (keys : KeyTable) (places : HasPlaces (AreKeyedPairs e source) (table_places keys)) where
  told : TellsWellFormed e source r.is_well_formed
  told = record { numbers = h.ill_formed; are = h.are_ill_formed; is = h.well_formed }

  own : AreKeyPlaces places.pairs (table_places keys)
  own = record { keys = places.keys; lines = places.each }

  -- what is kept of a base
  pub base-kept : (base : KnownBase) → base.name ≡ name → base.keys ≡ table_places keys → base.is_well_formed ≡ r.is_well_formed
      → base.is_utf_32 ≡ starts_with_utf_32_mark source → IsBaseOf name e source base
  base-kept base named same well utf_32 = record {
    named = named;
    pairs = places.pairs;
    are = places.are;
    keys = subst (AreKeyPlaces places.pairs) (sym same) own;
    well_formed = subst (TellsWellFormed e source) (sym well) told;
    utf_32 = utf_32;
  }

  -- the report against a base
  pub said-against : (base : KnownBase) (w : Bool) (after all : String Global) → (base.is_utf_32 || starts_with_utf_32_mark source) ≡ false
      → w ≡ (base.is_well_formed && r.is_well_formed)
      → AddsReport check.report (missing_line name base.name) (missing_value name base.name)
      (reported check.ignored (λ p. MissingKey) (lacking w (keys_at (table_places keys)) base.keys)) r.text after
      → AddsReport check.report (surplus_line name base.name) (surplus_value name base.name)
      (reported check.ignored (λ p. SurplusKey) (lacking w (keys_at base.keys) (table_places keys))) after all
      → IsReportAgainst base name e check source (string_bytes all)
  said-against base w after all read both h1 h2 = record {
    report = string_bytes r.text;
    is_report = h.report;
    compared = h1.text ++ h2.text;
    if_read = λ _. record {
      pairs = places.pairs;
      are = places.are;
      is_well_formed = r.is_well_formed;
      well_formed = told;
      missing = lacking w (keys_at (table_places keys)) base.keys;
      are_missing = λ base_pairs theirs.
          subst (λ v. AreLacking v base_pairs places.pairs (lacking w (keys_at (table_places keys)) base.keys)) both
          (lacking-are w base_pairs places.pairs base.keys (keys_at (table_places keys)) theirs places.keys);
      surplus = lacking w (keys_at base.keys) (table_places keys);
      are_surplus = λ base_pairs theirs.
          subst (λ v. AreLacking v places.pairs base_pairs (lacking w (keys_at base.keys) (table_places keys))) both
          (lacking-are w places.pairs base_pairs (table_places keys) (keys_at base.keys) own theirs.keys);
      missing_text = h1.text;
      tells_missing = h1.is_text;
      surplus_text = h2.text;
      tells_surplus = h2.is_text;
      is = refl;
    };
    if_not = λ unread. let clash : true ≡ false = sym unread ∙ read in absurd (cc);
    is = h2.is ∙ ap (λ v. v ++ h2.text) h1.is ∙ append_assoc (string_bytes r.text) h1.text h2.text;
  }
