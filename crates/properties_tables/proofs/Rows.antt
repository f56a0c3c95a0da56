-- The rows of pairs, as one pair after another comes.
use Rattle.std.proofs.Common.{◌≡◌, ◌≢◌, ℕ, zero, suc, ◌<◌, List, [], ◌∷◌, ◌++◌, length, refl, ap, sym, ◌∙◌, inl, inr, subst, arith, append_assoc}
use Rattle.std.specs.Prelude.{All, Some, get_or}
use Rattle.std.proofs.{Math.ListN.set, lemmas.Bool.cases_eq, lemmas.Bool.cases_lt, lemmas.Grind.get_or-set_at, lemmas.List.Elements.All-append}
use Rattle.std.proofs.lemmas.List.Elements.{filter_map-append}
use Rattle.std.proofs.lemmas.List.{get_or-map, get_or-set_other, length-map, length-set, map-append, map-set, set-get_or}
use Rattle.properties_format.specs.{Edits.ArePairs, Encoding.Encoding, Maps.HasNoPair, Computed.Maps.Has, Computed.Maps.HasNot, Computed.Maps.AreFirstOf}
use Rattle.properties_format.specs.Items.{comment, pair, Entry, item, malformed, read_fault}
use Rattle.properties_format.proofs.{Edits.PairValues.pairs_in, Found.found-in_groups}
use Rattle.properties_format.proofs.Keys.{contained, pair_key, pair_keys, are-keys}
use Rattle.java_properties.specs.Findings.{KeyPlace}
use Rattle.properties_tables.specs.Private.Fold.{found_pairs, AreFindings, Finding}
use Rattle.properties_tables.specs.Private.Table.{place_keys, FindsKey, HasPlaces, HoldPlaces, HoldRows, PutsKey, PutsRow}
use Rattle.properties_tables.specs.Table.{row_keys, HasRows, IsFirstLine, IsLastPair, IsRow, Row}
use Rattle.properties_tables.proofs.{SourceFindings.findings-groups, SourceFindings.pairs-groups, FirstKeys.first-same, FirstKeys.first-new, FirstKeys.no-both}

-- ---- lists

pub all-one : {X : Type 0} (P : X → Type 0) (x : X) → P x → All P (x ∷ [])
all-one P x h zero d m = h
all-one P x h (suc k) d m = absurd (omega arith)

-- An element is replaced: the others have P, and so has it.
all-set : {X : Type 0} (P : X → Type 0) (xs : List X) (i : ℕ) (x : X) → i < length xs → P x
    → ((k : ℕ) (d : X) → k < length xs → (k ≡ i → ⊥) → P (get_or xs k d)) → All P (set xs i x)
all-set P xs i x below h others k d m = elim (cases_eq k i) [
  | inl same ↦ subst P (sym (get_or-set_at xs i k x d same below)) h
  | inr other ↦ subst P (sym (get_or-set_other xs i k x d other)) (others k d (let l = length-set xs i x in omega arith) other)
]

-- ---- keys

-- a key that is found
pub found-has : (key : List ℕ) (ks : List (List ℕ)) (row : ℕ) → FindsKey key ks (Some row) → Has key ks
found-has key ks row f = contained key ks (row, f.0, f.1 key)

-- No key comes twice.
apart : (all ks : List (List ℕ)) → AreFirstOf all ks → (i j : ℕ) (d : List ℕ) → i < length ks → j < length ks → (i ≡ j → ⊥)
    → get_or ks i d ≡ get_or ks j d → ⊥
apart all ks h i j d l m other e = elim (cases_lt i j) [
  | inl before ↦ (h.in_order i j d before m).differ e
  | inr after ↦ (h.in_order j i d (omega (arith, other)) l).differ (sym e)
]

-- No pair has a key that is none of theirs.
pub no_pair-from : (key : List ℕ) (es : List Entry) → (Has key (pair_keys es) → ⊥) → HasNoPair key es
no_pair-from key [] h = tt
no_pair-from key (item m (pair a b) ∷ es) h = ((λ e. h (inl e)), no_pair-from key es (λ m. h (inr m)))
no_pair-from key (item m (comment text) ∷ es) h = no_pair-from key es h
no_pair-from key (malformed kind m ∷ es) h = no_pair-from key es h
no_pair-from key (read_fault m ∷ es) h = no_pair-from key es h

no_pair-last : (k : List ℕ) (es : List Entry) (n : ℕ) (key value : List ℕ) → HasNoPair k es → key ≢ k → HasNoPair k (es ++ item n (pair key value) ∷ [])
no_pair-last k [] n key value h other = (other, tt)
no_pair-last k (item m (pair a b) ∷ es) n key value h other = (h.0, no_pair-last k es n key value h.1 other)
no_pair-last k (item m (comment text) ∷ es) n key value h other = no_pair-last k es n key value h other
no_pair-last k (malformed kind m ∷ es) n key value h other = no_pair-last k es n key value h other
no_pair-last k (read_fault m ∷ es) n key value h other = no_pair-last k es n key value h other

-- ---- one pair more

abbrev pub pushed : List Entry → ℕ → List ℕ → List ℕ → List Entry
pushed pairs n key value = pairs ++ item n (pair key value) ∷ []

module _ (pairs : List Entry) (n : ℕ) (key value : List ℕ) where
  keys-pushed : pair_keys (pushed pairs n key value) ≡ pair_keys pairs ++ key ∷ []
  keys-pushed = filter_map-append pair_key pairs (item n (pair key value) ∷ [])

  keys-same : (ks : List (List ℕ)) (row : ℕ) → AreFirstOf (pair_keys pairs) ks → FindsKey key ks (Some row)
      → AreFirstOf (pair_keys (pushed pairs n key value)) ks
  keys-same ks row h f = subst (λ v. AreFirstOf v ks) (sym keys-pushed) (first-same (pair_keys pairs) ks key h (found-has key ks row f))

  keys-new : (ks : List (List ℕ)) → AreFirstOf (pair_keys pairs) ks → HasNot key ks → AreFirstOf (pair_keys (pushed pairs n key value)) (ks ++ key ∷ [])
  keys-new ks h none = subst (λ v. AreFirstOf v (ks ++ key ∷ [])) (sym keys-pushed) (first-new (pair_keys pairs) ks key h none)

  none-yet : (ks : List (List ℕ)) → AreFirstOf (pair_keys pairs) ks → HasNot key ks → HasNoPair key pairs
  none-yet ks h none = no_pair-from key pairs (λ m. no-both key ks none (h.every key m))

  divides-pushed : (x : Entry) (before after : List Entry) → pairs ≡ before ++ x ∷ after
      → pushed pairs n key value ≡ before ++ x ∷ (after ++ item n (pair key value) ∷ [])
  divides-pushed x before after h =
      ap (λ v. v ++ item n (pair key value) ∷ []) h ∙ append_assoc before (x ∷ after) (item n (pair key value) ∷ [])

  -- First pairs stay,
  first-kept : (k : List ℕ) (m : ℕ) → IsFirstLine pairs k m → IsFirstLine (pushed pairs n key value) k m
  first-kept k m h = record {
    before = h.before;
    value = h.value;
    after = h.after ++ item n (pair key value) ∷ [];
    division = divides-pushed _ h.before h.after h.division;
    none_before = h.none_before;
  }

  first-pushed : HasNoPair key pairs → IsFirstLine (pushed pairs n key value) key n
  first-pushed none = record { before = pairs; value = value; after = []; division = refl; none_before = none }

  -- and so do the last pairs of other keys.
  row-other : (r : Row) → r.key ≢ key → IsRow pairs r → IsRow (pushed pairs n key value) r
  row-other r other h = record {
    first = first-kept r.key r.first h.first;
    last = record {
      before = h.last.before;
      after = h.last.after ++ item n (pair key value) ∷ [];
      division = divides-pushed _ h.last.before h.last.after h.last.division;
      none_after = no_pair-last r.key h.last.after n key value h.last.none_after (λ e. other (sym e));
    };
  }

  last-pushed : IsLastPair (pushed pairs n key value) key n value
  last-pushed = record { before = pairs; after = []; division = refl; none_after = tt }

  -- the keys and the lines of the first pairs
  pub places-put : (old new : List KeyPlace) (row : ℕ) → HoldPlaces pairs old → PutsKey n key old row new → HoldPlaces (pushed pairs n key value) new
  places-put old new row h (inl (found, same)) =
      rw same (record { first = keys-same (place_keys old) row h.first found; each = λ k d l. first-kept _ _ (h.each k d l) })
  places-put old new row h (inr (none, is, same)) = rw same (record {
    first = rw (map-append (λ (p : KeyPlace). p.key) old (record { number = n; key = key } ∷ [])) (keys-new (place_keys old) h.first none);
    each = All-append (λ p. IsFirstLine (pushed pairs n key value) p.key p.number) old (record { number = n; key = key } ∷ [])
        (λ k d l. first-kept _ _ (h.each k d l))
        (all-one (λ p. IsFirstLine (pushed pairs n key value) p.key p.number) _ (first-pushed (none-yet (place_keys old) h.first none)));
  })

  -- and whole rows
  pub rows-put : (old new : List Row) (row : ℕ) → HoldRows pairs old → PutsRow n key value old row new → HoldRows (pushed pairs n key value) new
  rows-put old new row h (inl (found, sets)) = subst (HoldRows (pushed pairs n key value)) (sym (sets one)) (record {
    first = subst (AreFirstOf (pair_keys (pushed pairs n key value))) (sym keys) (keys-same (row_keys old) row h.first found);
    each = all-set (IsRow (pushed pairs n key value)) old row changed below
        (record { first = first-kept key (get_or old row one).first line; last = last-pushed })
        (λ k d l other. row-other (get_or old k d) (differs k d l other) (h.each k d l));
  })
    where
      one : Row
      one = record { key = key; first = n; last = n; value = value }

      changed : Row
      changed = record { key = key; first = (get_or old row one).first; last = n; value = value }

      keys : row_keys (set old row changed) ≡ row_keys old
      keys =
          map-set (λ (r : Row). r.key) old row changed ∙ ap (set (row_keys old) row) (sym (found.1 key))
          ∙ set-get_or (row_keys old) row key

      below : row < length old
      below = subst (λ v. row < v) (length-map old (λ (r : Row). r.key)) found.0

      line : IsFirstLine pairs key (get_or old row one).first
      line = subst (λ v. IsFirstLine pairs v (get_or old row one).first)
          (sym (get_or-map (λ (r : Row). r.key) old row one key below) ∙ found.1 key) (h.each row one below).first

      differs : (k : ℕ) (d : Row) → k < length old → (k ≡ row → ⊥) → (get_or old k d).key ≢ key
      differs k d l other e = apart (pair_keys pairs) (row_keys old) h.first k row key
          (subst (λ v. k < v) (sym (length-map old (λ (r : Row). r.key))) l) found.0 other
          (get_or-map (λ (r : Row). r.key) old k d key l ∙ e ∙ sym (found.1 key))
  rows-put old new row h (inr (none, is, same)) = subst (HoldRows (pushed pairs n key value)) (sym same) (record {
    first = subst (AreFirstOf (pair_keys (pushed pairs n key value))) (sym (map-append (λ (r : Row). r.key) old (one ∷ [])))
        (keys-new (row_keys old) h.first none);
    each = All-append (IsRow (pushed pairs n key value)) old (one ∷ [])
        (λ k d l. row-other (get_or old k d) (differs k d l) (h.each k d l))
        (all-one (IsRow (pushed pairs n key value)) one (record { first = first-pushed (none-yet (row_keys old) h.first none); last = last-pushed }));
  })
    where
      one : Row
      one = record { key = key; first = n; last = n; value = value }

      differs : (k : ℕ) (d : Row) → k < length old → (get_or old k d).key ≢ key
      differs k d l e = no-both key (row_keys old) none (contained key (row_keys old) (
        k,
        subst (λ v. k < v) (sym (length-map old (λ (r : Row). r.key))) l,
        get_or-map (λ (r : Row). r.key) old k d key l ∙ e,
      ))

-- ---- all pairs

none-first : AreFirstOf [] []
none-first = record { only = λ key h. h; every = λ key h. h; in_order = λ i j d l m. absurd (omega arith) }

pub places-none : HoldPlaces [] []
places-none = record { first = none-first; each = λ k d l. absurd (omega arith) }

pub rows-none : HoldRows [] []
rows-none = record { first = none-first; each = λ k d l. absurd (omega arith) }

module _ (e : Encoding) (source : List ℕ) (findings : List Finding) (are : AreFindings e source findings) where
  pub pairs-found : (entries : List Entry) × ArePairs e source entries × (found_pairs findings ≡ entries)
  pairs-found =
      let g = findings-groups e source findings are in
      (pairs_in g.0, found-in_groups _ g.1, ap found_pairs g.2 ∙ pairs-groups g.0)

  -- The keys are those of the source,
  pub places-read : (places : List KeyPlace) → HoldPlaces (found_pairs findings) places → HasPlaces (ArePairs e source) places
  places-read places h =
      let p = pairs-found in
      let k : HoldPlaces p.0 places = subst (λ v. HoldPlaces v places) p.2 h in
      record { pairs = p.0; are = p.1; keys = are-keys p.0 (pair_keys p.0) (place_keys places) refl k.first; each = k.each }

  -- and so are the rows.
  pub rows-read : (rows : List Row) → HoldRows (found_pairs findings) rows → HasRows e source rows
  rows-read rows h =
      let p = pairs-found in
      let k : HoldRows p.0 rows = subst (λ v. HoldRows v rows) p.2 h in
      record { pairs = p.0; are = p.1; have = record { keys = are-keys p.0 (pair_keys p.0) (row_keys rows) refl k.first; each = k.each } }
