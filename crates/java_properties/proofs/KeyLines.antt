-- How the keys of a source are found, logical line after logical line.
use Rattle.std.proofs.Common.{◌≡◌, ◌≢◌, ℕ, true, false, List, [], ◌∷◌, ◌++◌, refl, sym, ap, ap₂, ◌∙◌, inl, inr, subst, append-nil, if◌then◌else◌}
use Rattle.std.specs.Prelude.{Option, Some, None, Ok, Err, bytes_eq, cond}
use Rattle.std.specs.Option.{unwrap_or}
use Rattle.std.specs.Map.{update}
use Rattle.std.specs.Borrow.{Bor}
use Rattle.std.specs.BTreeMap.{BTreeMap, UpdatesBy, get_by_text}
use Rattle.std.specs.Cmp.Lexicographic.{slice_cmp}
use Rattle.std.specs.Ordering.{nat_cmp}
use Rattle.std.specs.Str.{chars, IsUtf8}
use Rattle.std.specs.String.{string_bytes, string_cmp}
use Rattle.std.specs.declared.string.String.{String}
use Rattle.std.proofs.lemmas.Bool.{cases_Bool}
use Rattle.std.proofs.lemmas.List.{map-append}
use Rattle.std.proofs.lemmas.Slice.Eq.{bytes_eq-Decides}
use Rattle.properties_format.specs.Encoding.{Encoding}
use Rattle.properties_format.specs.Lines.{end, Line, HasGroups, joined, first_number}
use Rattle.properties_format.specs.Computed.Lines.{groups_in}
use Rattle.properties_format.specs.Items.{comment, pair, Outcome, ignored, given, broken}
use Rattle.properties_format.specs.Escapes as format
use Rattle.properties_format.specs.Escapes.{not_enough_digits, not_hex, invalid_character}
use Rattle.properties_format.specs.Computed.Items.{outcome_of}
use Rattle.properties_format.specs.Computed.Found.{found_in}
use Rattle.properties_format.specs.Computed.Body.{outcome_key}
use Rattle.properties_format.specs.ItemsToCome.{ReaderState, start}
use Rattle.properties_format.proofs.Groups.Input.{groups_in-meets}
use Rattle.properties_format.proofs.Found.{found-in_groups, found-only, found_in-append}
use Rattle.properties_format.proofs.Changed.Maps.{other-test}
use Rattle.properties_lines.specs.LineJoiner.{LineState, JoinsNext}
use Rattle.properties_items.specs.Errors.{malformed_cause, malformed_kind}
use Rattle.properties_items.specs.declared.error.ErrorKind.TheVariants as kind
use Rattle.properties_items.specs.declared.error.PropertiesError.{PropertiesError}
use Rattle.properties_text.specs.Escaping.{malformed_in}
use Rattle.properties_text.specs.declared.escape.Malformed.{Malformed}
use Rattle.properties_text.specs.declared.escape.UnescapeError.TheVariants as unescape
use Rattle.properties_items.specs.BorrowedItems.{found_content, FindsIn, IsNoItem}
use Rattle.properties_items.specs.declared.found.Found as found
use Rattle.properties_items.proofs.FoundItems.{found-item}
use Rattle.properties_items.proofs.TextMaps.Values.{at_chars-sorted, at_chars-updated}
use Rattle.java_properties.specs.Findings.{KeyPlace, keys_from, HasNoKeyPlace, HasFirstNumber, KeyEntry, AreFirstsOf, AreKeyLines, key_line_entry, key_line_entries}
use Rattle.java_properties.specs.Findings.{HasKeyLines}
use Rattle.java_properties.specs.Private.LineByLine.{number_at, KeepsFirst, AddsKeyLine, AddsIfKey, PushesKey, Collected}
use Rattle.properties_items.specs.declared.findings.KeyLine as code
use Rattle.java_properties.proofs.MalformedEscapes.{collected-start, collected-next}
use Rattle.java_properties.proofs.SliceReads.{slice_reader, slice_of, collected-slice}
use Rattle.java_properties.proofs.SourceFindings.{slice-groups}

-- ---- the keys, computed

abbrev place : ℕ → List ℕ → KeyPlace
place number key = record { number = number; key = key }

-- the key of a group, and those after it
abbrev pub key_before : ℕ → Option (List ℕ) → List KeyPlace → List KeyPlace
key_before number None rest = rest
key_before number (Some key) rest = record { number = number; key = key } ∷ rest

-- those of the groups
abbrev pub keys_in : List (List Line) → List KeyPlace
keys_in groups = found_in (λ number x. keys_from number) groups

same-from : (number : ℕ) (outcome : Outcome) (rest : List KeyPlace) → keys_from number outcome rest ≡ key_before number (outcome_key outcome) rest
same-from number ignored rest = refl
same-from number (given (comment text)) rest = refl
same-from number (given (pair key value)) rest = refl
same-from number (broken kind) rest = refl

-- ---- where a key comes first

-- the number of the first place with this key
abbrev pub first_place : List KeyPlace → List ℕ → Option ℕ
first_place [] key = None
first_place (k ∷ ks) key = if bytes_eq k.key key then Some k.number else first_place ks key

-- No place has the key, or the first one with it has this number.
abbrev Finds : List KeyPlace → List ℕ → Option ℕ → Type 0
Finds keys key None = HasNoKeyPlace key keys
Finds keys key (Some number) = HasFirstNumber keys key number

finds-later : (k : KeyPlace) (ks : List KeyPlace) (key : List ℕ) (o : Option ℕ) → k.key ≢ key → Finds ks key o → Finds (k ∷ ks) key o
finds-later k ks key None other h = (other, h)
finds-later k ks key (Some number) other h =
    record { before = k ∷ h.before; after = h.after; division = ap (λ v. k ∷ v) h.division; none = (other, h.none) }

pub not_same : (x y : List ℕ) → bytes_eq x y ≡ false → x ≢ y
not_same x y e q = let t = (bytes_eq-Decides x y).1 q in cc

finds-meets : (keys : List KeyPlace) (key : List ℕ) → Finds keys key (first_place keys key)
finds-meets [] key = tt
finds-meets (k ∷ ks) key = elim (cases_Bool (bytes_eq k.key key)) [
  | inl same ↦
      rw same (record { before = []; after = ks; division = ap (λ v. place k.number v ∷ ks) ((bytes_eq-Decides k.key key).0 same); none = tt })
  | inr other ↦ rw other (finds-later k ks key (first_place ks key) (not_same k.key key other) (finds-meets ks key))
]

first-in : (before : List KeyPlace) (number : ℕ) (key : List ℕ) (after : List KeyPlace) → HasNoKeyPlace key before
    → first_place (before ++ (record { number = number; key = key } ∷ after)) key ≡ Some number
first-in [] number key after h = let same = (bytes_eq-Decides key key).1 refl in rw same refl
first-in (k ∷ before) number key after h = let other = other-test k.key key h.0 in rw other (first-in before number key after h.1)

first-only : (keys : List KeyPlace) (key : List ℕ) (number : ℕ) → HasFirstNumber keys key number → first_place keys key ≡ Some number
first-only keys key number h = ap (λ v. first_place v key) h.division ∙ first-in h.before number key h.after h.none

-- ---- each key with the number of its first place

abbrev entry_of : List KeyPlace → KeyPlace → KeyEntry
entry_of keys k = record { number = k.number; key = k.key; first = unwrap_or (first_place keys k.key) k.number }

abbrev entries_among : List KeyPlace → List KeyPlace → List KeyEntry
entries_among keys [] = []
entries_among keys (k ∷ ks) = entry_of keys k ∷ entries_among keys ks

abbrev pub key_entries : List KeyPlace → List KeyEntry
key_entries keys = entries_among keys keys

-- each of these has a first place among the keys
abbrev AreAmong : List KeyPlace → List KeyPlace → Type 0
AreAmong keys [] = Unit {0}
AreAmong keys (k ∷ ks) = ((number : ℕ) × (first_place keys k.key ≡ Some number)) × AreAmong keys ks

found-later : (k : KeyPlace) (keys : List KeyPlace) (key : List ℕ) (number : ℕ) → first_place keys key ≡ Some number
    → (n : ℕ) × (first_place (k ∷ keys) key ≡ Some n)
found-later k keys key number h = elim (cases_Bool (bytes_eq k.key key)) [
  | inl same ↦ (k.number, rw same refl)
  | inr other ↦ (number, rw other h)
]

among-later : (k : KeyPlace) (keys ks : List KeyPlace) → AreAmong keys ks → AreAmong (k ∷ keys) ks
among-later k keys [] h = tt
among-later k keys (l ∷ ks) h = (found-later k keys l.key h.0.0 h.0.1, among-later k keys ks h.1)

among-all : (keys : List KeyPlace) → AreAmong keys keys
among-all [] = tt
among-all (k ∷ ks) = let same = (bytes_eq-Decides k.key k.key).1 refl in ((k.number, rw same refl), among-later k ks ks (among-all ks))

entries-meets : (keys ks : List KeyPlace) → AreAmong keys ks → AreFirstsOf keys ks (entries_among keys ks)
entries-meets keys [] h = refl
entries-meets keys (k ∷ ks) h =
    (_, entries_among keys ks, here (first_place keys k.key) h.0.1 (finds-meets keys k.key), refl, entries-meets keys ks h.1)
  where
    here : (o : Option ℕ) → o ≡ Some h.0.0 → Finds keys k.key o → HasFirstNumber keys k.key (unwrap_or o k.number)
    here None is f = absurd (cc)
    here (Some number) is f = f

entries-only : (keys ks : List KeyPlace) (entries : List KeyEntry) → AreFirstsOf keys ks entries → entries ≡ entries_among keys ks
entries-only keys [] entries h = h
entries-only keys (k ∷ ks) entries (first, rest, stands, same, others) =
    let found = first-only keys k.key first stands in
    same
    ∙ ap₂ (λ v w. record { number = k.number; key = k.key; first = v } ∷ w) (sym (ap (λ o. unwrap_or o k.number) found)) (entries-only keys ks rest others)

-- what is computed are the keys of the input, and the only ones
key_lines_of : Encoding → List ℕ → List KeyEntry
key_lines_of e bytes = key_entries (keys_in (groups_in e bytes end))

-- They are those of the groups.
pub groups-key_lines : {e : Encoding} {bytes : List ℕ} {gs : List (List Line)} → HasGroups e bytes end gs → AreKeyLines e bytes (key_entries (keys_in gs))
groups-key_lines {gs = gs} h =
    let keys = keys_in gs in
    record { keys = keys; are_keys = found-in_groups _ h; are_firsts = entries-meets keys keys (among-all keys) }

key_lines_of-only : (e : Encoding) (bytes : List ℕ) (entries : List KeyEntry) → AreKeyLines e bytes entries → entries ≡ key_lines_of e bytes
unfolding key_lines_of
key_lines_of-only e bytes entries h = entries-only h.keys h.keys entries h.are_firsts ∙ ap key_entries (found-only _ e bytes end h.keys h.are_keys)

-- ---- one key more

-- the first of two, if there is one, else the second
abbrev or_else : Option ℕ → Option ℕ → Option ℕ
or_else (Some n) other = Some n
or_else None other = other

abbrev place_for : KeyPlace → List ℕ → Option ℕ
place_for k key = if bytes_eq k.key key then Some k.number else None

first-push : (ks : List KeyPlace) (k : KeyPlace) (key : List ℕ) → first_place (ks ++ k ∷ []) key ≡ or_else (first_place ks key) (place_for k key)
first-push [] k key = refl
first-push (l ∷ ks) k key = elim (cases_Bool (bytes_eq l.key key)) [
  | inl same ↦ rw same refl
  | inr other ↦ rw other (first-push ks k key)
]

-- where it comes first
pub first-added : (ks : List KeyPlace) (k : KeyPlace) (key : List ℕ)
    → first_place (ks ++ k ∷ []) key ≡ update bytes_eq (first_place ks) k.key (Some (unwrap_or (first_place ks k.key) k.number)) key
first-added ks k key = first-push ks k key ∙ elim (cases_Bool (bytes_eq k.key key)) [ inl same ↦ here same | inr other ↦ there other ]
  where
    chosen : (o : Option ℕ) → or_else o (Some k.number) ≡ Some (unwrap_or o k.number)
    chosen None = refl
    chosen (Some n) = refl

    here : bytes_eq k.key key ≡ true
        → or_else (first_place ks key) (place_for k key) ≡ update bytes_eq (first_place ks) k.key (Some (unwrap_or (first_place ks k.key) k.number)) key
    here same =
        let is : k.key ≡ key = (bytes_eq-Decides k.key key).0 same in
        rw same (chosen (first_place ks key) ∙ ap (λ v. Some (unwrap_or (first_place ks v) k.number)) (sym is))

    kept : (o : Option ℕ) → or_else o None ≡ o
    kept None = refl
    kept (Some n) = refl

    there : bytes_eq k.key key ≡ false
        → or_else (first_place ks key) (place_for k key) ≡ update bytes_eq (first_place ks) k.key (Some (unwrap_or (first_place ks k.key) k.number)) key
    there other = rw other (kept (first_place ks key))

-- the keys that were there keep their first places
entries-kept : (keys ks : List KeyPlace) (k : KeyPlace) → AreAmong keys ks → entries_among (keys ++ k ∷ []) ks ≡ entries_among keys ks
entries-kept keys [] k h = refl
entries-kept keys (l ∷ ks) k h =
    ap₂ (λ v w. record { number = l.number; key = l.key; first = v } ∷ w) (ap (λ o. unwrap_or o l.number) same) (entries-kept keys ks k h.1)
  where
    found : first_place keys l.key ≡ Some h.0.0
    found = h.0.1

    same : first_place (keys ++ k ∷ []) l.key ≡ first_place keys l.key
    same = first-push keys k l.key ∙ ap (λ o. or_else o (place_for k l.key)) found ∙ sym found

entries-append : (keys xs ys : List KeyPlace) → entries_among keys (xs ++ ys) ≡ entries_among keys xs ++ entries_among keys ys
entries-append keys [] ys = refl
entries-append keys (x ∷ xs) ys = ap (λ v. entry_of keys x ∷ v) (entries-append keys xs ys)

-- and the new one comes last
pub entries-added : (ks : List KeyPlace) (k : KeyPlace)
    → key_entries (ks ++ k ∷ []) ≡ key_entries ks ++ record { number = k.number; key = k.key; first = unwrap_or (first_place ks k.key) k.number } ∷ []
entries-added ks k =
    entries-append (ks ++ k ∷ []) ks (k ∷ [])
    ∙ ap₂ (λ v w. v ++ record { number = k.number; key = k.key; first = w } ∷ []) (entries-kept ks ks k (among-all ks)) (ap (λ o. unwrap_or o k.number) last)
  where
    last : first_place (ks ++ k ∷ []) k.key ≡ Some (unwrap_or (first_place ks k.key) k.number)
    last = first-added ks k k.key ∙ (let same = (bytes_eq-Decides k.key k.key).1 refl in rw same refl)

-- ---- the line that is kept under a key

update-at : {Z : Type 0} (entries : List (String Z × ℕ)) (key : List ℕ) (first : ℕ) → number_at entries key ≡ Some first
    → (k : List ℕ) → number_at entries k ≡ update bytes_eq (number_at entries) key (Some first) k
update-at entries key first h k = elim (cases_Bool (bytes_eq key k)) [
  | inl same ↦ rw same (ap (number_at entries) (sym ((bytes_eq-Decides key k).0 same)) ∙ h)
  | inr other ↦ rw other refl
]

-- a line that was kept
pub kept-first : {Z : Type 0} (m : BTreeMap (String Z) ℕ) (key : List ℕ) (number first : ℕ) → IsUtf8 key → Some first ≡ get_by_text m key
    → KeepsFirst number (chars key) m.entries m.entries first
kept-first m key number first is found =
    let at : number_at m.entries (chars key) ≡ Some first = at_chars-sorted m key is ∙ sym found in
    record { is = sym (ap (λ o. unwrap_or o number) at); kept = update-at m.entries (chars key) first at }

-- a new one
pub new-first : {Z : Type 0} (m n : BTreeMap (String Z) ℕ) (key : List ℕ) (number : ℕ) → IsUtf8 key → None ≡ get_by_text m key
    → UpdatesBy string_cmp (λ x. slice_cmp nat_cmp key (string_bytes x)) m n (Some number) → KeepsFirst number (chars key) m.entries n.entries number
new-first m n key number is none updates = record {
  is = sym (ap (λ o. unwrap_or o number) (at_chars-sorted m key is ∙ sym none));
  kept = at_chars-updated m n key is (Some number) updates;
}

-- ---- a logical line

-- what was found of it
pub outcome_key-found : (line : List ℕ) (number : ℕ) (f : found.Found) → FindsIn line number (Ok (Some f))
    → outcome_key (given (found_content line f.content)) ≡ outcome_key (outcome_of (chars line))
outcome_key-found line number f h = ap outcome_key (sym (found-item line f h.1))

-- a malformed escape
not_memory : (k : format.Malformed) → malformed_kind k ≡ kind.Memory → ⊥
not_memory not_enough_digits h = cc
not_memory not_hex h = cc
not_memory invalid_character h = cc

pub outcome_key-broken : (line : List ℕ) (number : ℕ) (how : Malformed) → FindsIn line number (Err (unescape.Malformed how))
    → None ≡ outcome_key (outcome_of (chars line))
outcome_key-broken line number how h = by-reason (h number error (record { its_kind = refl; its_line = refl; its_cause = refl; its_text = refl }))
  where
    error : PropertiesError
    error = let k = malformed_in how in record { kind = malformed_kind k; line_number = Some number; cause = malformed_cause k; refused = None }

    by-reason : IsNoItem number (chars line) error → None ≡ outcome_key (outcome_of (chars line))
    by-reason (inl (k, o, is)) = sym (ap outcome_key o)
    by-reason (inr is) = absurd (not_memory (malformed_in how) is.its_kind)

-- ---- the reading

from-append : (number : ℕ) (outcome : Outcome) (xs ys : List KeyPlace) → keys_from number outcome (xs ++ ys) ≡ keys_from number outcome xs ++ ys
from-append number ignored xs ys = refl
from-append number (given (comment text)) xs ys = refl
from-append number (given (pair key value)) xs ys = refl
from-append number (broken kind) xs ys = refl

pub keys_in-push : (gs : List (List Line)) (g : List Line)
    → keys_in (gs ++ g ∷ []) ≡ keys_in gs ++ key_before (first_number g) (outcome_key (outcome_of (joined g))) []
keys_in-push gs g =
    found_in-append (λ number x. keys_from number) (λ n x o xs ys. from-append n o xs ys) gs (g ∷ [])
    ∙ ap (λ v. keys_in gs ++ v) (same-from (first_number g) (outcome_of (joined g)) [])

-- These keys were found in the groups that came, and under each the number of its first line is kept.
pub record FoundKeys {Z : Type 0} (e : Encoding) (source : List ℕ) (found : List code.KeyLine) (firsts : List (String Z × ℕ)) (state : ReaderState)
    (left : List ℕ) : Type 0 where
  pub groups : List (List Line)
  pub collected : Collected slice_reader e (slice_of source) groups state (slice_of left)
  pub entries : key_line_entries found ≡ key_entries (keys_in groups)
  pub kept : (key : List ℕ) → number_at firsts key ≡ first_place (keys_in groups) key

module _ {Z : Type 0} {e : Encoding} {source : List ℕ} where
  pub keys-start : (found : List code.KeyLine) (firsts : List (String Z × ℕ)) (state : ReaderState) → found ≡ [] → firsts ≡ [] → state ≡ start e
      → FoundKeys e source found firsts state source
  keys-start found firsts state h i k =
      rw (h, i, k) (record { groups = []; collected = collected-start e (slice_of source); entries = refl; kept = λ key. refl })

  -- a logical line came
  pub keys-next : {to next : Bor (List ℕ)} {old found : List code.KeyLine} {firsts firsts' : List (String Z × ℕ)} {s : ReaderState}
      → (number : ℕ) (new : LineState) → FoundKeys e source old firsts s to.now → (n : JoinsNext slice_reader s to number new next)
      → PushesKey number (chars new.line) old firsts (Ok tt) found firsts' → FoundKeys e source found firsts' new.state next.now
  keys-next {next = next} {old} {found} {firsts} {firsts'} number new h n a = by (outcome_key (outcome_of (chars new.line))) refl
    where
      g : List Line
      g = n.group.first ∷ n.group.others

      later : Collected slice_reader e (slice_of source) (h.groups ++ g ∷ []) new.state (slice_of next.now)
      later = collected-slice refl (collected-next number new (collected-slice refl h.collected) n)

      came : keys_in (h.groups ++ g ∷ []) ≡ keys_in h.groups ++ key_before number (outcome_key (outcome_of (chars new.line))) []
      came =
          keys_in-push h.groups g
          ∙ ap₂ (λ m v. keys_in h.groups ++ key_before m (outcome_key (outcome_of v)) []) (sym n.group.number) (sym n.group.text)

      -- without a key
      skipped : outcome_key (outcome_of (chars new.line)) ≡ None → (found ≡ old) × (firsts' ≡ firsts) → FoundKeys e source found firsts' new.state next.now
      skipped none kept =
          let same : keys_in (h.groups ++ g ∷ []) ≡ keys_in h.groups =
          came ∙ ap (λ o. keys_in h.groups ++ key_before number o []) none ∙ append-nil (keys_in h.groups) in
          rw (kept.0, kept.1) (record {
            groups = h.groups ++ g ∷ [];
            collected = later;
            entries = h.entries ∙ sym (ap key_entries same);
            kept = λ q. h.kept q ∙ sym (ap (λ v. first_place v q) same);
          })

      -- with this key
      added : (key : List ℕ) → outcome_key (outcome_of (chars new.line)) ≡ Some key → AddsKeyLine number key old found firsts firsts'
          → FoundKeys e source found firsts' new.state next.now
      added key told adds =
          let keys = keys_in h.groups in
          let k = place number key in
          let same : keys_in (h.groups ++ g ∷ []) ≡ keys ++ k ∷ [] = came ∙ ap (λ o. keys ++ key_before number o []) told in
          let first : adds.line.first_line_number ≡ unwrap_or (first_place keys key) number = adds.keeps.is ∙ ap (λ o. unwrap_or o number) (h.kept key) in
          let says : key_line_entry adds.line ≡ entry_of keys k = cc (adds.says.0, adds.says.1, first) in
          record {
            groups = h.groups ++ g ∷ [];
            collected = later;
            entries =
                ap key_line_entries adds.added
                ∙ map-append key_line_entry old (adds.line ∷ [])
                ∙ ap₂ (λ v w. v ++ w ∷ []) h.entries says
                ∙ sym (entries-added keys k)
                ∙ sym (ap key_entries same);
            kept = λ q.
                adds.keeps.kept q
                ∙ ap₂ (λ v w. cond (bytes_eq key q) (Some v) w) first (h.kept q)
                ∙ sym (first-added keys k q)
                ∙ sym (ap (λ v. first_place v q) same);
          }

      by : (o : Option (List ℕ)) → outcome_key (outcome_of (chars new.line)) ≡ o → FoundKeys e source found firsts' new.state next.now
      by None told = skipped told (subst (λ o. AddsIfKey number o old found firsts firsts') told a)
      by (Some key) told = added key told (subst (λ o. AddsIfKey number o old found firsts firsts') told a)

  -- no more came
  pub keys-all : {left : List ℕ} {found : List code.KeyLine} {firsts : List (String Z × ℕ)} {s : ReaderState} → FoundKeys e source found firsts s left
      → s.is_done ≡ true → HasKeyLines e source found
  unfolding key_lines_of
  keys-all {found = found} h done =
      let is : key_line_entries found ≡ key_lines_of e source = h.entries ∙ ap (λ v. key_entries (keys_in v)) (slice-groups h.collected done) in
      record {
        are = subst (AreKeyLines e source) (sym is) (groups-key_lines (groups_in-meets e source end));
        only = λ others k. key_lines_of-only e source others k ∙ sym is;
      }
