-- What is wrong in the logical lines of a source, as it is taken.
use Rattle.std.proofs.Common.{◌≡◌, ℕ, Bool, List, [], ◌∷◌, ◌++◌, map, refl, sym, ap, ◌∙◌, inl, inr, subst, append_assoc, append-nil}
use Rattle.std.specs.Prelude.{None, Result, Ok, Err, OnOk}
use Rattle.std.specs.{declared.alloc.AllocError.AllocError, List.flat_map, Option.unwrap_or}
use Rattle.std.proofs.{Math.ListN.get_or-append, lemmas.List.map-append, lemmas.List.Concat.flat_map-append}
use Rattle.properties_format.specs.{Encoding.Encoding, Computed.Found.escapes_in}
use Rattle.properties_format.proofs.Found.{found-in_groups}
use Rattle.properties_items.specs.{declared.error.PropertiesError.PropertiesError, declared.findings.MalformedEscape.MalformedEscape}
use Rattle.java_properties.specs.Findings.{KeyEntry, KeyPlace}
use Rattle.java_properties.proofs.KeyLines.{entries-added, first_place, groups-key_lines, key_entries, keys_in}
use Rattle.properties_tables.specs.Private.Fold.{escapes_among, found_escape, found_pair, keys_among, found_pairs, Takes, TakesAll, TookSome}
use Rattle.properties_tables.specs.Private.Fold as fold
use Rattle.properties_checking.specs.Private.Checking.{no_place, place_at, row_findings, said_of, FindsSoundKeys}
use Rattle.properties_checking.specs.{Private.LineFindings.NotesPair, Private.LineFindings.FindsInLines, Private.LineFindings.TookFindings, Check.repeats_of}
use Rattle.properties_checking.specs.{declared.check.Finding.Finding, declared.line_findings.LineFindings.LineFindings}
use Rattle.properties_tables.specs.Private.Table.{table_places, HasPlaces, HoldPlaces, IsKeyTable, TookKeys}
use Rattle.properties_tables.specs.{SoundKeys.AreKeyedPairs, declared.key_table.KeyTable.KeyTable, Sources.first_in_pair}
use Rattle.properties_tables.proofs.SourceFindings.{escapes-append, escapes-groups, findings-groups, keys-append, keys-groups, pairs-append}
use Rattle.properties_checking.proofs.{CheckFindings.said-row, KeyPlaces.puts-at, KeyPlaces.puts-extends, KeyPlaces.puts-number}
use Rattle.properties_tables.proofs.{KeyedPairs.keyed-read, KeyedPairs.keyed-same, Rows.places-none, Rows.places-put}

-- ---- one key more

module _ (findings : List fold.Finding) (number : ℕ) (key value : List ℕ) where
  place : KeyPlace
  place = record { number = number; key = key }

  more : List fold.Finding
  more = findings ++ found_pair number key value ∷ []

  grown : keys_among more ≡ keys_among findings ++ place ∷ []
  unfolding place more
  grown = keys-append findings (found_pair number key value ∷ [])

  -- what it adds to the findings
  repeats-push : (w : Bool) (first : ℕ) → first ≡ unwrap_or (first_place (keys_among findings) key) number
      → flat_map (repeats_of w) (key_entries (keys_among findings)) ++ repeats_of w (record { number = number; key = key; first = first })
      ≡ flat_map (repeats_of w) (key_entries (keys_among more))
  unfolding place
  repeats-push w first at =
      let keys = keys_among findings in
      let entry : KeyEntry = record { number = number; key = key; first = unwrap_or (first_place keys key) number } in
      ap (λ n. flat_map (repeats_of w) (key_entries keys) ++ repeats_of w (record { number = number; key = key; first = n })) at
      ∙ ap (λ v. flat_map (repeats_of w) (key_entries keys) ++ v) (sym (append-nil (repeats_of w entry)))
      ∙ sym (flat_map-append (repeats_of w) (key_entries keys) (entry ∷ []))
      ∙ ap (flat_map (repeats_of w)) (sym (entries-added keys place))
      ∙ ap (λ v. flat_map (repeats_of w) (key_entries v)) (sym grown)

-- ---- what is taken

-- Nothing is wrong at first.
pub took-none : (first : LineFindings) → first.escapes.items ≡ [] → first.repeats.items ≡ [] → IsKeyTable first.keys → table_places first.keys ≡ []
    → TookFindings first [] first
took-none first escapes repeats table none = record {
  setting = refl;
  escapes = escapes;
  table = table;
  hold = subst (HoldPlaces []) (sym none) places-none;
  repeats = λ more. ap (map (said_of (table_places first.keys ++ more))) repeats;
}

module _ (old new : LineFindings) (setting : new.is_well_formed ≡ old.is_well_formed) where
  -- a pair
  pub took-pair : (number : ℕ) (key value : List ℕ) → NotesPair old.is_well_formed number key old new → new.escapes ≡ old.escapes
      → Takes TookFindings old (found_pair number key value) new
  unfolding more
  took-pair number key value adds kept = λ first findings took.
      let w = first.is_well_formed in
      let P = table_places old.keys in
      let Q = table_places new.keys in
      let said_before = flat_map (repeats_of w) (key_entries (keys_among findings)) in
      let number_of_row = (place_at Q adds.row).number in
      let at = puts-at number key P Q adds.row adds.puts in
      let extends = puts-extends number key P Q adds.row adds.puts in
      record {
        setting = setting ∙ took.setting;
        escapes = ap (λ v. v.items) kept ∙ took.escapes
            ∙ sym (escapes-append findings (found_pair number key value ∷ []) ∙ append-nil (escapes_among findings));
        table = adds.table;
        hold = subst (λ v. HoldPlaces v Q) (sym (pairs-append findings (found_pair number key value ∷ [])))
            (places-put (found_pairs findings) number key value P Q adds.row took.hold adds.puts);
        repeats = λ more.
            let said = said_of (Q ++ more) in
            let row : List Finding = row_findings w number key adds.row number_of_row in
            let before : map said old.repeats.items ≡ said_before =
            ap (λ v. map (said_of v) old.repeats.items) (ap (λ v. v ++ more) extends.1 ∙ append_assoc P extends.0 more) ∙ took.repeats (extends.0 ++ more) in
            let held : place_at (Q ++ more) adds.row ≡ record { number = number_of_row; key = key } =
            get_or-append Q more no_place adds.row at.0 ∙ ap (λ k. let p : KeyPlace = record { number = number_of_row; key = k } in p) at.1 in
            ap (map said) (adds.repeats ∙ ap (λ v. old.repeats.items ++ row_findings v number key adds.row number_of_row) took.setting)
            ∙ map-append said old.repeats.items row
            ∙ ap (λ v. v ++ map said row) before
            ∙ ap (λ v. said_before ++ v) (said-row (Q ++ more) w number adds.row key number_of_row held)
            ∙ repeats-push findings number key value w number_of_row (puts-number findings P Q number key adds.row took.hold adds.puts);
      }

  pub took-result : (number : ℕ) (key value : List ℕ) (result : Result Unit AllocError) → OnOk result (NotesPair old.is_well_formed number key old new)
      → new.escapes ≡ old.escapes → OnOk result (Takes TookFindings old (found_pair number key value) new)
  took-result number key value (Ok done) adds kept = took-pair number key value adds kept
  took-result number key value (Err error) none kept = tt

  -- a malformed escape
  pub took-escape : (escape : MalformedEscape) (x : List ℕ) → new.escapes.items ≡ old.escapes.items ++ escape ∷ [] → new.repeats ≡ old.repeats
      → new.keys ≡ old.keys → Takes TookFindings old (found_escape escape x) new
  took-escape escape x added repeats keys = λ first findings took.
      let more = found_escape escape x ∷ [] in
      let stays = keys-append findings more ∙ append-nil (keys_among findings) in
      record {
        setting = setting ∙ took.setting;
        escapes = added ∙ ap (λ v. v ++ escape ∷ []) took.escapes ∙ sym (escapes-append findings more);
        table = subst IsKeyTable (sym keys) took.table;
        hold = subst (λ v. HoldPlaces v (table_places new.keys)) (sym (pairs-append findings more ∙ append-nil (found_pairs findings)))
            (subst (λ v. HoldPlaces (found_pairs findings) (table_places v)) (sym keys) took.hold);
        repeats = λ rest.
            ap (λ v. map (said_of (table_places new.keys ++ rest)) v.items) repeats
            ∙ ap (λ v. map (said_of (table_places v ++ rest)) old.repeats.items) keys
            ∙ took.repeats rest
            ∙ sym (ap (λ v. flat_map (repeats_of first.is_well_formed) (key_entries v)) stays);
      }

pub took-table : (s : LineFindings) → TookSome TookFindings s → IsKeyTable s.keys
took-table s h = h.2.table

pub ruleset taken = (took-pair, took-escape, took-table)

-- ---- a source

pub findings-read : (e : Encoding) (source : List ℕ) (first : LineFindings) (result : Result LineFindings PropertiesError)
    → TakesAll TookFindings first e source result → FindsInLines e first.is_well_formed source result
findings-read e source first (Err error) h = h
findings-read e source first (Ok new) (findings, are, took) =
    let g = findings-groups e source findings are in
    let P = table_places new.keys in
    record {
      escapes = escapes_in g.0;
      malformed = found-in_groups _ g.1;
      escape_records = took.escapes ∙ ap escapes_among g.2 ∙ escapes-groups g.0;
      keys = key_entries (keys_in g.0);
      are_keys = groups-key_lines g.1;
      repeats = ap (λ v. map (said_of v) new.repeats.items) (sym (append-nil P)) ∙ took.repeats []
          ∙ ap (λ v. flat_map (repeats_of first.is_well_formed) (key_entries v)) (ap keys_among g.2 ∙ keys-groups g.0);
      table = took.table;
      places = λ none.
          let same = keyed-same findings (ap first_in_pair (sym took.escapes) ∙ none) in
          keyed-read e source findings P are (subst (λ v. HoldPlaces v P) (sym same) took.hold);
    }

-- ---- its keys

-- all of them, in another pass
pub sound-read : (e : Encoding) (source : List ℕ) (first keys : KeyTable) (escapes : List MalformedEscape) (result : Result KeyTable PropertiesError)
    → TakesAll TookKeys first e source result → FindsSoundKeys e source keys escapes result
sound-read e source first keys escapes (Ok t) (findings, are, took) = inr (took.table, keyed-read e source findings (table_places t) are took.hold)
sound-read e source first keys escapes (Err error) h = h

-- either way
pub keys-sound : (e : Encoding) (source : List ℕ) (keys t : KeyTable) (escapes : List MalformedEscape) → IsKeyTable keys
    → (first_in_pair escapes ≡ None → HasPlaces (AreKeyedPairs e source) (table_places keys)) → FindsSoundKeys e source keys escapes (Ok t)
    → IsKeyTable t × HasPlaces (AreKeyedPairs e source) (table_places t)
keys-sound e source keys t escapes table places (inl (none, same)) = rw same (table, places none)
keys-sound e source keys t escapes table places (inr h) = h
