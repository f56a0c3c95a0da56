-- What the calls of a document come to.
use Rattle.std.proofs.Common.{◌≡◌, ℕ, Bool, true, false, List, [], drop, All, refl, ap, ap₂, sym, ◌∙◌, subst, inl, ◌+◌, length, ◌∷◌}
use Rattle.std.specs.Prelude.{Option, Some, None, Result, Ok, Err, IfOk, map}
use Rattle.std.proofs.lemmas.List.{length-map}
use Rattle.std.specs.Borrow.{Bor}
use Rattle.std.specs.Global.{Vec}
use Rattle.std.specs.Option.{is_some}
use Rattle.std.proofs.Math.Path.{fun_ext}
use Rattle.properties_format.specs.Encoding.{Encoding, InForce, Repertoire}
use Rattle.properties_format.specs.Lines.{end}
use Rattle.properties_format.specs.Text.{scalar}
use Rattle.properties_format.specs.Items.{Content, AreItems, IsItems, Outcome, ignored, given, broken}
use Rattle.properties_format.specs.Maps.{IsValue}
use Rattle.properties_format.specs.Body.{HeldLine}
use Rattle.properties_format.specs.Edited.{IsKeySet, IsKeyRemoved, edited}
use Rattle.properties_format.specs.Edits.{AreEdited, AreInComments, ArePairs, EscapesAre, put, remove, set_value}
use Rattle.properties_format.specs.Changed.{ReadsAfter}
use Rattle.properties_format.specs.Valued.{IsValueSet}
use Rattle.properties_format.specs.Computed.Body.{held_groups_of}
use Rattle.properties_format.specs.Computed.Edited.{IsSoundOutcome}
use Rattle.properties_format.specs.Computed.Items.{followed, items_of}
use Rattle.properties_format.proofs.Body.Numbers.{items_of-groups, entries_in}
use Rattle.properties_format.proofs.Items.Unique.{items_of-meets}
use Rattle.properties_format.proofs.Keys.{are-keys}
use Rattle.properties_format.proofs.Maps.{value_in-meets}
use Rattle.properties_text.specs.Encoding.{encoding_of}
use Rattle.properties_editing.specs.Documents.{OpenDocument, AreMadeFor, ChecksHasKey, HasKeysFor, HasKeysInOrder, HasValueAt, HasValueFor, HasValueSetFor, IsRemovedFor, IsResultFor, IsSetFor, OpensDocumentWith, PutsInto, RemovesFrom, SetsValueIn, TurnsAsciiOnly, characters_of}
use Rattle.properties_editing.specs.Private.BodyDocuments.{IsDocument, document_bytes, every, document_groups, open_document, document_repertoire}
use Rattle.properties_editing.specs.Private.BodyParts.{outcome, is_named, piece_said, stored_of, value_among, value_of}
use Rattle.properties_editing.specs.Private.EditedParts.{AreParts, EditsParts, HaveParts, RemovesFromParts, StandForSource}
use Rattle.properties_editing.specs.Private.KeyOrder.{HasKeysOf, HavePlaces}
use Rattle.properties_editing.specs.Private.Sound.{AreSoundFor, IsResult}
use Rattle.properties_editing.specs.Private.SourceParts.{ReadsSourceParts}
use Rattle.properties_editing.specs.Private.Sources.{IsBodyStartOf}
use Rattle.properties_editing.specs.declared.document.Document.TheInside.{Inside}
use Rattle.properties_editing.specs.declared.parts.NamedKeys.{NamedKeys}
use Rattle.properties_editing.specs.declared.parts.source_parts.SourceParts.{SourceParts}
use Rattle.properties_editing.specs.declared.source.BodyStart.{BodyStart}
use Rattle.properties_editing.specs.declared.source.Comments.TheVariants.{PassedOver, Read}
use Rattle.properties_editing.proofs.PassedOver.{items-sound, sound-weaker}
use Rattle.properties_editing.proofs.Editing.{made-result, removed-edits, set-edits, value-edits}
use Rattle.properties_editing.proofs.EditsInTurn.{pairs-made, result-made}
use Rattle.properties_editing.proofs.PartPairs.{escapes-sound, keys-pair_entries, pair_entries, pairs-groups, pairs_in, sound-escapes, value-pair_entries, keys-entries, keys-pieces, keys_of, last_said, source-pairs, stand-pairs, value-entries, value-groups, value-pieces}
use Rattle.properties_editing.proofs.PartsAt.{parts-length}
use Rattle.properties_editing.proofs.SourceParts.{source-bytes, source-read}
use Rattle.properties_format.specs.Computed.Maps.{AreFirstOf}
use Rattle.properties_format.proofs.Edits.Escapes.{malformed_escapes_of-groups}
use Rattle.properties_format.proofs.Edits.PairValues.{pairs_of-meets}
use Rattle.properties_format.proofs.MalformedEscapes.{malformed_escapes_of, malformed_escapes_of-meets, malformed_escapes_of-only}
use Rattle.properties_items.specs.declared.error.PropertiesError.{PropertiesError}
use Rattle.properties_editing.specs.Editing.{IsRefusal, asked_for}
use Rattle.properties_editing.specs.declared.source.Comments.{Comments}
use Rattle.properties_editing.specs.declared.source.SourceOptions.{SourceOptions}

-- ---- what a document tells

-- Where the entries of groups are items, nothing is malformed.
sound-items : (n : ℕ) (gs : List (List HeldLine)) → AreItems (entries_in n gs) → AreSoundFor Read gs
sound-items n [] h = tt
sound-items n (g ∷ gs) h = let m = of-outcome (outcome g) h in (inl m.0, sound-items (n + length g) gs m.1)
  where
    of-outcome : (o : Outcome) → AreItems (followed n o (entries_in (n + length g) gs)) → IsSoundOutcome o × AreItems (entries_in (n + length g) gs)
    of-outcome ignored h = (tt, h)
    of-outcome (given content) h = (tt, h)
    of-outcome (broken kind) h = absurd h

-- Whether a key has a value tells whether a pair has the key.
key-checked : (d : OpenDocument) (key : List ℕ) (o : Option (List ℕ)) → HasValueAt d key o → ChecksHasKey d key (is_some o)
key-checked d key None h = h
key-checked d key (Some value) h = (value, h)

-- What reads as an edited source can be read.
readable-by : {e : Encoding} (source bytes : List ℕ) {IsEdit : List Content → List Content → Type 0} {change : (List ℕ → Option (List ℕ)) → List ℕ → Option (List ℕ)}
    → ReadsAfter IsEdit change e source bytes → AreItems (items_of e bytes end)
readable-by {e} source bytes reads =
    (reads (items_of e source end) (items_of e bytes end) (items_of-meets e source end) (items_of-meets e bytes end)).readable

-- The source is sound if it can be read, or if malformed escapes are in comments alone.
read-sound : (e : Encoding) (bytes : List ℕ) → AreItems (items_of e bytes end) → AreSoundFor Read (document_groups e bytes)
read-sound e bytes read = sound-items 1 (document_groups e bytes) (subst AreItems (items_of-groups e bytes) read)

comments-sound : (e : Encoding) (bytes : List ℕ) → EscapesAre e bytes AreInComments → AreSoundFor PassedOver (document_groups e bytes)
comments-sound e bytes h =
    let same = malformed_escapes_of-only e bytes h.0 h.1 ∙ malformed_escapes_of-groups e bytes in
    sound-escapes 1 (document_groups e bytes) (subst AreInComments same h.2)

sound-comments : (e : Encoding) (bytes : List ℕ) → AreSoundFor PassedOver (document_groups e bytes) → EscapesAre e bytes AreInComments
sound-comments e bytes s = (
  malformed_escapes_of e bytes,
  malformed_escapes_of-meets e bytes,
  subst AreInComments (sym (malformed_escapes_of-groups e bytes)) (escapes-sound 1 (document_groups e bytes) s),
)

-- The value of a key among the pairs of its groups is that of the source,
value-has : (c : Comments) (e : Encoding) (bytes key : List ℕ) → AreSoundFor c (document_groups e bytes) → (value : Option (List ℕ))
    → last_said key (pairs_in (document_groups e bytes)) ≡ value → HasValueFor c e bytes key value
value-has Read e bytes key s value is =
    let gs = document_groups e bytes in
    let entries = entries_in 1 gs in
    record {
      entries = entries;
      items = subst (IsItems e bytes end) (items_of-groups e bytes) (items_of-meets e bytes end);
      whole = items-sound 1 gs s;
      is = subst (IsValue entries key) (value-entries 1 gs key s ∙ is) (value_in-meets entries key);
    }
value-has PassedOver e bytes key s value is =
    let gs = document_groups e bytes in
    let entries = pair_entries 1 gs in
    record {
      in_comments = sound-comments e bytes s;
      pairs = entries;
      are = subst (ArePairs e bytes) (pairs-groups e bytes) (pairs_of-meets e bytes);
      is = subst (IsValue entries key) (value-pair_entries 1 gs key ∙ is) (value_in-meets entries key);
    }

-- and their keys are its keys.
keys-has : (c : Comments) (e : Encoding) (bytes : List ℕ) → AreSoundFor c (document_groups e bytes) → (all keys : List (List ℕ))
    → keys_of (pairs_in (document_groups e bytes)) ≡ all → AreFirstOf all keys → HasKeysFor c e bytes keys
keys-has Read e bytes s all keys is first =
    let gs = document_groups e bytes in
    record {
      entries = entries_in 1 gs;
      items = subst (IsItems e bytes end) (items_of-groups e bytes) (items_of-meets e bytes end);
      whole = items-sound 1 gs s;
      are = are-keys (entries_in 1 gs) all keys (keys-entries 1 gs s ∙ is) first;
    }
keys-has PassedOver e bytes s all keys is first =
    let gs = document_groups e bytes in
    record {
      in_comments = sound-comments e bytes s;
      pairs = pair_entries 1 gs;
      are = subst (ArePairs e bytes) (pairs-groups e bytes) (pairs_of-meets e bytes);
      is = are-keys (pair_entries 1 gs) all keys (keys-pair_entries 1 gs ∙ is) first;
    }

module _ (d : Inside) (i : IsDocument d) where
  abbrev e : Encoding
  e = encoding_of d.encoding

  -- The value that is stored of a key is that in its source.
  pub has-value : (key : List ℕ) → HasValueAt (open_document d) key (value_of (stored_of d.edited.parts.keys.places.entries key))
  has-value key =
      let s = i.parts.stand.stand in
      value-has d.comments e (document_bytes d) key i.sound (value_of (stored_of d.edited.parts.keys.places.entries key))
      (ap (last_said key) (source-pairs i.parts.stand) ∙ sym (value-pieces key s.pieces) ∙ sym (s.placed.values i.all key))

  -- The keys have the places of their pairs,
  pub have-places : HavePlaces d.edited.parts
  have-places =
      let s = i.parts.stand.stand in
      record {
        said = map piece_said s.pieces;
        size = parts-length (drop d.edited.opened.start d.source.items) every d.edited.parts.parts.items s.pieces s.are_parts
            ∙ sym (length-map s.pieces piece_said);
        placed = s.placed;
      }

  -- and are those of its source, where there was memory for them.
  pub keys-made : {E : Type 0} (r : Result (Vec (Bor (List ℕ))) E) → IfOk r (λ keys. HasKeysOf d.edited.parts keys.items)
      → IfOk r (λ keys. HasKeysInOrder (open_document d) keys.items)
  keys-made (Err error) h = h
  keys-made (Ok keys) h =
      let s = i.parts.stand.stand in
      keys-has d.comments e (document_bytes d) i.sound _ (characters_of keys.items)
      (ap keys_of (source-pairs i.parts.stand) ∙ sym (keys-pieces s.pieces)) (h (map piece_said s.pieces) s.placed)

  -- What an edit asks, it has.
  pub have-parts : (key : List ℕ) → HaveParts key d.source.items d.edited
  have-parts key = record { repertoire = document_repertoire d; now = document_bytes d; named = every; is_named_key = refl; parts = i.parts }

-- ---- what edits make of a source

-- A key was set, and nothing else is malformed than before,
set-for : (c : Comments) (r : Repertoire) (source key value bytes : List ℕ) → All scalar key → All scalar value
    → IsResult c r.encoding source (IsKeySet r source key value) (edited bytes)
    → IsSetFor c r source key value bytes × AreSoundFor c (document_groups r.encoding bytes)
set-for Read r source key value bytes k v h =
    let set = set-edits k v h in (set, read-sound r.encoding bytes (readable-by source bytes set.edit.reads))
set-for PassedOver r source key value bytes k v h =
    let made = pairs-made (put key value ∷ []) ((k, v), tt) (h.0, h.1, (bytes, h.2, refl)) in
    (made, comments-sound r.encoding bytes made.in_comments)

-- or the value of a key was,
value-for : (c : Comments) (r : Repertoire) (source key value bytes : List ℕ) → All scalar key → All scalar value
    → IsResult c r.encoding source (IsValueSet r source key value) (edited bytes)
    → HasValueSetFor c r source key value bytes × AreSoundFor c (document_groups r.encoding bytes)
value-for Read r source key value bytes k v h =
    let set = value-edits k v h in (set, read-sound r.encoding bytes (readable-by source bytes set.edit.reads))
value-for PassedOver r source key value bytes k v h =
    let made = pairs-made (set_value key value ∷ []) ((k, v), tt) (h.0, h.1, (bytes, h.2, refl)) in
    (made, comments-sound r.encoding bytes made.in_comments)

-- or a key was removed.
removed-for : (c : Comments) (r : Repertoire) (source key bytes : List ℕ) → IsResult c r.encoding source (IsKeyRemoved r.encoding source key) (edited bytes)
    → IsRemovedFor c r source key bytes × AreSoundFor c (document_groups r.encoding bytes)
removed-for Read r source key bytes h =
    let removed = removed-edits h in (removed, read-sound r.encoding bytes (readable-by source bytes removed.edit.reads))
removed-for PassedOver r source key bytes h =
    let made = pairs-made (remove key ∷ []) (tt, tt) (h.0, h.1, (bytes, h.2, refl)) in
    (made, comments-sound r.encoding bytes made.in_comments)

-- ---- a document after a call

module _ (d : Inside) (i : IsDocument d) (new : SourceParts) (all : new.parts.keys.all ≡ d.edited.parts.keys.all) where
  abbrev r : Repertoire
  r = document_repertoire d

  abbrev after : Inside
  after = record d { edited = new }

  -- If the parts stand for these bytes, which are sound, it has them.
  comes-to : (result : List ℕ) → AreParts r d.source.items result every new → AreSoundFor d.comments (document_groups r.encoding result)
      → IsDocument after × (open_document after ≡ record { repertoire = r; comments = d.comments; bytes = result })
  comes-to result parts sound =
      let same : document_bytes after ≡ result = source-bytes parts.stand in
      let own : document_repertoire after ≡ r = ap (λ s. let t : Repertoire = record { encoding = encoding_of d.encoding; characters = s } in t) parts.stand.in_force.characters in (
        record {
          parts = subst (λ v. AreParts v d.source.items (document_bytes after) every new) (sym own)
              (subst (λ v. AreParts r d.source.items v every new) (sym same) parts);
          all = all ∙ i.all;
          sound = subst (λ v. AreSoundFor d.comments (document_groups r.encoding v)) (sym same) sound;
        },
        ap₂ (λ v w. let o : OpenDocument = record { repertoire = v; comments = d.comments; bytes = w } in o) own same,
      )

  -- What an edit makes of it is the result of that edit.
  meant-result : (Makes : List ℕ → Type 0) (result : List ℕ) → Makes result → IsResult d.comments r.encoding (document_bytes d) Makes (edited result)
  meant-result Makes result m =
      let force = i.parts.stand.in_force in
      made-result d.comments Makes result force
      (subst (λ v. let w : InForce = v in AreSoundFor d.comments (held_groups_of w.encoding w.body)) force.in_force i.sound) m

  -- A key was set, or it is as it was,
  pub put-ends : {E : Type 0} (key value : List ℕ) (result : Result Unit E) → All scalar key → All scalar value
      → EditsParts (put key value) d.source.items d.edited result new → IsDocument after × PutsInto key value (open_document d) result (open_document after)
  put-ends {E} key value (Ok done) kc vc edits =
      let m = edits r (document_bytes d) every refl i.parts in
      let set = set-for d.comments r (document_bytes d) key value m.result kc vc (meant-result (IsKeySet r (document_bytes d) key value) m.result m.edited) in
      let is = comes-to m.result m.parts set.1 in
      (is.0, subst (PutsInto {E = E} key value (open_document d) (Ok done)) (sym is.1) ((refl, refl), set.0))
  put-ends key value (Err error) kc vc edits = comes-to (document_bytes d) (edits r (document_bytes d) every i.parts) i.sound

  -- the value of a key was,
  pub value-ends : {E : Type 0} (key value : List ℕ) (result : Result Unit E) → All scalar key → All scalar value
      → EditsParts (set_value key value) d.source.items d.edited result new
      → IsDocument after × SetsValueIn key value (open_document d) result (open_document after)
  value-ends {E} key value (Ok done) kc vc edits =
      let m = edits r (document_bytes d) every refl i.parts in
      let set = value-for d.comments r (document_bytes d) key value m.result kc vc (meant-result (IsValueSet r (document_bytes d) key value) m.result m.edited) in
      let is = comes-to m.result m.parts set.1 in
      (is.0, subst (SetsValueIn {E = E} key value (open_document d) (Ok done)) (sym is.1) ((refl, refl), set.0))
  value-ends key value (Err error) kc vc edits = comes-to (document_bytes d) (edits r (document_bytes d) every i.parts) i.sound

  -- or a key was removed.
  pub remove-ends : (key : List ℕ) (told : Bool) → RemovesFromParts key d.source.items d.edited told new
      → IsDocument after × RemovesFrom key (open_document d) told (open_document after)
  remove-ends key told removes =
      let s = i.parts.stand in
      let m = removes r (document_bytes d) every refl i.parts in
      let removed = removed-for d.comments r (document_bytes d) key m.0.result (meant-result (IsKeyRemoved r.encoding (document_bytes d) key) m.0.result m.0.edited) in
      let is = comes-to m.0.result m.0.parts removed.1 in
      let value = value_of (stored_of d.edited.parts.keys.places.entries key) in
      let stored : value_among key i.parts.groups ≡ value =
      value-groups key i.parts.groups
      ∙ ap (last_said key) (stand-pairs (drop d.edited.opened.start d.source.items) (encoding_of d.edited.opened.encoding) i.parts.groups d.edited.parts s.stand s.turn)
      ∙ sym (value-pieces key s.stand.pieces) ∙ sym (s.stand.placed.values i.all key) in
      let checked = subst (ChecksHasKey (open_document d) key) (sym (m.1 ∙ ap is_some stored)) (key-checked (open_document d) key value (has-value d i key)) in
      (is.0, subst (RemovesFrom key (open_document d) told) (sym is.1) (record { keeps = (refl, refl); removed = removed.0; checked = checked }))

-- What is put in is written in ASCII only from now on, or not.
pub ascii-turned : (d : Inside) → IsDocument d → (only : Bool)
    → (let after : Inside = record d { edited = record d.edited { opened = record d.edited.opened { ascii_only = only; latin_1 = false } } } in
    IsDocument after × TurnsAsciiOnly only (open_document d) (open_document after))
ascii-turned d i only =
    let s = i.parts.stand in
    let force = s.in_force in (
      record {
        parts = record {
          groups = i.parts.groups;
          stand = record {
            in_force = record { in_force = force.in_force; within = force.within; characters = refl; editable = force.editable };
            within = s.within;
            mark = s.mark;
            body = s.body;
            turn = s.turn;
            stand = s.stand;
            empty = s.empty;
            bounds = s.bounds;
          };
          sound = i.parts.sound;
        };
        all = i.all;
        sound = i.sound;
      },
      refl,
    )

-- ---- a document that is opened

-- A list of no edits is made,
none-made : (c : Comments) (r : Repertoire) (source : List ℕ) → IsResult c r.encoding source (AreEdited r source []) (edited source) → AreMadeFor c r source [] source
none-made Read r source h = result-made [] tt h
none-made PassedOver r source h = pairs-made [] tt h

-- or refused.
pub none-refused : (c : Comments) (r : Repertoire) (source : List ℕ) (error : PropertiesError) → IsRefusal (IsResult c r.encoding source (AreEdited r source [])) error
    → IsRefusal (IsResultFor c r source []) error
none-refused Read r source error h = h
none-refused PassedOver r source error h = h

-- It comes to the source as it is.
pub opens-document : (d : Inside) (options : SourceOptions) (source : List ℕ) (opened : BodyStart) (keys : NamedKeys) → d.encoding ≡ options.encoding
    → d.comments ≡ options.comments → d.source.items ≡ source → IsBodyStartOf source (asked_for options) opened
    → ReadsSourceParts options.comments opened (drop opened.start source) keys (Ok d.edited) → ((key : List ℕ) → is_named keys key ≡ true) → keys.all ≡ true
    → IsDocument d × OpensDocumentWith options source (Ok (open_document d))
opens-document d options source opened keys encoding comments copy force reads named all =
    let r = asked_for options in
    let c = options.comments in
    let read = source-read r source c opened keys d.edited force reads in
    let gs = held_groups_of (encoding_of opened.encoding) (drop opened.start source) in
    let all_named : is_named keys ≡ every = fun_ext named in
    let stand : StandForSource r d.source.items source every gs d.edited =
    subst (λ v. StandForSource r v source every gs d.edited) (sym copy) (subst (λ v. StandForSource r source source v gs d.edited) all_named read.1) in
    let same : document_bytes d ≡ source = source-bytes stand in
    let own : document_repertoire d ≡ r = ap₂ (λ e s. let t : Repertoire = record { encoding = encoding_of e; characters = s } in t) encoding stand.in_force.characters in
    let parts : AreParts r d.source.items source every d.edited = record { groups = gs; stand = stand; sound = sound-weaker c gs read.0 } in
    let sound = subst (λ v. let w : InForce = v in AreSoundFor c (held_groups_of w.encoding w.body)) (sym force.in_force) read.0 in
    let made = made-result c (AreEdited r source []) source force read.0 refl in (
      record {
        parts = subst (λ v. AreParts v d.source.items (document_bytes d) every d.edited) (sym own)
            (subst (λ v. AreParts r d.source.items v every d.edited) (sym same) parts);
        all = read.2 ∙ all;
        sound = rw (comments, same, encoding) sound;
      },
      (rw (own, comments, same) refl, none-made c r source made),
    )
