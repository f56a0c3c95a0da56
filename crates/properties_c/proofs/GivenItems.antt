-- The items of a source, packed logical line after logical line.
use Rattle.std.proofs.Common.{◌≡◌, ◌≢◌, ℕ, List, [], ◌∷◌, ◌++◌, ap, sym, ◌∙◌, subst, refl, inl, inr, false, true, append_assoc, append-nil}
use Rattle.std.specs.Prelude.{◌⊎◌, Result, Ok, Err}
use Rattle.std.specs.{Borrow.Bor, Global.Vec, Str.chars}
use Rattle.properties_format.specs.{Encoding.Encoding, ItemsToCome.ReaderState, ItemsToCome.start, Computed.ItemsToCome.natural_to_come}
use Rattle.properties_format.specs.{Computed.Lines.groups_of, Split.Logical}
use Rattle.properties_format.specs.Escapes.{Malformed, not_enough_digits, not_hex, invalid_character}
use Rattle.properties_format.specs.Items.{Entry, Outcome, ignored, given, broken, item, malformed, AreEntries, IsFollowed, IsOutcome, IsItems}
use Rattle.properties_format.specs.Lines.{Line, HasGroups, end, first_number, joined, line_endings, lines_in}
use Rattle.properties_format.proofs.Items.Unique.{items_of-only}
use Rattle.properties_lines.specs.{LineReader.Passes, LineJoiner.JoinsNext, LineJoiner.LineState}
use Rattle.properties_items.specs.{Errors.kind_of, Errors.malformed_kind, declared.error.PropertiesError.PropertiesError}
use Rattle.java_properties.specs.Private.LineByLine.{Collected}
use Rattle.java_properties.proofs.MalformedEscapes.{collected-start, collected-next, collected-on, collected-lines}
use Rattle.java_properties.proofs.Readings.{reading-of}
use Rattle.java_properties.proofs.SliceReads.{collected-slice, slice_of, slice_reader, slice-read, slice-whole}
use Rattle.properties_c.specs.Crossing.{Crossing, Crosses, Delivers, RefusesCall}
use Rattle.properties_c.specs.Items.{AreAsked, AreAskedEntries, GivesAsked, GivesGroups, GivesItems, GivesAskedLine, GivesPart, GivesSource}
use Rattle.properties_c.specs.Packed.{item_record, packed, packed_items, reading_line, reading_status}
use Rattle.properties_c.specs.Private.Results.{AppendsOutcome, HasItems, PacksGroups, PushesLine}
use Rattle.properties_c.specs.{Statuses.line_or_none, Statuses.malformed_status, Statuses.status_of_kind, declared.asked.Asked.Asked}
use Rattle.properties_c.specs.{declared.asked.Texts.TheVariants.Read, declared.items.PackedItems.PackedItems, declared.status.Status.TheVariants.Done}
use Rattle.properties_c.specs.declared.status.Status.TheVariants.{NoMemory}

-- ---- where all is read

read-line : (a : Asked) (x : List ℕ) (o : Outcome) → a.comments ≡ Read → a.pairs ≡ Read → GivesAskedLine a x o → IsOutcome x o
read-line a x o c p (Logical.blank, h, is) = rw is h
read-line a x o c p (Logical.comment text, h, is) = rw c at is
read-line a x o c p (Logical.pair key value, h, is) = rw p at is

followed-as : (number : ℕ) (o : Outcome) (P Q : List Entry → Type 0) (entries : List Entry) → ((rest : List Entry) → P rest → Q rest)
    → IsFollowed number o P entries → IsFollowed number o Q entries
followed-as number ignored P Q entries f h = f entries h
followed-as number (given content) P Q entries f h = (h.0, h.1, f h.0 h.2)
followed-as number (broken how) P Q entries f h = h

read-entries : (a : Asked) (n : ℕ) (groups : List (List Line)) (entries : List Entry) → a.comments ≡ Read → a.pairs ≡ Read → AreAskedEntries a groups entries
    → AreEntries n end groups entries
read-entries a n [] entries c p h = h
read-entries a n (g ∷ gs) entries c p h =
    (h.0, read-line a (joined g) h.0 c p h.1, followed-as (first_number g) h.0 (AreAskedEntries a gs) (AreEntries n end gs) entries (λ rest k. read-entries a n gs rest c p k) h.2)

pub asked-of : {a : Asked} {e : Encoding} {source : List ℕ} {groups : List (List Line)} {entries : List Entry} → HasGroups e source end groups
    → AreAskedEntries a groups entries → AreAsked a e source entries
asked-of {a} {e} {source} {groups} {entries} has are = record {
  groups = groups;
  has_groups = has;
  are_given = are;
  reading = λ c p.
      let is : IsItems e source end entries =
      record { groups = groups; has_groups = has; are_entries = read-entries a (line_endings has.lines) groups entries c p are } in
      reading-of e source end entries (sym (items_of-only e source end entries is));
}

-- ---- what comes of some groups

-- These bytes are packed of them, and the rest of what comes after them.
pub record Given (a : Asked) (groups : List (List Line)) (bytes : List ℕ) (rest : List Entry) : Type 0 where
  pub entries : List Entry
  pub are : AreAskedEntries a groups entries
  pub packed : packed_items entries ≡ bytes ++ packed_items rest
  pub status : reading_status entries ≡ reading_status rest
  pub line : reading_line entries ≡ reading_line rest

abbrev pub ComeBefore : Asked → List (List Line) → List ℕ → Type 0
ComeBefore a groups bytes = (later : List (List Line)) (rest : List Entry) → AreAskedEntries a later rest → Given a (groups ++ later) bytes rest

pub record HasPacked (a : Asked) (e : Encoding) (from bytes : List ℕ) (state : ReaderState) (to : List ℕ) : Type 0 where
  pub groups : List (List Line)
  pub collected : Collected slice_reader e (slice_of from) groups state (slice_of to)
  pub before : ComeBefore a groups bytes

-- one group more
one-more : (a : Asked) (old new : List ℕ) (g : List Line) (later : List (List Line)) (rest : List Entry) (o : Outcome) → GivesAskedLine a (joined g) o
    → AppendsOutcome (first_number g) o old new → AreAskedEntries a later rest
    → (entries : List Entry) × AreAskedEntries a (g ∷ later) entries × (old ++ packed_items entries ≡ new ++ packed_items rest)
    × (reading_status entries ≡ reading_status rest) × (reading_line entries ≡ reading_line rest)
one-more a old new g later rest ignored gives is h = (rest, (ignored, gives, h), ap (λ v. v ++ packed_items rest) (sym is), refl, refl)
one-more a old new g later rest (given content) gives is h =
    let bytes = packed (item_record (first_number g) content) in (
      item (first_number g) content ∷ rest,
      (given content, gives, (rest, refl, h)),
      sym (append_assoc old bytes (packed_items rest)) ∙ ap (λ v. v ++ packed_items rest) (sym is),
      refl,
      refl,
    )
one-more a old new g later rest (broken how) gives is h = absurd is

before-next : (a : Asked) (groups : List (List Line)) (old new : List ℕ) (g : List Line) (o : Outcome) → ComeBefore a groups old
    → GivesAskedLine a (joined g) o → AppendsOutcome (first_number g) o old new → ComeBefore a (groups ++ g ∷ []) new
before-next a groups old new g o before gives is = λ later rest h.
    let more = one-more a old new g later rest o gives is h in
    let all = before (g ∷ later) more.0 more.1 in
    subst (λ v. Given a v new rest) (sym (append_assoc groups (g ∷ []) later)) (record {
      entries = all.entries;
      are = all.are;
      packed = all.packed ∙ more.2;
      status = all.status ∙ more.3;
      line = all.line ∙ more.4;
    })

malformed-status : (how : Malformed) → status_of_kind (malformed_kind how) ≡ malformed_status how
malformed-status not_enough_digits = refl
malformed-status not_hex = refl
malformed-status invalid_character = refl

-- ---- the reading

-- The groups that came from a slice are its first ones.
came-first : {e : Encoding} {from to : Bor (List ℕ)} {gs : List (List Line)} {s : ReaderState} → Collected slice_reader e from gs s to
    → (later : List (List Line)) × HasGroups e from.now end (gs ++ later)
came-first {e} {from} {to} {gs} {s} c = by-passes c.passes
  where
    by-passes : Passes (start e) c.bytes (lines_in gs) s → (later : List (List Line)) × HasGroups e from.now end (gs ++ later)
    by-passes (Passes.going_on live reads) =
        let later = groups_of (natural_to_come s to.now end) end in
        (later, subst (λ v. HasGroups e v end (gs ++ later)) (sym (slice-read c.read)) (collected-on c live to.now end))
    by-passes (Passes.at_last done gives) =
        let whole = subst (HasGroups e c.bytes end) (sym (append-nil gs)) (collected-lines c done) in
        ([], subst (λ v. HasGroups e v end (gs ++ [])) (slice-whole c.read (c.ended done)) whole)

module _ {a : Asked} {e : Encoding} {from : List ℕ} where
  -- before the first group
  pub packed-start : (state : ReaderState) → state ≡ start e → HasPacked a e from [] state from
  packed-start state is = rw is (record {
    groups = [];
    collected = collected-start e (slice_of from);
    before = λ later rest h. record { entries = rest; are = h; packed = refl; status = refl; line = refl };
  })

  -- one more came
  pub packed-next : {to next : Bor (List ℕ)} {old : List ℕ} {s : ReaderState} (number : ℕ) (new : LineState) (bytes : List ℕ) (o : Outcome)
      → HasPacked a e from old s to.now → JoinsNext slice_reader s to number new next → GivesAskedLine a (chars new.line) o → AppendsOutcome number o old bytes
      → HasPacked a e from bytes new.state next.now
  packed-next number new bytes o h n gives is =
      let g = n.group.first ∷ n.group.others in
      record {
        groups = h.groups ++ g ∷ [];
        collected = collected-slice refl (collected-next number new (collected-slice refl h.collected) n);
        before = before-next a h.groups _ bytes g o h.before (rw (n.group.text) at gives) (rw (n.group.number) at is);
      }

  -- no more came
  pub packed-all : {to bytes : List ℕ} {s : ReaderState} (found : PackedItems) → HasPacked a e from bytes s to → s.is_done ≡ true
      → found.bytes.items ≡ bytes → found.status ≡ Done → found.line ≡ 0 → HasItems a e from found
  packed-all found h done bytes status line =
      let c = h.collected in
      let all = h.before [] [] refl in
      let has = subst (λ v. HasGroups e v end h.groups) (slice-whole c.read (c.ended done)) (collected-lines c done) in
      record {
        entries = all.entries;
        asked = asked-of (subst (HasGroups e from end) (sym (append-nil h.groups)) has) all.are;
        bytes = bytes ∙ sym (all.packed ∙ append-nil _);
        status = status ∙ sym all.status;
        line = line ∙ sym all.line;
      }

  -- one came with a malformed escape
  pub packed-broken : {to next : Bor (List ℕ)} {bytes : List ℕ} {s : ReaderState} (number : ℕ) (new : LineState) (how : Malformed) (found : PackedItems)
      → HasPacked a e from bytes s to.now → JoinsNext slice_reader s to number new next → GivesAskedLine a (chars new.line) (broken how)
      → found.bytes.items ≡ bytes → found.status ≡ malformed_status how → found.line ≡ number → HasItems a e from found
  packed-broken number new how found h n gives bytes status line =
      let g = n.group.first ∷ n.group.others in
      let came = came-first (collected-next number new (collected-slice refl h.collected) n) in
      let last = malformed how (first_number g) ∷ [] in
      let all = h.before (g ∷ came.0) last (broken how, rw (n.group.text) at gives, refl) in
      record {
        entries = all.entries;
        asked = asked-of (subst (HasGroups e from end) (append_assoc h.groups (g ∷ []) came.0) came.1) all.are;
        bytes = bytes ∙ sym (all.packed ∙ append-nil _);
        status = status ∙ sym all.status;
        line = line ∙ n.group.number ∙ sym all.line;
      }

  -- or memory ran out
  pub packed-failed : {to next : Bor (List ℕ)} {old : List ℕ} {s : ReaderState} (number : ℕ) (new : LineState) (bytes : List ℕ) (error : PropertiesError)
      (found : PackedItems) → HasPacked a e from old s to.now → JoinsNext slice_reader s to number new next
      → PushesLine a number (chars new.line) old (Err error) bytes → found.bytes.items ≡ bytes → found.status ≡ status_of_kind (kind_of error)
      → found.status ≢ NoMemory → found.line ≡ number → HasItems a e from found
  packed-failed number new bytes error found h n (inl (how, gives, says, same)) is status other line =
      packed-broken number new how found h n gives (is ∙ same) (status ∙ ap status_of_kind says.its_kind ∙ malformed-status how) line
  packed-failed number new bytes error found h n (inr memory) is status other line = absurd (other (status ∙ ap status_of_kind memory.its_kind))

-- ---- what crosses

pub part-across : (a : Asked) (e : Encoding) (source : List ℕ) (x : Crossing) → a.is_part ≡ true → GivesPart a e source x → GivesSource a a.is_part e source x
part-across a e source x is h = subst (λ v. GivesSource a v e source x) (sym is) h

pub source-across : (a : Asked) (e : Encoding) (source : List ℕ) (x : Crossing) → a.is_part ≡ false → GivesSource a false e source x
    → GivesSource a a.is_part e source x
source-across a e source x is h = subst (λ v. GivesSource a v e source x) (sym is) h

pub items-across : (a : Asked) (e : Encoding) (source bytes : List ℕ) (found : PackedItems) (x : Crossing) → HasItems a e source found
    → bytes ≡ found.bytes.items → a.has_spans ≡ false → Delivers bytes found.status found.line x → GivesAsked a a.has_spans e source x
items-across a e source bytes found x h is plain d =
    let given : GivesItems a e source x =
    record { entries = h.entries; asked = h.asked; delivered = rw (is ∙ h.bytes, h.status, h.line) at d } in
    subst (λ v. GivesAsked a v e source x) (sym plain) given

pub spans-across : (a : Asked) (e : Encoding) (source : List ℕ) (result : Result (Vec ℕ) PropertiesError) (x : Crossing) → PacksGroups a e source result
    → a.has_spans ≡ true → Crosses result x → GivesAsked a a.has_spans e source x ⊎ RefusesCall NoMemory 0 x
spans-across a e source (Ok bytes) x (view, is, packed) spans d =
    let given : GivesGroups a e source x =
    inl (record { view = view; is_view = is; bytes = bytes.items; packed = packed; delivered = d }) in
    inl (subst (λ v. GivesAsked a v e source x) (sym spans) given)
spans-across a e source (Err error) x (inl (wide, says)) spans d =
    let given : GivesGroups a e source x =
    inr (wide, rw (ap status_of_kind says.its_kind, ap line_or_none says.its_line) at d) in
    inl (subst (λ v. GivesAsked a v e source x) (sym spans) given)
spans-across a e source (Err error) x (inr memory) spans d = inr (rw (ap status_of_kind memory.its_kind, ap line_or_none memory.its_line) at d)
