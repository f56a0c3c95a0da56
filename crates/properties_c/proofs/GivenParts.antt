-- The items of a source in parts: those of its front come first, whatever follows.
use Rattle.std.proofs.Common.{◌≡◌, ◌≢◌, ◌⊎◌, ℕ, ◌+◌, List, [], ◌∷◌, ◌++◌, refl, ap, ap₂, sym, subst, ◌∙◌, inl, inr, append-nil, arith}
use Rattle.std.specs.Prelude.{map}
use Rattle.properties_format.specs.{Encoding.Encoding, Encoding.byte_order_mark, Split.Logical, Split.blank, Split.IsSplit, Computed.Encoding.decoded_of}
use Rattle.properties_format.specs.{Computed.Lines.groups_in, Computed.Lines.groups_of, Computed.Lines.lines_of, Computed.Split.split_of, Text.piece_characters}
use Rattle.properties_format.specs.Items.{Entry, Outcome, ignored, given, broken, item, malformed, read_fault}
use Rattle.properties_format.specs.Lines.{Line, HasGroups, end, joined, line_endings, numbered_lines}
use Rattle.properties_format.proofs.{Encodings.Pieces.decoded_of-meets, Encodings.Pieces.decoded_of-only, Encodings.Pieces.pieces_of-nil}
use Rattle.properties_format.proofs.{Groups.Meets.groups_of-meets, Groups.Only.groups_of-only, Groups.Steps.groups_of-closed, Lines.Meets.lines_of-meets}
use Rattle.properties_format.proofs.{Lines.Only.lines_of-only, Split.Unique.split_of-only}
use Rattle.properties_c.specs.{Crossing.Crossing, Crossing.Delivers, Private.Results.HasFront, Private.Results.HasItems, declared.asked.Asked.Asked}
use Rattle.properties_c.specs.{declared.items.PackedItems.PackedItems, declared.status.Status.Status, declared.status.Status.TheVariants.Done}
use Rattle.properties_c.specs.Items.{AreAsked, AreAskedEntries, GivesFront, GivesAskedLine}
use Rattle.properties_c.specs.Packed.{end_bytes, end_record, packed, packed_items, reading_status}
use Rattle.properties_c.specs.Parts.{IsDivided, IsLineEnd, followed_by, later_entry}
use Rattle.properties_c.proofs.{GivenItems.asked-of, PartedBytes.two-parts, PartedTexts.joined-later}
use Rattle.properties_c.proofs.PartedTexts as lines

-- ---- an empty line

empty-split : (what : Logical) → IsSplit [] what → what ≡ blank
unfolding split_of
empty-split what h = split_of-only [] what h

-- It gives nothing.
empty-gives : (a : Asked) (x : List ℕ) (o : Outcome) → x ≡ [] → GivesAskedLine a x o → o ≡ ignored
empty-gives a x o none (what, split, taken) =
    let is = empty-split what (rw none at split) in
    rw is at taken

empty-first : (a : Asked) (n : ℕ) (gs : List (List Line)) (entries : List Entry) → AreAskedEntries a ((record { number = n; text = [] } ∷ []) ∷ gs) entries
    → AreAskedEntries a gs entries
empty-first a n gs entries (o, gives, h) = rw (empty-gives a [] o refl gives) at h

-- ---- what groups give

given-both : (a : Asked) (gs hs : List (List Line)) (es os : List Entry) → AreAskedEntries a gs es → AreAskedEntries a hs os → AreAskedEntries a (gs ++ hs) (followed_by es os)
given-both a [] hs es os h k = rw h k
given-both a (g ∷ gs) hs es os (ignored, gives, h) k = (ignored, gives, given-both a gs hs es os h k)
given-both a (g ∷ gs) hs es os (given content, gives, (rest, is, h)) k =
    (given content, gives, (followed_by rest os, ap (λ v. followed_by v os) is, given-both a gs hs rest os h k))
given-both a (g ∷ gs) hs es os (broken how, gives, is) k = (broken how, gives, ap (λ v. followed_by v os) is)

-- After a malformed escape, no group gives more.
given-all : (a : Asked) (gs hs : List (List Line)) (es : List Entry) → AreAskedEntries a gs es → reading_status es ≢ Done → AreAskedEntries a (gs ++ hs) es
given-all a [] hs es h stops = absurd (stops (ap reading_status h))
given-all a (g ∷ gs) hs es (ignored, gives, h) stops = (ignored, gives, given-all a gs hs es h stops)
given-all a (g ∷ gs) hs es (given content, gives, (rest, is, h)) stops =
    (given content, gives, (rest, is, given-all a gs hs rest h (λ d. stops (ap reading_status is ∙ d))))
given-all a (g ∷ gs) hs es (broken how, gives, is) stops = (broken how, gives, is)

-- The number of the first line is the number of what a group gives.
gives-later : (a : Asked) (k : ℕ) (g : List Line) (o : Outcome) → GivesAskedLine a (joined g) o → GivesAskedLine a (joined (map (lines.later k) g)) o
gives-later a k g o gives = subst (λ v. GivesAskedLine a v o) (sym (joined-later k g)) gives

given-later : (a : Asked) (k : ℕ) (gs : List (List Line)) (es : List Entry) → AreAskedEntries a gs es → AreAskedEntries a (map (map (lines.later k)) gs) (map (later_entry k) es)
given-later a k [] es h = rw h refl
given-later a k (g ∷ gs) es (ignored, gives, h) = (ignored, gives-later a k g ignored gives, given-later a k gs es h)
given-later a k ([] ∷ gs) es (given content, gives, h) = absurd (cc (empty-gives a [] (given content) refl gives))
given-later a k ([] ∷ gs) es (broken how, gives, h) = absurd (cc (empty-gives a [] (broken how) refl gives))
given-later a k ((l ∷ ls) ∷ gs) es (given content, gives, (rest, is, h)) =
    (given content, gives-later a k (l ∷ ls) (given content) gives, (map (later_entry k) rest, ap (map (later_entry k)) is, given-later a k gs rest h))
given-later a k ((l ∷ ls) ∷ gs) es (broken how, gives, is) = (broken how, gives-later a k (l ∷ ls) (broken how) gives, ap (map (later_entry k)) is)

later-none : (es : List Entry) → map (later_entry 0) es ≡ es
later-none [] = refl
later-none (item n content ∷ es) = let same : 0 + n ≡ n = omega arith in ap₂ (λ m v. item m content ∷ v) same (later-none es)
later-none (malformed how n ∷ es) = let same : 0 + n ≡ n = omega arith in ap₂ (λ m v. malformed how m ∷ v) same (later-none es)
later-none (read_fault n ∷ es) = let same : 0 + n ≡ n = omega arith in ap₂ (λ m v. read_fault m ∷ v) same (later-none es)

-- ---- the groups of a source

groups-meet : (e : Encoding) (source : List ℕ) → HasGroups e source end (groups_in e source end)
groups-meet e source = record {
  text = decoded_of e source;
  lines = lines_of (decoded_of e source);
  decoded = decoded_of-meets e source;
  divided = lines_of-meets (decoded_of e source);
  grouped = groups_of-meets (numbered_lines (lines_of (decoded_of e source)) end) end;
}

-- They have these lines, and are these.
pub lines-are : {e : Encoding} {source : List ℕ} {gs : List (List Line)} (h : HasGroups e source end gs) → h.lines ≡ lines_of (decoded_of e source)
lines-are {e} {source} h = lines_of-only h.text h.lines h.divided ∙ ap lines_of (decoded_of-only e source h.text h.decoded)

groups-are : {e : Encoding} {source : List ℕ} {gs : List (List Line)} → HasGroups e source end gs → gs ≡ groups_in e source end
groups-are {e} {source} {gs} h =
    groups_of-only (numbered_lines h.lines end) end gs h.grouped ∙ ap (λ v. groups_of (numbered_lines v end) end) (lines-are h)

given-in : {a : Asked} {e : Encoding} {source : List ℕ} {entries : List Entry} → AreAsked a e source entries → AreAskedEntries a (groups_in e source end) entries
given-in {a} {e} {source} {entries} h = subst (λ v. AreAskedEntries a v entries) (groups-are h.has_groups) h.are_given

-- ---- a part

abbrev pub GoesOn : Asked → Encoding → List ℕ → List ℕ → List Entry → ℕ → Type 0
GoesOn a e front rest entries n = (after : List ℕ) (others : List Entry) → AreAsked a (byte_order_mark e front).encoding (rest ++ after) others
    → AreAsked a e (front ++ (rest ++ after)) (followed_by entries (map (later_entry n) others))

goes-on : (a : Asked) (e : Encoding) (front rest : List ℕ) (entries : List Entry) (h : AreAsked a e front entries)
    → IsLineEnd (byte_order_mark e front).encoding (byte_order_mark e front).body rest → GoesOn a e front rest entries (line_endings h.has_groups.lines)
goes-on a e front rest entries h place after others k =
    let two = two-parts e front rest after place in
    let f = (byte_order_mark e front).encoding in
    let n = line_endings (lines_of (decoded_of e front)) in
    let parts = two.groups in
    let second = empty-first a 1 parts.groups others (subst (λ v. AreAskedEntries a v others) parts.second (given-in k)) in
    let both = given-both a (groups_in e front end) _ entries _ (given-in h) (given-later a n parts.groups others second) in
    let whole : groups_in e (front ++ (rest ++ after)) end ≡ groups_in e front end ++ map (map (lines.later n)) parts.groups =
    ap (λ v. groups_of (numbered_lines (lines_of v) end) end) two.text ∙ parts.together in
    let given = subst (λ v. AreAskedEntries a v (followed_by entries (map (later_entry n) others))) (sym whole) both in
    subst (λ m. AreAsked a e (front ++ (rest ++ after)) (followed_by entries (map (later_entry m) others))) (ap line_endings (sym (lines-are h.has_groups)))
    (asked-of (groups-meet e (front ++ (rest ++ after))) given)

-- The groups of a part and of what follows it.
whole-groups : (e : Encoding) (front rest after : List ℕ) → IsLineEnd (byte_order_mark e front).encoding (byte_order_mark e front).body rest
    → (others : List (List Line)) × (groups_in e (front ++ (rest ++ after)) end ≡ groups_in e front end ++ others)
whole-groups e front rest after place =
    let two = two-parts e front rest after place in
    (_, ap (λ v. groups_of (numbered_lines (lines_of v) end) end) two.text ∙ two.groups.together)

stops-there : (a : Asked) (e : Encoding) (front rest : List ℕ) (entries : List Entry) → AreAsked a e front entries
    → IsLineEnd (byte_order_mark e front).encoding (byte_order_mark e front).body rest → reading_status entries ≢ Done → (after : List ℕ)
    → AreAsked a e (front ++ (rest ++ after)) entries
stops-there a e front rest entries h place stops after =
    let whole = whole-groups e front rest after place in
    asked-of (groups-meet e (front ++ (rest ++ after)))
    (subst (λ v. AreAskedEntries a v entries) (sym whole.1) (given-all a (groups_in e front end) whole.0 entries (given-in h) stops))

-- Nothing comes of an empty front.
nothing : (a : Asked) (e : Encoding) (entries : List Entry) → AreAsked a e [] entries → (entries ≡ []) × (line_endings (lines_of (decoded_of e [])) ≡ 0)
nothing a e entries h =
    let text : decoded_of e [] ≡ [] = ap piece_characters (pieces_of-nil e) in
    let groups : groups_in e [] end ≡ (record { number = 1; text = [] } ∷ []) ∷ [] =
    ap (λ v. groups_of (numbered_lines (lines_of v) end) end) text ∙ groups_of-closed (record { number = 1; text = [] }) [] end refl in
    (empty-first a 1 [] entries (subst (λ v. AreAskedEntries a v entries) groups (given-in h)), ap (λ v. line_endings (lines_of v)) text)

none-goes-on : (a : Asked) (e : Encoding) (rest : List ℕ) (entries : List Entry) (h : AreAsked a e [] entries)
    → GoesOn a e [] rest entries (line_endings h.has_groups.lines)
none-goes-on a e rest entries h after others k =
    let none = nothing a e entries h in
    let n = ap line_endings (lines-are h.has_groups) ∙ none.1 in
    rw (none.0, n, later-none others) k

pub part-goes-on : (a : Asked) (e : Encoding) (front rest : List ℕ) (entries : List Entry) (h : AreAsked a e front entries)
    → (front ≡ []) ⊎ IsLineEnd (byte_order_mark e front).encoding (byte_order_mark e front).body rest
    → GoesOn a e front rest entries (line_endings h.has_groups.lines)
part-goes-on a e front rest entries h (inl none) = by front none h
  where
    by : (front : List ℕ) → front ≡ [] → (h : AreAsked a e front entries) → GoesOn a e front rest entries (line_endings h.has_groups.lines)
    by [] same h = none-goes-on a e rest entries h
    by (c ∷ front) same h = absurd (cc)
part-goes-on a e front rest entries h (inr place) = goes-on a e front rest entries h place

pub part-stops : (a : Asked) (e : Encoding) (front rest : List ℕ) (entries : List Entry) → AreAsked a e front entries
    → (front ≡ []) ⊎ IsLineEnd (byte_order_mark e front).encoding (byte_order_mark e front).body rest
    → reading_status entries ≢ Done → (after : List ℕ) → AreAsked a e (front ++ (rest ++ after)) entries
part-stops a e front rest entries h (inl none) stops after =
    absurd (stops (ap reading_status (nothing a e entries (subst (λ v. AreAsked a e v entries) none h)).0))
part-stops a e front rest entries h (inr place) stops after = stops-there a e front rest entries h place stops after

-- ---- what crosses

-- A malformed escape is the end.
other-end : (s : Status) (e : Encoding) (front : List ℕ) (n : ℕ) → s ≢ Done → end_bytes s e front n ≡ []
other-end Done e front n other = absurd (other refl)
other-end s e front n other = refl

pub front-other : {a : Asked} {e : Encoding} {front : List ℕ} (items : PackedItems) → HasItems a e front items → items.status ≢ Done → HasFront a e front items
front-other {a} {e} {front} items h other =
    let none = other-end (reading_status h.entries) e front (line_endings h.asked.has_groups.lines) (λ k. other (h.status ∙ k)) in
    let bytes = h.bytes ∙ sym (ap (λ v. packed_items h.entries ++ v) none ∙ append-nil _) in
    record { entries = h.entries; asked = h.asked; bytes = bytes; status = h.status; line = h.line }

-- Otherwise the record of the end comes last.
pub front-done : {a : Asked} {e : Encoding} {front : List ℕ} (items found : PackedItems) → HasItems a e front items → items.status ≡ Done
    → found.bytes.items ≡ items.bytes.items ++ packed (end_record e front (line_endings (lines_of (decoded_of e front)))) → found.status ≡ items.status
    → found.line ≡ items.line → HasFront a e front found
front-done {a} {e} {front} items found h done bytes status line =
    let lines : line_endings (lines_of (decoded_of e front)) ≡ line_endings h.asked.has_groups.lines = ap line_endings (sym (lines-are h.asked.has_groups)) in
    let ended : Done ≡ reading_status h.entries = sym done ∙ h.status in
    record {
      entries = h.entries;
      asked = h.asked;
      bytes = bytes ∙ ap₂ (λ v n. v ++ packed (end_record e front n)) h.bytes lines
          ∙ ap (λ s. packed_items h.entries ++ end_bytes s e front (line_endings h.asked.has_groups.lines)) ended;
      status = status ∙ h.status;
      line = line ∙ h.line;
    }

pub front-across : {a : Asked} {e : Encoding} {part front rest : List ℕ} (bytes : List ℕ) (found : PackedItems) (x : Crossing) → IsDivided e part front rest
    → HasFront a e front found → bytes ≡ found.bytes.items → Delivers bytes found.status found.line x → GivesFront a e front rest x
front-across {a} {e} {part} {front} {rest} bytes found x divided h is d = record {
  entries = h.entries;
  asked = h.asked;
  goes_on = part-goes-on a e front rest h.entries h.asked divided.place;
  stops = part-stops a e front rest h.entries h.asked divided.place;
  delivered = rw (is ∙ h.bytes, h.status, h.line) at d;
}
