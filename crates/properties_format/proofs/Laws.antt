-- The three laws.
use Rattle.std.proofs.Common.{◌≡◌, ℕ, ◌+◌, List, [], ◌∷◌, ◌++◌, refl, ap, sym, ◌∙◌, ap₂, subst}
use Rattle.std.specs.Prelude.{Some}
use Rattle.properties_format.specs.Text.{piece}
use Rattle.properties_format.specs.Encoding.{Encoding, byte_order_mark, ascii_bytes, IsPieces, IsDecoded}
use Rattle.properties_format.specs.Computed.Encoding.{pieces_of, decoded_of}
use Rattle.properties_format.specs.Lines.{InputEnd, end, Line, IsLines, numbered_lines, IsGroups, joined}
use Rattle.properties_format.specs.Computed.Lines.{lines_of, groups_of}
use Rattle.properties_format.specs.Split.{IsSplit}
use Rattle.properties_format.specs.Computed.Split.{split_of}
use Rattle.properties_format.specs.Escapes.{IsMeaning}
use Rattle.properties_format.specs.Computed.Escapes.{meaning_of}
use Rattle.properties_format.specs.Items.{pair, Entry, item, IsItems}
use Rattle.properties_format.specs.Computed.Items.{items_of}
use Rattle.properties_format.specs.Maps.{HasNoPair, IsLastValue, IsValue}
use Rattle.properties_format.specs.Settings.{Settings}
use Rattle.properties_format.specs.Writing.{Call, wrote, Pair, pairs_in, calls_of, items_after}
use Rattle.properties_format.specs.Laws.{HasOne, HasOneReading, ReadingInvertsWriting, EqualBytesOfEqualPairs, WritingAnewChangesNothing, HasPair, HasNoKey, AreDistinct, MapIsReadBack, SplittingCommutes, LineEndingsSeparatePieces}
use Rattle.properties_format.proofs.Encodings.Pieces.{pieces_of-meets, pieces_of-only, decoded_of-meets, decoded_of-only}
use Rattle.properties_format.proofs.Encodings.Cuts.{pieces_of-cut_ascii}
use Rattle.properties_format.proofs.Lines.Meets.{lines_of-meets}
use Rattle.properties_format.proofs.Lines.Only.{lines_of-only}
use Rattle.properties_format.proofs.Cut.Byline.{byline-is_lines, lines-is_byline, end-ascii}
use Rattle.properties_format.proofs.Groups.Meets.{groups_of-meets}
use Rattle.properties_format.proofs.Groups.Only.{groups_of-only}
use Rattle.properties_format.proofs.Split.Unique.{split_of-meets, split_of-only}
use Rattle.properties_format.proofs.Escapes.Unique.{meaning_of-meets, meaning_of-only}
use Rattle.properties_format.proofs.Items.Unique.{items_of-meets, items_of-only}
use Rattle.properties_format.proofs.Maps.{value_in-only, map-only, value_in}
use Rattle.properties_format.proofs.ReadBack.Law.{items_of-wrote, IsItems-wrote}
use Rattle.properties_format.proofs.ReadBack.Lists.{items_of-pairs, pairs_in-items, pairs-equal, pairs-settle}

-- ---- One reading.

-- A value that meets it is the only one, if every value that meets it is equal to it.
abbrev pub one : {A : Type 0} {Meets : A → Type 0} (value : A) → Meets value → ((other : A) → Meets other → other ≡ value) → HasOne Meets
one value meets only = record { value = value; meets = meets; only = only }

-- Bytes have exactly one list of pieces.
pub one-pieces : (e : Encoding) (d : List ℕ) → HasOne (IsPieces e d)
one-pieces e d = one (pieces_of e d) (pieces_of-meets e d) (pieces_of-only e d)

-- An input has exactly one text.
pub one-text : (e : Encoding) (bytes : List ℕ) → HasOne (IsDecoded e bytes)
one-text e bytes = one (decoded_of e bytes) (decoded_of-meets e bytes) (decoded_of-only e bytes)

-- A text has exactly one list of lines.
pub one-lines : (x : List ℕ) → HasOne (IsLines x)
one-lines x = one (lines_of x) (lines_of-meets x) (lines_of-only x)

-- Lines have exactly one division into groups.
pub one-groups : (lines : List Line) (ending : InputEnd) → HasOne (IsGroups lines ending)
one-groups lines ending = one (groups_of lines ending) (groups_of-meets lines ending) (groups_of-only lines ending)

-- A logical line is a blank line, a comment or a pair in exactly one way.
pub one-split : (line : List ℕ) → HasOne (IsSplit line)
one-split line = one (split_of line) (split_of-meets line) (split_of-only line)

-- A text means one text or is malformed in one way.
pub one-meaning : (text : List ℕ) → HasOne (IsMeaning text)
one-meaning text = one (meaning_of text) (meaning_of-meets text) (meaning_of-only text)

-- Each input has exactly one reading.
pub one-reading : (e : Encoding) (bytes : List ℕ) (ending : InputEnd) → HasOneReading e bytes ending
one-reading e bytes ending =
    let text = one-text e bytes in
    let lines = one-lines text.value in
    record {
      pieces = one-pieces (byte_order_mark e bytes).encoding (byte_order_mark e bytes).body;
      text = text;
      lines = lines;
      groups = one-groups (numbered_lines lines.value ending) ending;
      splits = λ group. one-split (joined group);
      meanings = one-meaning;
      items = one (items_of e bytes ending) (items_of-meets e bytes ending) (items_of-only e bytes ending);
    }

-- ---- Reading inverts writing.

-- What the calls wrote has exactly the items that the calls wrote.
pub reading-inverts_writing : (e : Encoding) (s : Settings) (calls : List Call) → ReadingInvertsWriting e s calls
reading-inverts_writing e s calls k entries =
    let w = wrote e s 0 calls in (
      (λ is. items_of-only e w end entries is ∙ items_of-wrote e s calls k.encoding k.settings k.prefixes k.scalars),
      (λ same. subst (IsItems e w end) (sym same) (IsItems-wrote e s calls k.encoding k.settings k.prefixes k.scalars)),
    )

-- Under one setting, two lists of accepted pairs write equal bytes exactly if the lists are equal.
pub equal-bytes : (e : Encoding) (s : Settings) (ps qs : List Pair) → EqualBytesOfEqualPairs e s ps qs
equal-bytes e s ps qs h k = (
  (λ same. pairs-equal e s h.encoding h.settings ps qs h.accepted h.scalars k.accepted k.scalars same),
  (λ same. ap (λ v. wrote e s 0 (calls_of v)) same),
)

-- Reading pairs that were written and writing them again changes no byte.
pub writing-anew : (e : Encoding) (s : Settings) (ps : List Pair) → WritingAnewChangesNothing e s ps
writing-anew e s ps h entries is = pairs-settle e s h.encoding h.settings ps entries h.accepted h.scalars is

-- ---- The map of what was written.

-- The pairs in two lists of entries.
pairs_in-append : (xs ys : List Entry) → pairs_in (xs ++ ys) ≡ pairs_in xs ++ pairs_in ys
pairs_in-append [] ys = refl
pairs_in-append (item n (pair key value) ∷ xs) ys = ap (λ v. (key, value) ∷ v) (pairs_in-append xs ys)
pairs_in-append (entry ∷ xs) ys = pairs_in-append xs ys

-- In the items of pairs without the key, no item is a pair with it.
pub no-pair : (n : ℕ) (key : List ℕ) (ps : List Pair) → HasNoKey key ps → HasNoPair key (items_after n ps)
no-pair n key [] h = tt
no-pair n key (p ∷ ps) h = (h.0, no-pair (n + 1) key ps h.1)

-- the number of lines after these pairs
abbrev lines_after : ℕ → List Pair → ℕ
lines_after n [] = n
lines_after n (p ∷ ps) = lines_after (n + 1) ps

-- The items of two lists of pairs, the second of which is numbered after the first.
items_after-append : (n : ℕ) (xs ys : List Pair) → items_after n (xs ++ ys) ≡ items_after n xs ++ items_after (lines_after n xs) ys
items_after-append n [] ys = refl
items_after-append n (x ∷ xs) ys = ap (λ v. item (n + 1) (pair x.0 x.1) ∷ v) (items_after-append (n + 1) xs ys)

-- If each pair has a key of its own, no pair after another has that pair's key.
distinct-later : (key value : List ℕ) (before after : List Pair) → AreDistinct (before ++ ((key, value) ∷ after)) → HasNoKey key after
distinct-later key value [] after h = h.0
distinct-later key value (p ∷ before) after h = distinct-later key value before after h.1

-- If each pair has a key of its own, each pair gives its key its value.
pub value-among : (n : ℕ) (key value : List ℕ) (before after : List Pair) → AreDistinct (before ++ ((key, value) ∷ after))
    → value_in (items_after n (before ++ ((key, value) ∷ after))) key ≡ Some value
value-among n key value before after h =
    let m = lines_after n before in
    sym (value_in-only (items_after n (before ++ ((key, value) ∷ after))) key (Some value) (record {
      before = items_after n before;
      number = m + 1;
      after = items_after (m + 1) after;
      division = items_after-append n before ((key, value) ∷ after);
      no_later = no-pair (m + 1) key after (distinct-later key value before after h);
    }))

-- No other value is that of a pair.
among-value : (n : ℕ) (key value : List ℕ) (ps : List Pair) → IsLastValue (items_after n ps) key value → HasPair ps key value
among-value n key value ps k = (
  pairs_in k.before,
  pairs_in k.after,
  sym (pairs_in-items n ps) ∙ ap pairs_in k.division ∙ pairs_in-append k.before (item k.number (pair key value) ∷ k.after),
)

-- If each written pair has a key of its own, the map that is read has exactly these pairs.
pub map-read_back : (e : Encoding) (s : Settings) (ps : List Pair) → MapIsReadBack e s ps
map-read_back e s ps h distinct entries is value_at m key value = (
  (λ same. among-value 0 key value ps (subst (λ v. IsLastValue v key value) read (subst (IsValue entries key) same (m key)))),
  (λ has. map-only entries value_at m key ∙ ap (λ v. value_in v key) (read ∙ ap (items_after 0) has.2)
      ∙ value-among 0 key value has.0 has.1 (subst AreDistinct has.2 distinct)),
)
  where
    read : entries ≡ items_after 0 ps
    read = items_of-only e (wrote e s 0 (calls_of ps)) end entries is ∙ items_of-pairs e s h.encoding h.settings ps h.accepted h.scalars

-- ---- Splitting commutes with decoding.

-- The lines of an input's bytes, each decoded by itself, are the lines of its text.
pub splitting-commutes : (e : Encoding) (bytes : List ℕ) → SplittingCommutes e bytes
splitting-commutes e bytes text lines d = ((λ k. byline-is_lines e bytes text lines k d), (λ k. lines-is_byline e bytes text lines k d))

-- A CR or an LF at a unit's boundary separates the pieces before it from those after it.
pub line_endings-part : (e : Encoding) (before : List ℕ) (c : ℕ) (after : List ℕ) → LineEndingsSeparatePieces e before c after
line_endings-part e before c after ends aligned ps qs h k =
    subst (IsPieces e (before ++ (ascii_bytes e c ++ after))) parted (pieces_of-meets e (before ++ (ascii_bytes e c ++ after)))
  where
    parted : pieces_of e (before ++ (ascii_bytes e c ++ after)) ≡ ps ++ (piece (ascii_bytes e c) c ∷ qs)
    parted =
        pieces_of-cut_ascii e c before after (end-ascii c ends) aligned
        ∙ ap₂ (λ v w. v ++ (piece (ascii_bytes e c) c ∷ w)) (sym (pieces_of-only e before ps h)) (sym (pieces_of-only e after qs k))
