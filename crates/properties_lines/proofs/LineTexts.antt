-- Lines of windows-1252 or well-formed UTF-8 are joined alike in bytes and in text.
use Rattle.std.proofs.Common.{◌≡◌, ℕ, Bool, true, false, List, ◌++◌, refl, sym, ap, ap₂, ◌∙◌, subst}
use Rattle.std.specs.Prelude.{◌%◌, ◌==◌, if◌then◌else◌, Result, Ok, Err}
use Rattle.std.specs.Str.{chars, IsAscii, IsUtf8}
use Rattle.std.specs.declared.alloc.AllocError.{AllocError}
use denote.Enum.Bare.{sameb}
use Rattle.properties_text.specs.contracts.encoding.line_encoding.LineEncoding.{the_type}
use Rattle.std.proofs.lemmas.List.{map-append}
use Rattle.std.proofs.lemmas.Str.{chars-append, IsUtf8-append, IsUtf8-from_ascii}
use Rattle.properties_format.specs.Encoding.{Encoding, windows_1252, utf_8, utf_16le, utf_16be, output_encoding}
use Rattle.properties_format.specs.Text.{without_leading_blanks}
use Rattle.properties_format.specs.Lines.{is_open, is_comment_line, without_open_backslash, addition}
use Rattle.properties_format.specs.Windows1252.{windows_1252_character}
use Rattle.properties_format.specs.Computed.Cut.{decoded_line}
use Rattle.properties_format.proofs.Encodings.WellFormed.{IsUtf8-from_well_formed}
use Rattle.properties_format.proofs.Undecoded.{decodes, comments, opens, closed, adds as added}
use Rattle.properties_text.specs.Encoding.{line_of}
use Rattle.properties_text.specs.Escaping.{text_in, IsWell}
use Rattle.properties_text.specs.declared.encoding.line_encoding.LineEncoding.{LineEncoding}
use Rattle.properties_text.specs.declared.encoding.line_encoding.LineEncoding.TheVariants.{Windows1252, Utf8}
use Rattle.properties_text.proofs.TextFronts.{text-decoded}
use Rattle.properties_text.proofs.Texts.Backslashes.{ending_backslashes-text}
use Rattle.properties_text.proofs.Texts.Joins.{is_comment_line-text, without_open_backslash-part}
use Rattle.properties_text.proofs.Texts.Split.{without_leading_blanks-part}
use Rattle.properties_lines.specs.LogicalLine.{placed_bytes, IsTextOf, IsLineIn, AddsText, BeginsText, BeginsLine, AddsLine, is_continued, IsNotContinued, IsUnfinishedLine, OpensJoin}
use Rattle.properties_lines.specs.declared.logical.LogicalLine.{LogicalLine}
use Rattle.properties_lines.specs.declared.logical.Place.{Place}
use Rattle.properties_lines.specs.declared.logical.Place.TheVariants.{Joined}
use Rattle.properties_lines.proofs.OpenLines.{continued-both, stands-alone}

-- ---- bytes and their text

-- These bytes are well-formed and have this text.
pub record IsBytesOf (e : LineEncoding) (bytes text : List ℕ) : Type 0 where
  pub well : IsWell e bytes
  pub is : text_in e bytes ≡ text

-- Bytes that need no decoding are their text in the encoding of the line.
pub line-in : (e : Encoding) (to : LineEncoding) (bytes : List ℕ) → line_of to ≡ output_encoding e → IsLineIn e bytes
    → IsBytesOf to bytes (decoded_line e bytes)
line-in windows_1252 Windows1252 bytes same h = record { well = tt; is = sym (decodes bytes) }
line-in windows_1252 Utf8 bytes same h = absurd (cc)
line-in utf_8 Windows1252 bytes same h = absurd (cc)
line-in utf_8 Utf8 bytes same h = record { well = IsUtf8-from_well_formed bytes h; is = text-decoded utf_8 bytes h }
line-in utf_16le to bytes same h = absurd h
line-in utf_16be to bytes same h = absurd h

-- Others are decoded to UTF-8.
pub other-in : (e : Encoding) (to : LineEncoding) (bytes : List ℕ) → line_of to ≡ output_encoding e → (IsLineIn e bytes → ⊥) → to ≡ Utf8
other-in windows_1252 to bytes same h = absurd (h tt)
other-in utf_8 Windows1252 bytes same h = absurd (cc)
other-in utf_8 Utf8 bytes same h = refl
other-in utf_16le Windows1252 bytes same h = absurd (cc)
other-in utf_16le Utf8 bytes same h = refl
other-in utf_16be Windows1252 bytes same h = absurd (cc)
other-in utf_16be Utf8 bytes same h = refl

-- A text in UTF-8 is a line of UTF-8.
pub decoded-in : (to : LineEncoding) (bytes text : List ℕ) → to ≡ Utf8 → IsUtf8 bytes → chars bytes ≡ text → IsBytesOf to bytes text
decoded-in Windows1252 bytes text same u h = absurd (cc)
decoded-in Utf8 bytes text same u h = record { well = u; is = h }

-- ---- joining

-- What decides how a line is joined, and its parts.
pub record JoinsAlike (e : LineEncoding) (d : List ℕ) : Type 0 where
  pub comment : is_comment_line (text_in e d) ≡ is_comment_line d
  pub opens : is_open (text_in e d) ≡ is_open d
  pub closed : text_in e (without_open_backslash d) ≡ without_open_backslash (text_in e d)
  pub closed_well : IsWell e (without_open_backslash d)
  pub adds : text_in e (addition d) ≡ addition (text_in e d)
  pub adds_well : IsWell e (addition d)

-- They are the same in bytes and in text.
pub joins-alike : (e : LineEncoding) (d : List ℕ) → IsWell e d → JoinsAlike e d
joins-alike Windows1252 d w =
    record { comment = comments d; opens = opens d; closed = sym (closed d); closed_well = tt; adds = sym (added d); adds_well = tt }
joins-alike Utf8 d w =
    let part = without_open_backslash-part d w in
    let rest = without_leading_blanks-part d w in
    let added = without_open_backslash-part (without_leading_blanks d) rest.utf8 in
    record {
      comment = is_comment_line-text d w;
      opens = ap (λ n. n % 2 == 1) (ending_backslashes-text d w);
      closed = part.same;
      closed_well = part.utf8;
      adds = added.same ∙ ap without_open_backslash rest.same;
      adds_well = added.utf8;
    }

-- Bytes after bytes are text after text.
text-append : (e : LineEncoding) (a b : List ℕ) → IsWell e a → text_in e (a ++ b) ≡ text_in e a ++ text_in e b
text-append Windows1252 a b w = map-append windows_1252_character a b
text-append Utf8 a b w = chars-append a b w

-- They are well-formed.
well-append : (e : LineEncoding) (a b : List ℕ) → IsWell e a → IsWell e b → IsWell e (a ++ b)
well-append Windows1252 a b v w = tt
well-append Utf8 a b v w = IsUtf8-append a b v w

module _ (e : LineEncoding) (bytes text : List ℕ) (b : IsBytesOf e bytes text) where
  -- A line is continued by its bytes as by its text.
  continued-alike : is_continued text ≡ is_continued bytes
  continued-alike =
      let a = joins-alike e bytes b.well in
      let same : is_continued (text_in e bytes) ≡ is_continued bytes = rw (a.comment, a.opens) refl in
      ap is_continued (sym b.is) ∙ same

  -- No line is joined to this one.
  pub alone-text : is_continued bytes ≡ false → IsNotContinued text
  alone-text h = stands-alone text (continued-alike ∙ h)

  -- The line is continued.
  pub opened-text : (asked : Encoding) (line : LogicalLine) → is_continued bytes ≡ true → line.place ≡ Joined → line.encoding ≡ e
      → line_of e ≡ output_encoding asked
      → line.joined ≡ without_open_backslash bytes → OpensJoin asked text line
  opened-text asked line h place same is cut =
      let both = continued-both text (continued-alike ∙ h) in
      let a = joins-alike e bytes b.well in
      record {
        other = both.0;
        opens = both.1;
        unfinished = record {
          place = place;
          encoding = ap line_of same ∙ is;
          well = rw (same, cut) a.closed_well;
        };
        closed = ap₂ text_in same cut ∙ a.closed ∙ ap without_open_backslash b.is;
      }

  -- It was joined to other bytes.
  pub added-text : (old new : List ℕ) (left_open : Bool) → IsWell e old → AddsText {E = AllocError} bytes old (Ok left_open) new
      → (left_open ≡ is_open text) × (text_in e new ≡ text_in e old ++ addition text) × IsWell e new
  added-text old new left_open w h =
      let a = joins-alike e bytes b.well in (
        h.0 ∙ sym (ap is_open (sym b.is) ∙ a.opens),
        ap (text_in e) h.1 ∙ text-append e old (addition bytes) w ∙ ap (λ v. text_in e old ++ v) (a.adds ∙ ap addition b.is),
        subst (IsWell e) (sym h.1) (well-append e old (addition bytes) w a.adds_well),
      )

-- ---- a natural line

-- The line begins a join, or its bytes are in this place.
pub begun : (asked : Encoding) (natural bytes : List ℕ) (line : LogicalLine) (is_joined : Bool) (place : Place)
    → IsBytesOf line.encoding bytes (decoded_line asked natural) → line_of line.encoding ≡ output_encoding asked
    → placed_bytes place natural line.decoded line.joined ≡ bytes → BeginsText {E = AllocError} bytes (Ok is_joined) line.joined
    → BeginsLine {E = AllocError} asked natural (Ok is_joined) (record line { place = if is_joined then Joined else place })
begun asked natural bytes line true place b same is h =
    opened-text line.encoding bytes (decoded_line asked natural) b asked (record line { place = Joined }) h.0 refl refl same h.1
begun asked natural bytes line false place b same is h = (
  alone-text line.encoding bytes (decoded_line asked natural) b h,
  record { well = subst (IsWell line.encoding) (sym is) b.well; is = ap (text_in line.encoding) is ∙ b.is },
)

-- A line was joined.
pub adds : (asked : Encoding) (natural bytes : List ℕ) (old : LogicalLine) (decoded new : List ℕ) (result : Result Bool AllocError)
    → IsBytesOf old.encoding bytes (decoded_line asked natural) → IsUnfinishedLine asked old → AddsText bytes old.joined result new
    → AddsLine asked natural old result (record old { decoded = decoded; joined = new })
adds asked natural bytes old decoded new (Ok left_open) b u h =
    let added = added-text old.encoding bytes (decoded_line asked natural) b old.joined new left_open u.well h in
    (added.0, added.1, record { place = u.place; encoding = u.encoding; well = added.2 })
adds asked natural bytes old decoded new (Err e) b u h = tt

-- ---- text in UTF-8

-- ASCII bytes are their own text.
pub ascii-text : (e : LineEncoding) (bytes : List ℕ) → IsAscii bytes → IsTextOf (text_in e bytes) bytes
ascii-text Windows1252 bytes h = record { utf8 = IsUtf8-from_ascii bytes h; characters = text-decoded windows_1252 bytes h ∙ decodes bytes }
ascii-text Utf8 bytes h = record { utf8 = IsUtf8-from_ascii bytes h; characters = refl }

-- Bytes of windows-1252 were decoded.
pub decoded-text : (e : LineEncoding) (bytes new : List ℕ) → e ≡ Windows1252 → IsUtf8 new → chars new ≡ decoded_line windows_1252 bytes
    → IsTextOf (text_in e bytes) new
decoded-text Windows1252 bytes new same u h = record { utf8 = u; characters = h ∙ decodes bytes }
decoded-text Utf8 bytes new same u h = absurd (cc)

-- A line that isn't in UTF-8 is in windows-1252.
pub not-utf_8 : (e : LineEncoding) → false ≡ sameb the_type e Utf8 → e ≡ Windows1252
not-utf_8 Windows1252 h = refl
not-utf_8 Utf8 h = absurd (cc)
