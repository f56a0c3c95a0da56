-- How the line of a pair is built from the bytes of a logical line, in either encoding.
use Rattle.std.proofs.Common.{◌≡◌, ◌≤◌, ◌==◌, ◌-◌, ◌+◌, ℕ, List, [], ◌∷◌, ◌++◌, length, map, take, drop, refl, sym, ap, ap₂, ◌∙◌, subst, inl, inr, arith}
use Rattle.std.proofs.Common.{eqb-true}
use lib.Utf8.{encodes}
use Rattle.std.specs.Prelude.{Option, Some, None, All, Result, Ok, Err}
use Rattle.std.specs.Str.{IsUtf8, chars}
use Rattle.std.proofs.lemmas.Bool.{cases_Bool, eq-eqb}
use Rattle.std.proofs.lemmas.List.{length-append, length-take-le, length-drop, take-take, drop-take}
use Rattle.std.proofs.lemmas.List.Elements.{All-nil, All-cons, All-head, All-tail, All-take}
use Rattle.std.proofs.lemmas.Str.{IsUtf8-between, encodes-chars}
use Rattle.properties_format.specs.Text.{byte, scalar}
use Rattle.properties_format.specs.Encoding.{windows_1252}
use Rattle.properties_format.specs.Items.{pair, MeansPair, IsOutcome, given, broken}
use Rattle.properties_format.specs.Escapes.{Means, means, IsMeaning, Spelling, spelling_character, spellings_before}
use Rattle.properties_format.specs.Settings.{Settings}
use Rattle.properties_format.specs.Split as split
use Rattle.properties_format.specs.Split.{Logical, IsSplit}
use Rattle.properties_format.specs.Writing.{is_accepted, pair_call}
use Rattle.properties_format.specs.Computed.Escapes.{meaning_of}
use Rattle.properties_format.specs.Computed.Items.{outcome_of, split_outcome, comment_outcome, pair_outcome}
use Rattle.properties_format.specs.Computed.Split.{split_of}
use Rattle.properties_format.proofs.Encodings.Characters.{pieces_of-scalar}
use Rattle.properties_format.proofs.Escapes.Scalars.{means-scalars, rest-scalars}
use Rattle.properties_format.proofs.Escapes.Unique.{meaning_of-empty, meaning_of-meets}
use Rattle.properties_format.proofs.Items.Unique.{outcome_of-meets}
use Rattle.properties_format.proofs.Split.Unique.{split_of-only}
use Rattle.properties_format.proofs.Undecoded.{decodes, splits, in_text}
use Rattle.properties_text.specs.Escaping.{malformed_in, text_in, IsWell, Checks}
use Rattle.properties_text.specs.Parsing.{bytes_in, spanned, in_characters, IsSpan, AreSpans, IsCommentAt, IsPairAt, AreInPlace, AreFoundInText}
use Rattle.properties_text.proofs.SpeltTexts.Escapes.{no-text}
use Rattle.properties_text.specs.declared.encoding.line_encoding.LineEncoding.{LineEncoding}
use Rattle.properties_text.specs.declared.encoding.line_encoding.LineEncoding.TheVariants.{Windows1252, Utf8}
use Rattle.properties_text.specs.declared.escape.Malformed.{Malformed}
use Rattle.properties_text.specs.declared.escape.UnescapeError.{UnescapeError}
use Rattle.properties_text.specs.declared.escape.UnescapeError.TheVariants as error
use Rattle.properties_text.specs.declared.parse.ParsedSpans.{ParsedSpans}
use Rattle.properties_text.specs.declared.parse.ParsedSpans.TheVariants as spans
use Rattle.properties_text.specs.declared.parse.Span.{Span}
use Rattle.properties_text.specs.PrintedTexts.{key_meaning, value_meaning}
use Rattle.properties_text.specs.declared.print.Pair.{Pair}
use Rattle.properties_items.specs.Errors.{IsUnresolvedError}
use Rattle.properties_items.specs.BorrowedItems.{IsNoItem}
use Rattle.properties_items.specs.declared.error.ErrorKind.{ErrorKind}
use Rattle.properties_items.specs.declared.error.PropertiesError.{PropertiesError}
use Rattle.properties_items.proofs.FoundItems.{blank-item}
use Rattle.properties_items.proofs.Scalars.{chars-scalars}
use Rattle.java_properties.specs.Copying.{HasScalars}
use Rattle.java_properties.specs.Private.LineByLine.{HasBuilt, IsNoPair, BuildsLine}
use Rattle.java_properties.specs.Private.Engine.{engine_line_bytes, takes_span, BuildsPair, NumbersLine}
use Rattle.java_properties.specs.declared.writer.engine.Engine.{Engine}

-- ---- the parts of a line

-- what a line is, with its parts as texts
abbrev pub texts_in : LineEncoding → Logical → Logical
texts_in e split.blank = split.blank
texts_in e (split.comment text) = split.comment (text_in e text)
texts_in e (split.pair key value) = split.pair (text_in e key) (text_in e value)

in-windows : (what : Logical) → in_text what ≡ texts_in Windows1252 what
in-windows split.blank = refl
in-windows (split.comment text) = refl
in-windows (split.pair key value) = refl

in-utf8 : (what : Logical) → in_characters what ≡ texts_in Utf8 what
in-utf8 split.blank = refl
in-utf8 (split.comment text) = refl
in-utf8 (split.pair key value) = refl

-- the text of a line is split where its bytes are
pub split-in : (e : LineEncoding) (line : List ℕ) (parts : Option ParsedSpans) → IsWell e line → IsSplit line (spanned line parts)
    → (IsUtf8 line → AreFoundInText line parts)
    → split_of (text_in e line) ≡ texts_in e (spanned line parts)
split-in Windows1252 line parts w h t =
    splits line ∙ ap in_text (sym (split_of-only line (spanned line parts) h)) ∙ in-windows (spanned line parts)
split-in Utf8 line parts w h t = sym (split_of-only (chars line) (in_characters (spanned line parts)) (t w).meets) ∙ in-utf8 (spanned line parts)

-- a part is well-formed
pub well-in : (e : LineEncoding) (line : List ℕ) (span : Span) → IsWell e line → (IsUtf8 line → IsSpan line span) → IsWell e (bytes_in line span)
well-in Windows1252 line span w s = tt
well-in Utf8 line span w s = let k = s w in IsUtf8-between line span.start span.end w k.ordered k.starts_whole k.ends_whole

-- The part lies within a line of this length.
pub record IsWithin (n : ℕ) (span : Span) : Type 0 where
  pub ordered : span.start ≤ span.end
  pub within : span.end ≤ n

pub comment-within : (line : List ℕ) (text : Span) → IsCommentAt line text → IsWithin (length line) text
comment-within line text h =
    let d = h.division in
    let whole = simp length-append at (ap length d.whole) in
    let rest = simp length-append at (ap length d.trimmed.whole) in
    record { ordered = omega (arith, h.end); within = omega (arith, h.start, h.end, whole, rest) }

-- the parts of a pair lie within its line
pub pair-within : (line : List ℕ) (key value : Span) → IsPairAt line key value → IsWithin (length line) key × IsWithin (length line) value
pair-within line key value h =
    let d = h.division in
    let whole = simp length-append at (ap length d.whole) in (
      record { ordered = omega (arith, h.key_end); within = omega (arith, h.key_start, h.key_end, whole) },
      record { ordered = omega (arith, h.key_start, h.key_end, h.value_start, h.value_end, whole); within = omega (arith, h.value_end) },
    )

-- a part of a line at the front of bytes
pub front-part : (bytes line : List ℕ) (n : ℕ) (span : Span) → take n bytes ≡ line → IsWithin n span → bytes_in bytes span ≡ bytes_in line span
front-part bytes line n span front h =
    let more : span.start + (n - span.start) ≡ n = omega (arith, h.ordered, h.within) in
    let fits : span.end - span.start ≤ n - span.start = omega (arith, h.ordered, h.within) in
    let cut = drop-take span.start (n - span.start) bytes in
    sym (
    ap (λ v. take (span.end - span.start) (drop span.start v)) (sym front)
    ∙ ap (λ k. take (span.end - span.start) (drop span.start (take k bytes))) (sym more)
    ∙ ap (take (span.end - span.start)) cut
    ∙ take-take (span.end - span.start) (n - span.start) (drop span.start bytes) fits)

-- ---- scalar values

all-left : (x y : List ℕ) → All scalar (x ++ y) → All scalar x
all-left [] y h = All-nil scalar
all-left (c ∷ x) y h = All-cons scalar c x (All-head scalar c (x ++ y) h) (all-left x y (All-tail scalar c (x ++ y) h))

-- the text of a line is of scalar values
pub text-scalars : (e : LineEncoding) (line : List ℕ) → IsWell e line → All byte line → All scalar (text_in e line)
text-scalars Windows1252 line w h = subst (All scalar) (decodes line) (pieces_of-scalar windows_1252 line h)
text-scalars Utf8 line w h = chars-scalars line w

-- the texts of a pair in a text of scalar values
pub pair-scalars : (text key value : List ℕ) → All scalar text → outcome_of text ≡ given (pair key value) → HasScalars (pair key value)
pair-scalars text key value all o =
    let m : MeansPair text key value = subst (IsOutcome text) o (outcome_of-meets text) in
    let s = m.split in
    let keyed = rest-scalars s.indent (m.raw_key ++ (s.between ++ m.raw_value)) (subst (All scalar) s.whole all) in
    let between = rest-scalars m.raw_key (s.between ++ m.raw_value) keyed in (
      means-scalars m.raw_key key m.key_means (all-left m.raw_key (s.between ++ m.raw_value) keyed),
      means-scalars m.raw_value value m.value_means (rest-scalars s.between m.raw_value between),
    )

-- ---- an empty key

-- only an empty text means an empty text
means-none : (text : List ℕ) → Means text [] → text ≡ []
means-none text m = m.whole ∙ by-spellings m.spellings m.characters
  where
    by-spellings : (ps : List Spelling) → [] ≡ map spelling_character ps → spellings_before ps [] ≡ []
    by-spellings [] e = refl
    by-spellings (p ∷ ps) e = absurd (cc)

-- only no bytes are an empty text
no-bytes : (e : LineEncoding) (bs : List ℕ) → IsWell e bs → text_in e bs ≡ [] → length bs ≡ 0
no-bytes Windows1252 [] w h = refl
no-bytes Windows1252 (b ∷ bs) w h = absurd (cc)
no-bytes Utf8 [] w h = refl
no-bytes Utf8 (b ∷ bs) w h = absurd (let e = sym (encodes-chars (b ∷ bs) w) ∙ ap encodes h in cc)

-- an empty text means only an empty text
none-means : (text : List ℕ) (c : ℕ) (key : List ℕ) → text ≡ [] → meaning_of text ≡ means (c ∷ key) → ⊥
none-means text c key e m = let k : means (c ∷ key) ≡ means [] = sym m ∙ ap meaning_of e ∙ meaning_of-empty in absurd (cc)

-- a pair is accepted if its span is taken
pub span-accepts : (s : Settings) (e : LineEncoding) (line : List ℕ) (span : Span) (key value : List ℕ) → IsWithin (length line) span
    → IsWell e (bytes_in line span)
    → meaning_of (text_in e (bytes_in line span)) ≡ means key → takes_span s span ≡ is_accepted s (pair_call key value)
span-accepts s e line span [] value h w m =
    let raw = bytes_in line span in
    let none = means-none (text_in e raw) (subst (IsMeaning (text_in e raw)) m (meaning_of-meets (text_in e raw))) in
    let size = no-bytes e raw w none in
    let left = length-drop span.start line in
    let all = length-take-le (span.end - span.start) (drop span.start line) (omega (arith, left, h.ordered, h.within)) in
    let empty : span.start ≡ span.end = omega (arith, all, size, h.ordered) in
    rw (eq-eqb span.start span.end empty) refl
span-accepts s e line span (c ∷ key) value h w m = elim (cases_Bool (span.start == span.end)) [
  | inl k ↦
      let same = eqb-true span.start span.end k in
      let none : span.end - span.start ≡ 0 = omega (arith, same) in
      let size : length (bytes_in line span) ≡ 0 = ap (λ n. length (take n (drop span.start line))) none in
      absurd (none-means (text_in e (bytes_in line span)) c key (no-text e (bytes_in line span) size) m)
  | inr k ↦ rw k refl
]

-- ---- what is built

-- an empty line is blank
pub empty-is : (e : LineEncoding) (line : List ℕ) → length line ≡ 0 → IsNoPair (text_in e line)
empty-is e line h = inl (ap outcome_of (no-text e line h) ∙ blank-item [] tt)

-- The parts were found in a line at the front of bytes.
pub record AreFound (e : LineEncoding) (line bytes : List ℕ) (parts : Option ParsedSpans) : Type 0 where
  pub well : IsWell e line
  pub front : take (length line) bytes ≡ line
  pub split : split_of (text_in e line) ≡ texts_in e (spanned line parts)
  pub places : AreInPlace line parts
  pub spans : IsUtf8 line → AreSpans line parts

pub found-in : (e : LineEncoding) (line bytes : List ℕ) (n : ℕ) (parts : Option ParsedSpans) → IsWell e line → take (length line) bytes ≡ line → n ≡ length line
    → IsSplit (take n bytes) (spanned (take n bytes) parts) → AreInPlace (take n bytes) parts → (IsUtf8 (take n bytes) → AreFoundInText (take n bytes) parts)
    → AreFound e line bytes parts
found-in e line bytes n parts w front same h places t =
    let is = ap (λ n. take n bytes) same ∙ front in
    let text = rw is at t in
    record {
      well = w;
      front = front;
      split = split-in e line parts w (rw is at h) text;
      places = rw is at places;
      spans = λ u. (text u).spans;
    }

-- no line is there
pub blank-is : (e : LineEncoding) (line bytes : List ℕ) → AreFound e line bytes None → IsNoPair (text_in e line)
blank-is e line bytes f = inl (ap split_outcome f.split)

module _ (e : LineEncoding) (line bytes : List ℕ) (text : Span) (f : AreFound e line bytes (Some (spans.Comment text))) where
  same-comment : bytes_in bytes text ≡ bytes_in line text
  same-comment = front-part bytes line (length line) text f.front (comment-within line text f.places)

  pub comment-well : IsWell e (bytes_in bytes text)
  comment-well = subst (IsWell e) (sym same-comment) (well-in e line text f.well f.spans)

  pub comment-read : Checks e (bytes_in bytes text) (Ok tt) → IsNoPair (text_in e line)
  comment-read c =
      let k = subst (λ v. Checks e v (Ok tt)) same-comment c in
      inr (k.0, ap split_outcome f.split ∙ ap comment_outcome k.1)

  pub comment-unread : (kind : Malformed) → Checks e (bytes_in bytes text) (Err kind) → outcome_of (text_in e line) ≡ broken (malformed_in kind)
  comment-unread kind c = ap split_outcome f.split ∙ ap comment_outcome (subst (λ v. Checks e v (Err kind)) same-comment c)

module _ (e : LineEncoding) (line bytes : List ℕ) (key value : Span) (f : AreFound e line bytes (Some (spans.KVPair key value))) where
  same-key : bytes_in bytes key ≡ bytes_in line key
  same-key = front-part bytes line (length line) key f.front (pair-within line key value f.places).0

  same-value : bytes_in bytes value ≡ bytes_in line value
  same-value = front-part bytes line (length line) value f.front (pair-within line key value f.places).1

  pub key-well : IsWell e (bytes_in bytes key)
  key-well = subst (IsWell e) (sym same-key) (well-in e line key f.well (λ u. (f.spans u).0))

  pub value-well : IsWell e (bytes_in bytes value)
  value-well = subst (IsWell e) (sym same-value) (well-in e line value f.well (λ u. (f.spans u).1))

  module _ (old w : Engine) (p : Pair) (k : key_meaning p ≡ meaning_of (text_in e (bytes_in bytes key)))
      (v : value_meaning p ≡ meaning_of (text_in e (bytes_in bytes value))) where
    key-means : meaning_of (text_in e (bytes_in line key)) ≡ key_meaning p
    key-means = sym (k ∙ ap (λ x. meaning_of (text_in e x)) same-key)

    value-means : meaning_of (text_in e (bytes_in line value)) ≡ value_meaning p
    value-means = sym (v ∙ ap (λ x. meaning_of (text_in e x)) same-value)

    -- the line of a pair was built
    pub pair-built : (number : Result ℕ ErrorKind) → All byte bytes → BuildsPair old p (Ok tt) w.line → w ≡ record old { line = w.line }
        → NumbersLine w (takes_span w.settings key) number → HasBuilt (text_in e line) number w
    pair-built number all b same numbers =
        let text = text_in e line in
        let o = ap split_outcome f.split ∙ ap₂ pair_outcome (key-means ∙ b.2) (value-means ∙ b.3) in
        let scalars = text-scalars e line f.well (subst (All byte) f.front (All-take byte (length line) bytes all)) in
        let well = well-in e line key f.well (λ u. (f.spans u).0) in
        let accepts = span-accepts w.settings e line key b.0 b.1 (pair-within line key value f.places).0 well (key-means ∙ b.2) in
        record {
          key = b.0;
          value = b.1;
          outcome = o;
          scalars = pair-scalars text b.0 b.1 scalars o;
          numbers = subst (λ a. NumbersLine w a number) accepts numbers;
          built = b.4 ∙ sym (ap (λ (x : Engine). engine_line_bytes x (pair b.0 b.1)) same);
        }

    -- or the pair is malformed, or memory ran out
    pub pair-unbuilt : (error : UnescapeError) → BuildsPair old p (Err error) w.line → BuildsLine (text_in e line) (Err error) w
    pair-unbuilt (error.Malformed kind) (inl b) =
        ap split_outcome f.split ∙ ap (λ v. pair_outcome v (meaning_of (text_in e (bytes_in line value)))) (key-means ∙ b)
    pair-unbuilt (error.Malformed kind) (inr (meant, m, b)) = ap split_outcome f.split ∙ ap₂ pair_outcome (key-means ∙ m) (value-means ∙ b)
    pair-unbuilt error.Memory b = tt

-- why nothing was built says why a line has no item
pub unbuilt-no_item : (text : List ℕ) (number : ℕ) (why : UnescapeError) (w : Engine) (e : PropertiesError) → BuildsLine text (Err why) w
    → IsUnresolvedError why number e
    → IsNoItem number text e
unbuilt-no_item text number (error.Malformed kind) w e b says = inl (malformed_in kind, b, says)
unbuilt-no_item text number error.Memory w e b says = inr says
