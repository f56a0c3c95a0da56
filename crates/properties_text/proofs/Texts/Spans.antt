-- The positions of a line's parts, from what the scans of its bytes found.
use Rattle.std.proofs.Common.{◌≡◌, ℕ, ◌<◌, ◌≤◌, ◌+◌, ◌-◌, true, false, List, [], ◌∷◌, ◌++◌, length, take, drop, get_or, refl, ap, sym, ◌∙◌, subst, inl, inr, arith}
use Rattle.std.specs.Prelude.{Option, Some, None}
use Rattle.std.specs.Str.{IsUtf8, IsCharBoundary}
use Rattle.std.proofs.Math.Seq.{drop-append-add}
use Rattle.std.proofs.lemmas.Bool.{cases_lt, both_ways}
use Rattle.std.proofs.lemmas.List.{drop_more, drop-drop, take_rest, length-drop, length-take, length-append}
use Rattle.std.proofs.lemmas.Str.{IsUtf8-drop, IsCharBoundary-after_ascii, IsCharBoundary-from_drop, IsCharBoundary-from_take, IsCharBoundary-from_rest}
use Rattle.properties_format.specs.Text.{is_blank, is_comment_sign, without_leading_blanks, begins}
use Rattle.properties_format.specs.Split.{pair, AreBlanks, IsComment, IsPair, IsSplit}
use Rattle.properties_format.specs.Computed.Split.{trimmed, split_full, split_of}
use Rattle.properties_format.proofs.Split.Blanks.{without_leading_blanks-only, core-begins}
use Rattle.properties_format.proofs.Split.Unique.{split_of-meets, sign-full}
use Rattle.properties_text.specs.Parsing.{bytes_in, spanned, IsSpan, AreSpans, IsCommentAt, IsPairAt, AreInPlace, AreFoundInText}
use Rattle.properties_text.specs.declared.parse.ParsedSpans.{ParsedSpans}
use Rattle.properties_text.specs.declared.parse.ParsedSpans.TheVariants.{Comment, KVPair}
use Rattle.properties_text.specs.declared.parse.Span.{Span}
use Rattle.properties_text.proofs.Texts.Characters.{wide-no_comment_sign}
use Rattle.properties_text.proofs.Texts.Split.{split-characters, without_leading_blanks-part, trimmed-part, rest_of, key_of, key_of-part, rest_of-part, value_of, value_of-part}

-- The spans are those of the line.
pub record AreFound (line : List ℕ) (found : Option ParsedSpans) : Type 0 where
  pub slices : IsSplit line (spanned line found)
  pub places : AreInPlace line found
  pub text : IsUtf8 line → AreFoundInText line found

found : (line : List ℕ) (is : Option ParsedSpans) → split_of line ≡ spanned line is → (IsUtf8 line → AreSpans line is)
    → (IsSplit line (spanned line is) → AreInPlace line is) → AreFound line is
found line is e s place =
    let slices = subst (IsSplit line) e (split_of-meets line) in
    record { slices = slices; places = place slices; text = λ u. record { meets = split-characters line (spanned line is) u e; spans = s u } }

-- ---- places

span_length : (line : List ℕ) (span : Span) → span.end ≤ length line → length (bytes_in line span) ≡ span.end - span.start
span_length line span w = omega (arith, length-take (span.end - span.start) (drop span.start line), length-drop span.start line, w)

-- The index at which the text of a line without its indentation begins.
indent-length : (line indent rest : List ℕ) (start : ℕ) → start ≤ length line → drop start line ≡ without_leading_blanks line → line ≡ indent ++ rest
    → AreBlanks indent → begins is_blank rest ≡ false → start ≡ length indent
indent-length line indent rest start l e whole blank full =
    let past : drop start line ≡ rest = e ∙ ap without_leading_blanks whole ∙ without_leading_blanks-only indent rest blank full in
    omega (arith, l, ap length whole, length-append indent rest, length-drop start line, ap length past)

pair-places : (line : List ℕ) (key value : Span) → key.start ≤ key.end → key.end ≤ length line → value.start ≤ length line → value.end ≡ length line
    → drop key.start line ≡ without_leading_blanks line → IsPair line (bytes_in line key) (bytes_in line value) → IsPairAt line key value
pair-places line key value ordered fits fits_value end e d =
    let at = indent-length line d.indent _ key.start (omega arith) e d.whole d.indent_blank d.begins_full in
    let key_long = span_length line key fits in
    let value_long = span_length line value (omega arith) in
    record {
      division = d;
      key_start = at;
      key_end = omega (arith, key_long);
      value_start = omega (arith, length-append {A = ℕ}, at, ap length d.whole, key_long, value_long, end);
      value_end = end;
    }

comment-places : (line : List ℕ) (start : ℕ) (span : Span) → start < length line → drop start line ≡ without_leading_blanks line
    → span.start ≤ span.end → span.end ≤ length line → drop span.start line ≡ without_leading_blanks (drop (start + 1) line)
    → IsComment line (bytes_in line span) → IsCommentAt line span
comment-places line start span l e o w s d =
    let core = bytes_in line span in
    let at = indent-length line d.indent (d.sign ∷ d.rest) start (omega (arith, l)) e d.whole d.indent_blank (sign-full d.sign d.is_sign) in
    let cut : drop (start + 1) line ≡ d.rest =
    ap (drop (start + 1)) d.whole ∙ ap (λ i. drop (i + 1) (d.indent ++ (d.sign ∷ d.rest))) at ∙ drop-append-add d.indent (d.sign ∷ d.rest) 1 in
    let past : drop span.start line ≡ core ++ d.trimmed.after =
    s ∙ ap without_leading_blanks (cut ∙ d.trimmed.whole)
    ∙ without_leading_blanks-only d.trimmed.before (core ++ d.trimmed.after) d.trimmed.before_blank
    (core-begins core d.trimmed.after d.trimmed.begins_full d.trimmed.empty_last) in
    let long = span_length line span w in
    let left = ap length past in
    record {
      division = d;
      start = omega (arith, length-append {A = ℕ}, ap length d.whole, ap length d.trimmed.whole, length-drop span.start line, left, o, w);
      end = omega (arith, long, o);
    }

-- A blank line.
pub found-blank : (line : List ℕ) → without_leading_blanks line ≡ [] → AreFound line None
unfolding split_of
found-blank line e = found line None (ap split_full e) (λ u. tt) (λ d. tt)

comment_sign-ascii : (c : ℕ) → is_comment_sign c ≡ true → c < 128
comment_sign-ascii c m = elim (cases_lt c 128) [ inl h ↦ h | inr h ↦ absurd (both_ways (is_comment_sign c) (wide-no_comment_sign c h) m) ]

-- If the bytes from an index on are a text, and so are those that are taken from them, both ends are between
-- characters.
whole_span : (line : List ℕ) (span : Span) → IsUtf8 line → span.start ≤ span.end → span.end ≤ length line
    → IsUtf8 (drop span.start line) → IsUtf8 (bytes_in line span) → IsSpan line span
whole_span line span u o w after part =
    let fits : span.end - span.start ≤ length (drop span.start line) = omega (arith, length-drop span.start line) in
    let inside : IsCharBoundary line (span.start + (span.end - span.start)) =
    IsCharBoundary-from_rest line span.start (span.end - span.start) (omega arith)
    (IsCharBoundary-from_take (drop span.start line) (span.end - span.start) after fits part) in
    let there : span.start + (span.end - span.start) ≡ span.end = omega arith in
    record {
      ordered = o;
      within = w;
      starts_whole = IsCharBoundary-from_drop line span.start (omega arith) after;
      ends_whole = subst (IsCharBoundary line) there inside;
    }

-- A comment.
pub found-comment : (line : List ℕ) (start : ℕ) (span : Span) → start < length line
    → drop start line ≡ without_leading_blanks line → is_comment_sign (get_or line start 0) ≡ true → span.start ≤ span.end → span.end ≤ length line
    → drop span.start line ≡ without_leading_blanks (drop (start + 1) line) → bytes_in line span ≡ trimmed (drop (start + 1) line)
    → AreFound line (Some (Comment span))
unfolding split_of
found-comment line start span l e m o w s t =
    found line (Some (Comment span))
    (rw (← e, drop_more line start 0 l, m, t) refl)
    (λ u.
    let after = IsUtf8-drop line (start + 1) u (IsCharBoundary-after_ascii line start u l (comment_sign-ascii (get_or line start 0) m)) in
    whole_span line span u o w
    (subst IsUtf8 (sym s) (without_leading_blanks-part (drop (start + 1) line) after).utf8)
    (subst IsUtf8 (sym t) (trimmed-part (drop (start + 1) line) after).utf8))
    (comment-places line start span l e o w s)

-- A pair, given the text from its key on and the index of its value.
pub found-pair : (line text : List ℕ) (start n v : ℕ) → text ≡ drop start line
    → start < length line → drop start line ≡ without_leading_blanks line → is_comment_sign (get_or line start 0) ≡ false
    → n ≤ length text → key_of text ≡ take n text → rest_of text ≡ drop n text → v ≤ length line → drop v line ≡ value_of (drop (start + n) line)
    → AreFound line (Some (KVPair (record { start = start; end = start + n }) (record { start = v; end = length line })))
unfolding split_of
found-pair line text start n v whole l e s nl k r fits_value there =
    let key : Span = record { start = start; end = start + n } in
    let value : Span = record { start = v; end = length line } in
    let after = drop (start + n) line in
    let rest : rest_of text ≡ after = r ∙ ap (drop n) whole ∙ drop-drop n start line in
    let key_bytes : bytes_in line key ≡ key_of text =
    ap (λ j. take j (drop start line)) (let j : start + n - start ≡ n = omega arith in j) ∙ ap (take n) (sym whole) ∙ sym k in
    let value_bytes : bytes_in line value ≡ value_of (rest_of text) = take_rest line v ∙ there ∙ ap value_of (sym rest) in
    let fits : start + n ≤ length line = omega (arith, length-drop start line, ap length whole) in
    let split : split_of line ≡ pair (key_of text) (value_of (rest_of text)) =
    rw (← e, ← whole, whole ∙ drop_more line start 0 l, s) refl in
    found line (Some (KVPair key value)) (rw (split, key_bytes, value_bytes) refl)
    (λ u.
    let text_utf8 : IsUtf8 text = subst IsUtf8 (sym (whole ∙ e)) (without_leading_blanks-part line u).utf8 in
    let after_utf8 : IsUtf8 after = subst IsUtf8 rest (rest_of-part text text_utf8).utf8 in
    let value_utf8 : IsUtf8 (drop v line) = subst IsUtf8 (sym there) (value_of-part after after_utf8).utf8 in (
      whole_span line key u (omega arith) fits (subst IsUtf8 whole text_utf8) (subst IsUtf8 (sym key_bytes) (key_of-part text text_utf8).utf8),
      whole_span line value u fits_value (omega arith) value_utf8 (subst IsUtf8 (sym (take_rest line v)) value_utf8),
    ))
    (pair-places line key value (omega arith) fits fits_value refl e)
