-- A body as its groups, with the places of their parts.
use Rattle.std.proofs.Common.{◌≡◌, ◌≢◌, ◌==◌, ◌<◌, ◌≤◌, ℕ, suc, ◌+◌, ◌-◌, Bool, true, false, List, [], ◌∷◌, ◌++◌, length, take, drop, refl, inl, inr, ap, ap₂, sym, ◌∙◌, subst, arith, append-nil, append_assoc, length-append, take-add}
use Rattle.std.specs.Prelude.{◌⊎◌, Some, nat_le, nat_lt, if◌then◌else◌}
use Rattle.std.proofs.Math.Seq.{take-append_seam, drop-append_seam}
use Rattle.std.specs.Str.{IsUtf8, chars, IsCharBoundary}
use Rattle.std.proofs.lemmas.List.{take-append-drop, take_rest, take_all, drop-drop, length-drop, take-take, drop_all, nil_from_length}
use Rattle.std.proofs.lemmas.Str.{chars-append, chars-nil, IsUtf8-nil, IsUtf8-take, IsUtf8-drop, IsUtf8-between, IsUtf8-append, IsCharBoundary-from_drop, IsCharBoundary-from_take, IsCharBoundary-end}
use Rattle.properties_format.specs.Encoding.{Encoding}
use Rattle.properties_format.specs.Text.{backslash, is_empty, is_blank, begins, without_leading_blanks}
use Rattle.properties_format.specs.Split as split
use Rattle.properties_format.specs.Split.{IsSplit}
use Rattle.properties_format.specs.Body.{HeldLine, group_bytes, groups_bytes}
use Rattle.properties_format.specs.Computed.Body.{held_groups_of}
use Rattle.properties_format.specs.Computed.Encoding.{pieces_of}
use Rattle.properties_format.specs.Computed.Split.{split_of}
use Rattle.properties_format.specs.Computed.Valued.{after_key, value_as_written}
use Rattle.properties_format.proofs.Body.Groups.{held_groups_of-meets, held-body}
use Rattle.properties_format.proofs.Split.Blanks.{without_leading_blanks-only, core-begins}
use Rattle.properties_format.proofs.Split.Unique.{split_of-only}
use Rattle.properties_format.proofs.Valued.Parts.{written_value-pair, after_key-pair}
use Rattle.properties_text.specs.Parsing.{bytes_in, IsSpan, IsPairAt, IsCommentAt}
use Rattle.properties_text.specs.declared.parse.Span.{Span}
use Rattle.properties_editing.specs.declared.walk.Parts.{Parts}
use Rattle.properties_text.specs.Encoding.{encoding_of}
use Rattle.properties_text.proofs.Texts.Characters.{first_ascii, is_empty-chars}
use Rattle.properties_text.proofs.Texts.Split.{without_leading_blanks-part}
use Rattle.properties_editing.specs.declared.groups.Group.{Group}
use Rattle.properties_editing.specs.declared.groups.GroupReader.{GroupReader}
use Rattle.properties_format.specs.Escapes.{letter_u, means, IsMeaning, spellings_before, AreSpellings}
use Rattle.properties_format.specs.Computed.Escapes.{meaning_of}
use Rattle.properties_format.proofs.Escapes.Unique.{meaning_of-meets}
use Rattle.properties_text.specs.Escaping.{malformed_in}
use Rattle.properties_text.specs.MalformedEscapes.{IsMalformedAt}
use Rattle.properties_text.specs.declared.encoding.line_encoding.LineEncoding.TheVariants.{Utf8}
use Rattle.properties_text.specs.declared.escape.Malformed.{Malformed}
use Rattle.properties_lines.specs.declared.scanner.Scanner.{Scanner}
use Rattle.properties_editing.specs.declared.walk.Walk.{Walk}
use Rattle.properties_editing.specs.declared.walk.WalkedGroup.{WalkedGroup}
use Rattle.properties_editing.specs.declared.group.GroupKind.TheVariants as kind
use Rattle.std.proofs.lemmas.Bool.{cases_Bool}
use Rattle.std.proofs.lemmas.Bool.Decides.{nat_tests}
use Rattle.properties_format.specs.Lines.{Lines, is_comment_line, joined}
use Rattle.properties_format.specs.Body.{as_lines, held_in}
use Rattle.properties_format.specs.Computed.Body.{held_of, held_lines_of, held_groups_after}
use Rattle.properties_format.specs.Computed.Lines.{closes}
use Rattle.properties_format.specs.Computed.Valued.{added_by}
use Rattle.properties_format.proofs.Body.Groups.{held_of-only, groups-close, groups-leave}
use Rattle.properties_editing.proofs.BodyGroups.{groups-lines, line_size}
use Rattle.properties_format.proofs.Cut.Only.{cut_of-only}
use Rattle.properties_format.proofs.Groups.Joined.{joined-comment_line}
use Rattle.properties_format.proofs.Valued.Fronts.{AreDecoded, joined_by, joined-by}
use Rattle.properties_lines.specs.Private.HeldLines.{held_lines_left}
use Rattle.properties_editing.specs.declared.cuts.Cut as code
use Rattle.properties_editing.specs.Private.BodyCuts.{IsCutOf, added_lines, adds, cut_past_line, cut_at, cut_size, placed}
use Rattle.properties_lines.specs.LineSearch.{unit_size}
use Rattle.properties_format.specs.Edited.{is_editable}
use Rattle.properties_editing.proofs.CutMeanings.{AreJoined, IsAlone, cut-meets, group-added, group-alone, group-joined}
use Rattle.properties_format.specs.Body.{ending_bytes, last_ending}
use Rattle.properties_format.specs.Computed.Body.{unended_bytes}
use Rattle.properties_format.proofs.GroupsInTurn.Lines.{bytes-unended}
use Rattle.properties_format.proofs.Split.Unique.{split_of-meets}
use Rattle.properties_editing.proofs.CutOrder.{cut-ordered, cut-unended, counts-ordered}
use Rattle.properties_format.specs.Encoding.{windows_1252, utf_8, utf_16le, utf_16be}
use Rattle.properties_format.proofs.Encodings.PieceEnds.{no-front}
use Rattle.properties_lines.specs.LogicalLine.{IsLineIn}
use Rattle.properties_lines.specs.Scanner.{raw_line_bytes}
use Rattle.properties_lines.specs.Private.HeldLines.{IsInBody, held_line}
use Rattle.properties_editing.specs.Private.BodyGroups.{TakesHeldLine}
use Rattle.properties_editing.proofs.BodyGroups.{has-sizes}
use Rattle.std.specs.Prelude.{not, ◌&&◌}
use Rattle.properties_format.specs.Lines.{is_open}
use Rattle.properties_format.specs.Edited.{is_left_open}
use Rattle.properties_format.specs.Computed.Cut.{decoded_line}
use Rattle.properties_format.specs.Computed.Valued.{head_of}
use Rattle.properties_format.proofs.Groups.Open.{without_open_backslash-closed}
use Rattle.properties_lines.specs.LogicalLine as logical
use Rattle.properties_lines.specs.LogicalLine.{is_natural}
use Rattle.properties_lines.specs.declared.logical.Place.{Place}
use Rattle.properties_lines.specs.declared.logical.Place.TheVariants.{Natural, Decoded, Joined}
use Rattle.properties_editing.specs.Private.BodyCuts.{indent_size}
use Rattle.properties_editing.proofs.BodyGroups.{joined-alone}
use Rattle.properties_editing.proofs.PlainGroups.{cut-counts, plain-head}
use Rattle.properties_editing.specs.Private.BodyViews.{IsPlain, ArePlacedInOrder, AreLinesIn, places_by, walked_places, TellsIllFormedLine, groups_to_come, reader_before, first_of, walked_lines, walked_line, walked_text, place_in}
use Rattle.properties_editing.proofs.BodyCuts.{cut-here, cut-past, cut-head, decoded-front, decoded-left}
use Rattle.properties_editing.specs.Private.BodyGroups.{IsWithin, TakesHeldGroup, groups_left, group_text}
use Rattle.properties_editing.specs.Views.{IsMeaningful, group_kind, with_bytes}
use Rattle.properties_editing.specs.Private.BodyViews.{ArePartsBy, ArePartsOfLine, HasFlaw, IsPartFlaw, IsLineFlaw, IsFlawOf, counts_of, cut_in, counts_by, after_sign, IsCountAt, IsOpened, IsViewed, TakesWalk}
use Rattle.properties_editing.proofs.Editing.{editable-bytes}
use Rattle.properties_editing.proofs.BodyValues.{after_key-text}
use Rattle.properties_format.proofs.Encodings.WellFormed.{well_formed-from_IsUtf8}

-- ---- the bytes of a group

-- What is left before a group is taken: its bytes, and those of the groups after it.
pub left-bytes : {body : List ℕ} {old new : GroupReader} {group : Group} → IsWithin body old → (k : TakesHeldGroup body old group new)
    → drop old.scanner.at body ≡ groups_bytes (k.held ∷ groups_left body new)
left-bytes {body} {old} {new} {group} w k =
    let e = encoding_of old.scanner.encoding in
    let rest = drop old.scanner.at body in
    let groups : held_groups_of e rest ≡ k.held ∷ groups_left body new =
    subst (λ b. (if b then [] else held_groups_of e rest) ≡ k.held ∷ groups_left body new) k.live k.groups in
    sym (held-body e rest (held_groups_of e rest) (editable-bytes e w.bytes) (held_groups_of-meets e rest)) ∙ ap groups_bytes groups

-- A group that was taken has the bytes from its start to the next group.
pub group-bytes : {body : List ℕ} {old new : GroupReader} {group : Group} → IsWithin body old → (k : TakesHeldGroup body old group new)
    → take (new.scanner.at - group.start) (drop group.start body) ≡ group_bytes k.held
group-bytes {body} {old} {new} {group} w k =
    let next = k.span.next in
    let size : new.scanner.at - group.start ≡ length (group_bytes k.held) = omega arith in
    ap₂ take size (ap (λ n. drop n body) k.starts ∙ left-bytes w k) ∙ take-append_seam (group_bytes k.held) (groups_bytes (groups_left body new))

-- ---- the parts of a logical line

-- a position before this rest of a text, by characters
pub count-before : (line rest : List ℕ) (at : ℕ) → IsUtf8 line → at ≤ length line → IsCharBoundary line at → chars (drop at line) ≡ rest
    → IsCountAt line at (length (chars line) - length rest)
count-before line rest at u l b h =
    let whole : chars line ≡ chars (take at line) ++ rest =
    ap chars (sym (take-append-drop at line)) ∙ chars-append (take at line) (drop at line) (IsUtf8-take line at u b) ∙ ap (λ v. chars (take at line) ++ v) h in
    let size : length (chars line) ≡ length (chars (take at line)) + length rest = ap length whole ∙ length-append (chars (take at line)) rest in
    record { within = l; whole = b; count_is = omega arith }

-- The parts are those of what the line is.
parts-by : (what : split.Logical) (line : List ℕ) (parts : Parts) → IsSplit (chars line) what → ArePartsBy what line parts → ArePartsOfLine line parts
parts-by what line parts meets h = subst (λ s. ArePartsBy s line parts) (split_of-only (chars line) what meets) h

-- the parts of a pair
pub pair-parts : (line : List ℕ) (key value : Span) → IsUtf8 line → IsPairAt line key value → IsSpan line key → IsSpan line value
    → IsSplit (chars line) (split.pair (chars (bytes_in line key)) (chars (bytes_in line value)))
    → ArePartsOfLine line (record { kind = kind.Pair; key = key; value = value })
pair-parts line key value u at k v meets =
    let x = chars line in
    let key_bytes = bytes_in line key in
    let rest = bytes_in line value in
    let d = at.division in
    let what = split.pair (chars key_bytes) (chars rest) in
    let core = key_bytes ++ (d.between ++ rest) in
    let from : drop key.start line ≡ core = ap₂ drop at.key_start d.whole ∙ drop-append_seam d.indent core in
    let blanks : chars (drop key.start line) ≡ without_leading_blanks x =
    ap chars (from ∙ sym (ap without_leading_blanks d.whole ∙ without_leading_blanks-only d.indent core d.indent_blank d.begins_full))
    ∙ (without_leading_blanks-part line u).same in
    let front = length-append d.indent key_bytes in
    let parts : line ≡ (d.indent ++ key_bytes) ++ (d.between ++ rest) = d.whole ∙ sym (append_assoc d.indent key_bytes (d.between ++ rest)) in
    let key_start = at.key_start in
    let key_end = at.key_end in
    let ends : key.end ≡ length (d.indent ++ key_bytes) = omega arith in
    let after : chars (drop key.end line) ≡ after_key x =
    ap chars (ap₂ drop ends parts ∙ drop-append_seam (d.indent ++ key_bytes) (d.between ++ rest) ∙ sym (after_key-pair line key_bytes rest d))
    ∙ after_key-text line u in
    let value_is : drop value.start line ≡ rest = sym (ap (λ n. take (n - value.start) (drop value.start line)) at.value_end ∙ take_rest line value.start) in
    let written : chars (drop value.start line) ≡ value_as_written x = ap chars value_is ∙ sym (written_value-pair x (chars key_bytes) (chars rest) meets) in
    let all : IsCountAt line value.end (length x) =
    record {
      within = v.within;
      whole = v.ends_whole;
      count_is = ap (λ n. length (chars (take n line))) at.value_end ∙ ap (λ w. length (chars w)) (take_all (length line) line (omega arith));
    } in
    let ordered = k.ordered in
    let within = k.within in
    let value_ordered = v.ordered in
    let value_within = v.within in
    parts-by what line _ meets (record {
      kind_is = refl;
      key_start = count-before line (without_leading_blanks x) key.start u (omega arith) k.starts_whole blanks;
      key_end = count-before line (after_key x) key.end u (omega arith) k.ends_whole after;
      value_start = count-before line (value_as_written x) value.start u (omega arith) v.starts_whole written;
      value_end = all;
      key_span = k;
      value_span = v;
      texts = (refl, refl);
    })

-- the parts of a comment
pub comment-parts : (line : List ℕ) (sign : ℕ) (text : Span) → IsUtf8 line → sign ≤ length line → drop sign line ≡ without_leading_blanks line
    → IsCommentAt line text → IsSpan line text
    → IsSplit (chars line) (split.comment (chars (bytes_in line text)))
    → ArePartsOfLine line (record { kind = kind.Comment; key = record { start = sign; end = sign + 1 }; value = text })
comment-parts line sign text u within at c s meets =
    let x = chars line in
    let core = bytes_in line text in
    let d = c.division in
    let t = d.trimmed in
    let full : is_blank d.sign ≡ false = (let k = d.is_sign in grind (arith)) in
    let small : d.sign < 128 = (let k = d.is_sign in grind (arith)) in
    let y : without_leading_blanks line ≡ d.sign ∷ d.rest =
    ap without_leading_blanks d.whole ∙ without_leading_blanks-only d.indent (d.sign ∷ d.rest) d.indent_blank full in
    let blanks = without_leading_blanks-part line u in
    let first = first_ascii d.sign d.rest small (subst IsUtf8 y blanks.utf8) in
    let front : drop sign line ≡ d.sign ∷ d.rest = at ∙ y in
    let after : drop (sign + 1) line ≡ d.rest = sym (drop-drop 1 sign line) ∙ ap (drop 1) front in
    let after_text : chars (drop (sign + 1) line) ≡ after_sign x =
    ap chars after ∙ ap (drop 1) (sym first.characters ∙ ap chars (sym y) ∙ blanks.same) in
    let some : length (drop sign line) ≡ length line - sign = length-drop sign line in
    let sizes : length (drop sign line) ≡ suc (length d.rest) = ap length front in
    let sign_whole = IsCharBoundary-from_drop line sign within (subst IsUtf8 (sym at) blanks.utf8) in
    let after_whole = IsCharBoundary-from_drop line (sign + 1) (omega arith) (subst IsUtf8 (sym after) first.utf8) in
    let rest_full : begins is_blank (core ++ t.after) ≡ false = core-begins core t.after t.begins_full t.empty_last in
    let rest : without_leading_blanks d.rest ≡ core ++ t.after =
    ap without_leading_blanks t.whole ∙ without_leading_blanks-only t.before (core ++ t.after) t.before_blank rest_full in
    let rest_part = without_leading_blanks-part d.rest first.utf8 in
    let lead = (d.indent ++ d.sign ∷ []) ++ t.before in
    let whole : line ≡ lead ++ (core ++ t.after) =
    d.whole ∙ ap (λ v. d.indent ++ d.sign ∷ v) t.whole ∙ sym (append_assoc d.indent (d.sign ∷ []) (t.before ++ (core ++ t.after)))
    ∙ sym (append_assoc (d.indent ++ d.sign ∷ []) t.before (core ++ t.after)) in
    let lead_size : length lead ≡ length d.indent + 1 + length t.before =
    length-append (d.indent ++ d.sign ∷ []) t.before ∙ ap (λ n. n + length t.before) (length-append d.indent (d.sign ∷ [])) in
    let starts : drop text.start line ≡ core ++ t.after = ap₂ drop (c.start ∙ sym lead_size) whole ∙ drop-append_seam lead (core ++ t.after) in
    let starts_text : chars (drop text.start line) ≡ without_leading_blanks (after_sign x) =
    ap chars (starts ∙ sym rest) ∙ rest_part.same ∙ ap (λ v. without_leading_blanks (chars v)) (sym after) ∙ ap without_leading_blanks after_text in
    let start = count-before line (without_leading_blanks (after_sign x)) text.start u (omega (arith, s.ordered, s.within)) s.starts_whole starts_text in
    let ends : take text.end line ≡ take text.start line ++ core =
    ap (λ n. take n line) c.end ∙ take-add text.start (length core) line
    ∙ ap (λ v. take text.start line ++ v) (ap (take (length core)) starts ∙ take-append_seam core t.after) in
    let ends_text : length (chars (take text.end line)) ≡ length x - length (without_leading_blanks (after_sign x)) + length (chars core) =
    ap (λ v. length (chars v)) ends ∙ ap length (chars-append (take text.start line) core (IsUtf8-take line text.start u s.starts_whole))
    ∙ length-append (chars (take text.start line)) (chars core) ∙ ap (λ n. n + length (chars core)) start.count_is in
    let one : sign + 1 - sign ≡ 1 = omega arith in
    let key_bytes : take (sign + 1 - sign) (drop sign line) ≡ d.sign ∷ [] = ap₂ take one front in
    let key_utf8 : IsUtf8 (d.sign ∷ []) = subst IsUtf8 key_bytes (IsUtf8-between line sign (sign + 1) u (omega arith) sign_whole after_whole) in
    let key_text : chars (take (sign + 1 - sign) (drop sign line)) ≡ take 1 (without_leading_blanks x) =
    ap chars key_bytes ∙ (first_ascii d.sign [] small key_utf8).characters ∙ ap (λ v. d.sign ∷ v) chars-nil
    ∙ ap (take 1) (sym first.characters ∙ ap chars (sym y) ∙ blanks.same) in
    parts-by (split.comment (chars core)) line _ meets (record {
      kind_is = refl;
      key_start = count-before line (without_leading_blanks x) sign u within sign_whole (ap chars at ∙ blanks.same);
      key_end = count-before line (after_sign x) (sign + 1) u (omega arith) after_whole after_text;
      value_start = start;
      value_end = record { within = s.within; whole = s.ends_whole; count_is = ends_text };
      key_span = record { ordered = omega arith; within = omega arith; starts_whole = sign_whole; ends_whole = after_whole };
      value_span = s;
      texts = (key_text, refl);
    })

-- nothing but blanks
abbrev blank_parts : List ℕ → Parts
blank_parts line =
    let end : Span = record { start = length line; end = length line } in
    record { kind = kind.Blank; key = end; value = end }

pub blank-parts : (line : List ℕ) → IsUtf8 line → IsSplit (chars line) split.blank → ArePartsOfLine line (blank_parts line)
blank-parts line u meets =
    let all : IsCountAt line (length line) (length (chars line)) =
    record { within = omega arith; whole = IsCharBoundary-end line; count_is = ap (λ w. length (chars w)) (take_all (length line) line (omega arith)) } in
    let span : IsSpan line (record { start = length line; end = length line }) =
    record { ordered = omega arith; within = omega arith; starts_whole = IsCharBoundary-end line; ends_whole = IsCharBoundary-end line } in
    let some : length line - length line ≡ 0 = omega arith in
    let none : chars (take (length line - length line) (drop (length line) line)) ≡ [] = ap (λ n. chars (take n (drop (length line) line))) some ∙ chars-nil in
    parts-by split.blank line _ meets
    (record { kind_is = refl; key_start = all; key_end = all; value_start = all; value_end = all; key_span = span; value_span = span; texts = (none, none) })

-- ---- the next group of a walk

pub no-bytes : (d : List ℕ) → is_empty d ≡ true → d ≡ []
no-bytes [] h = refl
no-bytes (b ∷ d) h = absurd (cc)

with-taken : (g : List HeldLine) (gs : List (List HeldLine)) → groups_bytes (g ∷ gs) ≢ [] → with_bytes (g ∷ gs) ≡ g ∷ with_bytes gs
with-taken g [] n = elim (cases_Bool (is_empty (group_bytes g))) [
  | inl k ↦ absurd (n (append-nil (group_bytes g) ∙ no-bytes (group_bytes g) k))
  | inr k ↦ rw k refl
]
with-taken g (h ∷ gs) n = refl

pub walk-taken : (old : Walk) (new : GroupReader) (state : Scanner) (group : WalkedGroup) → IsOpened old
    → old.reader.scanner.at ≢ length old.source.now → state ≡ old.reader.scanner
    → TakesHeldGroup old.source.now old.reader group.group new → ArePartsOfLine (group_text old.source.now new group.group) group.parts → group.next ≡ new.scanner.at
    → TakesWalk old group (record old { before = state; reader = new })
walk-taken old new state group w more same k parts next =
    let body = old.source.now in
    let at = old.reader.scanner.at in
    let within = w.within_body.fits.within in
    let left : length (drop at body) ≡ length body - at = length-drop at body in
    let some : groups_bytes (k.held ∷ groups_left body new) ≢ [] =
    λ none. (let zero : length (drop at body) ≡ 0 = ap length (left-bytes w k ∙ none) in more (omega arith)) in
    record {
      viewed = record { old = old.reader; before = sym same; within_old = w; takes = k; parts = parts; next = next };
      given = ap with_bytes k.groups ∙ with-taken k.held (groups_left body new) some;
      opened = k.within;
      same = ap (λ s. record old { before = s; reader = new }) same;
    }

-- No bytes are left.
nothing-left : (e : Encoding) → is_editable e ≡ true → with_bytes (held_groups_of e []) ≡ []
unfolding held_groups_of pieces_of
nothing-left windows_1252 ok = refl
nothing-left utf_8 ok = refl
nothing-left utf_16le ok = absurd (cc)
nothing-left utf_16be ok = absurd (cc)

pub walk-ended : (walk : Walk) → IsOpened walk → walk.reader.scanner.at ≡ length walk.source.now → with_bytes (groups_to_come walk) ≡ []
walk-ended walk w all =
    let e = encoding_of walk.reader.scanner.encoding in
    let none : drop walk.reader.scanner.at walk.source.now ≡ [] = drop_all walk.reader.scanner.at walk.source.now (omega arith) in
    elim (cases_Bool walk.reader.scanner.is_done) [
      | inl k ↦ rw k refl
      | inr k ↦ rw (k, none) (nothing-left e (editable-bytes e w.bytes))
    ]

-- ---- places

-- the lines of groups are those of the body
lines-in : (e : Encoding) (d : List ℕ) → held_in (held_groups_of e d) ≡ held_lines_of e d
lines-in e d =
    let are = held_groups_of-meets e d in
    held_of-only e are.cut.ended are.cut.last (held_in (held_groups_of e d)) are.are_held
    ∙ ap (λ v. let w : Lines = v in held_of e w.ended w.last) (cut_of-only e d are.cut are.is_cut)

-- A cut that is in a group doesn't depend on the lines after it.
cut-within : (e : Encoding) (first : Bool) (n : ℕ) (h : HeldLine) (hs rest : List HeldLine) → n ≤ length (adds first h.text ++ joined_by false hs)
    → cut_at e first n (h ∷ hs ++ rest) ≡ cut_at e first n (h ∷ hs)
cut-within e first n h [] rest l =
    let none : length (adds first h.text ++ []) ≡ length (adds first h.text) = ap length (append-nil (adds first h.text)) in
    let within : n ≤ length (adds first h.text) = omega arith in
    cut-here e first n h rest within ∙ sym (cut-here e first n h [] within)
cut-within e first n h (i ∷ is) rest l =
    let sizes : length (adds first h.text ++ joined_by false (i ∷ is)) ≡ length (adds first h.text) + length (joined_by false (i ∷ is)) =
    length-append (adds first h.text) (joined_by false (i ∷ is)) in
    elim (cases_Bool (nat_le n (length (adds first h.text)))) [
      | inl k ↦ let within : n ≤ length (adds first h.text) = grind (arith, nat_tests) in
          cut-here e first n h (i ∷ is ++ rest) within ∙ sym (cut-here e first n h (i ∷ is) within)
      | inr k ↦ let over : length (adds first h.text) < n = grind (arith, nat_tests) in
          cut-past e first n h (i ∷ is ++ rest) over
          ∙ ap (cut_past_line h) (cut-within e false (n - length (adds first h.text)) i is rest (omega arith))
          ∙ sym (cut-past e first n h (i ∷ is) over)
    ]

-- The lines of a group add at least its logical line.
joined-added : (h : HeldLine) (hs : List HeldLine) → length (joined (as_lines (h ∷ hs))) ≤ length (adds true h.text ++ joined_by false hs)
joined-added h hs = elim (cases_Bool (is_comment_line h.text)) [
  | inl k ↦
      let is : joined (as_lines (h ∷ hs)) ≡ h.text = joined-comment_line (record { number = 0; text = h.text }) (as_lines hs) k in
      let add : adds true h.text ≡ h.text = rw k refl in
      let size : length (joined (as_lines (h ∷ hs))) ≡ length (adds true h.text) = ap length (is ∙ sym add) in
      let sizes = length-append (adds true h.text) (joined_by false hs) in
      omega arith
  | inr k ↦
      let add : adds true h.text ≡ added_by true h.text = rw k refl in
      let is : joined (as_lines (h ∷ hs)) ≡ adds true h.text ++ joined_by false hs = joined-by h hs k ∙ ap (λ v. v ++ joined_by false hs) (sym add) in
      let size = ap length is in
      omega arith
]

-- A group has a line.
group-some : (p hs g : List HeldLine) (gs : List (List HeldLine)) → held_groups_after p hs ≡ g ∷ gs → (h : HeldLine) × (more : List HeldLine) × (g ≡ h ∷ more)
group-some [] [] g gs k = absurd (cc)
group-some (h ∷ p) [] g gs k = (h, p, cc)
group-some p (h ∷ hs) g gs k = elim (cases_Bool (closes (as_lines p) (record { number = 0; text = h.text }))) [
  | inl t ↦ pushed p h (let q = groups-close p h hs t in cc)
  | inr t ↦ group-some (p ++ h ∷ []) hs g gs (sym (groups-leave p h hs t) ∙ k)
]
  where
    pushed : (p : List HeldLine) (h : HeldLine) → p ++ h ∷ [] ≡ g → (h : HeldLine) × (more : List HeldLine) × (g ≡ h ∷ more)
    pushed [] h q = (h, [], sym q)
    pushed (i ∷ p) h q = (i, p ++ h ∷ [], sym q)

-- what was left before the group that was returned last
pub record IsLeftBefore (view : Walk) (held : List HeldLine) : Type 0 where
  pub first : HeldLine
  pub more : List HeldLine
  pub is_held : held ≡ first ∷ more
  pub rest : List HeldLine
  pub lines : held_lines_left view.source.now view.before ≡ first ∷ more ++ rest
  pub viewed : walked_lines view ≡ first ∷ more
  pub alone : IsAlone (first ∷ more)
  pub joined : AreJoined (first ∷ more)

pub left-before : {view : Walk} {group : WalkedGroup} (v : IsViewed view group) → IsLeftBefore view v.takes.held
left-before {view} {group} v =
    let body = view.source.now in
    let s = reader_before view in
    let e = encoding_of view.before.encoding in
    let d = drop view.before.at body in
    let more = groups_left body view.reader in
    let groups : groups_left body s ≡ v.takes.held ∷ more =
    subst (λ sc. let w : Scanner = sc in (if w.is_done then [] else held_groups_of (encoding_of w.encoding) (drop w.at body)) ≡ v.takes.held ∷ more)
    v.before v.takes.groups in
    let live : view.before.is_done ≡ false = subst (λ sc. let w : Scanner = sc in w.is_done ≡ false) v.before v.takes.live in
    let after : held_groups_after [] (held_lines_left body view.before) ≡ v.takes.held ∷ more = sym (groups-lines body s) ∙ groups in
    let some = group-some [] (held_lines_left body view.before) v.takes.held more after in
    let all : held_groups_of e d ≡ v.takes.held ∷ more = subst (λ b. (if b then [] else held_groups_of e d) ≡ v.takes.held ∷ more) live groups in
    let lines : held_lines_left body view.before ≡ held_in (held_groups_of e d) = rw live (sym (lines-in e d)) in
    record {
      first = some.0;
      more = some.1;
      is_held = some.2;
      rest = held_in more;
      lines = lines ∙ ap held_in all ∙ ap (λ g. g ++ held_in more) some.2;
      viewed = ap first_of groups ∙ some.2;
      alone = subst IsAlone some.2 (group-alone [] (held_lines_left body view.before) v.takes.held more tt after);
      joined = subst AreJoined some.2 (group-joined [] (held_lines_left body view.before) v.takes.held more tt after);
    }

-- A cut of the lines that were left before a group was taken is one of the group.
pub cut-viewed : {view : Walk} {group : WalkedGroup} (n : ℕ) → IsViewed view group → n ≤ length (walked_text view)
    → cut_at (encoding_of view.before.encoding) true n (held_lines_left view.source.now view.before) ≡ cut_at (encoding_of view.before.encoding) true n
    (walked_lines view)
cut-viewed {view} {group} n v l =
    let e = encoding_of view.before.encoding in
    let b = left-before v in
    let size : length (walked_text view) ≡ length (joined (as_lines (b.first ∷ b.more))) = ap (λ g. length (joined (as_lines g))) b.viewed in
    let least = joined-added b.first b.more in
    ap (cut_at e true n) b.lines ∙ cut-within e true n b.first b.more b.rest (omega arith) ∙ ap (cut_at e true n) (sym b.viewed)

-- The logical line of the group that was returned last.
pub viewed-text : {view : Walk} {group : WalkedGroup} → IsViewed view group → chars (walked_line view group) ≡ walked_text view
viewed-text {view} {group} v = let b = left-before v in v.takes.text ∙ ap (λ g. joined (as_lines g)) (b.is_held ∙ sym b.viewed)

-- The place of a position in that line.
pub place-found : {view : Walk} {group : WalkedGroup} (position at count : ℕ) → (v : IsViewed view group)
    → IsCharBoundary (walked_line view group) position → IsUtf8 (walked_line view group)
    → count ≡ length (chars (take position (walked_line view group)))
    → at ≡ view.before.at + cut_size (cut_at (encoding_of view.before.encoding) true count (held_lines_left view.source.now view.before))
    → at ≡ place_in view (length (chars (take position (walked_line view group))))
place-found {view} {group} position at count v b u is found =
    let size = ap length (sym (viewed-text v)) ∙ cut-counts (walked_line view group) position u b in
    found ∙ ap (λ c. view.before.at + cut_size c) (cut-viewed count v (omega arith)) ∙ ap (place_in view) is

-- ---- malformed escapes

-- The bytes of a span that begins where a text is whole.
record IsPartOf (line : List ℕ) (span : Span) (at : ℕ) : Type 0 where
  front : take (span.start + at) line ≡ take span.start line ++ take at (bytes_in line span)
  size : length (bytes_in line span) ≡ span.end - span.start

part-of : (line : List ℕ) (span : Span) (at : ℕ) → IsSpan line span → at ≤ length (bytes_in line span) → IsPartOf line span at
part-of line span at s l =
    let size : length (bytes_in line span) ≡ span.end - span.start = line_size line span.start span.end s.ordered s.within in
    record {
      front = take-add span.start at line
          ∙ ap (λ v. take span.start line ++ v) (sym (take-take at (span.end - span.start) (drop span.start line) (omega arith)));
      size = size;
    }

-- a part of a text is a text
part-utf8 : (line : List ℕ) (span : Span) → IsUtf8 line → IsSpan line span → IsUtf8 (bytes_in line span)
part-utf8 line span u s = IsUtf8-between line span.start span.end u s.ordered s.starts_whole s.ends_whole

-- The malformed escape of a part is in the line.
pub flaw-found : (line : List ℕ) (span : Span) (at : ℕ) (how : Malformed) → IsUtf8 line → IsSpan line span
    → IsMalformedAt Utf8 (bytes_in line span) at (malformed_in how)
    → IsPartFlaw line span (span.start + at) how
flaw-found line span at how u s m =
    let kb = bytes_in line span in
    let ukb = part-utf8 line span u s in
    let p = part-of line span at s m.within in
    let edge = IsCharBoundary-from_drop kb at m.within m.well in
    let front : IsUtf8 (take at kb) = IsUtf8-take kb at ukb edge in
    let lead : IsUtf8 (take span.start line) = IsUtf8-take line span.start u s.starts_whole in
    let both : IsUtf8 (take (span.start + at) line) = subst IsUtf8 (sym p.front) (IsUtf8-append (take span.start line) (take at kb) lead front) in
    let inside : at < length kb = elim (cases_Bool (nat_lt at (length kb))) [
      | inl k ↦ grind (arith, nat_tests)
      | inr k ↦
          let over : length kb ≤ at = grind (arith, nat_tests) in
          let none : chars (drop at kb) ≡ [] = ap chars (drop_all at kb over) ∙ chars-nil in
          absurd (cc (m.begins))
    ] in
    let size = p.size in
    let ordered = s.ordered in
    let in_line = s.within in
    let sizes = cut-counts kb at ukb edge in
    let rest : length (chars (drop at kb)) ≡ length (backslash ∷ letter_u ∷ m.after) = ap length m.begins in
    record {
      within = omega arith;
      whole = IsCharBoundary-from_take line (span.start + at) u (omega arith) both;
      breaks = record {
        inside = length (chars (take at kb));
        breaks_at = record {
          breaks = record {
            spellings = m.spellings;
            after = m.after;
            whole = m.whole ∙ ap (spellings_before m.spellings) m.begins;
            each = subst (AreSpellings m.spellings) m.begins m.each;
            no_spelling = m.no_spelling;
            fault = m.fault;
          };
          place = omega arith;
        };
        place = ap (λ v. length (chars v)) p.front ∙ ap length (chars-append (take span.start line) (take at kb) lead)
            ∙ length-append (chars (take span.start line)) (chars (take at kb));
      };
    }

-- A part without one means a text.
pub part-whole : (text meant : List ℕ) → meaning_of text ≡ means meant → IsMeaningful text
part-whole text meant h = (meant, subst (IsMeaning text) h (meaning_of-meets text))

-- The encoding of a group that was returned is one that is edited.
pub viewed-editable : {view : Walk} {group : WalkedGroup} → IsViewed view group → is_editable (encoding_of view.before.encoding) ≡ true
viewed-editable {view} {group} v =
    editable-bytes (encoding_of view.before.encoding)
    (subst (λ sc. let w : Scanner = sc in unit_size (encoding_of w.encoding) ≡ 1) v.before v.within_old.bytes)

-- What a cut of the group that was returned last means.
pub viewed-meets : {view : Walk} {group : WalkedGroup} (n : ℕ) → IsViewed view group → n ≤ length (walked_text view)
    → IsCutOf (encoding_of view.before.encoding) true (walked_lines view) (take n (walked_text view)) (cut_in view n)
viewed-meets {view} {group} n v l =
    let e = encoding_of view.before.encoding in
    let b = left-before v in
    let held = b.first ∷ b.more in
    let decoded = decoded-front e held b.rest (subst (AreDecoded e) b.lines (decoded-left view.source.now view.before)) in
    let added : joined (as_lines held) ≡ added_lines true held = group-added b.first b.more b.alone in
    let text : walked_text view ≡ added_lines true held = ap (λ g. joined (as_lines g)) b.viewed ∙ added in
    let size : length (walked_text view) ≡ length (added_lines true held) = ap length text in
    subst (λ g. IsCutOf e true g (take n (walked_text view)) (cut_at e true n g)) (sym b.viewed)
    (subst (λ x. IsCutOf e true held (take n x) (cut_at e true n held)) (sym text)
    (cut-meets e true n b.first b.more (viewed-editable v) decoded (omega arith)))

-- A text with bytes has characters.
some-chars : (x y : List ℕ) → is_empty y ≡ (length x == 0) → 1 ≤ length x → 1 ≤ length y
some-chars x [] h l = let z : length x ≡ 0 = grind (arith, nat_tests) in absurd (omega arith)
some-chars x (c ∷ y) h l = omega arith

-- Behind the character at this position the line is cut behind the start of a natural line.
record IsBehind (view : Walk) (count : ℕ) : Type 0 where
  cut : cut_at (encoding_of view.before.encoding) true (count + 1) (held_lines_left view.source.now view.before) ≡ cut_in view (count + 1)
  some : 1 ≤ (cut_in view (count + 1)).head
  inside : count + 1 ≤ length (walked_text view)

behind : {view : Walk} {group : WalkedGroup} (position : ℕ) → (v : IsViewed view group) → position < length (walked_line view group)
    → IsCharBoundary (walked_line view group) position
    → IsBehind view (length (chars (take position (walked_line view group))))
behind {view} {group} position v l b =
    let e = encoding_of view.before.encoding in
    let line = walked_line view group in
    let u = v.takes.held_text.text in
    let count = length (chars (take position line)) in
    let sizes = ap length (sym (viewed-text v)) ∙ cut-counts line position u b in
    let left : length (drop position line) ≡ length line - position = length-drop position line in
    let some : 1 ≤ length (chars (drop position line)) =
    some-chars (drop position line) (chars (drop position line)) (is_empty-chars (drop position line) (IsUtf8-drop line position u b)) (omega arith) in
    let before = left-before v in
    let size : length (walked_text view) ≡ length (joined (as_lines (before.first ∷ before.more))) = ap (λ g. length (joined (as_lines g))) before.viewed in
    let least = joined-added before.first before.more in
    let decoded = decoded-front e (before.first ∷ before.more) before.rest (subst (AreDecoded e) before.lines (decoded-left view.source.now view.before)) in
    record {
      inside = omega arith;
      cut = cut-viewed (count + 1) v (omega arith);
      some = subst (λ g. 1 ≤ (cut_at e true (count + 1) g).head) (sym before.viewed)
          (cut-head e true (count + 1) before.first before.more decoded (omega arith) (omega arith));
    }

-- The malformed escape of the group that was returned last.
pub flaw-placed : {view : Walk} {group : WalkedGroup} (position count : ℕ) (how : Malformed) (cut : code.Cut) → (v : IsViewed view group)
    → IsLineFlaw (walked_line view group) position how
    → count ≡ length (chars (take position (walked_line view group)))
    → cut ≡ placed view.before.at view.before.passed (cut_at (encoding_of view.before.encoding) true (count + 1) (held_lines_left view.source.now view.before))
    → (1 ≤ cut.at) × IsFlawOf view (record { how = how; place = cut.at - 1; number = cut.number; column = cut.at - cut.line_start })
flaw-placed {view} {group} position count how cut v f is found =
    let e = encoding_of view.before.encoding in
    let line = walked_line view group in
    let n = length (chars (take position line)) in
    let b = behind position v f.within f.whole in
    let c = cut_in view (n + 1) in
    let same : cut ≡ placed view.before.at view.before.passed c =
    found ∙ ap (λ m. placed view.before.at view.before.passed (cut_at e true (m + 1) (held_lines_left view.source.now view.before))) is
    ∙ ap (placed view.before.at view.before.passed) b.cut in
    let at : cut.at ≡ view.before.at + (c.before + c.head) = ap (λ w. let k : code.Cut = w in k.at) same in
    let starts : cut.line_start ≡ view.before.at + c.before = ap (λ w. let k : code.Cut = w in k.line_start) same in
    let number : cut.number ≡ view.before.passed + c.line = ap (λ w. let k : code.Cut = w in k.number) same in
    let some = b.some in (
      (omega arith),
      record {
        count = n;
        has_flaw = subst (λ x. HasFlaw (split_of x) (counts_of x) (malformed_in how) n) (viewed-text v) f.flaw;
        place = omega arith;
        number = number;
        column = omega arith;
        from_one = omega arith;
        meant = viewed-meets (n + 1) v b.inside;
      },
    )

-- ---- ill-formed lines

are-texts : (e : Encoding) (g h : List HeldLine) → AreLinesIn e g → AreLinesIn e h → AreLinesIn e (g ++ h)
are-texts e [] h a b = b
are-texts e (i ∷ g) h a b = (a.0, are-texts e g h a.1 b)

-- UTF-8 is text of either encoding.
line-text : (e : Encoding) (d : List ℕ) → is_editable e ≡ true → IsUtf8 d → IsLineIn e d
line-text windows_1252 d ok u = tt
line-text utf_8 d ok u = well_formed-from_IsUtf8 d u
line-text utf_16le d ok u = absurd (cc)
line-text utf_16be d ok u = absurd (cc)

empty-texts : (e : Encoding) (g : List HeldLine) → unit_size e ≡ 1 → length (group_bytes g) ≡ 0 → AreLinesIn e g
empty-texts e [] u none = tt
empty-texts e (h ∷ g) u none =
    let sizes : length (group_bytes (h ∷ g)) ≡ length h.bytes + (length (ending_bytes h.ending) + length (group_bytes g)) =
    length-append h.bytes _ ∙ ap (λ n. length h.bytes + n) (length-append (ending_bytes h.ending) (group_bytes g)) in
    let empty : h.bytes ≡ [] = nil_from_length h.bytes (omega arith) in
    (line-text e h.bytes (editable-bytes e u) (subst IsUtf8 (sym empty) IsUtf8-nil), empty-texts e g u (omega arith))

-- These lines of the group were looked at, and each is text.
pub record HasTexts (view : Walk) (next : ℕ) (s : GroupReader) : Type 0 where
  pub kept : List HeldLine
  pub rest : List HeldLine
  pub others : List HeldLine
  pub division : walked_lines view ≡ kept ++ rest
  pub left : held_lines_left view.source.now s.scanner ≡ rest ++ others
  pub texts : AreLinesIn (encoding_of view.before.encoding) kept
  pub counted : s.scanner.passed ≡ view.before.passed + length kept
  pub end : next ≡ s.scanner.at + length (group_bytes rest)
  pub within : IsWithin view.source.now s
  pub encoding : encoding_of s.scanner.encoding ≡ encoding_of view.before.encoding

pub texts-none : {view : Walk} {group : WalkedGroup} (s : GroupReader) → (v : IsViewed view group) → s.scanner ≡ view.before
    → IsWithin view.source.now s → HasTexts view group.next s
texts-none {view} {group} s v same w =
    let b = left-before v in
    let next = v.next in
    let after = v.takes.span.next in
    let starts = v.takes.starts in
    let place : v.old.scanner.at ≡ s.scanner.at = ap (λ sc. let k : Scanner = sc in k.at) (v.before ∙ sym same) in
    let size : length (group_bytes v.takes.held) ≡ length (group_bytes (b.first ∷ b.more)) = ap (λ g. length (group_bytes g)) b.is_held in
    let passed : s.scanner.passed ≡ view.before.passed = ap (λ sc. let k : Scanner = sc in k.passed) same in
    record {
      kept = [];
      rest = b.first ∷ b.more;
      others = b.rest;
      division = b.viewed;
      left = ap (held_lines_left view.source.now) same ∙ b.lines;
      texts = tt;
      counted = omega arith;
      end = omega arith;
      within = w;
      encoding = ap (λ sc. let k : Scanner = sc in encoding_of k.encoding) same;
    }

-- what is left of the group begins with the line that was taken
record IsNextLine (view : Walk) (next : ℕ) (old new : GroupReader) (h : HasTexts view next old) (k : TakesHeldLine view.source.now old new) : Type 0 where
  more : List HeldLine
  rest : h.rest ≡ held_line (encoding_of view.before.encoding) view.source.now new.scanner.line k.ending ∷ more
  left : held_lines_left view.source.now new.scanner ≡ more ++ h.others

next-line : {view : Walk} {next : ℕ} {old new : GroupReader} (h : HasTexts view next old) (k : TakesHeldLine view.source.now old new)
    → old.scanner.at < next → IsNextLine view next old new h k
next-line {view} {next} {old} {new} h k l =
    let line = held_line (encoding_of view.before.encoding) view.source.now new.scanner.line k.ending in
    let left = sym h.left ∙ k.lines ∙ ap (λ e. held_line e view.source.now new.scanner.line k.ending ∷ held_lines_left view.source.now new.scanner) h.encoding in
    split h.rest left refl
  where
    split : (rest : List HeldLine)
        → rest ++ h.others ≡ held_line (encoding_of view.before.encoding) view.source.now new.scanner.line k.ending ∷ held_lines_left view.source.now new.scanner
        → h.rest ≡ rest → IsNextLine view next old new h k
    split [] q is =
        let none : length (group_bytes h.rest) ≡ 0 = ap (λ g. length (group_bytes g)) is in
        let end = h.end in
        absurd (omega arith)
    split (i ∷ more) q is = record { more = more; rest = is ∙ cc; left = cc }

-- One more line is text.
pub texts-more : {view : Walk} {next : ℕ} {old new : GroupReader} → HasTexts view next old → (k : TakesHeldLine view.source.now old new) → old.scanner.at < next
    → IsLineIn (encoding_of view.before.encoding) (raw_line_bytes view.source.now new.scanner.line) → HasTexts view next new
texts-more {view} {next} {old} {new} h k l text =
    let line = held_line (encoding_of view.before.encoding) view.source.now new.scanner.line k.ending in
    let n = next-line h k l in
    let sizes = has-sizes view.source.now old new k in
    let bytes = sizes.line in
    let ending = sizes.ending_size in
    let ordered = k.ordered in
    let placed = k.placed in
    let starts = k.starts in
    let passed = k.passed in
    let counted = h.counted in
    let end = h.end in
    let size : length (group_bytes h.rest) ≡ length line.bytes + (length (ending_bytes k.ending) + length (group_bytes n.more)) =
    ap (λ g. length (group_bytes g)) n.rest ∙ length-append line.bytes _
    ∙ ap (λ m. length line.bytes + m) (length-append (ending_bytes k.ending) (group_bytes n.more)) in
    let count : length (h.kept ++ line ∷ []) ≡ length h.kept + 1 = length-append h.kept (line ∷ []) in
    record {
      kept = h.kept ++ line ∷ [];
      rest = n.more;
      others = h.others;
      division = h.division ∙ ap (λ g. h.kept ++ g) n.rest ∙ sym (append_assoc h.kept (line ∷ []) n.more);
      left = n.left;
      texts = are-texts (encoding_of view.before.encoding) h.kept (line ∷ []) h.texts (text, tt);
      counted = omega arith;
      end = omega arith;
      within = k.within;
      encoding = k.encoding ∙ h.encoding;
    }

-- The line that was taken isn't.
pub texts-found : {view : Walk} {next : ℕ} {old new : GroupReader} → HasTexts view next old → (k : TakesHeldLine view.source.now old new) → old.scanner.at < next
    → ¬ (IsLineIn (encoding_of view.before.encoding) (raw_line_bytes view.source.now new.scanner.line)) → TellsIllFormedLine view (Some new.scanner.passed)
texts-found {view} {next} {old} {new} h k l not_text =
    let line = held_line (encoding_of view.before.encoding) view.source.now new.scanner.line k.ending in
    let n = next-line h k l in
    let passed = k.passed in
    let counted = h.counted in (
      length h.kept + 1,
      (omega arith),
      record {
        kept = h.kept;
        line = line;
        more = n.more;
        division = h.division ∙ ap (λ g. h.kept ++ g) n.rest;
        texts = h.texts;
        ill_formed = not_text;
        is_number = refl;
      },
    )

-- All were looked at.
pub texts-all : {view : Walk} {next : ℕ} {s : GroupReader} → HasTexts view next s → (next ≤ s.scanner.at) ⊎ (s.scanner.is_done ≡ true)
    → AreLinesIn (encoding_of view.before.encoding) (walked_lines view)
texts-all {view} {next} {s} h (inl over) =
    let e = encoding_of view.before.encoding in
    let end = h.end in
    let u : unit_size e ≡ 1 = subst (λ v. unit_size v ≡ 1) h.encoding h.within.bytes in
    subst (AreLinesIn e) (sym h.division) (are-texts e h.kept h.rest h.texts (empty-texts e h.rest u (omega arith)))
texts-all {view} {next} {s} h (inr done) =
    let e = encoding_of view.before.encoding in
    let none : held_lines_left view.source.now s.scanner ≡ [] = rw done refl in
    let rest : h.rest ≡ [] = no-front h.rest h.others (sym h.left ∙ none) in
    subst (AreLinesIn e) (sym h.division) (are-texts e h.kept h.rest h.texts (subst (AreLinesIn e) (sym rest) tt))

-- A reader in the state before the group that was returned last is within the body.
pub within-before : {view : Walk} {group : WalkedGroup} (s : GroupReader) → (v : IsViewed view group) → s.scanner ≡ view.before → IsWithin view.source.now s
within-before {view} {group} s v same =
    let is : v.old.scanner ≡ s.scanner = v.before ∙ sym same in
    record {
      bytes = subst (λ sc. let k : Scanner = sc in unit_size (encoding_of k.encoding) ≡ 1) is v.within_old.bytes;
      within_body = subst (λ sc. IsInBody sc view.source.now) is v.within_old.within_body;
    }

-- ---- the order of the places

pub view-ordered : {view : Walk} {group : WalkedGroup} → IsViewed view group → ArePlacedInOrder group (walked_places view group)
view-ordered {view} {group} v =
    let b = left-before v in
    let held = b.first ∷ b.more in
    let e = encoding_of view.before.encoding in
    let added : joined (as_lines held) ≡ added_lines true held = group-added b.first b.more b.alone in
    let text : walked_text view ≡ added_lines true held = ap (λ g. joined (as_lines g)) b.viewed ∙ added in
    let size : length (walked_text view) ≡ length (added_lines true held) = ap length text in
    let starts : group.group.start ≡ view.before.at = v.takes.starts ∙ ap (λ sc. let k : Scanner = sc in k.at) v.before in
    let unended = v.takes.span.unended in
    let after = v.takes.span.next in
    let next = v.next in
    let ends : length (unended_bytes v.takes.held) ≡ length (unended_bytes held) = ap (λ g. length (unended_bytes g)) b.is_held in
    let whole : length (group_bytes v.takes.held) ≡ length (unended_bytes v.takes.held) + length (ending_bytes (last_ending v.takes.held)) =
    ap length (bytes-unended v.takes.held) ∙ length-append (unended_bytes v.takes.held) (ending_bytes (last_ending v.takes.held)) in
    let last : (n : ℕ) → n ≤ length (walked_text view) → cut_size (cut_in view n) ≤ length (unended_bytes held) =
    λ n l. subst (λ g. cut_size (cut_at e true n g) ≤ length (unended_bytes held)) (sym b.viewed) (cut-unended e true n b.first b.more (omega arith)) in
    let cut : (m n : ℕ) → m ≤ n → cut_size (cut_in view m) ≤ cut_size (cut_in view n) = λ m n l. cut-ordered e true m n (walked_lines view) l in
    by (split_of (walked_text view)) (split_of-meets (walked_text view)) starts (omega arith) (omega arith) cut (λ n l. let z = last n l in omega arith)
  where
    by : (s : split.Logical) → IsSplit (walked_text view) s → group.group.start ≡ view.before.at → group.group.start ≤ group.group.end
        → group.group.end ≤ group.next
        → ((m n : ℕ) → m ≤ n → cut_size (cut_in view m) ≤ cut_size (cut_in view n))
        → ((n : ℕ) → n ≤ length (walked_text view) → view.before.at + cut_size (cut_in view n) ≤ group.group.end)
        → ArePlacedInOrder group (places_by (group_kind s) view group (counts_by s (walked_text view)))
    by split.blank h starts ends next cut last =
        record { indent = ends; key = omega arith; between = omega arith; value = omega arith; after = omega arith; ending = next }
    by (split.comment text) h starts ends next cut last =
        let c = counts_by (split.comment text) (walked_text view) in
        let o = counts-ordered (split.comment text) (walked_text view) h in
        let one = cut c.key_start c.key_end o.key in
        let two = cut c.key_end c.value_start o.between in
        let three = cut c.value_start c.value_end o.value in
        let four = last c.value_end o.end in
        record { indent = omega arith; key = omega arith; between = omega arith; value = omega arith; after = four; ending = next }
    by (split.pair key value) h starts ends next cut last =
        let c = counts_by (split.pair key value) (walked_text view) in
        let o = counts-ordered (split.pair key value) (walked_text view) h in
        let one = cut c.key_start c.key_end o.key in
        let two = cut c.key_end c.value_start o.between in
        let value_order = o.value in
        let end_order = o.end in
        let three = last c.value_start (omega arith) in
        record { indent = omega arith; key = omega arith; between = omega arith; value = three; after = omega arith; ending = next }

-- ---- a group whose logical line is its bytes

natural-bytes : (place : Place) (natural decoded joined : List ℕ) → is_natural place ≡ true → logical.placed_bytes place natural decoded joined ≡ natural
natural-bytes Natural natural decoded joined h = refl
natural-bytes Decoded natural decoded joined h = absurd (cc)
natural-bytes Joined natural decoded joined h = absurd (cc)

adds-closed : (x : List ℕ) → (not (is_comment_line x) && is_open x) ≡ false → adds true x ≡ x
adds-closed x h = elim (cases_Bool (is_comment_line x)) [
  | inl k ↦ rw k refl
  | inr k ↦ let closed : is_open x ≡ false = rw k at h in rw k (without_open_backslash-closed x closed)
]

-- The one line of such a group.
record IsSingle (view : Walk) (group : WalkedGroup) : Type 0 where
  first : HeldLine
  lines : walked_lines view ≡ first ∷ []
  is : walked_line view group ≡ first.bytes
  text : chars (walked_line view group) ≡ first.text
  decoded : decoded_line (encoding_of view.before.encoding) first.bytes ≡ first.text
  add : adds true first.text ≡ first.text

plain-single : {view : Walk} {group : WalkedGroup} → IsViewed view group → IsPlain view group → IsSingle view group
plain-single {view} {group} v p =
    let body = view.source.now in
    let before = left-before v in
    let first = before.first in
    let held = v.takes.held in
    let passed = v.takes.passed in
    let number = v.takes.number in
    let single = p.single in
    let sizes : length held ≡ suc (length before.more) = ap length before.is_held in
    let none : before.more ≡ [] = nil_from_length before.more (omega arith) in
    let one : held ≡ first ∷ [] = before.is_held ∙ ap (λ m. first ∷ m) none in
    let start = group.group.start in
    let end = group.group.end in
    let next = v.takes.span.next in
    let unended = v.takes.span.unended in
    let whole = bytes-unended held in
    let whole_size : length (group_bytes held) ≡ length (unended_bytes held) + length (ending_bytes (last_ending held)) =
    ap length whole ∙ length-append (unended_bytes held) (ending_bytes (last_ending held)) in
    let size : end - start ≡ length (unended_bytes held) = omega arith in
    let natural : take (end - start) (drop start body) ≡ first.bytes =
    ap (λ n. take n (drop start body)) size
    ∙ sym (take-take (length (unended_bytes held)) (view.reader.scanner.at - start) (drop start body) (omega arith))
    ∙ ap (take (length (unended_bytes held))) (group-bytes v.within_old v.takes ∙ whole)
    ∙ take-append_seam (unended_bytes held) (ending_bytes (last_ending held))
    ∙ ap unended_bytes one in
    let opened : (not (is_comment_line first.text) && is_open first.text) ≡ false = ap is_left_open (sym one) ∙ sym v.takes.span.opens ∙ p.closed in
    record {
      first = first;
      lines = before.viewed ∙ ap (λ m. first ∷ m) none;
      is = natural-bytes view.reader.line.place (take (end - start) (drop start body)) view.reader.line.decoded view.reader.line.joined p.natural ∙ natural;
      text = v.takes.text ∙ ap (λ g. joined (as_lines g)) one ∙ joined-alone (record { number = 0; text = first.text }) opened;
      decoded = (decoded-front (encoding_of view.before.encoding) (first ∷ before.more) before.rest
          (subst (AreDecoded (encoding_of view.before.encoding)) before.lines (decoded-left body view.before))).0;
      add = adds-closed first.text opened;
    }

-- In windows-1252 all bytes are text.
pub all-texts : (lines : List HeldLine) → AreLinesIn windows_1252 lines
all-texts [] = tt
all-texts (h ∷ hs) = (tt, all-texts hs)

-- Its line is text of the encoding.
pub plain-texts : {view : Walk} {group : WalkedGroup} → IsViewed view group → IsPlain view group → AreLinesIn (encoding_of view.before.encoding) (walked_lines view)
plain-texts {view} {group} v p =
    let e = encoding_of view.before.encoding in
    let s = plain-single v p in
    subst (AreLinesIn e) (sym s.lines) (line-text e s.first.bytes (viewed-editable v) (subst IsUtf8 s.is v.takes.held_text.text), tt)

-- A position in its line is one in its bytes.
pub plain-place : {view : Walk} {group : WalkedGroup} (position : ℕ) → (v : IsViewed view group) → IsPlain view group
    → IsCharBoundary (walked_line view group) position
    → position ≤ length (walked_line view group) → group.group.start + position ≡ place_in view (length (chars (take position (walked_line view group))))
plain-place {view} {group} position v p b l =
    let e = encoding_of view.before.encoding in
    let line = walked_line view group in
    let s = plain-single v p in
    let bytes = s.first.bytes in
    let u : IsUtf8 line = v.takes.held_text.text in
    let n = length (chars (take position line)) in
    let head : length (head_of e n line) ≡ position =
    plain-head e line position (viewed-editable v) u b l (s.text ∙ sym s.decoded ∙ ap (decoded_line e) (sym s.is)) in
    let parts = cut-counts line position u b in
    let text_size : length (chars line) ≡ length (adds true s.first.text) = ap length (s.text ∙ sym s.add) in
    let within : n ≤ length (adds true s.first.text) = omega arith in
    let zero_indent : indent_size true s.first.text + n ≡ n = omega arith in
    let cut : cut_size (cut_in view n) ≡ 0 + length (head_of e (indent_size true s.first.text + n) bytes) =
    ap (λ g. cut_size (cut_at e true n g)) s.lines ∙ ap cut_size (cut-here e true n s.first [] within) in
    let same : length (head_of e (indent_size true s.first.text + n) bytes) ≡ length (head_of e n line) =
    ap (λ m. length (head_of e m bytes)) zero_indent ∙ ap (λ d. length (head_of e n d)) (sym s.is) in
    let starts : group.group.start ≡ view.before.at = v.takes.starts ∙ ap (λ sc. let k : Scanner = sc in k.at) v.before in
    omega arith
