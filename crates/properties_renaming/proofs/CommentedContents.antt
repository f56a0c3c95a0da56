-- What a source with comments set says: its groups are those of the source, with new comment lines in place of the old
-- ones. So its pairs are those of the source, and so are its comments but for these.
use Rattle.std.proofs.Common.{inl, inr, ◌≡◌, ◌≢◌, ◌⊎◌, ℕ, Bool, true, false, List, [], ◌∷◌, ◌++◌, All, map, refl, sym, ap, ap₂, ◌∙◌, subst, arith, Option, Some, None, append_assoc, append-nil}
use Rattle.std.specs.Prelude.{bytes_eq, flat_map, if◌then◌else◌, not, ◌&&◌, ◌||◌, ◌==◌}
use Rattle.std.specs.List.{AllByRecursion}
use Rattle.std.specs.Option.{option_map, unwrap_or}
use Rattle.std.proofs.lemmas.Bool.{cases_Bool, cond_both}
use Rattle.std.proofs.lemmas.List.Elements.{recursion_from_All}
use Rattle.std.proofs.lemmas.Slice.Eq.{bytes_eq-Decides}
use Rattle.properties_format.specs.Text.{LineEnding, backslash, begins, is_blank, is_comment_sign, is_empty, is_line_ending, lf, line_ending_text, line_feed, scalar, space}
use Rattle.properties_format.specs.Encoding.{Encoding, InForce, Repertoire, begins_like_bom, byte_order_mark, repertoire_in_force}
use Rattle.properties_format.specs.Lines.{AreLines, Ended, HoldsNoLineEnding, end, is_comment_line, joined, put_together}
use Rattle.properties_format.specs.Split.{AreBlanks, IsSplit, Logical}
use Rattle.properties_format.specs.Escapes.{Meaning, breaks, means}
use Rattle.properties_format.specs.Printing.{encoded_text, in_prefix, literal, may_be_unescaped, printed_characters, unicode_escape}
use Rattle.properties_format.specs.Items.{AreItems, Content, IsOutcome, Outcome, broken, comment, given, ignored, pair}
use Rattle.properties_format.specs.Changed.{HoldNoPair, contents, line_before}
use Rattle.properties_format.specs.Body.{HasKey, HeldLine, NoneHasKey, as_lines, group_bytes, groups_bytes, held_in, last_ending}
use Rattle.properties_format.specs.Edited.{guarding_lf, is_editable}
use Rattle.properties_format.specs.Valued.{ending_among, ending_in}
use Rattle.properties_format.specs.Settings.{IsGoodPrefix}
use Rattle.properties_format.specs.Writing.{HoldsNoBackslash}
use Rattle.properties_format.specs.Computed.Body.{has_key, held_groups_of}
use Rattle.properties_format.specs.Computed.Edited.{IsSoundOutcome}
use Rattle.properties_format.specs.Computed.Cut.{decoded_line}
use Rattle.properties_format.specs.Computed.Escapes.{meaning_of}
use Rattle.properties_format.specs.Computed.Items.{comment_outcome, outcome_of, split_outcome}
use Rattle.properties_format.specs.Computed.Split.{split_of}
use Rattle.properties_format.proofs.Body.Decoded.{decoded-nil, plain-bytes}
use Rattle.properties_format.proofs.Body.Groups.{groups_bytes-append, held_groups_of-only}
use Rattle.properties_format.proofs.Changed.Contents.{content_before, contents_among}
use Rattle.properties_format.proofs.Changed.Items.{IsSoundLine, sound-source, source-sound}
use Rattle.properties_format.proofs.Edited.ByteOrderMarks.{in_force as stays_in_force}
use Rattle.properties_format.proofs.Edited.Fronts.{outcome-empty, with_line}
use Rattle.properties_format.proofs.Edited.LogicalLines.{none-lines}
use Rattle.properties_format.proofs.Edited.Made.{has_key-false, has_key-true}
use Rattle.properties_format.proofs.Edits.Lines.{OfEach, logical_lines_of}
use Rattle.properties_format.proofs.GroupsInTurn.Merged.{AreInTurn, IsEndedGroup, in-turn}
use Rattle.properties_format.proofs.Items.Unique.{items_of-only, outcome_of-meets, outcome_of-only}
use Rattle.properties_format.proofs.Lines.Plain.{plain-append}
use Rattle.properties_format.proofs.Plan.Added.{blank}
use Rattle.properties_format.proofs.Plan.Lines.{guarded-lines, lines_of, slots-lines}
use Rattle.properties_format.proofs.Plan.Listed.{guarded}
use Rattle.properties_format.proofs.Plan.Slots.{AreSlotsOf, last-empty, no_line, turn-cons}
use Rattle.properties_format.proofs.Printing.Characters.{blank-ascii, blanks-ascii, printed_characters-append, printed_characters-encodable}
use Rattle.properties_format.proofs.ReadBack.Bytes.{ascii-scalars, printed_characters-scalars, scalars-append}
use Rattle.properties_format.proofs.ReadBack.Comments.{comment-read, literal-ascii, prefix-printed, sign-ascii, slashes-right}
use Rattle.properties_format.proofs.ReadBack.Pairs.{blanks-plain, blanks-slashes}
use Rattle.properties_format.proofs.ReadBack.Spellings.{unicode-printed}
use Rattle.properties_format.proofs.ReadBack.Texts.{rest-scalars, safe-plain}
use Rattle.properties_format.proofs.Groups.Joined.{joined-comment_line}
use Rattle.properties_format.proofs.Changed.Maps.{other-test}
use Rattle.properties_format.proofs.Maps.{first-none, map-only, value_in, value_in-meets}
use Rattle.properties_format.specs.Computed.Maps.{first_value}
use Rattle.properties_editing.specs.Views.{with_bytes}
use Rattle.properties_format.proofs.Split.Blanks.{without_leading_blanks-only}
use Rattle.properties_format.proofs.Split.Unique.{sign-full, split_of-meets}
use Rattle.properties_format.proofs.Valued.Heads.{ascii-among}
use Rattle.properties_format.proofs.Valued.Revalued.{text-own}
use Rattle.properties_renaming.specs.CommentLines.{AreCommentGroups, IsCommentGroup, lines_in_text}
use Rattle.properties_renaming.specs.Sections.{AreMadeOf, AreSections, Section, groups_of, is_among}
use Rattle.properties_renaming.specs.Commenting.{AreCommentsSet, HasLines, HaveKeys, IsCommented, IsStyleFor, LineStyle, NewText, comment_line, ending_or, gap_before, other_sign, style_below, text_for, texts_of}
use Rattle.properties_format.specs.Separators.{last_sign}
use Rattle.properties_renaming.specs.Commented.{HasOneOf, IsLeftOf}
use Rattle.properties_renaming.specs.Laws.{AreAmong, AreLastPairs, AreOthersIn, ChangedComment, OfTexts, RemovingWithCommentsKeepsTheRest, RemovingWithCommentsTakesTheValues, SettingCommentsKeepsTheMap, SettingCommentsKeepsTheRest, SettingPlainCommentsBreaksNothing, changed_keys, keys_of, with_new_comments, with_old_comments}
use Rattle.properties_renaming.proofs.CommentGroups.{comment-no_key, comments-join, comments-parts, line-blank, line-pair}
use Rattle.properties_renaming.proofs.KeyPlaces.{decoded-past}
use Rattle.properties_renaming.proofs.LastLines.{text-some}
use Rattle.properties_renaming.proofs.ManyRenames.{key-only}
use Rattle.properties_renaming.proofs.SectionedGroups.{groups-append, none-both}
use Rattle.properties_renaming.proofs.RenamedContents.{hold-none, is-nil, no-bytes, value-contents, value_among, value_of}

-- ---- what is printed for a line

literal-plain : (r : Repertoire) (c : ℕ) → scalar c → is_line_ending c ≡ false → HoldsNoLineEnding (literal r c)
literal-plain r c s l =
    cond_both (may_be_unescaped r c) (c ∷ []) (unicode_escape c) HoldsNoLineEnding (λ k. (l, tt))
    (λ k. let p = unicode-printed c s in subst HoldsNoLineEnding (sym p.text) (safe-plain p.spelling p.safe))

text-plain : (r : Repertoire) (x : List ℕ) → AllByRecursion scalar x → HoldsNoLineEnding x → HoldsNoLineEnding (printed_characters r in_prefix x)
text-plain r [] s p = tt
text-plain r (c ∷ x) s p = plain-append (literal r c) (printed_characters r in_prefix x) (literal-plain r c s.0 p.0) (text-plain r x s.1 p.1)

sign-line : (indent : List ℕ) (sign : ℕ) (rest : List ℕ) → AreBlanks indent → is_comment_sign sign ≡ true → is_comment_line (indent ++ (sign ∷ rest)) ≡ true
sign-line indent sign rest b s = ap (begins is_comment_sign) (without_leading_blanks-only indent (sign ∷ rest) b (sign-full sign s)) ∙ s

gap-blank : (blank x : List ℕ) → AreBlanks blank → AreBlanks (gap_before blank x)
gap-blank blank [] h = tt
gap-blank [] (c ∷ x) h = cond_both (is_blank c) (space ∷ []) [] AreBlanks (λ k. (refl, tt)) (λ k. tt)
gap-blank (b ∷ blank) (c ∷ x) h = h

-- A style of comment lines.
record IsStyle (style : LineStyle) (by : LineEnding) : Type 0 where
  indent : AreBlanks style.indent
  is_sign : is_comment_sign style.sign ≡ true
  blank : AreBlanks style.blank
  ending : style.ending ≡ line_ending_text by

style-below : (separator : ℕ) (style : LineStyle) (by : LineEnding) → IsStyle style by → IsStyle (style_below separator style) by
style-below separator style by look = record {
  indent = look.indent;
  is_sign = cond_both (style.sign == separator) (other_sign separator) style.sign (λ s. is_comment_sign s ≡ true)
      (λ k. cond_both (separator == 35) 33 35 (λ s. is_comment_sign s ≡ true) (λ l. refl) (λ l. refl)) (λ k. look.is_sign);
  blank = look.blank;
  ending = look.ending;
}

-- ---- a new comment line is a group

abbrev line_bytes : Repertoire → LineStyle → List ℕ → List ℕ
line_bytes r style x = style.indent ++ (style.sign ∷ (gap_before style.blank x ++ encoded_text r.encoding (printed_characters r in_prefix x)))

abbrev new_group : Repertoire → LineStyle → LineEnding → List ℕ → List HeldLine
new_group r style by x = record { bytes = line_bytes r style x; text = decoded_line r.encoding (line_bytes r style x); ending = Some by } ∷ []

module _ (r : Repertoire) (style : LineStyle) (by : LineEnding) (ok : is_editable r.encoding ≡ true) (look : IsStyle style by) where
  line-text : (x : List ℕ) → AllByRecursion scalar x
      → decoded_line r.encoding (line_bytes r style x) ≡ style.indent ++ (style.sign ∷ (gap_before style.blank x ++ printed_characters r in_prefix x))
  line-text x s =
      let gap = gap_before style.blank x in
      let text = printed_characters r in_prefix x in
      let small = (sign-ascii style.sign look.is_sign).0 in
      let own : decoded_line r.encoding (encoded_text r.encoding text) ≡ text =
      text-own r.encoding text ok (record { scalars = printed_characters-scalars r in_prefix x s; encodable = printed_characters-encodable r in_prefix x }) in
      decoded-past r.encoding style.indent (style.sign ∷ (gap ++ encoded_text r.encoding text)) ok look.indent
      ∙ ap (λ w. style.indent ++ w)
      (ascii-among r.encoding [] style.sign (gap ++ encoded_text r.encoding text) ok small
      ∙ ap (λ w. w ++ style.sign ∷ decoded_line r.encoding (gap ++ encoded_text r.encoding text)) (decoded-nil r.encoding)
      ∙ ap (λ w. style.sign ∷ w) (decoded-past r.encoding gap (encoded_text r.encoding text) ok (gap-blank style.blank x look.blank) ∙ ap (λ w. gap ++ w) own))

  line-comment : (x : List ℕ) → AllByRecursion scalar x → IsCommentGroup (new_group r style by x)
  line-comment x s = ap is_comment_line (line-text x s) ∙ sign-line style.indent style.sign _ look.indent look.is_sign

  line-ended : (x : List ℕ) → AllByRecursion scalar x → HoldsNoLineEnding x → IsEndedGroup r.encoding (new_group r style by x)
  line-ended x s p =
      let gap = gap_before style.blank x in
      let plain : HoldsNoLineEnding (style.indent ++ (style.sign ∷ (gap ++ printed_characters r in_prefix x))) =
      plain-append style.indent (style.sign ∷ (gap ++ printed_characters r in_prefix x)) (blanks-plain style.indent look.indent) (
        (sign-ascii style.sign look.is_sign).1,
        plain-append gap (printed_characters r in_prefix x) (blanks-plain gap (gap-blank style.blank x look.blank)) (text-plain r x s p),
      ) in
      (by, (plain-bytes r.encoding (line_bytes r style x) ok (subst HoldsNoLineEnding (sym (line-text x s)) plain), refl, refl), inl (line-comment x s, refl))

  line-whole : (x : List ℕ) → group_bytes (new_group r style by x) ≡ comment_line r style x
  line-whole x = ap (λ w. line_bytes r style x ++ w) (append-nil (line_ending_text by) ∙ sym look.ending) ∙ simp (append_assoc)

-- ---- several of them

abbrev AreScalarLines : List (List ℕ) → Type 0
AreScalarLines [] = Unit {0}
AreScalarLines (x ∷ xs) = AllByRecursion scalar x × HoldsNoLineEnding x × AreScalarLines xs

abbrev AreEnded : Encoding → List (List HeldLine) → Type 0
AreEnded e [] = Unit {0}
AreEnded e (g ∷ gs) = IsEndedGroup e g × AreEnded e gs

turn-parts : (e : Encoding) (fs : List (List HeldLine)) (g : List HeldLine) (gs : List (List HeldLine)) → AreInTurn e (fs ++ g ∷ gs)
    → AreEnded e fs × AreInTurn e (g ∷ gs)
turn-parts e [] g gs a = (tt, a)
turn-parts e (f ∷ []) g gs a = ((a.0, tt), a.1)
turn-parts e (f ∷ k ∷ fs) g gs a = let m = turn-parts e (k ∷ fs) g gs a.1 in ((a.0, m.0), m.1)

turn-join : (e : Encoding) (fs gs : List (List HeldLine)) → AreEnded e fs → AreInTurn e gs → AreInTurn e (fs ++ gs)
turn-join e [] gs k a = a
turn-join e (f ∷ fs) gs k a = turn-cons e f (fs ++ gs) k.0 (turn-join e fs gs k.1 a)

ended-first : (e : Encoding) (fs gs : List (List HeldLine)) → AreEnded e (fs ++ gs) → AreEnded e fs
ended-first e [] gs k = tt
ended-first e (f ∷ fs) gs k = (k.0, ended-first e fs gs k.1)

ended-last : (e : Encoding) (fs gs : List (List HeldLine)) → AreEnded e (fs ++ gs) → AreEnded e gs
ended-last e [] gs k = k
ended-last e (f ∷ fs) gs k = ended-last e fs gs k.1

ended-join : (e : Encoding) (fs gs : List (List HeldLine)) → AreEnded e fs → AreEnded e gs → AreEnded e (fs ++ gs)
ended-join e [] gs h k = k
ended-join e (f ∷ fs) gs h k = (h.0, ended-join e fs gs h.1 k)

module _ (r : Repertoire) (style : LineStyle) (by : LineEnding) (ok : is_editable r.encoding ≡ true) (look : IsStyle style by) where
  lines-comments : (xs : List (List ℕ)) → AreScalarLines xs → AreCommentGroups (map (new_group r style by) xs)
  lines-comments [] k = tt
  lines-comments (x ∷ xs) k = (line-comment r style by ok look x k.0, lines-comments xs k.2)

  lines-ended : (xs : List (List ℕ)) → AreScalarLines xs → AreEnded r.encoding (map (new_group r style by) xs)
  lines-ended [] k = tt
  lines-ended (x ∷ xs) k = (line-ended r style by ok look x k.0 k.1, lines-ended xs k.2)

  lines-whole : (xs : List (List ℕ)) → groups_bytes (map (new_group r style by) xs) ≡ flat_map (comment_line r style) xs
  lines-whole [] = refl
  lines-whole (x ∷ xs) = ap₂ (λ v w. v ++ w) (line-whole r style by ok look x) (lines-whole xs)

-- ---- contents of groups

-- the contents of groups
abbrev contents_in : List (List HeldLine) → List Content
contents_in gs = contents_among true (lines_of gs)

-- None of them is malformed.
abbrev are_sound : List (List HeldLine) → Type 0
are_sound gs = OfEach IsSoundLine (lines_of gs)

with-content : (x : List ℕ) (xs : List (List ℕ)) → contents_among true (with_line x xs) ≡ content_before (outcome_of x) true (contents_among true xs)
with-content x xs = by (outcome_of x) refl
  where
    by : (o : Outcome) → outcome_of x ≡ o → contents_among true (line_before o x xs) ≡ content_before o true (contents_among true xs)
    by ignored s = refl
    by (given c) s = ap (λ o. content_before o true (contents_among true xs)) s
    by (broken kind) s = ap (λ o. content_before o true (contents_among true xs)) s

content-join : (o : Outcome) (cs ds : List Content) → content_before o true (cs ++ ds) ≡ content_before o true cs ++ ds
content-join ignored cs ds = refl
content-join (given (comment text)) cs ds = refl
content-join (given (pair key value)) cs ds = refl
content-join (broken kind) cs ds = refl

contents-join : (gs hs : List (List HeldLine)) → contents_in (gs ++ hs) ≡ contents_in gs ++ contents_in hs
contents-join [] hs = refl
contents-join (g ∷ gs) hs =
    let x = joined (as_lines g) in
    with-content x (lines_of (gs ++ hs))
    ∙ ap (content_before (outcome_of x) true) (contents-join gs hs)
    ∙ content-join (outcome_of x) (contents_in gs) (contents_in hs)
    ∙ ap (λ w. w ++ contents_in hs) (sym (with-content x (lines_of gs)))

sound-step : (x : List ℕ) (xs : List (List ℕ)) → OfEach IsSoundLine (with_line x xs) → IsSoundLine x × OfEach IsSoundLine xs
sound-step x xs k = by (outcome_of x) refl k
  where
    by : (o : Outcome) → outcome_of x ≡ o → OfEach IsSoundLine (line_before o x xs) → IsSoundLine x × OfEach IsSoundLine xs
    by ignored s k = (rw s tt, k)
    by (given c) s k = k
    by (broken kind) s k = k

sound-rest : (gs hs : List (List HeldLine)) → are_sound (gs ++ hs) → are_sound hs
sound-rest [] hs k = k
sound-rest (g ∷ gs) hs k = sound-rest gs hs (sound-step (joined (as_lines g)) (lines_of (gs ++ hs)) k).1

sound-kept : (x : List ℕ) (ys : List (List ℕ)) → IsSoundLine x → OfEach IsSoundLine ys → OfEach IsSoundLine (with_line x ys)
sound-kept x ys s k = by (outcome_of x)
  where
    by : (o : Outcome) → OfEach IsSoundLine (line_before o x ys)
    by ignored = k
    by (given c) = (s, k)
    by (broken kind) = (s, k)

sound-behind : (fs gs hs : List (List HeldLine)) → (are_sound gs → are_sound hs) → are_sound (fs ++ gs) → are_sound (fs ++ hs)
sound-behind [] gs hs k sound = k sound
sound-behind (f ∷ fs) gs hs k sound =
    let x = joined (as_lines f) in
    let s = sound-step x (lines_of (fs ++ gs)) sound in
    sound-kept x (lines_of (fs ++ hs)) s.0 (sound-behind fs gs hs k s.1)

-- A comment line that isn't malformed says a comment,
comment-said : (x : List ℕ) → is_comment_line x ≡ true → IsSoundLine x → (text : List ℕ) × (outcome_of x ≡ given (comment text))
comment-said x c k = by (split_of x) refl (split_of-meets x)
  where
    of : (raw : List ℕ) (m : Meaning) → meaning_of raw ≡ m → split_of x ≡ Logical.comment raw → (text : List ℕ) × (outcome_of x ≡ given (comment text))
    of raw (means text) s q = (text, ap split_outcome q ∙ ap comment_outcome s)
    of raw (breaks kind) s q = absurd (rw (ap split_outcome q ∙ ap comment_outcome s) at k)

    by : (l : Logical) → split_of x ≡ l → IsSplit x l → (text : List ℕ) × (outcome_of x ≡ given (comment text))
    by Logical.blank q h = let n = line-blank x h in absurd (cc)
    by (Logical.comment raw) q h = of raw (meaning_of raw) refl q
    by (Logical.pair key value) q h = let n = line-pair x key value h in absurd (cc)

-- and so do several,
comments-said : (run more : List (List HeldLine)) → AreCommentGroups run → are_sound (run ++ more)
    → (texts : List (List ℕ)) × (contents_in run ≡ map comment texts)
comments-said [] more c k = ([], refl)
comments-said ([] ∷ run) more c k = absurd c.0
comments-said ((l ∷ []) ∷ run) more c k =
    let x = joined (as_lines (l ∷ [])) in
    let same : x ≡ l.text = joined-comment_line (record { number = 0; text = l.text }) [] c.0 in
    let s = sound-step x (lines_of (run ++ more)) k in
    let t = comment-said x (ap is_comment_line same ∙ c.0) s.0 in
    let m = comments-said run more c.1 s.1 in
    (t.0 ∷ m.0, with-content x (lines_of run) ∙ ap (λ o. content_before o true (contents_in run)) t.1 ∙ ap (λ w. comment t.0 ∷ w) m.1)
comments-said ((l ∷ k ∷ g) ∷ run) more c s = absurd c.0

-- and a pair says itself.
pair-said : (key value : List ℕ) (g : List HeldLine) (gs : List (List HeldLine)) → IsOutcome (joined (as_lines g)) (given (pair key value))
    → contents_in (g ∷ gs) ≡ pair key value ∷ contents_in gs
pair-said key value g gs h =
    let x = joined (as_lines g) in
    with-content x (lines_of gs) ∙ ap (λ o. content_before o true (contents_in gs)) (sym (outcome_of-only x (given (pair key value)) h))

-- ---- new lines without a backslash

clean-join : (x y : List ℕ) → HoldsNoBackslash x → HoldsNoBackslash y → HoldsNoBackslash (x ++ y)
clean-join [] y h k = k
clean-join (c ∷ x) y h k = (h.0, clean-join x y h.1 k)

clean-first : (x y : List ℕ) → HoldsNoBackslash (x ++ y) → HoldsNoBackslash x
clean-first [] y h = tt
clean-first (c ∷ x) y h = (h.0, clean-first x y h.1)

sign-clean : (c : ℕ) → is_comment_sign c ≡ true → (c == backslash) ≡ false
sign-clean c h = grind (arith)

abbrev AreCleanLines : List (List ℕ) → Type 0
AreCleanLines [] = Unit {0}
AreCleanLines (x ∷ xs) = HoldsNoBackslash x × AreCleanLines xs

clean-lines : (ls : List Ended) (last : List ℕ) → HoldsNoBackslash (put_together ls last) → AreCleanLines (texts_of ls last)
clean-lines [] last h = cond_both (is_empty last) [] (last ∷ []) AreCleanLines (λ k. tt) (λ k. (h, tt))
clean-lines (l ∷ ls) last h = (
  clean-first l.text (line_ending_text l.by ++ put_together ls last) h,
  clean-lines ls last (slashes-right (line_ending_text l.by) (put_together ls last) (slashes-right l.text (line_ending_text l.by ++ put_together ls last) h)),
)

blanks-printed : (r : Repertoire) (x : List ℕ) → AreBlanks x → printed_characters r in_prefix x ≡ x
blanks-printed r [] h = refl
blanks-printed r (c ∷ x) h = ap₂ (λ v w. v ++ w) (literal-ascii r c (blank-ascii c h.0)) (blanks-printed r x h.1)

module _ (r : Repertoire) (style : LineStyle) (by : LineEnding) (ok : is_editable r.encoding ≡ true) (look : IsStyle style by) where
  -- Such a line is read as a comment.
  line-sound : (x : List ℕ) → AllByRecursion scalar x → HoldsNoLineEnding x → HoldsNoBackslash x → IsSoundLine (joined (as_lines (new_group r style by x)))
  line-sound x s p n =
      let gap = gap_before style.blank x in
      let gap_blank = gap-blank style.blank x look.blank in
      let prefix = style.indent ++ (style.sign ∷ (gap ++ x)) in
      let small = sign-ascii style.sign look.is_sign in
      let good : IsGoodPrefix prefix = record {
        indent = style.indent;
        sign = style.sign;
        tail = gap ++ x;
        division = refl;
        indented = look.indent;
        signed = look.is_sign;
        one_line = plain-append gap x (blanks-plain gap gap_blank) p;
      } in
      let clean = clean-join style.indent (style.sign ∷ (gap ++ x)) (blanks-slashes style.indent look.indent)
      (sign-clean style.sign look.is_sign, clean-join gap x (blanks-slashes gap gap_blank) n) in
      let scalars = scalars-append style.indent (style.sign ∷ (gap ++ x)) (ascii-scalars style.indent (blanks-ascii style.indent look.indent))
      ((ascii-scalars (style.sign ∷ []) (small.0, tt)).0, scalars-append gap x (ascii-scalars gap (blanks-ascii gap gap_blank)) s) in
      let read = comment-read r prefix [] good clean scalars tt in
      let text : joined (as_lines (new_group r style by x)) ≡ printed_characters r in_prefix prefix ++ [] =
      joined-comment_line (record { number = 0; text = decoded_line r.encoding (line_bytes r style x) }) [] (line-comment r style by ok look x s)
      ∙ line-text r style by ok look x s
      ∙ ap (λ w. style.indent ++ (style.sign ∷ w))
      (ap (λ w. w ++ printed_characters r in_prefix x) (sym (blanks-printed r gap gap_blank)) ∙ sym (printed_characters-append r in_prefix gap x))
      ∙ sym (prefix-printed r style.indent style.sign (gap ++ x) look.indent look.is_sign)
      ∙ sym (append-nil (printed_characters r in_prefix prefix)) in
      subst IsSoundOutcome (sym (ap outcome_of text ∙ read.outcome)) tt

  lines-sound : (xs : List (List ℕ)) (more : List (List HeldLine)) → AreScalarLines xs → AreCleanLines xs → are_sound more
      → are_sound (map (new_group r style by) xs ++ more)
  lines-sound [] more s n k = k
  lines-sound (x ∷ xs) more s n k =
      sound-kept (joined (as_lines (new_group r style by x))) (lines_of (map (new_group r style by) xs ++ more)) (line-sound x s.0 s.1 n.0)
      (lines-sound xs more s.2 n.1 k)

-- ---- the groups of a source

-- All groups are those that have bytes, and a last one that may have none.
record HasRest (e : Encoding) (all : List (List HeldLine)) : Type 0 where
  rest : List (List HeldLine)
  whole : all ≡ with_bytes all ++ rest
  no_bytes : groups_bytes rest ≡ []
  no_keys : (key : List ℕ) → NoneHasKey key rest

has-rest : (e : Encoding) (all : List (List HeldLine)) → AreInTurn e all → HasRest e all
has-rest e [] a = absurd a
has-rest e (g ∷ []) a = elim (cases_Bool (is_empty (group_bytes g))) [
  | inl k ↦ record {
    rest = g ∷ [];
    whole = rw k refl;
    no_bytes = append-nil (group_bytes g) ∙ is-nil (group_bytes g) k;
    no_keys = λ key. (no-bytes e None key g a.0 k, tt);
  }
  | inr k ↦ record { rest = []; whole = rw k refl; no_bytes = refl; no_keys = λ key. tt }
]
has-rest e (g ∷ h ∷ gs) a =
    let m = has-rest e (h ∷ gs) a.1 in record { rest = m.rest; whole = ap (λ w. g ∷ w) m.whole; no_bytes = m.no_bytes; no_keys = m.no_keys }

ending-by : (other : List ℕ) (g : List HeldLine) → (by : LineEnding) × (other ≡ line_ending_text by) → (by : LineEnding) × (ending_or other g ≡ line_ending_text by)
ending-by other g o = of (last_ending g)
  where
    of : (e : Option LineEnding) → (by : LineEnding) × (unwrap_or (option_map line_ending_text e) other ≡ line_ending_text by)
    of None = o
    of (Some by) = (by, refl)

style-is : (other : List ℕ) (run : List (List HeldLine)) (group : List HeldLine) (style : LineStyle) → (by : LineEnding) × (other ≡ line_ending_text by)
    → IsStyleFor other run group style → (by : LineEnding) × IsStyle style by
style-is other run group style o (inl (line, first, s)) =
    let m = ending-by other line o in
    (m.0, record { indent = s.indent_blank; is_sign = s.is_sign; blank = of s.one_blank; ending = s.ending ∙ m.1 })
  where
    of : (style.blank ≡ []) × (begins is_blank s.rest ≡ false) ⊎ (b : ℕ) × (is_blank b ≡ true) × (style.blank ≡ b ∷ []) → AreBlanks style.blank
    of (inl k) = subst AreBlanks (sym k.0) tt
    of (inr (b, i, k)) = subst AreBlanks (sym k) (i, tt)
style-is other run group style o (inr (none, s)) =
    let m = ending-by other group o in
    (m.0, record { indent = s.indent_blank; is_sign = ap is_comment_sign s.sign; blank = subst AreBlanks (sym s.blank) (refl, tt); ending = s.ending ∙ m.1 })

first-scalars : (x y : List ℕ) → AllByRecursion scalar (x ++ y) → AllByRecursion scalar x
first-scalars [] y h = tt
first-scalars (c ∷ x) y h = (h.0, first-scalars x y h.1)

scalar-lines : (ls : List Ended) (last : List ℕ) → AreLines ls last → AllByRecursion scalar (put_together ls last) → AreScalarLines (texts_of ls last)
scalar-lines [] last p s = cond_both (is_empty last) [] (last ∷ []) AreScalarLines (λ k. tt) (λ k. (s, p, tt))
scalar-lines (l ∷ ls) last p s =
    let rest = rest-scalars l.text (line_ending_text l.by ++ put_together ls last) s in (
      first-scalars l.text (line_ending_text l.by ++ put_together ls last) s,
      p.0,
      scalar-lines ls last p.2 (rest-scalars (line_ending_text l.by) (put_together ls last) rest),
    )

-- An LF in front.
guard-slots : (e : Encoding) (b : Bool) (rest : List ℕ) (gs : List (List HeldLine)) → AreSlotsOf e rest gs
    → AreSlotsOf e ((if b then line_feed ∷ [] else []) ++ rest) (guarded e b gs)
guard-slots e true rest gs s = record {
  turn = turn-cons e (blank e lf ∷ []) gs (rw (decoded-nil e) (lf, (tt, refl, refl), inr (refl, refl))) s.turn;
  bytes = ap (λ v. line_feed ∷ v) s.bytes;
}
guard-slots e false rest gs s = s

-- With it, they don't begin like a byte order mark if the source doesn't.
unmarked : (source rest : List ℕ) → begins_like_bom source ≡ false → begins_like_bom (guarding_lf source rest ++ rest) ≡ false
unmarked source rest k = grind (arith)

-- ---- the groups of a source, and those with other comment lines

-- What is true of each text is true of that for a key, and the key is one of these.
text-of : (Holds : List ℕ → Type 0) (ts : List NewText) (key text : List ℕ) → OfTexts Holds ts → text_for ts key ≡ Some text
    → Holds text × (is_among (keys_of ts) key ≡ true)
text-of Holds [] key text h q = absurd (cc)
text-of Holds (t ∷ ts) key text h q = by (text_for ts key) (bytes_eq t.key key) (λ r. text-of Holds ts key text h.1 r) q
  where
    either : (b : Bool) → is_among (keys_of ts) key ≡ true → (b || is_among (keys_of ts) key) ≡ true
    either true m = refl
    either false m = m

    by : (o : Option (List ℕ)) (b : Bool) → (o ≡ Some text → Holds text × (is_among (keys_of ts) key ≡ true))
        → unwrap_or (option_map Some o) (if b then Some t.text else None) ≡ Some text → Holds text × ((b || is_among (keys_of ts) key) ≡ true)
    by (Some x) b k r = let m = k r in (m.0, either b m.1)
    by None true k r = let same : t.text ≡ text = cc in (subst Holds same h.0, refl)
    by None false k r = absurd (cc)

-- Comment lines that are above a group, in place of others.
record IsNewRun (e : Encoding) (run : List (List HeldLine)) (text head : List ℕ) : Type 0 where
  new : List (List HeldLine)
  comments : AreCommentGroups new
  ended : AreEnded e run → AreEnded e new
  bytes : groups_bytes new ≡ head
  clean : HoldsNoBackslash text → (old more : List (List HeldLine)) → are_sound (run ++ old) → are_sound more → are_sound (new ++ more)

sound-run : (run old more : List (List HeldLine)) → are_sound (run ++ old) → are_sound more → are_sound (run ++ more)
sound-run run old more sound k = sound-behind run old more (λ s. k) sound

module _ (r : Repertoire) (ok : is_editable r.encoding ≡ true) (other : List ℕ) (o : (by : LineEnding) × (other ≡ line_ending_text by)) where
  new-run : (separator : ℕ) (run : List (List HeldLine)) (group : List HeldLine) (text head : List ℕ) → All scalar text → AreCommentGroups run → HasLines r other separator run group text head
      → IsNewRun r.encoding run text head
  new-run separator run group text head scalars c h = by h.set
    where
      by : (h.texts ≡ h.lines) × (head ≡ groups_bytes run)
          ⊎ (h.texts ≢ h.lines) × ((style : LineStyle) × IsStyleFor other run group style × (head ≡ flat_map (comment_line r (style_below separator style)) h.lines))
          → IsNewRun r.encoding run text head
      by (inl (same, is)) = record {
        new = run;
        comments = c;
        ended = λ k. k;
        bytes = sym is;
        clean = λ n old more sound k. sound-run run old more sound k;
      }
      by (inr (apart, (plain, is_style, is))) =
          let plain_look = style-is other run group plain o is_style in
          let style = style_below separator plain in
          let look : (by : LineEnding) × IsStyle style by = (plain_look.0, style-below separator plain plain_look.0 plain_look.1) in
          let lines = subst AreScalarLines (sym h.are_lines.texts_are)
          (scalar-lines h.are_lines.lines.ended h.are_lines.lines.last h.are_lines.are_lines.are_lines
          (subst (AllByRecursion scalar) h.are_lines.are_lines.text (recursion_from_All scalar text scalars))) in
          record {
            new = map (new_group r style look.0) h.lines;
            comments = lines-comments r style look.0 ok look.1 h.lines lines;
            ended = λ k. lines-ended r style look.0 ok look.1 h.lines lines;
            bytes = lines-whole r style look.0 ok look.1 h.lines ∙ sym is;
            clean = λ n old more sound k.
                lines-sound r style look.0 ok look.1 h.lines more lines
                (subst AreCleanLines (sym h.are_lines.texts_are)
                (clean-lines h.are_lines.lines.ended h.are_lines.lines.last (subst HoldsNoBackslash h.are_lines.are_lines.text n))) k;
          }

-- Lines above the comment stay.
run-behind : {e : Encoding} {run : List (List HeldLine)} {text head : List ℕ} (above low : List (List HeldLine)) → AreCommentGroups above → run ≡ above ++ low
    → IsNewRun e low text head → IsNewRun e run text (groups_bytes above ++ head)
run-behind {e} {run} {text} {head} above low c division n = subst (λ gs. IsNewRun e gs text (groups_bytes above ++ head)) (sym division) (record {
  new = above ++ n.new;
  comments = comments-join above n.new c n.comments;
  ended = λ k. ended-join e above n.new (ended-first e above low k) (n.ended (ended-last e above low k));
  bytes = groups_bytes-append above n.new ∙ ap (λ w. groups_bytes above ++ w) n.bytes;
  clean = λ clean old more sound k.
      subst are_sound (sym (append_assoc above n.new more))
      (sound-behind above (low ++ old) (n.new ++ more) (λ s. n.clean clean old more s k) (subst are_sound (append_assoc above low old) sound));
})

-- How contents changed, and that the comments of all keys did that a pair of these groups has.
record HasChanges (texts : List NewText) (gs : List (List HeldLine)) (old new : List Content) : Type 0 where
  changes : List ChangedComment
  last : List Content
  was : old ≡ with_old_comments changes last
  now : new ≡ with_new_comments changes last
  are_last : AreLastPairs (keys_of texts) changes last
  there : (key text : List ℕ) → text_for texts key ≡ Some text → NoneHasKey key gs ⊎ (is_among (changed_keys changes) key ≡ true)

-- More contents in front.
changed-behind : {texts : List NewText} {gs : List (List HeldLine)} (hs : List (List HeldLine)) (front old new : List Content) (h : HasChanges texts gs old new)
    → ((key text : List ℕ) → text_for texts key ≡ Some text → NoneHasKey key gs → NoneHasKey key hs) → HasChanges texts hs (front ++ old) (front ++ new)
changed-behind {texts} {gs} hs front old new h more = by h.changes h.was h.now h.are_last h.there
  where
    by : (cs : List ChangedComment) → old ≡ with_old_comments cs h.last → new ≡ with_new_comments cs h.last → AreLastPairs (keys_of texts) cs h.last
        → ((key text : List ℕ) → text_for texts key ≡ Some text → NoneHasKey key gs ⊎ (is_among (changed_keys cs) key ≡ true))
        → HasChanges texts hs (front ++ old) (front ++ new)
    by [] was now last there = record {
      changes = [];
      last = front ++ h.last;
      was = ap (λ w. front ++ w) was;
      now = ap (λ w. front ++ w) now;
      are_last = tt;
      there = λ key text q. elim (there key text q) [
        | inl none ↦ inl (more key text q none)
        | inr among ↦ inr among
      ];
    }
    by (c ∷ cs) was now last there = record {
      changes = record c { kept = front ++ c.kept } ∷ cs;
      last = h.last;
      was = ap (λ w. front ++ w) was ∙ sym (append_assoc front c.kept _);
      now = ap (λ w. front ++ w) now ∙ sym (append_assoc front c.kept _);
      are_last = last;
      there = λ key text q. elim (there key text q) [
        | inl none ↦ inl (more key text q none)
        | inr among ↦ inr among
      ];
    }

-- The groups of a source, and those with other comment lines.
record AreNewGroups (e : Encoding) (texts : List NewText) (old : List (List HeldLine)) (body : List ℕ) : Type 0 where
  groups : List (List HeldLine)
  turn : (front : List (List HeldLine)) → AreInTurn e (front ++ old) → AreInTurn e (front ++ groups)
  bytes : groups_bytes groups ≡ body
  sound : OfTexts HoldsNoBackslash texts → are_sound old → are_sound groups
  changed : are_sound old → are_sound groups → HasChanges texts old (contents_in old) (contents_in groups)

comments-none : (key : List ℕ) (gs : List (List HeldLine)) → AreCommentGroups gs → NoneHasKey key gs
comments-none key [] h = tt
comments-none key (g ∷ gs) h = (comment-no_key key g h.0, comments-none key gs h.1)

none-before : (key : List ℕ) (run : List (List HeldLine)) (g : List HeldLine) (gs : List (List HeldLine)) → AreCommentGroups run → has_key key g ≡ false
    → NoneHasKey key gs → NoneHasKey key (run ++ g ∷ gs)
none-before key run g gs c other none = none-both key run (g ∷ gs) (comments-none key run c) (has_key-false key g other, none)

none-rest : (key : List ℕ) (ss : List Section) (last tail : List (List HeldLine)) → (NoneHasKey key last → NoneHasKey key tail) → NoneHasKey key (groups_of ss last)
    → NoneHasKey key (groups_of ss tail)
none-rest key [] last tail k h = k h
none-rest key (s ∷ ss) last tail k h = behind s.run (none-rest key ss last tail k) h
  where
    behind : (run : List (List HeldLine)) → (NoneHasKey key (groups_of ss last) → NoneHasKey key (groups_of ss tail))
        → NoneHasKey key (run ++ s.group ∷ groups_of ss last) → NoneHasKey key (run ++ s.group ∷ groups_of ss tail)
    behind [] rest h = (h.0, rest h.1)
    behind (g ∷ run) rest h = (h.0, behind run rest h.1)

contents-split : (run : List (List HeldLine)) (g : List HeldLine) (gs : List (List HeldLine))
    → contents_in (run ++ g ∷ gs) ≡ contents_in (run ++ g ∷ []) ++ contents_in gs
contents-split run g gs = ap contents_in (sym (append_assoc run (g ∷ []) gs)) ∙ contents-join (run ++ g ∷ []) gs

sound-behind_group : (run : List (List HeldLine)) (g : List HeldLine) (gs : List (List HeldLine)) → are_sound (run ++ g ∷ gs)
    → IsSoundLine (joined (as_lines g)) × are_sound gs
sound-behind_group run g gs k = sound-step (joined (as_lines g)) (lines_of gs) (sound-rest run (g ∷ gs) k)

-- One section more.
with-run : {e : Encoding} {texts : List NewText} {old : List (List HeldLine)} {text head more body : List ℕ} (s : Section) (m : AreNewGroups e texts old more)
    (n : IsNewRun e s.run text head) → (OfTexts HoldsNoBackslash texts → HoldsNoBackslash text) → body ≡ (head ++ group_bytes s.group) ++ more
    → (are_sound (s.run ++ s.group ∷ old) → are_sound (n.new ++ s.group ∷ m.groups)
    → HasChanges texts (s.run ++ s.group ∷ old) (contents_in (s.run ++ s.group ∷ old)) (contents_in (n.new ++ s.group ∷ m.groups)))
    → AreNewGroups e texts (s.run ++ s.group ∷ old) body
with-run {e} {old = old} {head = head} {more} s m n clean whole changed = record {
  groups = n.new ++ s.group ∷ m.groups;
  turn = λ front k.
      let parts = turn-parts e (front ++ s.run) s.group old (subst (AreInTurn e) (sym (append_assoc front s.run (s.group ∷ old))) k) in
      turn-join e front (n.new ++ s.group ∷ m.groups) (ended-first e front s.run parts.0)
      (turn-join e n.new (s.group ∷ m.groups) (n.ended (ended-last e front s.run parts.0)) (m.turn (s.group ∷ []) parts.1));
  bytes = groups_bytes-append n.new (s.group ∷ m.groups)
      ∙ ap₂ (λ v w. v ++ w) n.bytes (ap (λ w. group_bytes s.group ++ w) m.bytes)
      ∙ sym (append_assoc head (group_bytes s.group) more)
      ∙ sym whole;
  sound = λ c k.
      let q = sound-behind_group s.run s.group old k in
      n.clean (clean c) (s.group ∷ old) (s.group ∷ m.groups) k (sound-kept (joined (as_lines s.group)) (lines_of m.groups) q.0 (m.sound c q.1));
  changed = changed;
}

-- It stays,
run-kept : {e : Encoding} {texts : List NewText} {old : List (List HeldLine)} {more body : List ℕ} (s : Section) → AreCommentGroups s.run
    → ((key text : List ℕ) → text_for texts key ≡ Some text → HasKey key s.group → ¬ (NoneHasKey key old))
    → AreNewGroups e texts old more → body ≡ (groups_bytes s.run ++ group_bytes s.group) ++ more → AreNewGroups e texts (s.run ++ s.group ∷ old) body
run-kept {e} {texts} {old} s c not_last m whole =
    let n : IsNewRun e s.run [] (groups_bytes s.run) = record {
      new = s.run;
      comments = c;
      ended = λ k. k;
      bytes = refl;
      clean = λ n old more sound k. sound-run s.run old more sound k;
    } in
    with-run s m n (λ k. tt) whole (λ k q.
    let gs = s.run ++ s.group ∷ old in
    let rest = m.changed (sound-behind_group s.run s.group old k).1 (sound-behind_group s.run s.group m.groups q).1 in
    let more = changed-behind gs (contents_in (s.run ++ s.group ∷ [])) (contents_in old) (contents_in m.groups) rest (λ key text is none.
    elim (cases_Bool (has_key key s.group)) [
      | inl t ↦ absurd (not_last key text is (has_key-true key s.group t) none)
      | inr f ↦ none-before key s.run s.group old c f none
    ]) in
    subst (λ w. HasChanges texts gs w (contents_in (s.run ++ s.group ∷ m.groups))) (sym (contents-split s.run s.group old))
    (subst (HasChanges texts gs (contents_in (s.run ++ s.group ∷ []) ++ contents_in old)) (sym (contents-split s.run s.group m.groups)) more))

-- or its pair is the last with a key.
run-changed : {e : Encoding} {texts : List NewText} {old : List (List HeldLine)} {text head more body : List ℕ} (s : Section) (key : List ℕ) → AreCommentGroups s.run
    → HasKey key s.group → NoneHasKey key old → is_among (keys_of texts) key ≡ true → (OfTexts HoldsNoBackslash texts → HoldsNoBackslash text)
    → AreNewGroups e texts old more → IsNewRun e s.run text head → body ≡ (head ++ group_bytes s.group) ++ more → AreNewGroups e texts (s.run ++ s.group ∷ old) body
run-changed {texts = texts} {old} s key c (value, has) none among clean m n whole =
    with-run s m n clean whole (λ k q.
    let rest = m.changed (sound-behind_group s.run s.group old k).1 (sound-behind_group n.new s.group m.groups q).1 in
    let was = comments-said s.run (s.group ∷ old) c k in
    let now = comments-said n.new (s.group ∷ m.groups) n.comments q in
    record {
      changes = record { kept = []; old_texts = was.0; new_texts = now.0; key = key; value = value } ∷ rest.changes;
      last = rest.last;
      was = contents-join s.run (s.group ∷ old) ∙ ap₂ (λ v w. v ++ w) was.1 (pair-said key value s.group old has ∙ ap (λ w. pair key value ∷ w) rest.was);
      now = contents-join n.new (s.group ∷ m.groups)
          ∙ ap₂ (λ v w. v ++ w) now.1 (pair-said key value s.group m.groups has ∙ ap (λ w. pair key value ∷ w) rest.now);
      are_last = (among, subst (HoldNoPair key) rest.was (hold-none key (lines_of old) (none-lines key old none)), rest.are_last);
      there = λ k text is. elim (rest.there k text is) [
        | inr there ↦ inr (later (bytes_eq key k) (is_among (changed_keys rest.changes) k) there)
        | inl none ↦ elim (cases_Bool (has_key k s.group)) [
          | inl t ↦
              let same : key ≡ k = key-only key k s.group (value, has) (has_key-true k s.group t) in
              let equal : bytes_eq key k ≡ true = (bytes_eq-Decides key k).1 same in inr (rw equal refl)
          | inr f ↦ inl (none-before k s.run s.group old c f none)
        ]
      ];
    })
  where
    later : (a b : Bool) → b ≡ true → (a || b) ≡ true
    later true b h = refl
    later false b h = h

module _ (r : Repertoire) (ok : is_editable r.encoding ≡ true) (other : List ℕ) (o : (by : LineEnding) × (other ≡ line_ending_text by)) (texts : List NewText)
    (scalars : OfTexts (All scalar) texts) where
  new-groups : (ss : List Section) (last tail : List (List HeldLine)) (body : List ℕ) → AreSections ss → groups_bytes tail ≡ groups_bytes last
      → ((key : List ℕ) → NoneHasKey key last) → ((key : List ℕ) → NoneHasKey key tail) → AreMadeOf (IsCommented r other texts) ss last body
      → AreNewGroups r.encoding texts (groups_of ss tail) body
  new-groups [] last tail body a same none_last none h = record {
    groups = tail;
    turn = λ front k. k;
    bytes = same ∙ sym h;
    sound = λ n k. k;
    changed = λ k m. record {
      changes = [];
      last = contents_in tail;
      was = refl;
      now = refl;
      are_last = tt;
      there = λ key text q. inl (none key);
    };
  }
  new-groups (s ∷ ss) last tail body a same none_last none (made, more, inl (text, l, set), whole, h) =
      let m = new-groups ss last tail more a.2 same none_last none h in
      let holds = text-of (All scalar) texts l.key text scalars l.is_text in
      let above = groups_bytes set.above in
      let parts = comments-parts set.above set.comment (subst AreCommentGroups set.is_comment.division a.0) in
      let run = run-behind set.above set.comment parts.0 set.is_comment.division (new-run r ok other o (last_sign (lines_in_text set.above)) set.comment s.group text set.head holds.0 parts.1 set.lines) in
      run-changed s l.key a.0 l.has_key (none-rest l.key ss last tail (λ k. none l.key) l.no_later) holds.1
      (λ c. (text-of HoldsNoBackslash texts l.key text c l.is_text).0) m run
      (whole ∙ ap (λ w. w ++ more) (set.made_is ∙ sym (append_assoc above set.head (group_bytes s.group))))
  new-groups (s ∷ ss) last tail body a same none_last none (made, more, inr (other, kept), whole, h) =
      let m = new-groups ss last tail more a.2 same none_last none h in
      run-kept s a.0
      (λ key text q has behind. other text
      (record { key = key; has_key = has; no_later = none-rest key ss tail last (λ k. none_last key) behind; is_text = q }))
      m (whole ∙ ap (λ w. w ++ more) kept)

-- Each key of a comment has a pair among these groups, so its comment changed.
each-changed : (all : List NewText) (gs : List (List HeldLine)) (changes : List ChangedComment) → HaveKeys all gs
    → ((key text : List ℕ) → text_for all key ≡ Some text → NoneHasKey key gs ⊎ (is_among (changed_keys changes) key ≡ true))
    → AreAmong (keys_of all) (changed_keys changes)
each-changed all gs changes have there = by [] all refl have
  where
    one : (t : NewText) → ¬ (NoneHasKey t.key gs) → (o : Option (List ℕ)) → text_for all t.key ≡ o → o ≢ None → is_among (changed_keys changes) t.key ≡ true
    one t has None q some = absurd (some refl)
    one t has (Some text) q some = elim (there t.key text q) [
      | inl none ↦ absurd (has none)
      | inr among ↦ among
    ]

    by : (before ts : List NewText) → all ≡ before ++ ts → HaveKeys ts gs → AreAmong (keys_of ts) (changed_keys changes)
    by before [] q h = tt
    by before (t ∷ ts) q h = (
      one t h.0 (text_for all t.key) refl (subst (λ w. text_for w t.key ≢ None) (sym q) (text-some before t ts)),
      by (before ++ t ∷ []) ts (q ∙ sym (append_assoc before (t ∷ []) ts)) h.1,
    )

same-have : (ts : List NewText) (gs hs : List (List HeldLine)) → ((key : List ℕ) → NoneHasKey key hs → NoneHasKey key gs) → HaveKeys ts gs → HaveKeys ts hs
same-have [] gs hs k h = tt
same-have (t ∷ ts) gs hs k h = ((λ none. h.0 (k t.key none)), same-have ts gs hs k h.1)

-- The groups of a source and of the result.
record AreCommented (e : Encoding) (source : List ℕ) (texts : List NewText) (result : List ℕ) : Type 0 where
  old : List (List HeldLine)
  new : List (List HeldLine)
  own : old ≡ held_groups_of (byte_order_mark e source).encoding (byte_order_mark e source).body
  sound : OfTexts HoldsNoBackslash texts → are_sound old → are_sound new
  have : HaveKeys texts old
  changed : are_sound old → are_sound new → HasChanges texts old (contents_in old) (contents_in new)
  in_force : (byte_order_mark e result).encoding ≡ (byte_order_mark e source).encoding
  lines : logical_lines_of e result ≡ lines_of new

commented : (r : Repertoire) (source : List ℕ) (texts : List NewText) (result : List ℕ) → is_editable (byte_order_mark r.encoding source).encoding ≡ true
    → OfTexts (All scalar) texts → AreCommentsSet r source texts result → AreCommented r.encoding source texts result
commented r source texts result ok scalars h =
    let f = byte_order_mark r.encoding source in
    let all = h.held.all in
    let turn = in-turn f.encoding f.body all ok h.held.division in
    let rest = has-rest f.encoding all turn in
    let tail = h.last ++ rest.rest in
    let none_last : (key : List ℕ) → NoneHasKey key h.last = λ key. comments-none key h.last h.divided.last_comments in
    let same : all ≡ groups_of h.sections tail =
    rest.whole ∙ ap (λ w. w ++ rest.rest) (sym h.held.are ∙ h.divided.division) ∙ sym (groups-append h.sections h.last rest.rest) in
    let m = new-groups (repertoire_in_force r source) ok (ending_in h.groups) (ending_among lf (held_in h.groups), refl) texts scalars h.sections h.last tail h.body
    h.divided.are_sections
    (groups_bytes-append h.last rest.rest ∙ ap (λ w. groups_bytes h.last ++ w) rest.no_bytes ∙ append-nil (groups_bytes h.last))
    none_last (λ key. none-both key h.last rest.rest (none_last key) (rest.no_keys key)) h.set in
    let guard = not (begins_like_bom source) && begins_like_bom h.body in
    let slots = guard-slots f.encoding guard h.body m.groups (record { turn = m.turn [] (subst (AreInTurn f.encoding) same turn); bytes = m.bytes }) in
    let force = ap (byte_order_mark r.encoding) h.whole
    ∙ stays_in_force r.encoding source (guarding_lf source h.body ++ h.body) ok (λ k. unmarked source h.body k) in
    record {
      old = groups_of h.sections tail;
      new = m.groups;
      own = sym same ∙ held_groups_of-only f.encoding f.body all h.held.division;
      sound = m.sound;
      have = same-have texts h.groups (groups_of h.sections tail)
          (λ key none. subst (NoneHasKey key) (sym h.divided.division) (none-rest key h.sections tail h.last (λ k. none_last key) none)) h.have_keys;
      changed = m.changed;
      in_force = ap (λ w. let f : InForce = w in f.encoding) force;
      lines = ap (λ w. let f : InForce = w in lines_of (held_groups_of f.encoding f.body)) force
          ∙ slots-lines f.encoding (guarding_lf source h.body ++ h.body) (guarded f.encoding guard m.groups) ok slots
          ∙ guarded-lines f.encoding guard m.groups;
    }

-- ---- contents

-- The comments above the pairs are others, if no entry is malformed.
pub comment-contents : (r : Repertoire) (source : List ℕ) (texts : List NewText) → SettingCommentsKeepsTheRest r source texts
comment-contents r source texts scalars result h before sound =
    let k = commented r source texts result sound.editable scalars h in
    let was = items_of-only r.encoding source end before sound.items in
    let old = source-sound r.encoding source (rw was at sound.sound) in
    let old_lines : logical_lines_of r.encoding source ≡ lines_of k.old = ap lines_of (sym k.own) in (
      k.in_force,
      λ after items good.
          let now = items_of-only r.encoding result end after items in
          let new = source-sound r.encoding result (rw now at good) in
          let c = k.changed (subst (OfEach IsSoundLine) old_lines old.0) (subst (OfEach IsSoundLine) k.lines new.0) in
          record {
            changes = c.changes;
            last = c.last;
            was = ap contents was ∙ old.1 ∙ ap (contents_among true) old_lines ∙ c.was;
            now = ap contents now ∙ new.1 ∙ ap (contents_among true) k.lines ∙ c.now;
            are_last = c.are_last;
            each = each-changed texts k.old c.changes k.have c.there;
          },
    )

-- If no text holds a backslash, none is.
pub comment-sound : (r : Repertoire) (source : List ℕ) (texts : List NewText) → SettingPlainCommentsBreaksNothing r source texts
comment-sound r source texts scalars none result h before after sound items =
    let k = commented r source texts result sound.editable scalars h in
    let was = items_of-only r.encoding source end before sound.items in
    let old = subst (OfEach IsSoundLine) (ap lines_of (sym k.own)) (source-sound r.encoding source (rw was at sound.sound)).0 in
    subst AreItems (sym (items_of-only r.encoding result end after items))
    (sound-source r.encoding result (subst (OfEach IsSoundLine) (sym k.lines) (k.sound none old)))

-- ---- the map

-- Comments have no value.
value-comments : (key : List ℕ) (texts : List (List ℕ)) (cs : List Content) → value_among (map comment texts ++ cs) key ≡ value_among cs key
value-comments key [] cs = refl
value-comments key (text ∷ texts) cs = first-none (value_among (map comment texts ++ cs) key) ∙ value-comments key texts cs

value-behind : (k : List ℕ) (front old new : List Content) → value_among new k ≡ value_among old k → value_among (front ++ new) k ≡ value_among (front ++ old) k
value-behind k [] old new h = h
value-behind k (c ∷ front) old new h = ap (λ v. first_value v (value_of c k)) (value-behind k front old new h)

value-changed : (k : List ℕ) (cs : List ChangedComment) (last : List Content)
    → value_among (with_new_comments cs last) k ≡ value_among (with_old_comments cs last) k
value-changed k [] last = refl
value-changed k (c ∷ cs) last =
    let old = pair c.key c.value ∷ with_old_comments cs last in
    let new = pair c.key c.value ∷ with_new_comments cs last in
    value-behind k c.kept (map comment c.old_texts ++ old) (map comment c.new_texts ++ new)
    (value-comments k c.new_texts new
    ∙ ap (λ v. first_value v (value_of (pair c.key c.value) k)) (value-changed k cs last)
    ∙ sym (value-comments k c.old_texts old))

-- Every key keeps its value.
pub comment-map : (r : Repertoire) (source : List ℕ) (texts : List NewText) → SettingCommentsKeepsTheMap r source texts
comment-map r source texts scalars result h before after sound items good value_at m k =
    let changed = (comment-contents r source texts scalars result h before sound).1 after items good in
    let now : value_in after k ≡ value_at k =
    value-contents after k
    ∙ ap (λ c. value_among c k) changed.now
    ∙ value-changed k changed.changes changed.last
    ∙ sym (ap (λ c. value_among c k) changed.was)
    ∙ sym (value-contents before k)
    ∙ sym (map-only before value_at m k) in
    rw now at (value_in-meets after k)

-- ---- keys removed with their comments

-- The bytes are those of some groups: pairs with the keys, and perhaps comment lines, are left out.
abbrev AreSome : List (List ℕ) → List (List HeldLine) → List ℕ → Type 0
AreSome keys [] rest = rest ≡ []
AreSome keys (g ∷ gs) rest =
    (HasOneOf keys g ⊎ IsCommentGroup g) × AreSome keys gs rest
    ⊎ ¬ (HasOneOf keys g) × (more : List ℕ) × (rest ≡ group_bytes g ++ more) × AreSome keys gs more

comment-other : (keys : List (List ℕ)) (g : List HeldLine) → IsCommentGroup g → ¬ (HasOneOf keys g)
comment-other keys g c (key, among, has) = comment-no_key key g c has

some-run : (keys : List (List ℕ)) (run gs : List (List HeldLine)) (rest : List ℕ) → AreCommentGroups run → AreSome keys gs rest → AreSome keys (run ++ gs) rest
some-run keys [] gs rest c h = h
some-run keys (g ∷ run) gs rest c h = inl (inr c.0, some-run keys run gs rest c.1 h)

kept-run : (keys : List (List ℕ)) (run gs : List (List HeldLine)) (rest : List ℕ) → AreCommentGroups run → AreSome keys gs rest
    → AreSome keys (run ++ gs) (groups_bytes run ++ rest)
kept-run keys [] gs rest c h = h
kept-run keys (g ∷ run) gs rest c h =
    inr (comment-other keys g c.0, groups_bytes run ++ rest, append_assoc (group_bytes g) (groups_bytes run) rest, kept-run keys run gs rest c.1 h)

are-some : (keys : List (List ℕ)) (ss : List Section) (last : List (List HeldLine)) (rest : List ℕ) → AreSections ss → AreCommentGroups last
    → AreMadeOf (IsLeftOf keys) ss last rest → AreSome keys (groups_of ss last) rest
are-some keys [] last rest a c h =
    subst (λ gs. AreSome keys gs rest) (append-nil last) (subst (AreSome keys (last ++ [])) (append-nil (groups_bytes last) ∙ sym h) (kept-run keys last [] [] c refl))
are-some keys (s ∷ ss) last rest a c (made, more, inl (has, (above, low, is, left)), whole, h) =
    let gs = s.group ∷ groups_of ss last in
    let parts = comments-parts above low (subst AreCommentGroups is.division a.0) in
    subst (λ w. AreSome keys w rest) (sym (ap (λ w. w ++ gs) is.division ∙ append_assoc above low gs))
    (subst (AreSome keys (above ++ (low ++ gs))) (sym (whole ∙ ap (λ w. w ++ more) left))
    (kept-run keys above (low ++ gs) more parts.0
    (some-run keys low gs more parts.1 (inl (inl has, are-some keys ss last more a.2 c h)))))
are-some keys (s ∷ ss) last rest a c (made, more, inr (other, is), whole, h) =
    subst (AreSome keys (s.run ++ s.group ∷ groups_of ss last))
    (sym (whole ∙ ap (λ w. w ++ more) is ∙ append_assoc (groups_bytes s.run) (group_bytes s.group) more))
    (kept-run keys s.run (s.group ∷ groups_of ss last) (group_bytes s.group ++ more) a.0 (inr (other, more, refl, are-some keys ss last more a.2 c h)))

-- The groups that are left, and what they say.
record AreLeft (e : Encoding) (keys : List (List ℕ)) (gs : List (List HeldLine)) (rest : List ℕ) : Type 0 where
  groups : List (List HeldLine)
  turn : AreInTurn e groups
  bytes : groups_bytes groups ≡ rest
  left : are_sound gs → are_sound groups × AreOthersIn keys (contents_in gs) (contents_in groups)

left-kept : (keys : List (List ℕ)) (o : Outcome) (cs ds : List Content) → ((name value : List ℕ) → o ≡ given (pair name value) → is_among keys name ≡ false) → AreOthersIn keys cs ds
    → AreOthersIn keys (content_before o true cs) (content_before o true ds)
left-kept keys ignored cs ds n k = k
left-kept keys (given (comment text)) cs ds n k = inr (ds, refl, k)
left-kept keys (given (pair other value)) cs ds n k = inr (n other value refl, ds, refl, k)
left-kept keys (broken kind) cs ds n k = k

-- A group that is no pair with a key stays,
group-kept : (e : Encoding) (keys : List (List ℕ)) (g : List HeldLine) (gs hs : List (List HeldLine)) → ¬ (HasOneOf keys g)
    → (are_sound gs → are_sound hs × AreOthersIn keys (contents_in gs) (contents_in hs))
    → are_sound (g ∷ gs) → are_sound (g ∷ hs) × AreOthersIn keys (contents_in (g ∷ gs)) (contents_in (g ∷ hs))
group-kept e keys g gs hs n k sound =
    let x = joined (as_lines g) in
    let free : (name value : List ℕ) → outcome_of x ≡ given (pair name value) → is_among keys name ≡ false =
    λ name value q. elim (cases_Bool (is_among keys name)) [
      | inl among ↦ absurd (n (name, among, (value, rw q at (outcome_of-meets x))))
      | inr other ↦ other
    ] in
    let s = sound-step x (lines_of gs) sound in
    let m = k s.1 in (
      sound-kept x (lines_of hs) s.0 m.0,
      subst (λ w. AreOthersIn keys w (contents_in (g ∷ hs))) (sym (with-content x (lines_of gs)))
          (subst (AreOthersIn keys (content_before (outcome_of x) true (contents_in gs))) (sym (with-content x (lines_of hs)))
          (left-kept keys (outcome_of x) (contents_in gs) (contents_in hs) free m.1)),
    )

-- and another is left out.
group-left : (keys : List (List ℕ)) (g : List HeldLine) (gs hs : List (List HeldLine)) → HasOneOf keys g ⊎ IsCommentGroup g
    → (are_sound gs → are_sound hs × AreOthersIn keys (contents_in gs) (contents_in hs))
    → are_sound (g ∷ gs) → are_sound hs × AreOthersIn keys (contents_in (g ∷ gs)) (contents_in hs)
group-left keys g gs hs (inl (key, among, (value, has))) k sound =
    let m = k (sound-step (joined (as_lines g)) (lines_of gs) sound).1 in
    (m.0, subst (λ w. AreOthersIn keys w (contents_in hs)) (sym (pair-said key value g gs has)) (inl (among, m.1)))
group-left keys g gs hs (inr c) k sound =
    let m = k (sound-step (joined (as_lines g)) (lines_of gs) sound).1 in
    let t = comments-said (g ∷ []) gs (c, tt) sound in
    (m.0, subst (λ w. AreOthersIn keys w (contents_in hs)) (sym (contents-join (g ∷ []) gs ∙ ap (λ w. w ++ contents_in gs) t.1)) (all-left t.0 m.1))
  where
    all-left : (texts : List (List ℕ)) → AreOthersIn keys (contents_in gs) (contents_in hs)
        → AreOthersIn keys (map comment texts ++ contents_in gs) (contents_in hs)
    all-left [] k = k
    all-left (text ∷ texts) k = inl (all-left texts k)

empty-lines : (e : Encoding) → lines_of ((no_line e ∷ []) ∷ []) ≡ []
empty-lines e = rw (decoded-nil e, outcome-empty) refl

-- Nothing is left of a last group.
nothing-left : (e : Encoding) (keys : List (List ℕ)) (g : List HeldLine) (rest : List ℕ) → rest ≡ [] → HasOneOf keys g ⊎ IsCommentGroup g → AreLeft e keys (g ∷ []) rest
nothing-left e keys g rest none h = record {
  groups = (no_line e ∷ []) ∷ [];
  turn = last-empty e;
  bytes = sym none;
  left = group-left keys g [] ((no_line e ∷ []) ∷ []) h
      (λ sound. (subst (OfEach IsSoundLine) (sym (empty-lines e)) tt, ap (contents_among true) (empty-lines e)));
}

left-groups : (e : Encoding) (keys : List (List ℕ)) (gs : List (List HeldLine)) (rest : List ℕ) → AreInTurn e gs → AreSome keys (with_bytes gs) rest
    → AreLeft e keys gs rest
left-groups e keys [] rest a h = absurd a
left-groups e keys (g ∷ []) rest a h = elim (cases_Bool (is_empty (group_bytes g))) [
  | inl k ↦
      let none : rest ≡ [] = rw k at h in
      let no_bytes : group_bytes g ≡ [] = is-nil (group_bytes g) k in
      record {
        groups = g ∷ [];
        turn = a;
        bytes = append-nil (group_bytes g) ∙ no_bytes ∙ sym none;
        left = group-kept e keys g [] [] (λ n. no-bytes e None n.0 g a.0 k n.2) (λ sound. (tt, refl));
      }
  | inr k ↦ one (rw k at h)
]
  where
    one : AreSome keys (g ∷ []) rest → AreLeft e keys (g ∷ []) rest
    one (inl (some, none)) = nothing-left e keys g rest none some
    one (inr (other, more, is, none)) = record {
      groups = g ∷ [];
      turn = a;
      bytes = ap (λ w. group_bytes g ++ w) (sym none) ∙ sym is;
      left = group-kept e keys g [] [] other (λ sound. (tt, refl));
    }
left-groups e keys (g ∷ k ∷ gs) rest a (inl (some, others)) =
    let m = left-groups e keys (k ∷ gs) rest a.1 others in
    record { groups = m.groups; turn = m.turn; bytes = m.bytes; left = group-left keys g (k ∷ gs) m.groups some m.left }
left-groups e keys (g ∷ k ∷ gs) rest a (inr (other, more, is, others)) =
    let m = left-groups e keys (k ∷ gs) more a.1 others in
    record {
      groups = g ∷ m.groups;
      turn = turn-cons e g m.groups a.0 m.turn;
      bytes = ap (λ w. group_bytes g ++ w) m.bytes ∙ sym is;
      left = group-kept e keys g (k ∷ gs) m.groups other m.left;
    }

-- No entry of the result is malformed, and its contents are the others.
pub removed-contents : (r : Repertoire) (source : List ℕ) (keys : List (List ℕ)) → RemovingWithCommentsKeepsTheRest r source keys
removed-contents r source keys result h before sound =
    let e = r.encoding in
    let f = byte_order_mark e source in
    let all = h.held.all in
    let turn = in-turn f.encoding f.body all sound.editable h.held.division in
    let some = are-some keys h.sections h.last h.rest h.divided.are_sections h.divided.last_comments h.others in
    let m = left-groups f.encoding keys all h.rest turn (subst (λ gs. AreSome keys gs h.rest) (sym h.divided.division ∙ h.held.are) some) in
    let guard = not (begins_like_bom source) && begins_like_bom h.rest in
    let slots = guard-slots f.encoding guard h.rest m.groups (record { turn = m.turn; bytes = m.bytes }) in
    let force = ap (byte_order_mark e) h.whole
    ∙ stays_in_force e source (guarding_lf source h.rest ++ h.rest) sound.editable (λ k. unmarked source h.rest k) in
    let lines : logical_lines_of e result ≡ lines_of m.groups =
    ap (λ w. let f : InForce = w in lines_of (held_groups_of f.encoding f.body)) force
    ∙ slots-lines f.encoding (guarding_lf source h.rest ++ h.rest) (guarded f.encoding guard m.groups) sound.editable slots
    ∙ guarded-lines f.encoding guard m.groups in
    let own : logical_lines_of e source ≡ lines_of all = ap lines_of (sym (held_groups_of-only f.encoding f.body all h.held.division)) in
    let was = items_of-only e source end before sound.items in
    let old = source-sound e source (rw was at sound.sound) in
    let left = m.left (subst (OfEach IsSoundLine) own old.0) in
    let good = sound-source e result (subst (OfEach IsSoundLine) (sym lines) left.0) in
    let new = source-sound e result good in (
      ap (λ w. let f : InForce = w in f.encoding) force,
      λ after items.
          let now = items_of-only e result end after items in (
            subst AreItems (sym now) good,
            subst (λ w. AreOthersIn keys w (contents after)) (sym (ap contents was ∙ old.1 ∙ ap (contents_among true) own))
                (subst (AreOthersIn keys (contents_in all)) (sym (ap contents now ∙ new.1 ∙ ap (contents_among true) lines)) left.1),
          ),
    )

-- The map is that of the source without the keys.
value-others : (keys : List (List ℕ)) (old new : List Content) (k : List ℕ) → AreOthersIn keys old new
    → value_among new k ≡ (if is_among keys k then None else value_among old k)
value-others keys [] new k h = rw h (sym (either (is_among keys k) None))
  where
    either : (b : Bool) (o : Option (List ℕ)) → (if b then o else o) ≡ o
    either true o = refl
    either false o = refl
value-others keys (comment text ∷ cs) new k (inl h) =
    value-others keys cs new k h ∙ ap (λ v. if is_among keys k then None else v) (sym (first-none (value_among cs k)))
value-others keys (comment text ∷ cs) new k (inr (more, is, h)) =
    ap (λ w. value_among w k) is
    ∙ first-none (value_among more k)
    ∙ value-others keys cs more k h
    ∙ ap (λ v. if is_among keys k then None else v) (sym (first-none (value_among cs k)))
value-others keys (pair name value ∷ cs) new k (inl (among, h)) = let m = value-others keys cs new k h in elim (cases_Bool (is_among keys k)) [
  | inl t ↦ rw t (rw t at m)
  | inr t ↦
      let apart : bytes_eq name k ≡ false = other-test name k (λ q. let s = ap (is_among keys) q in cc) in
      rw (t, apart) ((rw t at m) ∙ sym (first-none (value_among cs k)))
]
value-others keys (pair name value ∷ cs) new k (inr (other, more, is, h)) = let m = value-others keys cs more k h in elim (cases_Bool (is_among keys k)) [
  | inl t ↦
      let apart : bytes_eq name k ≡ false = other-test name k (λ q. let s = ap (is_among keys) q in cc) in
      rw (t, is, apart) (first-none (value_among more k) ∙ (rw t at m))
  | inr t ↦ rw (t, is) (ap (λ v. first_value v (value_of (pair name value) k)) (rw t at m))
]

pub removed-map : (r : Repertoire) (source : List ℕ) (keys : List (List ℕ)) → RemovingWithCommentsTakesTheValues r source keys
removed-map r source keys result h before after sound items value_at m k =
    let others = ((removed-contents r source keys result h before sound).1 after items).1 in
    let now : value_in after k ≡ (if is_among keys k then None else value_at k) =
    value-contents after k
    ∙ value-others keys (contents before) (contents after) k others
    ∙ ap (λ v. if is_among keys k then None else v) (sym (value-contents before k) ∙ sym (map-only before value_at m k)) in
    rw now at (value_in-meets after k)
