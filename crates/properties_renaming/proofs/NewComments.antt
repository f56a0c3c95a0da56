-- What new comment lines look like, and how they take the place of the old ones.
use Rattle.std.proofs.Common.{inl, inr, ◌≡◌, ◌≢◌, ◌<◌, ◌≤◌, ℕ, ◌+◌, ◌-◌, true, false, List, [], ◌∷◌, ◌++◌, length, take, drop, get_or, refl, sym, ap, ap₂, ◌∙◌, subst, arith, append_assoc, append-nil, length-append}
use Rattle.std.specs.Prelude.{◌⊎◌, ◌==◌, flat_map, map, Option, Some, None}
use Rattle.std.specs.Option.{option_map, unwrap_or}
use Rattle.std.specs.Str.{IsUtf8, chars}
use Rattle.std.specs.String.{string_bytes, string_eq}
use Rattle.std.specs.Cmp.Lexicographic.{other_text, pointwise, same_text}
use Rattle.std.specs.declared.string.String.{String}
use Rattle.std.proofs.Math.Seq.{drop-append_seam, take-append_seam}
use Rattle.std.proofs.lemmas.Bool.{cases_Bool}
use Rattle.std.proofs.lemmas.List.{drop_more, length-drop, length-take-le, take-append-drop, take_all}
use Rattle.std.proofs.lemmas.Slice.Eq.{bytes_eq-Decides}
use Rattle.std.proofs.lemmas.Str.{IsUtf8-string_bytes}
use Rattle.properties_format.specs.Text.{LineEnding, begins, carriage_return, cr, crlf, is_blank, is_comment_sign, is_empty, lf, line_ending_text, line_feed, space, without_leading_blanks}
use Rattle.properties_format.specs.Encoding.{Encoding, InForce, Repertoire, byte_order_mark, in_encoding, repertoire_in_force, output_encoding}
use Rattle.properties_format.specs.Lines.{HoldsNoLineEnding, is_comment_line}
use Rattle.properties_format.specs.Split.{AreBlanks}
use Rattle.properties_format.specs.Body.{AreGroupsOf, HeldLine, ending_bytes, group_bytes, groups_bytes, held_in, last_ending}
use Rattle.properties_format.specs.Edited.{is_editable}
use Rattle.properties_format.specs.Valued.{ending_among, ending_in}
use Rattle.properties_format.specs.Computed.Body.{unended_bytes}
use Rattle.properties_format.specs.Computed.Cut.{decoded_line}
use Rattle.properties_format.specs.Computed.Lines.{ends_in_cr}
use Rattle.properties_format.proofs.Body.Decoded.{decoded-nil}
use Rattle.properties_format.proofs.Body.Groups.{groups_bytes-append}
use Rattle.properties_format.proofs.Edited.Pair.{editable-own}
use Rattle.properties_format.proofs.GroupsInTurn.Lines.{AreLinesBy, bytes-unended}
use Rattle.properties_format.proofs.GroupsInTurn.Merged.{in-turn, turn-at}
use Rattle.properties_format.proofs.Split.Blanks.{without_leading_blanks-meets}
use Rattle.properties_format.proofs.Valued.Heads.{ascii-among}
use Rattle.properties_text.specs.declared.print.Repertoire as code
use Rattle.properties_items.specs.Line.{ending_of}
use Rattle.properties_items.specs.Texts.{characters}
use Rattle.properties_items.specs.declared.line.LineEnding as item
use Rattle.properties_items.specs.declared.line.LineEnding.TheVariants.{CR, CRLF, LF}
use Rattle.properties_items.proofs.TextMaps.Values.{same-characters}
use Rattle.properties_editing.specs.Views.{IsViewOf, OpenView, past_group, with_bytes}
use Rattle.properties_editing.specs.declared.group.ViewedGroup.{ViewedGroup}
use Rattle.properties_editing.proofs.LastPairs.{at-byte, cr-last, last-by, last-none}
use Rattle.properties_editing.proofs.PartsRead.{left-none}
use Rattle.properties_renaming.specs.CommentLines.{AreCommentGroups, IsCommentGroup}
use Rattle.properties_renaming.specs.Commenting.{HasLines, IsStyleAbove, IsStyleFor, IsStyleOfLine, LineStyle, comment_line, ending_or, gap_before}
use Rattle.properties_renaming.specs.Private.CommentTexts.{first_blank, without_first_blank}
use Rattle.properties_renaming.specs.Sections.{Section, groups_of}
use Rattle.properties_renaming.specs.Private.Commenting.{AreCommentBytes, HoldsGroup, HoldsLine, IsGroupAt, IsHeadSet, IsLastEndingOf, IsModel, IsSectionAt, TakesComment, comment_line_bytes, line_feed_after, style_in}
use Rattle.properties_renaming.specs.Private.Copied.{IsReplacedIn, copied_to}
use Rattle.properties_renaming.specs.Private.Renaming.{PrintsKeys}
use Rattle.properties_renaming.specs.declared.commenting.Comment.{Comment}
use Rattle.properties_renaming.specs.declared.commenting.Style.{Style}
use Rattle.properties_renaming.specs.declared.copied.Copied.{Copied}
use Rattle.properties_renaming.proofs.CommentGroups.{comments-parts}
use Rattle.properties_renaming.proofs.CommentedKeys.{IsMadeUpTo, given_comment, run-size}
use Rattle.properties_renaming.proofs.KeyPlaces.{ascii-front}
use Rattle.properties_renaming.proofs.RenamedKeys.{bytes-front, copied-more, same-key}
use Rattle.properties_renaming.proofs.SectionedGroups.{groups-append}

-- ---- the bytes of a group

-- A group is a part of the source, and so is its line ending.
pub record IsHeld (source : List ℕ) (g : List HeldLine) (group : ViewedGroup) : Type 0 where
  pub start : group.start ≤ group.next
  pub ordered : group.end ≤ group.next
  pub within : group.next ≤ length source
  pub bytes : take (group.next - group.start) (drop group.start source) ≡ group_bytes g
  pub ending : take (group.next - group.end) (drop group.end source) ≡ ending_bytes (last_ending g)

part-of : (source front part rest : List ℕ) (start end : ℕ) → source ≡ front ++ (part ++ rest) → start ≡ length front → end ≡ start + length part
    → take (end - start) (drop start source) ≡ part
part-of source front part rest start end whole at size =
    let count : end - start ≡ length part = omega arith in
    ap₂ take count (ap₂ drop at whole ∙ drop-append_seam front (part ++ rest)) ∙ take-append_seam part rest

pub held-at : {source : List ℕ} {g : List HeldLine} {group : ViewedGroup} → HoldsGroup source g group → IsHeld source g group
held-at {source} {g} {group} h =
    let un = unended_bytes g in
    let en = ending_bytes (last_ending g) in
    let gb = group_bytes g in
    let size : length gb ≡ length un + length en = ap length (bytes-unended g) ∙ length-append un en in
    let all : length source ≡ length h.front + (length gb + length h.rest) =
    ap length h.whole ∙ length-append h.front (gb ++ h.rest) ∙ ap (λ n. length h.front + n) (length-append gb h.rest) in
    let start = h.at.start_is in
    let end = h.at.end_is in
    let next = h.at.next_is in
    let front : length (h.front ++ un) ≡ length h.front + length un = length-append h.front un in
    record {
      start = omega arith;
      ordered = omega arith;
      within = omega arith;
      bytes = part-of source h.front gb h.rest group.start group.next h.whole start (omega arith);
      ending = part-of source (h.front ++ un) en h.rest group.end group.next
          (h.whole ∙ ap (λ w. h.front ++ (w ++ h.rest)) (bytes-unended g) ∙ simp (append_assoc)) (omega arith) (omega arith);
    }

-- ---- the front of a group

front-blank : (b : List ℕ) (n : ℕ) → n ≤ length b → drop n b ≡ without_leading_blanks b → AreBlanks (take n b)
front-blank b n within rest =
    let p = without_leading_blanks-meets b in
    let y = without_leading_blanks b in
    let sizes : length b ≡ length p.before + length y = ap length p.whole ∙ length-append p.before y in
    let left : length b - n ≡ length y = sym (length-drop n b) ∙ ap length rest in
    let same : n ≡ length p.before = omega arith in
    subst AreBlanks (sym (ap₂ take same p.whole ∙ take-append_seam p.before y)) p.before_blank

-- The sign of a comment line is after its blanks.
pub record HasSign (b : List ℕ) (n : ℕ) : Type 0 where
  pub less : n < length b
  pub at : drop n b ≡ get_or b n 0 ∷ drop (n + 1) b
  pub is_sign : is_comment_sign (get_or b n 0) ≡ true

first-sign : (y : List ℕ) → begins is_comment_sign y ≡ true → 0 < length y
first-sign [] h = absurd (cc)
first-sign (c ∷ y) h = omega arith

pub sign-at : (b : List ℕ) (n : ℕ) → n ≤ length b → drop n b ≡ without_leading_blanks b → is_comment_line b ≡ true → HasSign b n
sign-at b n within rest line =
    let some = first-sign (without_leading_blanks b) line in
    let left : length b - n ≡ length (without_leading_blanks b) = sym (length-drop n b) ∙ ap length rest in
    let less : n < length b = omega arith in
    let more : drop n b ≡ get_or b n 0 ∷ drop (n + 1) b = drop_more b n 0 less in
    record { less = less; at = more; is_sign = ap (begins is_comment_sign) (sym more ∙ rest) ∙ line }

-- What it has around its text.
pub style-line : (other : List ℕ) (g : List HeldLine) (b : List ℕ) (style : LineStyle) (n : ℕ) → b ≡ group_bytes g → n ≤ length b
    → drop n b ≡ without_leading_blanks b → is_comment_line (group_bytes g) ≡ true → style.indent ≡ take n b → style.sign ≡ get_or b n 0
    → style.blank ≡ first_blank (take (length b - (n + 1)) (drop (n + 1) b)) → style.ending ≡ ending_or other g → IsStyleOfLine other g style
style-line other g b style n same within rest line indent sign blank ending =
    let s = sign-at b n within rest (ap is_comment_line same ∙ line) in
    let after = drop (n + 1) b in
    let text = by after in
    let one : style.blank ≡ first_blank after =
    blank ∙ ap first_blank (take_all (length b - (n + 1)) after (let size = length-drop (n + 1) b in omega arith)) in
    record {
      rest = without_first_blank after;
      bytes = sym same
          ∙ sym (take-append-drop n b)
          ∙ ap₂ (λ v w. v ++ w) (sym indent) (s.at ∙ ap₂ (λ c w. c ∷ w) (sym sign) (text.0 ∙ ap (λ w. w ++ without_first_blank after) (sym one)));
      indent_blank = subst AreBlanks (sym indent) (front-blank b n within rest);
      is_sign = ap is_comment_sign sign ∙ s.is_sign;
      one_blank = subst (λ w. (w ≡ []) × (begins is_blank (without_first_blank after) ≡ false) ⊎ (c : ℕ) × (is_blank c ≡ true) × (w ≡ c ∷ [])) (sym one) text.1;
      ending = ending;
    }
  where
    by : (x : List ℕ) → (x ≡ first_blank x ++ without_first_blank x)
        × ((first_blank x ≡ []) × (begins is_blank (without_first_blank x) ≡ false) ⊎ (c : ℕ) × (is_blank c ≡ true) × (first_blank x ≡ c ∷ []))
    by [] = (refl, inl (refl, refl))
    by (c ∷ x) = elim (cases_Bool (is_blank c)) [
      | inl k ↦ rw k (refl, inr (c, k, refl))
      | inr k ↦ rw k (refl, inl (refl, k))
    ]

-- What the first comment line above a pair has.
pub style-above : (other : List ℕ) (g : List HeldLine) (b : List ℕ) (style : LineStyle) (n : ℕ) → b ≡ group_bytes g → n ≤ length b
    → drop n b ≡ without_leading_blanks b → style.indent ≡ take n b → style.sign ≡ 0x23 → style.blank ≡ 0x20 ∷ [] → style.ending ≡ ending_or other g → IsStyleAbove other g style
style-above other g b style n same within rest indent sign blank ending = record {
  rest = drop n b;
  bytes = sym same ∙ sym (take-append-drop n b) ∙ ap (λ v. v ++ drop n b) (sym indent);
  indent_blank = subst AreBlanks (sym indent) (front-blank b n within rest);
  rest_full = ap (begins is_blank) rest ∙ (without_leading_blanks-meets b).begins_full;
  sign = sign;
  blank = blank;
  ending = ending;
}

pub blank-none : (x : List ℕ) (n : ℕ) → n ≡ 0 → drop n x ≡ without_leading_blanks x → [] ≡ first_blank x
blank-none x n none h = by x (ap (λ k. begins is_blank (drop k x)) (sym none) ∙ ap (begins is_blank) h ∙ (without_leading_blanks-meets x).begins_full)
  where
    by : (x : List ℕ) → begins is_blank x ≡ false → [] ≡ first_blank x
    by [] k = refl
    by (c ∷ x) k = rw k refl

first-taken : (c : ℕ) (x : List ℕ) → take 1 (c ∷ x) ≡ c ∷ []
first-taken c x = refl

pub blank-some : (x : List ℕ) (n : ℕ) → n ≢ 0 → n ≤ length x → drop n x ≡ without_leading_blanks x → (1 ≤ length x) × (take 1 x ≡ first_blank x)
blank-some [] n some within h = absurd (some (omega arith))
blank-some (c ∷ x) n some within h = elim (cases_Bool (is_blank c)) [
  | inl k ↦ rw k (omega arith, first-taken c x)
  | inr k ↦
      let same : drop n (c ∷ x) ≡ c ∷ x = rw k at h in
      let size = ap length same in
      let less = length-drop n (c ∷ x) in
      absurd (some (omega arith))
]

-- ---- what comes before a text

empty-length : (x : List ℕ) → (length x == 0) ≡ is_empty x
empty-length [] = refl
empty-length (c ∷ x) = grind (arith)

pub gap-none : (blank x : List ℕ) → is_empty x ≡ true → [] ≡ gap_before blank x
gap-none blank [] h = refl
gap-none blank (c ∷ x) h = absurd (cc)

pub gap-full : (blank x : List ℕ) → is_empty x ≡ false → begins is_blank x ≡ false → blank ≡ gap_before blank x
gap-full blank [] h k = absurd (cc)
gap-full [] (c ∷ x) h k = rw k refl
gap-full (b ∷ blank) (c ∷ x) h k = refl

pub gap-space : (blank x : List ℕ) → begins is_blank x ≡ true → (length blank == 0) ≡ true → space ∷ [] ≡ gap_before blank x
gap-space blank [] h k = absurd (cc)
gap-space [] (c ∷ x) h k = rw h refl
gap-space (b ∷ blank) (c ∷ x) h k = let none = sym (empty-length (b ∷ blank)) ∙ k in absurd (cc)

pub gap-kept : (blank x : List ℕ) → is_empty x ≡ false → (length blank == 0) ≡ false → blank ≡ gap_before blank x
gap-kept blank [] h k = absurd (cc)
gap-kept [] (c ∷ x) h k = absurd (cc)
gap-kept (b ∷ blank) (c ∷ x) h k = refl

-- The line ending of a group, or another.
pub ending-none : (other : List ℕ) (g : List HeldLine) (x : List ℕ) → x ≡ ending_bytes (last_ending g) → (length x == 0) ≡ true → other ≡ ending_or other g
ending-none other g x is h = by (last_ending g) (sym (ap is_empty is) ∙ sym (empty-length x) ∙ h)
  where
    by : (o : Option LineEnding) → is_empty (ending_bytes o) ≡ true → other ≡ unwrap_or (option_map line_ending_text o) other
    by None k = refl
    by (Some lf) k = absurd (cc)
    by (Some cr) k = absurd (cc)
    by (Some crlf) k = absurd (cc)

pub ending-some : (other : List ℕ) (g : List HeldLine) (x : List ℕ) → x ≡ ending_bytes (last_ending g) → (length x == 0) ≡ false → x ≡ ending_or other g
ending-some other g x is h = is ∙ by (last_ending g) (sym (ap is_empty is) ∙ sym (empty-length x) ∙ h)
  where
    by : (o : Option LineEnding) → is_empty (ending_bytes o) ≡ false → ending_bytes o ≡ unwrap_or (option_map line_ending_text o) other
    by None k = absurd (cc)
    by (Some e) k = refl

-- ---- the last line ending of a body

ends-by : (body front : List ℕ) (by : item.LineEnding) (rest : List ℕ) → body ≡ front ++ (line_ending_text (ending_of by) ++ rest) → HoldsNoLineEnding rest
    → (ending_of by ≡ lf → ends_in_cr front ≡ false) → IsLastEndingOf body (line_ending_text (ending_of by))
ends-by body front by rest whole plain alone = λ e groups ok are. ap line_ending_text (last-by body front by rest whole plain alone e groups ok are)

module _ (body : List ℕ) (end : ℕ) (some : 0 < end) (within : end ≤ length body) (plain : HoldsNoLineEnding (drop end body)) where
  pub ends-feed : get_or body (end - 1) 0 ≡ line_feed → IsLastEndingOf body (line_feed_after (take (end - 1) body))
  ends-feed is =
      let front = take (end - 1) body in
      let rest = drop end body in
      let whole : body ≡ front ++ line_feed ∷ rest = at-byte body end line_feed some within is in
      elim (cases_Bool (ends_in_cr front)) [
        | inl k ↦
            let m = cr-last front k in
            let parts : body ≡ m.0 ++ carriage_return ∷ line_feed ∷ rest =
            whole ∙ ap (λ w. w ++ line_feed ∷ rest) m.1 ∙ append_assoc m.0 (carriage_return ∷ []) (line_feed ∷ rest) in
            rw k (ends-by body m.0 CRLF rest parts plain (λ q. absurd (cc)))
        | inr k ↦ rw k (ends-by body front LF rest whole plain (λ q. k))
      ]

  pub ends-return : get_or body (end - 1) 0 ≡ carriage_return → IsLastEndingOf body (carriage_return ∷ [])
  ends-return is = ends-by body (take (end - 1) body) CR (drop end body) (at-byte body end carriage_return some within is) plain (λ q. absurd (cc))

pub ends-nowhere : (body : List ℕ) (end : ℕ) → end ≡ 0 → HoldsNoLineEnding (drop end body) → IsLastEndingOf body (line_feed ∷ [])
ends-nowhere body end none plain = λ e groups ok are. ap line_ending_text (last-none body end none plain e groups ok are)

-- A last group without bytes, which isn't given, has no line ending.
among-append : (by : LineEnding) (x y : List HeldLine) → ending_among by (x ++ y) ≡ ending_among (ending_among by x) y
among-append by [] y = refl
among-append by (l ∷ x) y = among-append (unwrap_or l.ending by) x y

among-nothing : (by : LineEnding) (g : List HeldLine) → group_bytes g ≡ [] → ending_among by g ≡ by
among-nothing by [] h = refl
among-nothing by (l ∷ g) h =
    let after = right-none l.bytes (ending_bytes l.ending ++ group_bytes g) h in
    let none = own l.ending (left-none (ending_bytes l.ending) (group_bytes g) after) in
    rw none (among-nothing by g (right-none (ending_bytes l.ending) (group_bytes g) after))
  where
    own : (o : Option LineEnding) → ending_bytes o ≡ [] → o ≡ None
    own None k = refl
    own (Some lf) k = absurd (cc)
    own (Some cr) k = absurd (cc)
    own (Some crlf) k = absurd (cc)

    right-none : (x y : List ℕ) → x ++ y ≡ [] → y ≡ []
    right-none [] y k = k
    right-none (c ∷ x) y k = absurd (cc)

among-given : (by : LineEnding) (all : List (List HeldLine)) → ending_among by (held_in (with_bytes all)) ≡ ending_among by (held_in all)
among-given by [] = refl
among-given by (g ∷ []) = elim (cases_Bool (is_empty (group_bytes g))) [
  | inl k ↦ rw k (sym (ap (ending_among by) (append-nil g) ∙ among-nothing by g (no-bytes (group_bytes g) k)))
  | inr k ↦ rw k refl
]
  where
    no-bytes : (x : List ℕ) → is_empty x ≡ true → x ≡ []
    no-bytes [] h = refl
    no-bytes (c ∷ x) h = absurd (cc)
among-given by (g ∷ h ∷ all) =
    among-append by g (held_in (with_bytes (h ∷ all)))
    ∙ among-given (ending_among by g) (h ∷ all)
    ∙ sym (among-append by g (held_in (h ∷ all)))

-- It is that of the groups of a view.
pub ending-viewed : {e : Encoding} {source : List ℕ} {v : OpenView} → IsViewOf e source v → (body ending : List ℕ) → body ≡ (byte_order_mark e source).body
    → IsLastEndingOf body ending → ending ≡ ending_in v.to_come
ending-viewed {source = source} {v = v} o body ending same last =
    let own : body ≡ drop v.start source = same ∙ ap (λ w. let f : InForce = w in f.body) o.in_force in
    last v.encoding o.given.all o.editable (subst (λ w. AreGroupsOf v.encoding w o.given.all) (sym own) o.given.division)
    ∙ ap line_ending_text (sym (among-given lf o.given.all) ∙ ap (λ w. ending_among lf (held_in w)) (sym o.given.are))

-- ---- a comment line in bytes

comment-bytes : (e : Encoding) (x d : List ℕ) → is_editable e ≡ true → decoded_line e d ≡ x → is_comment_line x ≡ true → is_comment_line d ≡ true
comment-bytes e [] d ok s h = absurd (cc)
comment-bytes e (c ∷ x) d ok s h = elim (cases_Bool (is_blank c)) [
  | inl b ↦
      let l : c < 0x80 = grind (arith) in
      let m = ascii-front e d c x ok l s in
      let t : decoded_line e (c ∷ m.0) ≡ c ∷ decoded_line e m.0 = ascii-among e [] c m.0 ok l ∙ ap (λ v. v ++ c ∷ decoded_line e m.0) (decoded-nil e) in
      let q : decoded_line e m.0 ≡ x = cc (t, sym (ap (decoded_line e) m.1), s) in
      let rest : is_comment_line x ≡ true = rw b at h in
      rw (m.1, b) (comment-bytes e x m.0 ok q rest)
  | inr b ↦
      let sign : is_comment_sign c ≡ true = rw b at h in
      let l : c < 0x80 = grind (arith) in
      let m = ascii-front e d c x ok l s in
      rw (m.1, b) sign
]

comment-longer : (x y : List ℕ) → is_comment_line x ≡ true → is_comment_line (x ++ y) ≡ true
comment-longer [] y h = absurd (cc)
comment-longer (c ∷ x) y h = elim (cases_Bool (is_blank c)) [
  | inl b ↦ let rest : is_comment_line x ≡ true = rw b at h in rw b (comment-longer x y rest)
  | inr b ↦ let sign : is_comment_sign c ≡ true = rw b at h in rw b sign
]

line-bytes : (e : Encoding) (o : Option LineEnding) (g : List HeldLine) → is_editable e ≡ true → AreLinesBy e o g → IsCommentGroup g
    → is_comment_line (group_bytes g) ≡ true
line-bytes e o [] ok a c = absurd c
line-bytes e o (l ∷ []) ok a c = comment-longer l.bytes (ending_bytes l.ending ++ []) (comment-bytes e l.text l.bytes ok (sym a.1) c)
line-bytes e o (l ∷ k ∷ g) ok a c = absurd c

run-bytes : (e : Encoding) (body : List ℕ) (all before run : List (List HeldLine)) (g : List HeldLine) (after : List (List HeldLine)) → is_editable e ≡ true
    → AreGroupsOf e body all → with_bytes all ≡ before ++ (run ++ g ∷ after) → AreCommentGroups run → AreCommentBytes run
run-bytes e body all before [] g after ok division q c = tt
run-bytes e body all before (r ∷ run) g after ok division q c =
    let m = bytes-front all before r (run ++ g ∷ after) q in
    let (ending, lines, fit) = turn-at e before r m.0 (rw m.1 at (in-turn e body all ok division)) in (
      line-bytes e ending r ok lines c.0,
      run-bytes e body all (before ++ r ∷ []) run g after ok division (q ∙ sym (append_assoc before (r ∷ []) (run ++ g ∷ after))) c.1,
    )

bytes-among : (before : List (List HeldLine)) (g : List HeldLine) (after : List (List HeldLine)) → AreCommentBytes (before ++ g ∷ after)
    → is_comment_line (group_bytes g) ≡ true
bytes-among [] g after h = h.0
bytes-among (f ∷ before) g after h = bytes-among before g after h.1

-- ---- a section in the source

-- The next comment of a view, and its group, are at their place.
pub section-at : {Makes : Section → List (List HeldLine) → List ℕ → Type 0} {e : Encoding} {source : List ℕ} {v now next : OpenView} {c : Copied} (comment : Comment)
    → IsViewOf e source v → IsMadeUpTo Makes source v now c → (t : TakesComment now comment next) → IsSectionAt source comment (given_comment t.0)
section-at {source = source} {v = v} {now} {next} comment o h (t, texts, model, separator) =
    let n = (past_group now).start in
    let above = groups_bytes t.above in
    let lines = groups_bytes t.comment in
    let g = group_bytes next.group in
    let rest = groups_bytes next.to_come in
    let began = t.start in
    let place = t.group_start in
    let both = run-size t in
    let group_start : next.start ≡ comment.headed.start + length lines = omega arith in
    let held = t.is_group in
    let size : length (take n source ++ above) ≡ n + length above =
    length-append (take n source) above ∙ ap (λ k. k + length above) (length-take-le n source h.within) in
    let groups : now.to_come ≡ t.above ++ (t.comment ++ next.group ∷ next.to_come) =
    t.takes ∙ ap (λ w. w ++ next.group ∷ next.to_come) t.is_comment.division ∙ append_assoc t.above t.comment (next.group ∷ next.to_come) in
    record {
      front = take n source ++ above;
      rest = rest;
      whole = sym (take-append-drop n source)
          ∙ ap (λ w. take n source ++ w) (sym h.rest
          ∙ ap groups_bytes groups
          ∙ groups_bytes-append t.above (t.comment ++ next.group ∷ next.to_come)
          ∙ ap (λ w. above ++ w) (groups_bytes-append t.comment (next.group ∷ next.to_come)))
          ∙ sym (append_assoc (take n source) above (lines ++ (g ++ rest)));
      start_is = began ∙ sym size;
      at = record {
        start_is = held.start ∙ group_start;
        end_is = held.end ∙ ap (λ k. k + (length g - length (ending_bytes (last_ending next.group)))) group_start;
        next_is = held.next ∙ ap (λ k. k + length g) group_start;
      };
      are_texts = texts;
      model = model;
      are_comments = run-bytes v.encoding (drop v.start source) o.given.all (groups_of h.passed [] ++ t.above) t.comment next.group next.to_come o.editable o.given.division
          (sym o.given.are
          ∙ h.division
          ∙ ap (groups_of h.passed) groups
          ∙ groups-append h.passed [] (t.above ++ (t.comment ++ next.group ∷ next.to_come))
          ∙ sym (append_assoc (groups_of h.passed []) t.above (t.comment ++ next.group ∷ next.to_come)))
          (comments-parts t.above t.comment (subst AreCommentGroups t.is_comment.division t.are_comments)).1;
    }

module _ {source : List ℕ} {comment : Comment} {s : Section} (h : IsSectionAt source comment s) where
  pub pair-held : HoldsGroup source s.group comment.headed.group
  pair-held =
      let run = groups_bytes s.run in
      let start = h.start_is in
      let size = length-append h.front run in
      let place : comment.headed.start + length run ≡ length (h.front ++ run) = omega arith in
      record {
        front = h.front ++ run;
        rest = h.rest;
        whole = h.whole ∙ sym (append_assoc h.front run (group_bytes s.group ++ h.rest));
        at = subst (λ n. IsGroupAt n s.group comment.headed.group) place h.at;
      }

  pub model-held : (model : ViewedGroup) (m : IsModel comment.headed.start s.run model) → HoldsLine source m.line model
  model-held model m =
      let before = groups_bytes m.before in
      let start = h.start_is in
      let size = length-append h.front before in
      let place : comment.headed.start + length before ≡ length (h.front ++ before) = omega arith in
      let rest = groups_bytes m.after ++ (group_bytes s.group ++ h.rest) in (
        record {
          front = h.front ++ before;
          rest = rest;
          whole = h.whole
              ∙ ap (λ w. h.front ++ (w ++ (group_bytes s.group ++ h.rest))) (ap groups_bytes m.division ∙ groups_bytes-append m.before (m.line ∷ m.after))
              ∙ simp (append_assoc);
          at = subst (λ n. IsGroupAt n m.line model) place m.at;
        },
        bytes-among m.before m.line m.after (rw m.division at h.are_comments),
      )

  pub head-ordered : (comment.headed.start ≤ comment.headed.group.start) × (comment.headed.group.start ≤ length source)
  head-ordered =
      let at = h.at.start_is in
      let held = held-at pair-held in
      let start = held.start in
      let within = held.within in (omega arith, omega arith)

  -- What new lines have: as the first line that has a text,
  pub style-as_line : (other : List ℕ) (model : ViewedGroup) (style : LineStyle) → comment.model ≡ Some model
      → ((g : List HeldLine) → HoldsLine source g model → IsStyleOfLine other g style) → IsStyleFor other s.run s.group style
  style-as_line other model style is made =
      let m : IsModel comment.headed.start s.run model = rw is at h.model in
      inl (
        m.line,
        record { before = m.before; after = m.after; division = m.division; none_before = m.none_before; text = m.text; is_line = m.is_line; some = m.some },
        made m.line (model-held model m),
      )

  -- or as none.
  pub style-as_pair : (other : List ℕ) (style : LineStyle) → comment.model ≡ None
      → ((g : List HeldLine) → HoldsGroup source g comment.headed.group → IsStyleAbove other g style) → IsStyleFor other s.run s.group style
  style-as_pair other style is made = inr (rw is at h.model, made s.group pair-held)

-- ---- the comment lines of a section

section-bytes : {source : List ℕ} {comment : Comment} {s : Section} (h : IsSectionAt source comment s)
    → (comment.headed.group.start ≡ comment.headed.start + length (groups_bytes s.run))
    × (take (length (groups_bytes s.run)) (drop comment.headed.start source) ≡ groups_bytes s.run)
section-bytes {s = s} h = (
  h.at.start_is,
  ap (take (length (groups_bytes s.run))) (ap₂ drop h.start_is h.whole ∙ drop-append_seam h.front (groups_bytes s.run ++ (group_bytes s.group ++ h.rest)))
      ∙ take-append_seam (groups_bytes s.run) (group_bytes s.group ++ h.rest),
)

-- They are copied,
pub head-kept : {t : Repertoire} {other : List ℕ} {s : Section} (c : Copied) (comment : Comment) (text : List ℕ) → IsSectionAt c.source.now comment s
    → c.done ≤ comment.headed.start → HasLines t other comment.separator s.run s.group text (groups_bytes s.run) → IsHeadSet t other s c comment text c
head-kept {s = s} c comment text h done lines =
    let (place, bytes) = section-bytes h in
    record {
      head = groups_bytes s.run;
      lines = lines;
      copied = ap (copied_to c) place
          ∙ copied-more c comment.headed.start (length (groups_bytes s.run)) done
          ∙ ap (λ w. copied_to c comment.headed.start ++ w) bytes;
      done = omega arith;
      source_is = refl;
    }

-- or replaced.
pub head-replaced : {t : Repertoire} {other : List ℕ} (s : Section) (c c' : Copied) (comment : Comment) (text head : List ℕ) → HasLines t other comment.separator s.run s.group text head
    → IsReplacedIn c comment.headed.start comment.headed.group.start head c' → IsHeadSet t other s c comment text c'
head-replaced s c c' comment text head lines r =
    let end = comment.headed.group.start in
    let none_off : end - end ≡ 0 = omega arith in
    let done = r.done in
    record {
      head = head;
      lines = lines;
      copied = ap (λ d. c'.bytes.items ++ take (end - d) (drop d c'.source.now)) r.done
          ∙ ap (λ n. c'.bytes.items ++ take n (drop end c'.source.now)) none_off
          ∙ append-nil c'.bytes.items
          ∙ r.bytes_are;
      done = omega arith;
      source_is = r.source_is;
    }

-- ---- new lines

pub lines-printed : (t : Repertoire) (r : code.Repertoire) (style : Style) (lines : List (List ℕ)) → PrintsKeys t r
    → flat_map (comment_line_bytes r style) lines ≡ flat_map (comment_line t (style_in style)) lines
lines-printed t r style [] h = refl
lines-printed t r style (x ∷ lines) h =
    ap₂ (λ a b. a ++ b)
    (ap (λ w. style.indent.now ++ (style.sign ∷ (gap_before style.blank.now x ++ (w ++ style.ending.now)))) (h.comments x)) (lines-printed t r style lines h)

-- in the encoding in force
pub prints-in_force : (r : Repertoire) (rep : code.Repertoire) (source : List ℕ) (f : Encoding) → f ≡ (byte_order_mark r.encoding source).encoding
    → is_editable (byte_order_mark r.encoding source).encoding ≡ true → PrintsKeys (in_encoding r (output_encoding f)) rep → PrintsKeys (repertoire_in_force r source) rep
prints-in_force r rep source f is ok h =
    subst (λ x. PrintsKeys (in_encoding r x) rep) (ap output_encoding is ∙ editable-own (byte_order_mark r.encoding source).encoding ok) h

-- ---- the texts that are there already

abbrev all_but_first : List (List ℕ) → List (List ℕ)
all_but_first [] = []
all_but_first (v ∷ w) = w

abbrev first_of_all : List (List ℕ) → List ℕ
first_of_all [] = []
first_of_all (v ∷ w) = v

bytes-own : (x y : List ℕ) → IsUtf8 x → IsUtf8 y → chars x ≡ chars y → x ≡ y
bytes-own x y u v same = same-key x y (same-characters x y u v ∙ (bytes_eq-Decides (chars x) (chars y)).1 same)

pub texts-same : {Z : Type 0} (a b : List (String Z)) → pointwise string_eq a b ≡ true → map characters a ≡ map characters b
texts-same [] [] h = refl
texts-same [] (y ∷ b) h = absurd (cc)
texts-same (x ∷ a) [] h = absurd (cc)
texts-same (x ∷ a) (y ∷ b) h = elim (cases_Bool (string_eq x y)) [
  | inl t ↦ let rest : pointwise string_eq a b ≡ true = rw t at h in
      ap₂ (λ v w. v ∷ w) (ap chars (same_text (string_bytes x) (string_bytes y) (sym t))) (texts-same a b rest)
  | inr f ↦ let none : false ≡ true = rw f at h in absurd (cc)
]

pub texts-other : {Z : Type 0} (a b : List (String Z)) → pointwise string_eq a b ≡ false → map characters a ≢ map characters b
texts-other [] [] h same = absurd (cc)
texts-other [] (y ∷ b) h same = cc
texts-other (x ∷ a) [] h same = cc
texts-other (x ∷ a) (y ∷ b) h same = elim (cases_Bool (string_eq x y)) [
  | inl t ↦ let rest : pointwise string_eq a b ≡ false = rw t at h in texts-other a b rest (ap all_but_first same)
  | inr f ↦
      other_text (string_bytes x) (string_bytes y) (sym f)
      (bytes-own (string_bytes x) (string_bytes y) (IsUtf8-string_bytes x) (IsUtf8-string_bytes y) (ap first_of_all same))
]
