-- What a view shows of its walk.
use Rattle.std.proofs.Common.{◌≡◌, ◌≢◌, ◌≤◌, ℕ, ◌+◌, true, false, List, [], ◌∷◌, ◌++◌, length, take, drop, refl, inl, inr, ap, ap₂, sym, ◌∙◌, subst, arith, append-nil, append_assoc, length-append}
use Rattle.std.specs.Prelude.{Option, Some, None, ◌&&◌}
use Rattle.std.proofs.Math.Seq.{take-append_seam}
use Rattle.std.proofs.lemmas.Bool.{cases_Bool}
use Rattle.std.specs.Str.{chars}
use Rattle.properties_format.specs.Text.{backslash, is_empty, without_leading_blanks, is_blank}
use Rattle.properties_format.specs.Encoding.{Encoding, windows_1252, utf_8, utf_16le, utf_16be}
use Rattle.properties_format.specs.Edited.{is_editable}
use Rattle.properties_format.specs.Lines.{is_comment_line}
use Rattle.properties_format.specs.Escapes as format
use Rattle.properties_format.specs.Escapes.{Spelling, letter_u, spelling_text, spellings_before}
use Rattle.properties_format.specs.Split as split
use Rattle.properties_format.specs.Split.{IsSplit}
use Rattle.properties_format.specs.Body.{HeldLine, ending_bytes, group_bytes, groups_bytes, last_ending}
use Rattle.properties_format.specs.Computed.Body.{held_groups_of, unended_bytes}
use Rattle.properties_format.specs.Computed.Encoding.{pieces_of}
use Rattle.properties_format.specs.Computed.Split.{split_of}
use Rattle.properties_format.specs.Computed.Valued.{without_indent}
use Rattle.properties_format.proofs.Body.Groups.{held_groups_of-meets, held-body}
use Rattle.properties_format.proofs.Encodings.Pieces.{pieces_of-meets}
use Rattle.properties_format.proofs.GroupsInTurn.Lines.{bytes-unended}
use Rattle.properties_format.proofs.Split.Blanks.{without_leading_blanks-only}
use Rattle.properties_format.proofs.Split.Unique.{split_of-meets}
use Rattle.properties_text.specs.Encoding.{encoding_of}
use Rattle.properties_text.specs.Escaping.{malformed_in}
use Rattle.properties_text.specs.Parsing.{bytes_in}
use Rattle.properties_lines.specs.LogicalLine as lines
use Rattle.properties_lines.specs.declared.scanner.Scanner.{Scanner}
use Rattle.properties_items.specs.Errors.{malformed_kind}
use Rattle.properties_items.specs.declared.error.ErrorKind.{ErrorKind}
use Rattle.properties_editing.specs.Views.{ArePlaces, AreTexts, EndsAt, IsCutBehind, IsFlaw, IsRawKey, IsRawValue, IsTextIn, IsViewOf, OpenView, TakesNext, TellsFlaw, TellsIllFormed, end_of, joined_with, group_kind, past_group, places_at, size_before, with_bytes}
use Rattle.properties_editing.specs.Views as public
use Rattle.properties_editing.specs.Private.BodyCuts.{added_lines, adds, cut_size, is_first_after}
use Rattle.properties_editing.specs.Private.BodyViews as walked
use Rattle.properties_editing.specs.Private.BodyViews.{IsViewed, IsWalkOf, TakesWalk, counts_by, cut_in, groups_to_come, walked_lines, place_in, places_by, walked_places, walked_text}
use Rattle.properties_editing.specs.Private.OpenViews.{HasGroup, IsView, open_view}
use Rattle.properties_editing.specs.declared.group.ViewedGroup.{ViewedGroup}
use Rattle.properties_editing.specs.declared.walk.FoundFlaw.{FoundFlaw}
use Rattle.properties_editing.specs.declared.walk.WalkedGroup.{WalkedGroup}
use Rattle.properties_editing.specs.declared.walk.Walk.{Walk}
use Rattle.properties_editing.proofs.BodyViews.{left-before, no-bytes, view-ordered, viewed-editable, viewed-meets, viewed-text}
use Rattle.properties_editing.proofs.CutMeanings.{AreJoined, IsAlone, group-added, joined-open, open-adds}
use Rattle.properties_editing.proofs.CutOrder.{comment-counts, pair-counts}

-- ---- a view that is opened

pub bytes-together : (gs : List (List HeldLine)) → groups_bytes (with_bytes gs) ≡ groups_bytes gs
bytes-together [] = refl
bytes-together (g ∷ []) = elim (cases_Bool (is_empty (group_bytes g))) [
  | inl k ↦ rw k (sym (append-nil (group_bytes g) ∙ no-bytes (group_bytes g) k))
  | inr k ↦ rw k refl
]
bytes-together (g ∷ h ∷ gs) = ap (λ v. group_bytes g ++ v) (bytes-together (h ∷ gs))

abbrev shown : Walk → Option WalkedGroup → OpenView
shown walk group = open_view (record { walk = walk; group = group })

pub opens-view : {requested : Encoding} {source : List ℕ} {walk : Walk} → IsWalkOf requested source walk
    → IsView (record { walk = walk; group = None }) × IsViewOf requested source (shown walk None)
opens-view {requested} {source} {walk} w =
    let e = encoding_of walk.reader.scanner.encoding in
    let body = drop walk.reader.scanner.at source in
    let all = held_groups_of e body in
    let are = held_groups_of-meets e body in (
      record { opened = w.opened; has_group = tt },
      record {
        source_is = w.source_is;
        in_force = w.in_force;
        within = subst (λ s. walk.reader.scanner.at ≤ length s) w.source_is w.opened.within_body.fits.within;
        editable = w.editable;
        none_given = refl;
        none_passed = w.none_passed;
        given = record {
          all = all;
          division = are;
          are = ap with_bytes w.all;
          together = ap (λ g. groups_bytes (with_bytes g)) w.all ∙ bytes-together all ∙ held-body e body all w.editable are;
        };
      },
    )

-- ---- the next group

-- Where the next group begins.
record IsPassed (walk : Walk) (group : WalkedGroup) : Type 0 where
  at : walk.before.at + length (group_bytes (walked_lines walk)) ≡ walk.reader.scanner.at
  passed : walk.before.passed + length (walked_lines walk) ≡ walk.reader.scanner.passed
  encoding : encoding_of walk.before.encoding ≡ encoding_of walk.reader.scanner.encoding
  start : group.group.start ≡ walk.before.at
  end : group.group.end ≡ end_of (shown walk (Some group))

pub lines-held : {walk : Walk} {group : WalkedGroup} (v : IsViewed walk group) → walked_lines walk ≡ v.takes.held
lines-held {walk} {group} v = let b = left-before v in b.viewed ∙ sym b.is_held

is-passed : {walk : Walk} {group : WalkedGroup} → IsViewed walk group → IsPassed walk group
is-passed {walk} {group} v =
    let held = v.takes.held in
    let at : v.old.scanner.at ≡ walk.before.at = ap (λ s. let k : Scanner = s in k.at) v.before in
    let passed : v.old.scanner.passed ≡ walk.before.passed = ap (λ s. let k : Scanner = s in k.passed) v.before in
    let size : length (group_bytes (walked_lines walk)) ≡ length (group_bytes held) = ap (λ g. length (group_bytes g)) (lines-held v) in
    let count : length (walked_lines walk) ≡ length held = ap length (lines-held v) in
    let ending : length (ending_bytes (last_ending (walked_lines walk))) ≡ length (ending_bytes (last_ending held)) =
    ap (λ g. length (ending_bytes (last_ending g))) (lines-held v) in
    let whole : length (group_bytes held) ≡ length (unended_bytes held) + length (ending_bytes (last_ending held)) =
    ap length (bytes-unended held) ∙ length-append (unended_bytes held) (ending_bytes (last_ending held)) in
    let starts = v.takes.starts in
    let next = v.takes.span.next in
    let unended = v.takes.span.unended in
    let all = v.takes.passed in
    record {
      at = omega arith;
      passed = omega arith;
      encoding = sym (v.takes.encoding ∙ ap (λ s. let k : Scanner = s in encoding_of k.encoding) v.before);
      start = omega arith;
      end = omega arith;
    }

pub past-view : (walk : Walk) (group : Option WalkedGroup) → HasGroup group walk → past_group (shown walk group) ≡ shown walk None
past-view walk None h =
    let s = walk.reader.scanner in
    let at : s.at + 0 ≡ s.at = omega arith in
    let passed : s.passed + 0 ≡ s.passed = omega arith in
    ap₂ (λ a p. record (shown walk None) { start = a; passed = p }) at passed
past-view walk (Some group) v = let p = is-passed v in rw (p.at, p.passed, p.encoding) refl

abbrev told : WalkedGroup → ℕ → ViewedGroup
told group count =
    record {
      kind = group.parts.kind;
      line_number = group.group.number;
      line_count = count;
      start = group.group.start;
      end = group.group.end;
      next = group.next;
    }

-- The next one was.
pub view-taken : (old new : Walk) (last : Option WalkedGroup) (group : WalkedGroup) (count : ℕ) → IsView (record { walk = old; group = last })
    → TakesWalk old group new → count ≡ length (walked_lines new) → IsView (record { walk = new; group = Some group }) × TakesNext (shown old last) (told group count) (shown new (Some group))
view-taken old new last group count v t is =
    let h = t.viewed in
    let p = is-passed h in
    let source : new.source.now ≡ old.source.now = ap (λ w. let k : Walk = w in k.source.now) t.same in
    let state : new.before ≡ old.reader.scanner = ap (λ w. let k : Walk = w in k.before) t.same in
    let what = split_of (walked_text new) in
    let number = h.takes.number in
    let before : h.old.scanner.passed ≡ new.before.passed = ap (λ s. let k : Scanner = s in k.passed) h.before in (
      record { opened = t.opened; has_group = h },
      record {
        takes = t.given ∙ ap (λ g. g ∷ with_bytes (groups_to_come new)) (sym (lines-held h));
        moves = rw (source, state) refl
            ∙ sym (ap (λ w. let k : OpenView = w in record k { group = walked_lines new; to_come = with_bytes (groups_to_come new) }) (past-view old last v.has_group));
        is_group = record {
          what = what;
          is_split = split_of-meets (walked_text new);
          kind_is = h.parts.kind_is ∙ ap (λ x. group_kind (split_of x)) (viewed-text h);
          line_number = number ∙ ap (λ n. n + 1) before;
          line_count = is;
          start = p.start;
          end = p.end;
          next = h.next ∙ sym p.at;
        };
      },
    )

-- ---- texts as they stand

pub raw-key : {walk : Walk} {group : WalkedGroup} → IsViewed walk group → IsRawKey (walked_text walk) (chars (bytes_in (walked.walked_line walk group) group.parts.key))
raw-key {walk} {group} v =
    let line = walked.walked_line walk group in
    let x = walked_text walk in
    let key = chars (bytes_in line group.parts.key) in
    let texts = subst (λ y. walked.AreTextsOf (split_of y) line group.parts) (viewed-text v) v.parts.texts in
    by (split_of x) (split_of-meets x) (ap (λ y. take 1 (without_leading_blanks y)) (viewed-text v)) texts
  where
    by : (s : split.Logical) → IsSplit (walked_text walk) s
        → take 1 (without_leading_blanks (chars (walked.walked_line walk group))) ≡ take 1 (without_leading_blanks (walked_text walk))
        → walked.AreTextsOf s (walked.walked_line walk group) group.parts
        → IsRawKey (walked_text walk) (chars (bytes_in (walked.walked_line walk group) group.parts.key))
    by split.blank d one t = (split.blank, (d, t.0))
    by (split.comment text) d one t =
        let full : is_blank d.sign ≡ false = (let k = d.is_sign in grind (arith)) in
        let y : without_leading_blanks (walked_text walk) ≡ d.sign ∷ d.rest =
        ap without_leading_blanks d.whole ∙ without_leading_blanks-only d.indent (d.sign ∷ d.rest) d.indent_blank full in
        (split.comment text, (d, t.0 ∙ one ∙ ap (take 1) y))
    by (split.pair key value) d one t = (split.pair key value, (d, t.0))

pub raw-value : {walk : Walk} {group : WalkedGroup} → IsViewed walk group
    → IsRawValue (walked_text walk) (chars (bytes_in (walked.walked_line walk group) group.parts.value))
raw-value {walk} {group} v =
    let line = walked.walked_line walk group in
    let x = walked_text walk in
    by (split_of x) (split_of-meets x) (subst (λ y. walked.AreTextsOf (split_of y) line group.parts) (viewed-text v) v.parts.texts)
  where
    by : (s : split.Logical) → IsSplit (walked_text walk) s → walked.AreTextsOf s (walked.walked_line walk group) group.parts
        → IsRawValue (walked_text walk) (chars (bytes_in (walked.walked_line walk group) group.parts.value))
    by split.blank d t = (split.blank, d, t.1)
    by (split.comment text) d t = (split.comment text, d, t.1)
    by (split.pair key value) d t = (split.pair key value, d, t.1)

-- ---- cuts

no-line : (hs more : List HeldLine) (line : HeldLine) → hs ++ line ∷ more ≡ [] → ⊥
no-line [] more line h = absurd (cc)
no-line (i ∷ hs) more line h = absurd (cc)

-- Whole lines and a head add what they are joined to.
joined-kept : (kept more : List HeldLine) (line : HeldLine) (head : List ℕ) → IsAlone (kept ++ line ∷ more)
    → added_lines true kept ++ without_indent (is_first_after true kept) head ≡ joined_with kept head
joined-kept [] more line head alone = refl
joined-kept (h ∷ hs) more line head alone =
    ap (λ v. v ++ without_leading_blanks head) (sym (group-added h hs (λ c. absurd (no-line hs more line (alone c)))))

-- The tail of a line that others follow isn't empty.
tail-some : (kept more : List HeldLine) (line : HeldLine) (head tail : List ℕ) → IsAlone (kept ++ line ∷ more) → AreJoined (kept ++ line ∷ more)
    → line.text ≡ head ++ tail → length (without_indent (is_first_after true kept) head) ≤ length (adds (is_first_after true kept) line.text)
    → more ≢ [] → tail ≢ []
tail-some kept more line head tail alone joined text within some none =
    let first = is_first_after true kept in
    let same : line.text ≡ head = text ∙ ap (λ t. head ++ t) none ∙ append-nil head in
    let size : length (without_indent first line.text) ≡ length (without_indent first head) = ap (λ t. length (without_indent first t)) same in
    let less = open-adds first line.text (joined-open kept more line joined some) (no-comment kept alone) in
    omega arith
  where
    no-comment : (kept : List HeldLine) → IsAlone (kept ++ line ∷ more) → (is_first_after true kept && is_comment_line line.text) ≡ false
    no-comment [] alone = elim (cases_Bool (is_comment_line line.text)) [ inl k ↦ absurd (some (alone k)) | inr k ↦ k ]
    no-comment (h ∷ hs) alone = refl

-- A computed cut, as callers see it.
record IsSeen (walk : Walk) (n : ℕ) (text : List ℕ) : Type 0 where
  cut : IsCutBehind (encoding_of walk.before.encoding) (walked_lines walk) text
  size : cut_size (cut_in walk n) ≡ size_before cut
  number : (cut_in walk n).line ≡ length cut.kept + 1
  head : (cut_in walk n).head ≡ length cut.head

cut-seen : {walk : Walk} {group : WalkedGroup} (n : ℕ) (text rest : List ℕ) → IsViewed walk group → walked_text walk ≡ text ++ rest → n ≡ length text
    → IsSeen walk n text
cut-seen {walk} {group} n text rest v whole count =
    let e = encoding_of walk.before.encoding in
    let sizes : length (walked_text walk) ≡ length text + length rest = ap length whole ∙ length-append text rest in
    let m = viewed-meets n v (omega arith) in
    let b = left-before v in
    let division = sym b.viewed ∙ m.division in
    let alone = subst IsAlone division b.alone in
    let joined = subst AreJoined division b.joined in
    let front : take n (walked_text walk) ≡ text = ap₂ take count whole ∙ take-append_seam text rest in
    let kept_size = m.kept_size in
    let head_size = m.head_size in
    record {
      cut = record {
        kept = m.kept;
        line = m.line;
        more = m.more;
        division = m.division;
        head = m.head;
        tail = m.tail;
        head_text = m.head_text;
        tail_text = m.tail_text;
        cut = m.cut_bytes;
        cut_text = m.cut_text;
        is_head = (pieces_of e m.head, pieces_of-meets e m.head, sym m.is_head);
        is_tail = (pieces_of e m.tail, pieces_of-meets e m.tail, sym m.is_tail);
        text_is = sym front ∙ m.up_to ∙ joined-kept m.kept m.more m.line m.head_text alone;
        not_blank = m.later;
        before_join = tail-some m.kept m.more m.line m.head_text m.tail_text alone joined m.cut_text m.within;
      };
      size = omega arith;
      number = m.number;
      head = m.head_size;
    }

ends-at : {walk : Walk} {group : WalkedGroup} (n : ℕ) (text rest : List ℕ) → IsViewed walk group → walked_text walk ≡ text ++ rest → n ≡ length text
    → EndsAt (shown walk (Some group)) text (place_in walk n)
ends-at {walk} {group} n text rest v whole count = let s = cut-seen n text rest v whole count in (s.cut, ap (λ k. walk.before.at + k) s.size)

-- ---- places

pub places-seen : {walk : Walk} {group : WalkedGroup} → IsViewed walk group → ArePlaces (shown walk (Some group)) (walked_places walk group)
places-seen {walk} {group} v = by (split_of (walked_text walk)) (split_of-meets (walked_text walk))
  where
    by : (s : split.Logical) → IsSplit (walked_text walk) s
        → ArePlaces (shown walk (Some group)) (places_by (group_kind s) walk group (counts_by s (walked_text walk)))
    by split.blank d = (split.blank, (d, ap places_at (is-passed v).end))
    by (split.comment text) d =
        let t = d.trimmed in
        let c = comment-counts (walked_text walk) text d in
        let after = t.before ++ (text ++ t.after) in
        let one : walked_text walk ≡ (d.indent ++ d.sign ∷ []) ++ after =
        d.whole ∙ ap (λ r. d.indent ++ d.sign ∷ r) t.whole ∙ sym (append_assoc d.indent (d.sign ∷ []) after) in
        let two : walked_text walk ≡ (d.indent ++ d.sign ∷ t.before) ++ (text ++ t.after) =
        d.whole ∙ ap (λ r. d.indent ++ d.sign ∷ r) t.whole ∙ sym (append_assoc d.indent (d.sign ∷ t.before) (text ++ t.after)) in
        let three : walked_text walk ≡ (d.indent ++ d.sign ∷ (t.before ++ text)) ++ t.after =
        d.whole ∙ ap (λ r. d.indent ++ d.sign ∷ r) (t.whole ∙ sym (append_assoc t.before text t.after))
        ∙ sym (append_assoc d.indent (d.sign ∷ (t.before ++ text)) t.after) in
        let a = length-append d.indent (d.sign ∷ []) in
        let b = length-append d.indent (d.sign ∷ t.before) in
        let e = length-append d.indent (d.sign ∷ (t.before ++ text)) in
        let f = length-append t.before text in
        let key_start = c.key_start in
        let key_end = c.key_end in
        let value_start = c.value_start in
        let value_end = c.value_end in (
          split.comment text,
          record {
            is_comment = d;
            key_start = ends-at _ d.indent (d.sign ∷ d.rest) v d.whole c.key_start;
            key_end = ends-at _ (d.indent ++ d.sign ∷ []) after v one (omega arith);
            value_start = ends-at _ (d.indent ++ d.sign ∷ t.before) (text ++ t.after) v two (omega arith);
            value_end = ends-at _ (d.indent ++ d.sign ∷ (t.before ++ text)) t.after v three (omega arith);
          },
        )
    by (split.pair key value) d =
        let c = pair-counts (walked_text walk) key value d in
        let one : walked_text walk ≡ (d.indent ++ key) ++ (d.between ++ value) = d.whole ∙ sym (append_assoc d.indent key (d.between ++ value)) in
        let two : walked_text walk ≡ (d.indent ++ (key ++ d.between)) ++ value =
        d.whole ∙ ap (λ r. d.indent ++ r) (sym (append_assoc key d.between value)) ∙ sym (append_assoc d.indent (key ++ d.between) value) in
        let a = length-append d.indent key in
        let b = length-append d.indent (key ++ d.between) in
        let f = length-append key d.between in
        let key_end = c.key_end in
        let value_start = c.value_start in (
          split.pair key value,
          record {
            is_pair = d;
            key_start = ends-at _ d.indent (key ++ (d.between ++ value)) v d.whole c.key_start;
            key_end = ends-at _ (d.indent ++ key) (d.between ++ value) v one (omega arith);
            value_start = ends-at _ (d.indent ++ (key ++ d.between)) value v two (omega arith);
            value_end = (is-passed v).end;
          },
        )

pub places-ordered : {walk : Walk} {group : WalkedGroup} → IsViewed walk group → public.AreOrdered (shown walk (Some group)) (walked_places walk group)
places-ordered {walk} {group} v =
    let p = is-passed v in
    let o = view-ordered v in
    let places = walked_places walk group in
    record {
      indent = subst (λ n. n ≤ places.key_start) p.start o.indent;
      key = o.key;
      between = o.between;
      value = o.value;
      after = subst (λ n. places.value_end ≤ n) p.end o.after;
    }

-- ---- malformed escapes

before-rest : (ps : List Spelling) (rest : List ℕ) → spellings_before ps rest ≡ spellings_before ps [] ++ rest
before-rest [] rest = refl
before-rest (p ∷ ps) rest = ap (λ v. spelling_text p ++ v) (before-rest ps rest) ∙ sym (append_assoc (spelling_text p) (spellings_before ps []) rest)

-- A malformed escape of a part of the logical line.
record BreaksAt (walk : Walk) (front text : List ℕ) (how : format.Malformed) (count : ℕ) : Type 0 where
  before : List ℕ
  breaks : public.BreaksBehind front text how before
  cut : IsSeen walk (count + 1) (before ++ backslash ∷ [])

breaks-at : {walk : Walk} {group : WalkedGroup} (front text rest : List ℕ) (how : format.Malformed) (start count : ℕ) → IsViewed walk group
    → walked_text walk ≡ front ++ (text ++ rest)
    → start ≡ length front → walked.BreaksPart start text how count → BreaksAt walk front text how count
breaks-at {walk} {group} front text rest how start count v whole at k =
    let b = k.breaks_at.breaks in
    let inside = spellings_before b.spellings [] in
    let left = letter_u ∷ b.after in
    let before = front ++ inside in
    let parts : text ≡ inside ++ (backslash ∷ left) = b.whole ∙ before-rest b.spellings (backslash ∷ left) in
    let line : walked_text walk ≡ (before ++ backslash ∷ []) ++ (left ++ rest) =
    whole ∙ ap (λ t. front ++ (t ++ rest)) parts ∙ ap (λ t. front ++ t) (append_assoc inside (backslash ∷ left) rest)
    ∙ sym (append_assoc front inside (backslash ∷ (left ++ rest))) ∙ sym (append_assoc before (backslash ∷ []) (left ++ rest)) in
    let sizes : length text ≡ length inside + length (backslash ∷ left) = ap length parts ∙ length-append inside (backslash ∷ left) in
    let all : length (before ++ backslash ∷ []) ≡ length before + 1 = length-append before (backslash ∷ []) in
    let head : length before ≡ length front + length inside = length-append front inside in
    let place = k.place in
    let inner = k.breaks_at.place in
    record {
      before = before;
      breaks = record { breaks = b; before_is = refl };
      cut = cut-seen (count + 1) (before ++ backslash ∷ []) (left ++ rest) v line (omega arith);
    }

-- It is that of the line.
record BreaksLineAt (walk : Walk) (how : format.Malformed) (count : ℕ) : Type 0 where
  what : split.Logical
  before : List ℕ
  breaks : public.BreaksLine (walked_text walk) how before what
  cut : IsSeen walk (count + 1) (before ++ backslash ∷ [])

line-breaks : {walk : Walk} {group : WalkedGroup} (how : format.Malformed) (count : ℕ) → IsViewed walk group → (s : split.Logical)
    → IsSplit (walked_text walk) s → walked.HasFlaw s (counts_by s (walked_text walk)) how count → BreaksLineAt walk how count
line-breaks {walk} {group} how count v split.blank d h = absurd h
line-breaks {walk} {group} how count v (split.comment text) d h =
    let t = d.trimmed in
    let c = comment-counts (walked_text walk) text d in
    let value_start = c.value_start in
    let size = length-append d.indent (d.sign ∷ t.before) in
    let whole : walked_text walk ≡ (d.indent ++ d.sign ∷ t.before) ++ (text ++ t.after) =
    d.whole ∙ ap (λ r. d.indent ++ d.sign ∷ r) t.whole ∙ sym (append_assoc d.indent (d.sign ∷ t.before) (text ++ t.after)) in
    let b = breaks-at (d.indent ++ d.sign ∷ t.before) text t.after how _ count v whole (omega arith) h in
    record { what = split.comment text; before = b.before; breaks = (d, b.breaks); cut = b.cut }
line-breaks {walk} {group} how count v (split.pair key value) d (inl h) =
    let c = pair-counts (walked_text walk) key value d in
    let b = breaks-at d.indent key (d.between ++ value) how _ count v d.whole c.key_start h in
    record { what = split.pair key value; before = b.before; breaks = (d, inl b.breaks); cut = b.cut }
line-breaks {walk} {group} how count v (split.pair key value) d (inr h) =
    let c = pair-counts (walked_text walk) key value d in
    let value_start = c.value_start in
    let a = length-append d.indent (key ++ d.between) in
    let f = length-append key d.between in
    let whole : walked_text walk ≡ (d.indent ++ (key ++ d.between)) ++ (value ++ []) =
    d.whole ∙ ap (λ r. d.indent ++ r) (sym (append_assoc key d.between value)) ∙ sym (append_assoc d.indent (key ++ d.between) value)
    ∙ ap (λ r. (d.indent ++ (key ++ d.between)) ++ r) (sym (append-nil value)) in
    let b = breaks-at (d.indent ++ (key ++ d.between)) value [] how _ count v whole (omega arith) h.1 in
    record { what = split.pair key value; before = b.before; breaks = (d, inr (h.0, b.breaks)); cut = b.cut }

pub flaw-seen : {walk : Walk} {group : WalkedGroup} (found : FoundFlaw) (kind : ErrorKind) → IsViewed walk group → walked.IsFlawOf walk found
    → kind ≡ malformed_kind (malformed_in found.how)
    → IsFlaw (shown walk (Some group)) (record { kind = kind; place = found.place; line_number = found.number; column = found.column })
flaw-seen {walk} {group} found kind v f is =
    let how = malformed_in found.how in
    let b = line-breaks how f.count v (split_of (walked_text walk)) (split_of-meets (walked_text walk)) f.has_flaw in
    record {
      what = b.what;
      how = how;
      before = b.before;
      breaks = b.breaks;
      kind_is = is;
      cut = b.cut.cut;
      place = f.place ∙ ap (λ n. walk.before.at + n) b.cut.size;
      line_number = f.number ∙ ap (λ n. walk.before.passed + n) b.cut.number;
      column = f.column ∙ b.cut.head;
    }

pub none-flawed : (walk : Walk) (group : WalkedGroup) → walked.HasNoFlaw (split_of (walked_text walk)) → TellsFlaw (shown walk (Some group)) None
none-flawed walk group h = (split_of (walked_text walk), split_of-meets (walked_text walk), by (split_of (walked_text walk)) h)
  where
    by : (s : split.Logical) → walked.HasNoFlaw s → public.AreMeaningful s
    by split.blank h = tt
    by (split.comment text) h = h
    by (split.pair key value) h = h

-- ---- ill-formed lines

-- Whether bytes are text is asked of encodings that are edited.
pub text-in : (e : Encoding) (bytes : List ℕ) → lines.IsLineIn e bytes → IsTextIn e bytes
text-in windows_1252 bytes h = tt
text-in utf_8 bytes h = h
text-in utf_16le bytes h = absurd h
text-in utf_16be bytes h = absurd h

line-in : (e : Encoding) (bytes : List ℕ) → is_editable e ≡ true → IsTextIn e bytes → lines.IsLineIn e bytes
line-in windows_1252 bytes ok h = tt
line-in utf_8 bytes ok h = h
line-in utf_16le bytes ok h = absurd (cc)
line-in utf_16be bytes ok h = absurd (cc)

texts-in : (e : Encoding) (hs : List HeldLine) → walked.AreLinesIn e hs → AreTexts e hs
texts-in e [] h = tt
texts-in e (i ∷ hs) h = (text-in e i.bytes h.0, texts-in e hs h.1)

pub ill-formed : {walk : Walk} {group : WalkedGroup} (number : Option ℕ) → IsViewed walk group → walked.TellsIllFormedLine walk number
    → TellsIllFormed (shown walk (Some group)) number
ill-formed {walk} {group} None v h = texts-in (encoding_of walk.before.encoding) (walked_lines walk) h
ill-formed {walk} {group} (Some number) v (n, is, first) =
    let e = encoding_of walk.before.encoding in
    record {
      kept = first.kept;
      line = first.line;
      more = first.more;
      division = first.division;
      texts = texts-in e first.kept first.texts;
      ill_formed = λ h. first.ill_formed (line-in e first.line.bytes (viewed-editable v) h);
      is_number = is ∙ ap (λ m. walk.before.passed + m) first.is_number;
    }
