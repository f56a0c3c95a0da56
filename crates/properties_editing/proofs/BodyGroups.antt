-- The groups of a body that is held whole.
use Rattle.std.proofs.Common.{◌≡◌, ◌==◌, ℕ, ◌+◌, ◌-◌, ◌≤◌, List, [], ◌∷◌, ◌++◌, length, take, drop, refl, ap, ap₂, sym, ◌∙◌, subst, inl, inr, arith, append-nil, length-append, length-drop}
use Rattle.std.specs.Prelude.{◌⊎◌, ◌&&◌, ◌||◌, not, Bool, true, false, Option, Some, None, Ok}
use Rattle.std.proofs.lemmas.Bool.{cases_Bool}
use Rattle.std.proofs.Math.Seq.{drop-append_seam, take-append_seam}
use Rattle.std.proofs.lemmas.List.{length-take-le, drop-drop}
use Rattle.properties_format.specs.Text as text
use Rattle.properties_format.specs.Encoding.{Encoding, windows_1252, utf_8, utf_16le, utf_16be, output_encoding}
use Rattle.properties_format.specs.Lines.{Line, is_comment_line, is_open, joined, addition}
use Rattle.properties_format.specs.Text.{is_empty}
use Rattle.std.proofs.lemmas.Bool.Decides.{nat_tests}
use Rattle.properties_format.specs.Computed.Lines.{closes}
use Rattle.properties_format.specs.Computed.Cut.{decoded_line}
use Rattle.properties_format.specs.Body.{HeldLine, as_lines, ending_bytes, group_bytes}
use Rattle.properties_format.specs.Computed.Body.{held_groups_after, held_groups_of, unended_bytes}
use Rattle.properties_format.proofs.Body.Groups.{as_lines-append, groups-close, groups-leave, group_bytes-append}
use Rattle.properties_format.proofs.Cut.Only.{ending-windows_1252, ending-utf_8}
use Rattle.properties_format.proofs.Edited.Steps.{is_left_open-push, is_empty_line-push}
use Rattle.properties_format.proofs.Groups.Joined.{joined-push, joined-one, joined-closed, joined-comment_line}
use Rattle.properties_format.proofs.Edited.Parts.{unended-kept}
use Rattle.properties_text.specs.Encoding.{encoding_of, line_of}
use Rattle.properties_lines.specs.LineSearch.{unit_size}
use Rattle.properties_lines.specs.Private.HeldLines.{held_line, held_lines_left}
use Rattle.properties_lines.specs.LogicalLine.{IsNotContinued, OpensJoin, BeginsLine, AddsLine, HasText, IsUnfinishedLine, IsTextOf, IsSoundLogicalLine, TellsLine, unfinished_text, bytes_with}
use Rattle.properties_lines.specs.Scanner as scanner
use Rattle.properties_lines.specs.Scanner.{raw_line_bytes, GivesScannedLine, HasRightFlags}
use Rattle.properties_lines.specs.declared.scanner.RawLine.{RawLine}
use Rattle.properties_lines.specs.declared.logical.LogicalLine.{LogicalLine}
use Rattle.properties_lines.specs.declared.logical.Place.TheVariants.{Natural}
use Rattle.properties_lines.specs.declared.scanner.Scanner.{Scanner}
use Rattle.properties_lines.proofs.TestedBytes.{ascii-line}
use Rattle.properties_lines.proofs.LineTexts.{line-in, joins-alike, ascii-text}
use Rattle.properties_text.specs.Escaping.{text_in, IsWell}
use Rattle.properties_lines.proofs.HeldLines.{body-next, body-after, body-lines_left}
use Rattle.properties_editing.specs.Private.BodyGroups.{IsWithin, groups_left, IsBegun, TakesHeldLine, IsSpanOf, TakesHeldGroup, groups_from, ReadsGroup, group_span_bytes}
use Rattle.properties_editing.specs.declared.groups.Group.{Group}
use Rattle.properties_editing.specs.declared.groups.GroupReader.{GroupReader}

-- ---- the groups that are left

pub groups-lines : (body : List ℕ) (s : GroupReader) → groups_left body s ≡ held_groups_after [] (held_lines_left body s.scanner)
unfolding held_groups_of
groups-lines body s = elim (cases_Bool s.scanner.is_done) [ inl h ↦ rw h refl | inr h ↦ rw h refl ]

-- ---- the next line

-- the bytes of a line ending, where a unit is one byte
one-byte-ending : (e : Encoding) (ending : Option text.LineEnding) → unit_size e ≡ 1 → scanner.ending_bytes_in e ending ≡ ending_bytes ending
one-byte-ending windows_1252 None h = refl
one-byte-ending windows_1252 (Some by) h = ending-windows_1252 by
one-byte-ending utf_8 None h = refl
one-byte-ending utf_8 (Some by) h = ending-utf_8 by
one-byte-ending utf_16le ending h = absurd (omega arith)
one-byte-ending utf_16be ending h = absurd (omega arith)

-- what is between two places of some bytes
between : (d x y z : List ℕ) (start stop next : ℕ) → drop start d ≡ x ++ (y ++ z) → z ≡ drop next d → start ≤ stop → stop ≤ next → next ≤ length d
    → length x ≡ stop - start → take (next - stop) (drop stop d) ≡ y
between d x y z start stop next h rest ordered placed within size =
    let place : start + length x ≡ stop = omega arith in
    let left : drop stop d ≡ y ++ z = ap (λ n. drop n d) (sym place) ∙ sym (drop-drop (length x) start d) ∙ ap (drop (length x)) h ∙ drop-append_seam x (y ++ z) in
    let all : length d - stop ≡ length y + (length d - next) =
    sym (length-drop stop d) ∙ ap length left ∙ length-append y z ∙ ap (λ n. length y + n) (ap length rest ∙ length-drop next d) in
    let much : next - stop ≡ length y = omega arith in
    ap₂ take much left ∙ take-append_seam y z

pub line_size : (body : List ℕ) (start stop : ℕ) → start ≤ stop → stop ≤ length body → length (take (stop - start) (drop start body)) ≡ stop - start
line_size body start stop h k =
    let left : length (drop start body) ≡ length body - start = length-drop start body in
    length-take-le (stop - start) (drop start body) (omega arith)

-- The scanner gave the next line.
pub takes-line : (body : List ℕ) (old : GroupReader) (new : Scanner) → IsWithin body old → GivesScannedLine old.scanner body true new
    → TakesHeldLine body old (record old { scanner = new })
takes-line body old new w g =
    let next = body-next old.scanner new body w.within_body g in
    let e = encoding_of new.encoding in
    let one : unit_size e ≡ 1 = ap unit_size next.0 ∙ w.bytes in
    let ordered = g.cut.ordered.0 in
    let placed = g.cut.ordered.1 in
    let within = g.cut.ordered.2 in
    record {
      live = g.live;
      ending = g.cut.ending;
      lines = body-lines_left old.scanner new body w.within_body g;
      starts = next.1;
      ordered = ordered;
      placed = placed;
      ends = between body (raw_line_bytes body new.line) (scanner.ending_bytes_in e g.cut.ending) (drop new.at body) new.line.start new.line.end new.at
          g.cut.division refl ordered placed within (line_size body new.line.start new.line.end ordered (omega arith))
          ∙ one-byte-ending e g.cut.ending one;
      passed = g.number;
      flags = g.flags;
      within = record { bytes = one; within_body = body-after old.scanner new body g };
      encoding = next.0;
      same = refl;
    }

-- An ASCII-only line needs no decoding.
pub tells-line : (e : Encoding) (bytes : List ℕ) (line : RawLine) → HasRightFlags e bytes line → line.is_ascii ≡ true → TellsLine e bytes true
tells-line e bytes line flags h = let ascii = flags.ascii.0 h in ascii-line e bytes ascii.0 ascii.1

-- ---- a group of one line

pub no-bytes : (bytes : List ℕ) → (length bytes == 0) ≡ is_empty bytes
no-bytes [] = refl
no-bytes (b ∷ bytes) = grind (arith, nat_tests)

same-place : (start stop n : ℕ) → start ≤ stop → n ≡ stop - start → (start == stop) ≡ (n == 0)
same-place start stop n h k = grind (arith, nat_tests)

-- How many bytes the line and its ending have.
pub record HasSizes (body : List ℕ) (new : GroupReader) (ending : Option text.LineEnding) : Type 0 where
  pub line : length (raw_line_bytes body new.scanner.line) ≡ new.scanner.line.end - new.scanner.line.start
  pub ending_size : length (ending_bytes ending) ≡ new.scanner.at - new.scanner.line.end
  pub within : new.scanner.at ≤ length body

pub has-sizes : (body : List ℕ) (old new : GroupReader) (k : TakesHeldLine body old new) → HasSizes body new k.ending
has-sizes body old new k =
    let ordered = k.ordered in
    let placed = k.placed in
    let within = k.within.within_body.fits.within in
    record {
      line = line_size body new.scanner.line.start new.scanner.line.end ordered (omega arith);
      ending_size = ap length (sym k.ends) ∙ line_size body new.scanner.line.end new.scanner.at placed within;
      within = within;
    }

-- the span of its line
span-one : (body : List ℕ) (old new : GroupReader) (group : Group) (k : TakesHeldLine body old new)
    → group.start ≡ new.scanner.line.start → group.end ≡ new.scanner.line.end
    → let h = held_line (encoding_of old.scanner.encoding) body new.scanner.line k.ending in
    group.is_open ≡ (not (is_comment_line h.text) && is_open h.text) → group.is_empty ≡ (new.scanner.line.start == new.scanner.line.end)
    → IsSpanOf (h ∷ []) group new.scanner.at
span-one body old new group k starts ends opens empty =
    let line = new.scanner.line in
    let bytes = raw_line_bytes body line in
    let by = ending_bytes k.ending in
    let sizes = has-sizes body old new k in
    let size = sizes.line in
    let ordered = k.ordered in
    let all : length (bytes ++ (by ++ [])) ≡ length bytes + length by = ap (λ v. length (bytes ++ v)) (append-nil by) ∙ length-append bytes by in
    record {
      unended = omega arith;
      next = omega arith;
      opens = opens;
      empty = empty ∙ same-place line.start line.end (length bytes) ordered size ∙ no-bytes bytes;
    }

not_left-closes : (comment opened : Bool) → (not comment && opened) ≡ false → (comment || not opened) ≡ true
not_left-closes true opened h = refl
not_left-closes false true h = absurd (cc)
not_left-closes false false h = refl

pub joined-alone : (l : Line) → (not (is_comment_line l.text) && is_open l.text) ≡ false → joined (l ∷ []) ≡ l.text
joined-alone l h = elim (cases_Bool (is_comment_line l.text)) [
  | inl k ↦ joined-comment_line l [] k
  | inr k ↦ joined-closed l (rw k at h)
]

not-left : (text : List ℕ) → IsNotContinued text → (not (is_comment_line text) && is_open text) ≡ false
not-left text (inl h) = rw h refl
not-left text (inr h) = elim (cases_Bool (is_comment_line text)) [ inl k ↦ rw k refl | inr k ↦ rw (k, h) refl ]

-- The line that is unfinished has the text that was joined.
unfinished-has : (e : Encoding) (l : LogicalLine) (natural text : List ℕ) → IsUnfinishedLine e l → unfinished_text l ≡ text → HasText l natural text
unfinished-has e l natural text u h = record { well = rw u.place u.well; is = rw u.place h }

-- The first line of a group was read.
pub group-first : (E : Type 0) (body : List ℕ) (old found : GroupReader) (l : LogicalLine) (group : Group) (told : Bool) (k : TakesHeldLine body old found)
    → BeginsLine {E = E} (encoding_of found.scanner.encoding) (raw_line_bytes body found.scanner.line) (Ok told) l
    → group.number ≡ found.scanner.passed → group.start ≡ found.scanner.line.start → group.end ≡ found.scanner.line.end
    → group.is_open ≡ told → group.is_empty ≡ (found.scanner.line.start == found.scanner.line.end)
    → ReadsGroup body old group (record found { line = l })
group-first E body old found l group false k begins number starts ends opens empty =
    let e = encoding_of old.scanner.encoding in
    let bytes = raw_line_bytes body found.scanner.line in
    let h : HeldLine = held_line e body found.scanner.line k.ending in
    let line : Line = record { number = 0; text = h.text } in
    let rest = held_lines_left body found.scanner in
    let b = subst (λ v. IsNotContinued (decoded_line v bytes) × HasText l bytes (decoded_line v bytes)) k.encoding begins in
    let alone = not-left h.text b.0 in
    let same : take (group.end - group.start) (drop group.start body) ≡ bytes = ap₂ (λ m n. take (m - n) (drop n body)) ends starts in
    record {
      first = h;
      more = [];
      live = k.live;
      groups = ap (held_groups_after []) k.lines ∙ groups-close [] h rest (not_left-closes _ _ alone) ∙ ap (λ v. groups_from v (h ∷ []) rest) (sym opens);
      starts = starts ∙ k.starts;
      number = number ∙ k.passed;
      passed = k.passed;
      span = span-one body old found group k starts ends (opens ∙ sym alone) empty;
      encoding = k.encoding;
      opened = λ n. absurd (cc);
      text = subst (λ v. HasText l v (joined (line ∷ []))) (sym same) (subst (HasText l bytes) (sym (joined-alone line alone)) b.1);
    }
group-first E body old found l group true k begins number starts ends opens empty =
    let e = encoding_of old.scanner.encoding in
    let bytes = raw_line_bytes body found.scanner.line in
    let h : HeldLine = held_line e body found.scanner.line k.ending in
    let line : Line = record { number = 0; text = h.text } in
    let rest = held_lines_left body found.scanner in
    let b = subst (λ v. OpensJoin v (decoded_line v bytes) l) k.encoding begins in
    let other = b.other in
    let open_text = b.opens in
    let leaves : closes [] line ≡ false = rw (other, open_text) refl in
    let left : (not (is_comment_line h.text) && is_open h.text) ≡ true = rw (other, open_text) refl in
    record {
      first = h;
      more = [];
      live = k.live;
      groups = ap (held_groups_after []) k.lines ∙ groups-leave [] h rest leaves ∙ ap (λ v. groups_from v (h ∷ []) rest) (sym opens);
      starts = starts ∙ k.starts;
      number = number ∙ k.passed;
      passed = k.passed;
      span = span-one body old found group k starts ends (opens ∙ sym left) empty;
      encoding = k.encoding;
      opened = λ n. other;
      text = unfinished-has e l _ (joined (line ∷ [])) b.unfinished (b.closed ∙ sym (joined-one line other));
    }

-- ---- a line more

from-more : (told : Bool) (g rest : List HeldLine) (h : HeldLine) (first : HeldLine) (more : List HeldLine) → g ≡ first ∷ more → told ≡ is_open h.text
    → held_groups_after g (h ∷ rest) ≡ groups_from told (g ++ h ∷ []) rest
from-more true g rest h first more is k =
    groups-leave g h rest (rw (is, ← k) refl)
from-more false g rest h first more is k =
    groups-close g h rest (rw (is, ← k) refl)

-- A line is joined to a group that is open.
pub group-more : (E : Type 0) (body : List ℕ) (before : GroupReader) (group : Group) (mid found : GroupReader) (l : LogicalLine) (stop : ℕ) (told : Bool)
    → ReadsGroup body before group mid → group.is_open ≡ true → (k : TakesHeldLine body mid found) → IsUnfinishedLine (encoding_of mid.scanner.encoding) mid.line
    → AddsLine {E = E} (encoding_of found.scanner.encoding) (raw_line_bytes body found.scanner.line) found.line (Ok told) l → stop ≡ found.scanner.line.end
    → ReadsGroup body before (record group { end = stop; is_open = told; is_empty = false }) (record found { line = l })
group-more E body before group mid found l stop told j opened k unfinished added stops =
    let e = encoding_of mid.scanner.encoding in
    let bytes = raw_line_bytes body found.scanner.line in
    let h : HeldLine = held_line e body found.scanner.line k.ending in
    let line : Line = record { number = 0; text = h.text } in
    let first : Line = record { number = 0; text = j.first.text } in
    let rest = held_lines_left body found.scanner in
    let g = j.first ∷ j.more in
    let by = ending_bytes k.ending in
    let sizes = has-sizes body mid found k in
    let starts = k.starts in
    let next = j.span.next in
    let other = j.opened opened in
    let same_line : found.line ≡ mid.line = ap (λ v. let w : GroupReader = v in w.line) k.same in
    let before_text : unfinished_text mid.line ≡ joined (as_lines g) = rw unfinished.place at j.text.is in
    let text : unfinished_text l ≡ joined (as_lines g) ++ addition h.text =
    added.1
    ∙ ap₂ (λ v w. let u : LogicalLine = v in unfinished_text u ++ addition (decoded_line w bytes)) same_line k.encoding
    ∙ ap (λ v. v ++ addition h.text) before_text in
    let opens : told ≡ is_open h.text = added.0 ∙ ap (λ v. is_open (decoded_line v bytes)) k.encoding in
    let pushed : length (j.first ∷ j.more ++ h ∷ []) ≡ length g + 1 = length-append g (h ∷ []) in
    let unended : length (unended_bytes (g ++ h ∷ [])) ≡ length (group_bytes g) + length bytes =
    ap length (unended-kept g h) ∙ length-append (group_bytes g) bytes in
    let last : length (bytes ++ (by ++ [])) ≡ length bytes + length by = ap (λ v. length (bytes ++ v)) (append-nil by) ∙ length-append bytes by in
    let all : length (group_bytes (g ++ h ∷ [])) ≡ length (group_bytes g) + length (bytes ++ (by ++ [])) =
    ap length (group_bytes-append g (h ∷ [])) ∙ length-append (group_bytes g) (bytes ++ (by ++ [])) in
    let passed = k.passed in
    record {
      first = j.first;
      more = j.more ++ h ∷ [];
      live = j.live;
      groups = (rw opened at j.groups) ∙ ap (held_groups_after g) k.lines ∙ from-more told g rest h j.first j.more refl opens;
      starts = j.starts;
      number = j.number;
      passed = omega arith;
      span = record {
        unended = omega arith;
        next = omega arith;
        opens = opens ∙ sym (is_left_open-push j.first j.more h ∙ rw other refl);
        empty = sym (is_empty_line-push j.first j.more h);
      };
      encoding = k.encoding ∙ j.encoding;
      opened = λ n. other;
      text = unfinished-has (encoding_of found.scanner.encoding) l _ _ added.2 (text
          ∙ sym (ap (λ v. joined (first ∷ v)) (as_lines-append j.more (h ∷ [])) ∙ joined-push first (as_lines j.more) line other));
    }

-- A group whose last line was joined is well-formed as before.
pub more-begun : (body : List ℕ) (mid found : GroupReader) (l : LogicalLine) (group joined : Group) → IsBegun body mid group → TakesHeldLine body mid found
    → IsUnfinishedLine (encoding_of found.scanner.encoding) l → IsSoundLogicalLine l → joined.start ≡ group.start → joined.end ≡ found.scanner.line.end
    → IsBegun body (record found { line = l }) joined
more-begun body mid found l group joined b k u sound starts ends =
    let ordered = k.ordered in
    let placed = k.placed in
    let within = k.within.within_body.fits.within in
    record {
      within = record { bytes = k.within.bytes; within_body = k.within.within_body };
      ordered = omega arith;
      placed = omega arith;
      within_body = omega arith;
      well = rw u.place u.well;
      unfinished = λ h. u;
      sound = sound;
    }

-- ---- a group that was read whole

ends-from : (is_open is_done : Bool) (g : List HeldLine) (first : HeldLine) (more rest : List HeldLine) → g ≡ first ∷ more
    → (is_open ≡ false ⊎ is_done ≡ true) → (is_done ≡ true → rest ≡ []) → groups_from is_open g rest ≡ g ∷ held_groups_after [] rest
ends-from false is_done g first more rest is h none = refl
ends-from true is_done g first more rest is (inl h) none = absurd (cc)
ends-from true is_done g first more rest is (inr h) none = rw (none h, is) refl

-- What was read is the next group, once its line is a text.
pub group-whole : (body : List ℕ) (before : GroupReader) (group : Group) (new : GroupReader) (line : LogicalLine) → ReadsGroup body before group new
    → (group.is_open ≡ false ⊎ new.scanner.is_done ≡ true) → IsBegun body new group
    → IsTextOf (text_in new.line.encoding (bytes_with new.line (group_span_bytes body group))) (bytes_with line (group_span_bytes body group))
    → TakesHeldGroup body before group (record new { line = line })
group-whole body before group new line j ended begun made =
    let g = j.first ∷ j.more in
    let none : new.scanner.is_done ≡ true → held_lines_left body new.scanner ≡ [] = λ h. rw h refl in
    record {
      held = g;
      live = j.live;
      groups = groups-lines body before ∙ j.groups ∙ ends-from group.is_open new.scanner.is_done g j.first j.more (held_lines_left body new.scanner) refl ended none
          ∙ ap (λ v. g ∷ v) (sym (groups-lines body new));
      starts = j.starts;
      number = j.number;
      passed = j.passed;
      span = j.span;
      within = record { bytes = begun.within.bytes; within_body = begun.within.within_body };
      encoding = j.encoding;
      held_text = record { ordered = begun.ordered; within = begun.within_body; text = made.utf8 };
      text = made.characters ∙ j.text.is;
    }

-- ---- a group whose line is lent as it is

-- An ASCII line that isn't open is a group by itself, and its bytes are its text.
pub group-lent : (body : List ℕ) (old found : GroupReader) (line : LogicalLine) (group : Group) → TakesHeldLine body old found
    → found.scanner.line.is_ascii ≡ true → is_open (raw_line_bytes body found.scanner.line) ≡ false
    → line.place ≡ Natural → line_of line.encoding ≡ output_encoding (encoding_of found.scanner.encoding)
    → group.number ≡ found.scanner.passed → group.start ≡ found.scanner.line.start → group.end ≡ found.scanner.line.end
    → group.is_open ≡ false → group.is_empty ≡ (found.scanner.line.start == found.scanner.line.end)
    → TakesHeldGroup body old group (record found { line = line })
group-lent body old found line group k ascii closed place to number starts ends alone empty =
    let e = encoding_of found.scanner.encoding in
    let raw = found.scanner.line in
    let bytes = raw_line_bytes body raw in
    let b = line-in e line.encoding bytes to (tells-line e bytes raw k.flags ascii) in
    let open_text : is_open (decoded_line e bytes) ≡ false = ap is_open (sym b.is) ∙ (joins-alike line.encoding bytes b.well).opens ∙ closed in
    let same : group_span_bytes body group ≡ bytes = ap₂ (λ m n. take (m - n) (drop n body)) ends starts in
    let here : (natural : List ℕ) → bytes_with line natural ≡ natural = λ natural. rw place refl in
    let ordered = k.ordered in
    let placed = k.placed in
    let within = k.within.within_body.fits.within in
    let text : HasText line bytes (decoded_line e bytes) =
    record { well = subst (IsWell line.encoding) (sym (here bytes)) b.well; is = ap (text_in line.encoding) (here bytes) ∙ b.is } in
    let read = group-first Unit body old found line group false k (inr open_text, text) number starts ends alone empty in
    let span : bytes_with line (group_span_bytes body group) ≡ bytes = here _ ∙ same in
    group-whole body old group (record found { line = line }) line read (inl alone) (record {
      within = record { bytes = k.within.bytes; within_body = k.within.within_body };
      ordered = omega arith;
      placed = omega arith;
      within_body = omega arith;
      well = subst (IsWell line.encoding) (sym span) b.well;
      unfinished = λ opened. absurd (cc);
      sound = λ decoded. absurd (cc);
    }) (subst (λ v. IsTextOf (text_in line.encoding v) v) (sym span) (ascii-text line.encoding bytes (k.flags.ascii.0 ascii).1))
