-- How a scanner searches for the end of a line, and takes the line up to it.
use Rattle.std.proofs.Common.{inl, inr, ◌≡◌, ◌↔◌, ◌<◌, ◌≤◌, ◌+◌, ◌-◌, ◌==◌, ◌||◌, ℕ, Bool, true, false, List, [], ◌∷◌, ◌++◌, take, drop, length, get_or, map, refl, sym, ap, ap₂, subst, ◌∙◌, append_assoc, length-append, length-drop, arith, rules}
use Rattle.std.specs.Prelude.{Some}
use Rattle.std.specs.Str.{IsAscii}
use Rattle.std.specs.List.{All}
use Rattle.std.proofs.Math.Seq.{drop-append_seam}
use Rattle.std.proofs.lemmas.Bool.{cases_Bool, or_from, or_parts, eqb-true, leb-true, cases_lt}
use Rattle.std.proofs.lemmas.List.{take_rest, drop-drop, length-take-le, get_or-take, get_or-drop, length-map, take-take}
use Rattle.std.proofs.lemmas.List.Elements.{All-get_or, All-head, All-tail, All-take, All-weaker}
use Rattle.std.proofs.lemmas.Str.Ascii.{IsAscii-from_all, All-from_ascii}
use Rattle.byte_blocks.specs.Classes.{is_non_ascii}
use Rattle.byte_blocks.specs.Marks.{clear_front}
use Rattle.byte_blocks.proofs.Marking.{clear-before, more-of, first-byte}
use Rattle.byte_blocks.proofs.Searching.{long-block}
use Rattle.memchr.specs.Find.{Nowhere, Passes}
use Rattle.properties_format.specs.Text as text
use Rattle.properties_format.specs.Text.{line_feed, carriage_return, backslash, is_line_ending}
use Rattle.properties_format.specs.Encoding.{Encoding, ascii_bytes, IsAligned}
use Rattle.properties_format.specs.Lines as format
use Rattle.properties_format.specs.Lines.{HoldsNoLineEnding}
use Rattle.properties_format.specs.Cut.{units, HoldsNoLineEndingUnit, line_ending_bytes}
use Rattle.properties_format.specs.Computed.Lines.{begins_with_lf}
use Rattle.properties_format.specs.Computed.Cut.{decoded_line}
use Rattle.properties_format.specs.ItemsToCome.{ReaderState}
use Rattle.properties_format.specs.Computed.ItemsToCome.{ReadsLines, next_line}
use Rattle.properties_format.proofs.ItemsToCome.Steps.{lines-then, lines-take, lines-passed_lf, lines-passed_none}
use Rattle.properties_text.specs.Encoding.{encoding_of}
use Rattle.properties_text.specs.Escaping.{holds_backslash}
use Rattle.properties_text.proofs.Blocks.{ascii-before}
use Rattle.properties_text.proofs.Texts.Resolving.{holds-at}
use Rattle.properties_lines.specs.LineSearch.{unit_size, IsFirstLineEnding, end_character}
use Rattle.properties_lines.specs.Scanner.{scanner_state, HasRightFlags, EndsWhole, raw_line_bytes, scanned_line, IsReady, IsFresh, IsBefore, FindsByte, TellsBackslash, ScansLine, SkipsFeed, feed_size, Searches, is_decided, after_cr}
use Rattle.properties_lines.specs.Private.PlainEnds.{is_plain_end}
use Rattle.properties_lines.specs.declared.search.FoundEnding.{FoundEnding}
use Rattle.properties_lines.specs.declared.search.BlockSearch.{BlockSearch}
use Rattle.properties_lines.specs.declared.search.BlockSearch.TheVariants.{Found, Searched}
use Rattle.properties_lines.specs.declared.scanner.Front.{Front}
use Rattle.properties_lines.specs.declared.scanner.Front.TheVariants.{Feed, Nothing}
use Rattle.properties_lines.specs.declared.scanner.RawLine.{RawLine}
use Rattle.properties_lines.specs.declared.scanner.Scanner.{Scanner}
use Rattle.properties_lines.proofs.ScannerFront.{some-units, feed-first}
use Rattle.properties_lines.proofs.LineSearch.{nothing_searched, length-ascii_bytes, short-units, found-byte, searched-bytes}
use Rattle.properties_format.proofs.ItemsToCome.Lines.{HoldsLine, after_line}

-- ---- what the reader does

-- a line was taken, and this may stand before the bytes that are left
abbrev left : ReaderState → Front → List ℕ → ReaderState
left t front held = record t { is_decided = is_decided front; held = held; passed = t.passed + 1; after_cr = after_cr front }

decided-left : (t : ReaderState) (lines : List format.Line) (held : List ℕ) (is_after : Bool) → t.is_decided ≡ true
    → ReadsLines t [] lines (record t { held = held; passed = t.passed + 1; after_cr = is_after })
    → ReadsLines t [] lines (record t { is_decided = true; held = held; passed = t.passed + 1; after_cr = is_after })
decided-left t lines held is_after h reads =
    let P : Bool → Type 0 = λ v. ReadsLines t [] lines (record t { is_decided = v; held = held; passed = t.passed + 1; after_cr = is_after }) in
    subst P h reads

-- what stands after the first unit of a line ending, as far as it is held
pub data Tail (e : Encoding) (after : List ℕ) : Type 0 where
  of_lf : Tail e after
  of_cr : begins_with_lf (units e after) ≡ false → unit_size e ≤ length after → Tail e after
  of_crlf : begins_with_lf (units e after) ≡ true → Tail e after
  of_last_cr : length after < unit_size e → Tail e after

abbrev is_cr_of : {e : Encoding} {after : List ℕ} → Tail e after → Bool
is_cr_of of_lf = false
is_cr_of (of_cr h le) = true
is_cr_of (of_crlf h) = true
is_cr_of (of_last_cr few) = true

abbrev front_at : {e : Encoding} {after : List ℕ} → Tail e after → Front
front_at of_lf = Nothing
front_at (of_cr h le) = Nothing
front_at (of_crlf h) = Nothing
front_at (of_last_cr few) = Feed

abbrev feed_at : {e : Encoding} {after : List ℕ} → Tail e after → ℕ
feed_at of_lf = 0
feed_at (of_cr h le) = 0
feed_at {e = e} (of_crlf h) = unit_size e
feed_at (of_last_cr few) = 0

take-reads : (t : ReaderState) (l after : List ℕ) (r : Tail t.encoding after) → HoldsLine t l (end_character (is_cr_of r)) after
    → ReadsLines t [] (next_line t l ∷ []) (left t (front_at r) (drop (feed_at r) after))
take-reads t l after of_lf h = decided-left t (next_line t l ∷ []) after false h.decided (lines-take t l line_feed after h)
take-reads t l after (of_cr k le) h =
    let u : ReaderState = after_line t carriage_return after in
    decided-left t (next_line t l ∷ []) after false h.decided
    (lines-then (lines-take t l carriage_return after h) (lines-passed_none u h.decided (some-units t.encoding after le) k))
take-reads t l after (of_crlf k) h =
    let u : ReaderState = after_line t carriage_return after in
    let rest = drop (unit_size t.encoding) after in
    decided-left t (next_line t l ∷ []) rest false h.decided
    (lines-then (lines-take t l carriage_return after h) (lines-passed_lf u rest h.decided refl (feed-first t.encoding after k)))
take-reads t l after (of_last_cr few) h = decided-left t (next_line t l ∷ []) after true h.decided (lines-take t l carriage_return after h)

-- ---- the line ending

-- it stands before what comes after the LF that belongs to a CR
record EndsAs (e : Encoding) (after : List ℕ) (r : Tail e after) : Type 0 where
  pub by : text.LineEnding
  pub division : ascii_bytes e (end_character (is_cr_of r)) ++ after ≡ line_ending_bytes e by ++ drop (feed_at r) after
  pub whole : EndsWhole e (Some by) (drop (feed_at r) after)
  pub within : feed_at r ≤ length after

pub short-feed : (e : Encoding) (d : List ℕ) → length d < unit_size e → begins_with_lf (units e d) ≡ false
short-feed e d h = ap begins_with_lf (short-units e d h)

ends-as : (e : Encoding) (after : List ℕ) (r : Tail e after) → EndsAs e after r
ends-as e after of_lf = record { by = text.lf; division = refl; whole = tt; within = omega arith }
ends-as e after (of_cr k le) = record { by = text.cr; division = refl; whole = k; within = omega arith }
ends-as e after (of_crlf k) =
    let rest = drop (unit_size e) after in
    let first = feed-first e after k in
    record {
      by = text.crlf;
      division = ap (λ v. ascii_bytes e carriage_return ++ v) first ∙ sym (append_assoc (ascii_bytes e carriage_return) (ascii_bytes e line_feed) rest);
      whole = tt;
      within = omega (arith, ap length first, length-append (ascii_bytes e line_feed) rest, length-ascii_bytes e line_feed);
    }
ends-as e after (of_last_cr few) = record { by = text.cr; division = refl; whole = short-feed e after few; within = omega arith }

front-decided : {e : Encoding} {after : List ℕ} (r : Tail e after) → is_decided (front_at r) ≡ true
front-decided of_lf = refl
front-decided (of_cr h le) = refl
front-decided (of_crlf h) = refl
front-decided (of_last_cr few) = refl

front-short : {e : Encoding} {after : List ℕ} (r : Tail e after) → front_at r ≡ Feed → feed_at r ≡ 0 × length after < unit_size e
front-short of_lf h = absurd (cc h)
front-short (of_cr k le) h = absurd (cc h)
front-short (of_crlf k) h = absurd (cc h)
front-short (of_last_cr few) h = (refl, few)

is-end : (is_cr : Bool) → is_line_ending (end_character is_cr) ≡ true
is-end true = refl
is-end false = refl

-- what stands after a line and the first unit of its end
after-end : (e : Encoding) (d rest : List ℕ) (at c : ℕ) → at ≤ length d → d ≡ take at d ++ (ascii_bytes e c ++ rest) → drop (at + unit_size e) d ≡ rest
after-end e d rest at c h k =
    let l : length (take at d ++ ascii_bytes e c) ≡ at + unit_size e = rw length-append (ap₂ (λ v w. v + w) (length-take-le at d h) (length-ascii_bytes e c)) in
    let m : d ≡ (take at d ++ ascii_bytes e c) ++ rest = k ∙ sym (append_assoc (take at d) (ascii_bytes e c) rest) in
    ap (λ v. drop (at + unit_size e) v) m
    ∙ ap (λ n. drop n ((take at d ++ ascii_bytes e c) ++ rest)) (sym l)
    ∙ drop-append_seam (take at d ++ ascii_bytes e c) rest

-- ---- a line is taken

abbrev line_at : Scanner → ℕ → Bool → Bool → RawLine
line_at s n is_ascii has_backslash = record { start = s.at; end = s.at + n; is_ascii = is_ascii; has_backslash = has_backslash }

abbrev pub taken : Scanner → Front → ℕ → RawLine → Scanner
taken s front at line = record s { front = front; passed = s.passed + 1; at = at; searched = 0; line = line }

takes-line : (s : Scanner) (held : List ℕ) (n unit : ℕ) (is_ascii has_backslash : Bool)
    → let after = drop (s.at + n + unit) held in
    (r : Tail (encoding_of s.encoding) after) → IsReady s held
    → IsFirstLineEnding (encoding_of s.encoding) (drop s.at held) (record { at = n; is_cr = is_cr_of r }) → unit ≡ unit_size (encoding_of s.encoding)
    → HasRightFlags (encoding_of s.encoding) (take n (drop s.at held)) (line_at s n is_ascii has_backslash)
    → ScansLine s held (taken s (front_at r) (s.at + n + unit + feed_at r) (line_at s n is_ascii has_backslash))
takes-line s held n unit is_ascii has_backslash r ready found size told =
    let e = encoding_of s.encoding in
    let bytes = drop s.at held in
    let l = take n bytes in
    let from = s.at + n + unit in
    let after = drop from held in
    let line = line_at s n is_ascii has_backslash in
    let feed = feed_at r in
    let new = taken s (front_at r) (from + feed) line in
    let t = scanner_state s held in
    let ending = ends-as e after r in
    let c = end_character (is_cr_of r) in
    let long : length bytes ≡ length held - s.at = length-drop s.at held in
    let place : s.at + (n + unit_size e) ≡ from = omega (arith, size) in
    let rest : after ≡ found.rest =
    ap (λ m. drop m held) (sym place) ∙ sym (drop-drop (n + unit_size e) s.at held)
    ∙ after-end e bytes found.rest n c (omega (arith, found.within)) found.division in
    let holds : HoldsLine t l c after = record {
      going = ready.live;
      decided = ap is_decided ready.settled;
      passed = ap after_cr ready.settled;
      held = found.division ∙ ap (λ v. l ++ (ascii_bytes e c ++ v)) (sym rest);
      ends = is-end (is_cr_of r);
      aligned = found.aligned;
      none = found.none_before;
    } in
    let count : s.at + n - s.at ≡ n = omega arith in
    let whole : raw_line_bytes held line ≡ l = ap (λ m. take m bytes) count in
    let left-is : drop feed after ≡ drop (from + feed) held = drop-drop feed from held in
    let reads = take-reads t l after r holds in
    let R : List ℕ → Type 0 = λ v. ReadsLines t [] (record { number = s.passed + 1; text = decoded_line e v } ∷ []) (left t (front_at r) (drop feed after)) in
    let S : List ℕ → Type 0 = λ v. ReadsLines t [] (scanned_line held new ∷ []) (left t (front_at r) v) in
    let Ends : List ℕ → Type 0 = λ v. EndsWhole e (Some ending.by) v in
    let Tells : List ℕ → Type 0 = λ v. HasRightFlags e v line in
    let room : length after ≡ length held - from = length-drop from held in
    let within : from + feed ≤ length held = omega (arith, room, ending.within, found.within, size, long, ready.fits.within) in
    record {
      comes = subst S left-is (subst R (sym whole) reads);
      cut = record {
        ending = Some ending.by;
        ordered = (omega arith, omega arith, within);
        division = found.division ∙ ap (λ v. l ++ (ascii_bytes e c ++ v)) (sym rest) ∙ ap (λ v. l ++ v) ending.division
            ∙ ap₂ (λ v w. v ++ (line_ending_bytes e ending.by ++ w)) (sym whole) left-is;
        aligned = inr (subst (IsAligned e) (sym whole) found.aligned);
        none = subst (HoldsNoLineEndingUnit e) (sym whole) found.none_before;
        whole = subst Ends left-is ending.whole;
      };
      ended = λ w. absurd (cc w);
      starts = refl;
      same = refl;
      decided = front-decided r;
      short = λ w. let few = front-short r w in omega (arith, few.0, few.1, length-drop (from + feed) held, room);
      fits = record {
        within = within;
        searched = nothing_searched e (drop (from + feed) held);
        fresh = λ w. refl;
        line = (omega arith, omega (arith, within));
      };
      flags = subst Tells (sym whole) told;
    }

-- the scanner after a line and its line ending
abbrev after_line_ending : Scanner → ℕ → ℕ → Bool → Bool → Scanner
after_line_ending s n unit is_ascii has_backslash = record s { passed = s.passed + 1; at = s.at + n + unit; line = line_at s n is_ascii has_backslash }

-- what is known where a line is taken
pub record IsTaken (s : Scanner) (held : List ℕ) (end : FoundEnding) (unit : ℕ) (is_ascii has_backslash : Bool) : Type 0 where
  pub ready : IsReady s held
  pub nothing : s.searched ≡ 0
  pub found : IsFirstLineEnding (encoding_of s.encoding) (drop s.at held) end
  pub size : unit ≡ unit_size (encoding_of s.encoding)
  pub ascii : (is_ascii ≡ true) ↔ (unit ≡ 1) × IsAscii (take end.at (drop s.at held))
  pub backslash : has_backslash ≡ holds_backslash (take end.at (drop s.at held))

takes : (s : Scanner) (held : List ℕ) (end : FoundEnding) (unit feed : ℕ) (front : Front) (is_ascii has_backslash : Bool)
    → IsTaken s held end unit is_ascii has_backslash
    → let after = drop (s.at + end.at + unit) held in
    (r : Tail (encoding_of s.encoding) after) → end.is_cr ≡ is_cr_of r → front ≡ front_at r → feed ≡ feed_at r
    → ScansLine s held (record s { front = front; passed = s.passed + 1; at = s.at + end.at + unit + feed; line = line_at s end.at is_ascii has_backslash })
takes s held end unit feed front is_ascii has_backslash h r cr at-front at-feed =
    let e = encoding_of s.encoding in
    let line = line_at s end.at is_ascii has_backslash in
    let First : Bool → Type 0 = λ v. IsFirstLineEnding e (drop s.at held) (record { at = end.at; is_cr = v }) in
    let Ascii : ℕ → Type 0 = λ m. (is_ascii ≡ true) ↔ (m ≡ 1) × IsAscii (take end.at (drop s.at held)) in
    let told : HasRightFlags e (take end.at (drop s.at held)) line = record { ascii = subst Ascii h.size h.ascii; backslash = h.backslash } in
    let done = takes-line s held end.at unit is_ascii has_backslash r h.ready (subst First cr h.found) h.size told in
    let P : Front → ℕ → ℕ → Type 0 = λ f m n. ScansLine s held (record s { front = f; passed = s.passed + 1; at = s.at + end.at + unit + m; searched = n; line = line }) in
    let fed : P (front_at r) feed 0 = subst (λ m. P (front_at r) m 0) (sym at-feed) done in
    let fronted : P front feed 0 = subst (λ f. P f feed 0) (sym at-front) fed in
    subst (λ n. P front feed n) (sym h.nothing) fronted

-- up to a line ending that is an LF
pub takes-lf : (s : Scanner) (held : List ℕ) (end : FoundEnding) (unit : ℕ) (is_ascii has_backslash : Bool) → IsTaken s held end unit is_ascii has_backslash → end.is_cr ≡ false
    → ScansLine s held (after_line_ending s end.at unit is_ascii has_backslash)
takes-lf s held end unit is_ascii has_backslash h lf =
    let same : s.at + end.at + unit + 0 ≡ s.at + end.at + unit = omega arith in
    let P : ℕ → Type 0 = λ m. ScansLine s held (record s { passed = s.passed + 1; at = m; line = line_at s end.at is_ascii has_backslash }) in
    subst P same (takes s held end unit 0 s.front is_ascii has_backslash h of_lf lf h.ready.settled refl)

-- or a CR, with the LF after it
pub takes-cr : (s new : Scanner) (held : List ℕ) (end : FoundEnding) (unit : ℕ) (is_ascii has_backslash passed : Bool) → IsTaken s held end unit is_ascii has_backslash
    → end.is_cr ≡ true → SkipsFeed (after_line_ending s end.at unit is_ascii has_backslash) held false passed new → ScansLine s held new
takes-cr s new held end unit is_ascii has_backslash true h cr k =
    let e = encoding_of s.encoding in
    let after = drop (s.at + end.at + unit) held in
    let P : Scanner → Type 0 = λ v. ScansLine s held v in
    subst P (sym k.1) (elim (cases_Bool (begins_with_lf (units e after))) [
      | inl b ↦ takes s held end unit (feed_size e after) s.front is_ascii has_backslash h (of_crlf b) cr h.ready.settled (rw b refl)
      | inr b ↦ takes s held end unit (feed_size e after) s.front is_ascii has_backslash h (of_cr b (k.0 refl)) cr h.ready.settled (rw b refl)
    ])
takes-cr s new held end unit is_ascii has_backslash false h cr k =
    let same : s.at + end.at + unit + 0 ≡ s.at + end.at + unit = omega arith in
    let P : Scanner → Type 0 = λ v. ScansLine s held v in
    let Q : ℕ → Type 0 = λ m. ScansLine s held (record s { front = Feed; passed = s.passed + 1; at = m; line = line_at s end.at is_ascii has_backslash }) in
    subst P (sym k.2) (subst Q same (takes s held end unit 0 Feed is_ascii has_backslash h (of_last_cr k.1) cr refl refl))

-- ---- where a unit is one byte

-- before the first byte that ends a line
clear-nowhere : (bytes : List ℕ) (n : ℕ) → n < length bytes → All (λ b. is_line_ending b ≡ false) (take n bytes) → Nowhere (Passes is_line_ending bytes) 0 n
clear-nowhere bytes n within clear k low high e = absurd (cc (before k high, e))
  where
    before : (k : ℕ) → k < n → is_line_ending (get_or bytes k 0) ≡ false
    before k h =
        let one = All-get_or (λ b. is_line_ending b ≡ false) (take n bytes) k 0 (omega (arith, h, length-take-le n bytes (omega (arith, within)))) clear in
        subst (λ b. is_line_ending b ≡ false) (get_or-take n bytes k 0 h) one

-- the first byte that ends a line is the first line ending
pub found-end : (e : Encoding) (bytes : List ℕ) (n : ℕ) → unit_size e ≡ 1 → n < length bytes → All (λ b. is_line_ending b ≡ false) (take n bytes)
    → is_line_ending (get_or bytes n 0) ≡ true → IsFirstLineEnding e bytes (record { at = n; is_cr = get_or bytes n 0 == carriage_return })
found-end e bytes n size within clear ends =
    found-byte e bytes 0 n size (nothing_searched e bytes) (record { low = omega arith; high = within; before = clear-nowhere bytes n within clear }) ends

-- and the bytes before it are told
pub flags-ascii : (bytes : List ℕ) (n unit : ℕ) (is_ascii : Bool) → unit ≡ 1 → (is_ascii ≡ true) ↔ All (λ b. b < 0x80) (take n bytes)
    → (is_ascii ≡ true) ↔ (unit ≡ 1) × IsAscii (take n bytes)
flags-ascii bytes n unit is_ascii size h = (λ t. (size, IsAscii-from_all (take n bytes) (h.0 t)), λ k. h.1 (All-from_ascii (take n bytes) k.1))

-- ---- sixteen bytes at once

pub long-marks : (test : ℕ → Bool) (bytes : List ℕ) (marks : List Bool) (at : ℕ) → marks ≡ map test (take 16 (drop at bytes)) → at + 16 ≤ length bytes
    → length marks ≡ 16
long-marks test bytes marks at is room = ap length is ∙ length-map (take 16 (drop at bytes)) test ∙ long-block bytes at 16 room

-- as many bytes of a block as stand before the first that passes a test
pub block-before : (test : ℕ → Bool) (bytes : List ℕ) (marks : List Bool) (at count : ℕ) → marks ≡ map test (take 16 (drop at bytes)) → count ≤ clear_front marks → count ≤ 16
    → All (λ b. test b ≡ false) (take at bytes) → All (λ b. test b ≡ false) (take (at + count) bytes)
block-before test bytes marks at count is front le clear =
    let block = take 16 (drop at bytes) in
    more-of (λ b. test b ≡ false) bytes block at count clear refl le (clear-before test block marks count is front)

-- and that one passes, where they are not all
pub block-end : (test : ℕ → Bool) (bytes : List ℕ) (marks : List Bool) (at count : ℕ) → marks ≡ map test (take 16 (drop at bytes)) → count ≡ clear_front marks → count < 16
    → at + 16 ≤ length bytes → test (get_or bytes (at + count) 0) ≡ true
block-end test bytes marks at count is front small room =
    let block = take 16 (drop at bytes) in
    let found = first-byte test block marks (Some count) is (sym front, omega (arith, small, long-marks test bytes marks at is room)) in
    let same : get_or block count 0 ≡ get_or bytes (at + count) 0 = get_or-take 16 (drop at bytes) count 0 small ∙ get_or-drop at bytes count 0 in
    ap test (sym same) ∙ found.1

-- they are ASCII, where those before the block are
pub ascii-then : (bytes : List ℕ) (marks : List Bool) (at count : ℕ) (old new told : Bool) → (old ≡ true) ↔ All (λ b. b < 0x80) (take at bytes) → old ≡ true
    → marks ≡ map is_non_ascii (take 16 (drop at bytes)) → (told ≡ true) ↔ count ≤ clear_front marks → new ≡ told → count ≤ 16 → at + 16 ≤ length bytes
    → (new ≡ true) ↔ All (λ b. b < 0x80) (take (at + count) bytes)
ascii-then bytes marks at count old new told before was is tells same le room = (
  λ t. more-of (λ b. b < 0x80) bytes block at count (before.0 was) refl le (ascii-before block marks count is (tells.0 (sym same ∙ t))),
  λ all. same ∙ tells.1 (elim (cases_lt (clear_front marks) count) [
    | inl h ↦
        let k = clear_front marks in
        let past = block-end is_non_ascii bytes marks at k is refl (omega (arith, h, le)) room in
        let long = length-take-le (at + count) bytes (omega (arith, le, room)) in
        let small = All-get_or (λ b. b < 0x80) (take (at + count) bytes) (at + k) 0 (omega (arith, h, long)) all in
        let here = get_or-take (at + count) bytes (at + k) 0 (omega (arith, h)) in
        absurd (omega (arith, small, here, leb-true 0x80 (get_or bytes (at + k) 0) past))
    | inr h ↦ h
  ]),
)
  where
    block : List ℕ
    block = take 16 (drop at bytes)

-- and aren't where those aren't
pub ascii-else : (bytes : List ℕ) (at count : ℕ) (old new : Bool) → (old ≡ true) ↔ All (λ b. b < 0x80) (take at bytes) → old ≡ false → new ≡ old
    → (new ≡ true) ↔ All (λ b. b < 0x80) (take (at + count) bytes)
ascii-else bytes at count old new before was is = (
  λ t. absurd (cc (t, is, was)),
  λ all.
      let P : List ℕ → Type 0 = λ v. All (λ b. b < 0x80) v in
      let front = subst P (take-take at (at + count) bytes (omega arith)) (All-take (λ b. b < 0x80) at (take (at + count) bytes) all) in
      absurd (cc (before.1 front, was)),
)

-- ---- a search goes on

clear-all : (d : List ℕ) → All (λ b. is_line_ending b ≡ false) d → HoldsNoLineEnding d
clear-all [] h = tt
clear-all (c ∷ d) h = (All-head (λ b. is_line_ending b ≡ false) c d h, clear-all d (All-tail (λ b. is_line_ending b ≡ false) c d h))

-- after the bytes that were searched
pub ready-on : (s : Scanner) (held : List ℕ) (at : ℕ) → IsReady s held → IsFresh s → at ≤ length (drop s.at held) → All (λ b. is_line_ending b ≡ false) (take at (drop s.at held))
    → IsReady (record s { searched = at }) held
ready-on s held at ready fresh within clear = record {
  fits = record {
    within = ready.fits.within;
    searched = searched-bytes (encoding_of s.encoding) (drop s.at held) at fresh.size within (clear-all (take at (drop s.at held)) clear);
    fresh = λ w. absurd (w ready.settled);
    line = ready.fits.line;
  };
  live = ready.live;
  numbered = ready.numbered;
  settled = ready.settled;
}

pub searches-on : (s new : Scanner) (held : List ℕ) (at : ℕ) (found : Bool) → Searches (record s { searched = at }) held found new → Searches s held found new
searches-on s new held at true h = search rules
searches-on s new held at false h = search rules

-- ---- after a backslash

-- where a line ends after it
past-escape : (bytes : List ℕ) (from at : ℕ) (is_ascii : Bool) → IsBefore is_line_ending bytes from is_ascii → get_or bytes from 0 ≡ backslash
    → is_line_ending (get_or bytes at 0) ≡ true → from < at
past-escape bytes from at is_ascii before escaped ends = elim (cases_lt from at) [
  | inl h ↦ h
  | inr h ↦ elim (cases_lt at from) [
    | inl low ↦
        let long : at < length (take from bytes) = omega (arith, low, length-take-le from bytes before.within) in
        let none = All-get_or (λ b. is_line_ending b ≡ false) (take from bytes) at 0 long before.clear in
        absurd (cc (none, ends, get_or-take from bytes at 0 low))
    | inr high ↦
        let same : at ≡ from = omega (arith, high, h) in
        let is : is_line_ending backslash ≡ true = ap is_line_ending (sym (ap (λ n. get_or bytes n 0) same ∙ escaped)) ∙ ends in
        absurd (cc is)
  ]
]

-- it is of the line
holds-escape : (bytes : List ℕ) (from at : ℕ) → from < at → at ≤ length bytes → get_or bytes from 0 ≡ backslash → true ≡ holds_backslash (take at bytes)
holds-escape bytes from at low within escaped =
    sym (holds-at (take at bytes) from (omega (arith, low, length-take-le at bytes within)) (get_or-take at bytes from 0 low ∙ escaped))

-- up to the line ending after it
pub tells-escaped : (bytes : List ℕ) (from : ℕ) (was_ascii : Bool) (found : BlockSearch) → IsBefore is_line_ending bytes from was_ascii
    → FindsByte is_line_ending bytes found → get_or bytes from 0 ≡ backslash → TellsBackslash bytes found true
tells-escaped bytes from was_ascii (Found size is_ascii) before h escaped =
    holds-escape bytes from size (past-escape bytes from size was_ascii before escaped h.2) (omega (arith, h.1)) escaped
tells-escaped bytes from was_ascii (Searched count) before h escaped = tt

-- ---- before the first byte that ends a plain text

pub plain-clear : (text : List ℕ) → All (λ b. is_plain_end b ≡ false) text → All (λ b. is_line_ending b ≡ false) text
plain-clear text h = All-weaker (λ b. is_plain_end b ≡ false) (λ b. is_line_ending b ≡ false) (λ b e. (or_parts (is_line_ending b) (b == backslash) e).0) text h

pub plain-unescaped : (text : List ℕ) → All (λ b. is_plain_end b ≡ false) text → holds_backslash text ≡ false
plain-unescaped [] h = refl
plain-unescaped (b ∷ text) h =
    let first = or_parts (is_line_ending b) (b == backslash) (All-head (λ b. is_plain_end b ≡ false) b text h) in
    or_from (b == backslash) (holds_backslash text) first.1 (plain-unescaped text (All-tail (λ b. is_plain_end b ≡ false) b text h))

pub plain-before : (bytes : List ℕ) (n : ℕ) (is_ascii : Bool) → IsBefore is_plain_end bytes n is_ascii → IsBefore is_line_ending bytes n is_ascii
plain-before bytes n is_ascii h = record { within = h.within; clear = plain-clear (take n bytes) h.clear; ascii = h.ascii }

-- where it isn't a backslash, it ends the line
pub plain-found : (bytes : List ℕ) (n : ℕ) (is_ascii : Bool) → FindsByte is_plain_end bytes (Found n is_ascii) → (get_or bytes n 0 ≡ backslash → ⊥)
    → FindsByte is_line_ending bytes (Found n is_ascii)
plain-found bytes n is_ascii h other =
    let b = get_or bytes n 0 in
    let either : (is_line_ending b || (b == backslash)) ≡ true = h.2 in (
      plain-before bytes n is_ascii h.0,
      h.1,
      elim (cases_Bool (is_line_ending b)) [
        | inl ends ↦ ends
        | inr none ↦ absurd (other (eqb-true b backslash (subst (λ v. (v || (b == backslash)) ≡ true) none either)))
      ],
    )

pub ruleset takings = (found-end, searches-on, get_or-drop, take_rest)
