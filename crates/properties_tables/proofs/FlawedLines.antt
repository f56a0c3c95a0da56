-- The lines of a body that have a flaw, found one after another.
use Rattle.std.proofs.Common.{◌≡◌, ◌≢◌, ℕ, suc, ◌+◌, ◌<◌, ◌≤◌, ◌==◌, Bool, true, false, List, [], ◌∷◌, ◌++◌, length, get_or, drop, refl, sym, ap, subst, ◌∙◌, inl, inr, length-append, take_all, eqb-true, arith}
use Rattle.std.specs.Prelude.{◌&&◌, ◌||◌, if◌then◌else◌, nat_le, not, Option, Some, None}
use Rattle.std.specs.{List.list_any, Option.is_some, Str.is_utf8, Str.IsUtf8}
use Rattle.std.proofs.{lemmas.Bool.Decides.eqb_tells, lemmas.List.Folds.list_any-append, lemmas.List.Folds.list_any_at, Math.Seq.take-append_seam}
use Rattle.std.proofs.lemmas.Bool.{cases_Bool, and_parts, or_from, or_parts, false_from_ne_true}
use Rattle.std.proofs.lemmas.Str.{IsCharBoundary-after_ascii, IsCharBoundary-before_ascii, IsUtf8-drop, IsUtf8-from_is_utf8, is_utf8-from_IsUtf8, IsUtf8-from_ascii, IsUtf8-take}
use Rattle.memchr.specs.Find.{IsFirstByte, is_byte}
use Rattle.properties_format.specs.Text.{LineEnding, lf, cr, crlf}
use Rattle.properties_format.specs.Encoding.{Encoding, windows_1252, utf_8, utf_16le, utf_16be, byte_order_mark}
use Rattle.properties_format.specs.{Cut.line_ending_bytes, Cut.bytes_together, Utf16.low_first, Utf16.high_first, ItemsToCome.ReaderState, ItemsToCome.start}
use Rattle.properties_format.specs.{Computed.Cut.cut_of, Computed.Cut.decoded_line, Computed.Body.held_of, Computed.Body.held_lines_of}
use Rattle.properties_format.specs.Lines.{end, Ended, Line, Lines, numbered}
use Rattle.properties_format.proofs.{Cut.Byline.decoded_line-meets, Cut.Byline.decoded_line-only, Cut.Meets.cut_of-meets, Cut.Only.cut_of-only}
use Rattle.properties_format.proofs.{Encodings.WellFormed.IsUtf8-from_well_formed, Encodings.WellFormed.well_formed-from_IsUtf8}
use Rattle.properties_text.specs.Encoding.{IsLongestText, encoding_of}
use Rattle.properties_text.specs.declared.encoding.Encoding as code
use Rattle.properties_text.specs.declared.encoding.Encoding.TheVariants.{WINDOWS_1252, UTF_8, UTF_16LE, UTF_16BE}
use Rattle.properties_lines.specs.{Private.HeldLines.held_lines_left, declared.scanner.Front.TheVariants.Mark, declared.scanner.Front.TheVariants.Feed}
use Rattle.properties_lines.specs.{declared.scanner.RawLine.RawLine, declared.scanner.Scanner.Scanner}
use Rattle.properties_lines.specs.Scanner.{scanner_state, is_decided, after_cr, raw_line_bytes, Fits, GivesScannedLine}
use Rattle.properties_lines.proofs.HeldLines.{body-next, body-after, body-lines_left}
use Rattle.properties_tables.specs.Lines.{holds_byte, holds_zero, is_read_otherwise, is_sought, is_windows_1252, starts_with_bom, AreFlawed, AreFlawedIn, HasLineFlaw, HasFlawed, IsFirstFlawed, IsFirstUtf8, IsWellFormedIn, LacksFlaw, LooksUtf8}
use Rattle.properties_tables.specs.Private.Flawed.{are_paired, is_ascii, is_flawed, is_of_windows_1252, is_well_formed, unit_at, numbers_from, numbers_left, FindsFlawedLine, HasFlawedIn, HasLinesOf, IsFoundLine, IsScanning}
use Rattle.properties_tables.specs.declared.ill_formed.Flaw.{Flaw}
use Rattle.properties_tables.specs.declared.ill_formed.Flaw.TheVariants.{IllFormed, Zero, NonAscii, Byte, MarkInside, Misread}
use Rattle.properties_tables.proofs.{NonAscii.tells-ascii, NonAscii.told-nothing, PairedUnits.paired-well_formed, PairedUnits.well_formed-paired}

-- whether a byte is 0
abbrev is_zero : ℕ → Bool
is_zero b = b == 0

-- ---- the bytes of a line

-- what the test says
well : (e : Encoding) (d : List ℕ) → is_well_formed e d ≡ true → IsWellFormedIn e d
well windows_1252 d k = tt
well utf_8 d k = well_formed-from_IsUtf8 d (IsUtf8-from_is_utf8 d k)
well utf_16le d k = paired-well_formed low_first d k
well utf_16be d k = paired-well_formed high_first d k

not-well : (e : Encoding) (d : List ℕ) → is_well_formed e d ≡ false → ¬ IsWellFormedIn e d
not-well windows_1252 d k w = cc
not-well utf_8 d k w = let t = is_utf8-from_IsUtf8 d (IsUtf8-from_well_formed d w) in cc
not-well utf_16le d k w = let t = well_formed-paired low_first d w.0 w.1 in cc
not-well utf_16be d k w = let t = well_formed-paired high_first d w.0 w.1 in cc

-- The test tells that they have the flaw,
has-flaw : (flaw : Flaw) (e : Encoding) (d : List ℕ) → is_flawed flaw e d ≡ true → HasLineFlaw flaw e d
has-flaw IllFormed e d k = elim (cases_Bool (is_well_formed e d)) [ inl t ↦ absurd (cc) | inr t ↦ not-well e d t ]
has-flaw Zero e d k = k
has-flaw (Byte byte) e d k = k
has-flaw MarkInside e d k = k
has-flaw Misread e d k = k
has-flaw NonAscii e d k =
    let parts = and_parts (not (is_ascii e d)) (is_well_formed e d) k in
    (well e d parts.1, (decoded_line e d, decoded_line-meets e d, tells-ascii e d ∙ parts.0))

-- or that they don't have it.
first-false : (x y : Bool) → y ≡ true → (x && y) ≡ false → x ≡ false
first-false false y h k = refl
first-false true true h k = k
first-false true false h k = absurd (cc)

lacks-flaw : (flaw : Flaw) (e : Encoding) (d : List ℕ) → is_flawed flaw e d ≡ false → LacksFlaw flaw e d
lacks-flaw IllFormed e d k = elim (cases_Bool (is_well_formed e d)) [ inl t ↦ well e d t | inr t ↦ absurd (cc) ]
lacks-flaw Zero e d k = k
lacks-flaw (Byte byte) e d k = k
lacks-flaw MarkInside e d k = k
lacks-flaw Misread e d k = k
lacks-flaw NonAscii e d k = elim (cases_Bool (is_well_formed e d)) [
  | inl t ↦ inr (decoded_line e d, decoded_line-meets e d, tells-ascii e d ∙ first-false (not (is_ascii e d)) (is_well_formed e d) t k)
  | inr t ↦ inl (not-well e d t)
]

not-both : (flaw : Flaw) (e : Encoding) (d : List ℕ) → LacksFlaw flaw e d → HasLineFlaw flaw e d → ⊥
not-both IllFormed e d x y = y x
not-both Zero e d x y = absurd (cc)
not-both (Byte byte) e d x y = absurd (cc)
not-both MarkInside e d x y = absurd (cc)
not-both Misread e d x y = absurd (cc)
not-both NonAscii e d (inl x) y = x y.0
not-both NonAscii e d (inr (text, is, none)) (sound, (other, same, has)) =
    let x = decoded_line-only e d text is in
    let y = decoded_line-only e d other same in
    absurd (cc)

-- No bytes have no flaw.
empty-well : (e : Encoding) → is_well_formed e [] ≡ true
empty-well windows_1252 = refl
empty-well utf_8 = is_utf8-from_IsUtf8 [] (IsUtf8-from_ascii [] (λ i. omega arith))
empty-well utf_16le = refl
empty-well utf_16be = refl

empty-flawless : (flaw : Flaw) (e : Encoding) → is_flawed flaw e [] ≡ false
empty-flawless IllFormed e = ap not (empty-well e)
empty-flawless Zero e = refl
empty-flawless (Byte byte) e = refl
empty-flawless MarkInside windows_1252 = refl
empty-flawless MarkInside utf_8 = refl
empty-flawless MarkInside utf_16le = refl
empty-flawless MarkInside utf_16be = refl
empty-flawless Misread e = refl
empty-flawless NonAscii e = let told = told-nothing e in rw told refl

-- No place has a byte of a class.
none-at : (is_in : ℕ → Bool) (bytes : List ℕ) → ((k : ℕ) → k < length bytes → is_in (get_or bytes k 0) ≡ true → ⊥) → list_any is_in bytes ≡ false
none-at is_in [] h = refl
none-at is_in (b ∷ bs) h =
    or_from (is_in b) (list_any is_in bs)
    (false_from_ne_true (is_in b) (h 0 (omega arith)))
    (none-at is_in bs (λ k l e. h (suc k) (omega arith) e))

-- A search tells whether one of the bytes is this one.
pub tells_byte : (byte : ℕ) (bytes : List ℕ) (found : Option ℕ) → IsFirstByte (is_byte byte) bytes found → is_some found ≡ holds_byte byte bytes
tells_byte byte bytes (Some at) h = sym (list_any_at (λ b. b == byte) bytes at 0 h.0.high h.1)
tells_byte byte bytes None h = sym (none-at (λ b. b == byte) bytes (λ k l e. h k (omega arith) l e))

-- ---- the numbers, computed

module _ (flaw : Flaw) (e : Encoding) where
  -- those of the last line
  last-meets : (n : ℕ) (last : List ℕ) → AreFlawed flaw e (numbered n [] last end) (numbers_from flaw e n (held_of e [] last))
  last-meets n last = elim (cases_Bool (is_flawed flaw e last)) [
    | inl k ↦ rw k (inr (has-flaw flaw e last k, ([], refl, refl)))
    | inr k ↦ rw k (inl (lacks-flaw flaw e last k, refl))
  ]

  -- what is computed are the numbers
  numbers-meet : (n : ℕ) (ls : List Ended) (last : List ℕ) → AreFlawed flaw e (numbered n ls last end) (numbers_from flaw e n (held_of e ls last))
  numbers-meet n [] last = last-meets n last
  numbers-meet n (l ∷ ls) last = elim (cases_Bool (is_flawed flaw e l.text)) [
    | inl k ↦ rw k (inr (has-flaw flaw e l.text k, (numbers_from flaw e (n + 1) (held_of e ls last), refl, numbers-meet (n + 1) ls last)))
    | inr k ↦ rw k (inl (lacks-flaw flaw e l.text k, numbers-meet (n + 1) ls last))
  ]

  -- of any lines there is one list of numbers
  numbers-only : (ls : List Line) (a b : List ℕ) → AreFlawed flaw e ls a → AreFlawed flaw e ls b → a ≡ b
  numbers-only [] a b x y = x ∙ sym y
  numbers-only (l ∷ ls) a b (inl x) (inl y) = numbers-only ls a b x.1 y.1
  numbers-only (l ∷ ls) a b (inl x) (inr y) = absurd (not-both flaw e l.text x.0 y.0)
  numbers-only (l ∷ ls) a b (inr x) (inl y) = absurd (not-both flaw e l.text y.0 x.0)
  numbers-only (l ∷ ls) a b (inr (x, (xs, p, s))) (inr (y, (ys, q, t))) = p ∙ ap (λ v. l.number ∷ v) (numbers-only ls xs ys s t) ∙ sym q

  -- so a body has one
  flawed-only : (body a b : List ℕ) → AreFlawedIn flaw e body a → AreFlawedIn flaw e body b → a ≡ b
  flawed-only body a b x y =
      let p = cut_of-only e body x.lines x.divided in
      let q = cut_of-only e body y.lines y.divided in
      let P : Lines → List ℕ → Type 0 = λ lines numbers. AreFlawed flaw e (numbered 0 lines.ended lines.last end) numbers in
      numbers-only (numbered 0 (cut_of e body).ended (cut_of e body).last end) a b (subst (λ v. P v a) p x.are) (subst (λ v. P v b) q y.are)

  -- what is computed are the numbers of a body, and the only ones
  pub has-flawed : (body : List ℕ) → HasFlawedIn flaw e body (numbers_from flaw e 0 (held_lines_of e body))
  has-flawed body =
      let are : AreFlawedIn flaw e body (numbers_from flaw e 0 (held_lines_of e body)) = record {
        lines = cut_of e body;
        divided = cut_of-meets e body;
        are = numbers-meet 0 (cut_of e body).ended (cut_of e body).last;
      } in
      record { are = are; only = λ others h. flawed-only body others _ h are }

-- No bytes are one line, which has no flaw.
no-bytes : (flaw : Flaw) (e : Encoding) → HasFlawedIn flaw e [] []
no-bytes flaw e = by e
  where
    from : (f : Encoding) → held_lines_of f [] ≡ held_of f [] [] → HasFlawedIn flaw f [] []
    from f is =
        let none : numbers_from flaw f 0 (held_of f [] []) ≡ [] = rw (empty-flawless flaw f) refl in
        subst (HasFlawedIn flaw f []) (ap (numbers_from flaw f 0) is ∙ none) (has-flawed flaw f [])

    by : (f : Encoding) → HasFlawedIn flaw f [] []
    by windows_1252 = from windows_1252 refl
    by utf_8 = from utf_8 refl
    by utf_16le = from utf_16le refl
    by utf_16be = from utf_16be refl

-- ---- the lines of a source

module _ (flaw : Flaw) (e : Encoding) (source body : List ℕ) (f : Encoding) (is : byte_order_mark e source ≡ record { encoding = f; body = body }) where
  -- Where a flaw is sought, they are those of the body;
  pub lines-body : is_sought flaw e source ≡ true → HasLinesOf flaw e source f body
  lines-body sought = λ numbers h. record {
    are = inl (sought, rw is h.are);
    only = λ others k. elim k [ inl x ↦ h.only others (rw is at x.1) | inr x ↦ absurd (cc) ];
  }

  -- and of no bytes, if the body has no line with the flaw,
  pub lines-flawless : is_sought flaw e source ≡ true → HasFlawedIn flaw f body [] → HasLinesOf flaw e source f []
  lines-flawless sought none = λ numbers h. subst (HasFlawed flaw e source) (h.only [] (no-bytes flaw f).are) (lines-body sought [] none)

-- or if it isn't sought.
pub lines-unsought : (flaw : Flaw) (e : Encoding) (source : List ℕ) (f : Encoding) → is_sought flaw e source ≡ false → HasLinesOf flaw e source f []
lines-unsought flaw e source f unsought = λ numbers h.
    subst (HasFlawed flaw e source) (h.only [] (no-bytes flaw f).are)
    (record { are = inr (unsought, refl); only = λ others k. elim k [ inl x ↦ absurd (cc) | inr x ↦ x.1 ] })

-- No line is ill-formed in windows-1252.
none-numbered : (ls : List Line) (numbers : List ℕ) → AreFlawed IllFormed windows_1252 ls numbers → numbers ≡ []
none-numbered [] numbers h = h
none-numbered (l ∷ ls) numbers (inl h) = none-numbered ls numbers h.1
none-numbered (l ∷ ls) numbers (inr h) = absurd (h.0 tt)

pub none-ill_formed : (body : List ℕ) → HasFlawedIn IllFormed windows_1252 body []
none-ill_formed body =
    let h = has-flawed IllFormed windows_1252 body in
    subst (HasFlawedIn IllFormed windows_1252 body) (none-numbered (numbered 0 h.are.lines.ended h.are.lines.last end) _ h.are.are) h

-- A byte 0 is sought in UTF-8 alone.
pub unsought-other : (e : Encoding) (source body : List ℕ) (f : code.Encoding) → byte_order_mark e source ≡ record { encoding = encoding_of f; body = body }
    → f ≢ UTF_8
    → is_sought Zero e source ≡ false
unsought-other e source body WINDOWS_1252 is h = rw is refl
unsought-other e source body UTF_8 is h = absurd (h refl)
unsought-other e source body UTF_16LE is h = rw is refl
unsought-other e source body UTF_16BE is h = rw is refl

-- Other bytes are sought in windows-1252 alone.
pub windows_1252-sought : (flaw : Flaw) (e : Encoding) (source : List ℕ) → is_of_windows_1252 flaw ≡ true
    → is_sought flaw e source ≡ is_windows_1252 (byte_order_mark e source).encoding
windows_1252-sought (Byte byte) e source of = refl
windows_1252-sought Misread e source of = refl
windows_1252-sought other e source of = absurd (cc)

pub unsought-byte : (flaw : Flaw) (e : Encoding) (source body : List ℕ) (f : code.Encoding) → is_of_windows_1252 flaw ≡ true
    → byte_order_mark e source ≡ record { encoding = encoding_of f; body = body } → f ≢ WINDOWS_1252 → is_sought flaw e source ≡ false
unsought-byte flaw e source body WINDOWS_1252 of is h = absurd (h refl)
unsought-byte flaw e source body UTF_8 of is h = windows_1252-sought flaw e source of ∙ rw is refl
unsought-byte flaw e source body UTF_16LE of is h = windows_1252-sought flaw e source of ∙ rw is refl
unsought-byte flaw e source body UTF_16BE of is h = windows_1252-sought flaw e source of ∙ rw is refl

pub unsought-marked : (e : Encoding) (source body : List ℕ) → byte_order_mark e source ≡ record { encoding = utf_8; body = body }
    → starts_with_bom source ≡ true
    → is_sought Zero e source ≡ false
unsought-marked e source body is mark = rw (is, mark) refl

pub sought-unmarked : (e : Encoding) (source body : List ℕ) → byte_order_mark e source ≡ record { encoding = utf_8; body = body }
    → starts_with_bom source ≡ false
    → is_sought Zero e source ≡ true
sought-unmarked e source body is mark = rw (is, mark) refl

-- If the flaw is one of these bytes,
module _ (is_in : ℕ → Bool) (flaw : Flaw) (e : Encoding) (tells : (bytes : List ℕ) → is_flawed flaw e bytes ≡ list_any is_in bytes) where
  -- lines without one have no flawed line.
  none-held : (n : ℕ) (ls : List Ended) (last : List ℕ) → list_any is_in (bytes_together e ls last) ≡ false
      → numbers_from flaw e n (held_of e ls last) ≡ []
  none-held n [] last h = rw (tells last ∙ h) refl
  none-held n (l ∷ ls) last h =
      let after = bytes_together e ls last in
      let ending = line_ending_bytes e l.by in
      let parts = or_parts (list_any is_in l.text) (list_any is_in (ending ++ after)) (sym (list_any-append is_in l.text (ending ++ after)) ∙ h) in
      let later = or_parts (list_any is_in ending) (list_any is_in after) (sym (list_any-append is_in ending after) ∙ parts.1) in
      rw (tells l.text ∙ parts.0) (none-held (n + 1) ls last later.1)

  -- Nor has a body without one.
  none-in : (body : List ℕ) → list_any is_in body ≡ false → HasFlawedIn flaw e body []
  none-in body h =
      let lines = cut_of e body in
      subst (HasFlawedIn flaw e body) (none-held 0 lines.ended lines.last (ap (list_any is_in) (sym (cut_of-meets e body).bytes) ∙ h))
      (has-flawed flaw e body)

pub none-zero : (body : List ℕ) → holds_zero body ≡ false → HasFlawedIn Zero utf_8 body []
none-zero body h = none-in is_zero Zero utf_8 (λ bytes. refl) body h

-- The bytes that are misread are among those that are sought first.
pub unmisread : {e : Encoding} {source : List ℕ} (f : Encoding) (body : List ℕ)
    → IsFirstByte (λ b. nat_le 0x80 b && nat_le b 0x9f) body None
    → HasLinesOf Misread e source f body
    → HasLinesOf Misread e source f []
unmisread {e} {source} f body none lines = λ numbers h.
    subst (HasFlawed Misread e source) (h.only [] (no-bytes Misread f).are)
    (lines [] (none-in is_read_otherwise Misread f (λ bytes. refl) body (none-at is_read_otherwise body (λ k l is. none k (omega arith) l (within (get_or body k 0) is)))))
  where
    within : (b : ℕ) → is_read_otherwise b ≡ true → (nat_le 0x80 b && nat_le b 0x9f) ≡ true
    within b is =
        let low = and_parts (nat_le 0x80 b) (nat_le b 0x9f && not (b == 0x81 || (b == 0x8d || (b == 0x8f || (b == 0x90 || b == 0x9d))))) is in
        let high = and_parts (nat_le b 0x9f) (not (b == 0x81 || (b == 0x8d || (b == 0x8f || (b == 0x90 || b == 0x9d))))) low.1 in
        rw (low.0, high.0) refl

-- What comes before an ASCII character of a text is a text, and so is what comes after it.
around-ascii : (x : List ℕ) (b : ℕ) (y : List ℕ) → b < 128 → IsUtf8 (x ++ b ∷ y) → IsUtf8 x × IsUtf8 y
around-ascii x b y ascii is =
    let bytes = x ++ b ∷ y in
    let long = length-append x (b ∷ y) in
    let within : length x < length bytes = omega arith in
    let small : get_or bytes (length x) 0 < 128 = subst (λ v. v < 128) (sym (at x)) ascii in (
      subst IsUtf8 (take-append_seam x (b ∷ y)) (IsUtf8-take bytes (length x) is (IsCharBoundary-before_ascii bytes (length x) within small)),
      subst IsUtf8 (ap (λ n. drop n bytes) next ∙ after x) (IsUtf8-drop bytes (length x + 1) is (IsCharBoundary-after_ascii bytes (length x) is within small)),
    )
  where
    at : (z : List ℕ) → get_or (z ++ b ∷ y) (length z) 0 ≡ b
    at [] = refl
    at (c ∷ z) = at z

    next : length x + 1 ≡ suc (length x)
    next = omega arith

    after : (z : List ℕ) → drop (suc (length z)) (z ++ b ∷ y) ≡ y
    after [] = refl
    after (c ∷ z) = after z

around-ending : (x : List ℕ) (by : LineEnding) (y : List ℕ) → IsUtf8 (x ++ (line_ending_bytes utf_8 by ++ y)) → IsUtf8 x × IsUtf8 y
around-ending x lf y is = around-ascii x 10 y (omega arith) is
around-ending x cr y is = around-ascii x 13 y (omega arith) is
around-ending x crlf y is =
    let parts = around-ascii x 13 (10 ∷ y) (omega arith) is in
    (parts.0, (around-ascii [] 10 y (omega arith) parts.1).1)

-- So no line of a text is ill-formed in UTF-8.
well-held : (n : ℕ) (ls : List Ended) (last : List ℕ) → IsUtf8 (bytes_together utf_8 ls last) → numbers_from IllFormed utf_8 n (held_of utf_8 ls last) ≡ []
well-held n [] last is = let well = is_utf8-from_IsUtf8 last is in rw well refl
well-held n (l ∷ ls) last is =
    let parts = around-ending l.text l.by (bytes_together utf_8 ls last) is in
    let well = is_utf8-from_IsUtf8 l.text parts.0 in
    rw well (well-held (n + 1) ls last parts.1)

pub none-ill_formed_utf_8 : (body : List ℕ) (n : ℕ) → IsLongestText body n → n ≡ length body → HasFlawedIn IllFormed utf_8 body []
none-ill_formed_utf_8 body n longest all =
    let lines = cut_of utf_8 body in
    let text : IsUtf8 body = subst IsUtf8 (take_all n body (omega arith)) longest.text in
    subst (HasFlawedIn IllFormed utf_8 body) (well-held 0 lines.ended lines.last (subst IsUtf8 (cut_of-meets utf_8 body).bytes text))
    (has-flawed IllFormed utf_8 body)

-- ---- the number of lines

pub ending-length : (e : Encoding) (by : LineEnding) → 1 ≤ length (line_ending_bytes e by)
ending-length windows_1252 lf = omega arith
ending-length windows_1252 cr = omega arith
ending-length windows_1252 crlf = omega arith
ending-length utf_8 lf = omega arith
ending-length utf_8 cr = omega arith
ending-length utf_8 crlf = omega arith
ending-length utf_16le lf = omega arith
ending-length utf_16le cr = omega arith
ending-length utf_16le crlf = omega arith
ending-length utf_16be lf = omega arith
ending-length utf_16be cr = omega arith
ending-length utf_16be crlf = omega arith

-- each line ending is a byte at least
ends-within : (e : Encoding) (ls : List Ended) (last : List ℕ) → length (held_of e ls last) ≤ length (bytes_together e ls last) + 1
ends-within e [] last = omega arith
ends-within e (l ∷ ls) last =
    let rest = bytes_together e ls last in
    let others = ends-within e ls last in
    let one = ending-length e l.by in
    let line = length-append l.text (line_ending_bytes e l.by ++ rest) in
    let end = length-append (line_ending_bytes e l.by) rest in
    omega arith

-- so there is at most one more line than bytes
few-held : (e : Encoding) (body : List ℕ) → length (held_lines_of e body) ≤ length body + 1
few-held e body =
    let within = ends-within e (cut_of e body).ended (cut_of e body).last in
    let same : length body ≡ length (bytes_together e (cut_of e body).ended (cut_of e body).last) = ap length (cut_of-meets e body).bytes in
    omega arith

-- ---- line by line

-- at the start
pub scans : (body : List ℕ) (s : Scanner) (f : code.Encoding) → s.encoding ≡ f → Fits s body → s.at ≡ 0
    → scanner_state s body ≡ record (start (encoding_of f)) { is_decided = true; held = body }
    → IsScanning body s
scans body s f same fits at stands =
    let decided : is_decided s.front ≡ true = ap (λ v. let w : ReaderState = v in w.is_decided) stands in
    let alone : after_cr s.front ≡ false = ap (λ v. let w : ReaderState = v in w.after_cr) stands in
    let passed : s.passed ≡ 0 = ap (λ v. let w : ReaderState = v in w.passed) stands in
    let going : s.is_done ≡ false = ap (λ v. let w : ReaderState = v in w.is_done) stands in
    record {
      in_body = record {
        fits = fits;
        decided = λ w. let x : is_decided Mark ≡ true = subst (λ v. is_decided v ≡ true) w decided in absurd (cc);
        alone = λ w. let x : after_cr Feed ≡ false = subst (λ v. after_cr v ≡ false) w alone in absurd (cc);
      };
      few = rw (passed, going, at, same) (omega (arith, few-held (encoding_of f) body));
    }

pub scanning-start : {e : Encoding} {source : List ℕ} (flaw : Flaw) (body : List ℕ) (s : Scanner) (f : code.Encoding)
    → HasLinesOf flaw e source (encoding_of f) body
    → s.encoding ≡ f → Fits s body → s.at ≡ 0 → scanner_state s body ≡ record (start (encoding_of f)) { is_decided = true; held = body }
    → IsScanning body s × HasFlawed flaw e source (numbers_left flaw body s)
scanning-start flaw body s f lines same fits at stands =
    let passed : s.passed ≡ 0 = ap (λ v. let w : ReaderState = v in w.passed) stands in
    let going : s.is_done ≡ false = ap (λ v. let w : ReaderState = v in w.is_done) stands in
    (scans body s f same fits at stands, rw (passed, going, at, same) (lines _ (has-flawed flaw (encoding_of f) body)))

-- the scan goes on after it
pub found-scanning : (body : List ℕ) (s new : Scanner) → IsScanning body s → GivesScannedLine s body true new → IsScanning body new
found-scanning body s new h g = record {
  in_body = body-after s new body g;
  few = omega (arith, h.few, g.number, ap length (body-lines_left s new body h.in_body g));
}

-- the numbers to come, by the line that came
pub found-numbers : (flaw : Flaw) (body : List ℕ) (s new : Scanner) (has_flaw : Bool) → IsScanning body s → GivesScannedLine s body true new
    → is_flawed flaw (encoding_of new.encoding) (raw_line_bytes body new.line) ≡ has_flaw
    → numbers_left flaw body s ≡ (if has_flaw then new.passed ∷ numbers_left flaw body new else numbers_left flaw body new)
found-numbers flaw body s new has_flaw h g k =
    let e = encoding_of new.encoding in
    let number : s.passed + 1 ≡ new.passed = sym g.number in
    ap (numbers_from flaw (encoding_of s.encoding) s.passed) (body-lines_left s new body h.in_body g)
    ∙ ap (λ f. if is_flawed flaw f (raw_line_bytes body new.line) then (s.passed + 1) ∷ numbers_from flaw f (s.passed + 1) (held_lines_left body new)
    else numbers_from flaw f (s.passed + 1) (held_lines_left body new)) (sym (body-next s new body h.in_body g).0)
    ∙ ap (λ n. if is_flawed flaw e (raw_line_bytes body new.line) then n ∷ numbers_from flaw e n (held_lines_left body new)
    else numbers_from flaw e n (held_lines_left body new)) number
    ∙ ap (λ v. if v then new.passed ∷ numbers_left flaw body new else numbers_left flaw body new) k

-- The first number to come is that of the source.
pub found-first : {e : Encoding} {source : List ℕ} (flaw : Flaw) (body : List ℕ) (s new : Scanner) (answer : Option ℕ)
    → HasFlawed flaw e source (numbers_left flaw body s) → FindsFlawedLine flaw body s answer new → IsFirstFlawed flaw e source answer
found-first {e} {source} flaw body s new None all none = (subst (HasFlawed flaw e source) none all).are
found-first {e} {source} flaw body s new (Some number) all next =
    (numbers_left flaw body new, (subst (HasFlawed flaw e source) next.1 all).are)

-- ---- a line

-- ASCII is UTF-8
pub flags-ascii : {body : List ℕ} (line : RawLine) → IsFoundLine utf_8 body line → line.is_ascii ≡ true → is_utf8 (raw_line_bytes body line) ≡ true
flags-ascii {body} line h k = is_utf8-from_IsUtf8 (raw_line_bytes body line) (IsUtf8-from_ascii (raw_line_bytes body line) (h.flags.ascii.0 k).1)

-- what is neither windows-1252 nor UTF-8 is UTF-16
pub utf_16-paired : (f : code.Encoding) (bytes : List ℕ) → f ≢ WINDOWS_1252 → f ≢ UTF_8
    → are_paired (unit_at (encoding_of f)) false bytes ≡ is_well_formed (encoding_of f) bytes
utf_16-paired WINDOWS_1252 bytes h k = absurd (h refl)
utf_16-paired UTF_8 bytes h k = absurd (k refl)
utf_16-paired UTF_16LE bytes h k = refl
utf_16-paired UTF_16BE bytes h k = refl

-- bytes are a text if their longest well-formed front is all of them
pub longest-is_utf8 : (bytes : List ℕ) (n : ℕ) → IsLongestText bytes n → (n == length bytes) ≡ is_utf8 bytes
longest-is_utf8 bytes n h = elim (eqb_tells n (length bytes)) [
  | inl same ↦ same.0 ∙ sym (is_utf8-from_IsUtf8 bytes (subst IsUtf8 (take_all n bytes (omega (arith, same.1))) h.text))
  | inr other ↦
      let shorter : is_utf8 bytes ≡ true → ⊥ = λ k.
      let all = subst IsUtf8 (sym (take_all (length bytes) bytes (omega arith))) (IsUtf8-from_is_utf8 bytes k) in
      let most = h.longest (length bytes) (omega arith) all in
      other.1 (omega (arith, h.within, most)) in
      other.0 ∙ sym (false_from_ne_true (is_utf8 bytes) shorter)
]

-- ---- a source that looks like UTF-8 in windows-1252

pub other-looks : (e : Encoding) (source body : List ℕ) (f : code.Encoding) → byte_order_mark e source ≡ record { encoding = encoding_of f; body = body }
    → f ≢ WINDOWS_1252
    → ¬ LooksUtf8 e source
other-looks e source body WINDOWS_1252 is h looks = h refl
other-looks e source body UTF_8 is h looks = let same = rw is at looks.in_force in absurd (cc)
other-looks e source body UTF_16LE is h looks = let same = rw is at looks.in_force in absurd (cc)
other-looks e source body UTF_16BE is h looks = let same = rw is at looks.in_force in absurd (cc)

pub short-looks : (e : Encoding) (source : List ℕ) (n : ℕ) → IsLongestText source n → n < length source → ¬ LooksUtf8 e source
short-looks e source n longest short looks =
    let all = is_utf8-from_IsUtf8 source (IsUtf8-from_well_formed source looks.well_formed) in
    let same = eqb-true n (length source) (longest-is_utf8 source n longest ∙ all) in
    omega (arith, same)

pub looks-first : (e : Encoding) (source body : List ℕ) (n : ℕ) (answer : Option ℕ)
    → byte_order_mark e source ≡ record { encoding = windows_1252; body = body }
    → IsLongestText source n → length source ≤ n
    → IsFirstFlawed NonAscii e source answer → IsFirstUtf8 e source answer
looks-first e source body n None is longest all first = inr first
looks-first e source body n (Some number) is longest all first =
    let text = subst IsUtf8 (take_all n source all) longest.text in
    (record { in_force = rw is refl; well_formed = well_formed-from_IsUtf8 source text }, first)

pub ruleset flawed = (scanning-start, flags-ascii)
