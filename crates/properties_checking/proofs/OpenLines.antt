-- The ends of lines, as they are found one after another.
use Rattle.std.proofs.Common.{◌≡◌, ◌≢◌, ◌⊎◌, ℕ, zero, suc, ◌+◌, ◌-◌, ◌<◌, ◌≤◌, ◌==◌, ◌%◌, Bool, true, false, not, if◌then◌else◌, List, [], ◌∷◌, ◌++◌, length, take, drop, get_or, reverse, refl, sym, ap, ap₂, subst, ◌∙◌, inl, inr, append_assoc, append-nil, length-append, length-drop, arith}
use Rattle.std.specs.Prelude.{◌&&◌, ◌||◌, nat_le, Option, Some, None}
use Rattle.std.specs.{List.flat_map, Option.is_some}
use Rattle.memchr.specs.Find.{FindsNeedle, OccursAt}
use Rattle.std.proofs.{lemmas.Bool.Decides.eqb_tells, Math.Seq.drop-append_seam, Math.Seq.take-append_seam}
use Rattle.std.proofs.lemmas.Bool.{cases_Bool, and_parts, or_from, or_parts, or_right, and_right}
use Rattle.std.proofs.lemmas.List.{length-take-le, reverse-append, reverse-reverse, take-append-drop}
use Rattle.properties_format.specs.Text.{backslash, begins, form_feed, is_blank, is_empty, piece_characters, space, tab, without_leading_blanks}
use Rattle.properties_format.specs.Encoding.{Encoding, windows_1252, utf_8, utf_16le, utf_16be, ascii_bytes, byte_order_mark, IsAligned, InForce}
use Rattle.properties_format.specs.Lines.{end, Ended, Line, numbered, numbered_lines, is_comment_line, is_open, lines_in, HasGroups}
use Rattle.properties_format.specs.{Cut.bytes_together, Cut.line_ending_bytes, Body.HeldLine, Computed.Body.held_of, Computed.Body.held_lines_of}
use Rattle.properties_format.specs.{Computed.Cut.cut_of, Computed.Cut.decoded_line, Computed.Encoding.decoded_of, Computed.Lines.closes}
use Rattle.properties_format.specs.{Computed.Lines.groups_after, Computed.Lines.groups_of, Text.is_comment_sign, ItemsToCome.ReaderState, ItemsToCome.start}
use Rattle.properties_format.proofs.Cut.Byline.{byline_of, byline_of-meets, byline-is_lines, decoded_ended, nothing-decoded}
use Rattle.properties_format.proofs.{Cut.Meets.cut_of-meets, Encodings.Cuts.characters-cut_ascii, Encodings.Cuts.cut-at_ascii}
use Rattle.properties_format.proofs.{Encodings.Pieces.decoded_of-meets, Encodings.Pieces.pieces_of-nil, Encodings.Characters.pieces_of-ascii}
use Rattle.properties_format.proofs.{Groups.Meets.groups_of-meets, Groups.Open.is_open-other, Groups.Open.open-ends, Body.Decoded.decoded-nil}
use Rattle.properties_format.specs.Text.{LineEnding, lf, cr, crlf}
use Rattle.properties_format.proofs.Groups.Steps.{groups_after-closed, groups_after-open, groups_of-closed, groups_of-comment_line, groups_of-open, groups_after-close, groups_after-leave}
use Rattle.properties_lines.specs.{LineSearch.unit_size, Private.HeldLines.held_lines_left, declared.scanner.Scanner.Scanner}
use Rattle.properties_lines.specs.Scanner.{raw_line_bytes, scanner_state, EndsWhole, GivesScannedLine}
use Rattle.properties_text.specs.{Encoding.encoding_of, declared.encoding.Encoding.TheVariants.WINDOWS_1252, declared.encoding.Encoding.TheVariants.UTF_8}
use Rattle.properties_tables.specs.{Lines.holds_byte, Private.Flawed.IsScanning}
use Rattle.properties_checking.specs.Misread.{last_number, lines_of_pairs, looks_open, misread_at, misread_end, AreMisreadEnds}
use Rattle.properties_checking.specs.Private.OpenLines.{ends_from, holds_pair, is_comment_after, is_end, joins_next, may_end_line, said_end, BeginsWithAscii, EndsInAscii, IsAsciiUnit, SeesNone}
use Rattle.properties_checking.specs.{Private.Checking.misread_finding, declared.check.Finding.Finding, declared.misread.Misread.Misread}
use Rattle.properties_tables.proofs.FlawedLines.{ending-length}
use Rattle.properties_text.specs.declared.encoding.Encoding as code
use Rattle.properties_lines.proofs.{HeldLines.body-lines_left, LineSearch.length-ascii_bytes}

-- ---- the lines of a source, numbered

abbrev pub numbered_held : ℕ → List HeldLine → List Line
numbered_held n [] = []
numbered_held n (h ∷ hs) = record { number = n + 1; text = h.text } ∷ numbered_held (n + 1) hs

numbered-lines : (e : Encoding) (n : ℕ) (ls : List Ended) (last : List ℕ)
    → numbered n (decoded_ended e ls) (decoded_line e last) end ≡ numbered_held n (held_of e ls last)
numbered-lines e n [] last = refl
numbered-lines e n (l ∷ ls) last = ap (λ v. record { number = n + 1; text = decoded_line e l.text } ∷ v) (numbered-lines e (n + 1) ls last)

-- the groups of a source
abbrev pub source_lines : Encoding → List ℕ → List Line
source_lines e source = numbered_held 0 (held_lines_of (byte_order_mark e source).encoding (byte_order_mark e source).body)

pub groups-meet : (e : Encoding) (source : List ℕ) → HasGroups e source end (groups_of (source_lines e source) end)
groups-meet e source =
    let f = (byte_order_mark e source).encoding in
    let cut = cut_of f (byte_order_mark e source).body in
    let same : numbered_lines (byline_of e source) end ≡ source_lines e source = numbered-lines f 0 cut.ended cut.last in
    subst (λ v. HasGroups e source end (groups_of v end)) same (record {
      text = decoded_of e source;
      lines = byline_of e source;
      decoded = decoded_of-meets e source;
      divided = byline-is_lines e source (decoded_of e source) (byline_of e source) (byline_of-meets e source) (decoded_of-meets e source);
      grouped = groups_of-meets (numbered_lines (byline_of e source) end) end;
    })

-- ---- groups, line by line

-- the lines that are no comment lines, after one that is continued or isn't
abbrev pub others : Bool → List Line → List Line
others is_joined [] = []
others is_joined (l ∷ ls) =
    if is_comment_after is_joined l.text then others false ls else l ∷ others (joins_next is_joined l.text) ls

-- whether there is one
abbrev some : List Line → Bool
some [] = false
some (l ∷ ls) = true

abbrev IsUnmarked : List Line → Type 0
IsUnmarked [] = Unit {0}
IsUnmarked (l ∷ ls) = is_comment_line l.text ≡ false

-- those of the groups after open lines
others-after : (p ls : List Line) → IsUnmarked p → lines_of_pairs (groups_after p ls end) ≡ p ++ others (some p) ls
others-after [] [] k = refl
others-after (q ∷ p) [] k = rw k refl
others-after [] (l ∷ ls) k = elim (cases_Bool (is_comment_line l.text)) [
  | inl marked ↦ let rest = others-after [] ls tt in rw marked (ap lines_of_pairs (groups_of-comment_line l ls end marked) ∙ rw marked rest)
  | inr other ↦ elim (cases_Bool (is_open l.text)) [
    | inl open_line ↦ rw (other, open_line) (ap lines_of_pairs (groups_of-open l ls end other open_line) ∙ others-after (l ∷ []) ls other)
    | inr closed ↦
        let rest = others-after [] ls tt in
        rw (other, closed) (ap lines_of_pairs (groups_of-closed l ls end closed) ∙ rw other (ap (λ v. l ∷ v) rest))
  ]
]
others-after (q ∷ p) (l ∷ ls) k = elim (cases_Bool (is_open l.text)) [
  | inl open_line ↦
      let rest = others-after (q ∷ (p ++ l ∷ [])) ls k in
      rw open_line (ap lines_of_pairs (groups_after-open q p l ls end open_line) ∙ rest ∙ append_assoc (q ∷ p) (l ∷ []) (others true ls))
  | inr closed ↦
      let rest = others-after [] ls tt in
      rw closed (ap lines_of_pairs (groups_after-closed (q ∷ p) l ls end closed)
      ∙ rw k (ap (λ v. ((q ∷ p) ++ l ∷ []) ++ v) rest ∙ append_assoc (q ∷ p) (l ∷ []) (others false ls)))
]

-- the lines of the groups are all lines
lines-after : (p ls : List Line) → lines_in (groups_after p ls end) ≡ p ++ ls
lines-after [] [] = refl
lines-after (q ∷ p) [] = refl
lines-after p (l ∷ ls) = elim (cases_Bool (closes p l)) [
  | inl closed ↦ ap lines_in (groups_after-close p l ls end closed) ∙ ap (λ v. (p ++ l ∷ []) ++ v) (lines-after [] ls) ∙ append_assoc p (l ∷ []) ls
  | inr goes_on ↦ ap lines_in (groups_after-leave p l ls end goes_on) ∙ lines-after (p ++ l ∷ []) ls ∙ append_assoc p (l ∷ []) ls
]

-- ---- the last number

last-within : (n : ℕ) (h : HeldLine) (hs : List HeldLine) → n ≤ last_number (numbered_held n (h ∷ hs))
last-within n h [] = elim (cases_Bool (is_empty h.text)) [ inl none ↦ rw none (omega arith) | inr some ↦ rw some (omega arith) ]
last-within n h (i ∷ hs) = omega (arith, last-within (n + 1) i hs)

open-some : (text : List ℕ) → is_open text ≡ true → is_empty text ≡ false
open-some [] h = absurd (cc)
open-some (c ∷ text) h = refl

-- An open line has it if only an empty line comes after it.
last-open : (n : ℕ) (h : HeldLine) (hs : List HeldLine) → is_open h.text ≡ true → (n + 1 == last_number (numbered_held n (h ∷ hs))) ≡ is_end hs
last-open n h [] k = let some = open-some h.text k in rw some (grind (arith))
last-open n h (i ∷ []) k = elim (cases_Bool (is_empty i.text)) [ inl none ↦ rw none (grind (arith)) | inr some ↦ rw some (grind (arith)) ]
last-open n h (i ∷ j ∷ hs) k = let later = last-within (n + 2) j hs in grind (arith)

-- ---- the findings on the lines

module _ {X : Type 0} (of : Misread → ℕ → X) where
  abbrev pub said_of_line : ℕ → Line → List X
  said_of_line last l = misread_at of l.number (misread_end l.text (l.number == last))

  ends-others : (last : ℕ) (is_joined : Bool) (n : ℕ) (hs : List HeldLine)
      → ((h : HeldLine) (rest : List HeldLine) → hs ≡ h ∷ rest → last ≡ last_number (numbered_held n hs))
      → flat_map (said_of_line last) (others is_joined (numbered_held n hs)) ≡ ends_from of is_joined n hs
  ends-others last is_joined n [] same = refl
  ends-others last is_joined n (h ∷ hs) same = elim (cases_Bool (is_comment_after is_joined h.text)) [
    | inl marked ↦ rw marked (ends-others last false (n + 1) hs after)
    | inr other ↦ rw other (ap₂ (λ v w. misread_at of (n + 1) v ++ w) this (ends-others last (is_open h.text) (n + 1) hs after))
  ]
    where
      after : (i : HeldLine) (rest : List HeldLine) → hs ≡ i ∷ rest → last ≡ last_number (numbered_held (n + 1) hs)
      after i rest is = same h hs refl ∙ rw is refl

      this : misread_end h.text (n + 1 == last) ≡ misread_end h.text (is_end hs)
      this = elim (cases_Bool (is_open h.text)) [
        | inl open_line ↦ ap (misread_end h.text) (ap (λ v. n + 1 == v) (same h hs refl) ∙ last-open n h hs open_line)
        | inr closed ↦ rw closed refl
      ]

-- ---- a body without candidates

-- whether a blank comes after a backslash, or at most two bytes do
abbrev pub holds_candidate : List ℕ → Bool
holds_candidate [] = false
holds_candidate (b ∷ bs) = (b == backslash && (nat_le (length bs) 2 || begins is_blank bs)) || holds_candidate bs

pair-candidate : (x : List ℕ) (c : ℕ) (y : List ℕ) → is_blank c ≡ true → holds_candidate (x ++ backslash ∷ c ∷ y) ≡ true
pair-candidate [] c y h = elim (cases_Bool (nat_le (length (c ∷ y)) 2)) [ inl k ↦ rw k refl | inr k ↦ rw (k, h) refl ]
pair-candidate (b ∷ x) c y h =
    let later = pair-candidate x c y h in
    or_right (b == backslash && (nat_le (length (x ++ backslash ∷ c ∷ y)) 2 || begins is_blank (x ++ backslash ∷ c ∷ y))) _ later

end-candidate : (x y : List ℕ) → length y ≤ 2 → holds_candidate (x ++ backslash ∷ y) ≡ true
end-candidate [] y h = let k : nat_le (length y) 2 ≡ true = grind (arith) in rw k refl
end-candidate (b ∷ x) y h =
    let later = end-candidate x y h in
    or_right (b == backslash && (nat_le (length (x ++ backslash ∷ y)) 2 || begins is_blank (x ++ backslash ∷ y))) _ later

after-candidate : (x y : List ℕ) → holds_candidate (x ++ y) ≡ false → holds_candidate y ≡ false
after-candidate [] y h = h
after-candidate (b ∷ x) y h =
    after-candidate x y (or_parts (b == backslash && (nat_le (length (x ++ y)) 2 || begins is_blank (x ++ y))) (holds_candidate (x ++ y)) h).1

-- a text that looks open, in reverse, has a blank and a backslash
abbrev BlankBefore : List ℕ → Type 0
BlankBefore r = (u : List ℕ) × (c : ℕ) × (v : List ℕ) × (r ≡ u ++ c ∷ backslash ∷ v) × (is_blank c ≡ true)

odd-first : (d : ℕ) (r : List ℕ) → is_open (reverse (d ∷ r)) ≡ true → d ≡ backslash
odd-first d r h = elim (eqb_tells d backslash) [
  | inl same ↦ same.1
  | inr other ↦
      let back = ap is_open (reverse-append (d ∷ []) r) in
      let none = is_open-other (reverse r) d other.0 in
      absurd (cc)
]

blank-before : (c : ℕ) (r : List ℕ) → is_blank c ≡ true → is_open (reverse (without_leading_blanks r)) ≡ true → BlankBefore (c ∷ r)
blank-before c [] b h = absurd (cc)
blank-before c (d ∷ r) b h = elim (cases_Bool (is_blank d)) [
  | inl blank ↦
      let k = blank-before d r blank (rw blank at h) in
      (c ∷ k.0, k.1, k.2, ap (λ v. c ∷ v) k.3, k.4)
  | inr other ↦
      let same = odd-first d r (rw other at h) in
      ([], c, r, rw same refl, b)
]

looks-before : (r : List ℕ) → begins is_blank r ≡ true → is_open (reverse (without_leading_blanks r)) ≡ true → BlankBefore r
looks-before [] b h = absurd (cc)
looks-before (c ∷ r) b h = blank-before c r b (rw b at h)

module _ (e : Encoding) (one : (c : ℕ) → ascii_bytes e c ≡ c ∷ []) where
  -- the bytes of a line that looks open have a backslash before a blank
  pair-bytes : (d : List ℕ) → looks_open (decoded_line e d) ≡ true → (x : List ℕ) × (c : ℕ) × (y : List ℕ) × (d ≡ x ++ backslash ∷ c ∷ y) × (is_blank c ≡ true)
  pair-bytes d h =
      let text = decoded_line e d in
      let parts = and_parts (begins is_blank (reverse text)) (is_open (reverse (without_leading_blanks (reverse text)))) h in
      let k = looks-before (reverse text) parts.0 parts.1 in
      let is : text ≡ reverse k.2 ++ backslash ∷ k.1 ∷ reverse k.0 =
      sym (reverse-reverse text) ∙ ap reverse k.3 ∙ reverse-append k.0 (k.1 ∷ backslash ∷ k.2)
      ∙ ap (λ v. v ++ reverse k.0) (reverse-append (k.1 ∷ backslash ∷ []) k.2) ∙ append_assoc (reverse k.2) (backslash ∷ k.1 ∷ []) (reverse k.0) in
      let at = cut-at_ascii e d (reverse k.2) backslash (k.1 ∷ reverse k.0) (omega arith) is in
      let small : k.1 < 128 = blank-ascii k.1 k.4 in
      let next = cut-at_ascii e at.1 [] k.1 (reverse k.0) small at.2.back in
      let nothing = nothing-decoded e next.0 next.2.front in
      (at.0, k.1, next.1, at.2.joins ∙ rw (one backslash) (ap (λ v. at.0 ++ backslash ∷ v) (next.2.joins ∙ rw (nothing, one k.1) refl)), k.4)
    where
      blank-ascii : (c : ℕ) → is_blank c ≡ true → c < 128
      blank-ascii c h = grind (arith)

  -- those of an open one end in a backslash
  open-bytes : (d : List ℕ) → is_open (decoded_line e d) ≡ true → (x : List ℕ) × (d ≡ x ++ backslash ∷ [])
  open-bytes d h =
      let at = cut-at_ascii e d _ backslash [] (omega arith) (open-ends (decoded_line e d) h) in
      let nothing = nothing-decoded e at.1 at.2.back in
      (at.0, at.2.joins ∙ rw (nothing, one backslash) refl)

  clear-line : (d z : List ℕ) (is_last : Bool) → holds_candidate (d ++ z) ≡ false → (is_last ≡ true → length z ≤ 2)
      → misread_end (decoded_line e d) is_last ≡ None
  clear-line d z is_last h few = elim (cases_Bool (looks_open (decoded_line e d))) [
    | inl looks ↦
        let k = pair-bytes d looks in
        let has : holds_candidate (d ++ z) ≡ true =
        ap (λ v. holds_candidate (v ++ z)) k.3 ∙ ap holds_candidate (append_assoc k.0 (backslash ∷ k.1 ∷ k.2) z) ∙ pair-candidate k.0 k.1 (k.2 ++ z) k.4 in
        absurd (cc)
    | inr shut ↦ elim (cases_Bool (is_open (decoded_line e d))) [
      | inr closed ↦ rw (shut, closed) refl
      | inl open_line ↦ elim (cases_Bool is_last) [
        | inr early ↦ rw (shut, open_line, early) refl
        | inl late ↦
            let k = open-bytes d open_line in
            let has : holds_candidate (d ++ z) ≡ true =
            ap (λ v. holds_candidate (v ++ z)) k.1 ∙ ap holds_candidate (append_assoc k.0 (backslash ∷ []) z) ∙ end-candidate k.0 z (few late) in
            absurd (cc)
      ]
    ]
  ]

  ending-short : (by : LineEnding) → length (line_ending_bytes e by) ≤ 2
  ending-short lf = rw (one 10) (omega arith)
  ending-short cr = rw (one 13) (omega arith)
  ending-short crlf = rw (one 13, one 10) (omega arith)

  empty-is : (text : List ℕ) → is_empty text ≡ true → text ≡ []
  empty-is [] h = refl
  empty-is (c ∷ text) h = absurd (cc)

  end-short : (by : LineEnding) (ls : List Ended) (last : List ℕ) → is_end (held_of e ls last) ≡ true
      → length (line_ending_bytes e by ++ bytes_together e ls last) ≤ 2
  end-short by [] last h =
      let nothing = nothing-decoded e last (empty-is (decoded_line e last) h) in
      rw (nothing, append-nil) (ending-short by)
  end-short by (l ∷ []) last h = absurd (cc)
  end-short by (l ∷ m ∷ ls) last h = absurd (cc)

  unsaid : (is_joined : Bool) (text : List ℕ) (is_last : Bool) → misread_end text is_last ≡ None → said_end is_joined text is_last ≡ None
  unsaid is_joined text is_last h = elim (cases_Bool (is_comment_after is_joined text)) [ inl k ↦ rw k refl | inr k ↦ rw k h ]

  none-held : {X : Type 0} (of : Misread → ℕ → X) (is_joined : Bool) (n : ℕ) (ls : List Ended) (last : List ℕ)
      → holds_candidate (bytes_together e ls last) ≡ false
      → ends_from of is_joined n (held_of e ls last) ≡ []
  none-held of is_joined n [] last h =
      let none = unsaid is_joined (decoded_line e last) true (clear-line last [] true (ap holds_candidate (append-nil last) ∙ h) (λ k. omega arith)) in
      rw none refl
  none-held of is_joined n (l ∷ ls) last h =
      let z = line_ending_bytes e l.by ++ bytes_together e ls last in
      let is_last = is_end (held_of e ls last) in
      let none = unsaid is_joined (decoded_line e l.text) is_last (clear-line l.text z is_last h (λ k. end-short l.by ls last k)) in
      let after = after-candidate (line_ending_bytes e l.by) (bytes_together e ls last) (after-candidate l.text z h) in
      rw none (none-held of (joins_next is_joined (decoded_line e l.text)) (n + 1) ls last after)

no-pair : (byte : ℕ) (bs : List ℕ) → holds_byte byte bs ≡ false → begins (λ c. c == byte) bs ≡ false
no-pair byte [] h = refl
no-pair byte (c ∷ cs) h = (or_parts (c == byte) (holds_byte byte cs) h).0

-- a byte that isn't there comes after no backslash
pub pair-absent : (byte : ℕ) (bs : List ℕ) → holds_byte byte bs ≡ false → holds_pair byte bs ≡ false
pair-absent byte [] h = refl
pair-absent byte (b ∷ bs) h =
    let rest = (or_parts (b == byte) (holds_byte byte bs) h).1 in
    or_from (b == backslash && begins (λ c. c == byte) bs) (holds_pair byte bs) (and_right (b == backslash) _ (no-pair byte bs rest)) (pair-absent byte bs rest)

-- ---- a search for both bytes

pair-here : (byte b : ℕ) (bs : List ℕ) → (OccursAt (b ∷ bs) (backslash ∷ byte ∷ []) 0 → ⊥) → (b == backslash && begins (λ c. c == byte) bs) ≡ false
pair-here byte b [] none = and_right (b == backslash) false refl
pair-here byte b (c ∷ cs) none = elim (eqb_tells b backslash) [
  | inr other ↦ rw other.0 refl
  | inl same ↦ elim (eqb_tells c byte) [
    | inr other ↦ rw other.0 (and_right (b == backslash) false refl)
    | inl also ↦ absurd (none (record { fits = omega arith; reads = reads same.1 also.1 }))
  ]
]
  where
    reads : b ≡ backslash → c ≡ byte → (j : ℕ) → j < 2 → get_or (b ∷ c ∷ cs) (0 + j) 0 ≡ get_or (backslash ∷ byte ∷ []) j 0
    reads same also zero l = same
    reads same also (suc zero) l = also
    reads same also (suc (suc j)) l = absurd (omega (arith, l))

pair-later : (byte b : ℕ) (bs : List ℕ) (k : ℕ) → OccursAt bs (backslash ∷ byte ∷ []) k → OccursAt (b ∷ bs) (backslash ∷ byte ∷ []) (suc k)
pair-later byte b bs k h = record {
  fits = omega (arith, h.fits);
  reads = λ j l.
      let next : suc k + j ≡ suc (k + j) = omega arith in
      ap (λ n. get_or (b ∷ bs) n 0) next ∙ h.reads j l;
}

pair-nowhere : (byte : ℕ) (bs : List ℕ) → ((k : ℕ) → OccursAt bs (backslash ∷ byte ∷ []) k → ⊥) → holds_pair byte bs ≡ false
pair-nowhere byte [] none = refl
pair-nowhere byte (b ∷ bs) none =
    or_from (b == backslash && begins (λ c. c == byte) bs) (holds_pair byte bs) (pair-here byte b bs (none 0))
    (pair-nowhere byte bs (λ k h. none (suc k) (pair-later byte b bs k h)))

pair-there : (byte : ℕ) (bs : List ℕ) (k : ℕ) → OccursAt bs (backslash ∷ byte ∷ []) k → holds_pair byte bs ≡ true
pair-there byte [] k h = absurd (omega (arith, h.fits))
pair-there byte (b ∷ []) k h = absurd (omega (arith, h.fits))
pair-there byte (b ∷ c ∷ cs) zero h =
    let first : b ≡ backslash = h.reads 0 (omega arith) in
    let second : c ≡ byte = h.reads 1 (omega arith) in
    let here : (b == backslash && c == byte) ≡ true = grind (arith) in
    rw here refl
pair-there byte (b ∷ c ∷ cs) (suc k) h =
    or_right (b == backslash && c == byte) (holds_pair byte (c ∷ cs))
    (pair-there byte (c ∷ cs) k (record { fits = omega (arith, h.fits); reads = λ j l. sym (ap (λ n. get_or (b ∷ c ∷ cs) n 0) (next k j)) ∙ h.reads j l }))
  where
    next : (k j : ℕ) → suc k + j ≡ suc (k + j)
    next k j = omega arith

pub pair-found : (byte : ℕ) (bs : List ℕ) (found : Option ℕ) → FindsNeedle bs (backslash ∷ byte ∷ []) 0 found → is_some found ≡ holds_pair byte bs
pair-found byte bs None h = sym (pair-nowhere byte bs (λ k at. h k (omega arith) (omega (arith, at.fits)) at))
pair-found byte bs (Some k) h = sym (pair-there byte bs k h.1)

-- ---- bytes that may not end a line so

no-candidate : (bytes : List ℕ) → holds_byte backslash (drop (length bytes - 3) bytes) ≡ false
    → holds_pair space bytes ≡ false → holds_pair tab bytes ≡ false → holds_pair form_feed bytes ≡ false
    → holds_candidate bytes ≡ false
no-candidate [] late s t f = refl
no-candidate (b ∷ bs) late s t f =
    let ss = or_parts (b == backslash && begins (λ c. c == space) bs) (holds_pair space bs) s in
    let ts = or_parts (b == backslash && begins (λ c. c == tab) bs) (holds_pair tab bs) t in
    let fs = or_parts (b == backslash && begins (λ c. c == form_feed) bs) (holds_pair form_feed bs) f in
    or_from (b == backslash && (nat_le (length bs) 2 || begins is_blank bs)) (holds_candidate bs) (here bs refl ss.0 ts.0 fs.0)
    (no-candidate bs rest ss.1 ts.1 fs.1)
  where
    whole : length bs ≤ 2 → holds_byte backslash (b ∷ bs) ≡ false
    whole few = let none : length (b ∷ bs) - 3 ≡ 0 = omega arith in ap (λ n. holds_byte backslash (drop n (b ∷ bs))) (sym none) ∙ late

    rest : holds_byte backslash (drop (length bs - 3) bs) ≡ false
    rest = elim (cases_Bool (nat_le (length bs) 2)) [
      | inl few ↦
          let none : length bs - 3 ≡ 0 = grind (arith) in
          ap (λ n. holds_byte backslash (drop n bs)) none ∙ (or_parts (b == backslash) (holds_byte backslash bs) (whole (grind (arith)))).1
      | inr many ↦
          let next : length (b ∷ bs) - 3 ≡ suc (length bs - 3) = grind (arith) in
          ap (λ n. holds_byte backslash (drop n (b ∷ bs))) (sym next) ∙ late
    ]

    here : (ds : List ℕ) → bs ≡ ds → (b == backslash && begins (λ c. c == space) ds) ≡ false → (b == backslash && begins (λ c. c == tab) ds) ≡ false
        → (b == backslash && begins (λ c. c == form_feed) ds) ≡ false
        → (b == backslash && (nat_le (length ds) 2 || begins is_blank ds)) ≡ false
    here [] same s t f =
        let none : length bs ≤ 2 = omega (arith, ap length same) in
        let other = (or_parts (b == backslash) (holds_byte backslash bs) (whole none)).0 in
        rw other refl
    here (d ∷ ds) same s t f = elim (cases_Bool (b == backslash)) [
      | inr other ↦ rw other refl
      | inl is ↦ elim (cases_Bool (nat_le (length (d ∷ ds)) 2)) [
        | inl few ↦
            let none : length bs ≤ 2 = grind (arith, ap length same) in
            let other = (or_parts (b == backslash) (holds_byte backslash bs) (whole none)).0 in
            rw other refl
        | inr many ↦
            let ds_blank = rw is at s in
            let dt_blank = rw is at t in
            let df_blank = rw is at f in
            rw (is, many, ds_blank, dt_blank, df_blank) refl
      ]
    ]

unsaid-ends : (e : Encoding) (body : List ℕ) → (e ≡ windows_1252) ⊎ (e ≡ utf_8) → may_end_line body ≡ false
    → ends_from misread_finding false 0 (held_lines_of e body) ≡ []
unsaid-ends e body one h =
    let late = or_parts (holds_byte backslash (drop (length body - 3) body)) (holds_pair space body || (holds_pair tab body || holds_pair form_feed body)) h in
    let spaces = or_parts (holds_pair space body) (holds_pair tab body || holds_pair form_feed body) late.1 in
    let tabs = or_parts (holds_pair tab body) (holds_pair form_feed body) spaces.1 in
    let none = no-candidate body late.0 spaces.0 tabs.0 tabs.1 in
    elim one [ inl is ↦ rw is (by windows_1252 (λ c. refl) none) | inr is ↦ rw is (by utf_8 (λ c. refl) none) ]
  where
    by : (f : Encoding) → ((c : ℕ) → ascii_bytes f c ≡ c ∷ []) → holds_candidate body ≡ false → ends_from misread_finding false 0 (held_lines_of f body) ≡ []
    by f single none =
        none-held f single misread_finding false 0 (cut_of f body).ended (cut_of f body).last (ap holds_candidate (sym (cut_of-meets f body).bytes) ∙ none)

pub sees-ends : (f : code.Encoding) (body : List ℕ) (result : Bool)
    → (f ≡ WINDOWS_1252) ⊎ (f ≡ UTF_8) → result ≡ may_end_line body → SeesNone (encoding_of f) body result
sees-ends f body true one h = tt
sees-ends f body false one h =
    unsaid-ends (encoding_of f) body (elim one [ inl is ↦ inl (ap encoding_of is) | inr is ↦ inr (ap encoding_of is) ]) (sym h)

-- ---- ASCII characters at the ends of some bytes

module _ (e : Encoding) (c : ℕ) (ascii : c < 128) where
  pub last-decoded : (front : List ℕ) → IsAligned e front → reverse (decoded_line e (front ++ ascii_bytes e c)) ≡ c ∷ reverse (decoded_line e front)
  last-decoded front aligned =
      let text : decoded_line e (front ++ ascii_bytes e c) ≡ decoded_line e front ++ c ∷ [] =
      ap (λ v. decoded_line e (front ++ v)) (sym (append-nil (ascii_bytes e c))) ∙ characters-cut_ascii e c front [] ascii aligned
      ∙ ap (λ v. decoded_line e front ++ c ∷ piece_characters v) (pieces_of-nil e) in
      ap reverse text ∙ reverse-append (decoded_line e front) (c ∷ [])

  pub last-bytes : (d y : List ℕ) → reverse (decoded_line e d) ≡ c ∷ y → (x : List ℕ) × IsAligned e x × (d ≡ x ++ ascii_bytes e c)
  last-bytes d y h =
      let is : decoded_line e d ≡ reverse y ++ c ∷ [] = sym (reverse-reverse (decoded_line e d)) ∙ ap reverse h ∙ reverse-append (c ∷ []) y in
      let at = cut-at_ascii e d (reverse y) c [] ascii is in
      let nothing = nothing-decoded e at.1 at.2.back in
      (at.0, at.2.aligned, at.2.joins ∙ rw (nothing, append-nil) refl)

  pub first-decoded : (rest : List ℕ) → decoded_line e (ascii_bytes e c ++ rest) ≡ c ∷ decoded_line e rest
  first-decoded rest = rw (pieces_of-ascii e c rest ascii) refl

  pub first-bytes : (d y : List ℕ) → decoded_line e d ≡ c ∷ y → (rest : List ℕ) × (d ≡ ascii_bytes e c ++ rest)
  first-bytes d y h =
      let at = cut-at_ascii e d [] c y ascii h in
      let nothing = nothing-decoded e at.0 at.2.front in
      (at.1, at.2.joins ∙ rw nothing refl)

-- ---- units

pub first-short : (e : Encoding) (d : List ℕ) → length d < unit_size e → BeginsWithAscii e d None
first-short e d few c y ascii h =
    let k = first-bytes e c ascii d y h in
    omega (arith, few, ap length k.1, length-append (ascii_bytes e c) k.0, length-ascii_bytes e c)

pub first-told : (e : Encoding) (d : List ℕ) (unit : Option ℕ) → unit_size e ≤ length d → IsAsciiUnit e (take (unit_size e) d) unit → BeginsWithAscii e d unit
first-told e d (Some c) within h = (
  h.0,
  within,
  ap (decoded_line e) (sym (take-append-drop (unit_size e) d) ∙ ap (λ v. v ++ drop (unit_size e) d) h.1) ∙ first-decoded e c h.0 (drop (unit_size e) d),
)
first-told e d None within h = λ c y ascii is.
    let k = first-bytes e c ascii d y is in
    h c ascii (ap (take (unit_size e)) k.1 ∙ ap (λ n. take n (ascii_bytes e c ++ k.0)) (sym (length-ascii_bytes e c)) ∙ take-append_seam (ascii_bytes e c) k.0)

pub last-short : (e : Encoding) (d : List ℕ) → length d < unit_size e → EndsInAscii e d None
last-short e d few c y ascii h =
    let k = last-bytes e c ascii d y h in
    omega (arith, few, ap length k.2, length-append k.0 (ascii_bytes e c), length-ascii_bytes e c)

-- a front of whole units
whole-front : (e : Encoding) (n m : ℕ) (x : List ℕ) → n ≡ length x + unit_size e → IsAligned e x → n % unit_size e ≡ 0
whole-front windows_1252 n m x is h = omega arith
whole-front utf_8 n m x is h = omega arith
whole-front utf_16le n m x is h = omega (arith, is, h)
whole-front utf_16be n m x is h = omega (arith, is, h)

front-whole : (e : Encoding) (d : List ℕ) → unit_size e ≤ length d → length d % unit_size e ≡ 0 → IsAligned e (take (length d - unit_size e) d)
front-whole windows_1252 d within h = tt
front-whole utf_8 d within h = tt
front-whole utf_16le d within h = let n = length-take-le (length d - 2) d (omega arith) in omega (arith, n, h, within)
front-whole utf_16be d within h = let n = length-take-le (length d - 2) d (omega arith) in omega (arith, n, h, within)

pub last-odd : (e : Encoding) (d : List ℕ) → length d % unit_size e ≢ 0 → EndsInAscii e d None
last-odd e d odd c y ascii h =
    let k = last-bytes e c ascii d y h in
    let long : length d ≡ length k.0 + unit_size e = omega (arith, ap length k.2, length-append k.0 (ascii_bytes e c), length-ascii_bytes e c) in
    odd (whole-front e (length d) 0 k.0 long k.1)

pub last-told : (e : Encoding) (d : List ℕ) (unit : Option ℕ) → unit_size e ≤ length d → length d % unit_size e ≡ 0
    → IsAsciiUnit e (drop (length d - unit_size e) d) unit
    → EndsInAscii e d unit
last-told e d (Some c) within whole h =
    let front = take (length d - unit_size e) d in
    let is : d ≡ front ++ ascii_bytes e c = sym (take-append-drop (length d - unit_size e) d) ∙ ap (λ v. front ++ v) h.1 in
    (h.0, within, ap (λ v. reverse (decoded_line e v)) is ∙ last-decoded e c h.0 front (front-whole e d within whole))
last-told e d None within whole h = λ c y ascii is.
    let k = last-bytes e c ascii d y is in
    let long : length d - unit_size e ≡ length k.0 = omega (arith, ap length k.2, length-append k.0 (ascii_bytes e c), length-ascii_bytes e c) in
    h c ascii (ap (λ n. drop n d) long ∙ ap (drop (length k.0)) k.2 ∙ drop-append_seam k.0 (ascii_bytes e c))

-- ---- reading from the end

pub shut-last : (t : List ℕ) (c : ℕ) (y : List ℕ) → c ≢ backslash → reverse t ≡ c ∷ y → is_open t ≡ false
shut-last t c y other h =
    let is : t ≡ reverse y ++ c ∷ [] = sym (reverse-reverse t) ∙ ap reverse h ∙ reverse-append (c ∷ []) y in
    let k : (c == backslash) ≡ false = elim (eqb_tells c backslash) [ inl same ↦ absurd (other same.1) | inr n ↦ n.0 ] in
    ap is_open is ∙ is_open-other (reverse y) c k

-- no text that ends in another than an ASCII character is open
pub shut-other : (t : List ℕ) → ((c : ℕ) (y : List ℕ) → c < 128 → reverse t ≡ c ∷ y → ⊥) → is_open t ≡ false
shut-other t none = by (reverse t) refl
  where
    by : (r : List ℕ) → reverse t ≡ r → is_open t ≡ false
    by [] is = ap is_open (sym (reverse-reverse t) ∙ ap reverse is)
    by (c ∷ y) is = shut-last t c y (λ same. none c y (omega (arith, same)) is) is

-- an answer that was turned
pub turned : (odd b : Bool) → b ≡ false → (if odd then not b else b) ≡ odd
turned true b h = ap not h
turned false b h = h

-- One text in reverse is another without some blanks at its front; the flag says whether there were some.
abbrev pub IsUnblanked : List ℕ → List ℕ → Bool → Type 0
IsUnblanked whole rest true = (without_leading_blanks whole ≡ without_leading_blanks rest) × (begins is_blank whole ≡ true)
IsUnblanked whole rest false = whole ≡ rest

pub unblanked-same : (whole rest : List ℕ) (blanks : Bool) → IsUnblanked whole rest blanks → without_leading_blanks whole ≡ without_leading_blanks rest
unblanked-same whole rest true h = h.0
unblanked-same whole rest false h = ap without_leading_blanks h

pub looks-shut : (t u : List ℕ) → ((c : ℕ) (y : List ℕ) → c < 128 → reverse u ≡ c ∷ y → ⊥)
    → without_leading_blanks (reverse t) ≡ without_leading_blanks (reverse u)
    → looks_open t ≡ false
looks-shut t u none same =
    let stays : without_leading_blanks (reverse u) ≡ reverse u = by (reverse u) refl in
    let text : reverse (without_leading_blanks (reverse t)) ≡ u = ap reverse (same ∙ stays) ∙ reverse-reverse u in
    let shut : is_open (reverse (without_leading_blanks (reverse t))) ≡ false = ap is_open text ∙ shut-other u none in
    elim (cases_Bool (begins is_blank (reverse t))) [ inl k ↦ rw (k, shut) refl | inr k ↦ rw k refl ]
  where
    by : (r : List ℕ) → reverse u ≡ r → without_leading_blanks r ≡ r
    by [] is = refl
    by (c ∷ y) is = elim (cases_Bool (is_blank c)) [ inl k ↦ absurd (none c y (grind (arith)) is) | inr k ↦ rw k refl ]

-- ---- reading from the front

pub no-comment : (t u : List ℕ) → ((c : ℕ) (y : List ℕ) → c < 128 → u ≡ c ∷ y → ⊥) → without_leading_blanks t ≡ without_leading_blanks u
    → is_comment_line t ≡ false
no-comment t [] none same = ap (begins is_comment_sign) same
no-comment t (c ∷ y) none same = elim (cases_Bool (is_blank c)) [
  | inl k ↦ absurd (none c y (grind (arith)) refl)
  | inr k ↦ elim (cases_Bool (is_comment_sign c)) [
    | inl s ↦ absurd (none c y (grind (arith)) refl)
    | inr s ↦ ap (begins is_comment_sign) same ∙ rw k s
  ]
]

-- ---- the last line

end-told : (e : Encoding) (ls : List Ended) (last : List ℕ) → is_end (held_of e ls last) ≡ (length (bytes_together e ls last) == 0)
end-told e [] [] = let none = decoded-nil e in rw none refl
end-told e [] (b ∷ last) = by (decoded_line e (b ∷ last)) refl ∙ sym some
  where
    some : (length (b ∷ last) == 0) ≡ false
    some = grind (arith)

    by : (text : List ℕ) → decoded_line e (b ∷ last) ≡ text → is_empty (decoded_line e (b ∷ last)) ≡ false
    by [] is = let k = nothing-decoded e (b ∷ last) is in absurd (cc)
    by (c ∷ text) is = ap is_empty is
end-told e (l ∷ ls) last =
    let some = ending-length e l.by in
    let long = length-append l.text (line_ending_bytes e l.by ++ bytes_together e ls last) in
    let end_long = length-append (line_ending_bytes e l.by) (bytes_together e ls last) in
    let none : (length (bytes_together e (l ∷ ls) last) == 0) ≡ false = grind (arith) in
    more ls ∙ sym none
  where
    more : (ms : List Ended) → is_end (held_of e (l ∷ ms) last) ≡ false
    more [] = refl
    more (m ∷ ms) = refl

end-held : (e : Encoding) (d : List ℕ) → is_end (held_lines_of e d) ≡ (length d == 0)
end-held e d = end-told e (cut_of e d).ended (cut_of e d).last ∙ ap (λ v. length v == 0) (sym (cut_of-meets e d).bytes)

-- The scanner is at the end of the body after the last line, or before an empty one.
pub at-end : (body : List ℕ) (s new : Scanner) → GivesScannedLine s body true new → (new.at == length body) ≡ is_end (held_lines_left body new)
at-end body s new g =
    let rest = length-drop new.at body in
    let within = g.fits.within in
    elim g.going [
      | inl going ↦
          let live = going.0 in
          let same : (new.at == length body) ≡ (length (drop new.at body) == 0) = grind (arith) in
          rw live (same ∙ sym (end-held (encoding_of new.encoding) (drop new.at body)))
      | inr done ↦
          let over = done.0 in
          let none : drop new.at body ≡ [] = subst (λ v. EndsWhole (encoding_of new.encoding) v (drop new.at body)) done.1 g.cut.whole in
          let all : (new.at == length body) ≡ true = grind (arith, ap length none) in
          rw over all
    ]

-- ---- one line after another

-- the findings on the ends of the lines to come
abbrev pub ends_left : Bool → List ℕ → Scanner → List Finding
ends_left is_joined body s = ends_from misread_finding is_joined s.passed (held_lines_left body s)

-- at the start
pub ends-start : (body : List ℕ) (s : Scanner) (f : code.Encoding) → s.at ≡ 0
    → scanner_state s body ≡ record (start (encoding_of f)) { is_decided = true; held = body }
    → ends_left false body s ≡ ends_from misread_finding false 0 (held_lines_of (encoding_of f) body)
ends-start body s f at stands =
    let passed : s.passed ≡ 0 = ap (λ v. let w : ReaderState = v in w.passed) stands in
    let going : s.is_done ≡ false = ap (λ v. let w : ReaderState = v in w.is_done) stands in
    let same : encoding_of s.encoding ≡ encoding_of f = ap (λ v. let w : ReaderState = v in w.encoding) stands in
    rw (passed, going, at, same) refl

-- by the line that came
pub ends-next : (body : List ℕ) (s new : Scanner) (is_joined : Bool) → IsScanning body s → GivesScannedLine s body true new
    → ends_left is_joined body s
    ≡ misread_at misread_finding new.passed (said_end is_joined (decoded_line (encoding_of s.encoding) (raw_line_bytes body new.line)) (new.at == length body))
    ++ ends_left (joins_next is_joined (decoded_line (encoding_of s.encoding) (raw_line_bytes body new.line))) body new
ends-next body s new is_joined h g =
    let text = decoded_line (encoding_of s.encoding) (raw_line_bytes body new.line) in
    let number : s.passed + 1 ≡ new.passed = sym g.number in
    ap (ends_from misread_finding is_joined s.passed) (body-lines_left s new body h.in_body g)
    ∙ ap (λ n. misread_at misread_finding n (said_end is_joined text (is_end (held_lines_left body new)))
    ++ ends_from misread_finding (joins_next is_joined text) n (held_lines_left body new)) number
    ∙ ap (λ v. misread_at misread_finding new.passed (said_end is_joined text v) ++ ends_left (joins_next is_joined text) body new) (sym (at-end body s new g))

-- after it was said
pub ends-step : (body : List ℕ) (s new : Scanner) (is_joined : Bool) (f : Encoding) (findings after : List Finding) (number : ℕ)
    (misread : Option Misread) (is_joined_next : Bool) (all : List Finding)
    → IsScanning body s
    → GivesScannedLine s body true new
    → encoding_of s.encoding ≡ f
    → number ≡ new.passed
    → misread ≡ said_end is_joined (decoded_line f (raw_line_bytes body new.line)) (new.at == length body)
    → is_joined_next ≡ joins_next is_joined (decoded_line f (raw_line_bytes body new.line))
    → after ≡ findings ++ misread_at misread_finding number misread
    → findings ++ ends_left is_joined body s ≡ all
    → after ++ ends_left is_joined_next body new ≡ all
ends-step body s new is_joined f findings after number misread is_joined_next all h g same count said joins pushed before =
    let P : Encoding → Type 0 = λ e.
    ends_left is_joined body s
    ≡ misread_at misread_finding new.passed (said_end is_joined (decoded_line e (raw_line_bytes body new.line)) (new.at == length body))
    ++ ends_left (joins_next is_joined (decoded_line e (raw_line_bytes body new.line))) body new in
    let next : P f = subst P same (ends-next body s new is_joined h g) in
    rw (pushed, count, said, joins) (append_assoc findings _ _ ∙ ap (λ v. findings ++ v) (sym next) ∙ before)

-- after the last one
pub ends-done : (is_joined : Bool) (body : List ℕ) (s : Scanner) (findings all : List Finding) → held_lines_left body s ≡ []
    → findings ++ ends_left is_joined body s ≡ all
    → findings ≡ all
ends-done is_joined body s findings all none before =
    sym (append-nil findings) ∙ ap (λ v. findings ++ v) (ap (ends_from misread_finding is_joined s.passed) (sym none)) ∙ before

-- all of them are those of the source
ends-are : (e : Encoding) (source : List ℕ)
    → AreMisreadEnds misread_finding e source
    (ends_from misread_finding false 0 (held_lines_of (byte_order_mark e source).encoding (byte_order_mark e source).body))
ends-are e source =
    let f = (byte_order_mark e source).encoding in
    let held = held_lines_of f (byte_order_mark e source).body in
    let lines = source_lines e source in
    let groups = groups_of lines end in
    let all : lines_in groups ≡ lines = lines-after [] lines in
    record {
      groups = groups;
      are_groups = groups-meet e source;
      is =
          sym (ends-others misread_finding (last_number lines) false 0 held (λ h rest is. refl))
          ∙ ap (λ v. flat_map (said_of_line misread_finding (last_number lines)) v) (sym (others-after [] lines tt))
          ∙ ap (λ v. flat_map (said_of_line misread_finding (last_number v)) (lines_of_pairs groups)) (sym all);
    }

pub ends-of : (e : Encoding) (source : List ℕ) (f : Encoding) (body : List ℕ) (ends : List Finding)
    → byte_order_mark e source ≡ record { encoding = f; body = body }
    → ends_from misread_finding false 0 (held_lines_of f body) ≡ ends
    → AreMisreadEnds misread_finding e source ends
ends-of e source f body ends is same =
    subst (AreMisreadEnds misread_finding e source)
    (ap (λ v. let w : InForce = v in ends_from misread_finding false 0 (held_lines_of w.encoding w.body)) is ∙ same) (ends-are e source)
