-- Bytes have no more line endings than there are of them, so a slice never has as many lines as there are numbers.
use Rattle.std.proofs.Common.{◌≡◌, ℕ, ◌+◌, ◌^◌, ◌≤◌, List, [], ◌∷◌, ◌++◌, length, refl, ap, inl, inr, append-nil, length-append, length-drop, arith}
use Rattle.std.proofs.lemmas.Bool.{cases_Bool}
use Rattle.properties_format.specs.Text.{LineEnding, lf, cr, crlf, line_ending_text, Piece, piece_characters}
use Rattle.properties_format.specs.Encoding.{Encoding, IsPieces, begins_with, byte_order_mark, utf_8_bom, utf_16be_bom, utf_16le_bom}
use Rattle.properties_format.specs.Lines.{Ended, Line, Lines, IsLines, fault, line_endings, numbered, put_together}
use Rattle.properties_format.specs.Items.{last_entries}
use Rattle.properties_format.specs.ItemsToCome.{start, in_force, AreFurtherLines, PassesAll}
use Rattle.properties_format.specs.Computed.Encoding.{pieces_of}
use Rattle.properties_format.specs.Computed.ItemsToCome.{text_to_come}
use Rattle.properties_format.specs.Computed.Lines.{lines_of}
use Rattle.properties_format.proofs.Encodings.Pieces.{piece-length, pieces_of-meets}
use Rattle.properties_format.proofs.ItemsToCome.Unique.{rest_of_end-meets}
use Rattle.properties_format.proofs.Lines.Meets.{lines_of-meets}

-- ---- line endings and bytes

ending-length : (by : LineEnding) → 1 ≤ length (line_ending_text by)
ending-length lf = omega arith
ending-length cr = omega arith
ending-length crlf = omega arith

-- each line ending is a character at least
ends-within : (ls : List Ended) (last : List ℕ) → length ls ≤ length (put_together ls last)
ends-within [] last = omega arith
ends-within (l ∷ ls) last =
    let rest = put_together ls last in
    let others = ends-within ls last in
    let one = ending-length l.by in
    let line = length-append l.text (line_ending_text l.by ++ rest) in
    let end = length-append (line_ending_text l.by) rest in
    omega arith

text-ends : (text : List ℕ) (lines : Lines) → IsLines text lines → line_endings lines ≤ length text
text-ends text lines h =
    let within = ends-within lines.ended lines.last in
    let same : length text ≡ length (put_together lines.ended lines.last) = ap length h.text in
    omega arith

-- each character is of a byte at least
characters-within : (e : Encoding) (d : List ℕ) (ps : List Piece) → IsPieces e d ps → length (piece_characters ps) ≤ length d
characters-within e d [] h = omega arith
characters-within e d (p ∷ ps) (rest, same, is, others) =
    let further = characters-within e rest ps others in
    let shorter = piece-length e p rest is in
    let whole : length d ≡ length (p.bytes ++ rest) = ap length same in
    omega arith

-- what comes after a byte order mark is no longer than all of it
body-within : (e : Encoding) (b : List ℕ) → length (byte_order_mark e b).body ≤ length b
body-within e b =
    let two = length-drop 2 b in
    let three = length-drop 3 b in
    elim (cases_Bool (begins_with utf_8_bom b)) [
      | inl k ↦ rw k (omega arith)
      | inr k ↦ rw k (elim (cases_Bool (begins_with utf_16be_bom b)) [
        | inl l ↦ rw l (omega arith)
        | inr l ↦ rw l (elim (cases_Bool (begins_with utf_16le_bom b)) [
          | inl m ↦ rw m (omega arith)
          | inr m ↦ rw m (omega arith)
        ])
      ])
    ]

-- ---- the lines of a body in UTF-8

-- ---- the lines that a reader passes

-- Where a fault comes after so many line endings, there are as many bytes.
ends-passed : (e : Encoding) (bytes : List ℕ) (n : ℕ) (lines : List Line) → AreFurtherLines (start e) (bytes ++ []) fault lines (last_entries n fault)
    → n ≤ length bytes
ends-passed e bytes n lines h =
    let m = byte_order_mark e (bytes ++ []) in
    let last = h.are_last in
    let same : n + 1 ≡ (start e).passed + line_endings h.all + 1 = cc in
    let number : n + 1 ≡ 0 + line_endings h.all + 1 = same in
    let ends = text-ends h.text h.all h.divided in
    let text : length (piece_characters h.pieces) ≡ length h.text = ap length h.after_end in
    let decoded = characters-within m.encoding m.body h.pieces h.are_pieces in
    let body = body-within e (bytes ++ []) in
    let whole : length (bytes ++ []) ≡ length bytes = ap length (append-nil bytes) in
    omega arith

-- Bytes that hold as many lines as there are numbers are as many, but for one.
pub few-passed : (e : Encoding) (bytes : List ℕ) → PassesAll (start e) bytes → 2 ^ 64 ≤ length bytes + 1
few-passed e bytes h = elim (cases_Bool h.last.is_done) [
  | inl k ↦ elim (h.passes.first.others [] fault [] [] (inl (k, refl, refl))) [
    | inl x ↦ let done = x.0 in absurd (cc)
    | inr x ↦ let none = x.1.are_last in absurd (cc)
  ]
  | inr k ↦
      let f = in_force h.last [] in
      let all = lines_of (text_to_come h.last []) in
      let further = numbered h.last.passed all.ended all.last fault in
      let last = last_entries (h.last.passed + line_endings all) fault in
      let come : AreFurtherLines h.last [] fault further last = record {
        pieces = pieces_of f.encoding f.body;
        text = text_to_come h.last [];
        all = all;
        are_pieces = pieces_of-meets f.encoding f.body;
        after_end = rest_of_end-meets h.last.after_cr (piece_characters (pieces_of f.encoding f.body));
        divided = lines_of-meets (text_to_come h.last []);
        are_lines = refl;
        are_last = refl;
      } in
      elim (h.passes.first.others [] fault further last (inr (k, come))) [
        | inl x ↦ let done = x.0 in absurd (cc)
        | inr x ↦
            let within = ends-passed e bytes (h.last.passed + line_endings all) (h.passes.lines ++ further) x.1 in
            let passed = h.passed in
            omega arith
      ]
]
