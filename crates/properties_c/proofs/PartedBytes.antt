-- The text of a source in two parts, and its groups.
use Rattle.std.proofs.Common.{arith, ◌≡◌, ℕ, ◌<◌, ◌==◌, true, false, List, [], ◌∷◌, ◌++◌, refl, ap, ap₂, sym, subst, ◌∙◌, inl, inr, append_assoc, append-nil, lit<}
use Rattle.std.proofs.lemmas.Bool.{cases_Bool}
use Rattle.properties_editing.proofs.LastPairs.{cr-last}
use Rattle.properties_format.specs.Text.{line_feed, carriage_return, backslash, is_line_ending, line_ending_text, Piece, piece_characters}
use Rattle.properties_format.specs.Encoding.{Encoding, windows_1252, utf_8, utf_16le, utf_16be, IsPieces, IsAligned, ascii_bytes, byte_order_mark, begins_like_bom}
use Rattle.properties_format.specs.Lines.{Ended, put_together, is_open, without_last}
use Rattle.properties_format.specs.{Computed.Encoding.pieces_of, Computed.Encoding.decoded_of, Computed.Lines.ends_in_cr, Computed.Lines.lines_of}
use Rattle.properties_c.specs.Parts.{EndsIn, IsLineEnd}
use Rattle.properties_format.proofs.{Encodings.ByteOrderMarks.followed, Encodings.ByteOrderMarks.byte_order_mark-append}
use Rattle.properties_format.proofs.{Encodings.ByteOrderMarks.byte_order_mark-none, Encodings.Characters.pieces_of-ascii, Encodings.Characters.piece-ascii}
use Rattle.properties_format.proofs.{Encodings.Cuts.characters-append, Encodings.Cuts.pieces-cut, Encodings.Cuts.pieces_of-cut_ascii}
use Rattle.properties_format.proofs.{Encodings.Pieces.pieces_of-meets, Groups.Open.open-ends, Lines.Meets.lines_of-meets, ReadBack.Unmarked.byte_order_mark-cut}
use Rattle.properties_c.proofs.PartedTexts.{ArePartGroups, part-groups}

-- ---- the byte order mark

-- An ASCII byte after the front changes nothing of its byte order mark.
mark-stays : (e : Encoding) (front : List ℕ) (b : ℕ) (y : List ℕ) → b < 0x80 → byte_order_mark e (front ++ b ∷ y) ≡ followed (byte_order_mark e front) (b ∷ y)
mark-stays e front b y h = elim (cases_Bool (begins_like_bom front)) [
  | inl k ↦ byte_order_mark-append e front (b ∷ y) (grind (arith))
  | inr k ↦
      byte_order_mark-none e (front ++ b ∷ y) (byte_order_mark-cut front b y h ∙ k)
      ∙ sym (ap (λ v. followed v (b ∷ y)) (byte_order_mark-none e front k))
]

-- The bytes of an ASCII character begin with such a byte.
ascii-first : (e : Encoding) (c : ℕ) (y : List ℕ) → c < 0x80 → (b : ℕ) × (z : List ℕ) × (ascii_bytes e c ++ y ≡ b ∷ z) × (b < 0x80)
ascii-first utf_16le c y h = (c, 0 ∷ y, refl, h)
ascii-first utf_16be c y h = (0, c ∷ y, refl, lit< tt)
ascii-first windows_1252 c y h = (c, y, refl, h)
ascii-first utf_8 c y h = (c, y, refl, h)

pub mark-part : (e : Encoding) (front : List ℕ) (f : Encoding) (c : ℕ) (y : List ℕ) → c < 0x80
    → byte_order_mark e (front ++ (ascii_bytes f c ++ y)) ≡ followed (byte_order_mark e front) (ascii_bytes f c ++ y)
mark-part e front f c y h =
    let b = ascii-first f c y h in
    ap (λ v. byte_order_mark e (front ++ v)) b.2 ∙ mark-stays e front b.0 b.1 b.3 ∙ sym (ap (followed (byte_order_mark e front)) b.2)

-- ---- texts

decoded-part : (e : Encoding) (front : List ℕ) (c : ℕ) (y : List ℕ) → c < 0x80 → (let f = byte_order_mark e front in IsAligned f.encoding f.body)
    → (let f = byte_order_mark e front in
    decoded_of e (front ++ (ascii_bytes f.encoding c ++ y)) ≡ decoded_of e front ++ c ∷ piece_characters (pieces_of f.encoding y))
decoded-part e front c y h aligned =
    let f = byte_order_mark e front in
    ap (λ v. piece_characters (pieces_of v.encoding v.body)) (mark-part e front f.encoding c y h)
    ∙ ap piece_characters (pieces_of-cut_ascii f.encoding c f.body y h aligned) ∙ characters-append (pieces_of f.encoding f.body) _

decoded-rest : (e : Encoding) (c : ℕ) (y : List ℕ) → c < 0x80 → decoded_of e (ascii_bytes e c ++ y) ≡ c ∷ piece_characters (pieces_of e y)
decoded-rest e c y h =
    ap (λ v. piece_characters (pieces_of v.encoding v.body)) (mark-part e [] e c y h) ∙ ap piece_characters (pieces_of-ascii e c y h)

-- ---- the last character

last-piece : (ps : List Piece) (x : List ℕ) (c : ℕ) → piece_characters ps ≡ x ++ c ∷ []
    → (qs : List Piece) × (p : Piece) × (ps ≡ qs ++ p ∷ []) × (p.character ≡ c)
last-piece [] [] c h = absurd (cc)
last-piece [] (a ∷ x) c h = absurd (cc)
last-piece (p ∷ []) [] c h = ([], p, refl, cc)
last-piece (p ∷ []) (a ∷ []) c h = absurd (cc)
last-piece (p ∷ []) (a ∷ b ∷ x) c h = absurd (cc)
last-piece (p ∷ q ∷ ps) [] c h = absurd (cc)
last-piece (p ∷ q ∷ ps) (a ∷ x) c h =
    let rest = last-piece (q ∷ ps) x c (cc) in
    (p ∷ rest.0, rest.1, ap (λ v. p ∷ v) rest.2, rest.3)

-- A text that ends in an ASCII character is that of bytes that end in it.
ends-in : (e : Encoding) (d x : List ℕ) (c : ℕ) → c < 0x80 → piece_characters (pieces_of e d) ≡ x ++ c ∷ [] → EndsIn e c d
ends-in e d x c h is =
    let last = last-piece (pieces_of e d) x c is in
    let cut = pieces-cut e d last.0 last.1 [] (subst (IsPieces e d) last.2 (pieces_of-meets e d)) in
    let joins = cut.2.joins in
    let back = cut.2.back in
    let small : last.1.character < 0x80 = rw last.3 h in
    let bytes : last.1.bytes ≡ ascii_bytes e c = piece-ascii e last.1 back.0 back.2 small ∙ ap (ascii_bytes e) last.3 in
    (cut.0, joins ∙ ap (λ v. cut.0 ++ v) (back.1 ∙ ap₂ (λ v w. v ++ w) bytes back.3 ∙ append-nil (ascii_bytes e c)))

together-last : (ls : List Ended) (last : List ℕ) → (before : List ℕ) × (put_together ls last ≡ before ++ last)
together-last [] last = ([], refl)
together-last (l ∷ ls) last =
    let rest = together-last ls last in
    let by = line_ending_text l.by in
    (l.text ++ (by ++ rest.0), ap (λ v. l.text ++ (by ++ v)) rest.1 ∙ simp append_assoc)

ends-open : (x : List ℕ) → is_open (lines_of x).last ≡ true → (y : List ℕ) × (x ≡ y ++ backslash ∷ [])
ends-open x h =
    let last = (lines_of x).last in
    let rest = together-last (lines_of x).ended last in
    let whole = (lines_of-meets x).text ∙ rest.1 ∙ ap (λ v. rest.0 ++ v) (open-ends last h) in
    (rest.0 ++ without_last last, whole ∙ sym (append_assoc rest.0 (without_last last) (backslash ∷ [])))

-- ---- the groups

-- The text of two such parts, and its groups.
pub record AreTwoParts (e : Encoding) (front rest : List ℕ) : Type 0 where
  pub text : decoded_of e (front ++ rest) ≡ decoded_of e front ++ decoded_of (byte_order_mark e front).encoding rest
  pub groups : ArePartGroups (decoded_of e front) (decoded_of (byte_order_mark e front).encoding rest)

module _ (e : Encoding) (front : List ℕ) where
  two-by : (c : ℕ) (rest more after : List ℕ) → (let f = byte_order_mark e front in IsAligned f.encoding f.body)
      → (let f = byte_order_mark e front in ¬ EndsIn f.encoding backslash f.body) → c < 0x80 → is_line_ending c ≡ true
      → (let f = byte_order_mark e front in EndsIn f.encoding carriage_return f.body → (c == line_feed) ≡ false)
      → rest ≡ ascii_bytes (byte_order_mark e front).encoding c ++ more → AreTwoParts e front (rest ++ after)
  two-by c rest more after aligned closed small ends whole is =
      let f = byte_order_mark e front in
      let division : rest ++ after ≡ ascii_bytes f.encoding c ++ (more ++ after) =
      ap (λ v. v ++ after) is ∙ append_assoc (ascii_bytes f.encoding c) more after in
      let second = decoded-rest f.encoding c (more ++ after) small in
      let x = decoded_of e front in
      let shut : is_open (lines_of x).last ≡ false = elim (cases_Bool (is_open (lines_of x).last)) [
        | inl k ↦ let b = ends-open x k in absurd (closed (ends-in f.encoding f.body b.0 backslash (lit< tt) b.1))
        | inr k ↦ k
      ] in
      let entire : ends_in_cr x ≡ true → (c == line_feed) ≡ false =
      λ k. let b = cr-last x k in whole (ends-in f.encoding f.body b.0 carriage_return (lit< tt) b.1) in
      rw division (record {
        text = decoded-part e front c (more ++ after) small aligned ∙ ap (λ v. x ++ v) (sym second);
        groups = subst (ArePartGroups x) (sym second) (part-groups x c (piece_characters (pieces_of f.encoding (more ++ after))) ends entire shut);
      })

  pub two-parts : (rest after : List ℕ) → (let f = byte_order_mark e front in IsLineEnd f.encoding f.body rest) → AreTwoParts e front (rest ++ after)
  two-parts rest after h = elim h.ending [
    | inl b ↦ two-by line_feed rest b.0 after h.aligned h.closed (lit< tt) refl (λ k. absurd (h.whole b k)) b.1
    | inr b ↦ two-by carriage_return rest b.0 after h.aligned h.closed (lit< tt) refl (λ k. refl) b.1
  ]
