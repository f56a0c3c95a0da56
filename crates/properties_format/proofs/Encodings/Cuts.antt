-- Where bytes may be cut so that their pieces are the pieces of the parts.
use Rattle.std.proofs.Common.{rules, ◌≡◌, ℕ, ◌<◌, List, [], ◌∷◌, ◌++◌, length, refl, sym, ap, ap₂, ◌∙◌, subst, arith, append_assoc, append-nil}
use Rattle.properties_format.specs.Text.{Piece, piece, piece_characters}
use Rattle.properties_format.specs.Encoding.{Encoding, IsPiece, IsPieces, IsAligned, ascii_bytes}
use Rattle.properties_format.specs.Computed.Encoding.{pieces_of}
use Rattle.properties_format.proofs.Encodings.Pieces.{pieces_of-meets, pieces_of-only}
use Rattle.properties_format.proofs.Encodings.Characters.{pieces_of-ascii, piece-ascii}
use Rattle.properties_format.proofs.Encodings.PieceEnds.{piece-more, piece-less, piece-aligned, piece-anew, aligned-nil, aligned-back, BeginsAnew, ascii-anew}

-- ---- Bytes added at the end.

-- the last piece, if there is one, stays a piece before these bytes
abbrev pub LastStaysPiece : Encoding → List Piece → List ℕ → Type 0
LastStaysPiece e [] y = Unit {0}
LastStaysPiece e (p ∷ []) y = IsPiece e p y
LastStaysPiece e (p ∷ q ∷ ps) y = LastStaysPiece e (q ∷ ps) y

-- Bytes with a piece aren't empty.
pieces-length : (e : Encoding) (d : List ℕ) (p : Piece) (ps : List Piece) → IsPieces e d (p ∷ ps) → 0 < length d
pieces-length e d p ps (rest, s, h, k) = grind (arith)

-- If the last piece stays a piece before the bytes after it, the pieces of both are the pieces of the first followed by
-- those of the second.
pub pieces-append : (e : Encoding) (x y : List ℕ) (ps qs : List Piece) → IsPieces e x ps → LastStaysPiece e ps y → IsPieces e y qs
    → IsPieces e (x ++ y) (ps ++ qs)
pieces-append e x y [] qs h l k = rw h k
pieces-append e x y (p ∷ []) qs (rest, s, h, m) l k = grind (arith, append-nil)
pieces-append e x y (p ∷ q ∷ ps) qs (rest, s, h, m) l k =
    (rest ++ y, ap (λ v. v ++ y) s ∙ append_assoc p.bytes rest y, piece-more e p rest y (pieces-length e rest q ps m) h, pieces-append e rest y (q ∷ ps) qs m l k)

-- The pieces of bytes that end in such a piece, followed by those of the bytes after them.
pub pieces_of-append : (e : Encoding) (x y : List ℕ) → LastStaysPiece e (pieces_of e x) y → pieces_of e (x ++ y) ≡ pieces_of e x ++ pieces_of e y
pieces_of-append e x y h = sym (pieces_of-only e (x ++ y) _ (pieces-append e x y (pieces_of e x) (pieces_of e y) (pieces_of-meets e x) h (pieces_of-meets e y)))

-- A last piece stays one before bytes that begin with a new piece.
last-anew : (e : Encoding) (x y : List ℕ) (ps : List Piece) → BeginsAnew e y → IsAligned e x → IsPieces e x ps → LastStaysPiece e ps y
last-anew e x y [] h a k = tt
last-anew e x y (p ∷ []) h a (rest, s, m, t) = grind (arith, piece-anew)
last-anew e x y (p ∷ q ∷ ps) h a (rest, s, m, t) =
    let b = piece-aligned e p rest (pieces-length e rest q ps t) m in
    last-anew e rest y (q ∷ ps) h (aligned-back e p.bytes rest b (rw s at a)) t

-- The pieces of whole units, followed by those of bytes that begin with a new piece.
pub pieces_of-anew : (e : Encoding) (x y : List ℕ) → IsAligned e x → BeginsAnew e y → pieces_of e (x ++ y) ≡ pieces_of e x ++ pieces_of e y
pieces_of-anew e x y a h = pieces_of-append e x y (last-anew e x y (pieces_of e x) h a (pieces_of-meets e x))

-- ---- A cut before any piece.

-- The bytes x and y, cut between these pieces.
pub record IsCut (e : Encoding) (d x y : List ℕ) (ps qs : List Piece) : Type 0 where
  pub joins : d ≡ x ++ y
  pub aligned : IsAligned e x
  pub front : IsPieces e x ps
  pub back : IsPieces e y qs

abbrev pub Cut : Encoding → List ℕ → List Piece → List Piece → Type 0
Cut e d ps qs = (x : List ℕ) × (y : List ℕ) × IsCut e d x y ps qs

-- Bytes may be cut before any of their pieces.
pub pieces-cut : (e : Encoding) (d : List ℕ) (ps : List Piece) (q : Piece) (qs : List Piece) → IsPieces e d (ps ++ q ∷ qs) → Cut e d ps (q ∷ qs)
pieces-cut e d [] q qs h = ([], d, record { joins = refl; aligned = aligned-nil e; front = refl; back = h })
pieces-cut e d (p ∷ ps) q qs (rest, s, h, k) =
    let c = pieces-cut e rest ps q qs k in
    (p.bytes ++ c.0, c.1, search (rules, append_assoc, piece-less))

-- ---- A cut at an ASCII character, such as a line ending.

-- The characters of two lists of pieces.
pub characters-append : (ps qs : List Piece) → piece_characters (ps ++ qs) ≡ piece_characters ps ++ piece_characters qs
characters-append [] qs = refl
characters-append (p ∷ ps) qs = ap (λ v. p.character ∷ v) (characters-append ps qs)

-- The bytes of an ASCII character, at a unit's boundary, separate the pieces before them from those after them.
pub pieces_of-cut_ascii : (e : Encoding) (c : ℕ) (x y : List ℕ) → c < 0x80 → IsAligned e x
    → pieces_of e (x ++ (ascii_bytes e c ++ y)) ≡ pieces_of e x ++ piece (ascii_bytes e c) c ∷ pieces_of e y
pieces_of-cut_ascii e c x y h a = simp (pieces_of-anew, ascii-anew, pieces_of-ascii)

-- They separate the characters before them from those after them.
pub characters-cut_ascii : (e : Encoding) (c : ℕ) (x y : List ℕ) → c < 0x80 → IsAligned e x
    → piece_characters (pieces_of e (x ++ (ascii_bytes e c ++ y))) ≡ piece_characters (pieces_of e x) ++ c ∷ piece_characters (pieces_of e y)
characters-cut_ascii e c x y h a = simp (pieces_of-cut_ascii, characters-append)

-- the position of a character among the pieces
abbrev Place : List Piece → List ℕ → ℕ → List ℕ → Type 0
Place ps t c s = (qs : List Piece) × (p : Piece) × (rs : List Piece) × (ps ≡ qs ++ p ∷ rs) × (piece_characters qs ≡ t) × (p.character ≡ c) × (piece_characters rs ≡ s)

-- A character among those of pieces is the character of one of them.
place-of : (ps : List Piece) (t : List ℕ) (c : ℕ) (s : List ℕ) → piece_characters ps ≡ t ++ c ∷ s → Place ps t c s
place-of [] [] c s h = absurd (cc)
place-of [] (b ∷ t) c s h = absurd (cc)
place-of (p ∷ ps) [] c s h =
    let k : p.character ≡ c = cc in
    let l : piece_characters ps ≡ s = cc in
    ([], p, ps, refl, refl, k, l)
place-of (p ∷ ps) (b ∷ t) c s h =
    let k : p.character ≡ b = cc in
    let l : piece_characters ps ≡ t ++ c ∷ s = cc in
    let m = place-of ps t c s l in
    (p ∷ m.0, m.1, m.2, ap (λ v. p ∷ v) {y = m.0 ++ m.1 ∷ m.2} m.3, ap₂ (λ v w. v ∷ w) k m.4, m.5, m.6)

-- The bytes around those of an ASCII character, and what they decode to.
pub record IsCutAt (e : Encoding) (d : List ℕ) (t : List ℕ) (c : ℕ) (s : List ℕ) (x y : List ℕ) : Type 0 where
  pub joins : d ≡ x ++ (ascii_bytes e c ++ y)
  pub aligned : IsAligned e x
  pub front : piece_characters (pieces_of e x) ≡ t
  pub back : piece_characters (pieces_of e y) ≡ s

-- A decoded ASCII character was decoded from its own bytes, at a unit's boundary, and from nothing else.
pub cut-at_ascii : (e : Encoding) (d t : List ℕ) (c : ℕ) (s : List ℕ) → c < 0x80 → piece_characters (pieces_of e d) ≡ t ++ c ∷ s
    → (x : List ℕ) × (y : List ℕ) × IsCutAt e d t c s x y
cut-at_ascii e d t c s l h = found (place-of (pieces_of e d) t c s h)
  where
    at-cut : (x y : List ℕ) (qs : List Piece) (p : Piece) (rs : List Piece) → piece_characters qs ≡ t → p.character ≡ c → piece_characters rs ≡ s
        → IsCut e d x y qs (p ∷ rs) → (x : List ℕ) × (y : List ℕ) × IsCutAt e d t c s x y
    at-cut x y qs p rs ht hc hs cut = grind (arith, piece-ascii, pieces_of-only)

    found : Place (pieces_of e d) t c s → (x : List ℕ) × (y : List ℕ) × IsCutAt e d t c s x y
    found m =
        let P : List Piece → Type 0 = IsPieces e d in
        let k = pieces-cut e d m.0 m.1 m.2 (subst P m.3 (pieces_of-meets e d)) in
        at-cut k.0 k.1 m.0 m.1 m.2 m.4 m.5 m.6 k.2
