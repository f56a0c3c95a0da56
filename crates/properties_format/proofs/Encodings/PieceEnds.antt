-- How far a piece depends on what follows it.
use Rattle.std.proofs.Common.{rules, ◌≡◌, ℕ, ◌%◌, ◌<◌, true, false, List, [], ◌∷◌, ◌++◌, length, refl, ap, arith, length-append}
use Rattle.properties_format.specs.Text.{replacement, Piece, piece}
use Rattle.properties_format.specs.Utf8.{tail, IsIn, NextBreaks, IsUtf8Piece, whole, stray, broken}
use Rattle.properties_format.specs.Utf16.{is_high, is_low, low_first, high_first, IsUtf16Piece, pair, plain, low_alone, high_alone, high_last, byte_last, both_last}
use Rattle.properties_format.specs.Encoding.{Encoding, windows_1252, utf_8, utf_16le, utf_16be, IsPiece, IsAligned, ascii_bytes}
use Rattle.properties_format.proofs.Encodings.Utf8Rows.{next-tail}
use Rattle.properties_format.proofs.Encodings.Utf8Pieces.{begins-front}

abbrev IsEven : List ℕ → Type 0
IsEven x = length x % 2 ≡ 0

-- ---- More bytes after the piece.

-- In UTF-8, a piece that a byte follows stays one with more bytes after it.
utf_8-more : (p : Piece) (b : ℕ) (rest y : List ℕ) → IsUtf8Piece p (b ∷ rest) → IsUtf8Piece p (b ∷ rest ++ y)
utf_8-more p b rest y (whole h e) = whole h e
utf_8-more p b rest y (stray a e h) = stray a e h
utf_8-more p b rest y (broken a bs e h k) = broken a bs e h k

-- In UTF-16, a piece that a byte follows stays one with more bytes after it.
utf_16-more : (unit : ℕ → ℕ → ℕ) (p : Piece) (b : ℕ) (rest y : List ℕ) → IsUtf16Piece unit p (b ∷ rest) → IsUtf16Piece unit p (b ∷ rest ++ y)
utf_16-more unit p b rest y (pair a1 a2 a3 a4 e h k) = pair a1 a2 a3 a4 e h k
utf_16-more unit p b rest y (plain a1 a2 e h k) = plain a1 a2 e h k
utf_16-more unit p b rest y (low_alone a1 a2 e h) = low_alone a1 a2 e h
utf_16-more unit p b rest y (high_alone a1 a2 c d more e h s k) = high_alone a1 a2 c d (more ++ y) e h (ap (λ v. v ++ y) s) k
utf_16-more unit p b rest y (high_last a1 a2 e h s) = absurd (cc)
utf_16-more unit p b rest y (byte_last a1 e s) = absurd (cc)
utf_16-more unit p b rest y (both_last a1 a2 a3 e h s) = absurd (cc)

-- A piece that a byte follows stays one, whatever comes after that byte.
pub piece-more : (e : Encoding) (p : Piece) (rest y : List ℕ) → 0 < length rest → IsPiece e p rest → IsPiece e p (rest ++ y)
piece-more e p [] y l h = absurd (omega arith)
piece-more windows_1252 p (b ∷ rest) y l h = h
piece-more utf_8 p (b ∷ rest) y l h = utf_8-more p b rest y h
piece-more utf_16le p (b ∷ rest) y l h = utf_16-more low_first p b rest y h
piece-more utf_16be p (b ∷ rest) y l h = utf_16-more high_first p b rest y h

-- ---- Fewer bytes after the piece.

-- In UTF-8, a piece stays one if fewer bytes follow it.
utf_8-less : (p : Piece) (rest z : List ℕ) → IsUtf8Piece p (rest ++ z) → IsUtf8Piece p rest
utf_8-less p rest z (whole h e) = whole h e
utf_8-less p rest z (stray a e h) = stray a e h
utf_8-less p rest z (broken a bs e h k) = broken a bs e h (search (rules))

-- The front of an empty list is empty.
pub no-front : {A : Type 0} (rest z : List A) → rest ++ z ≡ [] → rest ≡ []
no-front [] z h = refl
no-front (b ∷ rest) z h = cc

-- So is its rest.
pub none-right : {A : Type 0} (x y : List A) → x ++ y ≡ [] → y ≡ []
none-right [] y h = h
none-right (c ∷ x) y h = absurd (cc)

-- A high surrogate before a unit that isn't low stays unpaired if fewer units follow it.
alone-less : (unit : ℕ → ℕ → ℕ) (a b c d : ℕ) (more rest z : List ℕ) → IsEven rest → is_high (unit a b) ≡ true → rest ++ z ≡ c ∷ d ∷ more
    → is_low (unit c d) ≡ false → IsUtf16Piece unit (piece (a ∷ b ∷ []) replacement) rest
alone-less unit a b c d more [] z l h s k = high_last a b refl h refl
alone-less unit a b c d more (x1 ∷ []) z l h s k = absurd (omega arith)
alone-less unit a b c d more (x1 ∷ x2 ∷ rest) z l h s k =
    let e : x1 ≡ c = cc in
    let f : x2 ≡ d = cc in
    high_alone a b x1 x2 rest refl h refl (rw (e, f) k)

-- In UTF-16, a piece stays one if fewer units follow it.
utf_16-less : (unit : ℕ → ℕ → ℕ) (p : Piece) (rest z : List ℕ) → IsEven rest → IsUtf16Piece unit p (rest ++ z) → IsUtf16Piece unit p rest
utf_16-less unit p rest z l (pair a1 a2 a3 a4 e h k) = pair a1 a2 a3 a4 e h k
utf_16-less unit p rest z l (plain a1 a2 e h k) = plain a1 a2 e h k
utf_16-less unit p rest z l (low_alone a1 a2 e h) = low_alone a1 a2 e h
utf_16-less unit p rest z l (high_alone a1 a2 c d more e h s k) = rw e (alone-less unit a1 a2 c d more rest z l h s k)
utf_16-less unit p rest z l (high_last a1 a2 e h s) = high_last a1 a2 e h (no-front rest z s)
utf_16-less unit p rest z l (byte_last a1 e s) = byte_last a1 e (no-front rest z s)
utf_16-less unit p rest z l (both_last a1 a2 a3 e h s) = both_last a1 a2 a3 e h (no-front rest z s)

-- In each encoding, a piece stays one if only whole units from the front of what follows come after it.
pub piece-less : (e : Encoding) (p : Piece) (rest z : List ℕ) → IsAligned e rest → IsPiece e p (rest ++ z) → IsPiece e p rest
piece-less windows_1252 p rest z l h = h
piece-less utf_8 p rest z l h = utf_8-less p rest z h
piece-less utf_16le p rest z l h = utf_16-less low_first p rest z l h
piece-less utf_16be p rest z l h = utf_16-less high_first p rest z l h

-- ---- Boundaries of units.

-- An empty list ends at a unit's boundary.
pub aligned-nil : (e : Encoding) → IsAligned e []
aligned-nil e = grind (arith)

-- If whole units come first and the whole ends at a unit's boundary, so does the second part.
pub aligned-back : (e : Encoding) (x y : List ℕ) → IsAligned e x → IsAligned e (x ++ y) → IsAligned e y
aligned-back e x y h k = search (rules, length-append)

-- A piece that a byte follows ends at a unit's boundary.
pub piece-aligned : (e : Encoding) (p : Piece) (rest : List ℕ) → 0 < length rest → IsPiece e p rest → IsAligned e p.bytes
piece-aligned e p rest h k = grind (arith)

-- ---- Bytes before which any piece ends.

abbrev NotTail : List ℕ → Type 0
NotTail [] = Unit {0}
NotTail (c ∷ y) = ¬ IsIn tail c

abbrev NotLow : (ℕ → ℕ → ℕ) → List ℕ → Type 0
NotLow unit [] = Unit {0}
NotLow unit (c ∷ []) = ⊥
NotLow unit (c ∷ d ∷ y) = is_low (unit c d) ≡ false

-- In UTF-8, the first byte isn't a tail byte. In UTF-16, the first unit is whole and isn't a low surrogate.
abbrev pub BeginsAnew : Encoding → List ℕ → Type 0
BeginsAnew windows_1252 y = Unit {0}
BeginsAnew utf_8 y = NotTail y
BeginsAnew utf_16le y = NotLow low_first y
BeginsAnew utf_16be y = NotLow high_first y

-- A first byte that isn't a tail byte breaks every sequence off.
breaks-anew : (b : ℕ) (bs y : List ℕ) → NotTail y → NextBreaks (b ∷ bs) y
breaks-anew b bs [] h = tt
breaks-anew b bs (c ∷ y) h = λ k. let f = begins-front b (bs ++ c ∷ []) k in h (next-tail b f.0 bs c f.1 f.2)

-- In UTF-8, a last piece stays one before such bytes.
utf_8-anew : (p : Piece) (y : List ℕ) → NotTail y → IsUtf8Piece p [] → IsUtf8Piece p y
utf_8-anew p y l (whole h e) = whole h e
utf_8-anew p y l (stray a e h) = stray a e h
utf_8-anew p y l (broken a bs e h k) = broken a bs e h (breaks-anew a bs y l)

-- A high surrogate stays unpaired before such bytes.
high-anew : (unit : ℕ → ℕ → ℕ) (a b : ℕ) (y : List ℕ) → NotLow unit y → is_high (unit a b) ≡ true → IsUtf16Piece unit (piece (a ∷ b ∷ []) replacement) y
high-anew unit a b [] l h = high_last a b refl h refl
high-anew unit a b (c ∷ []) l h = absurd l
high-anew unit a b (c ∷ d ∷ y) l h = high_alone a b c d y refl h refl l

-- In UTF-16, a last piece of whole units stays one before such bytes.
utf_16-anew : (unit : ℕ → ℕ → ℕ) (p : Piece) (y : List ℕ) → NotLow unit y → IsEven p.bytes → IsUtf16Piece unit p [] → IsUtf16Piece unit p y
utf_16-anew unit p y l m (pair a1 a2 a3 a4 e h k) = pair a1 a2 a3 a4 e h k
utf_16-anew unit p y l m (plain a1 a2 e h k) = plain a1 a2 e h k
utf_16-anew unit p y l m (low_alone a1 a2 e h) = low_alone a1 a2 e h
utf_16-anew unit p y l m (high_alone a1 a2 c d more e h s k) = absurd (cc)
utf_16-anew unit p y l m (high_last a1 a2 e h s) = rw e (high-anew unit a1 a2 y l h)
utf_16-anew unit p y l m (byte_last a1 e s) = let q : length p.bytes ≡ 1 = ap (λ v. length v.bytes) e in absurd (omega arith)
utf_16-anew unit p y l m (both_last a1 a2 a3 e h s) = let q : length p.bytes ≡ 3 = ap (λ v. length v.bytes) e in absurd (omega arith)

-- A last piece stays one before such bytes.
pub piece-anew : (e : Encoding) (p : Piece) (y : List ℕ) → BeginsAnew e y → IsAligned e p.bytes → IsPiece e p [] → IsPiece e p y
piece-anew windows_1252 p y l m h = h
piece-anew utf_8 p y l m h = utf_8-anew p y l h
piece-anew utf_16le p y l m h = utf_16-anew low_first p y l m h
piece-anew utf_16be p y l m h = utf_16-anew high_first p y l m h

-- The bytes of an ASCII character are such bytes.
pub ascii-anew : (e : Encoding) (c : ℕ) (y : List ℕ) → c < 0x80 → BeginsAnew e (ascii_bytes e c ++ y)
ascii-anew e c y h = grind (arith)
