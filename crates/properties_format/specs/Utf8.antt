-- UTF-8: well-formed sequences, and the replacement of others.
-- Source: The Unicode Standard, table 3-7 (well-formed byte sequences) and section 3.9 (U+FFFD for maximal subparts);
-- WHATWG Encoding Standard, section 8.1.1.
use Rattle.std.specs.Prelude.{◌≡◌, ℕ, ◌+◌, ◌*◌, ◌%◌, ◌^◌, ◌≤◌, ◌⊎◌, List, [], ◌∷◌, ◌++◌}
use Rattle.properties_format.specs.Text.{Piece, piece, replacement}

-- a range of bytes, both ends included
pub record Range : Type 0 where
  pub least : ℕ
  pub most : ℕ

-- the range from one byte to another, both included
abbrev pub from_to : ℕ → ℕ → Range
from_to least most = record { least = least; most = most }

-- the range of most bytes after the first
abbrev pub tail : Range
tail = from_to 0x80 0xbf

-- the rows of the table: the ranges of the first byte and of the bytes after it
abbrev pub well_formed_rows : List (List Range)
well_formed_rows =
    (from_to 0x00 0x7f ∷ [])
    ∷ (from_to 0xc2 0xdf ∷ tail ∷ [])
    ∷ (from_to 0xe0 0xe0 ∷ from_to 0xa0 0xbf ∷ tail ∷ [])
    ∷ (from_to 0xe1 0xec ∷ tail ∷ tail ∷ [])
    ∷ (from_to 0xed 0xed ∷ from_to 0x80 0x9f ∷ tail ∷ [])
    ∷ (from_to 0xee 0xef ∷ tail ∷ tail ∷ [])
    ∷ (from_to 0xf0 0xf0 ∷ from_to 0x90 0xbf ∷ tail ∷ tail ∷ [])
    ∷ (from_to 0xf1 0xf3 ∷ tail ∷ tail ∷ tail ∷ [])
    ∷ (from_to 0xf4 0xf4 ∷ from_to 0x80 0x8f ∷ tail ∷ tail ∷ [])
    ∷ []

-- The byte is in the range.
abbrev pub IsIn : Range → ℕ → Type 0
IsIn r b = (r.least ≤ b) × (b ≤ r.most)

-- There are as many bytes as ranges, and each byte is in its range.
abbrev pub FitsRow : List Range → List ℕ → Type 0
FitsRow [] [] = Unit {0}
FitsRow (r ∷ rs) (b ∷ bs) = IsIn r b × FitsRow rs bs
FitsRow rs bs = ⊥

-- The bytes fit a row of the list.
abbrev pub FitsSome : List (List Range) → List ℕ → Type 0
FitsSome [] bs = ⊥
FitsSome (row ∷ more) bs = FitsRow row bs ⊎ FitsSome more bs

-- The bytes are a well-formed sequence.
abbrev pub IsWellFormed : List ℕ → Type 0
IsWellFormed bs = FitsSome well_formed_rows bs

-- The bytes are these sequences in order, each of them well-formed.
abbrev pub AreSequences : List ℕ → List (List ℕ) → Type 0
AreSequences d [] = d ≡ []
AreSequences d (bs ∷ more) = (rest : List ℕ) × (d ≡ bs ++ rest) × IsWellFormed bs × AreSequences rest more

-- All of the bytes are well-formed UTF-8.
abbrev pub IsWellFormedText : List ℕ → Type 0
IsWellFormedText d = (sequences : List (List ℕ)) × AreSequences d sequences

-- The bytes begin a well-formed sequence, or are a whole one.
abbrev pub Begins : List ℕ → Type 0
Begins bs = (more : List ℕ) × IsWellFormed (bs ++ more)

-- The bytes begin a longer well-formed sequence.
abbrev pub BeginsLonger : List ℕ → Type 0
BeginsLonger bs = (next : ℕ) × (more : List ℕ) × IsWellFormed (bs ++ next ∷ more)

-- the character of a sequence: the low seven bits of a single byte; otherwise the low five, four or three bits of the
-- first byte, followed by the low six bits of each byte after it
abbrev pub sequence_character : List ℕ → ℕ
sequence_character [] = 0
sequence_character (a ∷ []) = a % 2 ^ 7
sequence_character (a ∷ b ∷ []) = a % 2 ^ 5 * 2 ^ 6 + b % 2 ^ 6
sequence_character (a ∷ b ∷ c ∷ []) = (a % 2 ^ 4 * 2 ^ 6 + b % 2 ^ 6) * 2 ^ 6 + c % 2 ^ 6
sequence_character (a ∷ b ∷ c ∷ d ∷ more) = ((a % 2 ^ 3 * 2 ^ 6 + b % 2 ^ 6) * 2 ^ 6 + c % 2 ^ 6) * 2 ^ 6 + d % 2 ^ 6

-- The bytes followed by the next byte of the rest begin no sequence; or the rest is empty.
abbrev pub NextBreaks : List ℕ → List ℕ → Type 0
NextBreaks bs [] = Unit {0}
NextBreaks bs (next ∷ rest) = ¬ Begins (bs ++ next ∷ [])

-- A piece before the rest: a well-formed sequence with its character; or, as U+FFFD, a byte that begins no sequence, or
-- bytes that begin a longer sequence that the rest doesn't continue.
pub data IsUtf8Piece (p : Piece) (rest : List ℕ) : Type 0 where
  whole : IsWellFormed p.bytes → p.character ≡ sequence_character p.bytes → IsUtf8Piece p rest
  stray : (b : ℕ) → p ≡ piece (b ∷ []) replacement → ¬ Begins (b ∷ []) → IsUtf8Piece p rest
  broken : (b : ℕ) (bs : List ℕ) → p ≡ piece (b ∷ bs) replacement → BeginsLonger (b ∷ bs) → NextBreaks (b ∷ bs) rest → IsUtf8Piece p rest
