-- The result of searching for a line ending among undecoded bytes.
use Rattle.std.specs.Prelude.{◌≡◌, ℕ, ◌+◌, ◌-◌, ◌%◌, ◌≤◌, Bool, true, false, List, [], ◌∷◌, ◌++◌, take, length}
use Rattle.std.specs.Prelude.{Option, Some, None}
use Rattle.properties_format.specs.Text.{line_feed, carriage_return}
use Rattle.properties_format.specs.Encoding.{Encoding, utf_16le, utf_16be, IsAligned, ascii_bytes}
use Rattle.properties_format.specs.Cut.{HoldsNoLineEndingUnit}
use Rattle.properties_lines.specs.declared.search.FoundEnding.{FoundEnding}

-- the number of bytes in a unit
abbrev pub unit_size : Encoding → ℕ
unit_size utf_16le = 2
unit_size utf_16be = 2
unit_size e = 1

-- how many of `n` bytes form whole units
abbrev pub whole_units : Encoding → ℕ → ℕ
whole_units e n = n - n % unit_size e

-- The bytes before this place are whole units, and none of them is a CR or an LF.
pub record IsSearched (e : Encoding) (bytes : List ℕ) (from : ℕ) : Type 0 where
  pub within : from ≤ length bytes
  pub aligned : IsAligned e (take from bytes)
  pub none_before : HoldsNoLineEndingUnit e (take from bytes)

-- the character of a CR or an LF
abbrev pub end_character : Bool → ℕ
end_character true = carriage_return
end_character false = line_feed

-- The line ending is at its place in the bytes. Before it are whole units, none of which is a CR or an LF.
pub record IsFirstLineEnding (e : Encoding) (bytes : List ℕ) (end : FoundEnding) : Type 0 where
  pub rest : List ℕ
  pub division : bytes ≡ take end.at bytes ++ (ascii_bytes e (end_character end.is_cr) ++ rest)
  pub aligned : IsAligned e (take end.at bytes)
  pub none_before : HoldsNoLineEndingUnit e (take end.at bytes)
  pub within : end.at + unit_size e ≤ length bytes

-- the first line ending of the bytes, if there is one
abbrev pub FindsLineEnding : Encoding → List ℕ → Option FoundEnding → Type 0
FindsLineEnding e bytes None = HoldsNoLineEndingUnit e bytes
FindsLineEnding e bytes (Some end) = IsFirstLineEnding e bytes end

-- the first line ending of the bytes, if there is one, in each encoding whose units are bytes
abbrev pub FindsLineEndingByte : List ℕ → Option FoundEnding → Type 0
FindsLineEndingByte bytes found = (e : Encoding) → unit_size e ≡ 1 → FindsLineEnding e bytes found

-- whether a unit of these two bytes is a CR, or `None` if it isn't a line ending
abbrev pub IsLineEndingUnit : Encoding → ℕ → ℕ → Option Bool → Type 0
IsLineEndingUnit e first second None = HoldsNoLineEndingUnit e (first ∷ second ∷ [])
IsLineEndingUnit e first second (Some is_cr) = ascii_bytes e (end_character is_cr) ≡ first ∷ second ∷ []
