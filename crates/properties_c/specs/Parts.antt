-- Sources that come in parts: where a part is divided, and how what comes later is numbered.
use Rattle.std.specs.Prelude.{◌≡◌, ◌⊎◌, ◌≤◌, ◌+◌, ℕ, List, [], ◌∷◌, ◌++◌, length}
use Rattle.properties_format.specs.Text.{line_feed, carriage_return, backslash}
use Rattle.properties_format.specs.Encoding.{Encoding, IsAligned, ascii_bytes, byte_order_mark}
use Rattle.properties_format.specs.Items.{Entry, item, malformed, read_fault}

-- The bytes begin with this ASCII character, or end in it.
abbrev pub BeginsIn : Encoding → ℕ → List ℕ → Type 0
BeginsIn e c bytes = (after : List ℕ) × (bytes ≡ ascii_bytes e c ++ after)

abbrev pub EndsIn : Encoding → ℕ → List ℕ → Type 0
EndsIn e c bytes = (before : List ℕ) × (bytes ≡ before ++ ascii_bytes e c)

-- Between these bytes of a body a line ends that the next one doesn't continue. Whole units come first, and the last of
-- them isn't a backslash; then comes a line ending, and all of it.
pub record IsLineEnd (e : Encoding) (before after : List ℕ) : Type 0 where
  pub aligned : IsAligned e before
  pub closed : ¬ EndsIn e backslash before
  pub ending : BeginsIn e line_feed after ⊎ BeginsIn e carriage_return after
  pub whole : BeginsIn e line_feed after → ¬ EndsIn e carriage_return before

-- The front of a part ends where the last such line does, and the rest begins with its line ending. Without such a line
-- there is no front.
pub record IsDivided (e : Encoding) (part front rest : List ℕ) : Type 0 where
  pub division : part ≡ front ++ rest
  pub place : (front ≡ []) ⊎ IsLineEnd (byte_order_mark e front).encoding (byte_order_mark e front).body rest
  pub last : (before after : List ℕ) → (byte_order_mark e part).body ≡ before ++ after → IsLineEnd (byte_order_mark e part).encoding before after
      → length rest ≤ length after

-- an entry after so many line endings more
abbrev pub later_entry : ℕ → Entry → Entry
later_entry lines (item number content) = item (lines + number) content
later_entry lines (malformed how number) = malformed how (lines + number)
later_entry lines (read_fault number) = read_fault (lines + number)

-- the entries, and then others, but not after an error
abbrev pub followed_by : List Entry → List Entry → List Entry
followed_by [] others = others
followed_by (item number content ∷ entries) others = item number content ∷ followed_by entries others
followed_by (error ∷ entries) others = error ∷ []
