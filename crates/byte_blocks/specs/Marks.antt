-- Marks of bytes, in order: true where a byte is marked.
use Rattle.std.specs.Prelude.{◌≡◌, ℕ, zero, suc, ◌/◌, ◌%◌, ◌<◌, ◌==◌, Bool, List, [], ◌∷◌, Option, Some, None, length, if◌then◌else◌, ◌++◌}
use Rattle.std.specs.List.{position_or_len}

-- the lowest n bits of a number, the lowest first
unfoldable pub lowest_bits : ℕ → ℕ → List Bool
lowest_bits zero number = []
lowest_bits (suc n) number = (number % 2 == 1) ∷ lowest_bits n (number / 2)

-- the number of bytes before the first mark, or of all bytes if none is marked
abbrev pub clear_front : List Bool → ℕ
clear_front marks = position_or_len (λ is_marked. is_marked) marks

-- the index of the first mark, or `None` if no byte is marked
abbrev pub IsFirstMark : List Bool → Option ℕ → Type 0
IsFirstMark marks None = clear_front marks ≡ length marks
IsFirstMark marks (Some place) = (clear_front marks ≡ place) × (place < length marks)

-- every byte; before each marked byte comes the byte of `before` at the same index
abbrev pub spread : List Bool → List ℕ → List ℕ → List ℕ
spread [] before bytes = []
spread (is_marked ∷ marks) [] bytes = []
spread (is_marked ∷ marks) (a ∷ before) [] = []
spread (is_marked ∷ marks) (a ∷ before) (b ∷ bytes) = (if is_marked then a ∷ b ∷ [] else b ∷ []) ++ spread marks before bytes
