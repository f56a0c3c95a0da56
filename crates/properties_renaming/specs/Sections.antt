-- A source in sections: each group that isn't a comment line, with all comment lines directly above it.
use Rattle.std.specs.Prelude.{◌≡◌, ◌||◌, ℕ, bytes_eq, Bool, false, List, [], ◌∷◌, ◌++◌}
use Rattle.properties_format.specs.Body.{HeldLine, groups_bytes}
use Rattle.properties_renaming.specs.CommentLines.{AreCommentGroups, IsCommentGroup}

-- A group that isn't a comment line, and all comment lines directly above it, separators among them.
pub record Section : Type 0 where
  pub run : List (List HeldLine)
  pub group : List HeldLine

-- The run of each section is comment lines, and its group isn't one.
abbrev pub AreSections : List Section → Type 0
AreSections [] = Unit {0}
AreSections (s ∷ ss) = AreCommentGroups s.run × ¬ (IsCommentGroup s.group) × AreSections ss

-- the groups of sections, and those after them
abbrev pub groups_of : List Section → List (List HeldLine) → List (List HeldLine)
groups_of [] last = last
groups_of (s ∷ ss) last = s.run ++ s.group ∷ groups_of ss last

-- The groups are those of sections, and comment lines after them.
pub record AreDivided (groups : List (List HeldLine)) (sections : List Section) (last : List (List HeldLine)) : Type 0 where
  pub division : groups ≡ groups_of sections last
  pub are_sections : AreSections sections
  pub last_comments : AreCommentGroups last

-- The bytes are made of the sections, in order, and of the comment lines after them. What is made of a section may
-- depend on the groups after it.
abbrev pub AreMadeOf : (Section → List (List HeldLine) → List ℕ → Type 0) → List Section → List (List HeldLine) → List ℕ → Type 0
AreMadeOf Makes [] last bytes = bytes ≡ groups_bytes last
AreMadeOf Makes (s ∷ ss) last bytes =
    (made : List ℕ) × (more : List ℕ) × Makes s (groups_of ss last) made × (bytes ≡ made ++ more) × AreMadeOf Makes ss last more

-- whether this is one of the keys
abbrev pub is_among : List (List ℕ) → List ℕ → Bool
is_among [] key = false
is_among (k ∷ ks) key = bytes_eq k key || is_among ks key
