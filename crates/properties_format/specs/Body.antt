-- The groups of a body, as parts of its bytes: the lines of each logical line, with the bytes that they came from.
-- Source: java.util.Properties of Java SE 7, load (a logical line may be spread out across several adjacent natural
-- lines).
use Rattle.std.specs.Prelude.{◌≡◌, ℕ, List, [], ◌∷◌, ◌++◌, Option, Some, None}
use Rattle.properties_format.specs.Text.{LineEnding, line_ending_text}
use Rattle.properties_format.specs.Encoding.{Encoding}
use Rattle.properties_format.specs.Lines.{Ended, Lines, end, Line, IsGroups, joined}
use Rattle.properties_format.specs.Cut.{IsCut, IsDecodedLine}
use Rattle.properties_format.specs.Items.{pair, given, IsOutcome}

-- a natural line of a body: its bytes, the text that they decode to, and its line ending, which the last line doesn't
-- have
pub record HeldLine : Type 0 where
  pub bytes : List ℕ
  pub text : List ℕ
  pub ending : Option LineEnding

-- These are the lines of some bytes in order, each decoded by itself.
abbrev pub AreHeld : Encoding → List Ended → List ℕ → List HeldLine → Type 0
AreHeld e [] last held = (text : List ℕ) × IsDecodedLine e last text × (held ≡ record { bytes = last; text = text; ending = None } ∷ [])
AreHeld e (l ∷ ls) last held =
    (text : List ℕ) × (rest : List HeldLine) × IsDecodedLine e l.text text
    × (held ≡ record { bytes = l.text; text = text; ending = Some l.by } ∷ rest)
    × AreHeld e ls last rest

-- the lines as texts; the line numbers don't affect the groups, so all are 0 here
abbrev pub as_lines : List HeldLine → List Line
as_lines [] = []
as_lines (h ∷ hs) = record { number = 0; text = h.text } ∷ as_lines hs

abbrev pub as_groups : List (List HeldLine) → List (List Line)
as_groups [] = []
as_groups (g ∷ gs) = as_lines g ∷ as_groups gs

-- the lines of the groups
abbrev pub held_in : List (List HeldLine) → List HeldLine
held_in [] = []
held_in (g ∷ gs) = g ++ held_in gs

-- The body has these groups: its bytes are split into lines, each line is decoded, and the lines are grouped as the
-- lines of a text are.
pub record AreGroupsOf (e : Encoding) (body : List ℕ) (groups : List (List HeldLine)) : Type 0 where
  pub cut : Lines
  pub is_cut : IsCut e body cut
  pub are_held : AreHeld e cut.ended cut.last (held_in groups)
  pub grouped : IsGroups (as_lines (held_in groups)) end (as_groups groups)

-- the bytes of a line ending, or none if there is none
abbrev pub ending_bytes : Option LineEnding → List ℕ
ending_bytes None = []
ending_bytes (Some by) = line_ending_text by

-- the bytes of a group: its lines with their line endings
abbrev pub group_bytes : List HeldLine → List ℕ
group_bytes [] = []
group_bytes (h ∷ hs) = h.bytes ++ (ending_bytes h.ending ++ group_bytes hs)

-- the bytes of the groups, in order
abbrev pub groups_bytes : List (List HeldLine) → List ℕ
groups_bytes [] = []
groups_bytes (g ∷ gs) = group_bytes g ++ groups_bytes gs

-- the line ending of the group's last line
abbrev pub last_ending : List HeldLine → Option LineEnding
last_ending [] = None
last_ending (h ∷ []) = h.ending
last_ending (h ∷ i ∷ hs) = last_ending (i ∷ hs)

-- The group is a pair with this key.
abbrev pub HasKey : List ℕ → List HeldLine → Type 0
HasKey key group = (value : List ℕ) × IsOutcome (joined (as_lines group)) (given (pair key value))

-- None of the groups is a pair with this key.
abbrev pub NoneHasKey : List ℕ → List (List HeldLine) → Type 0
NoneHasKey key [] = Unit {0}
NoneHasKey key (g ∷ gs) = ¬ (HasKey key g) × NoneHasKey key gs
