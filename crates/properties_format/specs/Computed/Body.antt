-- The groups of a body, computed line by line, and the parts of a group.
use Rattle.std.specs.Prelude.{ℕ, Bool, true, false, List, [], ◌∷◌, ◌++◌, Some, None, bytes_eq, if◌then◌else◌, Option}
use Rattle.properties_format.specs.Encoding.{Encoding}
use Rattle.properties_format.specs.Lines.{Ended, joined}
use Rattle.properties_format.specs.Computed.Cut.{cut_of, decoded_line}
use Rattle.properties_format.specs.Computed.Lines.{closes, ends_in_cr}
use Rattle.properties_format.specs.Items.{pair, Outcome, given}
use Rattle.properties_format.specs.Computed.Items.{outcome_of}
use Rattle.properties_format.specs.Body.{HeldLine, as_lines, ending_bytes}
use Rattle.properties_format.specs.Text.{LineEnding, lf, cr}

-- the lines of bytes, each decoded by itself
abbrev pub held_of : Encoding → List Ended → List ℕ → List HeldLine
held_of e [] last = record { bytes = last; text = decoded_line e last; ending = None } ∷ []
held_of e (l ∷ ls) last = record { bytes = l.text; text = decoded_line e l.text; ending = Some l.by } ∷ held_of e ls last

-- the lines of a body
abbrev pub held_lines_of : Encoding → List ℕ → List HeldLine
held_lines_of e body = held_of e (cut_of e body).ended (cut_of e body).last

-- the last group, if one is still open
abbrev pub last_held : List HeldLine → List (List HeldLine)
last_held [] = []
last_held (h ∷ hs) = (h ∷ hs) ∷ []

-- the groups of these lines, which follow the lines of a group that is still open
abbrev pub held_groups_after : List HeldLine → List HeldLine → List (List HeldLine)
held_groups_after open_lines [] = last_held open_lines
held_groups_after open_lines (h ∷ hs) =
    elim (closes (as_lines open_lines) (record { number = 0; text = h.text })) [
      | true ↦ (open_lines ++ h ∷ []) ∷ held_groups_after [] hs
      | false ↦ held_groups_after (open_lines ++ h ∷ []) hs
    ]

-- the groups of a body
unfoldable pub held_groups_of : Encoding → List ℕ → List (List HeldLine)
held_groups_of e body = held_groups_after [] (held_lines_of e body)

-- whether the outcome is a pair with the key
abbrev pub is_pair_with : List ℕ → Outcome → Bool
is_pair_with key (given (pair k v)) = bytes_eq k key
is_pair_with key outcome = false

-- whether the group is a pair with the key
abbrev pub has_key : List ℕ → List HeldLine → Bool
has_key key group = is_pair_with key (outcome_of (joined (as_lines group)))

-- ---- The parts of a group: its bytes up to the last line ending, and that ending.

-- the bytes of a group up to its last line ending
abbrev pub unended_bytes : List HeldLine → List ℕ
unended_bytes [] = []
unended_bytes (h ∷ []) = h.bytes
unended_bytes (h ∷ i ∷ hs) = h.bytes ++ (ending_bytes h.ending ++ unended_bytes (i ∷ hs))

-- the key of an outcome, if it is a pair
abbrev pub outcome_key : Outcome → Option (List ℕ)
outcome_key (given (pair key value)) = Some key
outcome_key outcome = None

-- a line ending that doesn't form a CR LF with these bytes before it
abbrev pub safe_ending : List ℕ → LineEnding
safe_ending bytes = if ends_in_cr bytes then cr else lf
