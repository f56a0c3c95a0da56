-- The parts of a logical line that an edit keeps when it sets a value: the front of a pair, and the separator and the
-- sizes of a new one, computed from the first character.
use Rattle.std.specs.Prelude.{ℕ, ◌-◌, nat_le, Bool, true, false, List, [], ◌∷◌, ◌++◌, length, take, drop, Option, Some, None, bytes_eq}
use Rattle.properties_format.specs.Text.{equals_sign, without_leading_blanks, Piece}
use Rattle.properties_format.specs.Encoding.{Encoding}
use Rattle.properties_format.specs.Computed.Encoding.{pieces_of}
use Rattle.properties_format.specs.Lines.{without_open_backslash, joined}
use Rattle.properties_format.specs.Split.{Logical}
use Rattle.properties_format.specs.Computed.Split.{cut_key, past_separator, split_of}
use Rattle.properties_format.specs.Items.{pair, Outcome, given}
use Rattle.properties_format.specs.Computed.Items.{outcome_of}
use Rattle.properties_format.specs.Body.{HeldLine, as_lines, ending_bytes}
use Rattle.properties_format.specs.Valued.{separator_after}

-- ---- the parts of a logical line

-- a text without the given end
abbrev pub without_end : List ℕ → List ℕ → List ℕ
without_end x y = take (length x - length y) x

-- the text after the key
abbrev pub after_key : List ℕ → List ℕ
after_key x = (cut_key (without_leading_blanks x) false).rest

-- the value as it is written, with its escapes
abbrev pub value_as_written : List ℕ → List ℕ
value_as_written x = past_separator (without_leading_blanks (after_key x))

-- what separates the key from the value
abbrev pub between_in : List ℕ → List ℕ
between_in x = without_end (after_key x) (value_as_written x)

-- what comes before the value
abbrev pub before_value : List ℕ → List ℕ
before_value x = without_end x (value_as_written x)

-- ---- the front of a pair

-- a line as it counts in its group: the first line unchanged, a later one without its indentation
abbrev pub without_indent : Bool → List ℕ → List ℕ
without_indent true x = x
without_indent false x = without_leading_blanks x

-- what a line adds to its group: the line without a later line's indentation and without an open backslash
abbrev pub added_by : Bool → List ℕ → List ℕ
added_by first x = without_open_backslash (without_indent first x)

-- the bytes of some pieces
abbrev pub pieces_bytes : List Piece → List ℕ
pieces_bytes [] = []
pieces_bytes (p ∷ ps) = p.bytes ++ pieces_bytes ps

-- the bytes of the first n characters
abbrev pub head_of : Encoding → ℕ → List ℕ → List ℕ
head_of e n d = pieces_bytes (take n (pieces_of e d))

-- the number of characters at the front of a line that add this text to its group; the line's indentation is counted,
-- unless the line is the first
abbrev pub head_size : Bool → List ℕ → List ℕ → ℕ
head_size first x p = length x - (length (without_indent first x) - length p)

-- the beginning of the lines up to where they have added this text; the flag says whether the first of them is the
-- first of its group
abbrev pub front_in : Encoding → Bool → List ℕ → List HeldLine → List ℕ
front_in e first p [] = []
front_in e first p (h ∷ hs) =
    elim (nat_le (length p) (length (added_by first h.text))) [
      | true ↦ head_of e (head_size first h.text p) h.bytes
      | false ↦ h.bytes ++ (ending_bytes h.ending ++ front_in e false (drop (length (added_by first h.text)) p) hs)
    ]

-- the front of a group that is a pair
abbrev pub value_front : Encoding → List HeldLine → List ℕ
value_front e group = front_in e true (before_value (joined (as_lines group))) group

-- what separates its key from its value
abbrev pub between_of : List HeldLine → List ℕ
between_of group = between_in (joined (as_lines group))

-- ---- the separator of a new pair

-- what separates the key from the value, if the line is a pair
abbrev pub between_if_pair : Logical → List ℕ → Option (List ℕ)
between_if_pair (Logical.pair key value) x = Some (between_in x)
between_if_pair line x = None

-- the first if there is one, otherwise the second
abbrev pub or_else : Option (List ℕ) → Option (List ℕ) → Option (List ℕ)
or_else None b = b
or_else (Some x) b = Some x

-- what separates the key from the value in the last pair, if there is a pair
abbrev pub last_between : List (List HeldLine) → Option (List ℕ)
last_between [] = None
last_between (g ∷ gs) = or_else (last_between gs) (between_if_pair (split_of (joined (as_lines g))) (joined (as_lines g)))

-- the separator of a new pair with this key, given what separates the key from the value in the last pair, if there is
-- one
abbrev pub separator_by : List ℕ → Option (List ℕ) → List ℕ
separator_by key None = equals_sign ∷ []
separator_by key (Some between) = separator_after key between

-- ---- setting a value

-- whether the outcome is a pair with the value
abbrev pub is_pair_to : List ℕ → Outcome → Bool
is_pair_to value (given (pair k v)) = bytes_eq v value
is_pair_to value outcome = false

-- whether the group is a pair with the value
abbrev pub has_value : List ℕ → List HeldLine → Bool
has_value value group = is_pair_to value (outcome_of (joined (as_lines group)))
