-- How the value of a key is set in a body that is held in memory: where the value of a pair begins, and how a new pair
-- is laid out.
use Rattle.std.specs.Prelude.{◌≡◌, ℕ, ◌≤◌, Bool, true, false, List, [], ◌∷◌, ◌++◌, length, take, drop, Option, Some, None}
use Rattle.std.specs.Str.{chars}
use Rattle.properties_format.specs.Text as text
use Rattle.properties_format.specs.Encoding.{Encoding, Repertoire}
use Rattle.properties_format.specs.Lines.{joined}
use Rattle.properties_format.specs.Split.{IsPair}
use Rattle.properties_format.specs.Computed.Split.{split_of}
use Rattle.properties_format.specs.Items.{pair, given}
use Rattle.properties_format.specs.Computed.Items.{outcome_of}
use Rattle.properties_format.specs.Text.{is_blanks}
use Rattle.properties_format.specs.Printing.{encoded_text, printed_key, printed_value}
use Rattle.properties_format.specs.Body.{HeldLine, as_lines, held_in, AreGroupsOf}
use Rattle.properties_format.specs.Edited.{is_editable}
use Rattle.properties_format.specs.Valued.{value_text, ending_among}
use Rattle.properties_format.specs.Computed.Body.{held_groups_of}
use Rattle.properties_format.specs.Computed.Valued.{before_value, between_if_pair, between_of, value_front, has_value}
use Rattle.properties_text.specs.Parsing.{bytes_in, IsSpan}
use Rattle.properties_text.specs.declared.parse.Span.{Span}
use Rattle.properties_items.specs.Line.{ending_of}
use Rattle.properties_items.specs.declared.line.LineEnding.{LineEnding}
use Rattle.properties_editing.specs.declared.new_value.NewValue.{NewValue}

-- ---- where the value of a pair begins

-- The span separates key and value in a logical line, and the value begins after it.
pub record IsBetweenAt (line : List ℕ) (span : Span) : Type 0 where
  pub is_span : IsSpan line span
  pub key : List ℕ
  pub is_pair : IsPair (chars line) key (chars (drop span.end line))
  pub of_pair : between_if_pair (split_of (chars line)) (chars line) ≡ Some (chars (bytes_in line span))
  pub before : chars (take span.end line) ≡ before_value (chars line)

abbrev pub IsBetweenIn : List ℕ → Option Span → Type 0
IsBetweenIn line None = between_if_pair (split_of (chars line)) (chars line) ≡ None
IsBetweenIn line (Some span) = IsBetweenAt line span

-- The bytes are one group, and this text comes before the value in its logical line.
pub record IsBeforeValue (e : Encoding) (bytes before : List ℕ) : Type 0 where
  pub group : List HeldLine
  pub is_group : held_groups_of e bytes ≡ group ∷ []
  pub key : List ℕ
  pub value : List ℕ
  pub is_pair : IsPair (joined (as_lines group)) key value
  pub text : before_value (joined (as_lines group)) ≡ before

-- The bytes are one group, and its front has this size.
pub record IsFrontSize (e : Encoding) (bytes : List ℕ) (size : ℕ) : Type 0 where
  pub group : List HeldLine
  pub is_group : held_groups_of e bytes ≡ group ∷ []
  pub is_size : size ≡ length (value_front e group)

-- ---- a pair with another value

-- The bytes are one group, which is a pair.
pub record IsPairAlone (e : Encoding) (bytes : List ℕ) : Type 0 where
  pub group : List HeldLine
  pub is_group : held_groups_of e bytes ≡ group ∷ []
  pub key : List ℕ
  pub value : List ℕ
  pub is_pair : outcome_of (joined (as_lines group)) ≡ given (pair key value)

-- The bytes are one group, which doesn't have the value. It gets the value, in ASCII only or not, if these bytes come
-- after its front.
pub record IsNewValue (r : Repertoire) (bytes value : List ℕ) (new : NewValue) : Type 0 where
  pub group : List HeldLine
  pub is_group : held_groups_of r.encoding bytes ≡ group ∷ []
  pub other : has_value value group ≡ false
  pub within : new.front_size ≤ length bytes
  pub front : take new.front_size bytes ≡ value_front r.encoding group
  pub bytes_are : new.bytes ≡ encoded_text r.encoding (value_text r (between_of group) value)

-- How a pair by itself gets a value, or `None` if it has the value.
abbrev pub GivesValue : Repertoire → List ℕ → List ℕ → Option NewValue → Type 0
GivesValue r bytes value None = (group : List HeldLine) × (held_groups_of r.encoding bytes ≡ group ∷ []) × (has_value value group ≡ true)
GivesValue r bytes value (Some new) = IsNewValue r bytes value new

-- ---- a new pair

-- The bytes are one group.
abbrev pub IsGroupAlone : Encoding → List ℕ → Type 0
IsGroupAlone e bytes = (group : List HeldLine) × (held_groups_of e bytes ≡ group ∷ [])

-- This is the last line ending of a body, or an LF if it has none.
abbrev pub IsLastEnding : List ℕ → LineEnding → Type 0
IsLastEnding body by =
    (e : Encoding) (groups : List (List HeldLine)) → is_editable e ≡ true → AreGroupsOf e body groups
    → ending_of by ≡ ending_among text.lf (held_in groups)

-- the bytes of a new pair without its line ending, in ASCII only or not, which is the first of the body or not
abbrev pub unended_pair : Repertoire → Bool → List ℕ → List ℕ → List ℕ → List ℕ
unended_pair r first key separator value =
    encoded_text r.encoding (printed_key r first key ++ (separator ++ printed_value r (is_blanks separator) value))
