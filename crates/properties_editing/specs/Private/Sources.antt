-- How a source that is edited is opened, and what is printed for it.
use Rattle.std.specs.Prelude.{◌≡◌, ℕ, ◌≤◌, Bool, true, false, List, drop, length, Result, Ok, Err}
use Rattle.properties_format.specs.Encoding as format
use Rattle.properties_format.specs.Printing.{in_key_or_value, printed_key, printed_characters, encoded_text, printed_value}
use Rattle.properties_format.specs.Edited.{is_editable}
use Rattle.properties_text.specs.Encoding.{encoding_of}
use Rattle.properties_text.specs.Printing.{in_format, key_bytes, puts_of}
use Rattle.properties_text.specs.declared.print.Repertoire as code
use Rattle.properties_items.specs.Errors.{IsBareError}
use Rattle.std.specs.Str.{chars}
use Rattle.properties_editing.specs.declared.edit.BorrowedEdit.{BorrowedEdit}
use Rattle.properties_editing.specs.declared.edit.BorrowedEdit.TheVariants.{Put, Remove, SetValue}
use Rattle.properties_editing.specs.declared.source.BodyStart.{BodyStart}
use Rattle.properties_items.specs.declared.error.ErrorKind.TheVariants as kind
use Rattle.properties_items.specs.declared.error.PropertiesError.{PropertiesError}
use Rattle.properties_format.specs.Encoding.{characters_for, in_encoding, Repertoire}
use Rattle.properties_format.specs.Edits.{Edit, put, remove, set_value}

-- what may stand unescaped in the body of an opened source, and in what is printed for it
abbrev pub used_in : BodyStart → Repertoire
used_in opened = record { encoding = encoding_of opened.encoding; characters = characters_for opened.ascii_only opened.latin_1 }

abbrev pub printed_repertoire : BodyStart → Repertoire
printed_repertoire opened = in_encoding (used_in opened) (format.output_encoding (encoding_of opened.encoding))

-- an edit by texts that its caller keeps
abbrev pub borrowed_edit_in : BorrowedEdit → Edit
borrowed_edit_in (Put key value) = put (chars key.now) (chars value.now)
borrowed_edit_in (Remove key) = remove (chars key.now)
borrowed_edit_in (SetValue key value) = set_value (chars key.now) (chars value.now)

-- A source is opened for texts of this repertoire. Its body starts at this position and has this encoding, which can be
-- edited: that of the byte order mark, or else that of the repertoire.
pub record IsBodyStartOf (source : List ℕ) (r : Repertoire) (opened : BodyStart) : Type 0 where
  pub in_force : format.byte_order_mark r.encoding source ≡ record { encoding = encoding_of opened.encoding; body = drop opened.start source }
  pub within : opened.start ≤ length source
  pub characters : characters_for opened.ascii_only opened.latin_1 ≡ r.characters
  pub editable : is_editable (encoding_of opened.encoding) ≡ true

-- A source was opened so; or its encoding can't be edited.
abbrev pub OpensSource : List ℕ → Repertoire → Result BodyStart PropertiesError → Type 0
OpensSource source r (Ok opened) = IsBodyStartOf source r opened
OpensSource source r (Err error) = (is_editable (format.byte_order_mark r.encoding source).encoding ≡ false) × IsBareError kind.Unsupported error

-- Keys and values are printed in the first repertoire as in the second.
pub record PrintsIn (t : Repertoire) (r : code.Repertoire) : Type 0 where
  pub keys : (first : Bool) (key : List ℕ) → key_bytes r first key ≡ encoded_text t.encoding (printed_key t first key)
  pub texts : (text : List ℕ) → puts_of r text ≡ encoded_text t.encoding (printed_characters t in_key_or_value text)
  pub values : (after_blanks : Bool) (value : List ℕ)
      → encoded_text (in_format r).encoding (printed_value (in_format r) after_blanks value) ≡ encoded_text t.encoding (printed_value t after_blanks value)
