-- What the item reader is as an iterator, and what its calls do besides.
use Rattle.std.specs.Prelude.{◌≡◌, true, if◌then◌else◌, List, [], ℕ, Result, Ok, Err}
use Rattle.std.specs.Str.{is_utf8}
use Rattle.properties_items.specs.BorrowedItems.{found_entry}
use Rattle.properties_items.specs.Errors.{IsBareError}
use Rattle.properties_items.specs.Line.{entry_of}
use Rattle.properties_lines.specs.LineJoiner.{LineState}
use Rattle.java_properties.specs.PropertiesIter.{Iteration}
use Rattle.properties_items.specs.declared.error.ErrorKind.TheVariants as kind
use Rattle.properties_items.specs.declared.error.PropertiesError.{PropertiesError}
use Rattle.properties_items.specs.declared.found.Found.{Found}
use Rattle.properties_items.specs.declared.line.Line.{Line}

-- the bytes of a line that is in UTF-8, and none of one that isn't
unfoldable pub in_utf_8 : List ℕ → List ℕ
in_utf_8 bytes = if is_utf8 bytes then bytes else []

-- a joiner with its line as a text
abbrev pub as_text : LineState → LineState
as_text lines = record { state = lines.state; line = in_utf_8 lines.line }

-- the iterator that an item reader and a reader form
abbrev pub iteration_of : {R : Type 0} → LineState → R → Iteration R
iteration_of items reader = record { reader = reader; state = items.state; line = items.line }

-- What was found is now an owned item; or memory for it ran out, and the reading ended.
abbrev pub Owns : LineState → Found → Result Line PropertiesError → LineState → Type 0
Owns old found (Ok line) new = (entry_of line ≡ found_entry old.line found) × (new ≡ old)
Owns old found (Err e) new = IsBareError kind.Memory e × (new ≡ record old { state = record old.state { is_done = true } })
