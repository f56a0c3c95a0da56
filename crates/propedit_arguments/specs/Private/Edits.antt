-- The edits that arguments ask for.
use Rattle.std.specs.Prelude.{◌≡◌, ◌≢◌, ◌==◌, ◌||◌, ◌-◌, length, get_or, Bool, true, false, ℕ, List, [], ◌∷◌, ◌++◌, Option, None, Result, Ok, Err, codes, map, string_bytes}
use Rattle.std.specs.{Borrow.Bor, Global.Vec, List.list_any, Str.chars, declared.string.String.String}
use Rattle.properties_format.specs.Edits as format
use Rattle.properties_format.specs.Text.{is_blank, is_separator}
use Rattle.java_properties.specs.Editing.{edit_in}
use Rattle.propedit_arguments.specs.{declared.edits.AskedEdit.AskedEdit, declared.edits.BorrowedEdit.BorrowedEdit, declared.mistake.Mistake.Mistake}
use Rattle.propedit_arguments.specs.declared.edits.AskedEdit.TheVariants as Asked
use Rattle.propedit_arguments.specs.declared.edits.BorrowedEdit.TheVariants as Borrowed
use Rattle.propedit_arguments.specs.declared.mistake.Mistake.TheVariants.{Memory, NoEdit, NoKey, NoNewKey, NoText, NoValue, OddKey, OddName, TwoAssignments}

-- Arguments and texts are their UTF-8.

-- ---- the arguments of an edit

-- an edit that arguments ask for: a key to set and its value, a key to remove, a key to rename and its new name, or a
-- key whose comment is set and the text of it
pub data Edit : Type 0 where
  set : List ℕ → List ℕ → Edit
  remove : List ℕ → Edit
  rename : List ℕ → List ℕ → Edit
  set_comment : List ℕ → List ℕ → Edit

abbrev pub command_of : Edit → List ℕ
command_of (set key value) = codes "set"
command_of (remove key) = codes "remove"
command_of (rename old new) = codes "rename"
command_of (set_comment key text) = codes "set-comment"

abbrev pub edit_texts : Edit → List (List ℕ)
edit_texts (set key value) = key ∷ (value ∷ [])
edit_texts (remove key) = key ∷ []
edit_texts (rename old new) = old ∷ (new ∷ [])
edit_texts (set_comment key text) = key ∷ (text ∷ [])

-- how its texts are written: plainly, or after a `--`, which has them taken as they are
pub data Form : Type 0 where
  plain : Form
  literal : Form

-- the arguments for texts
abbrev pub text_words : Form → List (List ℕ) → List (List ℕ)
text_words plain texts = texts
text_words literal texts = codes "--" ∷ texts

-- Texts may begin in this form: plain ones don't with `--`.
abbrev pub MayBegin : Form → List (List ℕ) → Type 0
MayBegin literal texts = Unit {0}
MayBegin plain texts = (others : List (List ℕ)) → texts ≡ codes "--" ∷ others → ⊥

-- the arguments of an edit, its command first
abbrev pub edit_words : Form → Edit → List (List ℕ)
edit_words form edit = command_of edit ∷ text_words form (edit_texts edit)

-- whether a character is a `=`
abbrev pub is_sign : ℕ → Bool
is_sign c = c == 0x3D

-- The text looks like NAME=TEXT: what stands before its first `=` is a name, which isn't empty and has no blank.
pub record IsAssignment (text : List ℕ) : Type 0 where
  pub name : List ℕ
  pub value : List ℕ
  pub is : text ≡ name ++ (0x3D ∷ value)
  pub first : list_any is_sign name ≡ false
  pub some : name ≢ []
  pub whole : list_any is_blank name ≡ false

-- whether a character ends a key in a file
abbrev pub ends_key : ℕ → Bool
ends_key c = is_blank c || is_separator c

-- whether a key is hardly meant: it is empty, or its last character ends a key
abbrev pub is_odd : List ℕ → Bool
is_odd key = length key == 0 || ends_key (get_or key (length key - 1) 0)

-- An edit may be written so. Plainly, its key isn't `--`, key and value don't both look like NAME=TEXT, and a key that
-- it writes isn't odd.
abbrev pub MayBeWritten : Form → Edit → Type 0
MayBeWritten literal edit = Unit {0}
MayBeWritten plain (remove key) = key ≢ codes "--"
MayBeWritten plain (rename old new) = (old ≢ codes "--") × (is_odd new ≡ false)
MayBeWritten plain (set_comment key text) = key ≢ codes "--"
MayBeWritten plain (set key value) = (key ≢ codes "--") × (IsAssignment key → IsAssignment value → ⊥) × (is_odd key ≡ false)

-- an edit as it is written
pub record WrittenEdit : Type 0 where
  pub edit : Edit
  pub form : Form
  pub may : MayBeWritten form edit

-- the arguments of edits, one edit after another
abbrev pub written_words : List WrittenEdit → List (List ℕ)
written_words [] = []
written_words (w ∷ ws) = edit_words w.form w.edit ++ written_words ws

-- what is made: an edit of the format, or a key's new name or comment, in characters
pub data Meant : Type 0 where
  edited : format.Edit → Meant
  renamed : List ℕ → List ℕ → Meant
  commented : List ℕ → List ℕ → Meant

-- What is made of it. Setting a key keeps the layout of its line.
abbrev pub meant_edit : Edit → Meant
meant_edit (set key value) = edited (format.set_value (chars key) (chars value))
meant_edit (remove key) = edited (format.remove (chars key))
meant_edit (rename old new) = renamed (chars old) (chars new)
meant_edit (set_comment key text) = commented (chars key) (chars text)

abbrev pub asked_edit : AskedEdit → Meant
asked_edit (Asked.Edit edit) = edited (edit_in edit)
asked_edit (Asked.Rename old new) = renamed (chars (string_bytes old)) (chars (string_bytes new))
asked_edit (Asked.SetComment key text) = commented (chars (string_bytes key)) (chars (string_bytes text))

abbrev pub asked_edits : List AskedEdit → List Meant
asked_edits edits = map asked_edit edits

-- The arguments are those of edits, and these are made.
pub record AreWordsOfEdits (words : List (List ℕ)) (edits : List Meant) : Type 0 where
  pub asked : List WrittenEdit
  pub is : words ≡ written_words asked
  pub made : edits ≡ map (λ w. meant_edit w.edit) asked

-- ---- arguments that ask for no edit

-- This is what is wrong at the front of arguments that begin with no edit: the first is no command that edits; a key, a
-- value, a new key or a text is missing; a key and a value both look like NAME=TEXT; or a key that is written is odd.
pub data IsMistakeAt (words : List (List ℕ)) (mistake : Mistake) : Type 0 where
  no_edit : (word : Bor (List ℕ)) (others : List (List ℕ)) → words ≡ word.now ∷ others → word.now ≢ codes "set" → word.now ≢ codes "remove"
      → word.now ≢ codes "rename" → word.now ≢ codes "set-comment" → mistake ≡ NoEdit word None → IsMistakeAt words mistake
  no_key : (command : Bor (List ℕ)) (edit : Edit) (form : Form) → command.now ≡ command_of edit → words ≡ command_of edit ∷ text_words form []
      → mistake ≡ NoKey command → IsMistakeAt words mistake
  no_value : (key : Bor (List ℕ)) (form : Form) → words ≡ codes "set" ∷ text_words form (key.now ∷ []) → MayBegin form (key.now ∷ [])
      → mistake ≡ NoValue key None → IsMistakeAt words mistake
  no_new_key : (key : Bor (List ℕ)) (form : Form) → words ≡ codes "rename" ∷ text_words form (key.now ∷ []) → MayBegin form (key.now ∷ [])
      → mistake ≡ NoNewKey key None → IsMistakeAt words mistake
  no_text : (key : Bor (List ℕ)) (form : Form) → words ≡ codes "set-comment" ∷ text_words form (key.now ∷ []) → MayBegin form (key.now ∷ [])
      → mistake ≡ NoText key → IsMistakeAt words mistake
  assignments : (key value : Bor (List ℕ)) (others : List (List ℕ)) → words ≡ codes "set" ∷ (key.now ∷ (value.now ∷ others))
      → IsAssignment key.now → IsAssignment value.now → mistake ≡ TwoAssignments key value None → IsMistakeAt words mistake
  odd_key : (key value : Bor (List ℕ)) (others : List (List ℕ)) → words ≡ codes "set" ∷ (key.now ∷ (value.now ∷ others)) → is_odd key.now ≡ true
      → mistake ≡ OddKey key value None → IsMistakeAt words mistake
  odd_name : (old new : Bor (List ℕ)) (others : List (List ℕ)) → words ≡ codes "rename" ∷ (old.now ∷ (new.now ∷ others)) → old.now ≢ codes "--"
      → is_odd new.now ≡ true → mistake ≡ OddName old new None → IsMistakeAt words mistake

-- The arguments are those of edits up to some that begin with no edit, and this is what is wrong with those.
pub record AreWrong (words : List (List ℕ)) (mistake : Mistake) : Type 0 where
  pub before : List WrittenEdit
  pub rest : List (List ℕ)
  pub is : words ≡ written_words before ++ rest
  pub wrong : IsMistakeAt rest mistake

-- What the arguments give: the edits that they ask for; or they ask for none, and the mistake says why, or memory ran
-- out. The arguments are the first command and what comes after its options. A later command has no options: an
-- argument there that begins with a dash is a key.
abbrev pub GivesEdits : List (List ℕ) → Result (Vec AskedEdit) Mistake → Type 0
GivesEdits words (Ok edits) = AreWordsOfEdits words (asked_edits edits.items)
GivesEdits words (Err mistake) = mistake ≢ Memory → AreWrong words mistake × ((edits : List WrittenEdit) → words ≡ written_words edits → ⊥)

-- ---- what the code finds on the way

-- the edit of borrowed texts
abbrev pub borrowed_edit : BorrowedEdit → Edit
borrowed_edit (Borrowed.Set key value) = set (string_bytes key.now) (string_bytes value.now)
borrowed_edit (Borrowed.Remove key) = remove (string_bytes key.now)
borrowed_edit (Borrowed.Rename old new) = rename (string_bytes old.now) (string_bytes new.now)
borrowed_edit (Borrowed.SetComment key text) = set_comment (string_bytes key.now) (string_bytes text.now)

-- the edit that begins the arguments and those after it; or what is wrong with their front, if there are any
abbrev pub TakesEdit : {Z : Type 0} → List (List ℕ) → Result (BorrowedEdit × Bor (List (String Z))) Mistake → Type 0
TakesEdit words (Ok next) =
    (form : Form) × MayBeWritten form (borrowed_edit next.0) × (words ≡ edit_words form (borrowed_edit next.0) ++ map string_bytes next.1.now)
TakesEdit words (Err mistake) = words ≢ [] → IsMistakeAt words mistake

-- The texts are written so by the arguments.
abbrev pub AreAfterDashes : List (List ℕ) → List (List ℕ) → Type 0
AreAfterDashes words texts = (form : Form) × (words ≡ text_words form texts) × MayBegin form texts

-- No plain arguments begin with a key and a value that both look like NAME=TEXT, or with an odd key; or the mistake names these.
abbrev pub RefusesSlips : List (List ℕ) → Result Unit Mistake → Type 0
RefusesSlips words (Ok _) = (key value : List ℕ) (others : List (List ℕ)) → words ≡ key ∷ (value ∷ others)
    → (IsAssignment key → IsAssignment value → ⊥) × (is_odd key ≡ false)
RefusesSlips words (Err mistake) = IsMistakeAt (codes "set" ∷ words) mistake

-- No plain arguments begin with a key and an odd new name.
abbrev pub RefusesOddName : List (List ℕ) → Result Unit Mistake → Type 0
RefusesOddName words (Ok _) = (old new : List ℕ) (others : List (List ℕ)) → words ≡ old ∷ (new ∷ others) → old ≢ codes "--" → is_odd new ≡ false
RefusesOddName words (Err mistake) = IsMistakeAt (codes "rename" ∷ words) mistake
