-- A source in which a key has another name: of each pair with the key, only the bytes of the key are replaced.
-- Source: java.util.Properties of Java SE 7, load and store (how a key is distinguished, and how it is written).
use Rattle.std.specs.Prelude.{◌≡◌, ◌≢◌, ◌⊎◌, ℕ, ◌+◌, ◌&&◌, Bool, true, false, if◌then◌else◌, List, [], ◌∷◌, ◌++◌, length, Result, Ok, Err}
use Rattle.std.specs.Global.{Vec}
use Rattle.properties_format.specs.Text.{backslash, equals_sign, begins, is_blank, is_blanks, is_empty}
use Rattle.properties_format.specs.Encoding.{Encoding, Repertoire, byte_order_mark, repertoire_in_force}
use Rattle.properties_format.specs.Lines.{joined}
use Rattle.properties_format.specs.Split.{AreBlanks, IsPair}
use Rattle.properties_format.specs.Printing.{printed_key, encoded_text}
use Rattle.properties_format.specs.Body.{HeldLine, HasKey, NoneHasKey, as_lines, group_bytes, held_in}
use Rattle.properties_format.specs.Edited.{bom_of}
use Rattle.properties_items.specs.Errors.{IsBareError}
use Rattle.properties_items.specs.declared.error.ErrorKind.TheVariants as kind
use Rattle.properties_editing.specs.Editing.{EditsWith, asked_for}
use Rattle.properties_editing.specs.Views.{AreGiven, IsCutBehind}
use Rattle.properties_editing.specs.declared.source.SourceOptions.{SourceOptions}
use Rattle.properties_renaming.specs.declared.renaming.RenameError.{RenameError}
use Rattle.properties_renaming.specs.declared.renaming.RenameError.TheVariants.{Source, NoKey, KeyTaken}

-- ---- where the key of a pair is

-- Each of the lines is blank, and ends in a backslash that joins it to the next line.
abbrev pub AreJoinedBlanks : List HeldLine → Type 0
AreJoinedBlanks [] = Unit {0}
AreJoinedBlanks (h ∷ hs) = ((blanks : List ℕ) × AreBlanks blanks × (h.bytes ≡ blanks ++ backslash ∷ [])) × AreJoinedBlanks hs

-- The bytes before the key of a pair: all lines of this kind that its group begins with, and the blanks at the front of
-- the line after them.
pub record IsBeforeKey (group : List HeldLine) (front : List ℕ) : Type 0 where
  pub kept : List HeldLine
  pub line : HeldLine
  pub more : List HeldLine
  pub division : group ≡ kept ++ line ∷ more
  pub joined : AreJoinedBlanks kept
  pub indent : List ℕ
  pub rest : List ℕ
  pub cut : line.bytes ≡ indent ++ rest
  pub indent_blank : AreBlanks indent
  pub rest_full : begins is_blank rest ≡ false
  pub not_blank : rest ≢ []
  pub not_joined : rest ≢ backslash ∷ []
  pub bytes : front ≡ group_bytes kept ++ indent

-- These bytes go up to the end of the key; an empty key is directly before what separates it from the value.
abbrev pub IsThroughKey : (e : Encoding) (group : List HeldLine) (indent key front old : List ℕ) → Type 0
IsThroughKey e group indent key front old =
    (key ≡ []) × (old ≡ []) ⊎ (key ≢ []) × (cut : IsCutBehind e group (indent ++ key)) × (front ++ old ≡ group_bytes cut.kept ++ cut.head)

-- ---- a key gets another name

-- what is put in for a key: its printed form; or an equals sign, if it is empty and blanks alone, or nothing, separate
-- it from the value; the flag says whether it is at the front of a body
abbrev pub key_text : Repertoire → Bool → List ℕ → List ℕ → List ℕ
key_text r first between [] = if is_blanks between then equals_sign ∷ [] else []
key_text r first between (c ∷ cs) = printed_key r first (c ∷ cs)

-- The bytes are those of the pair with another key in place of the old one: what comes before the key and behind it
-- stays.
pub record IsRekeyed (r : Repertoire) (first : Bool) (group : List HeldLine) (new bytes : List ℕ) : Type 0 where
  pub key : List ℕ
  pub value : List ℕ
  pub is_pair : IsPair (joined (as_lines group)) key value
  pub front : List ℕ
  pub old : List ℕ
  pub back : List ℕ
  pub whole : group_bytes group ≡ front ++ (old ++ back)
  pub before : IsBeforeKey group front
  pub through : IsThroughKey r.encoding group is_pair.indent key front old
  pub bytes_are : bytes ≡ front ++ (encoded_text r.encoding (key_text r (first && is_empty front) is_pair.between new) ++ back)

-- The bytes are those of the groups, in order, each pair with the old key with the new one.
abbrev pub AreRekeyed : Repertoire → List ℕ → List ℕ → Bool → List (List HeldLine) → List ℕ → Type 0
AreRekeyed r old new first [] bytes = bytes ≡ []
AreRekeyed r old new first (g ∷ gs) bytes =
    (made : List ℕ) × (more : List ℕ) × (HasKey old g × IsRekeyed r first g new made ⊎ ¬ (HasKey old g) × (made ≡ group_bytes g))
    × (bytes ≡ made ++ more)
    × AreRekeyed r old new false gs more

-- ---- a source

-- The groups of a source, in the encoding in force.
abbrev pub AreIn : Encoding → List ℕ → List (List HeldLine) → Type 0
AreIn e source groups = AreGiven (byte_order_mark e source).encoding (byte_order_mark e source).body groups

-- The result is the source with the new key in place of the old one. A pair has the old key, and none has the new one.
-- The byte order mark stays.
pub record IsRenamed (r : Repertoire) (source old new result : List ℕ) : Type 0 where
  pub groups : List (List HeldLine)
  pub held : AreIn r.encoding source groups
  pub is_there : ¬ (NoneHasKey old groups)
  pub is_free : NoneHasKey new groups
  pub body : List ℕ
  pub renamed : AreRekeyed (repertoire_in_force r source) old new true groups body
  pub whole : result ≡ bom_of source ++ body

-- A key that is to have the name that it has changes nothing, if a pair has it.
pub record IsKept (e : Encoding) (source key result : List ℕ) : Type 0 where
  pub groups : List (List HeldLine)
  pub held : AreIn e source groups
  pub is_there : ¬ (NoneHasKey key groups)
  pub same : result ≡ source

-- ---- what stays

-- Bytes that stay, and what is put in for those behind them.
pub record Replaced : Type 0 where
  pub kept : List ℕ
  pub old : List ℕ
  pub new : List ℕ

-- the bytes before all of these were replaced, and those after that; the last of them stay
abbrev pub with_old : List Replaced → List ℕ → List ℕ
with_old [] last = last
with_old (p ∷ ps) last = p.kept ++ (p.old ++ with_old ps last)

abbrev pub with_new : List Replaced → List ℕ → List ℕ
with_new [] last = last
with_new (p ∷ ps) last = p.kept ++ (p.new ++ with_new ps last)

-- What is put in is what is put in for a key.
abbrev pub ArePrinted : Repertoire → List ℕ → List Replaced → Type 0
ArePrinted r key [] = Unit {0}
ArePrinted r key (p ∷ ps) = ((first : Bool) × (between : List ℕ) × (p.new ≡ encoded_text r.encoding (key_text r first between key))) × ArePrinted r key ps

-- Both are the same bytes, but for the printed key that is put in.
pub record AreAlike (r : Repertoire) (key old new : List ℕ) : Type 0 where
  pub parts : List Replaced
  pub last : List ℕ
  pub printed : ArePrinted r key parts
  pub old_is : old ≡ with_old parts last
  pub new_is : new ≡ with_new parts last

-- ---- what a call returns

-- No pair has the key.
abbrev pub LacksKey : Encoding → List ℕ → List ℕ → Type 0
LacksKey e source key = (groups : List (List HeldLine)) × AreIn e source groups × NoneHasKey key groups

-- A pair has the old key, and the first pair with the new one begins in this line.
pub record IsTaken (e : Encoding) (source old new : List ℕ) (number : ℕ) : Type 0 where
  pub groups : List (List HeldLine)
  pub held : AreIn e source groups
  pub is_there : ¬ (NoneHasKey old groups)
  pub before : List (List HeldLine)
  pub group : List HeldLine
  pub after : List (List HeldLine)
  pub division : groups ≡ before ++ group ∷ after
  pub none_before : NoneHasKey new before
  pub has_key : HasKey new group
  pub is_number : number ≡ length (held_in before) + 1

-- The source can be edited: no edit at all gives these bytes.
abbrev pub IsEditable : SourceOptions → List ℕ → Type 0
IsEditable options source = (bytes : Vec ℕ) × EditsWith options source [] (Ok bytes)

-- The result is the source with a key renamed, or the source if the key is to have the name that it has.
abbrev pub HasNewName : SourceOptions → List ℕ → List ℕ → List ℕ → List ℕ → Type 0
HasNewName options source old new result =
    (old ≢ new) × IsRenamed (asked_for options) source old new result × AreAlike (repertoire_in_force (asked_for options) source) new source result
    ⊎ (old ≡ new) × IsKept (asked_for options).encoding source old result

-- The source with a key renamed; or no pair has the key, or one has the new key, which is looked at after the other; or
-- an edit would be refused with this error, or memory ran out.
abbrev pub RenamesKey : SourceOptions → List ℕ → List ℕ → List ℕ → Result (Vec ℕ) RenameError → Type 0
RenamesKey options source old new (Ok bytes) = IsEditable options source × HasNewName options source old new bytes.items
RenamesKey options source old new (Err NoKey) = IsEditable options source × LacksKey (asked_for options).encoding source old
RenamesKey options source old new (Err (KeyTaken number)) =
    IsEditable options source × (old ≢ new) × IsTaken (asked_for options).encoding source old new number
RenamesKey options source old new (Err (Source error)) =
    EditsWith options source [] (Err error) ⊎ IsEditable options source × IsBareError kind.Memory error
