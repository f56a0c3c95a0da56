-- How a key is renamed, group after group of a view.
use Rattle.std.specs.Prelude.{◌≡◌, ◌≤◌, ◌++◌, ℕ, ◌+◌, ◌==◌, nat_le, ◌&&◌, ◌||◌, not, Bool, true, false, if◌then◌else◌, List, [], ◌∷◌, length, take, drop, Result}
use Rattle.std.specs.Str.{chars}
use Rattle.properties_format.specs.Text.{backslash, begins, equals_sign, is_blank, is_blanks, is_line_ending}
use Rattle.properties_format.specs.Encoding.{Characters, Encoding, Repertoire}
use Rattle.properties_format.specs.Split.{IsPair}
use Rattle.properties_format.specs.Printing.{encoded_text, in_prefix, printed_characters, printed_key}
use Rattle.properties_format.specs.Body.{AreGroupsOf, HasKey, HeldLine, NoneHasKey, group_bytes, held_in}
use Rattle.properties_format.specs.Edited.{is_editable}
use Rattle.properties_format.specs.Computed.Valued.{between_in}
use Rattle.properties_text.specs.Printing.{AppendsOnOk, key_bytes, text_bytes}
use Rattle.properties_text.specs.declared.print.Place.TheVariants.{Prefix}
use Rattle.properties_text.specs.declared.print.Repertoire as code
use Rattle.properties_editing.specs.Views.{OpenView}
use Rattle.properties_renaming.specs.Renaming.{IsRekeyed, key_text}
use Rattle.properties_renaming.specs.Private.Copied.{copied_to}
use Rattle.properties_renaming.specs.declared.copied.Copied.{Copied}
use Rattle.properties_renaming.specs.declared.renaming.NewKey.{NewKey}

-- ---- what joins lines before a key

-- whether the first byte is a blank, or a part of what joins two lines: a backslash before a line ending, or that ending
abbrev pub is_join : List ℕ → Bool
is_join [] = false
is_join (b ∷ bs) = is_blank b || (is_line_ending b || (b == backslash && begins is_line_ending bs))

-- the bytes after the blanks at their front, and after what joins lines there
abbrev pub past_joins : List ℕ → List ℕ
past_joins [] = []
past_joins (b ∷ bs) = if is_join (b ∷ bs) then past_joins bs else b ∷ bs

-- the later of two places
abbrev pub later : ℕ → ℕ → ℕ
later a b = if nat_le a b then b else a

-- ---- a logical line

-- The line is a pair.
abbrev pub IsAnyPair : List ℕ → Type 0
IsAnyPair x = (key : List ℕ) × (value : List ℕ) × IsPair x key value

-- whether a sign separates key and value, if the line is a pair
abbrev pub TellsSign : List ℕ → Bool → Type 0
TellsSign x sign = IsAnyPair x → sign ≡ not (is_blanks (between_in x))

-- Keys and the texts of comments are printed in the first repertoire as in the second.
pub record PrintsKeys (t : Repertoire) (r : code.Repertoire) : Type 0 where
  pub keys : (first : Bool) (key : List ℕ) → key_bytes r first key ≡ encoded_text t.encoding (printed_key t first key)
  pub comments : (text : List ℕ) → text_bytes r Prefix text ≡ encoded_text t.encoding (printed_characters t in_prefix text)
  pub sign : encoded_text t.encoding (equals_sign ∷ []) ≡ equals_sign ∷ []

-- What is put in for the key of this pair was appended.
abbrev pub AppendsKey : {E : Type 0} → code.Repertoire → Bool → List ℕ → List ℕ → List ℕ → Result Unit E → List ℕ → Type 0
AppendsKey r first x key old result new =
    IsAnyPair x → (t : Repertoire) → PrintsKeys t r → AppendsOnOk old (encoded_text t.encoding (key_text t first (between_in x) key)) result new

-- ---- a group

-- It is one of the groups of a body.
pub record IsAmong (e : Encoding) (group : List HeldLine) : Type 0 where
  pub editable : is_editable e ≡ true
  pub body : List ℕ
  pub groups : List (List HeldLine)
  pub are : AreGroupsOf e body groups
  pub before : List (List HeldLine)
  pub after : List (List HeldLine)
  pub division : groups ≡ before ++ group ∷ after

-- The bytes of the group are a part of the source.
pub record IsSlice (v : OpenView) (source : List ℕ) : Type 0 where
  pub bytes : take (length (group_bytes v.group)) (drop v.start source) ≡ group_bytes v.group
  pub within : v.start + length (group_bytes v.group) ≤ length source

-- Its key was replaced.
pub record IsRekeyedIn (t : Repertoire) (v : OpenView) (old : Copied) (key : NewKey) (new : Copied) : Type 0 where
  pub made : List ℕ
  pub rekeyed : IsRekeyed t key.first v.group (chars key.text.now) made
  pub copied : copied_to new (v.start + length (group_bytes v.group)) ≡ copied_to old v.start ++ made
  pub done : new.done ≤ v.start + length (group_bytes v.group)
  pub source_is : new.source.now ≡ old.source.now

-- in the encoding of the view, and these characters of it
abbrev pub RekeysIn : OpenView → Copied → NewKey → Copied → Type 0
RekeysIn v old key new =
    (characters : Characters) → let t : Repertoire = record { encoding = v.encoding; characters = characters } in
    PrintsKeys t key.repertoire → IsRekeyedIn t v old key new

-- ---- all groups

-- The bytes are made of the groups, in order; the flag says whether the next group is the first of a body.
abbrev pub AreMade : (Bool → List HeldLine → List ℕ → Type 0) → Bool → List (List HeldLine) → List ℕ → Type 0
AreMade Makes first [] bytes = bytes ≡ []
AreMade Makes first (g ∷ gs) bytes = (made : List ℕ) × (more : List ℕ) × Makes first g made × (bytes ≡ made ++ more) × AreMade Makes false gs more

-- The first of these groups that has the key has this number.
pub record IsFirstWith (key : List ℕ) (groups : List (List HeldLine)) (number : ℕ) : Type 0 where
  pub before : List (List HeldLine)
  pub group : List HeldLine
  pub after : List (List HeldLine)
  pub division : groups ≡ before ++ group ∷ after
  pub none_before : NoneHasKey key before
  pub has_key : HasKey key group
  pub is_number : number ≡ length (held_in before) + 1
