-- Edits in turn, each made to what the one before it gave: a key is set or removed, or a value is set in place.
-- Source: java.util.Properties of Java SE 7, setProperty and load (a later pair takes the place of an earlier one).
use Rattle.std.specs.Prelude.{◌≡◌, All, ℕ, List, [], ◌∷◌, ◌⊎◌, true, false, Option}
use Rattle.properties_format.specs.Text.{scalar}
use Rattle.properties_format.specs.Encoding.{Repertoire, Encoding, byte_order_mark}
use Rattle.properties_format.specs.Edited.{IsKeySet, IsKeyRemoved, EditResult, IsEditResult, edited, unsupported, unreadable, is_editable}
use Rattle.properties_format.specs.Valued.{IsValueSet}
use Rattle.properties_format.specs.Lines.{end}
use Rattle.properties_format.specs.Escapes.{Malformed}
use Rattle.properties_format.specs.Items.{pair, Entry, item, Outcome, given}
use Rattle.properties_format.specs.Found.{AreFound, MalformedEscape, AreMalformedEscapes}
use Rattle.properties_format.specs.Maps.{AreKeys, IsValue}

-- an edit: a key to set and its value, a key to remove, or a key whose value to set in place
pub data Edit : Type 0 where
  put : List ℕ → List ℕ → Edit
  remove : List ℕ → Edit
  set_value : List ℕ → List ℕ → Edit

-- the result is the source after this edit; the repertoire says what may stand unescaped in what is put in
abbrev pub IsEdited : Repertoire → List ℕ → Edit → List ℕ → Type 0
IsEdited r source (put key value) result = IsKeySet r source key value result
IsEdited r source (remove key) result = IsKeyRemoved r.encoding source key result
IsEdited r source (set_value key value) result = IsValueSet r source key value result

-- the result is the source after these edits, each made to what the one before it gave
abbrev pub AreEdited : Repertoire → List ℕ → List Edit → List ℕ → Type 0
AreEdited r source [] result = result ≡ source
AreEdited r source (edit ∷ edits) result = (next : List ℕ) × IsEdited r source edit next × AreEdited r next edits result

-- the texts that an edit puts in are of scalar values
abbrev pub IsScalarEdit : Edit → Type 0
IsScalarEdit (put key value) = All scalar key × All scalar value
IsScalarEdit (remove key) = Unit {0}
IsScalarEdit (set_value key value) = All scalar key × All scalar value

-- the texts that these edits put in are of scalar values
abbrev pub AreScalarEdits : List Edit → Type 0
AreScalarEdits [] = Unit {0}
AreScalarEdits (edit ∷ edits) = IsScalarEdit edit × AreScalarEdits edits

-- the results of edits in turn
abbrev pub IsEditAllResult : Repertoire → List ℕ → List Edit → EditResult → Type 0
IsEditAllResult r source edits result = IsEditResult r.encoding source (AreEdited r source edits) result

-- ---- Edits that ask nothing of comments: a source is refused for a malformed escape in a pair alone.
-- Source: java.util.Properties of Java SE 7, load (comment lines are passed over) and setProperty.

-- All of the malformed escapes are in comments.
abbrev pub AreInComments : List MalformedEscape → Type 0
AreInComments [] = Unit {0}
AreInComments (m ∷ ms) = (m.in_comment ≡ true) × AreInComments ms

-- None of them is.
abbrev pub AreInPairs : List MalformedEscape → Type 0
AreInPairs [] = Unit {0}
AreInPairs (m ∷ ms) = (m.in_comment ≡ false) × AreInPairs ms

-- The first of them that is in a pair is malformed in this way, and in the line with this number.
abbrev pub IsFirstInPair : Malformed → ℕ → List MalformedEscape → Type 0
IsFirstInPair kind n [] = ⊥
IsFirstInPair kind n (m ∷ ms) =
    (m.in_comment ≡ false) × (m.kind ≡ kind) × (m.number ≡ n) ⊎ (m.in_comment ≡ true) × IsFirstInPair kind n ms

-- The malformed escapes of the source have this property.
abbrev pub EscapesAre : Encoding → List ℕ → (List MalformedEscape → Type 0) → Type 0
EscapesAre e source Such = (escapes : List MalformedEscape) × AreMalformedEscapes e source escapes × Such escapes

-- The result of an edit that makes such bytes of the source and asks nothing of comments. The encoding is tested first:
-- if it can't be edited, the result is `unsupported`. Otherwise the result is the first malformed escape in a pair, or
-- the edited bytes if there is none.
abbrev pub IsPairsResult : Encoding → List ℕ → (List ℕ → Type 0) → EditResult → Type 0
IsPairsResult e source Makes unsupported = is_editable (byte_order_mark e source).encoding ≡ false
IsPairsResult e source Makes (unreadable kind n) =
    (is_editable (byte_order_mark e source).encoding ≡ true) × EscapesAre e source (IsFirstInPair kind n)
IsPairsResult e source Makes (edited result) =
    (is_editable (byte_order_mark e source).encoding ≡ true) × EscapesAre e source AreInComments × Makes result

-- the results of edits in turn that ask nothing of comments
abbrev pub IsEditPairsResult : Repertoire → List ℕ → List Edit → EditResult → Type 0
IsEditPairsResult r source edits result = IsPairsResult r.encoding source (AreEdited r source edits) result

-- ---- the value of a key

-- the entry of a pair, before those of the groups after it; whatever else a group gives has none
abbrev pub pair_from : ℕ → Outcome → List Entry → List Entry
pair_from n (given (pair key value)) rest = item n (pair key value) ∷ rest
pair_from n outcome rest = rest

-- These are the pairs of an input in an encoding.
abbrev pub ArePairs : Encoding → List ℕ → List Entry → Type 0
ArePairs e bytes pairs = AreFound (λ number x. pair_from number) e bytes end pairs

-- The value of a key in a source whose malformed escapes are all in comments.
pub record HasPairValue (e : Encoding) (source key : List ℕ) (value : Option (List ℕ)) : Type 0 where
  pub in_comments : EscapesAre e source AreInComments
  pub pairs : List Entry
  pub are : ArePairs e source pairs
  pub is : IsValue pairs key value

-- The keys of such a source, each once, in the order of their first pairs.
pub record HasPairKeys (e : Encoding) (source : List ℕ) (keys : List (List ℕ)) : Type 0 where
  pub in_comments : EscapesAre e source AreInComments
  pub pairs : List Entry
  pub are : ArePairs e source pairs
  pub is : AreKeys pairs keys
