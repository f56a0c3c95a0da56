-- What an edit changes: in a source's contents, in its map and in its bytes.
-- Source: java.util.Properties of Java SE 7, setProperty and load (a later pair takes the place of an earlier one).
use Rattle.std.specs.Prelude.{◌≡◌, ◌≢◌, ◌⊎◌, bytes_eq, ℕ, if◌then◌else◌, List, [], ◌∷◌, ◌++◌, Option, Some, None}
use Rattle.properties_format.specs.Encoding.{Encoding, byte_order_mark, Repertoire}
use Rattle.properties_format.specs.Lines.{end, Line, joined}
use Rattle.properties_format.specs.Items.{Content, comment, pair, Entry, item, AreItems, IsItems, Outcome, ignored, given, IsOutcome}
use Rattle.properties_format.specs.Maps.{IsMap}
use Rattle.properties_format.specs.Body.{AreGroupsOf, HasKey, HeldLine, NoneHasKey, group_bytes, as_groups}
use Rattle.properties_format.specs.Edits.{Edit, put, remove, set_value, IsEdited}
use Rattle.properties_format.specs.Valued.{KeepsFront}

-- the contents of the items, in order
abbrev pub contents : List Entry → List Content
contents [] = []
contents (item n content ∷ entries) = content ∷ contents entries
contents (entry ∷ entries) = contents entries

-- None of these is a pair with the key.
abbrev pub HoldNoPair : List ℕ → List Content → Type 0
HoldNoPair key [] = Unit {0}
HoldNoPair key (comment text ∷ cs) = HoldNoPair key cs
HoldNoPair key (pair k v ∷ cs) = (k ≢ key) × HoldNoPair key cs

-- The last pair with the key has this value instead of its old one, and all other contents are unchanged.
pub record IsLastChanged (key value : List ℕ) (old new : List Content) : Type 0 where
  pub before : List Content
  pub old_value : List ℕ
  pub after : List Content
  pub was : old ≡ before ++ pair key old_value ∷ after
  pub no_later : HoldNoPair key after
  pub now : new ≡ before ++ pair key value ∷ after

-- The key is set: the last pair with it has the new value; or, if no pair has the key, there is a new last pair.
abbrev pub IsSetIn : List ℕ → List ℕ → List Content → List Content → Type 0
IsSetIn key value old new = IsLastChanged key value old new ⊎ HoldNoPair key old × (new ≡ old ++ pair key value ∷ [])

-- The key is removed: every pair with it is left out, and all other contents are unchanged.
abbrev pub IsRemovedIn : List ℕ → List Content → List Content → Type 0
IsRemovedIn key [] new = new ≡ []
IsRemovedIn key (comment text ∷ cs) new = (more : List Content) × (new ≡ comment text ∷ more) × IsRemovedIn key cs more
IsRemovedIn key (pair k v ∷ cs) new =
    (k ≡ key) × IsRemovedIn key cs new ⊎ (k ≢ key) × (more : List Content) × (new ≡ pair k v ∷ more) × IsRemovedIn key cs more

-- the contents after one edit, and after several edits in order
abbrev pub IsEditedIn : Edit → List Content → List Content → Type 0
IsEditedIn (put key value) old new = IsSetIn key value old new
IsEditedIn (remove key) old new = IsRemovedIn key old new
IsEditedIn (set_value key value) old new = IsSetIn key value old new

abbrev pub AreEditedIn : List Edit → List Content → List Content → Type 0
AreEditedIn [] old new = new ≡ old
AreEditedIn (edit ∷ edits) old new = (next : List Content) × IsEditedIn edit old next × AreEditedIn edits next new

-- ---- The map.

-- the map with a key set or removed
abbrev pub map_edited : Edit → (List ℕ → Option (List ℕ)) → List ℕ → Option (List ℕ)
map_edited (put key value) value_at k = if bytes_eq k key then Some value else value_at k
map_edited (remove key) value_at k = if bytes_eq k key then None else value_at k
map_edited (set_value key value) value_at k = if bytes_eq k key then Some value else value_at k

-- the map after these edits, in order
abbrev pub map_after : List Edit → (List ℕ → Option (List ℕ)) → List ℕ → Option (List ℕ)
map_after [] value_at k = value_at k
map_after (edit ∷ edits) value_at k = map_after edits (map_edited edit value_at) k

-- ---- What is guaranteed of a result.

-- The result has no malformed entry. Its contents are those of the source with this edit, and its map is the source's
-- map with this change.
pub record IsReadAfter (IsEdit : List Content → List Content → Type 0) (change : (List ℕ → Option (List ℕ)) → List ℕ → Option (List ℕ)) (old new : List Entry) : Type 0 where
  pub readable : AreItems new
  pub is_edit : IsEdit (contents old) (contents new)
  pub mapped : (value_at : List ℕ → Option (List ℕ)) → IsMap old value_at → IsMap new (change value_at)

-- Read in the same encoding, the result relates to the source as `IsReadAfter` says.
abbrev pub ReadsAfter :
    (List Content → List Content → Type 0) → ((List ℕ → Option (List ℕ)) → List ℕ → Option (List ℕ)) → Encoding → List ℕ → List ℕ → Type 0
ReadsAfter IsEdit change e source result = (old new : List Entry) → IsItems e source end old → IsItems e result end new → IsReadAfter IsEdit change old new

-- The bytes of these groups are found in `bytes` in order, possibly with other bytes before, between and after them.
abbrev pub OccurIn : List (List HeldLine) → List ℕ → Type 0
OccurIn [] bytes = Unit {0}
OccurIn (g ∷ gs) bytes = (front : List ℕ) × (back : List ℕ) × (bytes ≡ front ++ (group_bytes g ++ back)) × OccurIn gs back

-- These are the others of a list: every one that is so is left out, and the rest are unchanged.
abbrev pub AreLeft : {A : Type 0} → (A → Type 0) → List A → List A → Type 0
AreLeft IsSo [] left = left ≡ []
AreLeft {A} IsSo (x ∷ xs) left = IsSo x × AreLeft IsSo xs left ⊎ ¬ (IsSo x) × (more : List A) × (left ≡ x ∷ more) × AreLeft IsSo xs more

-- these are the groups except the last pair with the key
abbrev pub AreOthersThanLast : List ℕ → List (List HeldLine) → List (List HeldLine) → Type 0
AreOthersThanLast key groups others =
    NoneHasKey key groups × (others ≡ groups)
    ⊎ (before : List (List HeldLine)) × (group : List HeldLine) × (after : List (List HeldLine)) × (groups ≡ before ++ group ∷ after) × HasKey key group
    × NoneHasKey key after
    × (others ≡ before ++ after)

-- The bytes of such groups of the source are in the result, in order.
abbrev pub KeepsOthers : (List (List HeldLine) → List (List HeldLine) → Type 0) → Encoding → List ℕ → List ℕ → Type 0
KeepsOthers Others e source result =
    (groups : List (List HeldLine)) × (others : List (List HeldLine)) × AreGroupsOf (byte_order_mark e source).encoding (byte_order_mark e source).body groups
    × Others groups others
    × OccurIn others result

-- What an edit keeps: the groups except the pair that is set, or except the pairs that are removed; and if a value is
-- set in place, every byte outside it.
abbrev pub KeepsRest : Encoding → List ℕ → Edit → List ℕ → Type 0
KeepsRest e source (put key value) result = KeepsOthers (AreOthersThanLast key) e source result
KeepsRest e source (remove key) result = KeepsOthers (AreLeft (HasKey key)) e source result
KeepsRest e source (set_value key value) result = KeepsOthers (AreOthersThanLast key) e source result × KeepsFront e source key result

-- The result is the source after these edits, each of which keeps the rest of what the one before it gave.
abbrev pub AreKept : Repertoire → List ℕ → List Edit → List ℕ → Type 0
AreKept r source [] result = result ≡ source
AreKept r source (edit ∷ edits) result =
    (next : List ℕ) × IsEdited r source edit next × KeepsRest r.encoding source edit next × AreKept r next edits result

-- ---- The logical lines of a source that can be edited: an edit changes pairs, and leaves every other line as it is.

-- the logical line of a group, given its outcome, before those of the groups after it; blank lines are left out
abbrev pub line_before : Outcome → List ℕ → List (List ℕ) → List (List ℕ)
line_before ignored x xs = xs
line_before outcome x xs = x ∷ xs

-- These are the logical lines of the groups, in order, without blank ones.
abbrev pub AreLinesOf : List (List Line) → List (List ℕ) → Type 0
AreLinesOf [] xs = xs ≡ []
AreLinesOf (group ∷ groups) xs =
    (outcome : Outcome) × (rest : List (List ℕ)) × IsOutcome (joined group) outcome × (xs ≡ line_before outcome (joined group) rest) × AreLinesOf groups rest

-- These are the logical lines of a source.
pub record AreLogicalLines (e : Encoding) (source : List ℕ) (xs : List (List ℕ)) : Type 0 where
  pub groups : List (List HeldLine)
  pub held : AreGroupsOf (byte_order_mark e source).encoding (byte_order_mark e source).body groups
  pub are : AreLinesOf (as_groups groups) xs

-- The line is a pair with this key.
abbrev pub IsPairWith : List ℕ → List ℕ → Type 0
IsPairWith key x = (value : List ℕ) × IsOutcome x (given (pair key value))

-- None of the lines is a pair with this key.
abbrev pub NoneIsPair : List ℕ → List (List ℕ) → Type 0
NoneIsPair key [] = Unit {0}
NoneIsPair key (x ∷ xs) = ¬ (IsPairWith key x) × NoneIsPair key xs

-- The last pair with the key is a line that is a pair with this value now, and all other lines are unchanged.
pub record IsLastLineChanged (key value : List ℕ) (old new : List (List ℕ)) : Type 0 where
  pub before : List (List ℕ)
  pub line : List ℕ
  pub after : List (List ℕ)
  pub changed : List ℕ
  pub was : old ≡ before ++ line ∷ after
  pub has_key : IsPairWith key line
  pub no_later : NoneIsPair key after
  pub now : new ≡ before ++ changed ∷ after
  pub has_value : IsOutcome changed (given (pair key value))

-- The key is set: the last pair with it has the new value; or, if no pair has the key, there is a new last line.
abbrev pub AreLinesSet : List ℕ → List ℕ → List (List ℕ) → List (List ℕ) → Type 0
AreLinesSet key value old new =
    IsLastLineChanged key value old new ⊎ NoneIsPair key old × (line : List ℕ) × (new ≡ old ++ line ∷ []) × IsOutcome line (given (pair key value))

-- the lines after one edit, and after several in order
abbrev pub AreLinesEdited : Edit → List (List ℕ) → List (List ℕ) → Type 0
AreLinesEdited (put key value) old new = AreLinesSet key value old new
AreLinesEdited (remove key) old new = AreLeft (IsPairWith key) old new
AreLinesEdited (set_value key value) old new = AreLinesSet key value old new

abbrev pub AreLinesEditedInTurn : List Edit → List (List ℕ) → List (List ℕ) → Type 0
AreLinesEditedInTurn [] old new = new ≡ old
AreLinesEditedInTurn (edit ∷ edits) old new = (next : List (List ℕ)) × AreLinesEdited edit old next × AreLinesEditedInTurn edits next new
