-- How keys are renamed in one pass, or in turn.
use Rattle.std.specs.Prelude.{◌≡◌, ◌≢◌, ◌⊎◌, ◌++◌, ℕ, ◌<◌, ◌≤◌, Bool, true, false, if◌then◌else◌, List, [], ◌∷◌, bytes_eq, get_or, length, take, not, Option, Some, None, Result, Ok, Err}
use Rattle.std.specs.Option.{unwrap_or}
use Rattle.std.specs.Global.{Vec}
use Rattle.std.specs.declared.string.String.{String}
use Rattle.properties_format.specs.Encoding.{Repertoire, byte_order_mark, repertoire_in_force}
use Rattle.properties_format.specs.Body.{HasKey, HeldLine, NoneHasKey, group_bytes}
use Rattle.properties_format.specs.Edited.{bom_of, is_editable}
use Rattle.properties_items.specs.declared.error.ErrorKind.TheVariants as kind
use Rattle.properties_items.specs.declared.error.PropertiesError.{PropertiesError}
use Rattle.properties_items.specs.Errors.{IsBareError}
use Rattle.properties_editing.specs.Editing.{asked_for}
use Rattle.properties_editing.specs.declared.source.SourceOptions.{SourceOptions}
use Rattle.properties_renaming.specs.Laws.{IsName}
use Rattle.properties_renaming.specs.Private.Keyed.{value_at}
use Rattle.properties_renaming.specs.Private.Renaming.{AreMade, IsFirstWith}
use Rattle.properties_renaming.specs.Renaming.{AreIn, IsRekeyed, IsTaken, LacksKey}
use Rattle.properties_renaming.specs.Renames.{AreRenamedInTurn, IsRefusedAt, NewName, name_in, names_in}
use Rattle.properties_renaming.specs.declared.renaming.RenameError.{RenameError}
use Rattle.properties_renaming.specs.declared.renaming.RenameError.TheVariants.{Source, NoKey, KeyTaken}
use Rattle.properties_renaming.specs.declared.renames.Rename.{Rename}
use Rattle.properties_renaming.specs.declared.renames.RenamesError.{RenamesError}
use Rattle.properties_renaming.specs.declared.renames.RenamesError.TheVariants as many
use Rattle.properties_renaming.specs.declared.renames.Role.{Role}
use Rattle.properties_renaming.specs.declared.renames.Pass.{Pass}
use Rattle.properties_renaming.specs.declared.renames.Roles.{Roles}
use Rattle.properties_renaming.specs.declared.renames.Run.{Run}

-- ---- one rename of a list

-- It is refused for this reason, or memory ran out.
abbrev pub IsRefusedFor : SourceOptions → List ℕ → NewName → RenameError → Type 0
IsRefusedFor options source n NoKey = LacksKey (asked_for options).encoding source n.old
IsRefusedFor options source n (KeyTaken number) = (n.old ≢ n.new) × IsTaken (asked_for options).encoding source n.old n.new number
IsRefusedFor options source n (Source error) = IsBareError kind.Memory error

-- The source can be edited, as far as its encoding says.
abbrev pub IsInEditableEncoding : SourceOptions → List ℕ → Type 0
IsInEditableEncoding options source = is_editable (byte_order_mark (asked_for options).encoding source).encoding ≡ true

abbrev pub error_at : ℕ → RenameError → RenamesError
error_at index (Source error) = many.Source error
error_at index NoKey = many.NoKey index
error_at index (KeyTaken number) = many.KeyTaken index number

-- several keys, in such a source
abbrev pub RenamesInTurn : SourceOptions → List ℕ → List NewName → Result (Vec ℕ) RenamesError → Type 0
RenamesInTurn options source names (Ok bytes) = AreRenamedInTurn options source names bytes.items
RenamesInTurn options source names (Err (many.NoKey index)) =
    IsRefusedAt options source names index (λ left name. LacksKey (asked_for options).encoding left name.old)
RenamesInTurn options source names (Err (many.KeyTaken index number)) =
    IsRefusedAt options source names index (λ left name. (name.old ≢ name.new) × IsTaken (asked_for options).encoding left name.old name.new number)
RenamesInTurn options source names (Err (many.Source error)) = IsBareError kind.Memory error

-- The first of these renames were made, and how many these are.
pub record MakesFirst (options : SourceOptions) (source : List ℕ) (renames : List Rename) (run : Run) : Type 0 where
  pub some : 0 < run.count
  pub within : run.count ≤ length renames
  pub made : AreRenamedInTurn options source (names_in (take run.count renames)) run.bytes.items

-- Or the first one is refused.
abbrev pub RenamesSome : SourceOptions → List ℕ → List Rename → Result Run RenameError → Type 0
RenamesSome options source renames (Ok run) = MakesFirst options source renames run
RenamesSome options source [] (Err error) = Unit {0}
RenamesSome options source (r ∷ rs) (Err error) = IsRefusedFor options source (name_in r) error

-- ---- several renames in one pass

-- whether a pair has to have a key before these renames, or none may: the first of them with that name decides
abbrev pub needed : List NewName → List ℕ → Option Bool
needed [] key = None
needed (n ∷ ns) key = if bytes_eq key n.old then Some true else (if bytes_eq key n.new then Some false else needed ns key)

-- the name that a key has after these renames, if one of them gives it another
abbrev pub last_name : List NewName → List ℕ → Option (List ℕ)
last_name [] key = None
last_name (n ∷ ns) key =
    if bytes_eq n.old n.new then last_name ns key
    else (if bytes_eq key n.old then Some (unwrap_or (last_name ns n.new) n.new) else last_name ns key)

-- The first rename leaves the keys that these need, and gives the empty name only if there are none.
abbrev pub IsMakeable : NewName → List NewName → Type 0
IsMakeable n ns =
    (n.old ≡ n.new) × (needed ns n.old ≢ Some false)
    ⊎ (n.old ≢ n.new) × (IsName n.new ⊎ ns ≡ []) × (needed ns n.old ≢ Some true) × (needed ns n.new ≢ Some false)

abbrev pub AreMakeable : List NewName → Type 0
AreMakeable [] = Unit {0}
AreMakeable (n ∷ ns) = IsMakeable n ns × AreMakeable ns

-- A pair gets the last name of its key; a group without such a key stays.
abbrev pub IsGivenBy : Repertoire → List NewName → Bool → List HeldLine → List ℕ → Type 0
IsGivenBy r names first g made =
    ((key : List ℕ) × (new : List ℕ) × HasKey key g × (last_name names key ≡ Some new) × IsRekeyed r first g new made)
    ⊎ ((key : List ℕ) → HasKey key g → last_name names key ≡ None) × (made ≡ group_bytes g)

-- ---- the roles of names

-- This rename of a list gives the name, or none does.
abbrev pub IsNewAt : List NewName → Option (List ℕ) → Option ℕ → Type 0
IsNewAt names new None = new ≡ None
IsNewAt names new (Some i) = (i < length names) × ((d : NewName) → new ≡ Some (get_or names i d).new)

-- What the role of a key means, for some renames of a list. A key without a role is none of their names.
abbrev pub IsRoleIn : (all : List NewName) (names : List NewName) (key : List ℕ) → Option Role → Type 0
IsRoleIn all names key None = needed names key ≡ None
IsRoleIn all names key (Some role) = (needed names key ≡ Some role.is_needed) × IsNewAt all (last_name names key) role.last

-- These are the roles of the names of these renames of a list.
abbrev pub AreRolesOf : {Y : Type 0} → List NewName → List NewName → List (String Y × Role) → Type 0
AreRolesOf all names roles = (key : List ℕ) → IsRoleIn all names key (value_at roles key)

-- They are those of all of them, and tell whether one pass can make them.
pub record HasRoles (names : List NewName) (roles : Roles) : Type 0 where
  pub are : AreRolesOf names names roles.names.entries
  pub makes : roles.is_makeable ≡ true → AreMakeable names

-- A rename that comes before these can be made with them.
abbrev pub TellsMakeable : {Y : Type 0} → List (String Y × Role) → NewName → Bool → Type 0
TellsMakeable roles n makeable = makeable ≡ true → (all ns : List NewName) → AreRolesOf all ns roles → IsMakeable n ns

-- Its names are given their roles.
abbrev pub AddsNames : {Y : Type 0} → List (String Y × Role) → ℕ → NewName → List (String Y × Role) → Type 0
AddsNames old index n new =
    (all ns : List NewName) → index < length all → ((d : NewName) → get_or all index d ≡ n) → AreRolesOf all ns old → AreRolesOf all (n ∷ ns) new

-- whether a pair has to have a name with this role, or none may
abbrev pub asks : Option Role → Bool → Bool
asks None needs = false
asks (Some role) needs = if role.is_needed then needs else not needs

abbrev pub last_in : Option Role → Option ℕ
last_in None = None
last_in (Some role) = role.last

-- the rename that gives the old key of one with this index the last name, given the one for its new key among those after it
abbrev pub first_last : Bool → ℕ → Option ℕ → Option ℕ
first_last is_kept index later = if is_kept then later else Some (unwrap_or later index)

-- ---- a pass

-- In which line the first of these groups with the key begins, if one has it.
abbrev pub TellsFirst : List ℕ → List (List HeldLine) → Option ℕ → Type 0
TellsFirst key groups None = NoneHasKey key groups
TellsFirst key groups (Some number) = IsFirstWith key groups number

-- Each key that a pair has to have, or that none may have, and the line of the first pair with it.
abbrev pub AreLinesOf : {Y : Type 0} → List NewName → List (List HeldLine) → List (String Y × ℕ) → Type 0
AreLinesOf names groups lines = (key : List ℕ) (needs : Bool) → needed names key ≡ Some needs → TellsFirst key groups (value_at lines key)

-- Each pair got the last name of its key.
pub record HasPassed (r : Repertoire) (source : List ℕ) (names : List NewName) (pass : Pass) : Type 0 where
  pub groups : List (List HeldLine)
  pub held : AreIn r.encoding source groups
  pub lines : AreLinesOf names groups pass.lines.entries
  pub body : List ℕ
  pub made : AreMade (IsGivenBy (repertoire_in_force r source) names) true groups body
  pub whole : pass.bytes.items ≡ bom_of source ++ body

-- Or the encoding can't be edited, or memory ran out.
abbrev pub Passes : Repertoire → List ℕ → List NewName → Result Pass PropertiesError → Type 0
Passes r source names (Ok pass) = HasPassed r source names pass
Passes r source names (Err error) =
    (is_editable (byte_order_mark r.encoding source).encoding ≡ false) × IsBareError kind.Unsupported error ⊎ IsBareError kind.Memory error

-- ---- what a pass met

-- A rename isn't refused, if the first pairs with these names begin in these lines.
abbrev pub IsAccepted : {Y : Type 0} → List NewName → List (String Y × ℕ) → NewName → Type 0
IsAccepted names lines n =
    (needed names n.old ≡ Some true → value_at lines n.old ≢ None) × (needed names n.new ≡ Some false → value_at lines n.new ≡ None)

-- Or it is, for this reason.
abbrev pub TellsRefusal : {Y : Type 0} → List NewName → List (String Y × ℕ) → NewName → Option RenameError → Type 0
TellsRefusal names lines n None = IsAccepted names lines n
TellsRefusal names lines n (Some NoKey) = (needed names n.old ≡ Some true) × (value_at lines n.old ≡ None)
TellsRefusal names lines n (Some (KeyTaken number)) =
    (needed names n.old ≡ Some true → value_at lines n.old ≢ None) × (needed names n.new ≡ Some false) × (value_at lines n.new ≡ Some number)
TellsRefusal names lines n (Some (Source error)) = ⊥

abbrev pub AreAccepted : {Y : Type 0} → List NewName → List (String Y × ℕ) → List NewName → Type 0
AreAccepted names lines [] = Unit {0}
AreAccepted names lines (n ∷ ns) = IsAccepted names lines n × AreAccepted names lines ns

-- None of them is refused, or this one is.
abbrev pub TellsFirstRefused : {Y : Type 0} → List NewName → List (String Y × ℕ) → Option (ℕ × RenameError) → Type 0
TellsFirstRefused names lines None = AreAccepted names lines names
TellsFirstRefused names lines (Some (index, error)) = (index < length names) × ((d : NewName) → TellsRefusal names lines (get_or names index d) (Some error))
