-- Keys are removed together with the comments of their pairs.
use Rattle.std.specs.Prelude.{◌≡◌, ◌⊎◌, ℕ, true, List, [], ◌++◌, Result, Ok, Err}
use Rattle.std.specs.Global.{Vec}
use Rattle.properties_format.specs.Encoding.{Encoding}
use Rattle.properties_format.specs.Body.{HeldLine, HasKey, group_bytes, groups_bytes}
use Rattle.properties_format.specs.Edited.{bom_of, guarding_lf}
use Rattle.properties_items.specs.Errors.{IsBareError}
use Rattle.properties_items.specs.declared.error.ErrorKind.TheVariants as kind
use Rattle.properties_items.specs.declared.error.PropertiesError.{PropertiesError}
use Rattle.properties_editing.specs.Editing.{EditsWith, asked_for}
use Rattle.properties_editing.specs.declared.source.SourceOptions.{SourceOptions}
use Rattle.properties_renaming.specs.CommentLines.{IsCommentIn}
use Rattle.properties_renaming.specs.Renaming.{AreIn, IsEditable}
use Rattle.properties_renaming.specs.Sections.{AreDivided, AreMadeOf, Section, is_among}

-- The group is a pair with one of the keys.
abbrev pub HasOneOf : List (List ℕ) → List HeldLine → Type 0
HasOneOf keys group = (key : List ℕ) × (is_among keys key ≡ true) × HasKey key group

-- A pair with one of the keys is left out with its comment, and any other section stays.
abbrev pub IsLeftOf : List (List ℕ) → Section → List (List HeldLine) → List ℕ → Type 0
IsLeftOf keys s after left =
    HasOneOf keys s.group × ((above : List (List HeldLine)) × (comment : List (List HeldLine)) × IsCommentIn s.run above comment × (left ≡ groups_bytes above))
    ⊎ ¬ (HasOneOf keys s.group) × (left ≡ groups_bytes s.run ++ group_bytes s.group)

-- The result is the source without the pairs with the keys and the comment of each: its byte order mark and the other
-- groups. An LF comes before the groups if they would begin like a byte order mark and the source
-- doesn't.
pub record IsRemovedWithComments (e : Encoding) (source : List ℕ) (keys : List (List ℕ)) (result : List ℕ) : Type 0 where
  pub groups : List (List HeldLine)
  pub held : AreIn e source groups
  pub sections : List Section
  pub last : List (List HeldLine)
  pub divided : AreDivided groups sections last
  pub rest : List ℕ
  pub others : AreMadeOf (IsLeftOf keys) sections last rest
  pub whole : result ≡ bom_of source ++ (guarding_lf source rest ++ rest)

-- The source without these keys and their comments, which is the only one; or an edit would be refused with this error,
-- or memory ran out.
abbrev pub RemovesWithComments : SourceOptions → List ℕ → List (List ℕ) → Result (Vec ℕ) PropertiesError → Type 0
RemovesWithComments options source keys (Ok bytes) =
    IsEditable options source × IsRemovedWithComments (asked_for options).encoding source keys bytes.items
    × ((other : List ℕ) → IsRemovedWithComments (asked_for options).encoding source keys other → other ≡ bytes.items)
RemovesWithComments options source keys (Err error) =
    EditsWith options source [] (Err error) ⊎ IsEditable options source × IsBareError kind.Memory error
