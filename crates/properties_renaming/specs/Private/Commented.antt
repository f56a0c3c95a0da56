-- How the pairs with keys are left out with their comment lines, group after group of a view.
use Rattle.std.specs.Prelude.{◌≡◌, ◌⊎◌, ◌++◌, ℕ, ◌+◌, false, is_some, List, ◌∷◌, length, Option, Some, None, Result, Ok, Err}
use Rattle.std.specs.Global.{Vec}
use Rattle.std.specs.declared.string.String.{String}
use Rattle.properties_format.specs.Encoding.{Encoding, byte_order_mark}
use Rattle.properties_format.specs.Body.{HeldLine, groups_bytes, held_in}
use Rattle.properties_format.specs.Edited.{is_editable}
use Rattle.properties_items.specs.Errors.{IsBareError}
use Rattle.properties_items.specs.declared.error.ErrorKind.TheVariants as error
use Rattle.properties_items.specs.declared.error.PropertiesError.{PropertiesError}
use Rattle.properties_editing.specs.Views.{IsGroup, OpenView, past_group}
use Rattle.properties_renaming.specs.CommentLines.{AreCommentGroups, IsCommentGroup, IsCommentIn}
use Rattle.properties_renaming.specs.Commented.{IsRemovedWithComments}
use Rattle.properties_renaming.specs.Sections.{is_among}
use Rattle.properties_renaming.specs.Private.Keyed.{value_at}
use Rattle.properties_renaming.specs.declared.comments.Headed.{Headed}

-- The next group that isn't a comment line was given, with its comment;
pub record TakesHeaded (old : OpenView) (headed : Headed) (new : OpenView) : Type 0 where
  pub run : List (List HeldLine)
  pub are_comments : AreCommentGroups run
  pub other : ¬ (IsCommentGroup new.group)
  pub takes : old.to_come ≡ run ++ new.group ∷ new.to_come
  pub above : List (List HeldLine)
  pub comment : List (List HeldLine)
  pub is_comment : IsCommentIn run above comment
  pub start : headed.start ≡ (past_group old).start + length (groups_bytes above)
  pub group_start : new.start ≡ (past_group old).start + length (groups_bytes run)
  pub passed : new.passed ≡ (past_group old).passed + length (held_in run)
  pub is_group : IsGroup new headed.group

-- or comment lines alone were to come.
abbrev pub GivesHeaded : OpenView → Option Headed → OpenView → Type 0
GivesHeaded old None new = AreCommentGroups old.to_come
GivesHeaded old (Some headed) new = TakesHeaded old headed new

-- These are the keys of a list.
abbrev pub AreListed : {V Y : Type 0} → List (List ℕ) → List (String Y × V) → Type 0
AreListed keys listed = (key : List ℕ) → is_some (value_at listed key) ≡ is_among keys key

-- The encoding can't be edited, or memory ran out.
abbrev pub IsUnopened : Encoding → List ℕ → PropertiesError → Type 0
IsUnopened e source reason =
    (is_editable (byte_order_mark e source).encoding ≡ false) × IsBareError error.Unsupported reason ⊎ IsBareError error.Memory reason

-- The source without the keys and their comments.
abbrev pub LeavesOthers : Encoding → List ℕ → List (List ℕ) → Result (Vec ℕ) PropertiesError → Type 0
LeavesOthers e source keys (Ok bytes) = IsRemovedWithComments e source keys bytes.items
LeavesOthers e source keys (Err reason) = IsUnopened e source reason
