-- How the comment of a key is found, as one group after another is passed.
use Rattle.std.specs.Prelude.{◌≡◌, ◌⊎◌, ℕ, Bool, true, false, if◌then◌else◌, List, [], ◌∷◌, ◌++◌, map, Option, Some, Result, Ok, Err}
use Rattle.std.specs.Option.{option_map}
use Rattle.std.specs.declared.string.String.{String}
use Rattle.std.specs.declared.vec.Vec.{Vec}
use Rattle.properties_format.specs.Lines.{is_comment_line}
use Rattle.properties_format.specs.Split.{Logical, IsSplit}
use Rattle.properties_format.specs.Computed.Body.{is_pair_with}
use Rattle.properties_format.specs.Computed.Edited.{IsSoundOutcome}
use Rattle.properties_format.specs.Computed.Items.{outcome_of}
use Rattle.properties_items.specs.BorrowedItems.{IsNoItem}
use Rattle.properties_items.specs.Errors.{IsBareError}
use Rattle.properties_items.specs.Texts.{characters}
use Rattle.properties_items.specs.declared.error.ErrorKind.TheVariants as reason
use Rattle.properties_items.specs.declared.error.PropertiesError.{PropertiesError}
use Rattle.properties_editing.specs.Views.{group_kind}
use Rattle.properties_editing.specs.declared.group.GroupKind.{GroupKind}
use Rattle.properties_renaming.specs.CommentLines.{IsCommentLine}
use Rattle.properties_renaming.specs.FoundSeparators as run
use Rattle.properties_renaming.specs.declared.separators.LastRun.{LastRun}
use Rattle.java_properties.specs.declared.comments.Passed.{Passed}

-- A group is what its logical line is.
abbrev pub IsKindOf : GroupKind → List ℕ → Type 0
IsKindOf kind x = (what : Logical) × IsSplit x what × (kind ≡ group_kind what)

-- Nothing in a pair is malformed; a comment may have any text.
abbrev pub IsSoundLine : List ℕ → Type 0
IsSoundLine x = IsSoundOutcome (outcome_of x) ⊎ (is_comment_line x ≡ true)

-- A pair is malformed, or memory ran out.
abbrev pub IsUnsoundPassed : ℕ → List ℕ → PropertiesError → Type 0
IsUnsoundPassed number x error = (is_comment_line x ≡ false) × IsNoItem number x error

-- Whether a logical line is a pair with the key.
abbrev pub TellsKey : ℕ → List ℕ → List ℕ → Result Bool PropertiesError → Type 0
TellsKey number x key (Ok has) = (has ≡ is_pair_with key (outcome_of x)) × IsSoundLine x
TellsKey number x key (Err error) = IsUnsoundPassed number x error

-- The texts of the comment lines directly above, back to the last separator; the last run of them; and the texts of the
-- comment of the key, as characters.
pub record PassedTexts : Type 0 where
  pub above : List (List ℕ)
  pub last : LastRun
  pub comment : Option (List (List ℕ))

abbrev pub texts_in : {Y Z : Type 0} → Vec (String Y) Z → List (List ℕ)
texts_in texts = map characters texts.items

abbrev pub passed_texts : Passed → PassedTexts
passed_texts passed = record { above = texts_in passed.above; last = passed.last; comment = option_map texts_in passed.comment }

-- The texts above a separator were left out, if one is directly above the next group.
abbrev pub LeavesOut : Bool → List ℕ → PassedTexts → PassedTexts → Type 0
LeavesOut is_line x old new =
    (found : Bool) × run.PassesGroup is_line x old.last found new.last × (new.above ≡ (if found then [] else old.above)) × (new.comment ≡ old.comment)

-- the texts after a group that is no comment line, given whether it is a pair with the key
abbrev pub after_other : Bool → PassedTexts → PassedTexts
after_other true old = record old { above = []; comment = Some old.above }
after_other false old = record old { above = [] }

-- The text of a comment line was added.
abbrev pub AddsPassedLine : List ℕ → PassedTexts → PassedTexts → Type 0
AddsPassedLine x old new = (text : List ℕ) × IsCommentLine x text × (new ≡ record old { above = old.above ++ text ∷ [] })

-- The texts after a group: after a comment line; or after another group, in which nothing is malformed.
abbrev pub AreAfter : Bool → List ℕ → List ℕ → PassedTexts → PassedTexts → Type 0
AreAfter true x key old new = AddsPassedLine x old new
AreAfter false x key old new = IsSoundLine x × (new ≡ after_other (is_pair_with key (outcome_of x)) old)

abbrev pub ArePassed : Bool → List ℕ → List ℕ → PassedTexts → PassedTexts → Type 0
ArePassed is_line x key old new = (left : PassedTexts) × LeavesOut is_line x old left × AreAfter is_line x key left new

abbrev pub PassesGroup : Bool → ℕ → List ℕ → List ℕ → PassedTexts → Result Unit PropertiesError → PassedTexts → Type 0
PassesGroup is_line number x key old (Ok done) new = ArePassed is_line x key old new
PassesGroup is_line number x key old (Err error) new = IsUnsoundPassed number x error ⊎ IsBareError reason.Memory error
