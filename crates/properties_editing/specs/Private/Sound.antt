-- What is asked of the comments of a source, and the results of an edit by that.
use Rattle.std.specs.Prelude.{◌≡◌, ◌⊎◌, ℕ, true, false, List, [], ◌∷◌, Result, Ok, Err, ◌+◌, ◌++◌, length}
use Rattle.std.specs.Global.{Vec}
use Rattle.properties_format.specs.Encoding.{Encoding, byte_order_mark}
use Rattle.properties_format.specs.Lines.{joined}
use Rattle.properties_format.specs.Body.{HeldLine, as_lines, held_in}
use Rattle.properties_format.specs.Edited.{EditResult, edited, unsupported, is_editable, IsEditResult}
use Rattle.properties_format.specs.Edits.{IsPairsResult}
use Rattle.properties_format.specs.Computed.Edited.{IsSoundOutcome}
use Rattle.properties_format.specs.Computed.Items.{outcome_of}
pub use Rattle.properties_editing.specs.Comments.{passes_over}
use Rattle.properties_editing.specs.Editing.{IsRefusal}
use Rattle.properties_editing.specs.declared.source.Comments.{Comments}
use Rattle.properties_editing.specs.declared.source.Comments.TheVariants.{Read, PassedOver}
use Rattle.properties_items.specs.declared.error.PropertiesError.{PropertiesError}
use Rattle.properties_items.specs.BorrowedItems.{IsNoItem}
use Rattle.properties_items.specs.Errors.{IsBareError}
use Rattle.properties_items.specs.declared.error.ErrorKind.TheVariants as kind

-- Nothing in the logical line is malformed, or it is passed over.
abbrev pub IsSoundFor : Comments → List ℕ → Type 0
IsSoundFor comments x = IsSoundOutcome (outcome_of x) ⊎ (passes_over comments x ≡ true)

-- All groups make such lines,
abbrev pub AreSoundFor : Comments → List (List HeldLine) → Type 0
AreSoundFor comments [] = Unit {0}
AreSoundFor comments (g ∷ gs) = IsSoundFor comments (joined (as_lines g)) × AreSoundFor comments gs

-- or do where comments are passed over.
abbrev pub AreSound : List (List HeldLine) → Type 0
AreSound groups = AreSoundFor PassedOver groups

-- A logical line, which has this number and isn't passed over, has no item for this reason.
abbrev pub IsErrorOfLine : Comments → ℕ → List ℕ → PropertiesError → Type 0
IsErrorOfLine comments number line e = (passes_over comments line ≡ false) × IsNoItem number line e

-- One of these groups, which comes after sound ones, has no item for this reason; or memory ran out.
abbrev pub IsErrorOfGroups : Comments → List (List HeldLine) → PropertiesError → Type 0
IsErrorOfGroups comments groups e =
    ((before : List (List HeldLine)) × (g : List HeldLine) × (after : List (List HeldLine)) × (groups ≡ before ++ g ∷ after) × AreSoundFor comments before
    × IsErrorOfLine comments (1 + length (held_in before)) (joined (as_lines g)) e)
    ⊎ IsBareError kind.Memory e

-- the results of an edit that makes such bytes of the source
abbrev pub IsResult : Comments → Encoding → List ℕ → (List ℕ → Type 0) → EditResult → Type 0
IsResult comments e source Makes unsupported = is_editable (byte_order_mark e source).encoding ≡ false
IsResult Read e source Makes result = IsEditResult e source Makes result
IsResult PassedOver e source Makes result = IsPairsResult e source Makes result

-- Such bytes were returned; or an error says why not.
abbrev pub Returns : Comments → Encoding → List ℕ → (List ℕ → Type 0) → Result (Vec ℕ) PropertiesError → Type 0
Returns comments e source Makes (Ok bytes) = IsResult comments e source Makes (edited bytes.items)
Returns comments e source Makes (Err error) = IsRefusal (IsResult comments e source Makes) error
