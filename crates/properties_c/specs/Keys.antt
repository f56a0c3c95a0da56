-- What the exports give that rename a key, set or tell its comment, and remove both.
use Rattle.std.specs.Prelude.{◌≡◌, ℕ, List, [], ◌∷◌, ◌++◌, Option, Some, None, Result, Ok, Err, encode_utf8_all}
use Rattle.std.specs.Global.{Vec}
use Rattle.std.specs.List.{flat_map}
use Rattle.properties_format.specs.Encoding.{Encoding}
use Rattle.properties_format.specs.Text.{line_feed}
use Rattle.properties_text.specs.Encoding.{encoding_of}
use Rattle.properties_text.specs.declared.encoding.Encoding as code
use Rattle.properties_items.specs.declared.error.PropertiesError.{PropertiesError}
use Rattle.properties_editing.specs.declared.source.SourceOptions.{SourceOptions}
use Rattle.properties_renaming.specs.Commented.{RemovesWithComments}
use Rattle.properties_renaming.specs.Commenting.{SetsComment}
use Rattle.properties_renaming.specs.Renaming.{RenamesKey}
use Rattle.properties_renaming.specs.declared.renaming.RenameError.{RenameError}
use Rattle.properties_renaming.specs.declared.renaming.RenameError.TheVariants as error
use Rattle.java_properties.specs.Commented.{HasComment, RefusesComment}
use Rattle.properties_c.specs.Crossing.{Crossing, Crosses, Delivers, Fails, RefusesCall}
use Rattle.properties_c.specs.Inputs.{InEncoding, WithFlags, WithSource, WithText, for_comments, for_edits, for_keys, options_for}
use Rattle.properties_c.specs.declared.encoding.Flags.{Flags}
use Rattle.properties_c.specs.declared.status.Status.TheVariants.{Done, NoKey, KeyTaken}

-- A call with the options that the flags ask for returned a result for which this holds.
abbrev pub IsGivenBy : {A : Type 0} → (SourceOptions → A → Type 0) → Encoding → Flags → A → Type 0
IsGivenBy Gives e f outcome = (encoding : code.Encoding) × (encoding_of encoding ≡ e) × Gives (options_for encoding f) outcome

-- ---- a key that is renamed

-- What a renaming or a new comment returned crosses: the bytes; or that no pair has the key, or the line of the first
-- pair with the new one; or its error.
abbrev pub ChangedCrosses : Result (Vec ℕ) RenameError → Crossing → Type 0
ChangedCrosses (Ok bytes) x = Delivers bytes.items Done 0 x
ChangedCrosses (Err error.NoKey) x = RefusesCall NoKey 0 x
ChangedCrosses (Err (error.KeyTaken number)) x = RefusesCall KeyTaken number x
ChangedCrosses (Err (error.Source e)) x = Fails e x

-- A renaming returned a result, and the result crosses.
abbrev pub GivesRenamed : Encoding → Flags → List ℕ → List ℕ → List ℕ → Crossing → Type 0
GivesRenamed e f source old new x =
    (outcome : Result (Vec ℕ) RenameError) × IsGivenBy (λ o. RenamesKey o source old new) e f outcome × ChangedCrosses outcome x

abbrev pub RenamesAcross : List ℕ → ℕ → ℕ → List ℕ → List ℕ → Crossing → Type 0
RenamesAcross source encoding flags old new x =
    InEncoding encoding (λ e. WithFlags for_edits flags (λ f. WithText old (λ o. WithText new (λ n. WithSource f.strict e source (GivesRenamed e f source o n x) x) x) x) x) x

-- ---- a comment that is set

abbrev pub GivesCommented : Encoding → Flags → List ℕ → List ℕ → List ℕ → Crossing → Type 0
GivesCommented e f source key text x =
    (outcome : Result (Vec ℕ) RenameError) × IsGivenBy (λ o. SetsComment o source key text) e f outcome × ChangedCrosses outcome x

abbrev pub SetsAcross : List ℕ → ℕ → ℕ → List ℕ → List ℕ → Crossing → Type 0
SetsAcross source encoding flags key text x =
    InEncoding encoding (λ e. WithFlags for_edits flags (λ f. WithText key (λ k. WithText text (λ t. WithSource f.strict e source (GivesCommented e f source k t x) x) x) x) x) x

-- ---- a key that is removed with its comment

abbrev pub GivesRemoved : Encoding → Flags → List ℕ → List ℕ → Crossing → Type 0
GivesRemoved e f source key x =
    (outcome : Result (Vec ℕ) PropertiesError) × IsGivenBy (λ o. RemovesWithComments o source (key ∷ [])) e f outcome × Crosses outcome x

abbrev pub RemovesAcross : List ℕ → ℕ → ℕ → List ℕ → Crossing → Type 0
RemovesAcross source encoding flags key x =
    InEncoding encoding (λ e. WithFlags for_keys flags (λ f. WithText key (λ k. WithSource f.strict e source (GivesRemoved e f source k x) x) x) x) x

-- ---- the comment of a key

-- the text of a comment line in UTF-8, and a line feed
abbrev pub text_line : List ℕ → List ℕ
text_line text = encode_utf8_all text ++ line_feed ∷ []

-- The lines of the comment of the key, or none if no pair has it; or why none are told.
abbrev pub TellsCommentLines : Encoding → List ℕ → List ℕ → Result (Option (Vec ℕ)) PropertiesError → Type 0
TellsCommentLines e source key (Ok None) = HasComment e source key None
TellsCommentLines e source key (Ok (Some lines)) =
    (texts : List (List ℕ)) × HasComment e source key (Some texts) × (lines.items ≡ flat_map text_line texts)
TellsCommentLines e source key (Err error) = RefusesComment e source error

-- They cross, or that no pair has the key, or the error.
abbrev pub CommentCrosses : Result (Option (Vec ℕ)) PropertiesError → Crossing → Type 0
CommentCrosses (Ok (Some lines)) x = Delivers lines.items Done 0 x
CommentCrosses (Ok None) x = RefusesCall NoKey 0 x
CommentCrosses (Err error) x = Fails error x

abbrev pub GivesComment : Encoding → List ℕ → List ℕ → Crossing → Type 0
GivesComment e source key x = (outcome : Result (Option (Vec ℕ)) PropertiesError) × TellsCommentLines e source key outcome × CommentCrosses outcome x

abbrev pub TellsAcross : List ℕ → ℕ → ℕ → List ℕ → Crossing → Type 0
TellsAcross source encoding flags key x =
    InEncoding encoding (λ e. WithFlags for_comments flags (λ f. WithText key (λ k. WithSource f.strict e source (GivesComment e source k x) x) x) x) x
