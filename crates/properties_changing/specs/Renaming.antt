-- What renaming keys gives: the bytes of a source with each key renamed where it stands, in what the renames before it left.
use Rattle.std.specs.Prelude.{◌≡◌, ◌≢◌, ◌⊎◌, ℕ, List, [], Result, Ok, Err}
use Rattle.std.specs.Global.{Vec}
use Rattle.properties_format.specs.Edits.{IsEditPairsResult}
use Rattle.properties_format.specs.Encoding.{Encoding, Repertoire, characters_for}
use Rattle.properties_text.specs.Encoding.{encoding_of}
use Rattle.properties_text.specs.declared.encoding.Encoding as code
use Rattle.java_properties.specs.Maps.{characters}
use Rattle.properties_editing.specs.Editing.{ArePairsMade, IsRefusal}
use Rattle.properties_editing.specs.declared.source.Comments.TheVariants.{PassedOver}
use Rattle.properties_editing.specs.declared.source.SourceOptions.{SourceOptions}
use Rattle.properties_renaming.specs.Renames.{AreRenamedInTurn, IsRefusedAt, NewName, names_in}
use Rattle.properties_renaming.specs.Renaming.{IsTaken, LacksKey}
use Rattle.properties_tables.specs.Sources.{IsSound, IsUnsound}
use Rattle.properties_changing.specs.declared.request.Renaming.{Renaming}
use Rattle.properties_tables.specs.declared.error.Failure.{Failure}
use Rattle.properties_tables.specs.declared.error.Failure.TheVariants.{Absent, KeyTaken, Input}

-- what may stand unescaped in the new keys
abbrev pub renaming_repertoire : Encoding → Renaming → Repertoire
renaming_repertoire e renaming = record { encoding = e; characters = characters_for renaming.ascii_only renaming.latin_1 }

-- The source is sound, and it can be edited: no edit at all gives these bytes.
pub record IsEditable (r : Repertoire) (source : List ℕ) : Type 0 where
  pub sound : IsSound r.encoding source
  pub bytes : List ℕ
  pub made : ArePairsMade r source [] bytes

-- what the library is asked for by renames
abbrev pub renaming_options : code.Encoding → Renaming → SourceOptions
renaming_options encoding renaming = record { encoding = encoding; ascii_only = renaming.ascii_only; latin_1 = renaming.latin_1; comments = PassedOver }

-- This holds with the options of the renames in this encoding.
abbrev pub WithOptions : Encoding → Renaming → (SourceOptions → Type 0) → Type 0
WithOptions e renaming Holds = (encoding : code.Encoding) × (encoding_of encoding ≡ e) × Holds (renaming_options encoding renaming)

-- The source can be edited, and what the renames before one of them leave has this about it and that one's names.
abbrev pub RefusesOne : Encoding → List ℕ → Renaming → (List ℕ → NewName → Type 0) → Type 0
RefusesOne e source r IsRefused =
    IsEditable (renaming_repertoire e r) source
    × WithOptions e r (λ options. (index : ℕ) × IsRefusedAt options source (names_in r.list.items) index IsRefused)

-- Why no key of a sound source is renamed: of what the renames before one of them leave, no pair has its old key; or one has its
-- new one, and the first such pair begins in this line, which is looked at after the other; or the source isn't edited, since its
-- encoding is not one that is, or memory ran out.
abbrev pub KeepsKeys : Encoding → List ℕ → Renaming → Failure → Type 0
KeepsKeys e source r (Absent key) = RefusesOne e source r (λ left name. LacksKey e left name.old × (characters key ≡ name.old))
KeepsKeys e source r (KeyTaken number key) =
    RefusesOne e source r (λ left name. (name.old ≢ name.new) × IsTaken e left name.old name.new number × (characters key ≡ name.new))
KeepsKeys e source r (Input error) = IsSound e source × IsRefusal (IsEditPairsResult (renaming_repertoire e r) source []) error
KeepsKeys e source r other = ⊥

-- What renaming keys returns. A source that isn't sound is refused first.
abbrev pub Renames : Encoding → List ℕ → Renaming → Result (Vec ℕ) Failure → Type 0
Renames e source r (Ok bytes) =
    IsEditable (renaming_repertoire e r) source × WithOptions e r (λ options. AreRenamedInTurn options source (names_in r.list.items) bytes.items)
Renames e source r (Err failure) = IsUnsound e source failure ⊎ KeepsKeys e source r failure
