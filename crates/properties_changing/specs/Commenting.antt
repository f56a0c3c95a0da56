-- What setting comments of keys gives: the bytes of a source with new comment lines directly above the last pair with each key.
use Rattle.std.specs.Prelude.{◌≡◌, ◌⊎◌, ℕ, List, [], Result, Ok, Err}
use Rattle.std.specs.Global.{Vec}
use Rattle.properties_format.specs.Edits.{IsEditPairsResult}
use Rattle.properties_format.specs.Encoding.{Encoding, Repertoire, characters_for}
use Rattle.java_properties.specs.Maps.{characters}
use Rattle.properties_editing.specs.Editing.{IsRefusal}
use Rattle.properties_renaming.specs.Commenting.{AreCommentsSet, HasNoPairFor, NewText, texts_in}
use Rattle.properties_changing.specs.Renaming.{IsEditable}
use Rattle.properties_tables.specs.Sources.{IsSound, IsUnsound}
use Rattle.properties_changing.specs.declared.request.NewComments.{NewComments}
use Rattle.properties_tables.specs.declared.error.Failure.{Failure}
use Rattle.properties_tables.specs.declared.error.Failure.TheVariants.{Absent, Input}

-- what may stand unescaped in new comment lines
abbrev pub comment_repertoire : Encoding → NewComments → Repertoire
comment_repertoire e comments = record { encoding = e; characters = characters_for comments.ascii_only comments.latin_1 }

-- Why no comment of a sound source is set: no pair has this key, which is that of the first comment whose key no pair has; or the
-- source isn't edited, since its encoding is not one that is, or memory ran out.
abbrev pub KeepsComments : Repertoire → List ℕ → List NewText → Failure → Type 0
KeepsComments r source texts (Absent name) =
    IsEditable r source × ((index : ℕ) × (h : HasNoPairFor r.encoding source texts index) × (characters name ≡ h.text.key))
KeepsComments r source texts (Input error) = IsSound r.encoding source × IsRefusal (IsEditPairsResult r source []) error
KeepsComments r source texts other = ⊥

-- What setting comments of keys returns. A source that isn't sound is refused first.
abbrev pub SetsComments : Encoding → List ℕ → NewComments → Result (Vec ℕ) Failure → Type 0
SetsComments e source c (Ok bytes) =
    IsEditable (comment_repertoire e c) source × AreCommentsSet (comment_repertoire e c) source (texts_in c.list.items) bytes.items
SetsComments e source c (Err failure) = IsUnsound e source failure ⊎ KeepsComments (comment_repertoire e c) source (texts_in c.list.items) failure
