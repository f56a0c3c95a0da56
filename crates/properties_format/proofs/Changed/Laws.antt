-- What an edited source says: the items of the source with the edit made to what they say.
use Rattle.std.proofs.Common.{◌≡◌, ℕ, true, List, subst}
use Rattle.properties_format.specs.Encoding.{Encoding, byte_order_mark, Repertoire}
use Rattle.properties_format.specs.Lines.{end}
use Rattle.properties_format.specs.Items.{Content, pair, AreItems, given}
use Rattle.properties_format.specs.Computed.Items.{items_of}
use Rattle.properties_format.specs.Computed.Edited.{IsSoundOutcome}
use Rattle.properties_format.specs.Edited.{is_editable}
use Rattle.properties_format.specs.Edits.{Edit, IsEdited, IsScalarEdit}
use Rattle.properties_format.specs.Changed.{contents, IsEditedIn}
use Rattle.properties_format.proofs.Changed.Contents.{edit-among}
use Rattle.properties_format.proofs.Changed.Items.{IsSoundLine, sound-source, source-sound}
use Rattle.properties_format.proofs.Edits.Lines.{logical_lines_of, edit-each, edit-lines}
use Rattle.properties_format.proofs.Edits.Results.{edit-editable}
use Rattle.properties_format.proofs.Items.Unique.{outcome_of-only}

-- ---- what is read from a source

-- The source can be edited: its encoding in force can be edited, and none of its items is malformed.
pub record IsReadable (e : Encoding) (source : List ℕ) : Type 0 where
  pub editable : is_editable (byte_order_mark e source).encoding ≡ true
  pub no_fault : AreItems (items_of e source end)

-- the contents of a source's items
abbrev pub source_contents : Encoding → List ℕ → List Content
source_contents e source = contents (items_of e source end)

-- The result can be edited too, and its contents have this property.
pub record IsReadTo (e : Encoding) (result : List ℕ) (Such : List Content → Type 0) : Type 0 where
  pub readable : IsReadable e result
  pub such : Such (source_contents e result)

-- ---- one edit

-- After an edit of a source that can be edited, its contents are those of the source after the same edit.
pub edit-contents : (t : Repertoire) (source : List ℕ) (edit : Edit) (result : List ℕ) → IsReadable t.encoding source → IsScalarEdit edit
    → IsEdited t source edit result → IsReadTo t.encoding result (IsEditedIn edit (source_contents t.encoding source))
edit-contents t source edit result r k h =
    let old = logical_lines_of t.encoding source in
    let new = logical_lines_of t.encoding result in
    let changed = edit-lines t source edit result r.editable k h in
    let was = source-sound t.encoding source r.no_fault in
    let sound = edit-each IsSoundLine (λ x key value s. subst IsSoundOutcome (outcome_of-only x (given (pair key value)) s) tt) edit old new changed was.0 in
    let items = sound-source t.encoding result sound in
    record {
      readable = record { editable = edit-editable t source edit result r.editable h; no_fault = items };
      such = rw ((source-sound t.encoding result items).1, was.1) (edit-among true edit old new changed);
    }
