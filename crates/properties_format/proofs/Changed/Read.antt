-- What is guaranteed of an editor's result, if there is one.
use Rattle.std.proofs.Common.{◌≡◌, ℕ, true, List, subst, Option}
use Rattle.properties_format.specs.Encoding.{Encoding, byte_order_mark, Repertoire}
use Rattle.properties_format.specs.Lines.{end}
use Rattle.properties_format.specs.Items.{Content, Entry, AreItems}
use Rattle.properties_format.specs.Maps.{IsMap}
use Rattle.properties_format.specs.Edited.{edited, is_editable, ItemsAre, IsEditResult}
use Rattle.properties_format.specs.Edits.{Edit, IsEdited, IsScalarEdit}
use Rattle.properties_format.specs.Changed.{contents, IsEditedIn, map_edited, ReadsAfter}
use Rattle.properties_format.proofs.Items.Unique.{items_of-only}
use Rattle.properties_format.proofs.Changed.Laws.{IsReadable, source_contents, IsReadTo, edit-contents}
use Rattle.properties_format.proofs.Changed.Maps.{map-edited}

-- A source that has a result can be edited.
pub readable : (e : Encoding) (source : List ℕ) → is_editable (byte_order_mark e source).encoding ≡ true → ItemsAre e source AreItems → IsReadable e source
readable e source ok h = record { editable = ok; no_fault = subst AreItems (items_of-only e source end h.0 h.1) h.2 }

-- What is computed reads as the source after the edit.
pub reads-after : (e : Encoding) (source result : List ℕ) (IsEdit : List Content → List Content → Type 0)
    (change : (List ℕ → Option (List ℕ)) → List ℕ → Option (List ℕ)) → IsReadTo e result (IsEdit (source_contents e source))
    → ((old new : List Entry) → IsEdit (contents old) (contents new) → (value_at : List ℕ → Option (List ℕ)) → IsMap old value_at → IsMap new (change value_at))
    → ReadsAfter IsEdit change e source result
reads-after e source result IsEdit change r m old new h k =
    let s = items_of-only e source end old h in
    let t = items_of-only e result end new k in
    let f : IsEdit (contents old) (contents new) = rw (s, t) r.such in
    record { readable = rw t r.readable.no_fault; is_edit = f; mapped = m old new f }

-- The result of an edit reads as the source after the edit.
pub edit-reads : (r : Repertoire) (source : List ℕ) (edit : Edit) (result : List ℕ) → IsScalarEdit edit
    → IsEditResult r.encoding source (IsEdited r source edit) (edited result) → ReadsAfter (IsEditedIn edit) (map_edited edit) r.encoding source result
edit-reads r source edit result k h =
    let p = edit-contents r source edit result (readable r.encoding source h.0 h.1) k h.2 in
    reads-after r.encoding source result (IsEditedIn edit) (map_edited edit) p (map-edited edit)
