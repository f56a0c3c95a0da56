-- Edits in turn: each keeps the rest of what the one before it gave.
use Rattle.std.proofs.Common.{◌≡◌, ℕ, true, List, [], ◌∷◌}
use Rattle.properties_format.specs.Encoding.{byte_order_mark, Repertoire}
use Rattle.properties_format.specs.Edited.{is_editable, edited}
use Rattle.properties_format.specs.Edits.{Edit, put, remove, set_value, IsEdited, AreEdited, IsEditAllResult}
use Rattle.properties_format.specs.Changed.{KeepsRest, AreKept}
use Rattle.properties_format.proofs.Changed.Occur.{key_set-keeps, key_removed-keeps}
use Rattle.properties_format.proofs.Edits.Results.{edit-editable}
use Rattle.properties_format.proofs.Valued.Read.{value_set-keeps, value_set-keeps_front}

-- Each edit keeps the rest.
pub edit-keeps : (r : Repertoire) (source : List ℕ) (edit : Edit) (result : List ℕ) → is_editable (byte_order_mark r.encoding source).encoding ≡ true
    → IsEdited r source edit result → KeepsRest r.encoding source edit result
edit-keeps r source (put key value) result ok h = key_set-keeps r source key value result h
edit-keeps r source (remove key) result ok h = key_removed-keeps r.encoding source key result h
edit-keeps r source (set_value key value) result ok h = (value_set-keeps r source key value result h, value_set-keeps_front r source key value result ok h)

-- So do edits in turn.
pub edits-kept : (r : Repertoire) (source : List ℕ) (edits : List Edit) (result : List ℕ) → is_editable (byte_order_mark r.encoding source).encoding ≡ true
    → AreEdited r source edits result → AreKept r source edits result
edits-kept r source [] result ok h = h
edits-kept r source (edit ∷ edits) result ok h = (
  h.0,
  h.1,
  edit-keeps r source edit h.0 ok h.1,
  edits-kept r h.0 edits result (edit-editable r source edit h.0 ok h.1) h.2,
)

-- The result of a list of edits keeps the rest, edit by edit.
pub edit_all-kept : (r : Repertoire) (source : List ℕ) (edits : List Edit) (result : List ℕ) → IsEditAllResult r source edits (edited result)
    → AreKept r source edits result
edit_all-kept r source edits result h = edits-kept r source edits result h.0 h.2
