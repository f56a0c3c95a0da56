-- What is computed for an edit, and for edits in turn, is the source after them, and nothing else is.
use Rattle.std.proofs.Common.{◌≡◌, ◌↔◌, ℕ, true, List, [], ◌∷◌, refl, subst, sym, ◌∙◌}
use Rattle.properties_format.specs.Encoding.{byte_order_mark, Repertoire}
use Rattle.properties_format.specs.Edited.{EditResult, IsEditResult, is_editable}
use Rattle.properties_format.specs.Edits.{Edit, put, remove, set_value, IsEdited, AreEdited, IsEditAllResult}
use Rattle.properties_format.specs.Laws.{HasOne}
use Rattle.properties_format.specs.Plan.{with_key_set, with_key_removed, with_value_set}
use Rattle.properties_format.proofs.Laws.{one}
use Rattle.properties_format.proofs.Edited.Results.{result_of-meets, result_of-only, result_of}
use Rattle.properties_format.proofs.Edited.ByteOrderMarks.{key_set-in_force, key_removed-in_force}
use Rattle.properties_format.proofs.Valued.Marks.{value_set-in_force}
use Rattle.properties_format.proofs.Plan.Made.{key_set-is_planned, key_removed-is_planned, value_set-is_planned}

-- the source after this edit
abbrev pub edit_made : Repertoire → List ℕ → Edit → List ℕ
edit_made r source (put key value) = with_key_set r source key value
edit_made r source (remove key) = with_key_removed r.encoding source key
edit_made r source (set_value key value) = with_value_set r source key value

-- the source after these edits, each made to what the one before it gave
abbrev pub edits_made : Repertoire → List ℕ → List Edit → List ℕ
edits_made r source [] = source
edits_made r source (edit ∷ edits) = edits_made r (edit_made r source edit) edits

-- What is computed is the source after the edit, and nothing else is.
pub edit-is_made : (r : Repertoire) (source : List ℕ) (edit : Edit) (result : List ℕ) → is_editable (byte_order_mark r.encoding source).encoding ≡ true
    → IsEdited r source edit result ↔ (result ≡ edit_made r source edit)
edit-is_made r source (put key value) result ok = key_set-is_planned r source key value result ok
edit-is_made r source (remove key) result ok = key_removed-is_planned r.encoding source key result
edit-is_made r source (set_value key value) result ok = value_set-is_planned r source key value result ok

-- After an edit the encoding in force is the same.
pub edit-encoding : (r : Repertoire) (source : List ℕ) (edit : Edit) (result : List ℕ) → is_editable (byte_order_mark r.encoding source).encoding ≡ true
    → IsEdited r source edit result → (byte_order_mark r.encoding result).encoding ≡ (byte_order_mark r.encoding source).encoding
edit-encoding r source (put key value) result ok h = rw (key_set-in_force r source key value result ok h) refl
edit-encoding r source (remove key) result ok h = rw (key_removed-in_force r.encoding source key result ok h) refl
edit-encoding r source (set_value key value) result ok h = rw (value_set-in_force r source key value result ok h) refl

pub edit-editable : (r : Repertoire) (source : List ℕ) (edit : Edit) (result : List ℕ) → is_editable (byte_order_mark r.encoding source).encoding ≡ true
    → IsEdited r source edit result → is_editable (byte_order_mark r.encoding result).encoding ≡ true
edit-editable r source edit result ok h = rw (edit-encoding r source edit result ok h) ok

-- What is computed is the source after the edits.
pub edits_made-meets : (r : Repertoire) (source : List ℕ) (edits : List Edit) → is_editable (byte_order_mark r.encoding source).encoding ≡ true
    → AreEdited r source edits (edits_made r source edits)
edits_made-meets r source [] ok = refl
edits_made-meets r source (edit ∷ edits) ok =
    let next = edit_made r source edit in
    let h = (edit-is_made r source edit next ok).1 refl in
    (next, h, edits_made-meets r next edits (edit-editable r source edit next ok h))

-- A source after the edits is what is computed.
pub edits_made-only : (r : Repertoire) (source : List ℕ) (edits : List Edit) (result : List ℕ) → is_editable (byte_order_mark r.encoding source).encoding ≡ true
    → AreEdited r source edits result → result ≡ edits_made r source edits
edits_made-only r source [] result ok h = h
edits_made-only r source (edit ∷ edits) result ok h =
    rw (← (edit-is_made r source edit h.0 ok).0 h.1) (edits_made-only r h.0 edits result (edit-editable r source edit h.0 ok h.1) h.2)

-- ---- results

-- An edit has one result,
abbrev pub edit_result : (r : Repertoire) (source : List ℕ) (edit : Edit) → HasOne (IsEditResult r.encoding source (IsEdited r source edit))
edit_result r source edit =
    one (result_of r.encoding source (edit_made r source edit))
    (result_of-meets r.encoding source _ _ (λ ok. (edit-is_made r source edit _ ok).1 refl))
    (λ other h. result_of-only r.encoding source _ _ other (λ ok result. (edit-is_made r source edit result ok).0) h)

-- and so do edits in turn.
abbrev pub edit_all_result : (r : Repertoire) (source : List ℕ) (edits : List Edit) → HasOne (IsEditAllResult r source edits)
edit_all_result r source edits =
    one (result_of r.encoding source (edits_made r source edits)) (result_of-meets r.encoding source _ _ (edits_made-meets r source edits))
    (λ other h. result_of-only r.encoding source _ _ other (λ ok result. edits_made-only r source edits result ok) h)

-- If two edits have one result each, and these are equal, they have the same results.
pub same-results : (First Second : EditResult → Type 0) (one : HasOne First) (two : HasOne Second) → one.value ≡ two.value
    → (result : EditResult) → First result ↔ Second result
same-results First Second one two same result =
    ((λ h. subst Second (sym (one.only result h ∙ same)) two.meets), (λ h. subst First (sym (two.only result h ∙ sym same)) one.meets))
