-- Edits made one after another, each to the bytes that the one before it gave.
use Rattle.std.proofs.Common.{◌≡◌, ℕ, List, [], ◌∷◌, ◌++◌, refl, sym, ◌∙◌, subst}
use Rattle.std.specs.Prelude.{Result, Ok, Err, IsErrAnd}
use Rattle.std.proofs.lemmas.Result.{err_from_is_err_and}
use Rattle.std.specs.Global.{Vec}
use Rattle.properties_format.specs.Encoding.{Encoding, Repertoire}
use Rattle.properties_format.specs.Edited.{edited}
use Rattle.properties_format.specs.Edits.{Edit, IsEdited, AreEdited, AreScalarEdits, IsEditAllResult, IsEditPairsResult}
use Rattle.properties_format.specs.Changed.{AreLinesEditedInTurn}
use Rattle.properties_format.proofs.Edits.Results.{edit_all_result}
use Rattle.properties_format.proofs.Edits.Contents.{edit_all-reads}
use Rattle.properties_format.proofs.Edits.Escapes.{edits-in_comments}
use Rattle.properties_format.proofs.Edits.InAscii.{edit_all-in_ascii, edit_pairs-in_ascii}
use Rattle.properties_format.proofs.Edits.Kept.{edit_all-kept, edits-kept}
use Rattle.properties_format.proofs.Edits.Lines.{edits-lines, logical_lines_of, logical_lines_of-only}
use Rattle.properties_format.proofs.Edits.PairResults.{edit_pairs_result}
use Rattle.properties_format.proofs.Edits.PairValues.{edit_pairs-reads, edit_pairs-map}
use Rattle.properties_items.specs.declared.error.PropertiesError.{PropertiesError}
use Rattle.properties_editing.specs.Editing.{AreMade, ArePairsMade, EditsPairs, IsRefusal, MakesEdits, MakesEditsFor}
use Rattle.properties_editing.specs.Private.Sound.{IsResult, Returns}
use Rattle.properties_editing.specs.declared.source.Comments.{Comments}
use Rattle.properties_editing.specs.declared.source.Comments.TheVariants.{Read, PassedOver}

-- One more edit is made.
pub edited-more : (r : Repertoire) (source : List ℕ) (edits : List Edit) (edit : Edit) (middle result : List ℕ) → AreEdited r source edits middle → IsEdited r middle edit result
    → AreEdited r source (edits ++ edit ∷ []) result
edited-more r source [] edit middle result h k = (result, subst (λ v. IsEdited r v edit result) h k, refl)
edited-more r source (d ∷ edits) edit middle result (next, m, h) k = (next, m, edited-more r next edits edit middle result h k)

-- ---- a list of edits

-- The result is the only one, and it reads as the source after the edits.
pub result-made : {r : Repertoire} {source bytes : List ℕ} (edits : List Edit) → AreScalarEdits edits → IsEditAllResult r source edits (edited bytes) → AreMade r source edits bytes
result-made {r} {source} {bytes} edits scalar h = record {
  edit = record {
    result = h;
    only = λ other k. let one = edit_all_result r source edits in one.only other k ∙ sym (one.only (edited bytes) h);
    reads = edit_all-reads r source edits bytes scalar h;
  };
  keeps = edit_all-kept r source edits bytes h;
  ascii = λ on. edit_all-in_ascii r.encoding source edits bytes (subst (λ b. IsEditAllResult (record { encoding = r.encoding; characters = b }) source edits (edited bytes)) on h);
}

pub returns-all : (r : Repertoire) (source : List ℕ) (edits : List Edit) → AreScalarEdits edits
    → (result : Result (Vec ℕ) PropertiesError) → Returns Read r.encoding source (AreEdited r source edits) result → MakesEdits r source edits result
returns-all r source edits scalar (Ok bytes) h = result-made edits scalar h
returns-all r source edits scalar (Err error) h = h

-- The same of edits that ask nothing of comments.
pub pairs-made : {r : Repertoire} {source bytes : List ℕ} (edits : List Edit) → AreScalarEdits edits → IsEditPairsResult r source edits (edited bytes)
    → ArePairsMade r source edits bytes
pairs-made {r} {source} {bytes} edits scalar h = record {
  result = h;
  only_one = λ other k. let one = edit_pairs_result r source edits in one.only other k ∙ sym (one.only (edited bytes) h);
  reads = edit_pairs-reads r source edits bytes scalar h;
  lines = λ old new o n.
      subst (λ v. AreLinesEditedInTurn edits v new) (sym (logical_lines_of-only r.encoding source old o))
      (subst (AreLinesEditedInTurn edits (logical_lines_of r.encoding source)) (sym (logical_lines_of-only r.encoding bytes new n))
      (edits-lines r source edits bytes h.0 scalar h.2));
  mapped = edit_pairs-map r source edits bytes scalar h;
  in_comments = edits-in_comments r source edits bytes scalar h;
  keeps = edits-kept r source edits bytes h.0 h.2;
  ascii = λ on. edit_pairs-in_ascii r.encoding source edits bytes (subst (λ b. IsEditPairsResult (record { encoding = r.encoding; characters = b }) source edits (edited bytes)) on h);
}

pub returns-pairs : (r : Repertoire) (source : List ℕ) (edits : List Edit) → AreScalarEdits edits
    → (result : Result (Vec ℕ) PropertiesError) → Returns PassedOver r.encoding source (AreEdited r source edits) result → EditsPairs r source edits result
returns-pairs r source edits scalar (Ok bytes) h = pairs-made edits scalar h
returns-pairs r source edits scalar (Err error) h = h

-- So it is for whatever becomes of comments.
pub returns-for : (comments : Comments) (r : Repertoire) (source : List ℕ) (edits : List Edit) → AreScalarEdits edits
    → (result : Result (Vec ℕ) PropertiesError) → Returns comments r.encoding source (AreEdited r source edits) result → MakesEditsFor comments r source edits result
returns-for Read = returns-all
returns-for PassedOver = returns-pairs

-- ---- one edit

-- What a list of one edit returns is what a call for that edit does.
pub returns-once : (comments : Comments) (r : Repertoire) (source : List ℕ) (edit : Edit) (result : Result (Vec ℕ) PropertiesError)
    → Returns comments r.encoding source (AreEdited r source (edit ∷ [])) result → Returns comments r.encoding source (IsEdited r source edit) result
returns-once Read r source edit (Ok bytes) (editable, sound, (next, made, is)) = (editable, sound, subst (IsEdited r source edit) (sym is) made)
returns-once PassedOver r source edit (Ok bytes) (editable, sound, (next, made, is)) = (editable, sound, subst (IsEdited r source edit) (sym is) made)
returns-once Read r source edit (Err error) h = h
returns-once PassedOver r source edit (Err error) h = h

-- What refuses any edit refuses an edit that makes such bytes.
pub refuses : (comments : Comments) (e : Encoding) (source : List ℕ) (Makes : List ℕ → Type 0) {A : Type 0} (result : Result A PropertiesError)
    {error : PropertiesError}
    → IsErrAnd result (λ x. x ≡ error) → IsRefusal (IsResult comments e source (λ bytes. Unit {0})) error
    → (x : PropertiesError) × (result ≡ Err x) × IsRefusal (IsResult comments e source Makes) x
refuses comments e source Makes result {error} returned h =
    let r = err_from_is_err_and result returned in (r.0, r.1, subst (IsRefusal (IsResult comments e source Makes)) (sym r.2) (by comments h))
  where
    by : (c : Comments) → IsRefusal (IsResult c e source (λ bytes. Unit {0})) error → IsRefusal (IsResult c e source Makes) error
    by Read h = h
    by PassedOver h = h
