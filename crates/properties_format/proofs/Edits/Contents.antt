-- What a source says after edits in turn.
use Rattle.std.proofs.Common.{ℕ, List, [], ◌∷◌, ap, sym, subst}
use Rattle.properties_format.specs.Encoding.{Repertoire}
use Rattle.properties_format.specs.Edited.{edited}
use Rattle.properties_format.specs.Edits.{Edit, AreEdited, AreScalarEdits, IsEditAllResult}
use Rattle.properties_format.specs.Changed.{AreEditedIn, map_after, ReadsAfter}
use Rattle.properties_format.proofs.Changed.Laws.{IsReadable, source_contents, IsReadTo, edit-contents}
use Rattle.properties_format.proofs.Changed.Maps.{map-after}
use Rattle.properties_format.proofs.Changed.Read.{readable, reads-after}

-- After edits in turn the source says what it said after the same edits.
pub edits-contents : (t : Repertoire) (source : List ℕ) (edits : List Edit) (result : List ℕ) → IsReadable t.encoding source → AreScalarEdits edits
    → AreEdited t source edits result → IsReadTo t.encoding result (AreEditedIn edits (source_contents t.encoding source))
edits-contents t source [] result r k h = record { readable = subst (IsReadable t.encoding) (sym h) r; such = ap (source_contents t.encoding) h }
edits-contents t source (edit ∷ edits) result r k h =
    let m = edit-contents t source edit h.0 r k.0 h.1 in
    let n = edits-contents t h.0 edits result m.readable k.1 h.2 in
    record { readable = n.readable; such = (source_contents t.encoding h.0, m.such, n.such) }

-- The result of edits in turn reads as the source after them.
pub edit_all-reads : (r : Repertoire) (source : List ℕ) (edits : List Edit) (result : List ℕ) → AreScalarEdits edits
    → IsEditAllResult r source edits (edited result) → ReadsAfter (AreEditedIn edits) (map_after edits) r.encoding source result
edit_all-reads r source edits result k h =
    reads-after r.encoding source result _ (map_after edits) (edits-contents r source edits result (readable r.encoding source h.0 h.1) k h.2) (map-after edits)
