-- The logical lines of a source after edits in turn. Nothing is asked of the lines: any of them may be malformed.
use Rattle.std.proofs.Common.{◌≡◌, ℕ, true, List, [], ◌∷◌, ◌++◌, ap, sym, inl, inr, subst}
use Rattle.properties_format.specs.Encoding.{Encoding, InForce, byte_order_mark, Repertoire, in_encoding}
use Rattle.properties_format.specs.Items.{pair, given, IsOutcome}
use Rattle.properties_format.specs.Body.{HeldLine, as_groups}
use Rattle.properties_format.specs.Edited.{is_editable}
use Rattle.properties_format.specs.Edits.{Edit, put, remove, set_value, IsEdited, AreEdited, IsScalarEdit, AreScalarEdits}
use Rattle.properties_format.specs.Plan.{at_last, put_change, value_change}
use Rattle.properties_format.specs.Changed.{AreLogicalLines, AreLinesSet, AreLeft, AreLinesEdited, AreLinesEditedInTurn, IsPairWith}
use Rattle.properties_format.specs.Computed.Body.{held_groups_of}
use Rattle.properties_format.proofs.Body.Groups.{held_groups_of-only}
use Rattle.properties_format.proofs.Edited.Fronts.{logical_lines, logical_lines-only}
use Rattle.properties_format.proofs.Edits.Results.{edit-editable}
use Rattle.properties_format.proofs.Plan.Made.{key_set-is_planned, key_removed-is_planned, value_set-is_planned}
use Rattle.properties_format.proofs.Plan.Slots.{own-slots}
use Rattle.properties_format.proofs.Plan.Last.{at_last-meets}
use Rattle.properties_format.proofs.Plan.Added.{groups_put}
use Rattle.properties_format.proofs.Plan.NewValues.{groups_valued}
use Rattle.properties_format.proofs.Plan.Listed.{AreSlotsIn, groups_removed, slots-key_set, slots-key_removed, slots-value_set}
use Rattle.properties_format.proofs.Plan.Lines.{lines_of, slots-lines, put-lines, valued-lines, removed-lines, guarded-lines}

-- ---- the logical lines of a source

-- the logical lines of a body in force
abbrev lines_in : InForce → List (List ℕ)
lines_in f = logical_lines (as_groups (held_groups_of f.encoding f.body))

-- the logical lines of a source
abbrev pub logical_lines_of : Encoding → List ℕ → List (List ℕ)
logical_lines_of e source = lines_in (byte_order_mark e source)

-- No other lines are its logical lines.
pub logical_lines_of-only : (e : Encoding) (source : List ℕ) (xs : List (List ℕ)) → AreLogicalLines e source xs → xs ≡ logical_lines_of e source
logical_lines_of-only e source xs h =
    let f = byte_order_mark e source in rw (logical_lines-only (as_groups h.groups) xs h.are, held_groups_of-only f.encoding f.body h.groups h.held)

-- They are those of the groups that stand for its body.
source-lines : (e : Encoding) (source : List ℕ) (gs : List (List HeldLine)) → is_editable (byte_order_mark e source).encoding ≡ true → AreSlotsIn e source gs
    → logical_lines_of e source ≡ lines_of gs
source-lines e source gs ok s = let f = byte_order_mark e source in slots-lines f.encoding f.body gs ok s

-- ---- one edit

module _ (r : Repertoire) (source : List ℕ) (ok : is_editable (byte_order_mark r.encoding source).encoding ≡ true) (result : List ℕ)
    (yes : is_editable (byte_order_mark r.encoding result).encoding ≡ true) where
  abbrev f : InForce
  f = byte_order_mark r.encoding source

  abbrev t : Repertoire
  t = in_encoding r f.encoding

  abbrev gs : List (List HeldLine)
  gs = held_groups_of f.encoding f.body

  own : AreSlotsIn r.encoding source gs
  own = own-slots f.encoding f.body ok

  -- The groups that stand for the result have the lines after the edit.
  lines-after : (edit : Edit) → IsScalarEdit edit → IsEdited r source edit result
      → AreLinesEdited edit (logical_lines_of r.encoding source) (logical_lines_of r.encoding result)
  lines-after (put key value) (k, v) h =
      let s = rw (← (key_set-is_planned r source key value result ok).0 h) at (slots-key_set r source key value gs ok k v own) in
      let p = at_last key (put_change t key value) true gs in
      rw (source-lines r.encoding result (groups_put t source key value gs p) yes s)
      (put-lines t source key value gs ok k v own.turn p (at_last-meets key (put_change t key value) true gs))
  lines-after (remove key) k h =
      let s = rw (← (key_removed-is_planned r.encoding source key result).0 h) at (slots-key_removed r.encoding source key gs ok own) in
      rw (source-lines r.encoding result (groups_removed f.encoding source key gs) yes s, guarded-lines)
      (removed-lines f.encoding key gs own.turn)
  lines-after (set_value key value) (k, v) h =
      let s = rw (← (value_set-is_planned r source key value result ok).0 h) at (slots-value_set r source key value gs ok k v own) in
      let p = at_last key (value_change t value) true gs in
      rw (source-lines r.encoding result (groups_valued t gs key value gs p) yes s)
      (valued-lines t gs key value ok k v own.turn p (at_last-meets key (value_change t value) true gs))

-- After an edit, the logical lines are those of the source after the same edit.
pub edit-lines : (r : Repertoire) (source : List ℕ) (edit : Edit) (result : List ℕ) → is_editable (byte_order_mark r.encoding source).encoding ≡ true
    → IsScalarEdit edit → IsEdited r source edit result → AreLinesEdited edit (logical_lines_of r.encoding source) (logical_lines_of r.encoding result)
edit-lines r source edit result ok k h = lines-after r source ok result (edit-editable r source edit result ok h) edit k h

-- ---- edits in turn

-- After edits in turn, the logical lines are those of the source after the same edits, whatever they are.
pub edits-lines : (r : Repertoire) (source : List ℕ) (edits : List Edit) (result : List ℕ) → is_editable (byte_order_mark r.encoding source).encoding ≡ true
    → AreScalarEdits edits → AreEdited r source edits result
    → AreLinesEditedInTurn edits (logical_lines_of r.encoding source) (logical_lines_of r.encoding result)
edits-lines r source [] result ok k h = ap (logical_lines_of r.encoding) h
edits-lines r source (edit ∷ edits) result ok k h = (
  logical_lines_of r.encoding h.0,
  edit-lines r source edit h.0 ok k.0 h.1,
  edits-lines r h.0 edits result (edit-editable r source edit h.0 ok h.1) k.1 h.2,
)

-- ---- what holds of all lines

-- This is so of each line.
abbrev pub OfEach : (List ℕ → Type 0) → List (List ℕ) → Type 0
OfEach P [] = Unit {0}
OfEach P (x ∷ xs) = P x × OfEach P xs

-- What is so of each pair, and of each line before edits, is so of each line after them.
module _ (P : List ℕ → Type 0) (of_pair : (x key value : List ℕ) → IsOutcome x (given (pair key value)) → P x) where
  -- Two lists are one,
  each-join : (xs ys : List (List ℕ)) → OfEach P xs → OfEach P ys → OfEach P (xs ++ ys)
  each-join [] ys h k = k
  each-join (x ∷ xs) ys h k = (h.0, each-join xs ys h.1 k)

  -- and one is two.
  each-parts : (xs ys : List (List ℕ)) → OfEach P (xs ++ ys) → OfEach P xs × OfEach P ys
  each-parts [] ys h = (tt, h)
  each-parts (x ∷ xs) ys h = let m = each-parts xs ys h.1 in ((h.0, m.0), m.1)

  -- A key is set.
  set-each : (key value : List ℕ) (old new : List (List ℕ)) → AreLinesSet key value old new → OfEach P old → OfEach P new
  set-each key value old new (inl h) r =
      let parts = each-parts h.before (h.line ∷ h.after) (rw h.was at r) in
      rw h.now (each-join h.before (h.changed ∷ h.after) parts.0 (of_pair h.changed key value h.has_value, parts.1.1))
  set-each key value old new (inr h) r = rw h.2 (each-join old (h.1 ∷ []) r (of_pair h.1 key value h.3, tt))

  -- A key is removed.
  left-each : (key : List ℕ) (old new : List (List ℕ)) → AreLeft (IsPairWith key) old new → OfEach P old → OfEach P new
  left-each key [] new h r = rw h tt
  left-each key (x ∷ xs) new (inl h) r = left-each key xs new h.1 r.1
  left-each key (x ∷ xs) new (inr h) r = rw h.2 (r.0, left-each key xs h.1 h.3 r.1)

  -- One edit is made,
  pub edit-each : (edit : Edit) (old new : List (List ℕ)) → AreLinesEdited edit old new → OfEach P old → OfEach P new
  edit-each (put key value) old new h r = set-each key value old new h r
  edit-each (remove key) old new h r = left-each key old new h r
  edit-each (set_value key value) old new h r = set-each key value old new h r

  -- or several, one after the other.
  pub edits-each : (edits : List Edit) (old new : List (List ℕ)) → AreLinesEditedInTurn edits old new → OfEach P old → OfEach P new
  edits-each [] old new h r = subst (OfEach P) (sym h) r
  edits-each (edit ∷ edits) old new h r = edits-each edits h.0 new h.2 (edit-each edit old h.0 h.1 r)
