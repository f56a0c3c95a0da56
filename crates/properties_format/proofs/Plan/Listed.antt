-- Keys that are set and removed in turn: the groups that were read once, each edit made to those that the one before it
-- left, stand for the source that the edits make of the bytes.
use Rattle.std.proofs.Common.{◌≡◌, ℕ, ◌&&◌, Bool, true, false, List, [], ◌∷◌, ◌++◌, All, refl, ap, sym, ◌∙◌, inr, subst, arith}
use Rattle.std.specs.Prelude.{not, if◌then◌else◌}
use Rattle.properties_format.specs.Text.{scalar, lf, line_feed}
use Rattle.properties_format.specs.Encoding.{Encoding, Repertoire, InForce, byte_order_mark, begins_like_bom, in_encoding}
use Rattle.properties_format.specs.Body.{HeldLine, groups_bytes}
use Rattle.properties_format.specs.Edited.{is_editable, bom_of, guarding_lf}
use Rattle.properties_format.specs.Plan.{planned, removal, at_last, put_change, put_in, value_change, value_in, with_key_set, with_value_set, with_key_removed}
use Rattle.properties_format.specs.Computed.Lines.{ends_in_cr}
use Rattle.properties_format.specs.Computed.Body.{held_groups_of}
use Rattle.properties_format.proofs.Body.Decoded.{decoded-nil}
use Rattle.properties_format.proofs.Edited.ByteOrderMarks.{in_force, key_set-in_force, source-whole}
use Rattle.properties_format.proofs.Edited.LogicalLines.{ends-right}
use Rattle.properties_format.proofs.GroupsInTurn.Merged.{IsEndedGroup}
use Rattle.properties_format.proofs.Plan.Made.{key_set-meets, value_set-meets}
use Rattle.properties_format.proofs.Plan.Slots.{AreSlotsOf, groups_after, slots-removed, turn-cons}
use Rattle.properties_format.proofs.Plan.Added.{blank, groups_put, slots-put}
use Rattle.properties_format.proofs.Plan.NewValues.{groups_valued, slots-valued}
use Rattle.properties_format.proofs.Valued.Marks.{value_set-in_force}

-- These groups stand for the body of a source.
abbrev pub AreSlotsIn : Encoding → List ℕ → List (List HeldLine) → Type 0
AreSlotsIn e source gs = AreSlotsOf (byte_order_mark e source).encoding (byte_order_mark e source).body gs

-- If a source has this body, they stand for it.
slots-in : (e : Encoding) (source : List ℕ) (f : InForce) (gs : List (List HeldLine)) → byte_order_mark e source ≡ f → AreSlotsOf f.encoding f.body gs
    → AreSlotsIn e source gs
slots-in e source f gs s a = subst (λ (v : InForce). AreSlotsOf v.encoding v.body gs) (sym s) a

-- ---- a key is set

-- A CR at the end of the body is at the end of the source.
pub ends-alike : (e : Encoding) (source : List ℕ) → ends_in_cr (byte_order_mark e source).body ≡ true → ends_in_cr source ≡ true
ends-alike e source q = ap ends_in_cr (source-whole e source) ∙ ends-right (bom_of source) (byte_order_mark e source).body q

-- After a key is set, the same encoding is in force, with the body that the plan makes.
pub planned-in_force : (r : Repertoire) (source key value : List ℕ) → is_editable (byte_order_mark r.encoding source).encoding ≡ true
    → (let f = byte_order_mark r.encoding source in byte_order_mark r.encoding (with_key_set r source key value)
    ≡ record { encoding = f.encoding; body = put_in (in_encoding r f.encoding) source key value (held_groups_of f.encoding f.body) })
planned-in_force r source key value ok =
    key_set-in_force r source key value (with_key_set r source key value) ok (key_set-meets r source key value ok)

pub slots-key_set : (r : Repertoire) (source key value : List ℕ) (gs : List (List HeldLine)) → is_editable (byte_order_mark r.encoding source).encoding ≡ true
    → All scalar key → All scalar value → AreSlotsIn r.encoding source gs
    → (let t = in_encoding r (byte_order_mark r.encoding source).encoding in
    AreSlotsIn r.encoding (with_key_set r source key value) (groups_put t source key value gs (at_last key (put_change t key value) true gs)))
slots-key_set r source key value gs ok k v s =
    let f = byte_order_mark r.encoding source in
    let t = in_encoding r f.encoding in
    let body = put_in t source key value (held_groups_of f.encoding f.body) in
    slots-in r.encoding (with_key_set r source key value) (record { encoding = f.encoding; body = body }) _ (planned-in_force r source key value ok)
    (slots-put t source f.body key value gs ok k v (ends-alike r.encoding source) s)

-- ---- a key is removed

-- the groups behind an LF, if there is to be one
abbrev pub guarded : Encoding → Bool → List (List HeldLine) → List (List HeldLine)
guarded e b gs = if b then (blank e lf ∷ []) ∷ gs else gs

blank-ended : (e : Encoding) → IsEndedGroup e (blank e lf ∷ [])
blank-ended e = rw (decoded-nil e) (lf, (tt, refl, refl), inr (refl, refl))

slots-guarded : (e : Encoding) (b : Bool) (rest : List ℕ) (gs : List (List HeldLine)) → AreSlotsOf e rest gs
    → AreSlotsOf e ((if b then line_feed ∷ [] else []) ++ rest) (guarded e b gs)
slots-guarded e true rest gs s = record { turn = turn-cons e (blank e lf ∷ []) gs (blank-ended e) s.turn; bytes = ap (λ v. line_feed ∷ v) s.bytes }
slots-guarded e false rest gs s = s

-- the groups without a key
abbrev pub groups_removed : Encoding → List ℕ → List ℕ → List (List HeldLine) → List (List HeldLine)
groups_removed e source key gs =
    let left = groups_after e (removal key gs) gs in guarded e (not (begins_like_bom source) && begins_like_bom (groups_bytes left)) left

pub slots-key_removed : (e : Encoding) (source key : List ℕ) (gs : List (List HeldLine)) → is_editable (byte_order_mark e source).encoding ≡ true
    → AreSlotsIn e source gs → AreSlotsIn e (with_key_removed e source key) (groups_removed (byte_order_mark e source).encoding source key gs)
slots-key_removed e source key gs ok s =
    let f = byte_order_mark e source in
    let all = held_groups_of f.encoding f.body in
    let rest = planned (removal key all) all in
    let a = slots-removed f.encoding f.body key gs ok s in
    let g = slots-guarded f.encoding (not (begins_like_bom source) && begins_like_bom rest) rest (groups_after f.encoding (removal key gs) gs) a in
    slots-in e (with_key_removed e source key) (record { encoding = f.encoding; body = guarding_lf source rest ++ rest }) _
    (in_force e source (guarding_lf source rest ++ rest) ok (λ n. unmarked source rest n))
    (rw a.bytes g)
  where
    unmarked : (source rest : List ℕ) → begins_like_bom source ≡ false → begins_like_bom (guarding_lf source rest ++ rest) ≡ false
    unmarked source rest n = grind (arith)

-- ---- a value is set

-- After a value is set, the same encoding is in force, with the body that the plan makes.
pub valued-in_force : (r : Repertoire) (source key value : List ℕ) → is_editable (byte_order_mark r.encoding source).encoding ≡ true
    → (let f = byte_order_mark r.encoding source in byte_order_mark r.encoding (with_value_set r source key value)
    ≡ record { encoding = f.encoding; body = value_in (in_encoding r f.encoding) key value (held_groups_of f.encoding f.body) })
valued-in_force r source key value ok =
    value_set-in_force r source key value (with_value_set r source key value) ok (value_set-meets r source key value ok)

pub slots-value_set : (r : Repertoire) (source key value : List ℕ) (gs : List (List HeldLine)) → is_editable (byte_order_mark r.encoding source).encoding ≡ true
    → All scalar key → All scalar value → AreSlotsIn r.encoding source gs
    → (let f = byte_order_mark r.encoding source in let t = in_encoding r f.encoding in
    AreSlotsIn r.encoding (with_value_set r source key value)
    (groups_valued t (held_groups_of f.encoding f.body) key value gs (at_last key (value_change t value) true gs)))
slots-value_set r source key value gs ok k v s =
    let f = byte_order_mark r.encoding source in
    let t = in_encoding r f.encoding in
    slots-in r.encoding (with_value_set r source key value) (record { encoding = f.encoding; body = value_in t key value (held_groups_of f.encoding f.body) }) _
    (valued-in_force r source key value ok) (slots-valued t f.body key value gs ok k v s)

-- ---- in turn
