-- A key that is set twice is set once, to the later value, and a value likewise: the groups that the first edit left
-- become what the source's own groups would have become.
use Rattle.std.proofs.Common.{◌≡◌, ℕ, Bool, true, false, List, [], ◌∷◌, ◌++◌, All, Option, Some, None, refl, ap, ap₂, sym, ◌∙◌, inl, inr}
use Rattle.std.specs.Prelude.{if◌then◌else◌}
use Rattle.std.proofs.lemmas.Bool.{cases_Bool}
use Rattle.std.proofs.lemmas.List.{append_cancel_right}
use Rattle.properties_format.specs.Text.{scalar, LineEnding, lf, cr, line_ending_text, is_empty}
use Rattle.properties_format.specs.Encoding.{Encoding, InForce, byte_order_mark, Repertoire, in_encoding}
use Rattle.properties_format.specs.Body.{HeldLine, HasKey, NoneHasKey, held_in, groups_bytes, last_ending}
use Rattle.properties_format.specs.Edited.{bom_of, is_editable, final_group, separation_by, pair_bytes}
use Rattle.properties_format.specs.Valued.{ending_among}
use Rattle.properties_format.specs.Plan.{Change, become, at_last, put_change, put_in, value_change, value_in, with_key_set, with_value_set}
use Rattle.properties_format.specs.Computed.Lines.{ends_in_cr}
use Rattle.properties_format.specs.Computed.Body.{held_groups_of}
use Rattle.properties_format.specs.Computed.Valued.{has_value, last_between, separator_by}
use Rattle.properties_format.proofs.Edited.ByteOrderMarks.{source-whole}
use Rattle.properties_format.proofs.Edited.LogicalLines.{ends-right}
use Rattle.properties_format.proofs.GroupsInTurn.Merged.{turn-at}
use Rattle.properties_format.proofs.Valued.Made.{new_separator-meets}
use Rattle.properties_format.proofs.Valued.Separators.{added_bytes, new_separator-fit}
use Rattle.properties_format.proofs.Plan.Slots.{again-at, SayPair, AreSlotsOf, own-slots, group_of, groups_after, no_line, Becomes, no_line-other, become-after, last-stays}
use Rattle.properties_format.proofs.Plan.Last.{IsLastPlan, IsPlanOf, at_last-meets, at_last-none, at_last-some, first_behind, front-bytes}
use Rattle.properties_format.proofs.Plan.Added.{groups_put, all_closed, closed-bytes, pair-said, slots-put}
use Rattle.properties_format.proofs.Plan.Listed.{ends-alike, planned-in_force, valued-in_force}
use Rattle.properties_format.proofs.Plan.Values.{new_text, new-said, new-again}
use Rattle.properties_format.proofs.Plan.NewValues.{groups_valued, slots-valued, added-said, added-again}

-- The last pair became x. It changes again, among the groups after that change.
again-changed : (e : Encoding) (key value : List ℕ) (gs : List (List HeldLine)) (change other : Bool → List HeldLine → Change) (cs : List Change)
    (m : IsLastPlan key change true gs cs) (x y : List ℕ) → is_editable e ≡ true → change (first_behind true m.before) m.group ≡ become x
    → SayPair e key value x → other (first_behind true m.before) m.group ≡ become y
    → Becomes x y (other (first_behind true m.before) (group_of e x (last_ending m.group)))
    → (ds : List Change) × (at_last key other true (groups_after e cs gs) ≡ Some ds) × (es : List Change) × (at_last key other true gs ≡ Some es)
    × (groups_after e ds (groups_after e cs gs) ≡ groups_after e es gs)
again-changed e key value gs change other cs m x y ok c said d b =
    let o = last_ending m.group in
    let after : groups_after e cs gs ≡ m.before ++ group_of e x o ∷ m.after = rw (m.division, m.plan, c) (become-after e x m.before m.group m.after) in
    let r = again-at e key value other m.before x y o m.after ok said m.no_later b in (
      r.0,
      ap (at_last key other true) after ∙ r.1,
      _,
      ap (at_last key other true) m.division ∙ at_last-some key other true m.before m.group m.after m.has m.no_later,
      ap (groups_after e r.0) after ∙ r.2 ∙ sym (rw (d, m.division) (become-after e y m.before m.group m.after)),
    )

-- The byte order mark of a result is that of its source.
bom-same : (e f : Encoding) (source result body : List ℕ) → result ≡ bom_of source ++ body → byte_order_mark e result ≡ record { encoding = f; body = body }
    → bom_of result ≡ bom_of source
bom-same e f source result body is force =
    append_cancel_right (bom_of result) (bom_of source) body
    (ap (λ (w : InForce). bom_of result ++ w.body) (sym force) ∙ sym (source-whole e result) ∙ is)

-- ---- one body

-- The last pair with the key doesn't have the value.
abbrev pub IsNotAt : List ℕ → List ℕ → List (List HeldLine) → Type 0
IsNotAt value key gs =
    (before : List (List HeldLine)) (g : List HeldLine) (after : List (List HeldLine)) → gs ≡ before ++ g ∷ after → HasKey key g → NoneHasKey key after
    → has_value value g ≡ false

module _ (t : Repertoire) (body key first second : List ℕ) (ok : is_editable t.encoding ≡ true) (k : All scalar key) (v : All scalar first)
    (w : All scalar second) where
  abbrev all : List (List HeldLine)
  all = held_groups_of t.encoding body

  own : AreSlotsOf t.encoding body all
  own = own-slots t.encoding body ok

  -- A key is set again.
  module _ (source other : List ℕ) (ends : ends_in_cr body ≡ true → ends_in_cr source ≡ true) where
    put-groups : (p : Option (List Change)) → IsPlanOf key (put_change t key first) true all p
        → (let gs = groups_put t source key first all p in
        groups_put t other key second gs (at_last key (put_change t key second) true gs)
        ≡ groups_put t source key second all (at_last key (put_change t key second) true all))
    put-groups (Some cs) m =
        let b = first_behind true m.before in
        let r = again-changed t.encoding key first all (put_change t key first) (put_change t key second) cs m (pair_bytes t b key first)
        (pair_bytes t b key second) ok refl (pair-said t b key first ok k v) refl (inl refl) in
        rw (r.1, r.3) r.4
    put-groups None none =
        let by : LineEnding = if ends_in_cr source then cr else lf in
        let b = is_empty (groups_bytes all ++ separation_by (line_ending_text by) (final_group all)) in
        let q = at_last-none key (put_change t key first) true all none in
        let turn = rw q at ((slots-put t source body key first all ok k v ends own).turn) in
        let flag = front-bytes t.encoding (all_closed t.encoding by all) _ _ turn ∙ ap is_empty (closed-bytes t.encoding by all own.turn) in
        let r = again-at t.encoding key first (put_change t key second) (all_closed t.encoding by all) (pair_bytes t b key first) (pair_bytes t b key second)
        (Some lf) ((no_line t.encoding ∷ []) ∷ []) ok (pair-said t b key first ok k v) (no_line-other t.encoding key, tt)
        (inl (ap (λ c. become (pair_bytes t c key second)) flag)) in
        rw (r.1, at_last-none key (put_change t key second) true all none) r.2

    pub put-again : (let between = put_in t source key first all in (ends_in_cr between ≡ true → ends_in_cr other ≡ true)
        → put_in t other key second (held_groups_of t.encoding between) ≡ put_in t source key second all)
    put-again still =
        let p = at_last key (put_change t key first) true all in
        let s = slots-put t source body key first all ok k v ends own in
        let n = slots-put t other (put_in t source key first all) key second _ ok k w still s in
        sym n.bytes
        ∙ ap groups_bytes (put-groups p (at_last-meets key (put_change t key first) true all))
        ∙ (slots-put t source body key second all ok k w ends own).bytes

  -- A value is set again.
  module _ (no : IsNotAt second key all) where
    value-groups : (any : List (List HeldLine)) (p : Option (List Change)) → IsPlanOf key (value_change t first) true all p
        → (let gs = groups_valued t all key first all p in
        groups_valued t any key second gs (at_last key (value_change t second) true gs)
        ≡ groups_valued t all key second all (at_last key (value_change t second) true all))
    value-groups any (Some cs) m =
        let b = first_behind true m.before in
        let (o, a, f) = turn-at t.encoding m.before m.group m.after (rw m.division at own.turn) in
        elim (cases_Bool (has_value first m.group)) [
          | inl h ↦
              let same = (last-stays key (value_change t first) true all cs m (rw h refl)).1 t.encoding in
              let is = ap (at_last key (value_change t second) true) m.division
              ∙ at_last-some key (value_change t second) true m.before m.group m.after m.has m.no_later in
              rw (same, is) refl
          | inr h ↦
              let r = again-changed t.encoding key first all (value_change t first) (value_change t second) cs m (new_text t m.group first)
              (new_text t m.group second) ok (rw h refl) (new-said t key first o m.group ok v a f m.has)
              (rw (no m.before m.group m.after m.division m.has m.no_later) refl)
              (new-again t key first o m.group ok v a f m.has second b (last_ending m.group)) in
              rw (r.1, r.3) r.4
        ]
    value-groups any None none =
        let by : LineEnding = ending_among lf (held_in all) in
        let b = is_empty (groups_bytes all ++ separation_by (line_ending_text by) (final_group all)) in
        let sep = separator_by key (last_between all) in
        let fit = new_separator-fit all key sep (new_separator-meets all key) in
        let before = all_closed t.encoding by all in
        let r = again-at t.encoding key first (value_change t second) before (added_bytes t b key sep first) (added_bytes t b key sep second) (Some by)
        ((no_line t.encoding ∷ []) ∷ []) ok (added-said t b key sep first ok k v fit) (no_line-other t.encoding key, tt)
        (added-again t b key sep first ok k v fit second (first_behind true before) by) in
        rw (r.1, at_last-none key (value_change t second) true all none) r.2

    value-again : value_in t key second (held_groups_of t.encoding (value_in t key first all)) ≡ value_in t key second all
    value-again =
        let s = slots-valued t body key first all ok k v own in
        let n = slots-valued t (value_in t key first all) key second _ ok k w s in
        sym n.bytes
        ∙ ap groups_bytes
        (value-groups (held_groups_of t.encoding (value_in t key first all)) (at_last key (value_change t first) true all)
        (at_last-meets key (value_change t first) true all))
        ∙ (slots-valued t body key second all ok k w own).bytes

-- ---- a source

-- Setting a key twice comes to setting it once.
pub set-twice : (r : Repertoire) (source key first second : List ℕ) → is_editable (byte_order_mark r.encoding source).encoding ≡ true → All scalar key
    → All scalar first → All scalar second → with_key_set r (with_key_set r source key first) key second ≡ with_key_set r source key second
set-twice r source key first second ok k v w =
    let f = byte_order_mark r.encoding source in
    let t = in_encoding r f.encoding in
    let between = with_key_set r source key first in
    let body = put_in t source key first (held_groups_of f.encoding f.body) in
    let force = planned-in_force r source key first ok in
    let mark = bom-same r.encoding f.encoding source between body refl force in
    ap (λ (i : InForce). bom_of between ++ put_in (in_encoding r i.encoding) between key second (held_groups_of i.encoding i.body)) force
    ∙ ap₂ (λ x y. x ++ y) mark
    (put-again t f.body key first second ok k v w source between (ends-alike r.encoding source) (λ q. ends-right (bom_of source) body q))

-- Setting a value twice comes to setting it once, if the source doesn't have the later one already.
pub value_set-twice : (r : Repertoire) (source key first second : List ℕ) → is_editable (byte_order_mark r.encoding source).encoding ≡ true
    → All scalar key → All scalar first → All scalar second
    → IsNotAt second key (held_groups_of (byte_order_mark r.encoding source).encoding (byte_order_mark r.encoding source).body)
    → with_value_set r (with_value_set r source key first) key second ≡ with_value_set r source key second
value_set-twice r source key first second ok k v w other =
    let f = byte_order_mark r.encoding source in
    let t = in_encoding r f.encoding in
    let between = with_value_set r source key first in
    let body = value_in t key first (held_groups_of f.encoding f.body) in
    let force = valued-in_force r source key first ok in
    ap (λ (i : InForce). bom_of between ++ value_in (in_encoding r i.encoding) key second (held_groups_of i.encoding i.body)) force
    ∙ ap₂ (λ x y. x ++ y) (bom-same r.encoding f.encoding source between body refl force) (value-again t f.body key first second ok k v w other)
