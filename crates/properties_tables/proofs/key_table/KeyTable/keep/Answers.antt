use Rattle.std.proofs.Common.{ℕ, ◌∙◌, ◌+◌, List, ap, arith, inl, inr, refl, subst}
use Rattle.std.proofs.Math.ListN.{set}
use Rattle.std.specs.{Prelude.Some, Prelude.string_bytes, BTreeMap.UpdatesBy, Cmp.Lexicographic.slice_cmp, Ordering.nat_cmp, String.string_cmp}
use Rattle.properties_items.proofs.TextMaps.Values.{at_chars-updated}
use Rattle.properties_tables.proofs.{KeyTables.slot-is, KeyTables.some-row, key_table.KeyTable.keep.Goals.then-index-eq0+else-row-lt-ROWS_IN_SLOTS}
use Rattle.properties_tables.proofs.key_table.KeyTable.keep.Goals.{else-index-eq0}
use Rattle.properties_tables.proofs.key_table.KeyTable.keep.Goals as goal

pub returns-then-row-lt-ROWS_IN_SLOTS : goal.returns-then-row-lt-ROWS_IN_SLOTS
returns-then-row-lt-ROWS_IN_SLOTS c =
    let s = c.args.self.now in
    let is = slot-is s c.args.key.now c.args.slot c.index.result.now c.requires.slot c.requires.some c.index.ensures in
    let slots = ap (λ v. set s.slots.items v (c.args.row + 1)) c.requires.slot in
    (refl, (c.args.row, inl (is ∙ c.if-index-eq0.true, omega arith, slots), inl (refl, refl)))

pub returns : goal.returns
returns c =
    let s = c.args.self.now in
    let now = c.if-index-eq0.self in
    let t = c.insert.new.self in
    let is = slot-is s c.args.key.now c.args.slot c.index.result.now c.requires.slot c.requires.some c.index.ensures in
    let updates = subst (λ v. UpdatesBy string_cmp (λ x. slice_cmp nat_cmp v (string_bytes x)) now.others t (Some c.args.row))
    c.in_ok-from_str.ensures.ok c.in_ok-insert.ensures.updates in
    let others = at_chars-updated now.others t c.args.key.now c.utf8.key (Some c.args.row) updates in
    elim c.if-index-eq0.branch [
      | then-index-eq0+else-row-lt-ROWS_IN_SLOTS w ↦
          let slots = ap (λ v. set s.slots.items v 1) c.requires.slot in
          rw w.self-is (
            refl,
            (0, inl (is ∙ w.if-index-eq0.true, omega arith, slots), inr (c.insert.ensures.ordered, rw w.self-is at others)),
          )
      | else-index-eq0 w ↦
          rw w.self-is (
            refl,
            (_, inr (is ∙ some-row _ w.if-index-eq0.false, refl {A = List ℕ}), inr (c.insert.ensures.ordered, rw w.self-is at others)),
          )
    ]
