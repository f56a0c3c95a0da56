use Rattle.std.proofs.Common.{◌≡◌, ◌∙◌, ap, arith, inl, inr, length, refl, subst, sym}
use Rattle.properties_tables.specs.{Private.Table.bytes_at, Private.Table.HoldsText, declared.key_table.KeyRow.KeyRow}
use Rattle.properties_tables.proofs.KeyTables.{length-places, places-more, table-more}
use Rattle.properties_tables.proofs.key_table.KeyTable.put.Goals as goal

pub returns-in-Some : goal.returns-in-Some
returns-in-Some c = record { puts = inl (rw c.in-Some.is at c.row_in.ensures, refl); table = c.requires }

pub returns : goal.returns
returns c =
    let s = c.args.self.now in
    let t = c.keep.new.self in
    let keeps = c.in_ok-keep.ensures in
    let key = c.args.key.now in
    let r : KeyRow = record { place = c.in_ok-place.place; first_line = c.args.line_number } in
    let text = ap (λ v. v.text.items) keeps.0 ∙ c.in_ok-place.ensures.appends in
    let rows = ap (λ v. v.rows.items) keeps.0 ∙ c.in_ok-push.ensures.items in
    let holds : HoldsText t.keys.text.items r.place = subst (λ v. HoldsText v.text.items r.place) (sym keeps.0) c.in_ok-place.ensures.holds in
    let at : bytes_at t.keys.text.items r.place ≡ key = subst (λ v. bytes_at v.text.items r.place ≡ key) (sym keeps.0) c.in_ok-place.ensures.is in
    let new = rw c.in_default.is at c.row_in.ensures in
    let size : c.len-row.result ≡ length s.keys.rows.items = omega arith in
    record {
      puts = inr (new, size ∙ sym (length-places s), places-more s t c.requires key new r text rows holds at);
      table = table-more s t c.requires key new r text rows holds at (rw size at keeps.1);
    }
