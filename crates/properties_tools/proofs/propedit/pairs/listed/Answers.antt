use Rattle.std.proofs.Common.{◌≡◌, ◌∙◌, ◌++◌, ◌<◌, [], ap, ap₂, append_assoc, arith, get_or, length, map, subst, sym}
use Rattle.std.specs.Str.{chars}
use Rattle.std.proofs.lemmas.List.{get_or-map, length-map}
use Rattle.properties_format.specs.Writing.{Pair}
use Rattle.properties_tools.specs.{Propedit.Listing.ended_pair, Propedit.Listing.is_key_listed, Propedit.Listing.is_pair_listed, Propedit.Texts.ended}
use Rattle.properties_tools.specs.Propedit.Texts.{followed_text}
use Rattle.properties_tables.specs.{Table.Row, declared.table.LastPair.LastPair}
use Rattle.properties_tables.specs.Private.Table.{bytes_at, row_pair, rows_of, HoldsText}
use Rattle.properties_tables.proofs.KeyTables.{none}
use Rattle.properties_tables.proofs.Tables.{below-places, length-rows, no_last, row-at}
use Rattle.properties_tools.proofs.{PrintedLists.passed, PrintedLists.printed, propedit.pairs.listed.Goals.then-is_listed+in_ok-push_followed+in_ok-push_ended}
use Rattle.properties_tools.proofs.propedit.pairs.listed.Goals.{else-is_listed}
use Rattle.properties_tools.proofs.propedit.pairs.listed.Goals as goal

pub key-key-requires-clause-table : goal.key-key-requires-clause-table
key-key-requires-clause-table c = rw c.into_keys-keys.ensures c.requires.keys.texts

pub key-key-requires-clause-within : goal.key-key-requires-clause-within
key-key-requires-clause-within c =
    rw c.into_keys-keys.ensures (below-places c.args.table c.requires c.loop-row.row (omega arith))

pub index-requires : goal.index-requires
index-requires c = let l = length-rows c.args.table c.requires in omega arith

pub text_at-requires : goal.text_at-requires
text_at-requires c =
    let t = c.args.table in
    let l = length-rows t c.requires in
    let texts = c.requires.texts c.loop-row.row c.index.result.now (omega arith) in
    rw c.deref.ensures.value (subst (λ (v : LastPair). HoldsText t.values.items v.value) (sym c.index.ensures) texts)

pub loop-row-preserved : goal.loop-row-preserved
loop-row-preserved c =
    let t = c.args.table in
    let rows = rows_of t in
    let pairs = map row_pair rows in
    let row = c.loop-row.row in
    let end = c.args.end in
    let text = c.loop-row.text.items in
    let prefix = chars c.args.prefix.now in
    let blank : Row = record { key = []; first = 0; last = 0; value = [] } in
    let one : Pair = row_pair (get_or rows row blank) in
    let within : row < length rows = omega arith in
    let below : row < length pairs = let l = length-map rows row_pair in omega arith in
    let is : get_or pairs row one ≡ one = get_or-map row_pair rows row blank one within in
    let key : chars c.key-key.result.now ≡ (get_or rows row blank).key =
    (rw c.into_keys-keys.ensures at (c.key-key.ensures none)) ∙ sym (ap (λ (r : Row). r.key) (row-at t c.requires row blank no_last within)) in
    let asked = ap (is_key_listed prefix) (sym key) ∙ sym c.is_listed.ensures in
    elim c.if-is_listed.branch [
      | then-is_listed+in_ok-push_followed+in_ok-push_ended w ↦
          let value : chars w.text_at.result.now ≡ (get_or rows row blank).value =
          ap chars (w.text_at.ensures ∙ ap (λ v. bytes_at v w.index.result.now.value) w.deref.ensures.value)
          ∙ ap (λ (l : LastPair). chars (bytes_at t.values.items l.value)) w.index.ensures
          ∙ sym (ap (λ (r : Row). r.value) (row-at t c.requires row blank w.index.result.now within)) in
          ap (λ v. v.items) w.text-is ∙ w.in_ok-push_ended.ensures ∙ ap (λ v. v ++ ended end (chars w.text_at.result.now)) w.in_ok-push_followed.ensures
          ∙ append_assoc text (followed_text c.separator_of-separator.result (chars c.key-key.result.now)) (ended end (chars w.text_at.result.now))
          ∙ ap (λ b. text ++ (followed_text b (chars c.key-key.result.now) ++ ended end (chars w.text_at.result.now))) c.separator_of-separator.ensures
          ∙ ap₂ (λ k v. text ++ ended_pair end (k, v)) key value
          ∙ printed (is_pair_listed prefix) (ended_pair end) pairs row one below is text c.loop-row.invariant (asked ∙ w.if-is_listed.true)
      | else-is_listed w ↦
          ap (λ v. v.items) w.text-is
          ∙ passed (is_pair_listed prefix) (ended_pair end) pairs row one below is text c.loop-row.invariant (asked ∙ w.if-is_listed.false)
    ]
