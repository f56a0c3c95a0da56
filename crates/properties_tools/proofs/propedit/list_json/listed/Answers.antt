use Rattle.std.proofs.Common.{◌≡◌, ◌∙◌, ◌<◌, [], ap, ap₂, arith, get_or, length, map, sym, take}
use Rattle.std.specs.{Prelude.encode_utf8_all, Str.chars}
use Rattle.std.proofs.{lemmas.List.get_or-map, lemmas.List.length-map, lemmas.List.take_all, lemmas.Str.encodes-chars}
use Rattle.properties_format.specs.Writing.{Pair}
use Rattle.properties_tools.specs.Propedit.Listing.{is_key_listed, is_pair_listed}
use Rattle.properties_tables.specs.{Table.Row, Private.Table.row_pair, Private.Table.rows_of}
use Rattle.properties_tools.proofs.{PairObjects.began, PairObjects.object-line, PairObjects.one-more, PrintedLists.kept, PrintedLists.left_out}
use Rattle.properties_tools.proofs.{propedit.list_json.listed.Goals.then-is_listed+in_ok-key+in_ok-string, propedit.list_json.listed.Goals.else-is_listed}
use Rattle.properties_tools.proofs.propedit.list_json.listed.Goals as goal

pub loop-row-init : goal.loop-row-init
loop-row-init c =
    began (c.new-writer.ensures.before ∙ c.new.ensures.items) c.new-writer.ensures.tokens c.in_ok-begin_object.ensures c.status_of_none-status.ensures

pub loop-row-preserved : goal.loop-row-preserved
loop-row-preserved c =
    let rows = rows_of c.args.table.now in
    let pairs = map row_pair rows in
    let row = c.loop-row.row in
    let prefix = chars c.args.prefix.now in
    let none : Row = record { key = []; first = 0; last = 0; value = [] } in
    let one : Pair = row_pair (get_or rows row none) in
    let within : row < length rows = omega arith in
    let below : row < length pairs = let l = length-map rows row_pair in omega arith in
    let is : get_or pairs row one ≡ one = get_or-map row_pair rows row none one within in
    let listed = is_pair_listed prefix in
    let asked = ap (is_key_listed prefix) (sym (c.key-key.ensures none)) ∙ sym c.is_listed.ensures in
    elim c.if-is_listed.branch [
      | then-is_listed+in_ok-key+in_ok-string w ↦
          rw w.writer-is (rw w.status-is (rw (kept listed pairs row one below is (asked ∙ w.if-is_listed.true)) (
          one-more one c.loop-row.invariant w.in_ok-key.ensures w.in_ok-string.ensures
          (sym (encodes-chars c.key-key.result.now c.key-key.utf8) ∙ ap encode_utf8_all (c.key-key.ensures none))
          (sym (encodes-chars w.value.result.now w.value.utf8) ∙ ap encode_utf8_all (w.value.ensures none))
          )))
      | else-is_listed w ↦
          rw w.writer-is (rw w.status-is (rw (left_out listed pairs row one below is (asked ∙ w.if-is_listed.false)) c.loop-row.invariant))
    ]

pub returns : goal.returns
returns c =
    let pairs = map row_pair (rows_of c.args.table.now) in
    let test = c.loop-row-test.false in
    let size = c.len-row-end.ensures in
    let all : take c.loop-row.row pairs ≡ pairs = take_all c.loop-row.row pairs (let l = length-map (rows_of c.args.table.now) row_pair in omega arith) in
    let wrote = rw all at c.loop-row.invariant in
    record { text = object-line wrote c.in_ok-end_object.ensures c.in_ok-text.ensures; status = wrote.told }
