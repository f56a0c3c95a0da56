use Rattle.std.proofs.Common.{◌∙◌, arith, sym}
use Rattle.properties_items.proofs.TextMaps.Values.{at_chars-sorted}
use Rattle.properties_tables.proofs.KeyTables.{at-row, finds-empty, finds-other, held-is, held-row, key-differs, key-same, length-places}
use Rattle.properties_tables.proofs.key_table.KeyTable.row_in.Goals as goal

pub returns-then-held-eq0 : goal.returns-then-held-eq0
returns-then-held-eq0 c =
    let s = c.args.self.now in
    let is = held-is s c.requires.table c.args.key.now c.utf8.key c.args.slot c.index.result.now c.requires.slot c.index.ensures in
    finds-empty s c.requires.table c.args.key.now c.utf8.key (is ∙ c.if-held-eq0.true)

pub key-requires-clause-within : goal.key-requires-clause-within
key-requires-clause-within c =
    let s = c.args.self.now in
    let is = held-row s c.requires.table c.args.key.now c.utf8.key c.args.slot _ c.requires.slot c.index.ensures c.if-held-eq0.false in
    let m = length-places s in
    omega (arith, is.1)

pub returns-then-is_same : goal.returns-then-is_same
returns-then-is_same c =
    let s = c.args.self.now in
    let is = held-row s c.requires.table c.args.key.now c.utf8.key c.args.slot _ c.requires.slot c.index.ensures c.if-held-eq0.false in
    at-row s c.requires.table c.args.key.now c.utf8.key _ is.1
    (key-same s _ c.key.result.now c.args.key.now is.1 c.key.ensures (sym c.is_same.ensures ∙ c.if-is_same.true))

pub returns-in-Some : goal.returns-in-Some
returns-in-Some c =
    let s = c.args.self.now in
    let is = held-row s c.requires.table c.args.key.now c.utf8.key c.args.slot _ c.requires.slot c.index.ensures c.if-held-eq0.false in
    let differs = key-differs s _ c.key.result.now c.args.key.now is.1 c.key.utf8 c.utf8.key c.key.ensures (sym c.is_same.ensures ∙ c.if-is_same.false) in
    let there = at_chars-sorted s.others c.args.key.now c.utf8.key ∙ sym c.get.ensures.value in
    finds-other s c.requires.table c.args.key.now c.utf8.key _ _ is.0 differs (rw c.in-Some.is at there)

pub returns-in-None : goal.returns-in-None
returns-in-None c =
    let s = c.args.self.now in
    let is = held-row s c.requires.table c.args.key.now c.utf8.key c.args.slot _ c.requires.slot c.index.ensures c.if-held-eq0.false in
    let differs = key-differs s _ c.key.result.now c.args.key.now is.1 c.key.utf8 c.utf8.key c.key.ensures (sym c.is_same.ensures ∙ c.if-is_same.false) in
    let there = at_chars-sorted s.others c.args.key.now c.utf8.key ∙ sym c.get.ensures.value in
    finds-other s c.requires.table c.args.key.now c.utf8.key _ _ is.0 differs (rw c.in-None.is at there)
