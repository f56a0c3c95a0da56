use Rattle.std.proofs.Common.{◌≤◌, ◌∙◌, ap, arith, length, sym}
use Rattle.std.proofs.{lemmas.List.get_or_past, lemmas.Str.chars-nil, lemmas.Str.encodes-chars}
use Rattle.std.specs.Prelude.{encode_utf8_all}
use Rattle.java_properties.specs.Findings.{KeyPlace}
use Rattle.properties_checking.specs.Private.Checking.{no_place}
use Rattle.properties_tables.specs.Private.Table.{table_places}
use Rattle.properties_checking.proofs.check.key_at.Goals as goal

pub returns-else-row-len-clause-key : goal.returns-else-row-len-clause-key
returns-else-row-len-clause-key c =
    let past : length (table_places c.args.keys.now) ≤ c.args.row = omega arith in
    chars-nil ∙ sym (ap (λ p. let q : KeyPlace = p in q.key) (get_or_past (table_places c.args.keys.now) c.args.row no_place past))

pub returns-then-row-len-clause-text : goal.returns-then-row-len-clause-text
returns-then-row-len-clause-text c = sym (encodes-chars c.key.result.now c.key.utf8) ∙ ap encode_utf8_all (c.key.ensures no_place)

pub returns-else-row-len-clause-text : goal.returns-else-row-len-clause-text
returns-else-row-len-clause-text c =
    let past : length (table_places c.args.keys.now) ≤ c.args.row = omega arith in
    sym (ap (λ p. let q : KeyPlace = p in encode_utf8_all q.key) (get_or_past (table_places c.args.keys.now) c.args.row no_place past))
