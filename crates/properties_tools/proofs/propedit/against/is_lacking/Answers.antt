use Rattle.std.proofs.Common.{◌≡◌, ◌∙◌, refl, sym}
use Rattle.std.specs.{Prelude.not, Str.chars}
use Rattle.properties_tools.specs.Private.Lacking.{is_among}
use Rattle.properties_tables.specs.Private.Table.{place_keys, table_places}
use Rattle.properties_tools.proofs.MissingKeys.{found-told}
use Rattle.properties_tools.proofs.propedit.against.is_lacking.Goals as goal

pub returns-then-are_well_formed : goal.returns-then-are_well_formed
returns-then-are_well_formed c =
    let key = chars c.args.key.now in
    let keys = place_keys (table_places c.args.keys.now) in
    let absent : not (is_among key keys) ≡ c.is_none.result = sym (found-told key keys c.find.result c.is_none.result c.find.ensures c.is_none.ensures) in
    rw (absent, c.if-is_none.true, c.if-are_well_formed.true) refl

pub returns-else-are_well_formed : goal.returns-else-are_well_formed
returns-else-are_well_formed c =
    let key = chars c.args.key.now in
    let keys = place_keys (table_places c.args.keys.now) in
    let absent : not (is_among key keys) ≡ c.is_none.result = sym (found-told key keys c.find.result c.is_none.result c.find.ensures c.is_none.ensures) in
    rw (absent, c.if-is_none.true, c.if-are_well_formed.false, c.may_stand_for_bytes.ensures) refl

pub returns-else-is_none : goal.returns-else-is_none
returns-else-is_none c =
    let key = chars c.args.key.now in
    let keys = place_keys (table_places c.args.keys.now) in
    let absent : not (is_among key keys) ≡ c.is_none.result = sym (found-told key keys c.find.result c.is_none.result c.find.ensures c.is_none.ensures) in
    rw (absent, c.if-is_none.false) refl
