use Rattle.std.proofs.Common.{refl}
use Rattle.std.specs.Prelude.{string_bytes}
use Rattle.properties_text.specs.Encoding.{encoding_of}
use Rattle.properties_checking.specs.declared.check.Reported.{Reported}
use Rattle.properties_tables.specs.declared.key_table.KeyTable.{KeyTable}
use Rattle.properties_checking.proofs.LineFindings.{keys-sound}
use Rattle.properties_tools.proofs.MissingKeys.{base-kept}
use Rattle.properties_tools.proofs.propedit.against.base_of.Goals as goal

pub invariant_of-base : goal.invariant_of-base
invariant_of-base c =
    let r : Reported = c.in_ok-text.field-0 in
    (keys-sound (encoding_of c.args.encoding) c.args.source.bytes.now r.keys _ r.escapes.items c.in_ok-text.ensures.table c.in_ok-text.ensures.places
    (rw c.deref.ensures.value at c.in_ok-keys.ensures)).0

pub returns : goal.returns
returns c =
    let r : Reported = c.in_ok-text.field-0 in
    let keys : KeyTable = c.in_ok-keys.keys in
    let sound = keys-sound (encoding_of c.args.encoding) c.args.source.bytes.now r.keys keys r.escapes.items c.in_ok-text.ensures.table
    c.in_ok-text.ensures.places (rw c.deref.ensures.value at c.in_ok-keys.ensures) in (
      record {
        report = string_bytes r.text;
        is_report = c.in_ok-text.ensures.report;
        text = c.reported.ensures.text;
        status = c.reported.ensures.status;
      },
      base-kept c.args.source.name.now (encoding_of c.args.encoding) c.args.asked c.args.source.bytes.now r c.in_ok-text.ensures keys sound.1 _
          c.in_ok-from_str.ensures.ok refl refl c.has_utf_32_mark.ensures,
    )
