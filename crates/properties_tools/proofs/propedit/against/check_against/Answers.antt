use Rattle.std.proofs.Common.{sym, ◌∙◌}
use Rattle.std.specs.Prelude.{string_bytes}
use Rattle.properties_text.specs.Encoding.{encoding_of}
use Rattle.properties_tools.specs.Private.Lacking.{known_base}
use Rattle.properties_checking.specs.declared.check.Reported.{Reported}
use Rattle.properties_tables.specs.declared.key_table.KeyTable.{KeyTable}
use Rattle.properties_checking.proofs.LineFindings.{keys-sound}
use Rattle.properties_tools.proofs.MissingKeys.{not-compared, said-against}
use Rattle.properties_tools.proofs.propedit.against.check_against.Goals as goal

pub returns-then-is_utf_32 : goal.returns-then-is_utf_32
returns-then-is_utf_32 c =
    let r : Reported = c.in_ok-text.field-0 in
    record {
      report = string_bytes r.text;
      is_report = not-compared c.args.base.now c.args.source.name.now (encoding_of c.args.encoding) c.args.asked c.args.source.bytes.now
          (string_bytes r.text) c.in_ok-text.ensures.report (sym c.is_utf_32.ensures ∙ c.if-is_utf_32.true);
      text = c.reported.ensures.text;
      status = c.reported.ensures.status;
    }

pub returns : goal.returns
returns c =
    let r : Reported = c.in_ok-text.field-0 in
    let keys : KeyTable = c.in_ok-keys.keys in
    let sound = keys-sound (encoding_of c.args.encoding) c.args.source.bytes.now r.keys keys r.escapes.items c.in_ok-text.ensures.table
    c.in_ok-text.ensures.places (rw c.deref.ensures.value at c.in_ok-keys.ensures) in
    let missing = rw c.as_str.ensures.value at c.in_ok-push_lacking.ensures in
    let surplus = rw c.as_str.ensures.value at c.in_ok-push_lacking-2.ensures in
    let both = rw (← c.base.view_is) at c.are_well_formed.ensures in
    let read = rw (← c.base.view_is) at (sym c.is_utf_32.ensures ∙ c.if-is_utf_32.false) in
    record {
      report = _;
      is_report = rw (← c.base.view_is) (said-against c.args.source.name.now (encoding_of c.args.encoding) c.args.asked c.args.source.bytes.now r
          c.in_ok-text.ensures keys sound.1 (known_base c.base.inside) c.are_well_formed.result c.push_lacking.new.text c.push_lacking-2.new.text read both
          missing surplus);
      text = c.reported-2.ensures.text;
      status = c.reported-2.ensures.status;
    }
