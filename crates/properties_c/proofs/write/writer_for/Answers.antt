use Rattle.std.proofs.Common.{refl, sym}
use Rattle.std.specs.Str.{chars}
use Rattle.properties_format.specs.Encoding.{output_encoding}
use Rattle.properties_text.specs.Encoding.{encoding_of}
use Rattle.java_properties.specs.PropertiesWriter.{new_writer}
use Rattle.properties_c.specs.Writing.{settings_for}
use Rattle.properties_c.proofs.WriterSettings.{prefix-refused, separator-refused}
use Rattle.properties_c.proofs.write.writer_for.Goals as goal

pub returns-in-Err : goal.returns-in-Err
unfolding chars
returns-in-Err g c =
    let s = settings_for c.args.flags (chars c.args.prefix.now) (chars c.args.separator.now) in
    let w = new_writer (output_encoding (encoding_of c.args.encoding)) c.args.sink in
    rw (c.status_of.ensures, c.kind.ensures)
    (prefix-refused w _ _ s (chars c.given_or.result.now) c.in-Err.error (sym c.given_or.ensures) c.in-Err.ensures)

pub returns-in-Err-set_kv_separator : goal.returns-in-Err-set_kv_separator
unfolding chars
returns-in-Err-set_kv_separator g c =
    let s = settings_for c.args.flags (chars c.args.prefix.now) (chars c.args.separator.now) in
    let w = new_writer (output_encoding (encoding_of c.args.encoding)) c.args.sink in
    let good = rw c.given_or.ensures at c.in_default-set_comment_prefix.ensures.good in
    rw (c.status_of-in-Err-set_kv_separator.ensures, c.kind-in-Err-set_kv_separator.ensures)
    (separator-refused w _ _ s (chars c.given_or-2.result.now) c.in-Err-set_kv_separator.error good (sym c.given_or-2.ensures) c.in-Err-set_kv_separator.ensures)

pub returns : goal.returns
unfolding chars
returns g c = (
  record {
    prefix = rw c.given_or.ensures at c.in_default-set_comment_prefix.ensures.good;
    separator = rw c.given_or-2.ensures at c.in_default-set_kv_separator.ensures.good;
  },
  rw (
    c.set_readable.ensures,
    c.set_ascii_only.ensures,
    c.set_line_ending.ensures,
    c.in_default-set_kv_separator.ensures.after,
    c.in_default-set_comment_prefix.ensures.after,
    c.in-Ok.ensures,
    c.given_or.ensures,
    c.given_or-2.ensures,
    c.ending_for.ensures,
  )
      refl,
)
