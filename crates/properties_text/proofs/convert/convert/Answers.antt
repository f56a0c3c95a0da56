use Rattle.std.proofs.Common.{◌-◌, take, drop, length, ap, sym, subst, ◌∙◌, arith}
use Rattle.std.proofs.lemmas.List.{take_rest}
use Rattle.std.proofs.lemmas.List.Elements.{All-from_get_or}
use Rattle.std.proofs.lemmas.Result.{IfOk-weaker}
use Rattle.properties_format.specs.Text.{byte}
use Rattle.properties_format.specs.Encoding.{begins_like_bom}
use Rattle.properties_text.specs.Encoding.{encoding_of}
use Rattle.properties_format.specs.Printing.{encoded_text}
use Rattle.properties_format.specs.Converting.{first_escaped}
use Rattle.properties_text.specs.Escaping.{IsWell, text_in}
use Rattle.properties_text.specs.Printing.{in_format}
use Rattle.properties_text.specs.Converted.{is_readable, body_bytes, line_encoding_of}
use Rattle.properties_text.proofs.Converted.{plain-source, marked-source, source-bytes, source-written}
use Rattle.properties_text.proofs.convert.convert.Goals as goal

pub returns : goal.returns
returns c =
    let at = c.encoding_in_force-in_force.result.1 in
    let body = take (length c.args.source.now - at) (drop at c.args.source.now) in
    plain-source c.args.repertoire (is_readable c.args.spelling) (encoding_of c.args.encoding) c.args.source.now c.into_bytes.result.items
    (All-from_get_or byte c.args.source.now 0 (λ i inside. omega (arith, c.type_inv.source i)))
    (c.into_bytes.ensures ∙ source-bytes c.args.repertoire (is_readable c.args.spelling) c.args.encoding c.encoding_in_force-in_force.result.0
    c.args.source.now body c.in_ok-line.line at
    c.encoding_in_force-in_force.ensures (take_rest c.args.source.now at)
    (c.in_ok-line.ensures ∙ ap (λ v. body_bytes c.args.repertoire v c.encoding_in_force-in_force.result.0 body) c.is_readable-readable.ensures))
    (ap begins_like_bom (c.into_bytes.ensures ∙ sym c.as_slice.ensures) ∙ sym c.begins_like_byte_order_mark.ensures ∙ c.if-begins_like_byte_order_mark.false)

pub escape_first-requires-clause-well : goal.escape_first-requires-clause-well
escape_first-requires-clause-well c =
    let at = c.encoding_in_force-in_force.result.1 in
    let body = take (length c.args.source.now - at) (drop at c.args.source.now) in
    subst (IsWell (line_encoding_of c.args.repertoire)) (sym c.as_slice-then-begins_like_byte_order_mark.ensures)
    (source-written c.args.repertoire (is_readable c.args.spelling) (encoding_of c.args.encoding) c.args.source.now c.in_ok-line.line
    (All-from_get_or byte c.args.source.now 0 (λ i inside. omega (arith, c.type_inv.source i)))
    (source-bytes c.args.repertoire (is_readable c.args.spelling) c.args.encoding c.encoding_in_force-in_force.result.0 c.args.source.now body c.in_ok-line.line
    at
    c.encoding_in_force-in_force.ensures (take_rest c.args.source.now at)
    (c.in_ok-line.ensures ∙ ap (λ v. body_bytes c.args.repertoire v c.encoding_in_force-in_force.result.0 body) c.is_readable-readable.ensures))).0

pub returns-then-begins_like_byte_order_mark : goal.returns-then-begins_like_byte_order_mark
returns-then-begins_like_byte_order_mark c =
    let at = c.encoding_in_force-in_force.result.1 in
    let body = take (length c.args.source.now - at) (drop at c.args.source.now) in
    IfOk-weaker c.escape_first.result _ _
    (λ e h. marked-source c.args.repertoire (is_readable c.args.spelling) (encoding_of c.args.encoding) c.args.source.now c.in_ok-line.line e.items
    (All-from_get_or byte c.args.source.now 0 (λ i inside. omega (arith, c.type_inv.source i)))
    (source-bytes c.args.repertoire (is_readable c.args.spelling) c.args.encoding c.encoding_in_force-in_force.result.0 c.args.source.now body c.in_ok-line.line
    at
    c.encoding_in_force-in_force.ensures (take_rest c.args.source.now at)
    (c.in_ok-line.ensures ∙ ap (λ v. body_bytes c.args.repertoire v c.encoding_in_force-in_force.result.0 body) c.is_readable-readable.ensures))
    (ap begins_like_bom (sym c.as_slice.ensures) ∙ sym c.begins_like_byte_order_mark.ensures ∙ c.if-begins_like_byte_order_mark.true)
    (h ∙ ap (λ v. encoded_text (in_format c.args.repertoire).encoding (first_escaped (text_in (line_encoding_of c.args.repertoire) v)))
    c.as_slice-then-begins_like_byte_order_mark.ensures))
    c.escape_first.ensures
