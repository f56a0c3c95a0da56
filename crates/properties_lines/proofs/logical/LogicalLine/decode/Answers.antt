use Rattle.std.proofs.Common.{◌≡◌, ◌++◌, ap, subst, ◌∙◌}
use Rattle.std.specs.Prelude.{OnOk}
use Rattle.std.specs.Str.{chars}
use Rattle.std.proofs.lemmas.Str.{chars-nil}
use Rattle.properties_text.specs.Encoding.{encoding_of}
use Rattle.properties_format.specs.Computed.Cut.{decoded_line}
use Rattle.properties_lines.proofs.logical.LogicalLine.decode.Goals as goal

pub returns-clause-decoded : goal.returns-clause-decoded
returns-clause-decoded c =
    let line = decoded_line (encoding_of c.args.encoding) c.args.bytes.now in
    subst (λ v. OnOk c.push_decoded.result (chars c.push_decoded.new.self ≡ v)) (ap (λ v. chars v ++ line) c.clear.ensures ∙ ap (λ v. v ++ line) chars-nil)
    c.push_decoded.ensures.appended
