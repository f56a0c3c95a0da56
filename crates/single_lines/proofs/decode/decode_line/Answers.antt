use Rattle.std.proofs.Common.{◌≡◌, [], ◌++◌, ap, ◌∙◌, refl}
use Rattle.std.proofs.lemmas.Str.{chars-nil}
use Rattle.properties_text.specs.Encoding.{text_of, encoding_of}
use Rattle.std.specs.Str.{chars}
use Rattle.properties_text.proofs.TextFronts.{text-decoded}
use Rattle.single_lines.proofs.decode.decode_line.Goals as goal

pub returns-in-Some-clause-text : goal.returns-in-Some-clause-text
returns-in-Some-clause-text c =
    let found = c.in-Some.ensures in
    ap chars found.same ∙ text-decoded (encoding_of c.args.encoding) c.args.bytes.now (found.exactly.0 refl)

pub returns-in_ok-text-in-None-clause-text : goal.returns-in_ok-text-in-None-clause-text
returns-in_ok-text-in-None-clause-text c =
    let all = text_of c.args.encoding c.args.bytes.now in
    let start : chars c.new-decoded.result ≡ [] = ap chars c.new-decoded.ensures ∙ chars-nil in
    ap chars (c.in_ok-text-in-None.ensures.ok ∙ c.as_str.ensures)
    ∙ c.in_ok-push_decoded-in-None.ensures.appended
    ∙ ap (λ v. v ++ all) start
