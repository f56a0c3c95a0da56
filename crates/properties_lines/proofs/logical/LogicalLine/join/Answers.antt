use Rattle.std.proofs.Common.{◌≡◌, sym, ap, ◌∙◌, subst}
use Rattle.properties_text.specs.Encoding.{encoding_of}
use Rattle.properties_lines.specs.LogicalLine.{TellsLine, AddsText, AddsLine}
use Rattle.properties_lines.specs.declared.logical.LogicalLine.{LogicalLine}
use Rattle.properties_lines.proofs.LineTexts.{line-in, other-in, decoded-in, adds}
use Rattle.properties_lines.proofs.logical.LogicalLine.join.Goals as goal

pub returns-then-is_line-clause-adds : goal.returns-then-is_line-clause-adds
returns-then-is_line-clause-adds c =
    let e = encoding_of c.args.encoding in
    let bytes = c.args.bytes.now in
    let old = c.args.self.now in
    let told = subst (TellsLine e bytes) c.if-is_line.true c.requires.line in
    let unfinished = c.requires.unfinished in
    adds e bytes bytes old old.decoded c.join_bytes.new.joined c.join_bytes.result (line-in e old.encoding bytes unfinished.encoding told) unfinished c.join_bytes.ensures

pub returns-clause-adds : goal.returns-clause-adds
returns-clause-adds c =
    let e = encoding_of c.args.encoding in
    let bytes = c.args.bytes.now in
    let old = c.args.self.now in
    let new = c.join_bytes-2.new.joined in
    let result = c.join_bytes-2.result in
    let told = subst (TellsLine e bytes) c.if-is_line.false c.requires.line in
    let unfinished = c.requires.unfinished in
    let same = c.decode.ensures.same in
    let decoded = c.decode.new.self.decoded in
    let is = decoded-in old.encoding decoded _ (other-in e old.encoding bytes unfinished.encoding told) c.decode.ensures.utf8 c.in_ok-decode.ensures.decoded in
    let joined : c.decode.new.self.joined ≡ old.joined = ap (λ v. let w : LogicalLine = v in w.joined) same in
    let added : AddsText decoded old.joined result new = subst (λ v. AddsText decoded v result new) joined
    (subst (λ v. AddsText v c.decode.new.self.joined result new) (c.as_slice.ensures ∙ c.as_line.ensures) c.join_bytes-2.ensures) in
    let P : LogicalLine → Type 0 = λ v. AddsLine e bytes old result (record v { joined = new }) in
    subst P (sym same) (adds e bytes decoded old decoded new result is unfinished added)
