use Rattle.std.proofs.Common.{◌≡◌, refl, ap, ◌∙◌, subst}
use Rattle.std.specs.Prelude.{Ok}
use Rattle.std.specs.declared.alloc.AllocError.{AllocError}
use Rattle.properties_text.specs.Encoding.{encoding_of, line_of}
use Rattle.properties_format.specs.Encoding.{output_encoding}
use Rattle.properties_lines.specs.LogicalLine.{TellsLine, BeginsText}
use Rattle.properties_lines.specs.declared.logical.LogicalLine.{LogicalLine}
use Rattle.properties_lines.specs.declared.logical.Place.TheVariants.{Natural, Decoded}
use Rattle.properties_lines.proofs.LineTexts.{line-in, other-in, decoded-in, begun}
use Rattle.properties_lines.proofs.logical.LogicalLine.begin.Goals as goal

pub returns-then-is_line-clause-begins : goal.returns-then-is_line-clause-begins
returns-then-is_line-clause-begins c =
    let e = encoding_of c.args.encoding in
    let bytes = c.args.bytes.now in
    let told = subst (TellsLine e bytes) c.if-is_line.true c.requires in
    let line = record c.borrow.new.self { joined = c.begin_bytes.new.joined } in
    rw c.set_place.ensures
    (begun e bytes bytes line c.in_ok-is_continued.is_continued Natural (line-in e line.encoding bytes c.borrow.ensures.encoding told) c.borrow.ensures.encoding refl
    c.in_ok-is_continued.ensures)

pub returns-clause-begins : goal.returns-clause-begins
returns-clause-begins c =
    let e = encoding_of c.args.encoding in
    let bytes = c.args.bytes.now in
    let told = subst (TellsLine e bytes) c.if-is_line.false c.requires in
    let before = c.decode.new.self in
    let line = record before { joined = c.begin_bytes-2.new.joined } in
    let same : before.encoding ≡ c.borrow.new.self.encoding = ap (λ v. let w : LogicalLine = v in w.encoding) c.decode.ensures.same in
    let to : line_of line.encoding ≡ output_encoding e = ap line_of same ∙ c.borrow.ensures.encoding in
    let decoded = c.as_slice.ensures ∙ c.as_line.ensures in
    let is = decoded-in line.encoding before.decoded _ (other-in e line.encoding bytes to told) c.decode.ensures.utf8 c.in_ok-decode.ensures.decoded in
    rw c.set_place-2.ensures
    (begun e bytes before.decoded line c.in_ok-is_continued-2.is_continued Decoded is to refl
    (subst (λ v. BeginsText {E = AllocError} v (Ok c.in_ok-is_continued-2.is_continued) line.joined) decoded c.in_ok-is_continued-2.ensures))
