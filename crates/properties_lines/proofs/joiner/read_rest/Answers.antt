use Rattle.std.proofs.Common.{◌≡◌, Bool, false, ◌∙◌, refl, sym, ap, subst}
use Rattle.std.specs.Prelude.{Ok}
use Rattle.std.specs.declared.alloc.AllocError.{AllocError}
use Rattle.properties_text.specs.Encoding.{encoding_of}
use Rattle.properties_text.specs.Escaping.{holds_backslash}
use Rattle.properties_lines.specs.LogicalLine.{BeginsLine, bytes_with}
use Rattle.properties_lines.proofs.LineJoiner.{reads-alone, reads-joined, reads-broken, reads-no_room}
use Rattle.properties_lines.proofs.joiner.read_rest.Goals as goal

pub returns-then-not-join_lines-clause-reads : goal.returns-then-not-join_lines-clause-reads
returns-then-not-join_lines-clause-reads g c =
    let tested = c.is_well_formed-is_line.ensures.same in
    let P : Bool → Type 0 = λ v. BeginsLine {E = AllocError} (encoding_of c.encoding.result) c.line.result.now (Ok v) c.begin.new.self in
    let opens = rw (c.encoding.ensures, c.line.ensures, tested) at (subst P c.in-Ok-true.field-0-test c.in-Ok-true.ensures.begins) in
    let joined = rw tested at c.if-not-join_lines.ensures.joins in
    reads-broken c.args.lines.now c.join_lines.new.lines c.begin.new.self opens joined

pub returns-else-not-join_lines-clause-reads : goal.returns-else-not-join_lines-clause-reads
returns-else-not-join_lines-clause-reads g c =
    let tested = c.is_well_formed-is_line.ensures.same in
    let P : Bool → Type 0 = λ v. BeginsLine {E = AllocError} (encoding_of c.encoding.result) c.line.result.now (Ok v) c.begin.new.self in
    let opens = rw (c.encoding.ensures, c.line.ensures, tested) at (subst P c.in-Ok-true.field-0-test c.in-Ok-true.ensures.begins) in
    let joined = rw tested at c.if-not-join_lines.ensures.joins in
    let line = c.join_lines.new.line in
    let bytes : c.bytes.result.now ≡ bytes_with line c.join_lines.new.lines.line = c.bytes.ensures ∙ ap (bytes_with line) c.line-in-Ok-true.ensures in
    rw c.number-number.ensures
    (reads-joined c.args.lines.now c.join_lines.new.lines c.begin.new.self line c.has_backslash.result opens joined.0 joined.1
    (c.if-not-join_lines.ensures.place refl) (c.if-not-join_lines.ensures.well refl)
    (λ k. subst (λ v. holds_backslash v ≡ false) bytes (sym c.has_backslash.ensures ∙ k)))

pub returns-in-Ok-false-clause-reads : goal.returns-in-Ok-false-clause-reads
returns-in-Ok-false-clause-reads g c =
    let tested = c.is_well_formed-is_line.ensures.same in
    let P : Bool → Type 0 = λ v. BeginsLine {E = AllocError} (encoding_of c.encoding.result) c.line.result.now (Ok v) c.begin.new.self in
    let begins = rw (c.encoding.ensures, c.line.ensures, tested) at (subst P c.in-Ok-false.field-0-test c.in-Ok-false.ensures.begins) in
    rw (c.number-number.ensures, tested)
    (reads-alone c.args.lines.now c.begin.new.self c.args.has_backslash.now begins.0 begins.1 c.requires.flags c.requires.backslash c.requires.error)

pub returns-in-Err-clause-reads : goal.returns-in-Err-clause-reads
returns-in-Err-clause-reads g c =
    let tested = c.is_well_formed-is_line.ensures.same in
    reads-no_room c.args.lines.now c.fail.new.self (rw tested at c.fail.ensures)
