use Rattle.std.proofs.Common.{◌≡◌, ◌==◌, ◌∙◌, ap, refl, subst, sym, Bool, Ok, false}
use Rattle.std.specs.Prelude.{Result}
use Rattle.std.specs.declared.alloc.AllocError.{AllocError}
use Rattle.properties_format.specs.Encoding.{output_encoding}
use Rattle.properties_format.specs.Lines.{is_open}
use Rattle.properties_text.specs.Encoding.{encoding_of, line_of}
use Rattle.properties_lines.specs.LogicalLine.{BeginsLine}
use Rattle.properties_lines.specs.Scanner.{raw_line_bytes}
use Rattle.properties_lines.specs.declared.scanner.RawLine.{RawLine}
use Rattle.properties_editing.proofs.BodyGroups.{group-first, group-lent}
use Rattle.properties_editing.proofs.groups.GroupReader.next.Goals as goal

pub returns : goal.returns
returns c =
    let body = c.args.body.now in
    let old = c.args.self.now in
    let found = c.find_line.new.self in
    let line = c.line-line.ensures in
    let answer : Result Bool AllocError = Ok c.in_ok-is_open.is_open in
    let taken = rw c.if-not-branch.false at c.in_ok-find_line.ensures in
    let read = subst (λ v. BeginsLine (encoding_of c.encoding-encoding.result) (raw_line_bytes body v) answer c.begin.new.self) line c.in_ok-is_open.ensures.begins in
    let begins = subst (λ v. BeginsLine (encoding_of v) (raw_line_bytes body found.scanner.line) answer c.begin.new.self) c.encoding-encoding.ensures read in
    c.in_ok-joined.ensures old (group-first AllocError body old found c.begin.new.self _ c.in_ok-is_open.is_open taken begins c.number.ensures
    (ap (λ v. let w : RawLine = v in w.start) line) (ap (λ v. let w : RawLine = v in w.end) line) refl
    (ap (λ v. let w : RawLine = v in w.start == w.end) line))

pub returns-then-not-is_open : goal.returns-then-not-is_open
returns-then-not-is_open c =
    let body = c.args.body.now in
    let found = c.find_line.new.self in
    let line = c.line-line.ensures in
    let taken = rw c.if-not-branch.false at c.in_ok-find_line.ensures in
    let closed = subst (λ v. is_open (raw_line_bytes body v) ≡ false) line (sym c.if-not-is_open.ensures) in
    let to = subst (λ v. line_of c.borrow.new.self.encoding ≡ output_encoding (encoding_of v)) c.encoding-encoding.ensures c.borrow.ensures.encoding in
    group-lent body c.args.self.now found c.borrow.new.self _ taken (ap (λ v. let w : RawLine = v in w.is_ascii) (sym line) ∙ c.if-line.true) closed
    c.borrow.ensures.place to c.number.ensures (ap (λ v. let w : RawLine = v in w.start) line) (ap (λ v. let w : RawLine = v in w.end) line) refl
    (ap (λ v. let w : RawLine = v in w.start == w.end) line)
