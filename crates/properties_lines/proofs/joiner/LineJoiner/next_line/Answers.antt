use Rattle.std.proofs.Common.{◌∙◌, sym, ap, subst}
use Rattle.std.specs.Prelude.{Some}
use Rattle.counted_io.specs.Streams.{reader}
use Rattle.properties_format.specs.Encoding.{output_encoding}
use Rattle.properties_lines.specs.LineReader.{LineReading}
use Rattle.properties_lines.specs.LineJoiner.{LineJoining, JoinsNoLine, Advances}
use Rattle.properties_lines.proofs.LineJoiner.{joining, joins-none, joins-borrowed, joins-rest, known-plain}
use Rattle.properties_lines.proofs.joiner.LineJoiner.next_line.Goals as goal

pub returns-then-not-find_line-clause-advances : goal.returns-then-not-find_line-clause-advances
returns-then-not-find_line-clause-advances g c =
    let before = c.self.inside in
    let found = c.find_line.new.self in
    let new = joining found before.line before.has_backslash in
    let P : LineJoining → Type 0 = λ v. JoinsNoLine (reader g.R.Read g.R.CountedRead) v c.args.reader.now new c.find_line.new.reader in
    subst P c.self.view_is (joins-none before.lines found before.line before.has_backslash c.if-not-find_line.ensures.finds)

pub returns-then-not-is_open-clause-advances : goal.returns-then-not-is_open-clause-advances
returns-then-not-is_open-clause-advances g c =
    let before = c.self.inside in
    let found = c.find_line.new.self in
    let line = c.borrow.new.self in
    let has_backslash = c.has_backslash-self-inside.result in
    let tested = c.is_well_formed.ensures.same in
    let old = joining before.lines before.line before.has_backslash in
    let P : LineJoining → Type 0 = λ v. Advances (reader g.R.Read g.R.CountedRead) v c.args.reader.now (Some found.state.passed) (joining found line has_backslash) c.find_line.new.reader in
    let encoding = c.borrow.ensures.encoding ∙ ap output_encoding (c.encoding.ensures ∙ ap (λ v. let w : LineReading = v in w.state.encoding) tested) in
    let closed = rw (c.line.ensures, tested) at (sym c.if-not-is_open.ensures) in
    rw (c.number.ensures, tested)
    (subst P c.self.view_is
    (joins-borrowed old found line has_backslash c.if-not-find_line.ensures.finds c.has_backslash-self-inside.ensures c.borrow.ensures.place encoding
    c.if-is_well_formed.ensures.tells closed))

pub returns-clause-advances : goal.returns-clause-advances
returns-clause-advances g c =
    let before = c.self.inside in
    let found = c.find_line.new.self in
    let rest = c.read_rest.new in
    let old = joining before.lines before.line before.has_backslash in
    let new = joining rest.lines rest.line rest.has_backslash in
    let P : LineJoining → Type 0 = λ v. Advances (reader g.R.Read g.R.CountedRead) v c.args.reader.now c.read_rest.result new rest.reader in
    let reads = rw c.is_well_formed.ensures.same at c.read_rest.ensures.reads in
    subst P c.self.view_is
    (joins-rest rest.reader old found rest.lines rest.line c.read_rest.result rest.has_backslash c.if-not-find_line.ensures.finds.0 reads)

pub read_rest-requires-clause-flags : goal.read_rest-requires-clause-flags
read_rest-requires-clause-flags g c = rw c.is_well_formed.ensures.same c.if-not-find_line.ensures.finds.1

pub read_rest-requires-clause-backslash : goal.read_rest-requires-clause-backslash
read_rest-requires-clause-backslash g c = λ plain.
    rw c.is_well_formed.ensures.same
    (known-plain c.find_line.new.self c.has_backslash-self-inside.result c.if-not-find_line.ensures.finds.1 c.has_backslash-self-inside.ensures plain)
