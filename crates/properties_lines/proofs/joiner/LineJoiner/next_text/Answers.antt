use Rattle.std.proofs.Common.{◌≡◌, ◌∙◌, true, sym, ap, subst}
use Rattle.std.specs.Prelude.{◌&&◌}
use Rattle.std.proofs.lemmas.Bool.{and_from}
use Rattle.counted_io.specs.Streams.{reader}
use Rattle.properties_text.specs.Escaping.{text_in}
use Rattle.properties_lines.specs.LineReader.{LineReading}
use Rattle.properties_lines.specs.LogicalLine.{bytes_with, is_natural, IsTextOf}
use Rattle.properties_lines.specs.LineJoiner.{LineJoining, JoinsBytes}
use Rattle.properties_lines.proofs.LineTexts.{ascii-text}
use Rattle.properties_lines.proofs.LineJoiner.{joining, joins-text, joins-no_text}
use Rattle.properties_lines.proofs.joiner.LineJoiner.next_text.Goals as goal
use Rattle.properties_lines.proofs.joiner.LineJoiner.next_text.Given.{Over}
use Rattle.properties_lines.proofs.joiner.LineJoiner.next_text.Goals.{Then-is_borrowed}

-- A borrowed line of ASCII is its own text.
borrowed-text : (g : Over) (c : Then-is_borrowed g) → IsTextOf (text_in c.next_line.new.self.encoding c.next_line.new.self.at.line) c.next_line.new.self.at.line
borrowed-text g c =
    let new = c.next_line.new.self in
    let inside = c.self.inside in
    let both : (inside.lines.is_ascii && is_natural inside.line.place) ≡ true =
    and_from inside.lines.is_ascii (is_natural inside.line.place) (sym c.if-is_ascii.ensures) (sym c.if-is_borrowed.ensures) in
    let known : new.is_ascii ≡ true = sym (ap (λ v. let w : LineJoining = v in w.is_ascii) c.self.view_is) ∙ both in
    ascii-text new.encoding new.at.line (c.in_ok-number.ensures.advances.ascii known)

pub returns-then-is_borrowed-clause-joins : goal.returns-then-is_borrowed-clause-joins
returns-then-is_borrowed-clause-joins g c =
    let new = c.next_line.new.self in
    joins-text c.args.self.now new c.in_ok-number.number new.encoding new.is_ascii new.at.line c.in_ok-number.ensures.advances (borrowed-text g c)

pub returns-then-is_borrowed-clause-text : goal.returns-then-is_borrowed-clause-text
returns-then-is_borrowed-clause-text g c = (borrowed-text g c).utf8

pub returns-in-Ok-clause-joins : goal.returns-in-Ok-clause-joins
returns-in-Ok-clause-joins g c =
    let inside = c.self.inside in
    let made = c.make_text.new.self in
    let new = joining inside.lines inside.line inside.has_backslash in
    let P : LineJoining → Type 0 = λ v. JoinsBytes (reader g.R.Read g.R.CountedRead) c.args.self.now c.args.reader.now c.in_ok-number.number v c.next_line.new.reader in
    let text = rw c.line.ensures at c.in-Ok.ensures.text in
    joins-text c.args.self.now new c.in_ok-number.number made.encoding (inside.lines.is_ascii && is_natural made.place) (bytes_with made inside.lines.line)
    (subst P (sym c.self.view_is) c.in_ok-number.ensures.advances) text

pub returns-in-Err-clause-joins : goal.returns-in-Err-clause-joins
returns-in-Err-clause-joins g c =
    let inside = c.self.inside in
    joins-no_text c.args.self.now c.next_line.new.self (joining c.fail.new.self c.make_text.new.self inside.has_backslash) c.in_ok-number.number
    c.in_ok-number.ensures.advances (ap (λ v. let w : LineReading = v in w.state.is_done) c.fail.ensures) (ap (λ v. let w : LineReading = v in w.error) c.fail.ensures)
