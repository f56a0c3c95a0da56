use Rattle.std.proofs.Common.{◌≡◌, ℕ, List, ◌++◌, chars, IsUtf8}
use Rattle.std.specs.Fmt.{HasWritten, IsPlainFormatter}
use Rattle.properties_tables.specs.Messages.{all_shown, escaped}
use Rattle.properties_tables.proofs.messages.EscapedDisplay.fmt.Given as goal

abbrev pub invariant-loop-character : goal.invariant-loop-character
invariant-loop-character g l =
    IsUtf8 l.character-iterator.rest.now
    × (IsPlainFormatter l.fn.f
    → (done : List ℕ) × HasWritten g.W.Write.write_str_gives l.fn.f done l.f
    × (done ++ all_shown (chars l.character-iterator.rest.now) ≡ escaped l.fn.self.0.now))
