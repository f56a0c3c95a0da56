use Rattle.std.proofs.Common.{◌≡◌, ◌⊎◌, ◌+◌, ◌^◌, ℕ, List, true}
use Rattle.std.specs.Prelude.{if◌then◌else◌}
use Rattle.counted_io.specs.Streams.{reader, IsSameReader}
use Rattle.properties_lines.specs.LineReader.{ReleasesOrKeeps, reads_left}
use Rattle.properties_lines.proofs.LineReaders.{Along, IsAtEnd}
use Rattle.properties_lines.proofs.reader.LineReader.read_line.Given as goal

abbrev pub invariant-reads : goal.invariant-reads
invariant-reads g l = record {
  along : (r : List ℕ) × Along (reader g.R.Read g.R.CountedRead) l.fn.self.state l.fn.reader r l.self.state l.reader;
  ended : l.ended ≡ true → IsAtEnd (reader g.R.Read g.R.CountedRead) l.self.state l.reader;
  idle : (l.fn.self.state.is_done ≡ true) ⊎ (l.fn.self.state.passed + 1 ≡ 2 ^ 64) → (l.self ≡ l.fn.self) × (l.reader ≡ l.fn.reader);
  line : ReleasesOrKeeps l.fn.self l.self;
  same_reader : IsSameReader (reader g.R.Read g.R.CountedRead) l.fn.reader l.reader;
}

abbrev pub decreases-reads : goal.decreases-reads
decreases-reads g l = (if l.ended then 0 else 1) + reads_left l.self
