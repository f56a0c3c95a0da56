use Rattle.std.proofs.Common.{◌++◌, length}
use Rattle.properties_text.specs.Encoding.{encoding_of}
use Rattle.properties_tables.specs.{Lines.HasFlawed, Private.Flawed.numbers_left, Private.Flawed.IsScanning}
use Rattle.properties_tables.proofs.ill_formed.flawed_lines.Given as goal

abbrev pub invariant-loop-number : goal.invariant-loop-number
invariant-loop-number l = record {
  scanning : IsScanning l.body l.scanner;
  all : HasFlawed l.fn.flaw (encoding_of l.fn.encoding) l.fn.source (l.numbers.items ++ numbers_left l.fn.flaw l.body l.scanner);
}

abbrev pub decreases-loop-number : goal.decreases-loop-number
decreases-loop-number l = length (numbers_left l.fn.flaw l.body l.scanner)
