use Rattle.std.proofs.Common.{inl, inr, ◌++◌, ◌∙◌, sym, arith}
use Rattle.properties_lines.proofs.LineReaders.{found, along-read, refused, releases-on}
use Rattle.properties_lines.proofs.reader.LineReader.read_line.Goals as goal

pub returns-in-Line-clause-finds : goal.returns-in-Line-clause-finds
returns-in-Line-clause-finds g c =
    let line = c.in-Line.ensures in
    (found c.reads.ended c.scan.new.self c.reads.invariant.along.1 c.reads.invariant.ended line, line.flags, line.error)

pub reads-preserved-in-Bytes : goal.reads-preserved-in-Bytes
reads-preserved-in-Bytes g c =
    let more = c.in-More.ensures.0 in
    let none = c.in-More.ensures.1 in
    let along = c.reads.invariant.along.1 in
    let bytes = c.in-Bytes.ensures.reads in
    let live = none.live in
    let done = along.done in
    let numbered = none.numbered in
    let passed = along.passed in
    record {
      along = (c.reads.invariant.along.0 ++ bytes.0, along-read along none bytes.2);
      ended = λ h. absurd (cc);
      idle = λ h. elim h [
        | inl d ↦ absurd (cc)
        | inr d ↦ absurd (omega arith)
      ];
      line = releases-on c.args.self.now c.reads.self c.scan.new.self c.read.new.self c.reads.invariant.line none.line bytes.2.line;
      same_reader = c.read.ensures.same_reader ∙ c.reads.invariant.same_reader;
    }

pub returns-in-Failed-clause-finds : goal.returns-in-Failed-clause-finds
returns-in-Failed-clause-finds g c =
    let none = c.in-More.ensures.1 in
    let along = c.reads.invariant.along.1 in
    let e = c.in-Failed.ensures.reads.0 in
    let failed = c.in-Failed.ensures.reads.2 in
    inr (record {
      live = sym along.done ∙ none.live;
      error = e;
      why = refused c.read.new.reader c.read.new.self.state e along none c.in-Failed.ensures.reads.1;
      failed = record { done = failed.done; error = failed.error; line = releases-on c.args.self.now c.reads.self c.scan.new.self c.read.new.self c.reads.invariant.line none.line failed.line };
    })
