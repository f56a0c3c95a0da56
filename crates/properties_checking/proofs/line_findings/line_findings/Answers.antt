use Rattle.properties_text.specs.Encoding.{encoding_of}
use Rattle.properties_checking.proofs.LineFindings.{findings-read, took-none}
use Rattle.properties_checking.proofs.line_findings.line_findings.Goals as goal

pub take_all-requires : goal.take_all-requires
take_all-requires c = took-none _ c.new.ensures.items c.new-2.ensures.items c.in_ok-for_source.ensures.table c.in_ok-for_source.ensures.empty

pub returns : goal.returns
returns c = findings-read (encoding_of c.args.encoding) c.args.source.now _ c.take_all.result c.take_all.ensures
