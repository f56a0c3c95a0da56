use Rattle.properties_checking.proofs.check.read_otherwise.Goals as goal

pub returns : goal.returns
returns c = record {
  misread = c.in_ok-findings.findings.items;
  are_misread = c.in_ok-findings.ensures;
  bytes = c.in_ok-bytes.bytes.items;
  are_bytes = c.in_ok-bytes.ensures;
  is = rw c.deref.ensures.value at c.in_ok-extend_from_slice.ensures.items;
}
