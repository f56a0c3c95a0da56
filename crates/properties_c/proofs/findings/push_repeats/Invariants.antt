use Rattle.std.proofs.Common.{◌≡◌, ◌++◌, drop}
use Rattle.std.specs.List.{flat_map}
use Rattle.java_properties.specs.Findings.{key_line_entries}
use Rattle.properties_c.specs.Packed.{repeat_bytes}
use Rattle.properties_c.proofs.findings.push_repeats.Given as goal

abbrev pub invariant-loop-key : goal.invariant-loop-key
invariant-loop-key l =
    l.bytes.items ++ flat_map repeat_bytes (key_line_entries (drop l.key-index l.keys))
    ≡ l.fn.bytes.items ++ flat_map repeat_bytes (key_line_entries l.keys)
