use Rattle.std.proofs.Common.{◌≡◌, ◌++◌, drop}
use Rattle.std.specs.List.{flat_map}
use Rattle.properties_c.specs.Packed.{number_bytes}
use Rattle.properties_c.proofs.records.push_numbers.Given as goal

abbrev pub invariant-loop-number : goal.invariant-loop-number
invariant-loop-number l =
    l.bytes.items ++ flat_map number_bytes (drop l.number-index l.numbers) ≡ l.fn.bytes.items ++ flat_map number_bytes l.numbers
