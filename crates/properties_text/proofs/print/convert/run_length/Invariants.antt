use Rattle.std.proofs.Common.{◌≡◌, ◌≤◌, ◌<◌, ℕ, get_or}
use Rattle.properties_format.specs.Text.{backslash}
use Rattle.properties_text.proofs.print.convert.run_length.Given as goal

abbrev pub invariant-loop-count : goal.invariant-loop-count
invariant-loop-count l = record {
  within : l.count ≤ l.past;
  back : (k : ℕ) → l.count ≤ k → k < l.past → get_or l.text k 0 ≡ backslash;
}

abbrev pub decreases-loop-count : goal.decreases-loop-count
decreases-loop-count l = l.count
