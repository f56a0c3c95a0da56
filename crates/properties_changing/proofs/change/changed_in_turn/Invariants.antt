use Rattle.std.proofs.Common.{◌∷◌, take}
use Rattle.properties_text.specs.Encoding.{encoding_of}
use Rattle.properties_changing.specs.Change.{Leave}
use Rattle.properties_changing.proofs.change.changed_in_turn.Given as goal

abbrev pub invariant-loop-step : goal.invariant-loop-step
invariant-loop-step l =
    Leave (encoding_of l.encoding) l.source (l.steps.first ∷ take l.step-index l.steps.others.items) l.bytes.items
