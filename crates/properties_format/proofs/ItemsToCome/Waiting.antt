-- Which bytes decide what comes next: whether there is a byte order mark at the front, or an LF after a CR.
use Rattle.std.proofs.Common.{◌≡◌, true, false, arith}
use Rattle.properties_format.specs.Computed.Encoding.{awaits_bom}
use Rattle.properties_format.specs.ItemsToCome.{ReaderState}
use Rattle.properties_format.specs.Computed.ItemsToCome.{after_decided, HoldsNoEnd}

-- ---- A byte order mark.

-- A reader that still waits for a byte order mark when nothing more comes holds no line ending.
pub waiting-no_end : (s : ReaderState) → s.is_done ≡ false → awaits_bom s.held ≡ true → HoldsNoEnd (after_decided s)
waiting-no_end s h k = grind (arith)
