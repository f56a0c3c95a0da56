use Rattle.std.proofs.Common.{refl, arith}
use Rattle.properties_format.proofs.Encodings.WellFormed.{IsUtf8-from_well_formed, well_formed-from_IsUtf8}
use Rattle.properties_text.proofs.TextFronts.{whole-text, no-whole_text}
use Rattle.properties_text.proofs.encoding.utf_8.as_text.Goals as goal

pub from_utf8_unchecked-requires : goal.from_utf8_unchecked-requires
from_utf8_unchecked-requires c = whole-text c.args.bytes.now _ c.well_formed_length.ensures (omega arith)

pub returns-then-well_formed_length-bytes-clause-exactly : goal.returns-then-well_formed_length-bytes-clause-exactly
returns-then-well_formed_length-bytes-clause-exactly c =
    (λ k. absurd (cc), λ h. absurd (no-whole_text c.args.bytes.now _ c.well_formed_length.ensures (omega arith) (IsUtf8-from_well_formed c.args.bytes.now h)))

pub returns-clause-exactly : goal.returns-clause-exactly
returns-clause-exactly c =
    (λ k. well_formed-from_IsUtf8 c.args.bytes.now (whole-text c.args.bytes.now _ c.well_formed_length.ensures (omega arith)), λ h. refl)
