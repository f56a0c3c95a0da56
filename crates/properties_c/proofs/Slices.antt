-- What is found and read in a slice, which is read to its end and without a fault.
use Rattle.std.proofs.Common.{◌≡◌, ℕ, List, [], ◌∷◌, ◌++◌, ap, ◌∙◌, refl}
use Rattle.std.specs.{Prelude.if◌then◌else◌, List.flat_map}
use Rattle.properties_format.specs.Escapes.{Malformed, not_enough_digits, not_hex, invalid_character}
use Rattle.properties_format.specs.Found as format
use Rattle.java_properties.specs.{Errors.malformed_kind, Findings.escape_records}
use Rattle.properties_c.specs.{Packed.escape_bytes, Packed.escape_kind, Packed.finding_bytes, Private.Results.malformed_bytes, Private.Results.kind_of_finding}

found-same : (how : Malformed) (number more : ℕ) → finding_bytes (kind_of_finding (malformed_kind how)) number more [] ≡ finding_bytes (escape_kind how) number more []
found-same not_enough_digits number more = refl
found-same not_hex number more = refl
found-same invalid_character number more = refl

-- The records of escapes have the bytes of the escapes.
pub found_bytes-escapes : (escapes : List format.MalformedEscape) → flat_map malformed_bytes (escape_records escapes) ≡ flat_map escape_bytes escapes
found_bytes-escapes [] = refl
found_bytes-escapes (escape ∷ escapes) =
    ap (λ v. v ++ flat_map malformed_bytes (escape_records escapes)) (found-same escape.kind escape.number (if escape.in_comment then 1 else 0))
    ∙ ap (λ v. escape_bytes escape ++ v) (found_bytes-escapes escapes)

pub ruleset finding = (found_bytes-escapes)
