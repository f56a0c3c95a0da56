-- How long packed bytes are, and the headers of records.
use Rattle.std.proofs.Common.{◌≡◌, ℕ, ◌+◌, List, ◌++◌, length, refl, arith, length-append, append_assoc}
use Rattle.std.specs.List.{flat_map}
use Rattle.properties_c.specs.Packed.{number_bytes, Record, packed, spanned}
use Rattle.properties_c.specs.Private.Lists.{header_bytes, header_of}

pub length-number_bytes : (n : ℕ) → length (number_bytes n) ≡ 8
unfolding number_bytes
length-number_bytes n = refl

pub length-packed : (r : Record) → length (packed r) ≡ 32 + (length r.key + length r.value)
unfolding packed
length-packed r = simp (length-append, length-number_bytes) (omega arith)

pub ruleset sizes = (length-append, length-number_bytes, length-packed)

-- the bytes of a record, its header apart
pub packed-header : (r : Record) → packed r ≡ header_bytes (header_of r) ++ (r.key ++ r.value)
unfolding packed
packed-header r = simp append_assoc refl

pub spanned-header : (r : Record) (numbers : List ℕ)
    → spanned r numbers ≡ header_bytes (header_of r) ++ (flat_map number_bytes numbers ++ (r.key ++ r.value))
unfolding spanned
spanned-header r numbers = simp append_assoc refl

pub ruleset headers = (packed-header, spanned-header)
