-- Texts of a program are of scalar values.
use Rattle.std.specs.Prelude.{All, String, string_bytes}
use Rattle.std.specs.Str.{chars, IsUtf8}
use Rattle.std.proofs.lemmas.Str.{scalars-chars, IsUtf8-string_bytes}
use Rattle.properties_format.specs.Text.{scalar}
use Rattle.properties_format.proofs.Encodings.WellFormed.{scalar-from_char}
use Rattle.std.proofs.Common.{◌≡◌, ℕ, true, List, [], ◌∷◌}
use Rattle.std.specs.Str.{all_scalars}
use Rattle.std.proofs.Math.Utf8.{scalar as is_scalar}
use Rattle.std.proofs.lemmas.Bool.{and_parts}
use Rattle.std.proofs.lemmas.List.Elements.{All-nil, All-cons}

-- a test of all characters says that they are scalar values
scalars-all : (cs : List ℕ) → all_scalars cs ≡ true → All scalar cs
scalars-all [] h = All-nil scalar
scalars-all (c ∷ cs) h =
    let p = and_parts (is_scalar c) (all_scalars cs) h in
    All-cons scalar c cs (scalar-from_char c p.0) (scalars-all cs p.1)

-- the characters of a text are scalar values
pub string-scalars : {Z : Type 0} (s : String Z) → All scalar (chars (string_bytes s))
string-scalars s = let bs = string_bytes s in scalars-all (chars bs) (scalars-chars bs (IsUtf8-string_bytes s))

-- the characters of a text are scalar values
pub chars-scalars : (bytes : List ℕ) → IsUtf8 bytes → All scalar (chars bytes)
chars-scalars bytes h = scalars-all (chars bytes) (scalars-chars bytes h)
