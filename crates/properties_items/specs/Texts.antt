-- Texts as their characters, and what a map of texts has. A map is seen as its entries, whatever its type.
use Rattle.std.specs.Prelude.{ℕ, List, Option, bytes_eq, string_bytes}
use Rattle.std.specs.Option.{option_map}
use Rattle.std.specs.Str.{chars}
use Rattle.std.specs.Map.{lookup}
use Rattle.std.specs.declared.string.String.{String}

abbrev pub characters : {Z : Type 0} → String Z → List ℕ
characters text = chars (string_bytes text)

-- the entries of a map, in the order in which it holds them
abbrev pub Entries : Type 0 → Type 0 → Type 0
Entries Y Z = List (String Y × String Z)

-- the value of a key in a map, both as characters
abbrev pub value_at : {Y Z : Type 0} → Entries Y Z → List ℕ → Option (List ℕ)
value_at entries key = option_map characters (lookup (λ k. bytes_eq key (characters k)) entries)
