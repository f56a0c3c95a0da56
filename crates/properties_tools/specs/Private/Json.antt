-- The tokens of JSON that is printed of differences.
use Rattle.std.specs.Prelude.{ℕ, List, [], ◌∷◌, ◌++◌, codes, encode_utf8_all}
use Rattle.std.specs.Fmt.{decimal}
use Rattle.json.specs.{Print.print, Tree.json_tokens}
use Rattle.json.specs.Token.{begin_object, end_object, key, number, string, Token}
use Rattle.properties_format.specs.Text.{line_feed}
use Rattle.properties_tools.specs.{Propedit.Differences.Difference, Propedit.Json.difference_value}
use Rattle.properties_tables.specs.Table.{Row}

-- a difference as a line
abbrev pub difference_line : Difference → List ℕ
difference_line d = print (json_tokens (difference_value d)) ++ line_feed ∷ []

-- what is written for a row
abbrev pub side_tokens : List ℕ → Row → List Token
side_tokens name r =
    key name ∷ begin_object ∷ key (codes "line") ∷ number (decimal r.last) ∷ key (codes "value") ∷ string (encode_utf8_all r.value) ∷ end_object ∷ []
