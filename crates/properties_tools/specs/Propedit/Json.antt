-- Answers as JSON. Members keep their order, and their names and texts are in UTF-8.
-- Source: RFC 8259, as page JsonLines has it.
use Rattle.std.specs.Prelude.{◌≡◌, ℕ, List, [], ◌∷◌, Result, Ok, Err, codes, encode_utf8_all}
use Rattle.std.specs.Fmt.{decimal}
use Rattle.json.specs.Json.{number, object, member, no_members, Json, Members}
use Rattle.properties_format.specs.Encoding.{Encoding}
use Rattle.properties_format.specs.Writing.{Pair}
use Rattle.properties_tools.specs.Propedit.Differences.{changed, came, gone, key_of, Difference}
use Rattle.properties_tools.specs.Propedit.Listing.{list_status, listed_pairs, AreLastPairs}
use Rattle.properties_tables.specs.Sources.{IsSound, IsUnsound}
use Rattle.properties_tables.specs.Table.{Row}
use Rattle.properties_tools.specs.declared.propedit.answer.Answer.{Answer}
use Rattle.properties_tables.specs.declared.error.Failure.{Failure}
use Rattle.properties_checking.specs.JsonLines.{IsJsonLine, text_value}

-- ---- the pairs that are listed

-- a member for each pair, in order: its key is the name
abbrev pub pair_members : List Pair → Members
pair_members [] = no_members
pair_members (p ∷ pairs) = member (encode_utf8_all p.0) (text_value p.1) (pair_members pairs)

-- These pairs are printed as one object.
pub record PrintsObject (prefix : List ℕ) (pairs : List Pair) (answer : Answer) : Type 0 where
  pub text : IsJsonLine (object (pair_members pairs)) answer.text.items
  pub status : answer.status ≡ list_status prefix pairs

-- The source is sound, and these of its pairs are printed.
pub record ListsObject (e : Encoding) (source prefix : List ℕ) (answer : Answer) : Type 0 where
  pub sound : IsSound e source
  pub pairs : List Pair
  pub are : AreLastPairs e source pairs
  pub prints : PrintsObject prefix (listed_pairs prefix pairs) answer

-- What listing pairs as JSON returns.
abbrev pub ListsJson : Encoding → List ℕ → List ℕ → Result Answer Failure → Type 0
ListsJson e source prefix (Ok answer) = ListsObject e source prefix answer
ListsJson e source prefix (Err failure) = IsUnsound e source failure

-- ---- what differs

-- a member for a row: the line and the value of its last pair
abbrev pub side_member : List ℕ → Row → Members → Members
side_member name r rest =
    member name (object (member (codes "line") (number (decimal r.last)) (member (codes "value") (text_value r.value) no_members))) rest

-- a member for each source that has the key
abbrev pub side_members : Difference → Members
side_members (gone r) = side_member (codes "old") r no_members
side_members (came r) = side_member (codes "new") r no_members
side_members (changed r s) = side_member (codes "old") r (side_member (codes "new") s no_members)

abbrev pub difference_value : Difference → Json
difference_value d = object (member (codes "key") (text_value (key_of d)) (side_members d))
