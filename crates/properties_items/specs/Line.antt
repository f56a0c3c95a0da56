-- Items as contracts see them: their entries, when two are equal, and how they are ordered.
use Rattle.std.specs.Prelude.{◌≡◌, ℕ, List, [], ◌∷◌}
use Rattle.std.specs.Str.{chars}
use Rattle.std.specs.String.{string_bytes}
use Rattle.std.specs.Ordering.{nat_cmp, on, then_cmp}
use Rattle.std.specs.declared.cmp.Ordering.{Ordering}
use Rattle.std.specs.Cmp.Lexicographic.{slice_cmp}
use Rattle.properties_format.specs.Items as entry
use Rattle.properties_format.specs.Items.{Content, Entry, item}
use Rattle.properties_items.specs.declared.line.LineContent.{LineContent}
use Rattle.properties_items.specs.declared.line.LineContent.TheVariants.{Comment, KVPair}
use Rattle.properties_items.specs.declared.line.Line.{Line}
use Rattle.properties_items.specs.declared.line.LineEnding.{LineEnding}
use Rattle.properties_items.specs.declared.line.LineEnding.TheVariants.{CR, LF, CRLF}
use Rattle.properties_format.specs.Text as text

-- the number of the line that the item begins in
abbrev pub line_number_of : Line → ℕ
line_number_of l = l.line_number

abbrev pub content_of : Line → LineContent
content_of l = l.content

-- the entry of a line
abbrev pub format_content : LineContent → Content
format_content (Comment text) = entry.comment (chars (string_bytes text))
format_content (KVPair key value) = entry.pair (chars (string_bytes key)) (chars (string_bytes value))

abbrev pub entry_of : Line → Entry
entry_of line = item (line_number_of line) (format_content (content_of line))

-- the order of the kinds: 0 for a comment and 1 for a pair
abbrev pub rank : LineContent → ℕ
rank (Comment text) = 0
rank (KVPair key value) = 1

-- the bytes of its texts: of the comment, or of the key and of the value
abbrev pub texts : LineContent → List (List ℕ)
texts (Comment text) = string_bytes text ∷ []
texts (KVPair key value) = string_bytes key ∷ (string_bytes value ∷ [])

-- Both are comments or both are pairs, and their texts are equal.
abbrev pub IsSameContent : LineContent → LineContent → Type 0
IsSameContent x y = (rank x ≡ rank y) × (texts x ≡ texts y)

abbrev pub IsSameLine : Line → Line → Type 0
IsSameLine l m = (line_number_of l ≡ line_number_of m) × IsSameContent (content_of l) (content_of m)

-- Comments order before pairs. Two comments, or two pairs, are ordered by the bytes of their texts.
abbrev pub content_order : LineContent → LineContent → Ordering
content_order = then_cmp (on rank nat_cmp) (on texts (slice_cmp (slice_cmp nat_cmp)))

-- Lines are ordered by number, then by content.
abbrev pub line_order : Line → Line → Ordering
line_order = then_cmp (on line_number_of nat_cmp) (on content_of content_order)

-- Line endings are ordered as they stand here.
abbrev pub ending_place : LineEnding → ℕ
ending_place CR = 0
ending_place LF = 1
ending_place CRLF = 2

-- ---- Line endings.

-- the line ending that the code's value represents
abbrev pub ending_of : LineEnding → text.LineEnding
ending_of CR = text.cr
ending_of LF = text.lf
ending_of CRLF = text.crlf
