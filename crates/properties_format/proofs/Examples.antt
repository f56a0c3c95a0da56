-- A dozen examples, computed: each is what a definition gives for an input. The tables of reading_vectors, writing_vectors
-- and editing_vectors have all others: results are unique, so a row that the code meets is an example of the definition too.
use Rattle.std.proofs.Common.{◌≡◌, List, [], ◌∷◌, refl}
use Rattle.std.specs.Prelude.{codes}
use Rattle.std.specs.Char.{encode_utf8}
use Rattle.properties_format.specs.Text.{piece, lf, cr, crlf}
use Rattle.properties_format.specs.Encoding.{windows_1252, utf_8, utf_16le, byte_order_mark, all_of}
use Rattle.properties_format.specs.Lines.{numbered_lines, end, fault}
use Rattle.properties_format.specs.Split.{pair}
use Rattle.properties_format.specs.Escapes.{invalid_character, means, breaks}
use Rattle.properties_format.specs.Cut.{IsCut}
use Rattle.properties_format.specs.Items as items
use Rattle.properties_format.specs.Settings.{default_settings}
use Rattle.properties_format.specs.Writing.{Call, comment_call, pair_call, prefix_call, wrote, items_read_back}
use Rattle.properties_format.specs.Edited.{edited}
use Rattle.properties_format.specs.Plan.{with_key_removed, with_value_set}
use Rattle.properties_format.specs.Computed.Encoding.{pieces_of}
use Rattle.properties_format.specs.Computed.Lines.{lines_of, logical_lines}
use Rattle.properties_format.specs.Computed.Split.{split_of}
use Rattle.properties_format.specs.Computed.Escapes.{meaning_of}
use Rattle.properties_format.specs.Computed.Items.{items_of}
use Rattle.properties_format.specs.Computed.Body.{held_groups_of}
use Rattle.properties_format.proofs.Edited.Results.{result_of}

-- In UTF-8, a sequence that a line feed breaks off is one piece, for U+FFFD.
broken_sequence : pieces_of utf_8 (0xe3 ∷ 0x81 ∷ 0x0a ∷ []) ≡ piece (0xe3 ∷ 0x81 ∷ []) 0xfffd ∷ piece (0x0a ∷ []) 0x0a ∷ []
unfolding pieces_of
broken_sequence = refl

-- A byte order mark overrides the encoding that was asked for, and is no part of the body.
only_a_mark : byte_order_mark windows_1252 (0xef ∷ 0xbb ∷ 0xbf ∷ []) ≡ record { encoding = utf_8; body = [] }
only_a_mark = refl

-- CR CR LF is two line endings.
two_endings : lines_of (13 ∷ 13 ∷ 10 ∷ []) ≡ record { ended = record { text = []; by = cr } ∷ record { text = []; by = crlf } ∷ []; last = [] }
two_endings = refl

-- A single LF byte ends no line of UTF-16.
no_unit : ¬ IsCut utf_16le (0x0a ∷ 0x0a ∷ []) (record { ended = record { text = []; by = lf } ∷ record { text = []; by = lf } ∷ []; last = [] })
no_unit = λ h. let k = h.bytes in absurd (cc)

-- An open line is joined to the next one, but for a comment line, which is never continued.
joined_lines : logical_lines (numbered_lines (lines_of (codes "c=d\\\n  e\n#f\\\ng")) end) end
    ≡ record { number = 1; text = codes "c=de" } ∷ record { number = 3; text = codes "#f\\" } ∷ record { number = 4; text = codes "g" } ∷ []
joined_lines = refl

-- A colon separates the key from the value, and `=` after it belongs to the value.
one_separator : split_of (codes "a:=b") ≡ pair (codes "a") (codes "=b")
unfolding split_of
one_separator = refl

-- Two escapes, of a high and a low surrogate, are one character; a backslash that stands last is U+0000.
one_character : meaning_of (codes "\\ud83d\\udc1e\\") ≡ means (0x1_f41e ∷ 0 ∷ [])
unfolding meaning_of
one_character = refl

-- A high surrogate by itself is malformed.
half_a_character : meaning_of (codes "\\ud83dx") ≡ breaks invalid_character
unfolding meaning_of
half_a_character = refl

-- A continued line before a failed read has its item, and the line in which the read fails has none.
failed_read : items_of windows_1252 (codes "a\\\nb\n\\uxxxx") fault ≡ items.item 1 (items.pair (codes "ab") []) ∷ items.read_fault 3 ∷ []
unfolding items_of pieces_of split_of meaning_of
failed_read = refl

-- What these calls write, and what is read back of it: the rest of the prefix comes before the text of a comment.
abbrev calls : List Call
calls = prefix_call (codes "#x") ∷ comment_call (codes "a\n") ∷ pair_call (codes "b c") (codes "é") ∷ []

written : wrote windows_1252 default_settings 0 calls ≡ codes "#xa\\n\nb\\ c=é\n"
unfolding encode_utf8
written = refl

read_back : items_read_back default_settings 0 calls ≡ items.item 1 (items.comment (codes "xa\n")) ∷ items.item 2 (items.pair (codes "b c") (codes "é")) ∷ []
read_back = refl

-- A value that is set keeps the front of its line and the line ending.
kept_layout : result_of windows_1252 (codes "key    = old\r\n") (with_value_set (all_of windows_1252) (codes "key    = old\r\n") (codes "key") (codes "new"))
    ≡ edited (codes "key    = new\r\n")
unfolding items_of pieces_of split_of meaning_of held_groups_of encode_utf8
kept_layout = refl

-- If the rest would begin like a byte order mark after a key is removed, an LF comes before it.
guarded_front : result_of windows_1252 (codes "a=1\nþÿ=2\n") (with_key_removed windows_1252 (codes "a=1\nþÿ=2\n") (codes "a")) ≡ edited (codes "\nþÿ=2\n")
unfolding items_of pieces_of split_of meaning_of held_groups_of encode_utf8
guarded_front = refl
