-- What is appended when a text is printed, by its place in the line.
use Rattle.std.specs.Prelude.{◌≡◌, ℕ, nat_lt, ◌==◌, ◌&&◌, ◌-◌, Bool, not, if◌then◌else◌, List, [], ◌∷◌, ◌++◌, length, take, get_or, Result, OnOk}
use Rattle.properties_format.specs.Printing as format
use Rattle.properties_format.specs.Encoding as meant
use Rattle.properties_format.specs.Text.{tab, line_feed, form_feed, space, backslash, is_separator}
use Rattle.properties_format.specs.Encoding.{windows_1252, utf_8}
use Rattle.properties_text.specs.declared.print.Repertoire.{Repertoire}
use Rattle.properties_text.specs.declared.print.Repertoire.TheVariants.{Windows1252, Latin1, Utf8, Ascii}
use Rattle.properties_text.specs.declared.print.Place.{Place}
use Rattle.properties_text.specs.declared.print.Place.TheVariants.{Comment, Prefix}

abbrev pub place_of : Place → format.Place
place_of Comment = format.in_comment
place_of Prefix = format.in_prefix

-- If memory was found, the buffer now has these bytes after those that it had.
abbrev pub AppendsOnOk : {A E : Type 0} → List ℕ → List ℕ → Result A E → List ℕ → Type 0
AppendsOnOk old bytes result new = OnOk result (new ≡ old ++ bytes)

-- what a repertoire is among the definitions of the format
abbrev pub in_format : Repertoire → meant.Repertoire
in_format Windows1252 = meant.all_of windows_1252
in_format Latin1 = meant.latin_1_in windows_1252
in_format Utf8 = meant.all_of utf_8
in_format Ascii = meant.ascii_in utf_8

-- the bytes of a character and of a text outside keys and values
abbrev pub character_bytes : Repertoire → Place → ℕ → List ℕ
character_bytes r place c = format.encoded_text (in_format r).encoding (format.printed_character (in_format r) (place_of place) c)

abbrev pub text_bytes : Repertoire → Place → List ℕ → List ℕ
text_bytes r place text = format.encoded_text (in_format r).encoding (format.printed_characters (in_format r) (place_of place) text)

-- the bytes of a character and of a text in a key or a value, and of a key
abbrev pub put_of : Repertoire → ℕ → List ℕ
put_of r c = format.encoded_text (in_format r).encoding (format.printed_character (in_format r) format.in_key_or_value c)

abbrev pub puts_of : Repertoire → List ℕ → List ℕ
puts_of r text = format.encoded_text (in_format r).encoding (format.printed_characters (in_format r) format.in_key_or_value text)

-- the bytes of a value as people write it, after blanks only or after a separator
abbrev pub value_bytes : Repertoire → Bool → List ℕ → List ℕ
value_bytes r after_blanks value = format.encoded_text (in_format r).encoding (format.printed_value (in_format r) after_blanks value)

-- the bytes of what comes after its first character, and of one such character
abbrev pub rest_bytes : Repertoire → List ℕ → List ℕ
rest_bytes r rest = format.encoded_text (in_format r).encoding (format.printed_rest (in_format r) rest)

abbrev pub inside_bytes : Repertoire → Bool → ℕ → List ℕ
inside_bytes r is_last c =
    let m = in_format r in
    format.encoded_text m.encoding (if is_last then format.printed_last m c else format.printed_inside m c)

abbrev pub key_bytes : Repertoire → Bool → List ℕ → List ℕ
key_bytes r first key = format.encoded_text (in_format r).encoding (format.printed_key (in_format r) first key)

-- the bytes of a key whose first character is escaped
abbrev pub escaped_key : Repertoire → List ℕ → List ℕ
escaped_key r key = format.encoded_text (in_format r).encoding (format.with_first_escaped (in_format r) key)

-- whether the first character of a value that is set in place gets a backslash
abbrev pub is_first_escaped : Bool → ℕ → Bool → Bool
is_first_escaped after_blanks c is_last = if c == space then not is_last else after_blanks && is_separator c

-- the last ASCII characters of a value that is set in place: those that need no escape, but for a space at the end
abbrev pub last_run : List ℕ → List ℕ
last_run bs = if get_or bs (length bs - 1) 0 == space then take (length bs - 1) bs ++ format.unicode_escape space else bs

-- ---- bytes of an output encoding

-- a byte of a key or a value as it is printed: non-ASCII bytes are copied
abbrev pub printed_byte : ℕ → List ℕ
printed_byte b =
    if format.is_special b then backslash ∷ b ∷ []
    else (if format.has_letter b then format.letter_escape b else (if nat_lt b space then format.unicode_escape b else b ∷ []))

-- several bytes, printed one by one
abbrev pub printed_bytes : List ℕ → List ℕ
printed_bytes [] = []
printed_bytes (b ∷ bs) = printed_byte b ++ printed_bytes bs

-- the number of backslashes before the last byte that is printed, or 2 if a longer escape is printed
abbrev pub backslashes_before : ℕ → ℕ
backslashes_before b = if format.is_special b then 1 else (if format.has_letter b then 1 else (if nat_lt b space then 2 else 0))

-- the last byte that is printed, unless a longer escape is
abbrev pub last_of : ℕ → ℕ
last_of b =
    if format.is_special b then b
    else (if format.has_letter b then (if b == tab then 0x74 else (if b == line_feed then 0x6e else (if b == form_feed then 0x66 else 0x72))) else b)

-- the bytes, with a backslash before each special one
abbrev pub with_backslashes : List ℕ → List ℕ
with_backslashes [] = []
with_backslashes (b ∷ bs) = (if format.is_special b then backslash ∷ b ∷ [] else b ∷ []) ++ with_backslashes bs
