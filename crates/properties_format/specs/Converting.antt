-- Converting a source to another encoding, with the characters that are not ASCII escaped or readable. Only the
-- spellings of non-ASCII characters change. All other characters stay, and with them comments, blank lines, layout and
-- line endings.
-- Source: native2ascii of the JDK up to version 8. This differs from it in three points: a backslash before a character
-- that has to be escaped is dropped, escapes of ASCII characters stay, and so does a surrogate without its other half.
use Rattle.std.specs.Prelude.{◌≡◌, ◌↔◌, All, ℕ, nat_lt, Bool, true, false, if◌then◌else◌, List, [], ◌∷◌, ◌++◌}
use Rattle.properties_format.specs.Text.{backslash, byte, LineEnding}
use Rattle.properties_format.specs.Encoding.{Encoding, utf_8, output_encoding, begins_like_bom, IsDecoded, Repertoire, ascii_in, all_of}
use Rattle.properties_format.specs.Lines.{InputEnd, Line, Ended, Lines, IsLines, HasGroups, joined, first_number}
use Rattle.properties_format.specs.Items.{Outcome, ignored, given, broken, IsOutcome, IsItems, Entry, item, malformed, read_fault}
use Rattle.properties_format.specs.Laws.{HasOne}
use Rattle.properties_format.specs.AsciiOnly.{AreAsciiBytes, AreItemsInBoth}
use Rattle.properties_format.specs.Escapes.{Malformed, letter_u, Spelling, unicode, surrogates, spelling_text, spelling_character, IsSpelling, NoSpelling}
use Rattle.properties_format.specs.Printing.{may_be_unescaped, unicode_escape, encoded_text}

-- A unit of a text: a spelling of a character, or a `\u` at which no spelling begins.
pub data TextUnit : Type 0 where
  spelt : Spelling → TextUnit
  stray : TextUnit

-- the text of a unit
abbrev pub unit_text : TextUnit → List ℕ
unit_text (spelt p) = spelling_text p
unit_text stray = backslash ∷ letter_u ∷ []

-- the texts of the units, one after another, and then the rest of the text
abbrev pub units_before : List TextUnit → List ℕ → List ℕ
units_before [] rest = rest
units_before (u ∷ us) rest = unit_text u ++ units_before us rest

-- The unit may come before this rest of the text.
abbrev pub IsUnit : TextUnit → List ℕ → Type 0
IsUnit (spelt p) rest = IsSpelling p rest
IsUnit stray rest = NoSpelling (backslash ∷ letter_u ∷ rest)

-- Each unit may come before what follows it.
abbrev pub AreUnits : List TextUnit → List ℕ → Type 0
AreUnits [] rest = Unit {0}
AreUnits (u ∷ us) rest = IsUnit u (units_before us rest) × AreUnits us rest

-- whether a spelling is a `\u` escape, or two
abbrev pub is_unicode : Spelling → Bool
is_unicode (unicode d) = true
is_unicode (surrogates high low) = true
is_unicode spelling = false

-- What becomes of a spelling. The spelling of an ASCII character stays. A character that the output has is written as
-- itself if the result is to be readable; otherwise its spelling stays. A character that the output doesn't have is
-- written as a `\u` escape, if it isn't already.
abbrev pub respelt : Repertoire → Bool → Spelling → List ℕ
respelt r readable p =
    let c = spelling_character p in
    if nat_lt c 0x80 then spelling_text p
    else (if may_be_unescaped r c then (if readable then c ∷ [] else spelling_text p)
    else (if is_unicode p then spelling_text p else unicode_escape c))

-- what becomes of a unit
abbrev pub converted_unit : Repertoire → Bool → TextUnit → List ℕ
converted_unit r readable (spelt p) = respelt r readable p
converted_unit r readable stray = backslash ∷ letter_u ∷ []

-- what becomes of units, one after another
abbrev pub converted_units : Repertoire → Bool → List TextUnit → List ℕ
converted_units r readable [] = []
converted_units r readable (u ∷ us) = converted_unit r readable u ++ converted_units r readable us

-- a text with its first character escaped
abbrev pub first_escaped : List ℕ → List ℕ
first_escaped [] = []
first_escaped (c ∷ cs) = unicode_escape c ++ cs

-- a text at the front of a file: if its bytes would begin like a byte order mark, its first character is escaped
abbrev pub at_front : Encoding → List ℕ → List ℕ
at_front e x = if begins_like_bom (encoded_text e x) then first_escaped x else x

-- The result is the source, read in this encoding, converted to this repertoire, readable or not.
-- A byte order mark is dropped, and malformed bytes become U+FFFD, as when the source is read.
pub record IsConverted (e : Encoding) (to : Repertoire) (readable : Bool) (source result : List ℕ) : Type 0 where
  pub text : List ℕ
  pub units : List TextUnit
  pub decoded : IsDecoded e source text
  pub whole : text ≡ units_before units []
  pub each : AreUnits units []
  pub bytes : result ≡ encoded_text to.encoding (at_front to.encoding (converted_units to readable units))

-- The entries are the same, except that an escape may be malformed in another way.
abbrev pub AreSameEntries : List Entry → List Entry → Type 0
AreSameEntries [] [] = Unit {0}
AreSameEntries (item n c ∷ es) (item m d ∷ fs) = (n ≡ m) × (c ≡ d) × AreSameEntries es fs
AreSameEntries (malformed k n ∷ es) (malformed l m ∷ fs) = (n ≡ m) × AreSameEntries es fs
AreSameEntries (read_fault n ∷ es) (read_fault m ∷ fs) = (n ≡ m) × AreSameEntries es fs
AreSameEntries es fs = ⊥

-- None of the entries is a malformed escape.
abbrev pub HoldNoMalformed : List Entry → Type 0
HoldNoMalformed [] = Unit {0}
HoldNoMalformed (malformed kind number ∷ entries) = ⊥
HoldNoMalformed (entry ∷ entries) = HoldNoMalformed entries

-- The outcomes of two logical lines are the same, except that an escape may be malformed in another way.
abbrev pub AreSameOutcomes : Outcome → Outcome → Type 0
AreSameOutcomes ignored new = new ≡ ignored
AreSameOutcomes (given content) new = new ≡ given content
AreSameOutcomes (broken kind) new = (other : Malformed) × (new ≡ broken other)

-- The groups begin in lines with the same numbers, and their logical lines have the same outcomes.
abbrev pub AreSameGroups : List (List Line) → List (List Line) → Type 0
AreSameGroups [] [] = Unit {0}
AreSameGroups (g ∷ gs) (h ∷ hs) =
    (first_number g ≡ first_number h)
    × ((old new : Outcome) → IsOutcome (joined g) old → IsOutcome (joined h) new → AreSameOutcomes old new) × AreSameGroups gs hs
AreSameGroups gs hs = ⊥

-- ---- The laws.

-- The result of a conversion, read in its own encoding, has the items of the source, with the same numbers, up to the
-- first malformed escape, however the input ends. That escape stays malformed in the same line, and if there is none,
-- the items are equal.
abbrev pub ConvertingKeepsItems : Encoding → Repertoire → Bool → List ℕ → InputEnd → Type 0
ConvertingKeepsItems e to readable source ending =
    All byte source → output_encoding to.encoding ≡ to.encoding → (result : List ℕ) → IsConverted e to readable source result
    → (old new : List Entry) → IsItems e source ending old → IsItems to.encoding result ending new
    → AreSameEntries old new × (HoldNoMalformed old → old ≡ new)

-- Each logical line of the result has the number and the outcome of that of the source, to the end of the input: also
-- behind a malformed escape.
abbrev pub ConvertingKeepsLogicalLines : Encoding → Repertoire → Bool → List ℕ → InputEnd → Type 0
ConvertingKeepsLogicalLines e to readable source ending =
    All byte source → output_encoding to.encoding ≡ to.encoding → (result : List ℕ) → IsConverted e to readable source result
    → (gs hs : List (List Line)) → HasGroups e source ending gs → HasGroups to.encoding result ending hs → AreSameGroups gs hs

-- Each byte of an ASCII-only result is below 80 hexadecimal. So the result has the same items in windows-1252 and in
-- UTF-8. It is the same whatever the output encoding.
abbrev pub ConvertingGivesAscii : Encoding → Encoding → Bool → List ℕ → Type 0
ConvertingGivesAscii e to readable source =
    (result : List ℕ) → IsConverted e (ascii_in to) readable source result
    → AreAsciiBytes result × ((entries : List Entry) × AreItemsInBoth result entries) × ((other : Encoding) → IsConverted e (ascii_in other) readable source result)

-- the line endings of lines
abbrev pub endings : List Ended → List LineEnding
endings [] = []
endings (l ∷ ls) = l.by ∷ endings ls

-- The result of a conversion has as many lines as the source, with the same line endings.
abbrev pub ConvertingKeepsEndings : Encoding → Repertoire → Bool → List ℕ → Type 0
ConvertingKeepsEndings e to readable source =
    All byte source → output_encoding to.encoding ≡ to.encoding → (result : List ℕ) → IsConverted e to readable source result
    → (x y : List ℕ) (old new : Lines) → IsDecoded e source x → IsLines x old → IsDecoded to.encoding result y → IsLines y new → endings old.ended ≡ endings new.ended

-- Each source has exactly one result.
abbrev pub ConvertsToOne : Encoding → Repertoire → Bool → List ℕ → Type 0
ConvertsToOne e to readable source = HasOne (IsConverted e to readable source)

-- Converting the result again, in the same way, changes no byte.
abbrev pub ConvertingTwiceIsConvertingOnce : Encoding → Repertoire → Bool → List ℕ → Type 0
ConvertingTwiceIsConvertingOnce e to readable source =
    All byte source → output_encoding to.encoding ≡ to.encoding → (result : List ℕ) → IsConverted e to readable source result → IsConverted to.encoding to readable result result

-- Converting to readable UTF-8 gives the same bytes for a source and for any conversion of it.
abbrev pub ReadableAnyway : Encoding → Repertoire → Bool → List ℕ → Type 0
ReadableAnyway e to readable source =
    All byte source → output_encoding to.encoding ≡ to.encoding → (between : List ℕ) → IsConverted e to readable source between
    → (result : List ℕ) → IsConverted to.encoding (all_of utf_8) true between result ↔ IsConverted e (all_of utf_8) true source result

-- If spellings are kept, a source in its own encoding that is well-formed and has no byte order mark is its own result.
abbrev pub KeptIsItself : Encoding → List ℕ → Type 0
KeptIsItself e source =
    All byte source → output_encoding e ≡ e → begins_like_bom source ≡ false
    → (text : List ℕ) → IsDecoded e source text → source ≡ encoded_text e text → IsConverted e (all_of e) false source source

-- If spellings are kept, an ASCII source is its own result in every repertoire.
abbrev pub AsciiIsItself : Encoding → Repertoire → List ℕ → Type 0
AsciiIsItself e to source = AreAsciiBytes source → output_encoding e ≡ e → IsConverted e to false source source
