-- The lines of a source whose bytes are not those of a text, or not those of a text in ASCII: they are ill-formed in the
-- encoding in force, or one of them is 0 in UTF-8, or they are well-formed and have a non-ASCII character. In well-formed
-- UTF-16 each high surrogate is before a low one, and no other surrogate and no odd byte is there.
-- Source: The Unicode Standard, D91 (UTF-16) and D85 (well-formed).
use Rattle.std.specs.Prelude.{◌≡◌, ◌⊎◌, ℕ, true, false, List, [], ◌∷◌, ◌++◌, nat_eq, nat_le, ◌==◌, ◌&&◌, ◌||◌, not, Bool, Option, Some, None, Result, Ok, Err}
use Rattle.properties_format.specs.Utf16.{is_high, is_low, low_first, high_first}
use Rattle.std.specs.Global.{Vec}
use Rattle.std.specs.List.{list_any, starts_with}
use Rattle.properties_format.specs.Encoding.{Encoding, windows_1252, utf_8, utf_16le, utf_16be, byte_order_mark}
use Rattle.properties_format.specs.Cut.{units, IsCut, IsDecodedLine}
use Rattle.properties_format.specs.Lines.{end, Line, Lines, numbered_lines}
use Rattle.properties_format.specs.Utf8.{IsWellFormedText}
use Rattle.java_properties.specs.Errors.{IsBareError}
use Rattle.properties_items.specs.declared.error.ErrorKind.TheVariants as kind
use Rattle.properties_items.specs.declared.error.PropertiesError.{PropertiesError}
use Rattle.properties_tables.specs.declared.ill_formed.Flaw.{Flaw}
use Rattle.properties_tables.specs.declared.ill_formed.Flaw.TheVariants.{IllFormed, Zero, NonAscii, Byte, MarkInside, Misread}

-- The bytes are a unit that isn't a surrogate.
abbrev pub IsPlainUnit : (ℕ → ℕ → ℕ) → List ℕ → Type 0
IsPlainUnit unit bytes = (a : ℕ) × (b : ℕ) × (bytes ≡ a ∷ b ∷ []) × (is_high (unit a b) ≡ false) × (is_low (unit a b) ≡ false)

-- The bytes are a high surrogate and a low one.
abbrev pub IsSurrogatePair : (ℕ → ℕ → ℕ) → List ℕ → Type 0
IsSurrogatePair unit bytes =
    (a : ℕ) × (b : ℕ) × (c : ℕ) × (d : ℕ) × (bytes ≡ a ∷ b ∷ c ∷ d ∷ []) × (is_high (unit a b) ≡ true) × (is_low (unit c d) ≡ true)

-- The bytes are these characters in order, each of them a unit or a pair.
abbrev pub AreCharacters : (ℕ → ℕ → ℕ) → List ℕ → List (List ℕ) → Type 0
AreCharacters unit bytes [] = bytes ≡ []
AreCharacters unit bytes (c ∷ cs) = (rest : List ℕ) × (bytes ≡ c ++ rest) × (IsPlainUnit unit c ⊎ IsSurrogatePair unit c) × AreCharacters unit rest cs

-- All of the bytes are well-formed UTF-16, in which two bytes make a unit so.
abbrev pub IsWellFormedUnits : (ℕ → ℕ → ℕ) → List ℕ → Type 0
IsWellFormedUnits unit bytes = (characters : List (List ℕ)) × AreCharacters unit bytes characters

-- whether bytes begin with the byte order mark of UTF-8
abbrev pub starts_with_bom : List ℕ → Bool
starts_with_bom source = starts_with nat_eq source (239 ∷ 187 ∷ 191 ∷ [])

-- whether they begin with that of UTF-32, in either order of bytes
abbrev pub starts_with_utf_32_mark : List ℕ → Bool
starts_with_utf_32_mark source =
    starts_with nat_eq source (255 ∷ 254 ∷ 0 ∷ 0 ∷ []) || starts_with nat_eq source (0 ∷ 0 ∷ 254 ∷ 255 ∷ [])

-- ---- of the bytes of a line

-- whether one of the bytes is this byte, such as 0, which is U+0000 in UTF-8
abbrev pub holds_byte : ℕ → List ℕ → Bool
holds_byte byte bytes = list_any (λ b. b == byte) bytes

abbrev pub holds_zero : List ℕ → Bool
holds_zero bytes = holds_byte 0 bytes

-- whether some bytes in UTF-8 hold those of U+FEFF
abbrev pub holds_mark : List ℕ → Bool
holds_mark [] = false
holds_mark (b ∷ bytes) = starts_with_bom (b ∷ bytes) || holds_mark bytes

-- whether bytes in this encoding hold U+FEFF, which windows-1252 doesn't have
abbrev pub holds_mark_in : Encoding → List ℕ → Bool
holds_mark_in windows_1252 bytes = false
holds_mark_in utf_8 bytes = holds_mark bytes
holds_mark_in e bytes = list_any (λ u. u == 0xfeff) (units e bytes)

-- whether ISO 8859-1 reads a byte as another character than windows-1252, as a control character
abbrev pub is_read_otherwise : ℕ → Bool
is_read_otherwise b = nat_le 0x80 b && (nat_le b 0x9f && not (b == 0x81 || (b == 0x8d || (b == 0x8f || (b == 0x90 || b == 0x9d)))))

-- whether one of the bytes is such a byte
abbrev pub holds_misread : List ℕ → Bool
holds_misread bytes = list_any is_read_otherwise bytes

-- The bytes are well-formed in this encoding. In windows-1252 every byte is a character.
abbrev pub IsWellFormedIn : Encoding → List ℕ → Type 0
IsWellFormedIn windows_1252 bytes = Unit {0}
IsWellFormedIn utf_8 bytes = IsWellFormedText bytes
IsWellFormedIn utf_16le bytes = IsWellFormedUnits low_first bytes
IsWellFormedIn utf_16be bytes = IsWellFormedUnits high_first bytes

-- whether one of the characters isn't ASCII
abbrev pub holds_non_ascii : List ℕ → Bool
holds_non_ascii text = list_any (λ c. nat_le 0x80 c) text

-- The bytes are decoded to a text that has a non-ASCII character, or has none.
abbrev pub TellsNonAscii : Encoding → List ℕ → Bool → Type 0
TellsNonAscii e bytes has = (text : List ℕ) × IsDecodedLine e bytes text × (holds_non_ascii text ≡ has)

-- The bytes have this flaw in this encoding. Those that are ill-formed don't count as non-ASCII.
abbrev pub HasLineFlaw : Flaw → Encoding → List ℕ → Type 0
HasLineFlaw IllFormed e bytes = ¬ IsWellFormedIn e bytes
HasLineFlaw Zero e bytes = holds_zero bytes ≡ true
HasLineFlaw (Byte byte) e bytes = holds_byte byte bytes ≡ true
HasLineFlaw MarkInside e bytes = holds_mark_in e bytes ≡ true
HasLineFlaw Misread e bytes = holds_misread bytes ≡ true
HasLineFlaw NonAscii e bytes = IsWellFormedIn e bytes × TellsNonAscii e bytes true

-- The bytes don't have it.
abbrev pub LacksFlaw : Flaw → Encoding → List ℕ → Type 0
LacksFlaw IllFormed e bytes = IsWellFormedIn e bytes
LacksFlaw Zero e bytes = holds_zero bytes ≡ false
LacksFlaw (Byte byte) e bytes = holds_byte byte bytes ≡ false
LacksFlaw MarkInside e bytes = holds_mark_in e bytes ≡ false
LacksFlaw Misread e bytes = holds_misread bytes ≡ false
LacksFlaw NonAscii e bytes = (¬ IsWellFormedIn e bytes) ⊎ TellsNonAscii e bytes false

-- ---- of a body

-- These are the numbers of those of the lines whose bytes have this flaw, in order.
abbrev pub AreFlawed : Flaw → Encoding → List Line → List ℕ → Type 0
AreFlawed flaw e [] numbers = numbers ≡ []
AreFlawed flaw e (l ∷ ls) numbers =
    (LacksFlaw flaw e l.text × AreFlawed flaw e ls numbers)
    ⊎ (HasLineFlaw flaw e l.text × ((rest : List ℕ) × (numbers ≡ l.number ∷ rest) × AreFlawed flaw e ls rest))

-- The bytes of a body are divided into natural lines before they are decoded, and these are the numbers of the lines with
-- this flaw.
pub record AreFlawedIn (flaw : Flaw) (e : Encoding) (body : List ℕ) (numbers : List ℕ) : Type 0 where
  pub lines : Lines
  pub divided : IsCut e body lines
  pub are : AreFlawed flaw e (numbered_lines lines end) numbers

-- ---- of a source

-- whether an encoding is windows-1252, whether it is UTF-8, and whether it is one of the two of UTF-16
abbrev pub is_windows_1252 : Encoding → Bool
is_windows_1252 windows_1252 = true
is_windows_1252 other = false

abbrev pub is_utf_8 : Encoding → Bool
is_utf_8 utf_8 = true
is_utf_8 other = false

abbrev pub is_utf_16 : Encoding → Bool
is_utf_16 utf_16le = true
is_utf_16 utf_16be = true
is_utf_16 other = false

-- Whether a flaw is sought. A byte order mark says that the source isn't UTF-16, so a byte 0 is no flaw after one. Other
-- bytes by themselves are sought in windows-1252.
abbrev pub is_sought : Flaw → Encoding → List ℕ → Bool
is_sought IllFormed e source = true
is_sought NonAscii e source = true
is_sought (Byte byte) e source = is_windows_1252 (byte_order_mark e source).encoding
is_sought MarkInside e source = true
is_sought Misread e source = is_windows_1252 (byte_order_mark e source).encoding
is_sought Zero e source = is_utf_8 (byte_order_mark e source).encoding && not (starts_with_bom source)

-- These are the numbers of the lines of a source that have this flaw, if it is sought.
abbrev pub AreFlawedLines : Flaw → Encoding → List ℕ → List ℕ → Type 0
AreFlawedLines flaw e source numbers =
    ((is_sought flaw e source ≡ true) × AreFlawedIn flaw (byte_order_mark e source).encoding (byte_order_mark e source).body numbers)
    ⊎ ((is_sought flaw e source ≡ false) × (numbers ≡ []))

-- This is the number of the first line with this flaw, where there is one.
abbrev pub IsFirstFlawed : Flaw → Encoding → List ℕ → Option ℕ → Type 0
IsFirstFlawed flaw e source None = AreFlawedLines flaw e source []
IsFirstFlawed flaw e source (Some number) = (others : List ℕ) × AreFlawedLines flaw e source (number ∷ others)

-- ---- a source that is read in another encoding than its own

-- The source is well-formed UTF-8, though windows-1252 is in force.
pub record LooksUtf8 (e : Encoding) (source : List ℕ) : Type 0 where
  pub in_force : (byte_order_mark e source).encoding ≡ windows_1252
  pub well_formed : IsWellFormedText source

-- This is the number of the first line of such a source with a non-ASCII character, where there is one.
abbrev pub IsFirstUtf8 : Encoding → List ℕ → Option ℕ → Type 0
IsFirstUtf8 e source None = (¬ LooksUtf8 e source) ⊎ IsFirstFlawed NonAscii e source None
IsFirstUtf8 e source (Some number) = LooksUtf8 e source × IsFirstFlawed NonAscii e source (Some number)

-- ---- what finding them returns

-- These numbers were found, and there are no others.
pub record HasFlawed (flaw : Flaw) (e : Encoding) (source : List ℕ) (numbers : List ℕ) : Type 0 where
  pub are : AreFlawedLines flaw e source numbers
  pub only : (others : List ℕ) → AreFlawedLines flaw e source others → others ≡ numbers

-- What finding the lines with a flaw returns. It fails only if memory runs out.
abbrev pub FindsFlawed : Flaw → Encoding → List ℕ → Result (Vec ℕ) PropertiesError → Type 0
FindsFlawed flaw e source (Ok numbers) = HasFlawed flaw e source numbers.items
FindsFlawed flaw e source (Err error) = IsBareError kind.Memory error
