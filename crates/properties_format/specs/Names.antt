-- The names of the encodings, in lower case, and their labels.
-- Source: WHATWG Encoding Standard, section 4.2.
use Rattle.std.specs.Prelude.{◌≡◌, ℕ, List, Option, Some, None, codes, ◌⊎◌, [], ◌∷◌, map}
use Rattle.properties_format.specs.Encoding.{Encoding, windows_1252, utf_8, utf_16le, utf_16be}
use Rattle.std.specs.Char.{to_ascii_lowercase}
use Rattle.std.specs.Str.{IsTrimAscii}

-- the name of an encoding
abbrev pub name_of : Encoding → List ℕ
name_of windows_1252 = codes "windows-1252"
name_of utf_8 = codes "utf-8"
name_of utf_16le = codes "utf-16le"
name_of utf_16be = codes "utf-16be"

-- the encoding with this name, or `None` if there is none
abbrev pub IsNamed : List ℕ → Option Encoding → Type 0
IsNamed name None = (e : Encoding) → name ≡ name_of e → ⊥
IsNamed name (Some e) = name ≡ name_of e

-- ---- The labels of the encodings.

-- the labels of an encoding
abbrev pub labels_of : Encoding → List (List ℕ)
labels_of windows_1252 =
    codes "ansi_x3.4-1968" ∷ (codes "ascii" ∷ (codes "cp1252" ∷ (codes "cp819" ∷ (codes "csisolatin1" ∷ (
    codes "ibm819" ∷ (codes "iso-8859-1" ∷ (codes "iso-ir-100" ∷ (codes "iso8859-1" ∷ (codes "iso88591" ∷ (
    codes "iso_8859-1" ∷ (codes "iso_8859-1:1987" ∷ (codes "l1" ∷ (codes "latin1" ∷ (codes "us-ascii" ∷ (
    codes "windows-1252" ∷ (codes "x-cp1252" ∷ []))))))))))))))))
labels_of utf_8 =
    codes "unicode-1-1-utf-8" ∷ (codes "unicode11utf8" ∷ (codes "unicode20utf8" ∷ (codes "utf-8" ∷ (
    codes "utf8" ∷ (codes "x-unicode20utf8" ∷ [])))))
labels_of utf_16le =
    codes "csunicode" ∷ (codes "iso-10646-ucs-2" ∷ (codes "ucs-2" ∷ (codes "unicode" ∷ (codes "unicodefeff" ∷ (
    codes "utf-16" ∷ (codes "utf-16le" ∷ []))))))
labels_of utf_16be =
    codes "unicodefffe" ∷ (codes "utf-16be" ∷ [])

-- The text is one of these, but for ASCII case.
abbrev pub IsOneOf : List (List ℕ) → List ℕ → Type 0
IsOneOf [] text = ⊥
IsOneOf (label ∷ labels) text = (map to_ascii_lowercase label ≡ map to_ascii_lowercase text) ⊎ IsOneOf labels text

-- the encoding of which the text is a label, if it is one
abbrev pub IsLabelOf : List ℕ → Option Encoding → Type 0
IsLabelOf text None = (e : Encoding) → IsOneOf (labels_of e) text → ⊥
IsLabelOf text (Some e) = IsOneOf (labels_of e) text

-- the encoding of which the text is a label without the ASCII whitespace at its ends, if it is one
abbrev pub IsLabelled : List ℕ → Option Encoding → Type 0
IsLabelled text encoding = (label : List ℕ) × IsTrimAscii text label × IsLabelOf label encoding
