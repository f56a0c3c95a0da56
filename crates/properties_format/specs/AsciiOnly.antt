-- Which calls write only ASCII, what an edit with ASCII-only output on puts in, and what that means for the bytes.
-- Source: java.util.Properties of Java SE 7, store, whose escapes are ASCII; RFC 20 (ASCII is the numbers below 80
-- hexadecimal).
use Rattle.std.specs.Prelude.{◌≡◌, ◌⊎◌, All, ℕ, ◌<◌, nat_lt, true, if◌then◌else◌, List, [], ◌∷◌}
use Rattle.properties_format.specs.Encoding.{windows_1252, utf_8}
use Rattle.properties_format.specs.Lines.{end}
use Rattle.properties_format.specs.Items.{Entry, IsItems}
use Rattle.properties_format.specs.Writing.{Call, ascii_only_call}

-- The call doesn't turn ASCII-only output off.
abbrev pub KeepsAsciiOnly : Call → Type 0
KeepsAsciiOnly (ascii_only_call on) = on ≡ true
KeepsAsciiOnly call = Unit {0}

-- None of the calls turns ASCII-only output off.
abbrev pub AllKeepAsciiOnly : List Call → Type 0
AllKeepAsciiOnly [] = Unit {0}
AllKeepAsciiOnly (call ∷ calls) = KeepsAsciiOnly call × AllKeepAsciiOnly calls

-- The first call turns ASCII-only output on, and no call turns it off.
abbrev pub AreAsciiOnly : List Call → Type 0
AreAsciiOnly [] = ⊥
AreAsciiOnly (call ∷ calls) = (call ≡ ascii_only_call true) × AllKeepAsciiOnly calls

-- Every byte is ASCII.
abbrev pub AreAsciiBytes : List ℕ → Type 0
AreAsciiBytes bytes = All (λ b. b < 0x80) bytes

-- The bytes have the same items in windows-1252 and in UTF-8, the two encodings that are written.
pub record AreItemsInBoth (bytes : List ℕ) (entries : List Entry) : Type 0 where
  pub in_windows_1252 : IsItems windows_1252 bytes end entries
  pub in_utf_8 : IsItems utf_8 bytes end entries

-- ---- Edits.

-- the non-ASCII bytes, from 80 hexadecimal on, in order
abbrev pub beyond_ascii : List ℕ → List ℕ
beyond_ascii [] = []
beyond_ascii (b ∷ bs) = if nat_lt b 0x80 then beyond_ascii bs else b ∷ beyond_ascii bs

-- The first list is the second with any number of elements left out.
abbrev pub IsSubsequence : List ℕ → List ℕ → Type 0
IsSubsequence some [] = some ≡ []
IsSubsequence some (x ∷ all) = IsSubsequence some all ⊎ (more : List ℕ) × (some ≡ x ∷ more) × IsSubsequence more all

-- Only ASCII is put into the source: each non-ASCII byte in the result is one of the source's, in order.
abbrev pub PutsInAscii : List ℕ → List ℕ → Type 0
PutsInAscii source result = IsSubsequence (beyond_ascii result) (beyond_ascii source)

-- Only ASCII is put in. So an ASCII source has an ASCII result, which has the same items in windows-1252 and in UTF-8.
pub record IsInAscii (source result : List ℕ) : Type 0 where
  pub puts : PutsInAscii source result
  pub ascii : AreAsciiBytes source → AreAsciiBytes result
  pub alike : AreAsciiBytes source → (entries : List Entry) × AreItemsInBoth result entries
