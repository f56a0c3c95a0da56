-- Encodings, targets and flags by number, sources and texts by their bytes, and when a call is refused because of them.
use Rattle.std.specs.Prelude.{◌≡◌, ◌⊎◌, ◌==◌, ◌/◌, ◌%◌, ◌&&◌, ◌||◌, not, nat_lt, ℕ, Bool, true, false, List, Option, Some, None, if◌then◌else◌}
use Rattle.std.specs.Str.{IsUtf8, chars}
use Rattle.properties_format.specs.Encoding.{Encoding, windows_1252, utf_8, utf_16le, utf_16be}
use Rattle.properties_format.specs.Names.{IsLabelled}
use Rattle.properties_text.specs.declared.encoding.Encoding as code
use Rattle.properties_text.specs.declared.print.Repertoire.{Repertoire}
use Rattle.properties_text.specs.declared.print.Repertoire.TheVariants.{Windows1252, Utf8, Ascii, Latin1}
use Rattle.properties_editing.specs.declared.source.Comments.{Comments}
use Rattle.properties_editing.specs.declared.source.Comments.TheVariants as comments
use Rattle.properties_editing.specs.declared.source.SourceOptions.{SourceOptions}
use Rattle.properties_c.specs.Crossing.{Crossing, RefusesCall}
use Rattle.properties_c.specs.declared.asked.Asked.{Asked}
use Rattle.properties_c.specs.declared.asked.Texts.{Texts}
use Rattle.properties_c.specs.declared.asked.Texts.TheVariants.{PassedOver, Raw, Read}
use Rattle.properties_c.specs.declared.encoding.Flags.{Flags}
use Rattle.properties_c.specs.declared.status.Status.TheVariants.{UnknownEncoding, UnknownFlags, NotUtf8, NotText}
use Rattle.properties_tables.specs.Lines.{starts_with_utf_32_mark, IsFirstFlawed}
use Rattle.properties_tables.specs.Sources.{HasSoundBytes, IsFirstIllFormed}
use Rattle.properties_tables.specs.declared.ill_formed.Flaw.TheVariants.{Zero}

-- the encoding with this number, if there is one
abbrev pub encoding_at : ℕ → Option Encoding
encoding_at n =
    if n == 0 then Some windows_1252 else (if n == 1 then Some utf_8 else (if n == 2 then Some utf_16le else (if n == 3 then Some utf_16be else None)))

abbrev pub encoding_number : Encoding → ℕ
encoding_number windows_1252 = 0
encoding_number utf_8 = 1
encoding_number utf_16le = 2
encoding_number utf_16be = 3

-- The number is that of an encoding, of which this holds; or no encoding has it, and the call was refused.
abbrev pub InEncoding : ℕ → (Encoding → Type 0) → Crossing → Type 0
InEncoding n Holds x = ((e : Encoding) × (encoding_at n ≡ Some e) × Holds e) ⊎ (encoding_at n ≡ None) × RefusesCall UnknownEncoding 0 x

-- the target of a conversion with this number, if there is one
abbrev pub target_at : ℕ → Option Repertoire
target_at n =
    if n == 16 then Some Windows1252 else (if n == 17 then Some Utf8 else (if n == 18 then Some Ascii else (if n == 19 then Some Latin1 else None)))

-- The number is that of a target, of which this holds; or no target has it, and the call was refused.
abbrev pub ToTarget : ℕ → (Repertoire → Type 0) → Crossing → Type 0
ToTarget n Holds x = ((t : Repertoire) × (target_at n ≡ Some t) × Holds t) ⊎ (target_at n ≡ None) × RefusesCall UnknownEncoding 0 x

-- the flags that an edit takes, those of a look-up and of a removal, those of a call that tells a comment, those of a
-- conversion, and those of the call that writes lines
abbrev pub no_flags : Flags
no_flags = record { ascii_only = false; readable = false; read_comments = false; crlf = false; cr = false; strict = false; goes_on = false; latin_1 = false }

abbrev pub for_edits : Flags
for_edits = record no_flags { ascii_only = true; read_comments = true; strict = true; latin_1 = true }

abbrev pub for_keys : Flags
for_keys = record no_flags { read_comments = true; strict = true }

abbrev pub for_comments : Flags
for_comments = record no_flags { strict = true }

abbrev pub for_conversions : Flags
for_conversions = record no_flags { readable = true; strict = true }

abbrev pub for_lines : Flags
for_lines = record no_flags { ascii_only = true; readable = true; crlf = true; cr = true; goes_on = true }

-- whether each of the flags is among those that are taken
abbrev pub are_among : Flags → Flags → Bool
are_among f taken =
    (taken.ascii_only || not f.ascii_only)
    && ((taken.readable || not f.readable)
    && ((taken.read_comments || not f.read_comments)
    && ((taken.crlf || not f.crlf)
    && ((taken.cr || not f.cr)
    && ((taken.strict || not f.strict)
    && ((taken.goes_on || not f.goes_on) && (taken.latin_1 || not f.latin_1)))))))

-- what the flags of a number ask for: 1 is ASCII-only, 2 is readable values, 4 is comments that are read, 8 is lines
-- that end in CR LF, 16 is lines that end in CR, 32 is text alone, 4096 is lines that go on, 8192 is characters that
-- ISO 8859-1 reads alike, and a sum is each of its parts
abbrev pub flags_in : ℕ → Flags
flags_in n = record {
  ascii_only = n % 2 == 1;
  readable = n / 2 % 2 == 1;
  read_comments = n / 4 % 2 == 1;
  crlf = n / 8 % 2 == 1;
  cr = n / 16 % 2 == 1;
  strict = n / 32 % 2 == 1;
  goes_on = n / 4096 % 2 == 1;
  latin_1 = n / 8192 == 1;
}

-- whether the number is a sum of these flags, and not of both line endings, which are 24
abbrev pub are_flags : ℕ → Bool
are_flags n = nat_lt n 16384 && ((n / 64 % 64 == 0) && nat_lt (n % 32) 24)

-- what they ask for, if the call takes each of them
abbrev pub flags_at : Flags → ℕ → Option Flags
flags_at taken n = if are_flags n && are_among (flags_in n) taken then Some (flags_in n) else None

-- The call takes each of the flags, and this holds of what they ask for; or it doesn't, and was refused.
abbrev pub WithFlags : Flags → ℕ → (Flags → Type 0) → Crossing → Type 0
WithFlags taken n Holds x =
    ((f : Flags) × (flags_at taken n ≡ Some f) × Holds f) ⊎ (flags_at taken n ≡ None) × RefusesCall UnknownFlags 0 x

-- whether comments are read or passed over
abbrev pub comments_for : Bool → Comments
comments_for true = comments.Read
comments_for false = comments.PassedOver

-- what the library is asked for by these flags
abbrev pub options_for : code.Encoding → Flags → SourceOptions
options_for encoding f =
    record { encoding = encoding; ascii_only = f.ascii_only; latin_1 = f.latin_1; comments = comments_for f.read_comments }

-- ---- Sources that aren't text.

-- This is the first line with U+0000, if UTF-8 is in force without a byte order mark; or, where there is none, the
-- first ill-formed line; or the first of all, which begins with the byte order mark of UTF-32.
abbrev pub IsFirstUnsound : Encoding → List ℕ → ℕ → Type 0
IsFirstUnsound e source number =
    IsFirstFlawed Zero e source (Some number) ⊎ (IsFirstIllFormed e source number ⊎ (starts_with_utf_32_mark source ≡ true) × (number ≡ 1))

-- what a call that is strict or isn't is told of a source: that it needn't be text, or is; or the first line that isn't
abbrev pub TellsUnsound : Bool → Encoding → List ℕ → Option ℕ → Type 0
TellsUnsound strict e source None = strict ≡ true → HasSoundBytes e source
TellsUnsound strict e source (Some number) = (strict ≡ true) × IsFirstUnsound e source number

-- The source needn't be text, or is, and this holds; or the call was refused for the first line that isn't.
abbrev pub WithSource : Bool → Encoding → List ℕ → Type 0 → Crossing → Type 0
WithSource strict e source Holds x =
    (TellsUnsound strict e source None × Holds)
    ⊎ ((number : ℕ) × TellsUnsound strict e source (Some number) × RefusesCall NotText number x)

-- ---- What items are asked for.

-- How the texts of comments are given: 4 is resolved, 64 is as they stand, and so they are with spans, which are 256.
abbrev pub comments_in : ℕ → Texts
comments_in n = if n / 4 % 2 == 1 then Read else (if (n / 64 % 2 == 1) || (n / 256 % 2 == 1) then Raw else PassedOver)

-- and those of pairs: 128 is as they stand
abbrev pub pairs_in : ℕ → Texts
pairs_in n = if n / 128 % 2 == 1 then Raw else Read

-- 32 is text alone, 256 is spans, and 512 is a part
abbrev pub asked_in : ℕ → Asked
asked_in n =
    record { comments = comments_in n; pairs = pairs_in n; is_strict = n / 32 % 2 == 1; has_spans = n / 256 % 2 == 1; is_part = n / 512 == 1 }

-- Items don't take 1, 2, 8, 16, nor 1024 and above; 4 and 64 exclude each other, and so do 256 and 512.
abbrev pub are_taken : ℕ → Bool
are_taken n =
    nat_lt n 1024 && ((n % 4 == 0) && ((n / 8 % 4 == 0) && (not ((n / 4 % 2 == 1) && (n / 64 % 2 == 1)) && not (n / 256 == 3))))

abbrev pub asked_at : ℕ → Option Asked
asked_at n = if are_taken n then Some (asked_in n) else None

-- Items take the flags, and this holds of what they ask for; or they don't, and the call was refused.
abbrev pub WithAsked : ℕ → (Asked → Type 0) → Crossing → Type 0
WithAsked n Holds x = ((a : Asked) × (asked_at n ≡ Some a) × Holds a) ⊎ (asked_at n ≡ None) × RefusesCall UnknownFlags 0 x

-- ---- Texts.

-- The bytes are UTF-8, and this holds of their characters; or they aren't, and the call was refused.
abbrev pub WithText : List ℕ → (List ℕ → Type 0) → Crossing → Type 0
WithText bytes Holds x = (IsUtf8 bytes × Holds (chars bytes)) ⊎ (¬ IsUtf8 bytes) × RefusesCall NotUtf8 0 x

-- ---- Labels.

-- the number of an encoding, and of none
abbrev pub encoding_or_none : Option Encoding → ℕ
encoding_or_none None = 255
encoding_or_none (Some e) = encoding_number e

-- This is the number of the encoding that the label means. Bytes that aren't UTF-8 mean none.
abbrev pub NumbersLabel : List ℕ → ℕ → Type 0
NumbersLabel label number =
    (IsUtf8 label × ((e : Option Encoding) × IsLabelled label e × (number ≡ encoding_or_none e)))
    ⊎ (¬ IsUtf8 label) × (number ≡ encoding_or_none None)
