-- When a source that is held whole is refused.
use Rattle.std.specs.Prelude.{◌≡◌, ℕ, Bool, true, false, if◌then◌else◌, List, [], ◌∷◌, ◌++◌, Option, Some, None, Result, Ok, Err}
use Rattle.properties_format.specs.Edits.{AreInComments, EscapesAre}
use Rattle.properties_format.specs.Encoding.{Encoding, byte_order_mark}
use Rattle.properties_format.specs.Found as format
use Rattle.properties_format.specs.Found.{AreMalformedEscapes}
use Rattle.java_properties.specs.Errors.{IsBareError}
use Rattle.java_properties.specs.Findings.{escape_record}
use Rattle.properties_items.specs.declared.error.ErrorKind.TheVariants as kind
use Rattle.properties_items.specs.declared.findings.MalformedEscape.{MalformedEscape}
use Rattle.properties_tables.specs.Lines.{is_utf_16, starts_with_bom, starts_with_utf_32_mark, AreFlawedLines, IsFirstFlawed}
use Rattle.properties_tables.specs.declared.error.Failure.{Failure}
use Rattle.properties_tables.specs.declared.error.Failure.TheVariants.{Utf32Mark, HoldsZero, NotUtf8, NotUtf8ByMark, NotUtf16, Malformed, Input}
use Rattle.properties_tables.specs.declared.ill_formed.Flaw.TheVariants.{IllFormed, Zero}

-- ---- refusals for bytes

-- The source doesn't begin with the byte order mark of UTF-32, no line has a byte 0, if UTF-8 is in force without a byte
-- order mark, and none is ill-formed.
pub record HasSoundBytes (e : Encoding) (source : List ℕ) : Type 0 where
  pub not_utf_32 : starts_with_utf_32_mark source ≡ false
  pub without_zeros : AreFlawedLines Zero e source []
  pub well_formed : AreFlawedLines IllFormed e source []

-- This is the first ill-formed line, no line has such a byte 0, and there is no such mark.
pub record IsFirstIllFormed (e : Encoding) (source : List ℕ) (number : ℕ) : Type 0 where
  pub not_utf_32 : starts_with_utf_32_mark source ≡ false
  pub without_zeros : AreFlawedLines Zero e source []
  pub first : IsFirstFlawed IllFormed e source (Some number)

-- whether UTF-16 is in force
abbrev pub is_in_utf_16 : Encoding → List ℕ → Bool
is_in_utf_16 e source = is_utf_16 (byte_order_mark e source).encoding

-- Why a source is refused for its bytes: the byte order mark of UTF-32; where there is none, its first line with a byte 0,
-- if no byte order mark says that it is UTF-8; where there is none, its first ill-formed line.
abbrev pub HasUnsoundBytes : Encoding → List ℕ → Failure → Type 0
HasUnsoundBytes e source Utf32Mark = starts_with_utf_32_mark source ≡ true
HasUnsoundBytes e source (HoldsZero number) = IsFirstFlawed Zero e source (Some number) × (starts_with_utf_32_mark source ≡ false)
HasUnsoundBytes e source (NotUtf8 number) = IsFirstIllFormed e source number × (is_in_utf_16 e source ≡ false) × (starts_with_bom source ≡ false)
HasUnsoundBytes e source (NotUtf8ByMark number) = IsFirstIllFormed e source number × (is_in_utf_16 e source ≡ false) × (starts_with_bom source ≡ true)
HasUnsoundBytes e source (NotUtf16 number) = IsFirstIllFormed e source number × (is_in_utf_16 e source ≡ true)
HasUnsoundBytes e source other = ⊥

abbrev pub RefusesBytes : Encoding → List ℕ → Result Unit Failure → Type 0
RefusesBytes e source (Ok done) = HasSoundBytes e source
RefusesBytes e source (Err failure) = HasUnsoundBytes e source failure

-- ---- refusals

-- the first of these escapes that isn't in a comment
abbrev pub first_in_pair : List MalformedEscape → Option MalformedEscape
first_in_pair [] = None
first_in_pair (escape ∷ escapes) = if escape.in_comment then first_in_pair escapes else Some escape

-- Its bytes are sound, and each malformed escape is in a comment.
pub record IsSound (e : Encoding) (source : List ℕ) : Type 0 where
  pub bytes : HasSoundBytes e source
  pub in_comments : EscapesAre e source AreInComments

-- This is the first malformed escape of a pair, and the bytes are sound.
pub record IsFirstMalformedEscape (e : Encoding) (source : List ℕ) (found : MalformedEscape) : Type 0 where
  pub bytes : HasSoundBytes e source
  pub before : List format.MalformedEscape
  pub escape : format.MalformedEscape
  pub after : List format.MalformedEscape
  pub are : AreMalformedEscapes e source (before ++ escape ∷ after)
  pub passed : AreInComments before
  pub in_pair : escape.in_comment ≡ false
  pub is : found ≡ escape_record escape

-- Why a source is refused, or not even looked through: its bytes; where these are sound, the first malformed escape of a
-- pair; or memory ran out.
abbrev pub IsUnsound : Encoding → List ℕ → Failure → Type 0
IsUnsound e source (Malformed escape) = IsFirstMalformedEscape e source escape
IsUnsound e source (Input error) = IsBareError kind.Memory error
IsUnsound e source other = HasUnsoundBytes e source other

abbrev pub RefusesUnsound : Encoding → List ℕ → Result Unit Failure → Type 0
RefusesUnsound e source (Ok done) = IsSound e source
RefusesUnsound e source (Err failure) = IsUnsound e source failure
