-- The settings of a writer, and which of them are good.
-- Source: java.util.Properties of Java SE 7, store (a comment begins with a number sign; an equals sign separates a key
-- from its value), and load (which comments and separators are read back).
use Rattle.std.specs.Prelude.{◌≡◌, ◌≢◌, ◌⊎◌, ℕ, Bool, true, false, List, [], ◌∷◌, ◌++◌}
use Rattle.properties_format.specs.Encoding.{Encoding, Repertoire, repertoire}
use Rattle.properties_format.specs.Lines.{HoldsNoLineEnding}
use Rattle.properties_format.specs.Split.{AreBlanks}
use Rattle.properties_format.specs.Text.{LineEnding, lf, space, number_sign, equals_sign, is_comment_sign, is_separator}

-- what comes before a comment's text, what separates a key from its value, what ends a line, whether ASCII-only output
-- is on, which escapes every character above U+007F, and whether readable output is on, which prints a value as people
-- write it
pub record Settings : Type 0 where
  pub comment_prefix : List ℕ
  pub kv_separator : List ℕ
  pub line_ending : LineEnding
  pub ascii_only : Bool
  pub readable : Bool

-- the settings of a new writer: a number sign and a space, an equals sign, LF, and ASCII-only and
-- readable output off
abbrev pub default_settings : Settings
default_settings = record { comment_prefix = number_sign ∷ space ∷ []; kv_separator = equals_sign ∷ []; line_ending = lf; ascii_only = false; readable = false }

-- A good comment prefix: any number of blanks, a comment sign, and any text without a line ending.
pub record IsGoodPrefix (prefix : List ℕ) : Type 0 where
  pub indent : List ℕ
  pub sign : ℕ
  pub tail : List ℕ
  pub division : prefix ≡ indent ++ (sign ∷ tail)
  pub indented : AreBlanks indent
  pub signed : is_comment_sign sign ≡ true
  pub one_line : HoldsNoLineEnding tail

-- A separator with a sign: any number of blanks, one colon or equals sign, any number of blanks.
pub record IsSignedSeparator (separator : List ℕ) : Type 0 where
  pub before : List ℕ
  pub sign : ℕ
  pub after : List ℕ
  pub division : separator ≡ before ++ (sign ∷ after)
  pub blank_before : AreBlanks before
  pub signed : is_separator sign ≡ true
  pub blank_after : AreBlanks after

-- A separator of blanks only, at least one.
pub record IsBlankSeparator (separator : List ℕ) : Type 0 where
  pub blank : AreBlanks separator
  pub some : separator ≢ []

-- A good separator has a sign or is blanks only.
abbrev pub IsGoodSeparator : List ℕ → Type 0
IsGoodSeparator separator = IsSignedSeparator separator ⊎ IsBlankSeparator separator

-- what a writer with these settings may write unescaped
abbrev pub repertoire_of : Encoding → Settings → Repertoire
repertoire_of e s = repertoire e s.ascii_only
