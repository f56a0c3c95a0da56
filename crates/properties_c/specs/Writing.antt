-- What the export that writes gives.
use Rattle.std.specs.Prelude.{◌≡◌, ◌⊎◌, ℕ, Bool, true, false, not, List, map, if◌then◌else◌}
use Rattle.std.specs.List.{list_any}
use Rattle.properties_format.specs.Encoding.{Encoding, output_encoding}
use Rattle.properties_format.specs.Items.{Content}
use Rattle.properties_format.specs.Settings.{Settings, default_settings, IsGoodPrefix, IsGoodSeparator}
use Rattle.properties_format.specs.Text.{LineEnding, cr, lf, crlf, is_empty}
use Rattle.properties_format.specs.Writing.{is_accepted, wrote}
use Rattle.java_properties.specs.PropertiesWriter.{call_of}
use Rattle.properties_c.specs.Crossing.{Crossing, Delivers, RefusesCall}
use Rattle.properties_c.specs.Inputs.{InEncoding, WithFlags, WithText, for_lines}
use Rattle.properties_c.specs.Packed.{lines, WithList}
use Rattle.properties_c.specs.declared.encoding.Flags.{Flags}
use Rattle.properties_c.specs.declared.status.Status.TheVariants.{Done, NoMemory, BadPrefix, BadSeparator, EmptyKey}

-- a text, or another one in the place of an empty text
abbrev pub given_or : List ℕ → List ℕ → List ℕ
given_or text other = if is_empty text then other else text

-- what ends lines, as the flags ask for it
abbrev pub flag_ending : Flags → LineEnding
flag_ending f = if f.crlf then crlf else (if f.cr then cr else lf)

-- the settings that a call asks for: a prefix or a separator without characters is that of a new writer
abbrev pub settings_for : Flags → List ℕ → List ℕ → Settings
settings_for f prefix separator = record {
  comment_prefix = given_or prefix default_settings.comment_prefix;
  kv_separator = given_or separator default_settings.kv_separator;
  line_ending = flag_ending f;
  ascii_only = f.ascii_only;
  readable = f.readable;
}

-- The prefix and the separator are good.
pub record AreGood (s : Settings) : Type 0 where
  pub prefix : IsGoodPrefix s.comment_prefix
  pub separator : IsGoodSeparator s.kv_separator

-- whether one of these lines is a pair that is not accepted: its key is empty and the separator is blanks only
abbrev pub has_refused : Settings → List Content → Bool
has_refused s contents = list_any (λ content. not (is_accepted s (call_of content))) contents

-- how many lines were written before those of a call, as far as it matters
abbrev pub lines_before : Bool → ℕ
lines_before goes_on = if goes_on then 1 else 0

-- The lines were written with these settings, after this number of lines.
pub record GivesLines (e : Encoding) (s : Settings) (before : ℕ) (contents : List Content) (x : Crossing) : Type 0 where
  pub good : AreGood s
  pub accepted : has_refused s contents ≡ false
  pub given : Delivers (wrote (output_encoding e) s before (map call_of contents)) Done 0 x

-- The lines were written, or refused: because of the prefix, the separator or an empty key, of which the first one
-- counts, or because memory ran out.
abbrev pub WritesLines : Encoding → Settings → ℕ → List Content → Crossing → Type 0
WritesLines e s before contents x =
    GivesLines e s before contents x
    ⊎ ((IsGoodPrefix s.comment_prefix → ⊥) × RefusesCall BadPrefix 0 x
    ⊎ (IsGoodPrefix s.comment_prefix × (IsGoodSeparator s.kv_separator → ⊥) × RefusesCall BadSeparator 0 x
    ⊎ (AreGood s × (has_refused s contents ≡ true) × RefusesCall EmptyKey 0 x ⊎ RefusesCall NoMemory 0 x)))

abbrev pub WritesAcross : List ℕ → ℕ → ℕ → List ℕ → List ℕ → Crossing → Type 0
WritesAcross list encoding flags prefix separator x =
    InEncoding encoding (λ e. WithFlags for_lines flags (λ f. WithText prefix (λ p. WithText separator (λ s. WithList lines list (λ contents. WritesLines e (settings_for f p s) (lines_before f.goes_on) contents x) x) x) x) x) x
