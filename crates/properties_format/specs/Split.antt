-- What a logical line is: blank, a comment, or a key and a value. Escapes are not resolved here. A line feed or a
-- carriage return, which no line contains, has no special meaning here.
-- Source: java.util.Properties of Java SE 7, load.
use Rattle.std.specs.Prelude.{◌≡◌, ◌≢◌, ◌==◌, ℕ, Bool, true, false, List, [], ◌∷◌, ◌++◌}
use Rattle.properties_format.specs.Text.{backslash, is_blank, is_comment_sign, is_separator, begins}

-- What a line is: blank; a comment with its text; or a pair with its key and its value.
pub data Logical : Type 0 where
  blank : Logical
  comment : List ℕ → Logical
  pair : List ℕ → List ℕ → Logical

-- All characters of the text are blanks.
abbrev pub AreBlanks : List ℕ → Type 0
AreBlanks [] = Unit {0}
AreBlanks (c ∷ cs) = (is_blank c ≡ true) × AreBlanks cs

-- whether the text ends with a character of this kind
abbrev pub ends : (ℕ → Bool) → List ℕ → Bool
ends kind [] = false
ends kind (c ∷ []) = kind c
ends kind (c ∷ d ∷ cs) = ends kind (d ∷ cs)

-- The text is blanks, the core, and blanks. The core neither begins nor ends with a blank; if the core is empty, all
-- blanks come before it.
pub record IsTrimmed (text core : List ℕ) : Type 0 where
  pub before : List ℕ
  pub after : List ℕ
  pub whole : text ≡ before ++ (core ++ after)
  pub before_blank : AreBlanks before
  pub after_blank : AreBlanks after
  pub begins_full : begins is_blank core ≡ false
  pub ends_full : ends is_blank core ≡ false
  pub empty_last : core ≡ [] → after ≡ []

-- The line is blanks, a comment sign, and a rest. The core of the rest is the comment's text.
pub record IsComment (line text : List ℕ) : Type 0 where
  pub indent : List ℕ
  pub sign : ℕ
  pub rest : List ℕ
  pub whole : line ≡ indent ++ (sign ∷ rest)
  pub indent_blank : AreBlanks indent
  pub is_sign : is_comment_sign sign ≡ true
  pub trimmed : IsTrimmed rest text

-- The units of a key: a character that is itself; a backslash and the character after it; or a backslash at the end of
-- the line.
pub data KeyUnit : Type 0 where
  plain : ℕ → KeyUnit
  escaped : ℕ → KeyUnit
  last : KeyUnit

-- the text of a unit
abbrev pub key_unit_text : KeyUnit → List ℕ
key_unit_text (plain c) = c ∷ []
key_unit_text (escaped c) = backslash ∷ c ∷ []
key_unit_text last = backslash ∷ []

-- the texts of the units, one after another, and then the rest of the line
abbrev pub key_units_before : List KeyUnit → List ℕ → List ℕ
key_units_before [] rest = rest
key_units_before (u ∷ us) rest = key_unit_text u ++ key_units_before us rest

-- The unit may come before this rest of the line. A character that is itself neither escapes nor separates, and nothing
-- follows a backslash at the end.
abbrev pub IsKeyUnit : KeyUnit → List ℕ → Type 0
IsKeyUnit (plain c) rest = ((c == backslash) ≡ false) × (is_blank c ≡ false) × (is_separator c ≡ false)
IsKeyUnit (escaped c) rest = Unit {0}
IsKeyUnit last rest = rest ≡ []

-- Each unit may come before what follows it.
abbrev pub AreKeyUnits : List KeyUnit → List ℕ → Type 0
AreKeyUnits [] rest = Unit {0}
AreKeyUnits (u ∷ us) rest = IsKeyUnit u (key_units_before us rest) × AreKeyUnits us rest

-- The text is a sequence of units, each of which may come before what follows it in the line.
pub record IsKey (key rest : List ℕ) : Type 0 where
  pub units : List KeyUnit
  pub whole : key ≡ key_units_before units []
  pub each : AreKeyUnits units rest

-- What separates the key from this value: nothing, and then the value is empty; blanks; or a separator with any blanks
-- around it.
pub data IsBetween (between value : List ℕ) : Type 0 where
  nothing : between ≡ [] → value ≡ [] → IsBetween between value
  blanks : between ≢ [] → AreBlanks between → begins is_blank value ≡ false → begins is_separator value ≡ false → IsBetween between value
  separator : (before : List ℕ) (sign : ℕ) (after : List ℕ) → between ≡ before ++ (sign ∷ after) → AreBlanks before
      → is_separator sign ≡ true → AreBlanks after → begins is_blank value ≡ false → IsBetween between value

-- The line is blanks, a key, what separates it from its value, and the value. After the blanks, the line isn't empty
-- and doesn't begin with a comment sign.
pub record IsPair (line key value : List ℕ) : Type 0 where
  pub indent : List ℕ
  pub between : List ℕ
  pub whole : line ≡ indent ++ (key ++ (between ++ value))
  pub indent_blank : AreBlanks indent
  pub not_empty : key ++ (between ++ value) ≢ []
  pub begins_full : begins is_blank (key ++ (between ++ value)) ≡ false
  pub no_comment : begins is_comment_sign (key ++ (between ++ value)) ≡ false
  pub is_key : IsKey key (between ++ value)
  pub is_between : IsBetween between value

-- what a logical line is
abbrev pub IsSplit : List ℕ → Logical → Type 0
IsSplit line blank = AreBlanks line
IsSplit line (comment text) = IsComment line text
IsSplit line (pair key value) = IsPair line key value
