-- What is found in a source, one logical line after another: its pairs and its malformed escapes; and what takes them.
use Rattle.std.specs.Prelude.{◌≡◌, ℕ, if◌then◌else◌, List, [], ◌∷◌, ◌++◌, Option, Some, None, Result, Ok, Err}
use Rattle.properties_format.specs.{Encoding.Encoding, Lines.end, Lines.is_comment_line, Found.AreFound, Escapes.Meaning, Escapes.means, Escapes.breaks}
use Rattle.properties_format.specs.{Split.Logical, Computed.Escapes.meaning_of, Computed.Items.outcome_of, Computed.Split.split_of}
use Rattle.properties_format.specs.Items.{comment, pair, Content, Entry, item, Outcome, ignored, given, broken}
use Rattle.properties_items.specs.{Errors.malformed_kind, Errors.IsBareError, declared.error.PropertiesError.PropertiesError}
use Rattle.properties_items.specs.declared.findings.MalformedEscape.{MalformedEscape}
use Rattle.properties_items.specs.declared.error.ErrorKind.TheVariants as kind
use Rattle.java_properties.specs.Findings.{KeyPlace}
use Rattle.properties_tables.specs.{Sources.first_in_pair, Sources.IsSound, Sources.IsUnsound, declared.error.Failure.Failure}

-- ---- findings

-- a pair, with the number of its first line; or the first malformed escape of a logical line, with the line
pub data Finding : Type 0 where
  found_pair : ℕ → List ℕ → List ℕ → Finding
  found_escape : MalformedEscape → List ℕ → Finding

-- what a logical line with this number is, if it is a pair or malformed
abbrev pub content_finding : ℕ → Content → Option Finding
content_finding number (pair key value) = Some (found_pair number key value)
content_finding number (comment text) = None

abbrev pub outcome_finding : ℕ → List ℕ → Outcome → Option Finding
outcome_finding number x ignored = None
outcome_finding number x (given content) = content_finding number content
outcome_finding number x (broken kind) = Some (found_escape (record { line_number = number; kind = malformed_kind kind; in_comment = is_comment_line x }) x)

-- that, before what the lines after it are
abbrev pub before_some : {A : Type 0} → Option A → List A → List A
before_some None rest = rest
before_some (Some x) rest = x ∷ rest

abbrev pub findings_from : ℕ → List ℕ → Outcome → List Finding → List Finding
findings_from number x outcome rest = before_some (outcome_finding number x outcome) rest

-- These are the pairs and the malformed escapes of a source, in the order of its lines.
abbrev pub AreFindings : Encoding → List ℕ → List Finding → Type 0
AreFindings e source findings = AreFound findings_from e source end findings

-- ---- what is among findings

-- the pairs
abbrev pub found_pairs : List Finding → List Entry
found_pairs [] = []
found_pairs (found_pair number key value ∷ rest) = item number (pair key value) ∷ found_pairs rest
found_pairs (found_escape escape x ∷ rest) = found_pairs rest

-- the key of a pair, if it is valid
abbrev pub key_meant : Meaning → Option (List ℕ)
key_meant (means key) = Some key
key_meant (breaks kind) = None

abbrev pub sound_key : Logical → Option (List ℕ)
sound_key (Logical.pair raw_key raw_value) = key_meant (meaning_of raw_key)
sound_key other = None

-- a pair with a valid key before others
abbrev pub with_key : ℕ → Option (List ℕ) → List Entry → List Entry
with_key number None rest = rest
with_key number (Some key) rest = item number (pair key []) ∷ rest

-- the pairs, and those that have a valid key, but a malformed value
abbrev pub keyed_pairs : List Finding → List Entry
keyed_pairs [] = []
keyed_pairs (found_pair number key value ∷ rest) = item number (pair key value) ∷ keyed_pairs rest
keyed_pairs (found_escape escape x ∷ rest) =
    if escape.in_comment then keyed_pairs rest else with_key escape.line_number (sound_key (split_of x)) (keyed_pairs rest)

-- the keys of the pairs
abbrev pub keys_among : List Finding → List KeyPlace
keys_among [] = []
keys_among (found_pair number key value ∷ rest) = record { number = number; key = key } ∷ keys_among rest
keys_among (found_escape escape x ∷ rest) = keys_among rest

-- the malformed escapes
abbrev pub escapes_among : List Finding → List MalformedEscape
escapes_among [] = []
escapes_among (found_pair number key value ∷ rest) = escapes_among rest
escapes_among (found_escape escape x ∷ rest) = escape ∷ escapes_among rest

-- ---- what takes them

module _ {T : Type 0} (Took : T → List Finding → T → Type 0) where
  -- It took some, since it was something.
  abbrev pub TookSome : T → Type 0
  TookSome taker = (first : T) × (findings : List Finding) × Took first findings taker

  -- It takes one more.
  abbrev pub Takes : T → Finding → T → Type 0
  Takes old finding new = (first : T) (findings : List Finding) → Took first findings old → Took first (findings ++ finding ∷ []) new

  -- It takes one more, if there is one.
  abbrev pub TakesSome : T → Option Finding → T → Type 0
  TakesSome old None new = new ≡ old
  TakesSome old (Some finding) new = Takes old finding new

  -- It takes what a logical line is; or memory ran out.
  abbrev pub TakesLine : ℕ → List ℕ → T → Result Unit PropertiesError → T → Type 0
  TakesLine number x old (Ok done) new = TakesSome old (outcome_finding number x (outcome_of x)) new
  TakesLine number x old (Err error) new = IsBareError kind.Memory error

  -- What having it take a source returns. It fails only if memory runs out.
  abbrev pub TakesAll : T → Encoding → List ℕ → Result T PropertiesError → Type 0
  TakesAll old e source (Ok new) = (findings : List Finding) × AreFindings e source findings × Took old findings new
  TakesAll old e source (Err error) = IsBareError kind.Memory error

  -- It took these, and this is the first malformed escape of a pair among them.
  abbrev pub TookSound : T → List Finding → T → Option MalformedEscape → Type 0
  TookSound old findings new malformed = Took old findings new × (malformed ≡ first_in_pair (escapes_among findings))

  -- What having it take a source returns that is refused if it isn't sound.
  abbrev pub TakesSound : T → Encoding → List ℕ → Result T Failure → Type 0
  TakesSound old e source (Ok new) =
      IsSound e source × ((findings : List Finding) × AreFindings e source findings × (first_in_pair (escapes_among findings) ≡ None) × Took old findings new)
  TakesSound old e source (Err failure) = IsUnsound e source failure
