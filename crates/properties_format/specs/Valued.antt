-- A source with the value of a key set in place: the last pair with the key keeps its bytes up to its value, and its
-- line ending.
-- Source: java.util.Properties of Java SE 7, setProperty and load (a later pair takes the place of an earlier one; how
-- a key, its separator and its value are distinguished).
use Rattle.std.specs.Prelude.{◌≡◌, ◌⊎◌, ℕ, ◌&&◌, Bool, true, false, if◌then◌else◌, List, [], ◌∷◌, ◌++◌, None, unwrap_or}
use Rattle.properties_format.specs.Text.{LineEnding, lf, line_ending_text, equals_sign, is_blank, is_blanks, is_empty}
use Rattle.properties_format.specs.Encoding.{Encoding, byte_order_mark, Repertoire, repertoire_in_force}
use Rattle.properties_format.specs.Cut.{IsDecodedLine}
use Rattle.properties_format.specs.Lines.{is_open, joined}
use Rattle.properties_format.specs.Split.{AreBlanks, IsPair}
use Rattle.properties_format.specs.Items.{pair, given, IsOutcome}
use Rattle.properties_format.specs.Printing.{printed_key, printed_value, encoded_text}
use Rattle.properties_format.specs.Body.{HeldLine, AreGroupsOf, HasKey, NoneHasKey, as_lines, held_in, group_bytes, groups_bytes, ending_bytes, last_ending}
use Rattle.properties_format.specs.Edited.{bom_of, final_group, EditResult, IsEditResult, separation_by}

-- ---- How a value is spelt.

-- what follows the front of a pair: the value, preceded by an equals sign if nothing separated the key from its value
abbrev pub value_text : Repertoire → List ℕ → List ℕ → List ℕ
value_text r [] value = equals_sign ∷ printed_value r false value
value_text r (c ∷ cs) value = printed_value r (is_blanks (c ∷ cs)) value

-- ---- A pair gets another value.

-- The front of a pair: whole lines of its group, and the beginning of the line after them, the head. It extends to the
-- last character that separates the key from its value, or to the end of the key if nothing does. The head isn't blank,
-- and doesn't end in an open backslash.
pub record IsFrontOf (e : Encoding) (group : List HeldLine) (between front : List ℕ) : Type 0 where
  pub kept : List HeldLine
  pub line : HeldLine
  pub more : List HeldLine
  pub division : group ≡ kept ++ line ∷ more
  pub head : List ℕ
  pub tail : List ℕ
  pub head_text : List ℕ
  pub tail_text : List ℕ
  pub cut : line.bytes ≡ head ++ tail
  pub cut_text : line.text ≡ head_text ++ tail_text
  pub is_head : IsDecodedLine e head head_text
  pub is_tail : IsDecodedLine e tail tail_text
  pub not_blank : ¬ (AreBlanks head_text)
  pub closed : is_open head_text ≡ false
  pub key : List ℕ
  pub value : List ℕ
  pub is_pair : IsPair (joined (as_lines group)) key value
  pub is_between : between ≡ is_pair.between
  pub up_to : joined (as_lines (kept ++ record { bytes = head; text = head_text; ending = None } ∷ [])) ≡ is_pair.indent ++ (key ++ between)
  pub bytes : front ≡ group_bytes kept ++ head

-- The group is a pair with this key and this value.
abbrev pub HoldsPair : List ℕ → List ℕ → List HeldLine → Type 0
HoldsPair key value group = IsOutcome (joined (as_lines group)) (given (pair key value))

-- The last pair with the key already has the value, and no byte changes.
pub record IsThere (groups : List (List HeldLine)) (key value result : List ℕ) : Type 0 where
  pub before : List (List HeldLine)
  pub group : List HeldLine
  pub after : List (List HeldLine)
  pub division : groups ≡ before ++ group ∷ after
  pub has_pair : HoldsPair key value group
  pub no_later : NoneHasKey key after
  pub bytes : result ≡ groups_bytes groups

-- The last pair with the key has another value. What `value_text` prints replaces everything between the
-- pair's front and its line ending.
pub record IsRevalued (r : Repertoire) (groups : List (List HeldLine)) (key value result : List ℕ) : Type 0 where
  pub before : List (List HeldLine)
  pub group : List HeldLine
  pub after : List (List HeldLine)
  pub division : groups ≡ before ++ group ∷ after
  pub has_key : HasKey key group
  pub other_value : ¬ (HoldsPair key value group)
  pub no_later : NoneHasKey key after
  pub between : List ℕ
  pub front : List ℕ
  pub is_front : IsFrontOf r.encoding group between front
  pub bytes : result
      ≡ groups_bytes before ++ (front ++ (encoded_text r.encoding (value_text r between value) ++ (ending_bytes (last_ending group) ++ groups_bytes after)))

-- ---- A new pair.

-- the text with each run of blanks shortened to its first blank; the flag says whether a blank comes before the text
abbrev pub shortened_after : Bool → List ℕ → List ℕ
shortened_after was_blank [] = []
shortened_after was_blank (c ∷ cs) = if was_blank && is_blank c then shortened_after true cs else c ∷ shortened_after (is_blank c) cs

-- the separator of a new pair with this key, given what separates another pair's key from its value: an equals sign if
-- nothing does, or if only blanks do and the key is empty; otherwise that text with its runs of blanks shortened
abbrev pub separator_after : List ℕ → List ℕ → List ℕ
separator_after key [] = equals_sign ∷ []
separator_after key (c ∷ cs) = if is_empty key && is_blanks (c ∷ cs) then equals_sign ∷ [] else shortened_after false (c ∷ cs)

-- None of the groups is a pair.
abbrev pub NoPairs : List (List HeldLine) → Type 0
NoPairs [] = Unit {0}
NoPairs (g ∷ gs) = ((key value : List ℕ) → ¬ (IsPair (joined (as_lines g)) key value)) × NoPairs gs

-- The separator is taken from the last pair, whatever its key: see `separator_after`.
pub record IsLastSeparator (groups : List (List HeldLine)) (new_key separator : List ℕ) : Type 0 where
  pub before : List (List HeldLine)
  pub group : List HeldLine
  pub after : List (List HeldLine)
  pub division : groups ≡ before ++ group ∷ after
  pub key : List ℕ
  pub value : List ℕ
  pub is_pair : IsPair (joined (as_lines group)) key value
  pub no_later : NoPairs after
  pub separator_is : separator ≡ separator_after new_key is_pair.between

-- The separator of a new pair: taken from the last pair, or an equals sign if there is no pair.
abbrev pub IsNewSeparator : List (List HeldLine) → List ℕ → List ℕ → Type 0
IsNewSeparator groups key separator = IsLastSeparator groups key separator ⊎ NoPairs groups × (separator ≡ equals_sign ∷ [])

-- the last line ending among these lines, or this one if there is none
abbrev pub ending_among : LineEnding → List HeldLine → LineEnding
ending_among by [] = by
ending_among by (h ∷ hs) = ending_among (unwrap_or h.ending by) hs

-- the last line ending among these groups, or an LF if there is none
abbrev pub ending_in : List (List HeldLine) → List ℕ
ending_in groups = line_ending_text (ending_among lf (held_in groups))

-- the bytes of a new pair after these bytes, with its line ending
abbrev pub new_pair_bytes : Repertoire → List ℕ → List ℕ → List ℕ → List ℕ → List ℕ → List ℕ
new_pair_bytes r front key separator value ending =
    encoded_text r.encoding (printed_key r (is_empty front) key ++ (separator ++ printed_value r (is_blanks separator) value)) ++ ending

-- No pair has the key, and a new pair is added at the end.
pub record IsAdded (r : Repertoire) (groups : List (List HeldLine)) (key value result : List ℕ) : Type 0 where
  pub no_pair : NoneHasKey key groups
  pub separator : List ℕ
  pub is_separator : IsNewSeparator groups key separator
  pub bytes : let front : List ℕ = groups_bytes groups ++ separation_by (ending_in groups) (final_group groups) in
      result ≡ front ++ new_pair_bytes r front key separator value (ending_in groups)

-- ---- The value of a key is set.

-- the body of these groups, with the value set
abbrev pub IsBodyValued : Repertoire → List (List HeldLine) → List ℕ → List ℕ → List ℕ → Type 0
IsBodyValued r groups key value body = IsThere groups key value body ⊎ (IsRevalued r groups key value body ⊎ IsAdded r groups key value body)

-- The result is the source with the value of the key set. The byte order mark stays. In the body, nothing changes if
-- the last pair with the key has the value already; otherwise that pair gets the value, or a new pair is added if no
-- pair has the key. The repertoire has the encoding that is requested, and says what may stand unescaped in what is put
-- in.
pub record IsValueSet (r : Repertoire) (source key value result : List ℕ) : Type 0 where
  pub groups : List (List HeldLine)
  pub held : AreGroupsOf (byte_order_mark r.encoding source).encoding (byte_order_mark r.encoding source).body groups
  pub body : List ℕ
  pub edited : IsBodyValued (repertoire_in_force r source) groups key value body
  pub whole : result ≡ bom_of source ++ body

-- the results of setting a value
abbrev pub IsSetValueResult : Repertoire → List ℕ → List ℕ → List ℕ → EditResult → Type 0
IsSetValueResult r source key value result = IsEditResult r.encoding source (IsValueSet r source key value) result

-- ---- What stays unchanged.

-- The bytes of the groups before the value of the last pair with the key, and those from its line ending on.
pub record AreAroundValue (e : Encoding) (groups : List (List HeldLine)) (key front back : List ℕ) : Type 0 where
  pub before : List (List HeldLine)
  pub group : List HeldLine
  pub after : List (List HeldLine)
  pub division : groups ≡ before ++ group ∷ after
  pub has_key : HasKey key group
  pub no_later : NoneHasKey key after
  pub between : List ℕ
  pub pair_front : List ℕ
  pub is_front : IsFrontOf e group between pair_front
  pub front_bytes : front ≡ groups_bytes before ++ pair_front
  pub back_bytes : back ≡ ending_bytes (last_ending group) ++ groups_bytes after

-- The result is the source with other bytes instead of that value.
pub record IsAlikeAround (e : Encoding) (source : List ℕ) (groups : List (List HeldLine)) (key result : List ℕ) : Type 0 where
  pub front : List ℕ
  pub back : List ℕ
  pub around : AreAroundValue e groups key front back
  pub old : List ℕ
  pub new : List ℕ
  pub source_is : source ≡ bom_of source ++ (front ++ (old ++ back))
  pub result_is : result ≡ bom_of source ++ (front ++ (new ++ back))

-- No byte outside the value of the last pair with the key changes. If no pair has the key, no byte of the source
-- changes.
abbrev pub KeepsFront : Encoding → List ℕ → List ℕ → List ℕ → Type 0
KeepsFront e source key result =
    (groups : List (List HeldLine)) × AreGroupsOf (byte_order_mark e source).encoding (byte_order_mark e source).body groups
    × (IsAlikeAround (byte_order_mark e source).encoding source groups key result ⊎ NoneHasKey key groups × (more : List ℕ) × (result ≡ source ++ more))
