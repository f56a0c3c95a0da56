-- A source with a key set or removed: which of its bytes are replaced or left out, which are added, and which stay.
-- Source: java.util.Properties of Java SE 7, load (a later pair takes the place of an earlier one) and store (how a pair is written).
use Rattle.std.specs.Prelude.{◌≡◌, ◌⊎◌, ℕ, ◌&&◌, not, Bool, true, false, if◌then◌else◌, List, [], ◌∷◌, ◌++◌}
use Rattle.properties_format.specs.Text.{line_feed, equals_sign, lf, cr, line_ending_text, is_empty}
use Rattle.properties_format.specs.Encoding.{Encoding, windows_1252, utf_8, byte_order_mark, begins_with, begins_like_bom, utf_8_bom, utf_16be_bom, utf_16le_bom, Repertoire, repertoire_in_force}
use Rattle.properties_format.specs.Lines.{end, ends_in_cr, is_open, is_comment_line}
use Rattle.properties_format.specs.Escapes.{Malformed}
use Rattle.properties_format.specs.Items.{Entry, malformed, AreItems, IsItems}
use Rattle.properties_format.specs.Printing.{in_key_or_value, printed_characters, encoded_text, printed_key}
use Rattle.properties_format.specs.Body.{AreGroupsOf, HasKey, HeldLine, NoneHasKey, ending_bytes, group_bytes, groups_bytes, last_ending}

-- ---- A key is set.

-- the bytes of a pair without a line ending; at the front of a body, a key that begins like a byte order mark has its
-- first character escaped
abbrev pub pair_bytes : Repertoire → Bool → List ℕ → List ℕ → List ℕ
pair_bytes r first key value = encoded_text r.encoding (printed_key r first key ++ (equals_sign ∷ printed_characters r in_key_or_value value))

-- The last pair with the key is replaced by the printed pair, which keeps the line ending.
pub record IsReplaced (r : Repertoire) (groups : List (List HeldLine)) (key value result : List ℕ) : Type 0 where
  pub before : List (List HeldLine)
  pub group : List HeldLine
  pub after : List (List HeldLine)
  pub division : groups ≡ before ++ group ∷ after
  pub has_key : HasKey key group
  pub no_later : NoneHasKey key after
  pub bytes : result ≡ groups_bytes before ++ (pair_bytes r (is_empty (groups_bytes before)) key value ++ (ending_bytes (last_ending group) ++ groups_bytes after))

-- the last of the groups
abbrev pub final_group : List (List HeldLine) → List HeldLine
final_group [] = []
final_group (g ∷ []) = g
final_group (g ∷ h ∷ gs) = final_group (h ∷ gs)

-- whether the group is one line without bytes
abbrev pub is_empty_line : List HeldLine → Bool
is_empty_line (h ∷ []) = is_empty h.bytes
is_empty_line group = false

-- whether the last line of the group is open
abbrev pub is_last_open : List HeldLine → Bool
is_last_open [] = false
is_last_open (h ∷ []) = is_open h.text
is_last_open (h ∷ i ∷ hs) = is_last_open (i ∷ hs)

-- whether the group doesn't begin with a comment line and its last line is open, so that a line after it would continue
-- it
abbrev pub is_left_open : List HeldLine → Bool
is_left_open [] = false
is_left_open (h ∷ hs) = not (is_comment_line h.text) && is_last_open (h ∷ hs)

-- the line ending that is added: a CR if the source ends in one, so that there are two ends; otherwise an LF
abbrev pub added_ending : List ℕ → List ℕ
added_ending source = line_ending_text (if ends_in_cr source then cr else lf)

-- what separates a new pair from the last group, made of this line ending: nothing, one, or two, which also end a group
-- that is left open
abbrev pub separation_by : List ℕ → List HeldLine → List ℕ
separation_by ending group = if is_empty_line group then [] else (if is_left_open group then ending ++ ending else ending)

-- No pair has the key, and the printed pair is appended at the end, with an LF.
pub record IsAppended (r : Repertoire) (source : List ℕ) (groups : List (List HeldLine)) (key value result : List ℕ) : Type 0 where
  pub no_pair : NoneHasKey key groups
  pub bytes : let front : List ℕ = groups_bytes groups ++ separation_by (added_ending source) (final_group groups) in result ≡ front ++ (pair_bytes r (is_empty front) key value ++ line_feed ∷ [])

-- the byte order mark at the front of the bytes, or nothing if there is none
abbrev pub bom_of : List ℕ → List ℕ
bom_of b =
    if begins_with utf_8_bom b then utf_8_bom
    else (if begins_with utf_16be_bom b then utf_16be_bom else (if begins_with utf_16le_bom b then utf_16le_bom else []))

-- The result is the source with the key set to the value: the byte order mark stays, and in the body the last pair with
-- the key is replaced, or a new pair is appended if no pair has the key. The repertoire has the encoding that is
-- requested, and says what may stand unescaped in the pair.
pub record IsKeySet (r : Repertoire) (source key value result : List ℕ) : Type 0 where
  pub groups : List (List HeldLine)
  pub held : AreGroupsOf (byte_order_mark r.encoding source).encoding (byte_order_mark r.encoding source).body groups
  pub body : List ℕ
  pub edited : IsReplaced (repertoire_in_force r source) groups key value body ⊎ IsAppended (repertoire_in_force r source) source groups key value body
  pub whole : result ≡ bom_of source ++ body

-- ---- A key is removed.

-- the bytes of the groups that aren't pairs with the key, in order
abbrev pub IsWithout : List ℕ → List (List HeldLine) → List ℕ → Type 0
IsWithout key [] rest = rest ≡ []
IsWithout key (g ∷ gs) rest =
    HasKey key g × IsWithout key gs rest ⊎ ¬ (HasKey key g) × (more : List ℕ) × (rest ≡ group_bytes g ++ more) × IsWithout key gs more

-- an LF, if the rest would begin like a byte order mark and the source doesn't; otherwise nothing
abbrev pub guarding_lf : List ℕ → List ℕ → List ℕ
guarding_lf source rest = if not (begins_like_bom source) && begins_like_bom rest then line_feed ∷ [] else []

-- The result is the source without the key: the byte order mark and every group that isn't a pair with the key. An LF
-- comes before the groups if they would begin like a byte order mark and the source doesn't.
pub record IsKeyRemoved (e : Encoding) (source key result : List ℕ) : Type 0 where
  pub groups : List (List HeldLine)
  pub held : AreGroupsOf (byte_order_mark e source).encoding (byte_order_mark e source).body groups
  pub rest : List ℕ
  pub without : IsWithout key groups rest
  pub whole : result ≡ bom_of source ++ (guarding_lf source rest ++ rest)

-- ---- Which sources can be edited.

-- What an editor returns: the edited bytes; that the encoding in force can't be written; or the first malformed escape
-- of the source, with its line number.
pub data EditResult : Type 0 where
  edited : List ℕ → EditResult
  unsupported : EditResult
  unreadable : Malformed → ℕ → EditResult

-- whether the encoding can be edited
abbrev pub is_editable : Encoding → Bool
is_editable windows_1252 = true
is_editable utf_8 = true
is_editable e = false

-- The first malformed entry is of this kind and has this line number.
abbrev pub IsFirstMalformed : Malformed → ℕ → List Entry → Type 0
IsFirstMalformed kind n [] = ⊥
IsFirstMalformed kind n (malformed other m ∷ entries) = (other ≡ kind) × (m ≡ n)
IsFirstMalformed kind n (entry ∷ entries) = IsFirstMalformed kind n entries

-- The entries of the source, read to its end, have this property.
abbrev pub ItemsAre : Encoding → List ℕ → (List Entry → Type 0) → Type 0
ItemsAre e source Such = (entries : List Entry) × IsItems e source end entries × Such entries

-- The result of an edit that makes such bytes of the source. The encoding is tested first: if it can't be edited, the
-- result is `unsupported`. Otherwise the result is the first malformed entry, or the edited bytes if there is none.
abbrev pub IsEditResult : Encoding → List ℕ → (List ℕ → Type 0) → EditResult → Type 0
IsEditResult e source Makes unsupported = is_editable (byte_order_mark e source).encoding ≡ false
IsEditResult e source Makes (unreadable kind n) = (is_editable (byte_order_mark e source).encoding ≡ true) × ItemsAre e source (IsFirstMalformed kind n)
IsEditResult e source Makes (edited result) = (is_editable (byte_order_mark e source).encoding ≡ true) × ItemsAre e source AreItems × Makes result

-- the results of setting a key, and of removing it
abbrev pub IsSetKeyResult : Repertoire → List ℕ → List ℕ → List ℕ → EditResult → Type 0
IsSetKeyResult r source key value result = IsEditResult r.encoding source (IsKeySet r source key value) result

abbrev pub IsRemoveKeyResult : Encoding → List ℕ → List ℕ → EditResult → Type 0
IsRemoveKeyResult e source key result = IsEditResult e source (IsKeyRemoved e source key) result
