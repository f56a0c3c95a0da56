-- What a list of calls prints is read line by line, as one item per line.
use Rattle.std.proofs.Common.{arith, rules, ◌≡◌, ◌≢◌, ℕ, ◌+◌, ◌==◌, ◌&&◌, not, Bool, true, false, if◌then◌else◌, List, [], ◌∷◌, ◌++◌, refl, ap, ◌∙◌, append_assoc}
use Rattle.std.specs.Prelude.{All, Option, Some, None}
use Rattle.std.proofs.lemmas.List.Elements.{recursion_from_All}
use Rattle.std.proofs.lemmas.Bool.{not-true, cond_both}
use Rattle.properties_format.specs.Text.{scalar, LineEnding, line_ending_text, is_blanks, is_empty}
use Rattle.properties_format.specs.Encoding.{Encoding}
use Rattle.properties_format.specs.Settings.{repertoire_of, Settings}
use Rattle.properties_format.specs.Lines.{HoldsNoLineEnding, Line, end, joined}
use Rattle.properties_format.specs.Computed.Lines.{begins_with_lf, lines_to_come, groups_of}
use Rattle.properties_format.specs.Items.{Content, comment, pair, Entry, item}
use Rattle.properties_format.specs.Computed.Items.{entries_of}
use Rattle.properties_format.specs.Computed.Settings.{is_good_separator}
use Rattle.properties_format.specs.Printing.{in_key_or_value, in_comment, in_prefix, printed_characters, printed_key, printed_value, written_value, encoded_text, printed_text}
use Rattle.properties_format.specs.Writing.{Call, comment_call, pair_call, prefix_call, separator_call, settings_after_call, written_line, lines_with, wrote, content_read_back, item_read_back, items_read_back, HoldsNoBackslash, ArePrefixesClean, IsOfScalars, AreOfScalars, AreGoodSettings}
use Rattle.properties_format.proofs.Lines.Plain.{plain-no_lf}
use Rattle.properties_format.proofs.Lines.Steps.{lines_to_come-end}
use Rattle.properties_format.proofs.Groups.Joined.{joined-comment_line, joined-closed}
use Rattle.properties_format.proofs.Groups.Logical.{IsNotContinued, groups-line}
use Rattle.properties_format.proofs.Split.Unique.{split_of-blank}
use Rattle.properties_format.proofs.Settings.Tests.{IsGoodPrefix-from_test, IsGoodSeparator-from_test}
use Rattle.properties_format.proofs.Printing.Characters.{encoded_text-append}
use Rattle.properties_format.proofs.ReadBack.Texts.{texts-printed}
use Rattle.properties_format.proofs.ReadBack.Values.{value-loose, value-begins}
use Rattle.properties_format.proofs.ReadBack.Pairs.{IsReadAs, key-printed, pair-read, pair-read_loosely}
use Rattle.properties_format.proofs.ReadBack.Comments.{comment-read}

-- ---- the characters that are written

-- the characters of a line, if there is one
abbrev pub line_text : Encoding → Settings → ℕ → Option Content → List ℕ
line_text e s n None = []
line_text e s n (Some line) = printed_text e s (n == 0) line

abbrev pub wrote_text : Encoding → Settings → ℕ → List Call → List ℕ
wrote_text e s n [] = []
wrote_text e s n (call ∷ calls) = line_text e s n (written_line s call) ++ wrote_text e (settings_after_call s call) (lines_with n (written_line s call)) calls

-- The bytes of all lines are those of their characters.
pub wrote-text : (e : Encoding) (s : Settings) (n : ℕ) (calls : List Call) → wrote e s n calls ≡ encoded_text e (wrote_text e s n calls)
wrote-text e s n [] = refl
wrote-text e s n (call ∷ calls) =
    let t = settings_after_call s call in
    let m = lines_with n (written_line s call) in
    search (rules, wrote-text e t m calls, encoded_text-append)

-- ---- one line

-- A text followed by its line ending, and what the text is read as.
pub record IsLineReadAs (by : LineEnding) (x : List ℕ) (content : Content) : Type 0 where
  pub text : List ℕ
  pub whole : x ≡ text ++ line_ending_text by
  pub read : IsReadAs text content

-- A comment, under good settings and a prefix without a backslash.
pub comment-line : (e : Encoding) (s : Settings) (first : Bool) (text : List ℕ) → AreGoodSettings s → HoldsNoBackslash s.comment_prefix → All scalar text
    → IsLineReadAs s.line_ending (printed_text e s first (comment text)) (content_read_back s (comment text))
comment-line e s first text g b h =
    record {
      text = printed_characters (repertoire_of e s) in_prefix s.comment_prefix ++ printed_characters (repertoire_of e s) in_comment text;
      whole = grind (arith, append_assoc);
      read = grind (arith, comment-read, recursion_from_All);
    }

-- A key and a value, readable or not.
pair-written : (e : Encoding) (s : Settings) (first : Bool) (key value : List ℕ) → AreGoodSettings s → (key ≡ [] → is_blanks s.kv_separator ≡ false)
    → All scalar key → All scalar value → IsReadAs (printed_key (repertoire_of e s) first key ++ (s.kv_separator ++ written_value e s value)) (pair key value)
pair-written e s first key value g some h k =
    let front = printed_key (repertoire_of e s) first key in
    let keyed = key-printed (repertoire_of e s) first key (recursion_from_All scalar key h) in
    let all = recursion_from_All scalar value k in
    let blank = is_blanks s.kv_separator in
    cond_both s.readable (printed_value (repertoire_of e s) blank value) (printed_characters (repertoire_of e s) in_key_or_value value)
    (λ v. IsReadAs (front ++ (s.kv_separator ++ v)) (pair key value))
    (λ _. pair-read_loosely front _ s.kv_separator key value keyed (value-loose (repertoire_of e s) blank value all)
    (value-begins (repertoire_of e s) blank value all) g.separator some)
    (λ _. pair-read front _ s.kv_separator key value keyed (texts-printed (repertoire_of e s) value all) g.separator some)

-- A pair, under good settings; if the key is empty, the separator isn't blanks only.
pub pair-line : (e : Encoding) (s : Settings) (first : Bool) (key value : List ℕ) → AreGoodSettings s → (key ≡ [] → is_blanks s.kv_separator ≡ false)
    → All scalar key → All scalar value → IsLineReadAs s.line_ending (printed_text e s first (pair key value)) (pair key value)
pair-line e s first key value g some h k =
    let front = printed_key (repertoire_of e s) first key in
    let back = written_value e s value in
    record {
      text = front ++ (s.kv_separator ++ back);
      whole = grind (arith, append_assoc);
      read = pair-written e s first key value g some h k;
    }

-- ---- all lines

-- After n line endings, the text is read as these entries, and no LF is at its front.
pub record IsTextReadAs (m n : ℕ) (x : List ℕ) (entries : List Entry) : Type 0 where
  pub read : entries_of m end (groups_of (lines_to_come n false [] x end) end) ≡ entries
  pub no_lf : begins_with_lf x ≡ false

-- A comment line, or a line that isn't open, is its own logical line.
pub joined-alone : (l : Line) → IsNotContinued l.text → joined (l ∷ []) ≡ l.text
joined-alone l h1 = grind (arith, joined-comment_line, joined-closed)

-- A text that isn't empty and contains no line ending doesn't begin with an LF, whatever follows.
front-no_lf : (x y : List ℕ) → x ≢ [] → HoldsNoLineEnding x → begins_with_lf (x ++ y) ≡ false
front-no_lf x y h1 h2 = grind (arith, plain-no_lf)

-- One line before such a text.
line-then : (m n : ℕ) (by : LineEnding) (x y : List ℕ) (content : Content) (entries : List Entry) → IsLineReadAs by x content → IsTextReadAs m (n + 1) y entries
    → IsTextReadAs m n (x ++ y) (item (n + 1) content ∷ entries)
line-then m n by x y content entries l t =
    let same : x ++ y ≡ l.text ++ (line_ending_text by ++ y) = ap (λ v. v ++ y) l.whole ∙ append_assoc l.text (line_ending_text by) y in
    record {
      read = ap (λ v. entries_of m end (groups_of (lines_to_come n false [] v end) end)) same ∙ search (rules, groups-line, joined-alone);
      no_lf = ap begins_with_lf same ∙ front-no_lf l.text (line_ending_text by ++ y) l.read.some l.read.plain;
    }

-- ---- settings stay good

-- Setting a good separator keeps the settings good.
separator-good : (s : Settings) (separator : List ℕ) (b : Bool) → is_good_separator separator ≡ b → AreGoodSettings s
    → AreGoodSettings (if b then record s { kv_separator = separator } else s)
separator-good s separator b h1 h2 = grind (arith, IsGoodSeparator-from_test)

-- Any call keeps the settings good.
pub settings_after_call-good : (s : Settings) (call : Call) → AreGoodSettings s → IsOfScalars call → AreGoodSettings (settings_after_call s call)
settings_after_call-good s (prefix_call prefix) g h = search (rules, IsGoodPrefix-from_test)
settings_after_call-good s (separator_call separator) g h = separator-good s separator (is_good_separator separator) refl g
settings_after_call-good s call g h = record { prefix = g.prefix; scalars = g.scalars; separator = g.separator }

-- ---- calls

-- A pair, which is a line if it is accepted.
pair-step : (e : Encoding) (m : ℕ) (s : Settings) (n : ℕ) (key value : List ℕ) (calls : List Call) (b : Bool)
    → not (is_empty key && is_blanks s.kv_separator) ≡ b → AreGoodSettings s → All scalar key → All scalar value
    → ((k : ℕ) → IsTextReadAs m k (wrote_text e s k calls) (items_read_back s k calls)) → (o : Option Content) → o ≡ (if b then Some (pair key value) else None)
    → IsTextReadAs m n (line_text e s n o ++ wrote_text e s (lines_with n o) calls) (item_read_back s n o ++ items_read_back s (lines_with n o) calls)
pair-step e m s n key value calls true accepted g h k rest o same =
    let some : key ≡ [] → is_blanks s.kv_separator ≡ false = grind (arith, not-true) in
    rw same (line-then m n s.line_ending _ _ (pair key value) _
    (pair-line e s (n == 0) key value g some h k) (rest (n + 1)))
pair-step e m s n key value calls false refused g h k rest o same = rw same (rest n)

-- What calls write is read as the items that they wrote.
pub text-read : (e : Encoding) (m : ℕ) (s : Settings) (n : ℕ) (calls : List Call) → AreGoodSettings s → ArePrefixesClean s calls → AreOfScalars calls
    → IsTextReadAs m n (wrote_text e s n calls) (items_read_back s n calls)
text-read e m s n [] g c h = search (rules, lines_to_come-end, split_of-blank)
text-read e m s n (comment_call text ∷ calls) g c h =
    line-then m n s.line_ending _ _ _ _
    (comment-line e s (n == 0) text g c.0 h.0) (text-read e m s (n + 1) calls g c.1 h.1)
text-read e m s n (pair_call key value ∷ calls) g c h = pair-step e m s n key value calls _ refl g h.0.0 h.0.1 (λ k. text-read e m s k calls g c h.1) _ refl
text-read e m s n (call ∷ calls) g c h = text-read e m (settings_after_call s call) n calls (settings_after_call-good s call g h.0) c h.1
