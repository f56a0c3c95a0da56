-- What a new writer writes doesn't begin like a byte order mark.
use Rattle.std.proofs.Common.{◌≡◌, ℕ, ◌<◌, Bool, true, false, if◌then◌else◌, List, [], ◌∷◌, ◌++◌, refl, ap, ◌∙◌, append_assoc, arith, lit<}
use Rattle.std.specs.Prelude.{nat_lt, Some, None}
use Rattle.std.proofs.lemmas.Bool.{cond_both}
use Rattle.properties_format.specs.Text.{backslash, is_comment_sign}
use Rattle.properties_format.specs.Encoding.{Encoding, begins_like_bom, Repertoire}
use Rattle.properties_format.specs.Settings.{repertoire_of, Settings, IsGoodPrefix, IsGoodSeparator}
use Rattle.properties_format.specs.Split.{AreBlanks}
use Rattle.properties_format.specs.Items.{Content, comment, pair}
use Rattle.properties_format.specs.Printing.{in_key_or_value, in_prefix, unit_escape, unicode_escape, printed_characters, encoded_text, is_bom_like, with_first_escaped, printed_key, printed_text}
use Rattle.properties_format.specs.Writing.{Call, comment_call, pair_call, settings_after_call, lines_with, AreOfScalars, AreGoodSettings}
use Rattle.properties_format.proofs.Printing.Characters.{encoded-ascii, encoded_text-append, blank-ascii, good_separator-ascii}
use Rattle.properties_format.proofs.ReadBack.Pairs.{separator-some}
use Rattle.properties_format.proofs.ReadBack.Comments.{prefix-printed, sign-ascii}
use Rattle.properties_format.proofs.ReadBack.Lines.{line_text, wrote_text, settings_after_call-good}

-- ---- no byte order mark has an ASCII byte

-- An ASCII byte and what follows it don't affect the byte order mark.
pub byte_order_mark-cut : (x : List ℕ) (c : ℕ) (y : List ℕ) → c < 0x80 → begins_like_bom (x ++ (c ∷ y)) ≡ begins_like_bom x
byte_order_mark-cut x c y h = grind (arith)

-- The bytes of a text up to its first ASCII character.
text-cut : (e : Encoding) (x : List ℕ) (c : ℕ) (y : List ℕ) → c < 0x80 → begins_like_bom (encoded_text e (x ++ (c ∷ y))) ≡ begins_like_bom (encoded_text e x)
text-cut e x c y h = simp (encoded_text-append, encoded-ascii, byte_order_mark-cut)

-- ---- the first line

abbrev pub IsUnmarked : Encoding → List ℕ → Type 0
IsUnmarked e x = begins_like_bom (encoded_text e x) ≡ false

-- A text that begins with an ASCII character doesn't begin like a byte order mark.
pub front-unmarked : (e : Encoding) (x : List ℕ) (c : ℕ) (y : List ℕ) → x ≡ c ∷ y → c < 0x80 → IsUnmarked e x
front-unmarked e x c y same h = ap (λ v. begins_like_bom (encoded_text e v)) same ∙ text-cut e [] c y h

-- Blanks followed by a comment sign begin with an ASCII character.
indent-front : (indent : List ℕ) (sign : ℕ) (rest : List ℕ) → AreBlanks indent → is_comment_sign sign ≡ true
    → (c : ℕ) × (y : List ℕ) × (indent ++ (sign ∷ rest) ≡ c ∷ y) × (c < 0x80)
indent-front [] sign rest b m = (sign, rest, refl, (sign-ascii sign m).0)
indent-front (c ∷ indent) sign rest b m = (c, indent ++ (sign ∷ rest), refl, blank-ascii c b.0)

-- A comment on the first line, with what follows its prefix.
comment-unmarked : (r : Repertoire) (prefix rest : List ℕ) → IsGoodPrefix prefix → IsUnmarked r.encoding (printed_characters r in_prefix prefix ++ rest)
comment-unmarked r prefix rest g =
    let (c, y, same, h) = indent-front g.indent g.sign (printed_characters r in_prefix g.tail) g.indented g.signed in
    front-unmarked r.encoding (printed_characters r in_prefix prefix ++ rest) c (y ++ rest)
    (ap (λ v. v ++ rest) (ap (printed_characters r in_prefix) g.division ∙ prefix-printed r g.indent g.sign g.tail g.indented g.signed ∙ same)) h

-- a separator begins with an ASCII character
separator-front : (sep : List ℕ) → IsGoodSeparator sep → (c : ℕ) × (y : List ℕ) × (sep ≡ c ∷ y) × (c < 0x80)
separator-front [] g = absurd (separator-some [] g refl)
separator-front (c ∷ y) g = (c, y, refl, (good_separator-ascii (c ∷ y) g).0)

-- what is printed begins with a backslash
abbrev IsEscape : List ℕ → Type 0
IsEscape x = (rest : List ℕ) × (x ≡ backslash ∷ rest)

-- `\u` escapes begin with a backslash
unicode-is_escape : (c : ℕ) → IsEscape (unicode_escape c)
unicode-is_escape c = cond_both (nat_lt c 0x1_0000) (unit_escape c) _ IsEscape (λ k. (_, refl)) (λ k. (_, refl))

-- A key with its first character escaped, with what follows it.
with_first_escaped-unmarked : (r : Repertoire) (key rest : List ℕ) → is_bom_like r key ≡ true → IsUnmarked r.encoding (with_first_escaped r key ++ rest)
with_first_escaped-unmarked r [] rest h = cc
with_first_escaped-unmarked r (c ∷ cs) rest h =
    let (y, same) = unicode-is_escape c in
    front-unmarked r.encoding (with_first_escaped r (c ∷ cs) ++ rest) backslash ((y ++ printed_characters r in_key_or_value cs) ++ rest)
    (ap (λ v. (v ++ printed_characters r in_key_or_value cs) ++ rest) same) (lit< tt)

-- A key that doesn't begin like a byte order mark, with what follows its separator.
plain-unmarked : (r : Repertoire) (key sep rest : List ℕ) → IsGoodSeparator sep → is_bom_like r key ≡ false
    → IsUnmarked r.encoding (printed_characters r in_key_or_value key ++ (sep ++ rest))
plain-unmarked r key sep rest g h =
    let (c, y, same, k) = separator-front sep g in
    grind (arith, text-cut)

-- A pair on the first line, with what follows its separator.
pub pair-unmarked : (r : Repertoire) (key sep rest : List ℕ) → IsGoodSeparator sep
    → begins_like_bom (encoded_text r.encoding (printed_key r true key ++ (sep ++ rest))) ≡ false
pair-unmarked r key sep rest g =
    cond_both (is_bom_like r key) (with_first_escaped r key) (printed_characters r in_key_or_value key)
    (λ v. begins_like_bom (encoded_text r.encoding (v ++ (sep ++ rest))) ≡ false)
    (λ h. with_first_escaped-unmarked r key (sep ++ rest) h) (λ h. plain-unmarked r key sep rest g h)

-- A printed first line, with what follows it.
printed-unmarked : (e : Encoding) (s : Settings) (line : Content) (rest : List ℕ) → AreGoodSettings s → IsUnmarked e (printed_text e s true line ++ rest)
printed-unmarked e s line rest h = grind (arith, append_assoc, comment-unmarked (repertoire_of e s), pair-unmarked (repertoire_of e s))

-- ---- all lines

-- A pair, whether or not it is accepted, with what follows it.
pair-step : (e : Encoding) (s : Settings) (key value : List ℕ) (calls : List Call) (b : Bool) → AreGoodSettings s → IsUnmarked e (wrote_text e s 0 calls)
    → IsUnmarked e (line_text e s 0 (if b then Some (pair key value) else None) ++ wrote_text e s (lines_with 0 (if b then Some (pair key value) else None)) calls)
pair-step e s key value calls true g h = printed-unmarked e s (pair key value) (wrote_text e s 1 calls) g
pair-step e s key value calls false g h = h

-- What calls write, with no line before them, doesn't begin like a byte order mark.
pub wrote_text-unmarked : (e : Encoding) (s : Settings) (calls : List Call) → AreGoodSettings s → AreOfScalars calls
    → begins_like_bom (encoded_text e (wrote_text e s 0 calls)) ≡ false
wrote_text-unmarked e s [] g h = refl
wrote_text-unmarked e s (comment_call text ∷ calls) g h = printed-unmarked e s (comment text) (wrote_text e s 1 calls) g
wrote_text-unmarked e s (pair_call key value ∷ calls) g h = grind (arith, pair-step, wrote_text-unmarked e s calls g h.1)
wrote_text-unmarked e s (call ∷ calls) g h = wrote_text-unmarked e (settings_after_call s call) calls (settings_after_call-good s call g h.0) h.1
