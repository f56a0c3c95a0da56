-- If ASCII-only output is on, every byte that is written is ASCII, and the bytes read back the same in windows-1252 and
-- in UTF-8.
use Rattle.std.proofs.Common.{◌≡◌, ℕ, ◌<◌, ◌==◌, ◌&&◌, Bool, true, false, List, [], ◌∷◌, ◌++◌, refl, sym, ◌∙◌, inl, inr, ap, ap₂, subst, ltb-true, arith}
use Rattle.std.specs.Prelude.{Option, Some, None, is_some, nat_lt, if◌then◌else◌}
use Rattle.std.specs.List.{AllByRecursion}
use Rattle.std.proofs.lemmas.List.Elements.{All-from_recursion, recursion_from_All}
use Rattle.std.proofs.lemmas.Bool.{cases_Bool, and_left, cond_both}
use Rattle.properties_format.specs.Text.{line_ending_text, is_blanks}
use Rattle.properties_format.specs.Encoding.{Encoding, windows_1252, utf_8, encoded, begins_like_bom, Repertoire, ascii_in}
use Rattle.properties_format.specs.Items.{Content, comment, pair}
use Rattle.properties_format.specs.Settings.{Settings, IsGoodSeparator}
use Rattle.properties_format.specs.Printing.{Place, in_key_or_value, in_comment, in_prefix, may_be_unescaped, literal, printed_character, printed_characters, encoded_text, is_bom_like, with_first_escaped, printed_key, is_free, printed_inside, printed_first, printed_rest, printed_value, printed_text, printed}
use Rattle.properties_format.specs.Writing.{Call, prefix_call, separator_call, ascii_only_call, settings_after_call, settings_after, written_line, lines_with, line_bytes, wrote, items_read_back, ArePrefixesClean, AreOfScalars, AreGoodSettings}
use Rattle.properties_format.specs.AsciiOnly.{KeepsAsciiOnly, AllKeepAsciiOnly, AreAsciiOnly, AreAsciiBytes, AreItemsInBoth}
use Rattle.properties_format.proofs.Printing.Characters.{AreAscii, AreAscii-append, encoded_text-ascii, line_ending-ascii, good_separator-ascii, may_be_unescaped-ascii, printed-either, unicode_escape-ascii, special-ascii, free-plain, first-special}
use Rattle.properties_format.proofs.Settings.Tests.{IsGoodSeparator-from_test}
use Rattle.properties_format.proofs.ReadBack.Unmarked.{front-unmarked}
use Rattle.properties_format.proofs.ReadBack.Law.{IsItems-wrote}

-- ---- characters

-- If it is on, exactly the ASCII characters may be written unescaped, in every encoding.
pub may_be_unescaped-on : (e : Encoding) (c : ℕ) → may_be_unescaped (ascii_in e) c ≡ nat_lt c 0x80
may_be_unescaped-on e c = elim (cases_Bool (nat_lt c 0x80)) [
  | inl k ↦ may_be_unescaped-ascii (ascii_in e) c (ltb-true c 0x80 k) ∙ sym k
  | inr k ↦ and_left (nat_lt c 0x80) (is_some (encoded e c)) k ∙ sym k
]

-- Two repertoires in which the same characters may be written unescaped print the same:
module _ (r s : Repertoire) (may : (c : ℕ) → may_be_unescaped r c ≡ may_be_unescaped s c) where
  -- a character, unescaped or escaped,
  literal-alike : (c : ℕ) → literal r c ≡ literal s c
  literal-alike c = rw (may c)

  -- wherever it is,
  printed-alike : (place : Place) (c : ℕ) → printed_character r place c ≡ printed_character s place c
  printed-alike in_key_or_value c = rw (literal-alike c)
  printed-alike in_comment c = rw (literal-alike c)
  printed-alike in_prefix c = literal-alike c

  -- a text,
  pub printed_characters-alike : (place : Place) (x : List ℕ) → printed_characters r place x ≡ printed_characters s place x
  printed_characters-alike place [] = refl
  printed_characters-alike place (c ∷ x) = cc (printed-alike place c, printed_characters-alike place x)

  -- a character inside a value,
  inside-alike : (c : ℕ) → printed_inside r c ≡ printed_inside s c
  inside-alike c = rw (printed-alike in_key_or_value c)

  -- those after the first,
  rest-alike : (cs : List ℕ) → printed_rest r cs ≡ printed_rest s cs
  rest-alike [] = refl
  rest-alike (c ∷ []) = rw (inside-alike c)
  rest-alike (c ∷ d ∷ cs) = cc (inside-alike c, rest-alike (d ∷ cs))

  -- the whole value,
  pub printed_value-alike : (after_blanks : Bool) (value : List ℕ) → printed_value r after_blanks value ≡ printed_value s after_blanks value
  printed_value-alike after_blanks [] = refl
  printed_value-alike after_blanks (c ∷ cs) = cc (inside-alike c, rest-alike cs)

  -- and in the same encoding, a key.
  escaped-alike : (key : List ℕ) → with_first_escaped r key ≡ with_first_escaped s key
  escaped-alike [] = refl
  escaped-alike (c ∷ cs) = rw (printed_characters-alike in_key_or_value cs)

  pub printed_key-alike : r.encoding ≡ s.encoding → (first : Bool) (key : List ℕ) → printed_key r first key ≡ printed_key s first key
  printed_key-alike same first key =
      let text = printed_characters-alike in_key_or_value key in
      let like : is_bom_like r key ≡ is_bom_like s key = ap₂ (λ e x. begins_like_bom (encoded_text e x)) same text in
      ap₂ (λ b x. if first && b then x else printed_characters r in_key_or_value key) like (escaped-alike key)
      ∙ ap (λ x. if first && is_bom_like s key then with_first_escaped s key else x) text

may-same : (e f : Encoding) (c : ℕ) → may_be_unescaped (ascii_in e) c ≡ may_be_unescaped (ascii_in f) c
may-same e f c = may_be_unescaped-on e c ∙ sym (may_be_unescaped-on f c)

-- A character is printed in ASCII.
pub printed-ascii : (e : Encoding) (place : Place) (c : ℕ) → AreAscii (printed_character (ascii_in e) place c)
printed-ascii e place c = printed-either (ascii_in e) place c AreAscii (λ x h. h) (λ k. (ltb-true c 0x80 (sym (may_be_unescaped-on e c) ∙ k), tt))

-- ---- texts

-- A text is printed the same in every encoding.
pub printed_characters-same : (e f : Encoding) (place : Place) (x : List ℕ) → printed_characters (ascii_in e) place x ≡ printed_characters (ascii_in f) place x
printed_characters-same e f = printed_characters-alike (ascii_in e) (ascii_in f) (may-same e f)

-- A text is printed in ASCII.
pub printed_characters-ascii : (e : Encoding) (place : Place) (x : List ℕ) → AreAscii (printed_characters (ascii_in e) place x)
printed_characters-ascii e place [] = tt
printed_characters-ascii e place (c ∷ x) = search (AreAscii-append, printed-ascii, printed_characters-ascii e place x)

-- ---- values

-- A character inside a value is printed in ASCII.
inside-ascii : (e : Encoding) (c : ℕ) → AreAscii (printed_inside (ascii_in e) c)
inside-ascii e c = cond_both (is_free c) (c ∷ []) _ AreAscii (λ k. ((free-plain c k).2, tt)) (λ k. printed-ascii e in_key_or_value c)

-- So is the first character,
first-ascii : (e : Encoding) (after_blanks : Bool) (c : ℕ) → AreAscii (printed_first (ascii_in e) after_blanks c)
first-ascii e after_blanks c = grind (arith, special-ascii, first-special, inside-ascii)

-- those after it,
rest-ascii : (e : Encoding) (cs : List ℕ) → AreAscii (printed_rest (ascii_in e) cs)
rest-ascii e [] = tt
rest-ascii e (c ∷ []) = grind (arith, unicode_escape-ascii, inside-ascii)
rest-ascii e (c ∷ d ∷ cs) = AreAscii-append (printed_inside (ascii_in e) c) (printed_rest (ascii_in e) (d ∷ cs)) (inside-ascii e c) (rest-ascii e (d ∷ cs))

-- and the whole value.
pub printed_value-ascii : (e : Encoding) (after_blanks : Bool) (value : List ℕ) → AreAscii (printed_value (ascii_in e) after_blanks value)
printed_value-ascii e after_blanks [] = tt
printed_value-ascii e after_blanks (c ∷ cs) = grind (arith, unicode_escape-ascii, AreAscii-append, first-ascii, rest-ascii)

-- It is the same in every encoding.
pub printed_value-same : (e f : Encoding) (after_blanks : Bool) (value : List ℕ)
    → printed_value (ascii_in e) after_blanks value ≡ printed_value (ascii_in f) after_blanks value
printed_value-same e f = printed_value-alike (ascii_in e) (ascii_in f) (may-same e f)

-- ---- keys

-- The bytes of an ASCII text don't begin like a byte order mark.
pub ascii-unmarked : (e : Encoding) (x : List ℕ) → AreAscii x → begins_like_bom (encoded_text e x) ≡ false
ascii-unmarked e [] h = refl
ascii-unmarked e (c ∷ x) h = front-unmarked e (c ∷ x) c x refl h.0

-- If ASCII-only output is on, no key begins like a byte order mark.
pub is_bom_like-on : (e : Encoding) (key : List ℕ) → is_bom_like (ascii_in e) key ≡ false
is_bom_like-on e key = ascii-unmarked e (printed_characters (ascii_in e) in_key_or_value key) (printed_characters-ascii e in_key_or_value key)

-- A key is printed on the first line as on any other.
printed_key-on : (e : Encoding) (first : Bool) (key : List ℕ) → printed_key (ascii_in e) first key ≡ printed_characters (ascii_in e) in_key_or_value key
printed_key-on e first key = grind (arith, is_bom_like-on)

-- A key is printed the same in every encoding.
pub printed_key-same : (e f : Encoding) (first : Bool) (key : List ℕ) → printed_key (ascii_in e) first key ≡ printed_key (ascii_in f) first key
printed_key-same e f first key = rw (printed_key-on e, printed_key-on f) (printed_characters-same e f in_key_or_value key)

-- A key is printed in ASCII.
pub printed_key-ascii : (e : Encoding) (first : Bool) (key : List ℕ) → AreAscii (printed_key (ascii_in e) first key)
printed_key-ascii e first key = rw printed_key-on (printed_characters-ascii e in_key_or_value key)

-- ---- lines

-- a value
abbrev value_part : Repertoire → Settings → List ℕ → List ℕ
value_part r s value = if s.readable then printed_value r (is_blanks s.kv_separator) value else printed_characters r in_key_or_value value

value_part-ascii : (e : Encoding) (s : Settings) (value : List ℕ) → AreAscii (value_part (ascii_in e) s value)
value_part-ascii e s value = grind (arith, printed_value-ascii, printed_characters-ascii)

-- the parts of a line
abbrev parts : Repertoire → Settings → Bool → Content → List ℕ
parts r s first (comment text) = printed_characters r in_prefix s.comment_prefix ++ (printed_characters r in_comment text ++ line_ending_text s.line_ending)
parts r s first (pair key value) = printed_key r first key ++ (s.kv_separator ++ (value_part r s value ++ line_ending_text s.line_ending))

-- If it is on, a line is printed from these parts.
printed-parts : (e : Encoding) (s : Settings) (first : Bool) (line : Content) → s.ascii_only ≡ true
    → printed_text e s first line ≡ parts (ascii_in e) s first line
printed-parts e s first (comment text) on = rw on
printed-parts e s first (pair key value) on = rw on

-- The parts are the same in every encoding.
parts-same : (e f : Encoding) (s : Settings) (first : Bool) (line : Content) → parts (ascii_in e) s first line ≡ parts (ascii_in f) s first line
parts-same e f s first (comment text) = rw (printed_characters-same e f in_prefix s.comment_prefix, printed_characters-same e f in_comment text)
parts-same e f s first (pair key value) =
    cc (printed_key-same e f first key, printed_value-same e f (is_blanks s.kv_separator) value, printed_characters-same e f in_key_or_value value)

-- The parts are ASCII if the separator is good.
parts-ascii : (e : Encoding) (s : Settings) (first : Bool) (line : Content) → IsGoodSeparator s.kv_separator → AreAscii (parts (ascii_in e) s first line)
parts-ascii e s first (comment text) g = search (AreAscii-append, printed_characters-ascii, line_ending-ascii)
parts-ascii e s first (pair key value) g = search (AreAscii-append, printed_key-ascii, good_separator-ascii, value_part-ascii, line_ending-ascii)

-- The bytes are shared: they are ASCII, and the same in the other encoding.
record AreShared (f : Encoding) (x y : List ℕ) : Type 0 where
  ascii : AreAscii x
  same : x ≡ y

-- Shared bytes followed by shared bytes are shared.
shared-append : (f : Encoding) (x y z w : List ℕ) → AreShared f x y → AreShared f z w → AreShared f (x ++ z) (y ++ w)
shared-append f x y z w h k = record { ascii = AreAscii-append x z h.ascii k.ascii; same = ap₂ (λ v u. v ++ u) h.same k.same }

-- If it is on, the bytes of a line are shared.
printed-shared : (e f : Encoding) (s : Settings) (first : Bool) (line : Content) → s.ascii_only ≡ true → IsGoodSeparator s.kv_separator
    → AreShared f (printed e s first line) (printed f s first line)
printed-shared e f s first line on g =
    let a = parts-ascii e s first line g in
    let b = parts-ascii f s first line g in
    rw (printed-parts e s first line on, printed-parts f s first line on, encoded_text-ascii e _ a, encoded_text-ascii f _ b)
    record { ascii = a; same = parts-same e f s first line }

-- The bytes of the line that a call writes, if it writes one, are shared.
line-shared : (e f : Encoding) (s : Settings) (n : ℕ) (o : Option Content) → s.ascii_only ≡ true → IsGoodSeparator s.kv_separator
    → AreShared f (line_bytes e s n o) (line_bytes f s n o)
line-shared e f s n None on g = record { ascii = tt; same = refl }
line-shared e f s n (Some line) on g = printed-shared e f s (n == 0) line on g

-- ---- calls

-- A call that doesn't turn it off leaves it on.
call-on : (s : Settings) (call : Call) → s.ascii_only ≡ true → KeepsAsciiOnly call → (settings_after_call s call).ascii_only ≡ true
call-on s (prefix_call prefix) on k = grind (arith)
call-on s (separator_call separator) on k = grind (arith)
call-on s (ascii_only_call mode) on k = k
call-on s call on k = on

-- A good separator stays good after a call.
separator-kept : (s : Settings) (call : Call) → IsGoodSeparator s.kv_separator → IsGoodSeparator (settings_after_call s call).kv_separator
separator-kept s (prefix_call prefix) g = grind (arith)
separator-kept s (separator_call separator) g = grind (arith, IsGoodSeparator-from_test)
separator-kept s call g = g

-- The bytes of calls that don't turn it off are shared.
wrote-shared : (e f : Encoding) (s : Settings) (n : ℕ) (calls : List Call) → s.ascii_only ≡ true → AllKeepAsciiOnly calls
    → IsGoodSeparator s.kv_separator → AreShared f (wrote e s n calls) (wrote f s n calls)
wrote-shared e f s n [] on k g = record { ascii = tt; same = refl }
wrote-shared e f s n (call ∷ calls) on k g =
    let o = written_line s call in
    let t = settings_after_call s call in
    let m = lines_with n o in
    shared-append f (line_bytes e s n o) (line_bytes f s n o) (wrote e t m calls) (wrote f t m calls) (line-shared e f s n o on g)
    (wrote-shared e f t m calls (call-on s call on k.0) k.1 (separator-kept s call g))

-- An ASCII text, as bytes.
pub bytes-ascii : (x : List ℕ) → AreAscii x → AreAsciiBytes x
bytes-ascii x h = All-from_recursion (λ b. b < 0x80) x (go x h)
  where
    go : (x : List ℕ) → AreAscii x → AllByRecursion (λ b. b < 0x80) x
    go [] h = tt
    go (b ∷ x) h = (h.0, go x h.1)

-- ASCII bytes, as a text.
pub ascii-of : (x : List ℕ) → AreAsciiBytes x → AreAscii x
ascii-of x h = go x (recursion_from_All (λ b. b < 0x80) x h)
  where
    go : (x : List ℕ) → AllByRecursion (λ b. b < 0x80) x → AreAscii x
    go [] h = tt
    go (b ∷ x) h = (h.0, go x h.1)

-- The front of an ASCII text is ASCII.
ascii-front : (x y : List ℕ) → AreAscii (x ++ y) → AreAscii x
ascii-front [] y h = tt
ascii-front (c ∷ x) y h = (h.0, ascii-front x y h.1)

-- ---- starting with settings that have ASCII-only output on

module _ (e : Encoding) (s : Settings) (on : s.ascii_only ≡ true) (good : IsGoodSeparator s.kv_separator) where
  -- Every byte that is written is ASCII.
  pub wrote-on : (n : ℕ) (calls : List Call) → AllKeepAsciiOnly calls → AreAsciiBytes (wrote e s n calls)
  wrote-on n calls k = bytes-ascii (wrote e s n calls) (wrote-shared e e s n calls on k good).ascii

  -- The bytes are still ASCII if the beginning of a line follows them.
  pub wrote-on_line : (n : ℕ) (calls : List Call) (t : Settings) (first : Bool) (line : Content) (part rest : List ℕ) → AllKeepAsciiOnly calls
      → t.ascii_only ≡ true → IsGoodSeparator t.kv_separator → printed e t first line ≡ part ++ rest → AreAsciiBytes (wrote e s n calls ++ part)
  wrote-on_line n calls t first line part rest k next g same =
      bytes-ascii (wrote e s n calls ++ part)
      (AreAscii-append _ part (wrote-shared e e s n calls on k good).ascii (ascii-front part rest (subst AreAscii same (printed-shared e e t first line next g).ascii)))

-- What a new writer wrote has the same items in windows-1252 and in UTF-8: those that the calls wrote.
pub wrote-on_both : (e : Encoding) (s : Settings) (calls : List Call) → s.ascii_only ≡ true → AllKeepAsciiOnly calls → AreGoodSettings s
    → ArePrefixesClean s calls → AreOfScalars calls → AreItemsInBoth (wrote e s 0 calls) (items_read_back s 0 calls)
wrote-on_both e s calls on k g c h =
    record {
      in_windows_1252 = rw (wrote-shared windows_1252 e s 0 calls on k g.separator).same at (IsItems-wrote windows_1252 s calls refl g c h);
      in_utf_8 = rw (wrote-shared utf_8 e s 0 calls on k g.separator).same at (IsItems-wrote utf_8 s calls refl g c h);
    }

-- ---- if the first call turns it on

-- the settings with it on
abbrev turned_on : Settings → Settings
turned_on s = record s { ascii_only = true }

-- If the first call turns ASCII-only output on and none turns it off, every byte that is written is ASCII.
pub wrote-ascii : (e : Encoding) (s : Settings) (n : ℕ) (calls : List Call) → AreAsciiOnly calls → IsGoodSeparator s.kv_separator
    → AreAsciiBytes (wrote e s n calls)
wrote-ascii e s n [] k g = absurd k
wrote-ascii e s n (call ∷ calls) k g = rw k.0 (wrote-on e (turned_on s) refl g n calls k.1)

-- What a new writer wrote then has the same items in windows-1252 and in UTF-8: those that the calls wrote.
pub AreItemsInBoth-wrote : (e : Encoding) (s : Settings) (calls : List Call) → AreAsciiOnly calls → AreGoodSettings s → ArePrefixesClean s calls
    → AreOfScalars calls → AreItemsInBoth (wrote e s 0 calls) (items_read_back s 0 calls)
AreItemsInBoth-wrote e s [] k g c h = absurd k
AreItemsInBoth-wrote e s (call ∷ calls) k g c h = rw k.0 (wrote-on_both e (turned_on s) calls refl k.1 (assumption g) (rw k.0 at c) h.1)

-- ---- the first of several calls

-- If none of the calls turns it off, none of the first calls does.
keep-front : (xs ys : List Call) → AllKeepAsciiOnly (xs ++ ys) → AllKeepAsciiOnly xs
keep-front [] ys k = tt
keep-front (x ∷ xs) ys k = (k.0, keep-front xs ys k.1)

-- The bytes of the first calls are ASCII.
pub begun-ascii : (e : Encoding) (s : Settings) (n : ℕ) (xs ys : List Call) → AreAsciiOnly (xs ++ ys) → IsGoodSeparator s.kv_separator
    → AreAsciiBytes (wrote e s n xs)
begun-ascii e s n [] ys k g = bytes-ascii [] tt
begun-ascii e s n (x ∷ xs) ys k g = wrote-ascii e s n (x ∷ xs) (k.0, keep-front xs ys k.1) g

-- Calls that don't turn it off leave it on.
kept-on : (s : Settings) (calls : List Call) → s.ascii_only ≡ true → AllKeepAsciiOnly calls → (settings_after s calls).ascii_only ≡ true
kept-on s [] on k = on
kept-on s (call ∷ calls) on k = kept-on (settings_after_call s call) calls (call-on s call on k.0) k.1

-- A good separator stays good after any calls.
kept-separator : (s : Settings) (calls : List Call) → IsGoodSeparator s.kv_separator → IsGoodSeparator (settings_after s calls).kv_separator
kept-separator s [] g = g
kept-separator s (call ∷ calls) g = kept-separator (settings_after_call s call) calls (separator-kept s call g)

-- The bytes of the first calls, followed by a beginning of the next call's line, are ASCII.
pub begun-line_ascii : (e : Encoding) (s : Settings) (n : ℕ) (xs : List Call) (call : Call) (ys : List Call) (first : Bool) (line : Content)
    (part rest : List ℕ) → (call ≡ ascii_only_call true → ⊥) → AreAsciiOnly (xs ++ (call ∷ ys)) → IsGoodSeparator s.kv_separator
    → printed e (settings_after s xs) first line ≡ part ++ rest → AreAsciiBytes (wrote e s n xs ++ part)
begun-line_ascii e s n [] call ys first line part rest other k g same = absurd (other k.0)
begun-line_ascii e s n (x ∷ xs) call ys first line part rest other k g same =
    let kept = keep-front xs (call ∷ ys) k.1 in
    rw k.0 (wrote-on_line e _ refl g n xs _ first line part rest kept (kept-on _ xs refl kept) (kept-separator _ xs g) (rw k.0 at same))
