-- One byte, a run of bytes, or one character more of a text is printed.
use Rattle.std.proofs.Common.{◌≡◌, ℕ, ◌<◌, ◌≤◌, ◌==◌, Bool, true, false, List, [], ◌∷◌, ◌++◌, refl, sym, ap, ◌∙◌, subst, inl, inr, append-nil, arith, nat_lt, lt-ltb, le-ltb, ne_eqb}
use Rattle.std.proofs.lemmas.Bool.Decides.{nat_tests}
use Rattle.std.specs.Prelude.{None, is_some, nat_le}
use lib.Utf8.{encode, encodes}
use Rattle.std.specs.List.{All}
use Rattle.std.specs.Str.{IsUtf8}
use Rattle.std.proofs.lemmas.Bool.{cases_lt, not-false, cond-false, and_from, and_left, and_right, lt-leb, le-leb}
use Rattle.std.proofs.lemmas.Str.{IsCharBoundary-start}
use Rattle.std.proofs.lemmas.List.Elements.{All-head, All-tail}
use Rattle.properties_format.specs.Encoding.{utf_8, windows_1252, one_byte, encoded, ascii_in, all_of, holds, latin_1_characters}
use Rattle.properties_format.specs.Text.{backslash}
use Rattle.properties_format.specs.Windows1252.{windows_1252_character, windows_1252_byte}
use Rattle.properties_format.specs.Escapes.{Meaning, means, breaks}
use Rattle.properties_format.specs.Printing.{unicode_escape}
use Rattle.properties_format.specs.Computed.Escapes.{in_front, text_in_front}
use Rattle.properties_format.proofs.Undecoded.{same}
use Rattle.properties_format.proofs.Encodings.Windows1252.{windows_1252_byte-character}
use Rattle.properties_format.proofs.Escapes.Laws.{meaning_of-itself}
use Rattle.properties_format.proofs.Escapes.Unique.{text_in_front-means, text_in_front-breaks}
use Rattle.properties_format.proofs.Printing.Characters.{encoded_text-append}
use Rattle.properties_text.specs.Printing.{printed_byte, printed_bytes, in_format, put_of}
use Rattle.properties_text.specs.Escaping.{text_in, IsWell}
use Rattle.properties_text.specs.PrintedTexts.{meaning_by, meaning_in, printed_by, printed_in, is_copied, is_inside, inside, past, past_in, rest_in, StopsIn}
use Rattle.properties_text.specs.declared.encoding.line_encoding.LineEncoding.{LineEncoding}
use Rattle.properties_text.specs.declared.encoding.line_encoding.LineEncoding.TheVariants.{Windows1252, Utf8}
use Rattle.properties_text.specs.declared.print.Repertoire.{Repertoire}
use Rattle.properties_text.specs.declared.print.Repertoire.TheVariants as repertoire
use Rattle.properties_text.proofs.Texts.Characters.{AreWide, AreInside, one, wide, encoded as bytes-of, character_and, wide-no_backslash}
use Rattle.properties_text.proofs.Texts.Resolving.{text_in_front-append}
use Rattle.properties_text.proofs.Printing.Bytes.{ascii-printed, byte-printed, escaped-printed, past-special, past-letter, past-control, past-byte}
use Rattle.properties_text.proofs.SpeltTexts.First.{ascii-first}

-- ---- a character

-- ASCII is printed as its byte is, in each repertoire.
pub put-ascii : (t : Repertoire) (c : ℕ) → c < 0x80 → put_of t c ≡ printed_byte c
put-ascii t c h = ascii-printed (in_format t) c h

-- In UTF-8, what is non-ASCII is printed as it is.
pub put-utf_8 : (c : ℕ) → 0x80 ≤ c → put_of repertoire.Utf8 c ≡ encode c
put-utf_8 c h = rw (past-special c h, past-letter c h, past-control c h) (append-nil (encode c))

-- In windows-1252, what has no byte is escaped.
pub put_lacked : (c : ℕ) → 0x80 ≤ c → windows_1252_byte c ≡ None → put_of repertoire.Windows1252 c ≡ unicode_escape c
put_lacked c h e = escaped-printed (all_of windows_1252) c h (ap (λ o. is_some (one_byte o)) e)

-- In ASCII only, what is non-ASCII is.
pub put_escaped : (c : ℕ) → 0x80 ≤ c → put_of repertoire.Ascii c ≡ unicode_escape c
put_escaped c h = escaped-printed (ascii_in utf_8) c h (and_left (nat_lt c 0x80) (is_some (encoded utf_8 c)) (le-ltb c 0x80 h))

-- Of the characters that windows-1252 and ISO 8859-1 have alike, the byte is the character's number,
pub latin_1_below : (c : ℕ) → holds latin_1_characters windows_1252 c ≡ true → c < 0x100
latin_1_below c h = grind (arith)

-- as which it is printed.
pub put_latin_1 : (c : ℕ) → 0x80 ≤ c → holds latin_1_characters windows_1252 c ≡ true → put_of repertoire.Latin1 c ≡ c ∷ []
put_latin_1 c h k = rw (past-special c h, past-letter c h, past-control c h, k) (rw k refl)

-- Others are escaped.
pub put_latin_1_lacked : (c : ℕ) → 0x80 ≤ c → holds latin_1_characters windows_1252 c ≡ false → put_of repertoire.Latin1 c ≡ unicode_escape c
put_latin_1_lacked c h k = escaped-printed (in_format repertoire.Latin1) c h (and_left (holds latin_1_characters windows_1252 c) (is_some (encoded windows_1252 c)) k)

-- ---- characters in front of a meaning

-- A character is printed in front of what follows it.
pub printed-one : (t : Repertoire) (c : ℕ) (m : Meaning) → printed_by t (in_front c m) ≡ text_in_front (put_of t c) (printed_by t m)
printed-one t c (means x) = rw (encoded_text-append, text_in_front-means) refl
printed-one t c (breaks kind) = sym (text_in_front-breaks (put_of t c) kind)

-- ---- a byte that isn't inside a character

-- A byte of ASCII isn't inside a character.
pub not-inside : (b : ℕ) → b < 0x80 → is_inside b ≡ false
not-inside b h = and_left (nat_le 0x80 b) (nat_lt b 0xc0) (lt-leb 0x80 b h)

-- Bytes from 80 to BF are.
is-inside : (b : ℕ) → 0x80 ≤ b → b < 0xc0 → is_inside b ≡ true
is-inside b h k = and_from (nat_le 0x80 b) (nat_lt b 0xc0) (le-leb 0x80 b h) (lt-ltb b 0xc0 k)

-- A text begins with no byte inside a character.
no-inside : (bs : List ℕ) → IsUtf8 bs → (inside bs ≡ []) × (past bs ≡ bs)
no-inside [] u = (refl, refl)
no-inside (b ∷ bs) u = rw first (refl, refl)
  where
    first : is_inside b ≡ false
    first = grind (arith, nat_tests, (IsCharBoundary-start (b ∷ bs) u).1)

-- So the rest of a well-formed text comes to what the text does.
pub rest-well : (e : LineEncoding) (t : Repertoire) (escaped : Bool) (bs : List ℕ) → IsWell e bs → rest_in e t escaped bs ≡ printed_in e t escaped bs
rest-well Utf8 repertoire.Utf8 escaped bs w = let n = no-inside bs w in rw (n.0, n.1) refl
rest-well e t escaped bs w = refl

-- So no byte of a well-formed text is passed over.
pub past-well : (e : LineEncoding) (t : Repertoire) (bs : List ℕ) → IsWell e bs → past_in e t bs ≡ bs
past-well Utf8 repertoire.Utf8 bs w = (no-inside bs w).1
past-well e t bs w = refl

-- ---- one character

-- a character that stands for itself
meaning-itself : (escaped : Bool) (c : ℕ) (x : List ℕ) → (escaped ≡ true → (c == backslash) ≡ false)
    → meaning_by escaped (c ∷ x) ≡ in_front c (meaning_by escaped x)
meaning-itself true c x h = meaning_of-itself c x (h refl)
meaning-itself false c x h = refl

-- It is printed in front of the rest.
pub printed-itself : (e : LineEncoding) (t : Repertoire) (escaped : Bool) (bs rest : List ℕ) (c : ℕ) → text_in e bs ≡ c ∷ text_in e rest
    → (escaped ≡ true → (c == backslash) ≡ false)
    → printed_in e t escaped bs ≡ text_in_front (put_of t c) (printed_in e t escaped rest)
printed-itself e t escaped bs rest c h k =
    rw (h, meaning-itself escaped c (text_in e rest) k) (printed-one t c (meaning_in e escaped rest))

-- One byte more of a run is printed.
pub record IsByte (e : LineEncoding) (t : Repertoire) (escaped : Bool) (b : ℕ) (bs : List ℕ) : Type 0 where
  pub printed : rest_in e t escaped (b ∷ bs) ≡ text_in_front (printed_byte b) (rest_in e t escaped bs)
  pub well : IsWell e (past_in e t bs)

-- from a place at which a character begins, to another
whole-byte : (e : LineEncoding) (t : Repertoire) (escaped : Bool) (b c : ℕ) (bs : List ℕ) → IsWell e (b ∷ bs) → IsWell e bs
    → text_in e (b ∷ bs) ≡ c ∷ text_in e bs → (escaped ≡ true → (c == backslash) ≡ false) → put_of t c ≡ printed_byte b → IsByte e t escaped b bs
whole-byte e t escaped b c bs w v s k p = record {
  printed = rw (rest-well e t escaped (b ∷ bs) w, rest-well e t escaped bs v, ← p) (printed-itself e t escaped (b ∷ bs) bs c s k);
  well = subst (IsWell e) (sym (past-well e t bs v)) v;
}

-- A byte that isn't inside a character stands at a place at which one begins.
pub starts-well : (e : LineEncoding) (t : Repertoire) (b : ℕ) (bs : List ℕ) → (is_copied e t ≡ true → is_inside b ≡ false)
    → IsWell e (past_in e t (b ∷ bs)) → IsWell e (b ∷ bs)
starts-well Utf8 repertoire.Utf8 b bs h w = subst IsUtf8 (cond-false (is_inside b) _ _ (h refl)) w
starts-well e t b bs h w = w

ascii-byte : (e : LineEncoding) (t : Repertoire) (escaped : Bool) (b : ℕ) (bs : List ℕ) → b < 0x80 → IsWell e (past_in e t (b ∷ bs))
    → (escaped ≡ true → (b == backslash) ≡ false) → IsByte e t escaped b bs
ascii-byte e t escaped b bs h w k =
    let own = starts-well e t b bs (λ _. not-inside b h) w in
    let a = ascii-first e b bs h own in
    whole-byte e t escaped b b bs own a.well a.characters k (put-ascii t b h)

-- ---- a non-ASCII byte that is copied

inside-all : (xs rest : List ℕ) → AreWide xs → AreInside xs → (inside (xs ++ rest) ≡ xs ++ inside rest) × (past (xs ++ rest) ≡ past rest)
inside-all [] rest w h = (refl, refl)
inside-all (x ∷ xs) rest w h =
    let more = inside-all xs rest w.1 h.1 in
    rw (is-inside x w.0 h.0, more.0, more.1) (refl, refl)

-- the first byte of a character
lead-byte : (escaped : Bool) (b : ℕ) (bs : List ℕ) → 0xc0 ≤ b → IsUtf8 (b ∷ bs) → IsByte Utf8 repertoire.Utf8 escaped b bs
lead-byte escaped b bs h ([], (s, w)) = absurd (cc)
lead-byte escaped b bs h ((c ∷ cs), (s, w)) = elim (bytes-of c) [
  | one low e ↦ absurd (let one : c ∷ encodes cs ≡ b ∷ bs = ap (λ v. v ++ encodes cs) (sym e) ∙ w in let is : c ≡ b = cc in omega arith)
  | wide high d xs e l k m ↦
      let rest = encodes cs in
      let u : IsUtf8 (b ∷ bs) = ((c ∷ cs), (s, w)) in
      let a = character_and (b ∷ bs) rest c u (sym w) in
      let f : b ∷ bs ≡ d ∷ xs ++ rest = sym w ∙ ap (λ v. v ++ rest) e in
      let first : b ≡ d = cc in
      let others : bs ≡ xs ++ rest = cc in
      let n = no-inside rest a.utf8 in
      let i = inside-all xs rest k m in
      let in_bs : inside bs ≡ xs = ap inside others ∙ i.0 ∙ ap (λ v. xs ++ v) n.0 ∙ append-nil xs in
      let past_bs : past bs ≡ rest = ap past others ∙ i.1 ∙ n.1 in
      let whole = rest-well Utf8 repertoire.Utf8 escaped (b ∷ bs) u in
      let itself = printed-itself Utf8 repertoire.Utf8 escaped (b ∷ bs) rest c a.characters (λ k. wide-no_backslash c high) in
      record {
        printed = rw (whole, itself, put-utf_8 c high, e, in_bs, past_bs, past-byte b (omega arith), ← first) refl;
        well = subst IsUtf8 (sym past_bs) a.utf8;
      }
]

-- a byte inside a character
inside-byte : (escaped : Bool) (b : ℕ) (bs : List ℕ) → 0x80 ≤ b → b < 0xc0 → IsUtf8 (past (b ∷ bs)) → IsByte Utf8 repertoire.Utf8 escaped b bs
inside-byte escaped b bs h k w =
    let i = is-inside b h k in
    record { printed = rw (i, past-byte b h) refl; well = rw i at w }

past-copied : (e : LineEncoding) (t : Repertoire) (escaped : Bool) (b : ℕ) (bs : List ℕ) → 0x80 ≤ b → b < 256 → is_copied e t ≡ true
    → IsWell e (past_in e t (b ∷ bs)) → IsByte e t escaped b bs
past-copied Windows1252 repertoire.Windows1252 escaped b bs h k is w =
    whole-byte Windows1252 repertoire.Windows1252 escaped b (windows_1252_character b) bs tt tt refl
    (λ q. same backslash (omega arith) b ∙ ne_eqb b backslash (λ x. absurd (omega arith)))
    (byte-printed (windows_1252_character b) b (windows_1252_byte-character b k))
past-copied Utf8 repertoire.Utf8 escaped b bs h k is w = elim (cases_lt b 0xc0) [
  | inl l ↦ inside-byte escaped b bs h l w
  | inr l ↦ lead-byte escaped b bs l (subst IsUtf8 (cond-false (is_inside b) _ _ (and_right (nat_le 0x80 b) (nat_lt b 0xc0) (le-ltb b 0xc0 l))) w)
]
past-copied e t escaped b bs h k is w = absurd (cc)

-- ---- runs

-- A byte that doesn't stop a run is printed by itself.
pub one-byte : (holds : ℕ → Bool) (e : LineEncoding) (t : Repertoire) (b : ℕ) (bs : List ℕ) → StopsIn holds e t → b < 256 → holds b ≡ false
    → IsWell e (past_in e t (b ∷ bs)) → IsByte e t (holds backslash) b bs
one-byte holds e t b bs s k f w = elim (cases_lt b 0x80) [
  | inl h ↦ ascii-byte e t (holds backslash) b bs h w (λ on. ne_eqb b backslash (λ q. let same : holds b ≡ holds backslash = ap holds q in absurd (cc)))
  | inr h ↦ past-copied e t (holds backslash) b bs h k (not-false (is_copied e t) (sym (s.past b h) ∙ f)) w
]

-- Bytes of a run are printed one by one, and then the rest.
pub record IsRun (e : LineEncoding) (t : Repertoire) (escaped : Bool) (xs bs : List ℕ) : Type 0 where
  pub printed : rest_in e t escaped (xs ++ bs) ≡ text_in_front (printed_bytes xs) (rest_in e t escaped bs)
  pub well : IsWell e (past_in e t bs)

-- They are, in each encoding: no stop is among them.
pub run-of : (holds : ℕ → Bool) (e : LineEncoding) (t : Repertoire) (xs bs : List ℕ) → StopsIn holds e t → All (λ b. b < 256) xs → All (λ b. holds b ≡ false) xs
    → IsWell e (past_in e t (xs ++ bs)) → IsRun e t (holds backslash) xs bs
run-of holds e t [] bs s small clear w = record { printed = refl; well = w }
run-of holds e t (x ∷ xs) bs s small clear w =
    let one = one-byte holds e t x (xs ++ bs) s (All-head (λ b. b < 256) x xs small) (All-head (λ b. holds b ≡ false) x xs clear) w in
    let more = run-of holds e t xs bs s (All-tail (λ b. b < 256) x xs small) (All-tail (λ b. holds b ≡ false) x xs clear) one.well in
    record {
      printed = simp (one.printed, more.printed, text_in_front-append);
      well = more.well;
    }
