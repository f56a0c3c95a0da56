-- What converting a front of some bytes comes to, in either encoding.
use Rattle.std.proofs.Common.{◌≡◌, ℕ, Fits, w8, suc, ◌+◌, ◌-◌, ◌<◌, ◌≤◌, ◌==◌, Bool, true, false, List, [], ◌∷◌, ◌++◌, length, take, drop, get_or, refl, sym, ap, ap₂, ◌∙◌, subst, inl, inr, append_assoc, arith, lit<, lt-ltb, ne_eqb, eqb-true}
use Rattle.std.specs.Prelude.{nat_le, ◌&&◌, ◌⊎◌, encode_utf8}
use Rattle.std.specs.List.{All, AllByRecursion}
use lib.Utf8.{encodes, scalars, scalar as is_scalar}
use Rattle.std.proofs.lemmas.Bool.{cases_Bool, cases_lt, and_from}
use Rattle.std.proofs.lemmas.Bool.Decides.{nat_tests}
use Rattle.std.proofs.lemmas.List.{take_rest, length-map, length-append, length-drop, length-take, length-take-le, get_or-drop, get_or-take, take-append-drop}
use Rattle.std.proofs.lemmas.List.Elements.{All-head, All-tail, All-drop, All-from_get_or, recursion_from_All}
use Rattle.std.proofs.lemmas.Str.{encodes-chars, chars-nil, chars-encodes}
use Rattle.std.proofs.Math.Seq.{take-append_seam}
use Rattle.std.specs.Str.{IsUtf8, chars}
use Rattle.properties_format.specs.Text.{backslash, byte, scalar, piece_characters}
use Rattle.properties_format.specs.Encoding.{Encoding, InForce, windows_1252, utf_8, begins_like_bom}
use Rattle.properties_format.specs.Computed.Encoding.{pieces_of, decoded_of}
use Rattle.properties_format.proofs.Encodings.Pieces.{decoded_of-meets}
use Rattle.properties_format.proofs.Encodings.WellFormed.{char-from_scalar}
use Rattle.properties_format.proofs.ReadBack.Bytes.{AreWritable, text-decoded}
use Rattle.properties_format.specs.Windows1252.{windows_1252_character}
use Rattle.properties_format.specs.Printing.{may_be_unescaped, literal, encoded_text, unicode_escape}
use Rattle.properties_format.specs.Escapes.{letter_u, escaped_character, Spelling, itself, escaped, unicode, surrogates, last, spelling_text, spelling_character, IsSpelling, NoSpelling, four_text}
use Rattle.properties_format.proofs.Printing.Characters.{AreAscii, encoded_text-append, encoded_text-ascii, unicode_escape-ascii}
use Rattle.properties_format.specs.Converting.{TextUnit, spelt, unit_text, IsUnit, is_unicode, respelt, converted_unit, first_escaped, at_front, IsConverted}
use Rattle.properties_format.specs.Computed.Converting.{units_of, converted_of}
use Rattle.properties_format.proofs.RespeltTexts.Parts.{escaped-beyond}
use Rattle.properties_format.proofs.Converting.Units.{below-ascii, unicode-ascii, whole-past, units-writable}
use Rattle.properties_format.proofs.Converting.Laws.{text-scalars}
use Rattle.properties_format.proofs.Converting.Again.{below-stays, respelt-itself, respelt-unicode, respelt-held, respelt-kept, respelt-lacked}
use Rattle.properties_format.proofs.Converting.Itself.{IsClosed, IsApart, run-stays, utf_8-stays, windows-stays, windows-bytes}
use Rattle.properties_format.proofs.Converting.Chunks.{converted_of-unit, converted_of-empty, converted_of-is, units_of-meets}
use Rattle.properties_text.specs.Escaping.{text_in, IsWell, IsFirst, IsRead}
use Rattle.properties_text.specs.Encoding.{encoding_of, IsBody, text_of}
use Rattle.properties_text.specs.declared.encoding.Encoding as named
use Rattle.properties_text.specs.Printing.{in_format}
use Rattle.properties_text.specs.PrintedTexts.{is_copied}
use Rattle.properties_text.specs.Converted.{converted_in, unit_in, is_stop, StaysUpTo, IsConvertedFront, IsUnitFront, line_encoding_of, body_bytes}
use Rattle.properties_text.specs.declared.encoding.line_encoding.LineEncoding.{LineEncoding}
use Rattle.properties_text.specs.declared.encoding.line_encoding.LineEncoding.TheVariants.{Windows1252, Utf8}
use Rattle.properties_text.specs.declared.encoding.line_encoding.ReadCharacter.{ReadCharacter}
use Rattle.properties_text.specs.declared.print.Repertoire.{Repertoire}
use Rattle.properties_text.specs.declared.print.Repertoire.TheVariants as repertoire
use Rattle.properties_format.proofs.Undecoded.{decodes}
use Rattle.properties_text.proofs.SpeltTexts.First.{ascii-first, ascii-back}
use Rattle.properties_text.proofs.SpeltTexts.Escapes.{after-u}

-- ---- bytes and characters

-- Well-formed bytes of the same characters are as many.
same-length : (e : LineEncoding) (a b : List ℕ) → IsWell e a → IsWell e b → text_in e a ≡ text_in e b → length a ≡ length b
same-length Windows1252 a b h k s = sym (length-map a windows_1252_character) ∙ ap length s ∙ length-map b windows_1252_character
same-length Utf8 a b h k s = ap length (sym (encodes-chars a h) ∙ ap encodes s ∙ encodes-chars b k)

-- ASCII characters at the front are the bytes at the front.
record AreBytes (e : LineEncoding) (bs x y : List ℕ) : Type 0 where
  more : List ℕ
  whole : bs ≡ x ++ more
  well : IsWell e more
  text : text_in e more ≡ y

ascii-all : (e : LineEncoding) (bs x y : List ℕ) → IsWell e bs → AreAscii x → text_in e bs ≡ x ++ y → AreBytes e bs x y
ascii-all e bs [] y w h s = record { more = bs; whole = refl; well = w; text = s }
ascii-all e bs (c ∷ x) y w h s =
    let one = ascii-back e bs c (x ++ y) w s h.0 in
    let k = ascii-all e one.0 x y one.2 h.1 one.3 in
    record { more = k.more; whole = one.1 ∙ ap (λ v. c ∷ v) k.whole; well = k.well; text = k.text }

-- A front that is an ASCII text, by the number of its bytes.
raw : (e : LineEncoding) (bs x : List ℕ) (n : ℕ) → IsWell e bs → IsWell e (drop n bs) → n ≤ length bs → AreAscii x → text_in e bs ≡ x ++ text_in e (drop n bs)
    → (take n bs ≡ x) × (n ≡ length x)
raw e bs x n w v h a s =
    let k = ascii-all e bs x (text_in e (drop n bs)) w a s in
    let f : length k.more ≡ length (drop n bs) = same-length e k.more (drop n bs) k.well v k.text in
    let g : n ≡ length x = omega (arith, f, length-drop n bs, ap length k.whole, length-append x k.more, h) in
    (ap₂ take g k.whole ∙ take-append_seam x k.more, g)

-- ---- units

-- A unit at the front is converted by itself.
pub unit-step : (t : Repertoire) (readable : Bool) (e : LineEncoding) (u : TextUnit) (bs rest : List ℕ) → text_in e bs ≡ unit_text u ++ text_in e rest
    → IsUnit u (text_in e rest) → converted_in t readable e bs ≡ unit_in t readable u ++ converted_in t readable e rest
unit-step t readable e u bs rest s h =
    ap (λ v. encoded_text (in_format t).encoding (converted_of (in_format t) readable v)) s
    ∙ ap (encoded_text (in_format t).encoding) (converted_of-unit (in_format t) readable u (text_in e rest) h)
    ∙ encoded_text-append (in_format t).encoding (converted_unit (in_format t) readable u) (converted_of (in_format t) readable (text_in e rest))

-- Bytes that aren't stops are converted to themselves.
pub run-step : (t : Repertoire) (readable : Bool) (e : LineEncoding) (xs rest : List ℕ) → All (λ b. is_stop b ≡ false) xs → IsWell e (xs ++ rest)
    → IsWell e rest × (converted_in t readable e (xs ++ rest) ≡ xs ++ converted_in t readable e rest)
run-step t readable e [] rest h w = (w, refl)
run-step t readable e (b ∷ xs) rest h w =
    let f : is_stop b ≡ false = All-head (λ b. is_stop b ≡ false) b xs h in
    let k : b < 0x80 = grind (arith, nat_tests) in
    let n : (b == backslash) ≡ false = grind (arith, nat_tests) in
    let a = ascii-first e b (xs ++ rest) k w in
    let more = run-step t readable e xs rest (All-tail (λ b. is_stop b ≡ false) b xs h) a.well in
    let own : unit_in t readable (spelt (itself b)) ≡ b ∷ [] = ap (encoded_text (in_format t).encoding)
    (below-stays (in_format t) readable (itself b) (lt-ltb b 0x80 k)) ∙ encoded_text-ascii (in_format t).encoding (b ∷ []) (k, tt) in
    (more.0, unit-step t readable e (spelt (itself b)) (b ∷ xs ++ rest) (xs ++ rest) a.characters n ∙ ap₂ (λ x y. x ++ y) own more.1)

-- What holds of the bytes before a place.
clear-front : (P : ℕ → Type 0) (text : List ℕ) (n : ℕ) → ((k : ℕ) → k < n → P (get_or text k 0)) → All P (take n text)
clear-front P text n h =
    All-from_get_or P (take n text) 0 (λ k inside.
    let small : k < n = omega (arith, inside, length-take n text) in
    subst P (sym (get_or-take n text k 0 small)) (h k small))

-- ---- what was put

-- A run that stays was copied.
pub run-front : {t : Repertoire} {readable : Bool} {e : LineEncoding} {old text new : List ℕ} {at end : ℕ} {rest : List ℕ} (n : ℕ) → IsWell e text
    → StaysUpTo readable text n → rest ≡ drop n text → take end new ≡ take at old ++ take n text → IsConvertedFront t readable e old at text end rest new
run-front {t} {readable} {e} {old} {text} {new} {at} {end} {rest} n w h r put =
    let k = h t e w in
    record {
      well = subst (IsWell e) (sym r) k.0;
      left = omega (arith, ap length r, length-drop n text);
      converted = ap (λ v. take at old ++ v) k.1 ∙ sym (append_assoc (take at old) (take n text) (converted_in t readable e (drop n text)))
          ∙ ap₂ (λ x y. x ++ converted_in t readable e y) (sym put) (sym r);
    }

-- A unit was converted.
pub unit-front : {t : Repertoire} {readable : Bool} {e : LineEncoding} {old text new : List ℕ} {at : ℕ} {end : ℕ} {rest : List ℕ}
    → IsUnitFront t readable e old at text end rest new → IsConvertedFront t readable e old at text end rest new
unit-front {t} {readable} {e} {old} {text} {new} {at} {end} {rest} u = record {
  well = u.well;
  left = omega (arith, u.shorter);
  converted = ap (λ v. take at old ++ v) (unit-step t readable e u.unit text rest u.begins u.is_unit)
      ∙ sym (append_assoc (take at old) (unit_in t readable u.unit) (converted_in t readable e rest))
      ∙ ap (λ v. v ++ converted_in t readable e rest) (sym u.put);
}

-- One front after another.
pub front-on : {t : Repertoire} {readable : Bool} {e : LineEncoding} {old text mid new : List ℕ} {at : ℕ} {mid_end final : ℕ} {middle rest : List ℕ}
    → IsConvertedFront t readable e old at text mid_end middle mid
    → IsConvertedFront t readable e mid mid_end middle final rest new → IsConvertedFront t readable e old at text final rest new
front-on a b = record { well = b.well; left = omega (arith, a.left, b.left); converted = a.converted ∙ b.converted }

-- All was converted.
pub converted-nil : (t : Repertoire) (readable : Bool) (e : LineEncoding) → converted_in t readable e [] ≡ []
converted-nil t readable Windows1252 = ap (encoded_text (in_format t).encoding) (converted_of-empty (in_format t) readable)
converted-nil t readable Utf8 = ap (λ v. encoded_text (in_format t).encoding (converted_of (in_format t) readable v)) chars-nil
    ∙ ap (encoded_text (in_format t).encoding) (converted_of-empty (in_format t) readable)

-- ---- what was put for a unit

-- A character that is itself.
pub itself-unit : {t : Repertoire} {e : LineEncoding} {old text new : List ℕ} {at end : ℕ} {it : ReadCharacter} (readable : Bool) → IsWell e text
    → (get_or text 0 0 ≡ backslash → ⊥) → IsFirst e text it
    → take end new ≡ take at old ++ encoded_text (in_format t).encoding (literal (in_format t) it.character)
    → IsUnitFront t readable e old at text end (drop it.length text) new
itself-unit {t} {e} {old} {text} {new} {at} {end} {it} readable w n h put = record {
  unit = TextUnit.spelt (itself it.character);
  begins = h.is;
  is_unit = ne_eqb it.character backslash (λ q.
      let back = ascii-back e text it.character (text_in e (drop it.length text)) w h.is (omega (arith, q)) in
      n (ap (λ v. get_or v 0 0) back.1 ∙ q));
  well = h.well;
  shorter = omega (arith, h.some, h.within, length-drop it.length text);
  put = put ∙ ap (λ v. take at old ++ encoded_text (in_format t).encoding v) (sym (respelt-itself (in_format t) readable it.character));
}

-- a `\u` at which no spelling begins
pub record IsStray (e : LineEncoding) (text : List ℕ) : Type 0 where
  pub more : List ℕ
  pub whole : text ≡ backslash ∷ letter_u ∷ more
  pub well : IsWell e more
  pub begins : text_in e text ≡ backslash ∷ letter_u ∷ text_in e more

after-backslash : (e : LineEncoding) (bs x : List ℕ) → IsWell e bs → text_in e bs ≡ x → NoSpelling (backslash ∷ x)
    → text_in e (backslash ∷ bs) ≡ backslash ∷ text_in e bs → IsStray e (backslash ∷ bs)
after-backslash e bs [] w s n f = absurd (n last [] refl refl)
after-backslash e bs (c ∷ y) w s n f = elim (cases_Bool (c == letter_u)) [
  | inl k ↦
      let u = eqb-true c letter_u k in
      let back = ascii-back e bs c y w s (omega (arith, u)) in
      record {
        more = back.0;
        whole = ap (λ v. backslash ∷ v) (back.1 ∙ ap (λ v. v ∷ back.0) u);
        well = back.2;
        begins = f
            ∙ ap (λ v. backslash ∷ v) (s ∙ ap₂ (λ v z. v ∷ z) u (sym back.3));
      }
  | inr k ↦ absurd (n (escaped c) y refl k)
]

pub stray-text : (e : LineEncoding) (text : List ℕ) → IsWell e text → 0 < length text → get_or text 0 0 ≡ backslash → NoSpelling (text_in e text)
    → IsStray e text
stray-text e [] w s f n = absurd (omega arith)
stray-text e (b ∷ bs) w s f n =
    let g : b ≡ backslash = f in
    let w2 : IsWell e (backslash ∷ bs) = subst (λ v. IsWell e (v ∷ bs)) g w in
    let a = ascii-first e backslash bs (lit< tt) w2 in
    let m : NoSpelling (backslash ∷ text_in e bs) = subst NoSpelling (ap (λ v. text_in e (v ∷ bs)) g ∙ a.characters) n in
    subst (λ v. IsStray e (v ∷ bs)) (sym g) (after-backslash e bs (text_in e bs) a.well refl m a.characters)

pub stray-unit : {t : Repertoire} {e : LineEncoding} {old text new rest : List ℕ} {at end : ℕ} (readable : Bool) → NoSpelling (text_in e text) → IsStray e text
    → rest ≡ drop 2 text → take end new ≡ take at old ++ take 2 text → IsUnitFront t readable e old at text end rest new
stray-unit {t} {e} {old} {text} {new} {rest} {at} {end} readable n k r put =
    let same : rest ≡ k.more = r ∙ ap (drop 2) k.whole in
    record {
      unit = TextUnit.stray;
      begins = k.begins ∙ ap (λ v. backslash ∷ letter_u ∷ text_in e v) (sym same);
      is_unit = subst (λ v. NoSpelling (backslash ∷ letter_u ∷ text_in e v)) (sym same) (subst NoSpelling k.begins n);
      well = subst (IsWell e) (sym same) k.well;
      shorter = omega (arith, ap length same, ap length k.whole);
      put = put ∙ ap (λ v. take at old ++ take 2 v) k.whole ∙ ap (λ v. take at old ++ v)
          (sym (encoded_text-ascii (in_format t).encoding (backslash ∷ letter_u ∷ []) (lit< tt, (lit< tt, tt))));
    }

-- A spelling that stays, in ASCII.
pub record Stays (t : Repertoire) (readable : Bool) (e : LineEncoding) (text : List ℕ) (it : ReadCharacter) (p : Spelling) : Type 0 where
  pub few : it.length ≤ 16
  pub front : take it.length text ≡ unit_in t readable (TextUnit.spelt p)

few-characters : (p : Spelling) → length (spelling_text p) ≤ 12
few-characters (itself c) = omega arith
few-characters (escaped c) = omega arith
few-characters (unicode d) = omega arith
few-characters (surrogates high low) = omega arith
few-characters last = omega arith

stays : {e : LineEncoding} {text : List ℕ} {it : ReadCharacter} (t : Repertoire) (readable : Bool) → IsWell e text → (h : IsRead e text it)
    → AreAscii (spelling_text h.is.spelling)
    → respelt (in_format t) readable h.is.spelling ≡ spelling_text h.is.spelling → Stays t readable e text it h.is.spelling
stays {e} {text} {it} t readable w h a f =
    let p = h.is.spelling in
    let k = raw e text (spelling_text p) it.length w h.well h.within a h.is.whole in
    record {
      few = omega (arith, k.1, few-characters p);
      front = k.0 ∙ sym (encoded_text-ascii (in_format t).encoding (spelling_text p) a) ∙ ap (encoded_text (in_format t).encoding) (sym f);
    }

pub ascii-stays : {e : LineEncoding} {text : List ℕ} {it : ReadCharacter} (t : Repertoire) (readable : Bool) → IsWell e text → (h : IsRead e text it)
    → it.character < 0x80 → Stays t readable e text it h.is.spelling
ascii-stays {e} {text} {it} t readable w h k =
    let p = h.is.spelling in
    let below : spelling_character p < 0x80 = subst (λ n. n < 0x80) h.is.character k in
    stays t readable w h (below-ascii p (text_in e (drop it.length text)) h.is.stands below)
    (below-stays (in_format t) readable p (lt-ltb (spelling_character p) 0x80 below))

-- which spellings are `\u` escapes, by the second byte
two-characters : (p : Spelling) (x y : List ℕ) → IsSpelling p x → 0x80 ≤ spelling_character p → spelling_text p ++ x ≡ backslash ∷ letter_u ∷ y
    → is_unicode p ≡ true
two-characters (itself c) x y h k e = let f : c ≡ backslash = cc in absurd (grind (arith))
two-characters (escaped c) x y h k e = let f : c ≡ letter_u = cc in absurd (grind (arith))
two-characters (unicode d) x y h k e = refl
two-characters (surrogates high low) x y h k e = refl
two-characters last x y h k e = absurd (grind (arith))

pub unicode-is : {e : LineEncoding} {text : List ℕ} {it : ReadCharacter} → IsWell e text → (h : IsRead e text it) → get_or text 0 0 ≡ backslash → 1 < length text
    → get_or text 1 0 ≡ letter_u → 0x80 ≤ it.character → is_unicode h.is.spelling ≡ true
unicode-is {e} {text} {it} w h f l g k =
    let a = after-u e text w (omega arith, f, g) in
    two-characters h.is.spelling (text_in e (drop it.length text)) (text_in e (drop 2 text)) h.is.stands (subst (λ n. 0x80 ≤ n) h.is.character k)
    (sym h.is.whole ∙ a.characters)

unicode-begins : (p : Spelling) (x : List ℕ) → is_unicode p ≡ true → (y : List ℕ) × (spelling_text p ++ x ≡ backslash ∷ letter_u ∷ y)
unicode-begins (itself c) x h = absurd (cc)
unicode-begins (escaped c) x h = absurd (cc)
unicode-begins (unicode d) x h = (four_text d ++ x, refl)
unicode-begins (surrogates high low) x h = (four_text high ++ backslash ∷ letter_u ∷ four_text low ++ x, refl)
unicode-begins last x h = absurd (cc)

pub unicode-not : {e : LineEncoding} {text : List ℕ} {it : ReadCharacter} → IsWell e text → (h : IsRead e text it)
    → (1 < length text → (get_or text 1 0 == letter_u) ≡ false) → is_unicode h.is.spelling ≡ false
unicode-not {e} {text} {it} w h n = elim (cases_Bool (is_unicode h.is.spelling)) [
  | inl k ↦
      let b = unicode-begins h.is.spelling (text_in e (drop it.length text)) k in
      let a = ascii-all e text (backslash ∷ letter_u ∷ []) b.0 w (lit< tt, (lit< tt, tt)) (h.is.whole ∙ b.1) in
      let l : 1 < length text = omega (arith, ap length a.whole) in
      let f = n l in
      let g : get_or text 1 0 ≡ letter_u = ap (λ v. get_or v 1 0) a.whole in
      absurd (grind (arith))
  | inr k ↦ k
]

pub escape-stays : {e : LineEncoding} {text : List ℕ} {it : ReadCharacter} {m : Bool} (t : Repertoire) (readable : Bool) → IsWell e text → (h : IsRead e text it)
    → 0x80 ≤ it.character → is_unicode h.is.spelling ≡ true → m ≡ may_be_unescaped (in_format t) it.character → (m && readable) ≡ false
    → Stays t readable e text it h.is.spelling
escape-stays {e} {text} {it} {m} t readable w h k u f n =
    let p = h.is.spelling in
    let z : 0x80 ≤ spelling_character p = subst (λ c. 0x80 ≤ c) h.is.character k in
    let g : may_be_unescaped (in_format t) (spelling_character p) ≡ m = ap (may_be_unescaped (in_format t)) (sym h.is.character) ∙ sym f in
    stays t readable w h (unicode-ascii p (whole-past p (text_in e (drop it.length text)) h.is.stands z) u)
    (respelt-unicode (in_format t) readable p m readable z u g refl n)

-- A spelling whose bytes were put.
pub spelling-unit : {t : Repertoire} {readable : Bool} {e : LineEncoding} {old text new rest x : List ℕ} {at end : ℕ} {it : ReadCharacter} → (h : IsRead e text it)
    → rest ≡ drop it.length text → take end new ≡ take at old ++ x → x ≡ unit_in t readable (TextUnit.spelt h.is.spelling)
    → IsUnitFront t readable e old at text end rest new
spelling-unit {e = e} {old} {text} {at = at} {it = it} h r put same = record {
  unit = TextUnit.spelt h.is.spelling;
  begins = h.is.whole ∙ ap (λ v. spelling_text h.is.spelling ++ text_in e v) (sym r);
  is_unit = subst (λ v. IsSpelling h.is.spelling (text_in e v)) (sym r) h.is.stands;
  well = subst (IsWell e) (sym r) h.well;
  shorter = omega (arith, h.some, h.within, length-drop it.length text, ap length r);
  put = put ∙ ap (λ v. take at old ++ v) same;
}

-- A character that is put instead of its spelling.
pub literal-put : {e : LineEncoding} {text : List ℕ} {it : ReadCharacter} {m : Bool} (t : Repertoire) (readable : Bool) → (h : IsRead e text it) → 0x80 ≤ it.character
    → m ≡ may_be_unescaped (in_format t) it.character → ((m ≡ true) × (readable ≡ true)) ⊎ ((m ≡ false) × (is_unicode h.is.spelling ≡ false))
    → encoded_text (in_format t).encoding (literal (in_format t) it.character) ≡ unit_in t readable (TextUnit.spelt h.is.spelling)
literal-put {it = it} {m} t readable h k f b =
    let p = h.is.spelling in
    let z : 0x80 ≤ spelling_character p = subst (λ c. 0x80 ≤ c) h.is.character k in
    let g : may_be_unescaped (in_format t) (spelling_character p) ≡ m = ap (may_be_unescaped (in_format t)) (sym h.is.character) ∙ sym f in
    let same : literal (in_format t) it.character ≡ literal (in_format t) (spelling_character p) = ap (literal (in_format t)) h.is.character in
    ap (encoded_text (in_format t).encoding) (elim b [
      | inl c ↦ same ∙ sym (respelt-held (in_format t) readable p z (g ∙ c.0) c.1)
      | inr c ↦ same ∙ sym (respelt-lacked (in_format t) readable p z (g ∙ c.0) c.1)
    ])

-- A character that is put after its backslash.
escaped-text : (p : Spelling) (x y : List ℕ) → IsSpelling p x → 0x80 ≤ spelling_character p → is_unicode p ≡ false → spelling_text p ++ x ≡ backslash ∷ y
    → spelling_text p ≡ backslash ∷ spelling_character p ∷ []
escaped-text (itself c) x y h k u e = let f : c ≡ backslash = cc in absurd (grind (arith))
escaped-text (escaped c) x y h k u e = let b = escaped-beyond c k in let f : escaped_character c ≡ c = grind (arith) in ap (λ v. backslash ∷ v ∷ []) (sym f)
escaped-text (unicode d) x y h k u e = absurd (cc)
escaped-text (surrogates high low) x y h k u e = absurd (cc)
escaped-text last x y h k u e = absurd (grind (arith))

held-literal : (t : Repertoire) (c : ℕ) → may_be_unescaped (in_format t) c ≡ true → literal (in_format t) c ≡ c ∷ []
held-literal t c h = rw h refl

pub backslash-put : {e : LineEncoding} {text : List ℕ} {it : ReadCharacter} {m : Bool} (t : Repertoire) (readable : Bool) → IsWell e text → (h : IsRead e text it)
    → get_or text 0 0 ≡ backslash → 0x80 ≤ it.character → m ≡ may_be_unescaped (in_format t) it.character → m ≡ true → readable ≡ false
    → is_unicode h.is.spelling ≡ false
    → (backslash ∷ []) ++ encoded_text (in_format t).encoding (literal (in_format t) it.character) ≡ unit_in t readable (TextUnit.spelt h.is.spelling)
backslash-put {e} {text} {it} t readable w h b k f on off u =
    let p = h.is.spelling in
    let c = it.character in
    let z : 0x80 ≤ spelling_character p = subst (λ n. 0x80 ≤ n) h.is.character k in
    let g : may_be_unescaped (in_format t) (spelling_character p) ≡ true = ap (may_be_unescaped (in_format t)) (sym h.is.character) ∙ sym f ∙ on in
    let begins = first-backslash e text w (omega (arith, h.some, h.within)) b in
    let s : spelling_text p ≡ backslash ∷ spelling_character p ∷ [] = escaped-text p (text_in e (drop it.length text)) begins.0 h.is.stands z u
    (sym h.is.whole ∙ begins.1) in
    ap (λ v. (backslash ∷ []) ++ encoded_text (in_format t).encoding v) (held-literal t c (sym f ∙ on))
    ∙ ap (λ v. v ++ encoded_text (in_format t).encoding (c ∷ [])) (sym (encoded_text-ascii (in_format t).encoding (backslash ∷ []) (lit< tt, tt)))
    ∙ sym (encoded_text-append (in_format t).encoding (backslash ∷ []) (c ∷ []))
    ∙ ap (λ v. encoded_text (in_format t).encoding (backslash ∷ v ∷ [])) h.is.character
    ∙ ap (encoded_text (in_format t).encoding) (sym s ∙ sym (respelt-kept (in_format t) readable p z g off))
  where
    first-backslash : (e : LineEncoding) (text : List ℕ) → IsWell e text → 0 < length text → get_or text 0 0 ≡ backslash
        → (y : List ℕ) × (text_in e text ≡ backslash ∷ y)
    first-backslash e [] w s f = absurd (omega arith)
    first-backslash e (b ∷ bs) w s f =
        let g : b ≡ backslash = f in
        (text_in e bs, ap (λ v. text_in e (v ∷ bs)) g ∙ (ascii-first e backslash bs (lit< tt) (subst (λ v. IsWell e (v ∷ bs)) g w)).characters)

-- ---- a run

-- The bytes before a stop stay.
pub stops-stay : (readable : Bool) (text : List ℕ) (n : ℕ) → ((k : ℕ) → k < n → is_stop (get_or text k 0) ≡ false) → StaysUpTo readable text n
stops-stay readable text n h t e w =
    let whole = sym (take-append-drop n text) in
    let k = run-step t readable e (take n text) (drop n text) (clear-front (λ b. is_stop b ≡ false) text n h) (subst (IsWell e) whole w) in
    (k.0, ap (converted_in t readable e) whole ∙ k.1)

-- If spellings are kept, ASCII bytes stay that don't end in a backslash, before bytes in which no escape goes on.
apart-text : (e : LineEncoding) (bytes : List ℕ) → IsWell e bytes → IsApart bytes → IsApart (text_in e bytes)
apart-text e bytes w a c z s = elim (cases_lt c 0x80) [
  | inr l ↦ inl l
  | inl l ↦
      let k = ascii-back e bytes c z w s l in
      elim (a c k.0 k.1) [
        | inl m ↦ absurd (omega (arith, l, m))
        | inr m ↦ inr (m.0, λ u. m.1 (next k.0 z k.2 k.3 u))
      ]
]
  where
    next : (x z : List ℕ) → IsWell e x → text_in e x ≡ z → get_or z 0 0 ≡ letter_u → get_or x 0 0 ≡ letter_u
    next x [] w s u = absurd (omega arith)
    next x (d ∷ z) w s u = ap (λ v. get_or v 0 0) (ascii-back e x d z w s (omega (arith, u))).1 ∙ u

ascii-run : (e : LineEncoding) (x rest : List ℕ) → AreAscii x → IsWell e (x ++ rest) → IsWell e rest × (text_in e (x ++ rest) ≡ x ++ text_in e rest)
ascii-run e [] rest h w = (w, refl)
ascii-run e (b ∷ x) rest h w =
    let a = ascii-first e b (x ++ rest) h.0 w in
    let more = ascii-run e x rest h.1 a.well in
    (more.0, a.characters ∙ ap (λ v. b ∷ v) more.1)

pub kept-stays : (text : List ℕ) (n : ℕ) → ((k : ℕ) → k < n → get_or text k 0 < 0x80) → IsClosed (take n text) → IsApart (drop n text) → StaysUpTo false text n
kept-stays text n h k a t e w =
    let x = take n text in
    let y = drop n text in
    let whole = sym (take-append-drop n text) in
    let ascii : AreAscii x = recursion_from_All (λ b. b < 0x80) x (clear-front (λ b. b < 0x80) text n h) in
    let r = ascii-run e x y ascii (subst (IsWell e) whole w) in (
      r.0,
      ap (λ v. encoded_text (in_format t).encoding (converted_of (in_format t) false v)) (ap (text_in e) whole ∙ r.1)
          ∙ ap (encoded_text (in_format t).encoding) (run-stays (in_format t) x (text_in e y) ascii k (apart-text e y r.0 a))
          ∙ encoded_text-append (in_format t).encoding x (converted_of (in_format t) false (text_in e y))
          ∙ ap (λ v. v ++ converted_in t false e y) (encoded_text-ascii (in_format t).encoding x ascii),
    )

-- The bytes before the first non-ASCII byte stay, and so do those before the backslashes at their end.
pub trimmed-stay : (text : List ℕ) (n past : ℕ) → n ≤ past → past ≤ length text → ((k : ℕ) → k < past → nat_le 0x80 (get_or text k 0) ≡ false)
    → (past < length text → nat_le 0x80 (get_or text past 0) ≡ true) → ((k : ℕ) → n ≤ k → k < past → get_or text k 0 ≡ backslash)
    → (get_or text (n - 1) 0 ≡ backslash → ⊥) → StaysUpTo false text n
trimmed-stay text n past w l before at back not = kept-stays text n (λ k s. let b = before k (omega (arith, s, w)) in grind (arith, nat_tests)) closed apart
  where
    closed : IsClosed (take n text)
    closed m s b =
        let small : m < n = omega (arith, s, length-take n text) in
        let is : m ≡ n - 1 = omega (arith, s, length-take-le n text (omega (arith, w, l))) in
        not (ap (λ v. get_or text v 0) (sym is) ∙ sym (get_or-take n text m 0 small) ∙ b)

    apart : IsApart (drop n text)
    apart c z s =
        let size : length text - n ≡ suc (length z) = sym (length-drop n text) ∙ ap length s in
        let here : get_or text (n + 0) 0 ≡ c = sym (get_or-drop n text 0 0) ∙ ap (λ v. get_or v 0 0) s in
        elim (cases_lt n past) [
          | inl f ↦ inr (sym here ∙ back (n + 0) (omega arith) (omega (arith, f)), second z s f)
          | inr f ↦ let high = at (omega (arith, w, f, size)) in inl (grind (arith, nat_tests))
        ]
      where
        second : (z : List ℕ) → drop n text ≡ c ∷ z → n < past → get_or z 0 0 ≡ letter_u → ⊥
        second [] s f u = omega (arith, u)
        second (d ∷ z) s f u =
            let next : get_or text (n + 1) 0 ≡ letter_u = sym (get_or-drop n text 1 0) ∙ ap (λ v. get_or v 1 0) s ∙ u in
            elim (cases_lt (n + 1) past) [
              | inl g ↦ omega (arith, next, back (n + 1) (omega arith) g)
              | inr g ↦
                  let same : n + 1 ≡ past = omega (arith, f, g) in
                  let is : get_or text past 0 ≡ letter_u = ap (λ k. get_or text k 0) (sym same) ∙ next in
                  let high = at (omega (arith, same, length-drop n text, ap length s)) in
                  absurd (grind (arith, nat_tests))
            ]

-- ---- the bytes of a text

utf_8-encoded : (x : List ℕ) → encoded_text utf_8 x ≡ encodes x
utf_8-encoded [] = refl
utf_8-encoded (c ∷ x) = ap (λ v. encode_utf8 c ++ v) (utf_8-encoded x)

-- Those of the characters of bytes.
same-bytes : (t : Repertoire) (bytes : List ℕ) → IsWell (line_encoding_of t) bytes → All byte bytes
    → encoded_text (in_format t).encoding (text_in (line_encoding_of t) bytes) ≡ bytes
same-bytes repertoire.Windows1252 bytes w b = windows-bytes bytes b
same-bytes repertoire.Latin1 bytes w b = windows-bytes bytes b
same-bytes repertoire.Utf8 bytes w b = utf_8-encoded (chars bytes) ∙ encodes-chars bytes w
same-bytes repertoire.Ascii bytes w b = utf_8-encoded (chars bytes) ∙ encodes-chars bytes w

-- They are well-formed, and their characters are the text.
utf_8-written : (x : List ℕ) → AllByRecursion scalar x → IsUtf8 (encoded_text utf_8 x) × (chars (encoded_text utf_8 x) ≡ x)
utf_8-written x h = ((x, (all x h, sym (utf_8-encoded x))), ap chars (utf_8-encoded x) ∙ chars-encodes x (all x h))
  where
    all : (x : List ℕ) → AllByRecursion scalar x → scalars x ≡ true
    all [] h = refl
    all (c ∷ x) h = and_from (is_scalar c) (scalars x) (char-from_scalar c h.0) (all x h.1)

written-text : (t : Repertoire) (x : List ℕ) → AreWritable (in_format t).encoding x
    → IsWell (line_encoding_of t) (encoded_text (in_format t).encoding x) × (text_in (line_encoding_of t) (encoded_text (in_format t).encoding x) ≡ x)
written-text repertoire.Windows1252 x w = (tt, sym (decodes (encoded_text windows_1252 x)) ∙ text-decoded windows_1252 x w.scalars w.encodable)
written-text repertoire.Latin1 x w = (tt, sym (decodes (encoded_text windows_1252 x)) ∙ text-decoded windows_1252 x w.scalars w.encodable)
written-text repertoire.Utf8 x w = utf_8-written x w.scalars
written-text repertoire.Ascii x w = utf_8-written x w.scalars

-- A text whose characters the result has stays.
pub utf_8-copied : (text : List ℕ) → IsUtf8 text → converted_in repertoire.Utf8 false Utf8 text ≡ text
utf_8-copied text w = ap (encoded_text utf_8) (utf_8-stays (chars text)) ∙ utf_8-encoded (chars text) ∙ encodes-chars text w

pub copied-stays : (t : Repertoire) (e : LineEncoding) (text : List ℕ) → is_copied e t ≡ true → IsWell e text → All byte text
    → converted_in t false e text ≡ text
copied-stays repertoire.Windows1252 Windows1252 text h w b = ap (encoded_text windows_1252) (windows-stays text b) ∙ windows-bytes text b
copied-stays repertoire.Utf8 Utf8 text h w b = utf_8-copied text w
copied-stays repertoire.Utf8 Windows1252 text h w b = absurd (cc)
copied-stays repertoire.Windows1252 Utf8 text h w b = absurd (cc)
copied-stays repertoire.Latin1 Windows1252 text h w b = absurd (cc)
copied-stays repertoire.Latin1 Utf8 text h w b = absurd (cc)
copied-stays repertoire.Ascii Windows1252 text h w b = absurd (cc)
copied-stays repertoire.Ascii Utf8 text h w b = absurd (cc)

-- The bytes with the first character escaped.
pub front_bytes : (t : Repertoire) (bytes : List ℕ) (it : ReadCharacter) (e : LineEncoding) → ((i : ℕ) → Fits w8 (get_or bytes i 0)) → e ≡ line_encoding_of t
    → IsFirst e bytes it → ([] ++ unicode_escape it.character) ++ take (length bytes - it.length) (drop it.length bytes) ≡ encoded_text (in_format t).encoding
    (first_escaped (text_in (line_encoding_of t) bytes))
front_bytes t bytes it e b s f =
    let h : IsFirst (line_encoding_of t) bytes it = subst (λ e. IsFirst e bytes it) s f in
    let rest = drop it.length bytes in
    let all = All-drop byte it.length bytes (All-from_get_or byte bytes 0 (λ i inside. omega (arith, b i))) in
    ap₂ (λ x y. x ++ y) (sym (encoded_text-ascii (in_format t).encoding (unicode_escape it.character) (unicode_escape-ascii it.character)))
    (take_rest bytes it.length ∙ sym (same-bytes t rest h.well all))
    ∙ sym (encoded_text-append (in_format t).encoding (unicode_escape it.character) (text_in (line_encoding_of t) rest))
    ∙ ap (λ v. encoded_text (in_format t).encoding (first_escaped v)) (sym h.is)

-- ---- a source

-- the bytes that were written, and what they are to be
pub converted-source : (t : Repertoire) (readable : Bool) (e : Encoding) (source bytes : List ℕ) → All byte source
    → bytes ≡ encoded_text (in_format t).encoding (at_front (in_format t).encoding (converted_of (in_format t) readable (decoded_of e source)))
    → IsConverted e (in_format t) readable source bytes
converted-source t readable e source bytes k h =
    let u = units_of-meets (decoded_of e source) in
    record {
      text = decoded_of e source;
      units = units_of (decoded_of e source);
      decoded = decoded_of-meets e source;
      whole = u.0;
      each = u.1;
      bytes = h ∙ ap (λ v. encoded_text (in_format t).encoding (at_front (in_format t).encoding v))
          (converted_of-is (in_format t) readable (decoded_of e source));
    }

-- the bytes and the text that a source comes to
pub source-written : (t : Repertoire) (readable : Bool) (e : Encoding) (source bytes : List ℕ) → All byte source
    → bytes ≡ encoded_text (in_format t).encoding (converted_of (in_format t) readable (decoded_of e source))
    → IsWell (line_encoding_of t) bytes × (text_in (line_encoding_of t) bytes ≡ converted_of (in_format t) readable (decoded_of e source))
source-written t readable e source bytes k h =
    let x = decoded_of e source in
    let u = units_of-meets x in
    let s : AllByRecursion scalar x = recursion_from_All scalar x (text-scalars e source k) in
    let w = subst (AreWritable (in_format t).encoding) (sym (converted_of-is (in_format t) readable x))
    (units-writable (in_format t) readable (units_of x) u.1 (subst (AllByRecursion scalar) u.0 s)) in
    let r = written-text t (converted_of (in_format t) readable x) w in
    (subst (IsWell (line_encoding_of t)) (sym h) r.0, ap (text_in (line_encoding_of t)) h ∙ r.1)

-- Bytes that don't begin like a byte order mark, and those that do.
pub plain-source : (t : Repertoire) (readable : Bool) (e : Encoding) (source bytes : List ℕ) → All byte source
    → bytes ≡ encoded_text (in_format t).encoding (converted_of (in_format t) readable (decoded_of e source)) → begins_like_bom bytes ≡ false
    → IsConverted e (in_format t) readable source bytes
plain-source t readable e source bytes k h f =
    let x = converted_of (in_format t) readable (decoded_of e source) in
    converted-source t readable e source bytes k (h ∙ ap (encoded_text (in_format t).encoding) (sym (unmarked x (ap begins_like_bom (sym h) ∙ f))))
  where
    unmarked : (x : List ℕ) → begins_like_bom (encoded_text (in_format t).encoding x) ≡ false → at_front (in_format t).encoding x ≡ x
    unmarked x f = rw f refl

pub marked-source : (t : Repertoire) (readable : Bool) (e : Encoding) (source bytes result : List ℕ) → All byte source
    → bytes ≡ encoded_text (in_format t).encoding (converted_of (in_format t) readable (decoded_of e source)) → begins_like_bom bytes ≡ true
    → result ≡ encoded_text (in_format t).encoding (first_escaped (text_in (line_encoding_of t) bytes)) → IsConverted e (in_format t) readable source result
marked-source t readable e source bytes result k h f g =
    let x = converted_of (in_format t) readable (decoded_of e source) in
    converted-source t readable e source result k
    (g ∙ ap (λ v. encoded_text (in_format t).encoding (first_escaped v)) (source-written t readable e source bytes k h).1
    ∙ ap (encoded_text (in_format t).encoding) (sym (marked x (ap begins_like_bom (sym h) ∙ f))))
  where
    marked : (x : List ℕ) → begins_like_bom (encoded_text (in_format t).encoding x) ≡ true → at_front (in_format t).encoding x ≡ first_escaped x
    marked x f = rw f refl

-- The bytes of a body, whose characters are in a text already.
pub body-text : (t : Repertoire) (readable : Bool) (e : LineEncoding) (encoding : named.Encoding) (body text new : List ℕ)
    → text_in e text ≡ text_of encoding body → new ≡ converted_in t readable e text → new ≡ body_bytes t readable encoding body
body-text t readable e encoding body text new s h = h ∙ ap (λ v. encoded_text (in_format t).encoding (converted_of (in_format t) readable v)) s

-- In windows-1252 its bytes are.
pub windows-text : (body : List ℕ) → text_in Windows1252 body ≡ text_of named.TheVariants.WINDOWS_1252 body
windows-text body = sym (decodes body)

-- What was decoded is.
pub decoded-text : (encoding : named.Encoding) (body text : List ℕ) → chars text ≡ chars [] ++ text_of encoding body → chars text ≡ text_of encoding body
decoded-text encoding body text h = h ∙ ap (λ v. v ++ text_of encoding body) chars-nil

-- The bytes of a source.
pub source-bytes : (t : Repertoire) (readable : Bool) (requested in_force : named.Encoding) (source body bytes : List ℕ) (start : ℕ)
    → IsBody (encoding_of requested) source (encoding_of in_force) start → body ≡ drop start source → bytes ≡ body_bytes t readable in_force body
    → bytes ≡ encoded_text (in_format t).encoding (converted_of (in_format t) readable (decoded_of (encoding_of requested) source))
source-bytes t readable requested in_force source body bytes start b s h =
    h ∙ ap (λ v. encoded_text (in_format t).encoding (converted_of (in_format t) readable v))
    (ap (text_of in_force) s ∙ ap (λ v. let w : InForce = v in piece_characters (pieces_of w.encoding w.body)) (sym b.in_force))
