-- Sources that are their own results, and texts that stay.
use Rattle.std.proofs.Common.{rules, ◌≡◌, ℕ, suc, ◌+◌, ◌<◌, ◌≤◌, Bool, true, false, List, [], ◌∷◌, ◌++◌, length, get_or, refl, ap, ap₂, subst, sym, ◌∙◌, inl, inr, append_assoc, ltb-false, lit<, arith}
use Rattle.std.specs.Prelude.{All, is_some, unwrap_or, nat_lt, ◌&&◌, ◌⊎◌}
use Rattle.std.specs.List.{AllByRecursion}
use Rattle.std.proofs.lemmas.Bool.{cases_Bool}
use Rattle.std.proofs.lemmas.List.{length-append, get_or-append-add}
use Rattle.std.proofs.lemmas.List.Elements.{recursion_from_All}
use Rattle.properties_format.specs.Text.{backslash, byte, piece_characters}
use Rattle.properties_format.specs.Encoding.{Encoding, windows_1252, utf_8, one_byte, begins_like_bom, Repertoire, all_of}
use Rattle.properties_format.specs.Printing.{may_be_unescaped, encoded_text}
use Rattle.properties_format.specs.Escapes.{letter_u, is_hexadecimal, Four, four_text, are_hexadecimal, escaped_character, Spelling, itself, escaped, unicode, surrogates, last, spelling_text, spelling_character, NoSpelling}
use Rattle.properties_format.specs.Computed.Encoding.{pieces_of, decoded_of}
use Rattle.properties_format.specs.Computed.Cut.{windows_1252_characters}
use Rattle.properties_format.proofs.AsciiOnly.{ascii-unmarked, ascii-of}
use Rattle.properties_format.proofs.Encodings.ByteOrderMarks.{decoded_of-unmarked}
use Rattle.properties_format.proofs.Encodings.Pieces.{decoded_of-meets, decoded_of-only}
use Rattle.properties_format.proofs.Encodings.Windows1252.{windows_1252_byte-character}
use Rattle.properties_format.proofs.Printing.Characters.{AreAscii, AreEncodable-ascii, encoded_text-ascii, may_be_unescaped-ascii}
use Rattle.properties_format.proofs.ReadBack.Bytes.{text-decoded, ascii-scalars}
use Rattle.properties_format.proofs.Undecoded.{decodes}
use Rattle.properties_format.specs.Converting.{TextUnit, spelt, stray, unit_text, units_before, IsUnit, AreUnits, respelt, converted_units, at_front, IsConverted, KeptIsItself, AsciiIsItself}
use Rattle.properties_format.specs.Computed.Converting.{units_of, converted_of}
use Rattle.properties_format.proofs.Escapes.Digits.{digits}
use Rattle.properties_format.proofs.RespeltTexts.Parts.{escaped-beyond}
use Rattle.properties_format.proofs.Converting.Again.{below-stays, respelt-unicode, respelt-kept}
use Rattle.properties_format.proofs.Converting.One.{units-found}
use Rattle.properties_format.proofs.Converting.Chunks.{units_of-meets, converted_of-unit, converted_of-is}

-- The output has each of these characters.
abbrev AllMay : Repertoire → List ℕ → Type 0
AllMay r [] = Unit {0}
AllMay r (c ∷ cs) = (may_be_unescaped r c ≡ true) × AllMay r cs

may-rest : (r : Repertoire) (x y : List ℕ) → AllMay r (x ++ y) → AllMay r y
may-rest r [] y h = h
may-rest r (c ∷ x) y h = may-rest r x y h.1

no : (b : Bool) → (b && false) ≡ false
no b = grind (arith)

-- A spelling of a non-ASCII character stays.
past-stays : (r : Repertoire) (p : Spelling) (x : List ℕ) → 0x80 ≤ spelling_character p → AllMay r (spelling_text p ++ x) → respelt r false p ≡ spelling_text p
past-stays r (itself c) x k h = respelt-kept r false (itself c) k h.0 refl
past-stays r (escaped c) x k h =
    let b = escaped-beyond c k in
    let f : escaped_character c ≡ c = grind (arith) in
    respelt-kept r false (escaped c) k (ap (may_be_unescaped r) f ∙ h.1.0) refl
past-stays r (unicode d) x k h = respelt-unicode r false (unicode d) _ false k refl refl refl (no _)
past-stays r (surrogates high low) x k h = respelt-unicode r false (surrogates high low) _ false k refl refl refl (no _)
past-stays r last x k h = absurd (grind (arith))

units-stay : (r : Repertoire) (us : List TextUnit) → AllMay r (units_before us []) → converted_units r false us ≡ units_before us []
units-stay r [] h = refl
units-stay r (stray ∷ us) h = ap (λ v. unit_text stray ++ v) (units-stay r us (may-rest r (unit_text stray) (units_before us []) h))
units-stay r (spelt p ∷ us) h = ap₂ (λ x y. x ++ y) own (units-stay r us (may-rest r (spelling_text p) (units_before us []) h))
  where
    own : respelt r false p ≡ spelling_text p
    own = elim (cases_Bool (nat_lt (spelling_character p) 0x80)) [
      | inl k ↦ below-stays r false p k
      | inr k ↦ past-stays r p (units_before us []) (ltb-false (spelling_character p) 0x80 k) h
    ]

-- A source whose text the output has is its own result, if that text is its bytes.
itself-converted : (e : Encoding) (to : Repertoire) (source : List ℕ) → AllMay to (decoded_of e source)
    → source ≡ encoded_text to.encoding (decoded_of e source) → begins_like_bom source ≡ false → IsConverted e to false source source
itself-converted e to source m s f =
    let x = decoded_of e source in
    let k = units-found x in
    let c : converted_units to false k.units ≡ x = units-stay to k.units (subst (AllMay to) k.whole m) ∙ sym k.whole in
    record {
      text = x;
      units = k.units;
      decoded = decoded_of-meets e source;
      whole = k.whole;
      each = k.each;
      bytes = s ∙ ap (encoded_text to.encoding) (sym (ap (at_front to.encoding) c ∙ search (rules)));
    }

-- ---- what an encoding has

utf_8-has : (x : List ℕ) → AllMay (all_of utf_8) x
utf_8-has [] = tt
utf_8-has (c ∷ x) = (refl, utf_8-has x)

windows-has : (d : List ℕ) → AllByRecursion byte d → AllMay (all_of windows_1252) (windows_1252_characters d)
windows-has [] h = tt
windows-has (b ∷ d) h = (ap (λ o. is_some (one_byte o)) (windows_1252_byte-character b h.0), windows-has d h.1)

pub kept-is-itself : (e : Encoding) (source : List ℕ) → KeptIsItself e source
kept-is-itself e source h own f text d s = itself-converted e (all_of e) source
    (search (rules, decoded_of-unmarked, decodes, windows-has, recursion_from_All, utf_8-has))
    (s ∙ ap (encoded_text e) (decoded_of-only e source text d)) f

-- ---- ASCII

ascii-may : (r : Repertoire) (x : List ℕ) → AreAscii x → AllMay r x
ascii-may r [] h = tt
ascii-may r (c ∷ x) h = (may_be_unescaped-ascii r c h.0, ascii-may r x h.1)

pub ascii-is-itself : (e : Encoding) (to : Repertoire) (source : List ℕ) → AsciiIsItself e to source
ascii-is-itself e to source h own =
    let a = ascii-of source h in
    let f : begins_like_bom source ≡ false = ap begins_like_bom (sym (encoded_text-ascii e source a)) ∙ ascii-unmarked e source a in
    let d : decoded_of e source ≡ source =
    decoded_of-unmarked e source f
    ∙ ap (λ v. piece_characters (pieces_of e v)) (sym (encoded_text-ascii e source a))
    ∙ subst (λ v. piece_characters (pieces_of v (encoded_text e source)) ≡ source) own (text-decoded e source (ascii-scalars source a) (AreEncodable-ascii e source a)) in
    itself-converted e to source (subst (AllMay to) (sym d) (ascii-may to source a)) (sym (ap (encoded_text to.encoding) d ∙ encoded_text-ascii to.encoding source a)) f

-- ---- texts

-- A text stays, if the output has its characters.
text-stays : (r : Repertoire) (x : List ℕ) → AllMay r x → converted_of r false x ≡ x
text-stays r x h = grind (arith, units_of-meets, converted_of-is, units-stay)

pub utf_8-stays : (x : List ℕ) → converted_of (all_of utf_8) false x ≡ x
utf_8-stays x = text-stays (all_of utf_8) x (utf_8-has x)

pub windows-stays : (d : List ℕ) → All byte d → converted_of (all_of windows_1252) false (windows_1252_characters d) ≡ windows_1252_characters d
windows-stays d h = text-stays (all_of windows_1252) (windows_1252_characters d) (windows-has d (recursion_from_All byte d h))

-- The bytes of the characters of bytes.
pub windows-bytes : (d : List ℕ) → All byte d → encoded_text windows_1252 (windows_1252_characters d) ≡ d
windows-bytes d h = bytes d (recursion_from_All byte d h)
  where
    bytes : (d : List ℕ) → AllByRecursion byte d → encoded_text windows_1252 (windows_1252_characters d) ≡ d
    bytes [] h = refl
    bytes (b ∷ d) h = ap₂ (λ o x. unwrap_or (one_byte o) [] ++ x) (windows_1252_byte-character b h.0) (bytes d h.1)

-- ---- a run of ASCII characters at the front of a text

-- It doesn't end in a backslash.
abbrev pub IsClosed : List ℕ → Type 0
IsClosed x = (n : ℕ) → length x ≡ suc n → get_or x n 0 ≡ backslash → ⊥

-- No `\u` escape goes on in this text: it begins with a non-ASCII character, or with a backslash and no `u`.
abbrev pub IsApart : List ℕ → Type 0
IsApart y = (c : ℕ) (z : List ℕ) → y ≡ c ∷ z → (0x80 ≤ c) ⊎ ((c ≡ backslash) × (get_or z 0 0 ≡ letter_u → ⊥))

closed-rest : (t x : List ℕ) → IsClosed (t ++ x) → IsClosed x
closed-rest t x k n l b = k (length t + n) (omega (arith, length-append t x, l)) (get_or-append-add t x n 0 ∙ b)

-- the text of digits, or of digits and another escape
abbrev IsTail : List ℕ → Type 0
IsTail [] = Unit {0}
IsTail (c ∷ t) = (c < 0x80) × (c ≡ backslash → get_or t 0 0 ≡ letter_u) × IsTail t

four-tail : (d : Four) (t : List ℕ) → are_hexadecimal d ≡ true → IsTail t → IsTail (four_text d ++ t)
four-tail d t h k =
    let g = digits d h in
    digit d.first (d.second ∷ d.third ∷ d.fourth ∷ t) g.0 (digit d.second (d.third ∷ d.fourth ∷ t) g.1 (digit d.third (d.fourth ∷ t) g.2 (digit d.fourth t g.3 k)))
  where
    digit : (c : ℕ) (t : List ℕ) → is_hexadecimal c ≡ true → IsTail t → IsTail (c ∷ t)
    digit c t h k = (grind (arith), (λ e. absurd (grind (arith))), k)

-- Such a text, at the front of a run and more, is at the front of the run.
record Front (t rest : List ℕ) : Type 0 where
  after : List ℕ
  whole : rest ≡ t ++ after

front-of : (t z rest y : List ℕ) → IsTail t → IsApart y → rest ++ y ≡ t ++ z → Front t rest
front-of [] z rest y h a e = record { after = rest; whole = refl }
front-of (c ∷ t) z [] y h a e = elim (a c (t ++ z) e) [ inl l ↦ absurd (omega (arith, h.0, l)) | inr m ↦ absurd (m.1 (first t (h.1 m.0))) ]
  where
    first : (t : List ℕ) → get_or t 0 0 ≡ letter_u → get_or (t ++ z) 0 0 ≡ letter_u
    first [] e = absurd (omega arith)
    first (d ∷ t) e = e
front-of (c ∷ t) z (b ∷ rest) y h a e = grind (arith, front-of t z rest y h.2 a (cc))

-- No escape begins in a run and more, if none begins in the run.
none-more : (rest y : List ℕ) → IsApart y → NoSpelling (backslash ∷ letter_u ∷ rest) → NoSpelling (backslash ∷ letter_u ∷ rest ++ y)
none-more rest y a n (itself c) z e h = let f : backslash ≡ c = cc in absurd (grind (arith))
none-more rest y a n (escaped c) z e h = let f : letter_u ≡ c = cc in absurd (grind (arith))
none-more rest y a n (unicode d) z e h =
    let f = front-of (four_text d) z rest y (four-tail d [] h.0 tt) a (cc) in
    n (unicode d) f.after (ap (λ v. backslash ∷ letter_u ∷ v) f.whole) h
none-more rest y a n (surrogates high low) z e h =
    let k = four-tail high (backslash ∷ letter_u ∷ four_text low) h.0 (lit< tt, (λ q. refl), (lit< tt, (λ q. absurd (omega (arith, q))), four-tail low [] h.2 tt)) in
    let f = front-of (four_text high ++ backslash ∷ letter_u ∷ four_text low) z rest y k a (cc) in
    n (surrogates high low) f.after (ap (λ v. backslash ∷ letter_u ∷ v) f.whole) h
none-more rest y a n last z e h = let f : z ≡ [] = h in absurd (cc)

unit-more : (u : TextUnit) (rest y : List ℕ) → IsClosed (unit_text u ++ rest) → IsApart y → IsUnit u rest → IsUnit u (rest ++ y)
unit-more (spelt last) rest y k a h = absurd (k 0 (ap (λ v. length (backslash ∷ v)) h) refl)
unit-more stray rest y k a h = none-more rest y a h
unit-more (spelt p) rest y k a h = h

-- The units of a run, and of what comes after it.
run-units : (r : Repertoire) (us : List TextUnit) (y : List ℕ) → IsClosed (units_before us []) → IsApart y → AreUnits us []
    → converted_of r false (units_before us [] ++ y) ≡ converted_units r false us ++ converted_of r false y
run-units r [] y k a h = refl
run-units r (u ∷ us) y k a h =
    let x = units_before us [] in
    search (append_assoc, converted_of-unit, unit-more, run-units r us y (closed-rest (unit_text u) x k) a h.1, closed-rest)

-- The run stays.
pub run-stays : (r : Repertoire) (x y : List ℕ) → AreAscii x → IsClosed x → IsApart y → converted_of r false (x ++ y) ≡ x ++ converted_of r false y
run-stays r x y h k a =
    let u = units_of-meets x in
    ap (λ v. converted_of r false (v ++ y)) u.0 ∙ run-units r (units_of x) y (subst IsClosed u.0 k) a u.1
    ∙ ap (λ v. v ++ converted_of r false y) (sym (converted_of-is r false x) ∙ text-stays r x (ascii-may r x h))
