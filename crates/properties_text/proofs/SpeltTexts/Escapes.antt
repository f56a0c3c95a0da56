-- Escapes at the front of some bytes, in either encoding.
use Rattle.std.proofs.Common.{◌≡◌, ◌≢◌, ℕ, ◌+◌, ◌<◌, ◌≤◌, ◌==◌, ◌&&◌, true, List, [], ◌∷◌, ◌++◌, length, drop, get_or, refl, sym, ap, ap₂, ◌∙◌, subst, inl, inr, arith, lit<, ne_eqb, eqb-true}
use Rattle.std.specs.Prelude.{None, Err}
use Rattle.std.specs.Char.{IsScalar, InScalarRange, OutOfScalarRange}
use Rattle.std.proofs.lemmas.Bool.{cases_lt, cond-false, and_parts, false_from_ne_true}
use Rattle.std.proofs.lemmas.Str.{chars-nil}
use Rattle.std.proofs.lemmas.List.{get_or-drop, drop-drop, length-drop}
use Rattle.properties_format.specs.Text.{backslash}
use Rattle.properties_format.specs.Escapes.{letter_u, escaped, unicode, surrogates, last, spelling_text, NoSpelling, are_hexadecimal, code_unit, is_high, is_low, is_surrogate, pair_character, escaped_character, breaks, Four, four_text}
use Rattle.properties_format.specs.Computed.Escapes.{in_front, with_low, meaning_of}
use Rattle.properties_format.proofs.Escapes.Laws.{IsMalformedUnit}
use Rattle.properties_format.proofs.Escapes.Unique.{meaning_of-spelling}
use Rattle.properties_text.specs.Escaping.{malformed_in, text_in, IsWell, Spells, ReadsSpelt, digits_in, BeginsUnit, HasDigits, LacksDigits, HasLow, LacksLow, CountsFour, IsFirst, IsRead}
use Rattle.properties_text.specs.declared.encoding.line_encoding.LineEncoding.{LineEncoding}
use Rattle.properties_text.specs.declared.encoding.line_encoding.LineEncoding.TheVariants.{Windows1252, Utf8}
use Rattle.properties_text.specs.declared.encoding.line_encoding.ReadCharacter.{ReadCharacter}
use Rattle.properties_text.specs.declared.escape.Malformed.{Malformed}
use Rattle.properties_text.specs.declared.escape.Malformed.TheVariants.{NotEnoughDigits, NotHex, InvalidCharacter}
use Rattle.properties_text.proofs.Texts.Escapes.{IsUnit, IsUnread, malformed-unread, malformed-unpaired, scalar-unit, surrogate-unit, other-character}
use Rattle.properties_text.proofs.Texts.Units.{ascii-digits}
use Rattle.properties_text.proofs.SpeltTexts.First.{IsAfter, ascii-first, ascii-back}

-- ---- a backslash, and bytes after it

-- One ASCII byte at the front.
pub after-one : (e : LineEncoding) (bs : List ℕ) → IsWell e bs → 0 < length bs → get_or bs 0 0 < 128 → IsAfter e bs (get_or bs 0 0 ∷ []) 1
after-one e [] w s h = absurd (omega arith)
after-one e (b ∷ bs) w s h = ascii-first e b bs h w

-- Two of them.
pub after-two : (e : LineEncoding) (bs : List ℕ) → IsWell e bs → 2 ≤ length bs → get_or bs 0 0 < 128 → get_or bs 1 0 < 128
    → IsAfter e bs (get_or bs 0 0 ∷ get_or bs 1 0 ∷ []) 2
after-two e (b ∷ c ∷ bs) w s h k =
    let one = ascii-first e b (c ∷ bs) h w in
    let two = ascii-first e c bs k one.well in
    record { characters = one.characters ∙ ap (λ v. b ∷ v) two.characters; well = two.well }
after-two e bs w s h k = absurd (omega arith)

-- Four of them.
pub after-four : (e : LineEncoding) (bs : List ℕ) → IsWell e bs → 4 ≤ length bs → get_or bs 0 0 < 128 → get_or bs 1 0 < 128 → get_or bs 2 0 < 128
    → get_or bs 3 0 < 128 → IsAfter e bs (get_or bs 0 0 ∷ get_or bs 1 0 ∷ get_or bs 2 0 ∷ get_or bs 3 0 ∷ []) 4
after-four e (a ∷ b ∷ c ∷ d ∷ rest) w s k l m n =
    let one = ascii-first e a (b ∷ c ∷ d ∷ rest) k w in
    let two = ascii-first e b (c ∷ d ∷ rest) l one.well in
    let three = ascii-first e c (d ∷ rest) m two.well in
    let four = ascii-first e d rest n three.well in
    record {
      characters = one.characters ∙ ap (λ v. a ∷ v) (two.characters ∙ ap (λ v. b ∷ v) (three.characters ∙ ap (λ v. c ∷ v) four.characters));
      well = four.well;
    }
after-four e bs w s k l m n = absurd (omega arith)

-- `\u` at the front.
pub after-u : (e : LineEncoding) (bs : List ℕ) → IsWell e bs → BeginsUnit bs → IsAfter e bs (backslash ∷ letter_u ∷ []) 2
after-u e bs w b = rw (b.1, b.2) at (after-two e bs w b.0 (omega (arith, b.1)) (omega (arith, b.2)))

-- A byte after the first ones.
dropped : (bs : List ℕ) (i j : ℕ) → get_or (drop i bs) j 0 ≡ get_or bs (i + j) 0
dropped bs i j = get_or-drop i bs j 0

-- Four digits after it.
pub unit-in : (e : LineEncoding) (bs : List ℕ) → IsWell e bs → BeginsUnit bs → (value : ℕ) → HasDigits bs value
    → IsUnit (text_in e (drop 2 bs)) value (text_in e (drop 6 bs)) × IsWell e (drop 6 bs)
unit-in e bs w b value h =
    let d = digits_in bs in
    let ascii = ascii-digits d h.hexadecimal in
    let a = after-u e bs w b in
    let f = after-four e (drop 2 bs) a.well (omega (arith, h.within, length-drop 2 bs))
    (omega (arith, ascii.0, dropped bs 2 0)) (omega (arith, ascii.1, dropped bs 2 1)) (omega (arith, ascii.2, dropped bs 2 2))
    (omega (arith, ascii.3, dropped bs 2 3)) in
    let six : drop 4 (drop 2 bs) ≡ drop 6 bs = drop-drop 4 2 bs in (
      record {
        digits = d;
        whole = f.characters ∙ rw (dropped bs 2 0, dropped bs 2 1, dropped bs 2 2, dropped bs 2 3, six) refl;
        hexadecimal = h.hexadecimal;
        writes = h.writes;
      },
      subst (IsWell e) six f.well,
    )

-- Characters that are digits are their own bytes.
digits-back : (e : LineEncoding) (bs : List ℕ) (d : Four) (rest : List ℕ) → IsWell e bs → text_in e bs ≡ four_text d ++ rest → are_hexadecimal d ≡ true
    → (more : List ℕ) × (bs ≡ four_text d ++ more)
digits-back e bs d rest w s h =
    let a = ascii-digits d h in
    let one = ascii-back e bs d.first _ w s a.0 in
    let two = ascii-back e one.0 d.second _ one.2 one.3 a.1 in
    let three = ascii-back e two.0 d.third _ two.2 two.3 a.2 in
    let four = ascii-back e three.0 d.fourth _ three.2 three.3 a.3 in
    (four.0, one.1 ∙ ap (λ v. d.first ∷ v) (two.1 ∙ ap (λ v. d.second ∷ v) (three.1 ∙ ap (λ v. d.third ∷ v) four.1)))

-- the four bytes after two, if they are at the front of what is left
digits-at : (bs more : List ℕ) (d : Four) → drop 2 bs ≡ four_text d ++ more → (6 ≤ length bs) × (digits_in bs ≡ d)
digits-at (x ∷ y ∷ bs) more d e = (
  omega (arith, ap length e),
  ap (λ v. record
      { first = get_or v 0 0; second = get_or v 1 0; third = get_or v 2 0; fourth = get_or v 3 0 }) e,
)
digits-at bs more d e = absurd (cc)

-- ---- what isn't an escape

-- Without four digits in the bytes there are none in the characters.
lacking : (e : LineEncoding) (bs : List ℕ) (d : Four) (rest : List ℕ) → IsWell e (drop 2 bs) → LacksDigits bs
    → text_in e (drop 2 bs) ≡ four_text d ++ rest → are_hexadecimal d ≡ true → ⊥
lacking e bs d rest w l s h =
    let back = digits-back e (drop 2 bs) d rest w s h in
    let at = digits-at bs back.0 d back.1 in
    let all : are_hexadecimal (digits_in bs) ≡ true = ap are_hexadecimal at.1 ∙ h in
    elim l [ inl short ↦ omega (arith, at.0, short) | inr none ↦ absurd (cc) ]

-- The first four characters of a text.
four-of : (x : List ℕ) → 4 ≤ length x → (d : Four) × (rest : List ℕ) × (x ≡ four_text d ++ rest)
four-of (a ∷ b ∷ c ∷ d ∷ rest) h = (record { first = a; second = b; third = c; fourth = d }, rest, refl)
four-of x h = absurd (omega arith)

-- Why there are no four digits, by the characters.
unread : (e : LineEncoding) (bs : List ℕ) (m : Malformed) → IsWell e (drop 2 bs) → LacksDigits bs → CountsFour e (drop 2 bs) m
    → IsUnread (text_in e (drop 2 bs)) m
unread e bs NotEnoughDigits w l h = h
unread e bs NotHex w l h =
    let f = four-of (text_in e (drop 2 bs)) h in
    record { four = f.0; rest = f.1; whole = f.2; not_hexadecimal = false_from_ne_true (are_hexadecimal f.0) (lacking e bs f.0 f.1 w l f.2) }
unread e bs InvalidCharacter w l h = absurd h

-- What is malformed after `\u` makes the whole malformed.
from-u : (e : LineEncoding) (bs x : List ℕ) (m : Malformed) → text_in e bs ≡ backslash ∷ letter_u ∷ x → IsMalformedUnit x (malformed_in m) → ReadsSpelt e bs (Err m)
from-u e bs x m s h = subst (λ v. NoSpelling v × (meaning_of v ≡ breaks (malformed_in m))) (sym s) h

-- No four digits follow `\u`.
pub reads-none : (e : LineEncoding) (bs : List ℕ) (m : Malformed) → IsWell e bs → BeginsUnit bs → LacksDigits bs → CountsFour e (drop 2 bs) m
    → ReadsSpelt e bs (Err m)
reads-none e bs m w b l h =
    let a = after-u e bs w b in
    from-u e bs (text_in e (drop 2 bs)) m a.characters (malformed-unread (text_in e (drop 2 bs)) m (unread e bs m a.well l h))

-- A low surrogate doesn't follow.
no-low : (high : Four) (x : List ℕ)
    → ((low : Four) (rest : List ℕ) → x ≡ backslash ∷ letter_u ∷ four_text low ++ rest → are_hexadecimal low ≡ true → is_low (code_unit low) ≡ true → ⊥)
    → with_low high x ≡ None
no-low high (x ∷ y ∷ a ∷ b ∷ c ∷ d ∷ rest) h =
    let low : Four = record { first = a; second = b; third = c; fourth = d } in
    let test = (x == backslash && y == letter_u) && (are_hexadecimal low && is_low (code_unit low)) in
    cond-false test _ _ (false_from_ne_true test (λ t.
    let p = and_parts (x == backslash && y == letter_u) (are_hexadecimal low && is_low (code_unit low)) t in
    let q = and_parts (x == backslash) (y == letter_u) p.0 in
    let r = and_parts (are_hexadecimal low) (is_low (code_unit low)) p.1 in
    h low rest (ap₂ (λ v w. v ∷ w ∷ a ∷ b ∷ c ∷ d ∷ rest) (eqb-true x backslash q.0) (eqb-true y letter_u q.1)) r.0 r.1))
no-low high x h = refl

-- A low escape in the characters is one in the bytes.
low-back : (e : LineEncoding) (bs : List ℕ) (low : Four) (rest : List ℕ) → IsWell e bs → text_in e bs ≡ backslash ∷ letter_u ∷ four_text low ++ rest
    → are_hexadecimal low ≡ true → BeginsUnit bs × HasDigits bs (code_unit low) × (digits_in bs ≡ low)
low-back e bs low rest w s h =
    let one = ascii-back e bs backslash _ w s (lit< tt) in
    let two = ascii-back e one.0 letter_u _ one.2 one.3 (lit< tt) in
    let four = digits-back e two.0 low rest two.2 two.3 h in
    let whole : bs ≡ backslash ∷ letter_u ∷ four_text low ++ four.0 = one.1 ∙ ap (λ v. backslash ∷ v) (two.1 ∙ ap (λ v. letter_u ∷ v) four.1) in
    let at = digits-at bs four.0 low (ap (drop 2) whole) in (
      (omega (arith, at.0), ap (λ v. get_or v 0 0) whole, ap (λ v. get_or v 1 0) whole),
      record { within = at.0; hexadecimal = ap are_hexadecimal at.1 ∙ h; writes = sym (ap code_unit at.1) },
      at.1,
    )

-- A surrogate without its other half was read.
pub reads-unpaired : (e : LineEncoding) (bs : List ℕ) (high : ℕ) → IsWell e bs → BeginsUnit bs → HasDigits bs high → OutOfScalarRange high
    → LacksLow high (drop 6 bs) → ReadsSpelt e bs (Err InvalidCharacter)
reads-unpaired e bs high w b h out none =
    let a = after-u e bs w b in
    let u = unit-in e bs w b high h in
    let s = surrogate-unit (text_in e (drop 2 bs)) (text_in e (drop 6 bs)) high u.0 out in
    from-u e bs (text_in e (drop 2 bs)) InvalidCharacter a.characters
    (malformed-unpaired (text_in e (drop 2 bs)) (text_in e (drop 6 bs)) high u.0 s.0 s.1 (λ is d. no-low d (text_in e (drop 6 bs)) (λ low rest t hex l.
    let f = low-back e (drop 6 bs) low rest u.1 t hex in
    let same : code_unit low ≡ code_unit (digits_in (drop 6 bs)) = sym (ap code_unit f.2) in
    none f.0 (subst (HasDigits (drop 6 bs)) same f.1) is (sym (ap is_low same) ∙ l))))

-- ---- what is

-- What is spelt means the character and what is after it.
pub spells-meaning : (e : LineEncoding) (bs : List ℕ) (spelt : ReadCharacter) → Spells e bs spelt
    → meaning_of (text_in e bs) ≡ in_front spelt.character (meaning_of (text_in e (drop spelt.length bs)))
spells-meaning e bs spelt s = rw (s.whole, s.character) (meaning_of-spelling s.spelling (text_in e (drop spelt.length bs)) s.stands)

-- One `\u` escape was read.
pub reads-unit : {e : LineEncoding} {bs : List ℕ} {value c : ℕ} → IsWell e bs → BeginsUnit bs → HasDigits bs value → InScalarRange value → c ≡ value
    → IsScalar c → IsRead e bs record { character = c; length = 6 }
reads-unit {e} {bs} {value} w b h in_range is s =
    let a = after-u e bs w b in
    let u = unit-in e bs w b value h in
    record {
      some = omega arith;
      within = h.within;
      scalar = s;
      is = record {
        spelling = unicode u.0.digits;
        whole = a.characters ∙ ap (λ v. backslash ∷ letter_u ∷ v) u.0.whole;
        stands = (u.0.hexadecimal, sym (ap is_surrogate u.0.writes) ∙ scalar-unit value in_range);
        character = is ∙ u.0.writes;
      };
      well = u.1;
    }

-- Two were read, which are surrogates.
pub reads-pair : {e : LineEncoding} {bs : List ℕ} {high c : ℕ} → IsWell e bs → BeginsUnit bs → HasDigits bs high → HasLow high (drop 6 bs) c
    → IsScalar c → IsRead e bs record { character = c; length = 12 }
reads-pair {e} {bs} {high} w b h l s =
    let a = after-u e bs w b in
    let u = unit-in e bs w b high h in
    let a' = after-u e (drop 6 bs) u.1 l.begins in
    let low = code_unit (digits_in (drop 6 bs)) in
    let v = unit-in e (drop 6 bs) u.1 l.begins low l.digits in
    let twelve : drop 6 (drop 6 bs) ≡ drop 12 bs = drop-drop 6 6 bs in
    record {
      some = omega arith;
      within = omega (arith, l.digits.within, length-drop 6 bs);
      scalar = s;
      is = record {
        spelling = surrogates u.0.digits v.0.digits;
        whole = a.characters
            ∙ ap (λ x. backslash ∷ letter_u ∷ x) (u.0.whole ∙ ap (λ x. four_text u.0.digits ++ x) (a'.characters
            ∙ ap (λ x. backslash ∷ letter_u ∷ x) v.0.whole))
            ∙ ap (λ x. spelling_text (surrogates u.0.digits v.0.digits) ++ text_in e x) twelve;
        stands = (u.0.hexadecimal, sym (ap is_high u.0.writes) ∙ l.is_high, v.0.hexadecimal, sym (ap is_low v.0.writes) ∙ l.is_low);
        character = l.is ∙ ap₂ pair_character u.0.writes v.0.writes;
      };
      well = subst (IsWell e) twelve v.1;
    }

-- A backslash before an ASCII character was read.
pub reads-ascii : {e : LineEncoding} {bs : List ℕ} {c : ℕ} → IsWell e bs → 2 ≤ length bs → get_or bs 0 0 ≡ backslash → get_or bs 1 0 ≢ letter_u
    → get_or bs 1 0 < 128 → c ≡ escaped_character (get_or bs 1 0) → IsScalar c → IsRead e bs record { character = c; length = 2 }
reads-ascii {e} {bs} w some b other small is s =
    let x = get_or bs 1 0 in
    let a = after-two e bs w some (omega (arith, b)) small in
    record {
      some = omega arith;
      within = some;
      scalar = s;
      is = record {
        spelling = escaped x;
        whole = a.characters ∙ ap (λ v. v ∷ x ∷ text_in e (drop 2 bs)) b;
        stands = ne_eqb x letter_u other;
        character = is;
      };
      well = a.well;
    }

-- No bytes are no characters.
pub no-text : (e : LineEncoding) (bs : List ℕ) → length bs ≡ 0 → text_in e bs ≡ []
no-text Windows1252 [] h = refl
no-text Utf8 [] h = chars-nil
no-text e (b ∷ bs) h = absurd (omega arith)

-- A backslash at the end was read.
pub reads-end : {e : LineEncoding} {bs : List ℕ} → IsWell e bs → length bs ≡ 1 → get_or bs 0 0 ≡ backslash → IsRead e bs record { character = 0; length = 1 }
reads-end {e} {bs} w one b =
    let a = after-one e bs w (omega arith) (omega (arith, b)) in
    record {
      some = omega arith;
      within = omega arith;
      scalar = refl;
      is = record {
        spelling = last;
        whole = a.characters ∙ ap (λ v. v ∷ text_in e (drop 1 bs)) b;
        stands = no-text e (drop 1 bs) (omega (arith, length-drop 1 bs));
        character = refl;
      };
      well = a.well;
    }

-- A backslash before another character was read.
pub reads-past : {e : LineEncoding} {bs : List ℕ} {first : ReadCharacter} → IsWell e bs → 2 ≤ length bs → get_or bs 0 0 ≡ backslash → 0x80 ≤ get_or bs 1 0
    → IsFirst e (drop 1 bs) first → IsRead e bs record { character = first.character; length = 1 + first.length }
reads-past {e} {bs} {first} w some b past f =
    let a = after-one e bs w (omega arith) (omega (arith, b)) in
    let c = first.character in
    let rest = text_in e (drop first.length (drop 1 bs)) in
    let wide : 0x80 ≤ c = elim (cases_lt c 0x80) [
      | inl h ↦ absurd (let back = ascii-back e (drop 1 bs) c rest a.well f.is h in
          let is : get_or bs 1 0 ≡ c = sym (dropped bs 1 0) ∙ ap (λ v. get_or v 0 0) back.1 in omega arith)
      | inr h ↦ h
    ] in
    let left : drop first.length (drop 1 bs) ≡ drop (1 + first.length) bs = drop-drop first.length 1 bs in
    record {
      some = omega arith;
      within = omega (arith, f.within, length-drop 1 bs);
      scalar = f.scalar;
      is = record {
        spelling = escaped c;
        whole = a.characters ∙ ap₂ (λ x v. x ∷ v) b f.is ∙ ap (λ v. backslash ∷ c ∷ text_in e v) left;
        stands = ne_eqb c letter_u (λ q. absurd (omega arith));
        character = sym (other-character c (λ q. absurd (omega arith)) (λ q. absurd (omega arith)) (λ q. absurd (omega arith)) (λ q. absurd (omega arith)));
      };
      well = subst (IsWell e) left f.well;
    }
