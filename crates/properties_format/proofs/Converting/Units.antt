-- A text and what it is converted to, as parts.
use Rattle.std.proofs.Common.{rules, ◌≡◌, ℕ, ◌==◌, ◌<◌, ◌≤◌, Bool, true, false, List, [], ◌∷◌, ◌++◌, refl, ap, ap₂, subst, sym, ◌∙◌, inl, inr, arith, ltb-true, ltb-false, lit<}
use Rattle.std.specs.Prelude.{nat_lt, is_some, if◌then◌else◌}
use Rattle.std.specs.List.{AllByRecursion}
use Rattle.std.proofs.lemmas.Bool.{cases_Bool, and_parts}
use Rattle.properties_format.specs.Text.{backslash, scalar}
use Rattle.properties_format.specs.Encoding.{Encoding, encoded, begins_like_bom, Repertoire}
use Rattle.properties_format.specs.Printing.{may_be_unescaped, unicode_escape, encoded_text}
use Rattle.properties_format.specs.Escapes.{letter_u, Spelling, itself, escaped, unicode, surrogates, last, spelling_text, spelling_character, IsSpelling, Four, are_hexadecimal, four_text, is_hexadecimal}
use Rattle.properties_format.proofs.Encodings.Characters.{pair-scalar}
use Rattle.properties_format.proofs.Escapes.Digits.{hexadecimal-plain, digits}
use Rattle.properties_format.proofs.Escapes.Laws.{IsWhole}
use Rattle.properties_format.proofs.Escapes.Scalars.{code_unit-below, unit-scalar}
use Rattle.properties_format.proofs.Printing.Characters.{AreAscii, AreAscii-append, unicode_escape-ascii}
use Rattle.properties_format.proofs.ReadBack.Bytes.{AreWritable, writable-append, ascii-writable}
use Rattle.properties_format.proofs.ReadBack.Spellings.{unicode-printed}
use Rattle.properties_format.proofs.ReadBack.Texts.{safe-whole, rest-scalars}
use Rattle.properties_format.proofs.ReadBack.Unmarked.{front-unmarked}
use Rattle.properties_format.specs.Converting.{TextUnit, spelt, stray, unit_text, units_before, AreUnits, is_unicode, respelt, converted_units, first_escaped, at_front}
use Rattle.properties_format.proofs.RespeltTexts.Parts.{Part, same, after_backslash, past, lone, text, IsPast, AreParts, escaped-beyond}

-- ---- spellings of non-ASCII characters

-- A spelling of a non-ASCII character is whole.
pub whole-past : (p : Spelling) (rest : List ℕ) → IsSpelling p rest → 0x80 ≤ spelling_character p → IsWhole p
whole-past p rest h1 h2 = grind (arith)

-- the character is a scalar value if the text consists of them
pub past-scalar : (p : Spelling) → IsWhole p → 0x80 ≤ spelling_character p → (rest : List ℕ) → AllByRecursion scalar (spelling_text p ++ rest)
    → scalar (spelling_character p)
past-scalar p h1 h2 rest h3 = grind (arith, escaped-beyond, unit-scalar, code_unit-below, pair-scalar)

-- a whole spelling with this text, of this character
pub record IsRespelt (x : List ℕ) (c : ℕ) : Type 0 where
  pub spelling : Spelling
  pub text : x ≡ spelling_text spelling
  pub whole : IsWhole spelling
  pub character : c ≡ spelling_character spelling

pub escape-respelt : (c : ℕ) → scalar c → IsRespelt (unicode_escape c) c
escape-respelt c h = let p = unicode-printed c h in record { spelling = p.spelling; text = p.text; whole = safe-whole p.spelling p.safe; character = sym p.character }

pub itself-respelt : (c : ℕ) → 0x80 ≤ c → IsRespelt (c ∷ []) c
itself-respelt c h = let e : (c == backslash) ≡ false = grind (arith) in record { spelling = itself c; text = refl; whole = e; character = refl }

own-respelt : (p : Spelling) → IsWhole p → IsRespelt (spelling_text p) (spelling_character p)
own-respelt p h = record { spelling = p; text = refl; whole = h; character = refl }

pub not-below : (c : ℕ) → 0x80 ≤ c → nat_lt c 0x80 ≡ false
not-below c h = grind (arith)

choice : (x y z : List ℕ) (c : ℕ) (a m r u : Bool) → a ≡ false → IsRespelt x c → IsRespelt y c → IsRespelt z c
    → IsRespelt (if a then x else (if m then (if r then y else x) else (if u then x else z))) c
choice x y z c a m r u h1 h2 h3 h4 = grind (arith)

-- ---- units as parts

-- parts with these two texts
pub record AreBoth (x y : List ℕ) : Type 0 where
  pub parts : List Part
  pub one : x ≡ text false parts
  pub other : y ≡ text true parts
  pub are : AreParts parts

both-same : (c : ℕ) (x y : List ℕ) → (c == backslash) ≡ false → AreBoth x y → AreBoth (c ∷ x) (c ∷ y)
both-same c x y h b = record { parts = same c ∷ b.parts; one = ap (λ v. c ∷ v) b.one; other = ap (λ v. c ∷ v) b.other; are = (h, b.are) }

both-escaped : (c : ℕ) (x y : List ℕ) → AreBoth x y → AreBoth (backslash ∷ c ∷ x) (backslash ∷ c ∷ y)
both-escaped c x y b = record { parts = after_backslash c ∷ b.parts; one = ap (λ v. backslash ∷ c ∷ v) b.one; other = ap (λ v. backslash ∷ c ∷ v) b.other; are = (tt, b.are) }

both-digit : (c : ℕ) (x y : List ℕ) → is_hexadecimal c ≡ true → AreBoth x y → AreBoth (c ∷ x) (c ∷ y)
both-digit c x y h b = both-same c x y (hexadecimal-plain c h).0 b

both-escape : (d : Four) (x y : List ℕ) → are_hexadecimal d ≡ true → AreBoth x y
    → AreBoth (backslash ∷ letter_u ∷ four_text d ++ x) (backslash ∷ letter_u ∷ four_text d ++ y)
both-escape d x y h b =
    let g = digits d h in
    search (rules, both-escaped, both-digit)

both-last : AreBoth (backslash ∷ []) (backslash ∷ [])
both-last = record { parts = lone ∷ []; one = refl; other = refl; are = (refl, tt) }

both-past : (p : Spelling) (z x y : List ℕ) → IsWhole p → 0x80 ≤ spelling_character p → IsRespelt z (spelling_character p) → AreBoth x y
    → AreBoth (spelling_text p ++ x) (z ++ y)
both-past p z x y h k r b = record {
  parts = past p r.spelling ∷ b.parts;
  one = ap (λ v. spelling_text p ++ v) b.one;
  other = ap₂ (λ u v. u ++ v) r.text b.other;
  are = (record { one = h; other = r.whole; alike = r.character; beyond = k }, b.are);
}

-- one spelling before parts
both-spelling : (r : Repertoire) (readable : Bool) (p : Spelling) (x y : List ℕ) → IsSpelling p x → AllByRecursion scalar (spelling_text p ++ x) → AreBoth x y
    → (x ≡ [] → y ≡ []) → AreBoth (spelling_text p ++ x) (respelt r readable p ++ y)
both-spelling r readable p x y h s b n = elim (cases_Bool (nat_lt (spelling_character p) 0x80)) [
  | inl k ↦ rw k (below p h)
  | inr k ↦ search (rules, ltb-false, whole-past, both-past, past-scalar, choice, not-below, own-respelt, itself-respelt, escape-respelt)
]
  where
    below : (p : Spelling) → IsSpelling p x → AreBoth (spelling_text p ++ x) (spelling_text p ++ y)
    below (itself c) h = both-same c x y h b
    below (escaped c) h = both-escaped c x y b
    below (unicode d) h = both-escape d x y h.0 b
    below (surrogates high low) h = search (rules, both-escape)
    below last h = rw (h, n h) both-last

pub unit-some : (u : TextUnit) (x : List ℕ) → unit_text u ++ x ≡ [] → ⊥
unit-some u x h1 = grind (arith)

pub none-left : (r : Repertoire) (readable : Bool) (us : List TextUnit) → units_before us [] ≡ [] → converted_units r readable us ≡ []
none-left r readable [] h = refl
none-left r readable (u ∷ us) h = absurd (unit-some u (units_before us []) h)

pub both : (r : Repertoire) (readable : Bool) (us : List TextUnit) → AreUnits us [] → AllByRecursion scalar (units_before us [])
    → AreBoth (units_before us []) (converted_units r readable us)
both r readable [] h s = search (rules)
both r readable (spelt p ∷ us) h s =
    grind (arith, both-spelling, both r readable us h.1 (rest-scalars (spelling_text p) (units_before us []) s), rest-scalars, none-left)
both r readable (stray ∷ us) h s =
    grind (arith, both-escaped, both r readable us h.1 (rest-scalars (backslash ∷ letter_u ∷ []) (units_before us []) s), rest-scalars)

-- ---- the front

pub escape-first : (c : ℕ) → (y : List ℕ) × (unicode_escape c ≡ backslash ∷ y)
escape-first c = elim (cases_Bool (nat_lt c 0x1_0000)) [
  | inl k ↦ rw k (_, refl)
  | inr k ↦ rw k (_, refl)
]

-- What begins with a backslash doesn't begin like a byte order mark.
pub backslash-front : (e : Encoding) (y : List ℕ) → begins_like_bom (encoded_text e (backslash ∷ y)) ≡ true → ⊥
backslash-front e y h = let f = front-unmarked e (backslash ∷ y) backslash y refl (lit< tt) in cc

-- With its first character escaped, the other text has the same parts with another spelling of the first.
front-past : (e : Encoding) (p q : Spelling) (ps : List Part) → IsPast p q → AreParts ps → scalar (spelling_character p)
    → begins_like_bom (encoded_text e (spelling_text q ++ text true ps)) ≡ true
    → AreBoth (spelling_text p ++ text false ps) (first_escaped (spelling_text q ++ text true ps))
front-past e p (itself c) ps h k s b =
    both-past p (unicode_escape c) (text false ps) (text true ps) h.one h.beyond
    (let f : spelling_character p ≡ c = h.alike in subst (λ v. IsRespelt (unicode_escape v) (spelling_character p)) f (escape-respelt (spelling_character p) s))
    (record { parts = ps; one = refl; other = refl; are = k })
front-past e p (escaped c) ps h k s b = absurd (backslash-front e (c ∷ text true ps) b)
front-past e p (unicode d) ps h k s b = absurd (backslash-front e (letter_u ∷ (four_text d ++ text true ps)) b)
front-past e p (surrogates high low) ps h k s b = search (rules, backslash-front)
front-past e p last ps h k s b = absurd h.other

front-both : (e : Encoding) (ps : List Part) → AreParts ps → AllByRecursion scalar (text false ps) → begins_like_bom (encoded_text e (text true ps)) ≡ true
    → AreBoth (text false ps) (first_escaped (text true ps))
front-both e [] h s b = absurd (let f : begins_like_bom [] ≡ false = refl in cc)
front-both e (same c ∷ ps) h s b = elim (cases_Bool (nat_lt c 0x80)) [
  | inl k ↦ let f = front-unmarked e (c ∷ text true ps) c (text true ps) refl (ltb-true c 0x80 k) in absurd (cc)
  | inr k ↦ both-past (itself c) _ _ _ h.0 (ltb-false c 0x80 k) (escape-respelt c s.0) (record { parts = ps; one = refl; other = refl; are = h.1 })
]
front-both e (after_backslash c ∷ ps) h s b = absurd (backslash-front e (c ∷ text true ps) b)
front-both e (past p q ∷ ps) h s b = front-past e p q ps h.0 h.1 (past-scalar p h.0.one h.0.beyond (text false ps) s) b
front-both e (lone ∷ ps) h s b = absurd (backslash-front e (text true ps) b)

-- The text and what is written for it.
pub all-both : (r : Repertoire) (readable : Bool) (us : List TextUnit) → AreUnits us [] → AllByRecursion scalar (units_before us [])
    → AreBoth (units_before us []) (at_front r.encoding (converted_units r readable us))
all-both r readable us h s =
    let b = both r readable us h s in
    elim (cases_Bool (begins_like_bom (encoded_text r.encoding (converted_units r readable us)))) [
      | inl k ↦ grind (arith, front-both)
      | inr k ↦ rw k b
    ]

-- ---- what is written can be encoded

digit-ascii : (c : ℕ) → is_hexadecimal c ≡ true → c < 0x80
digit-ascii c h = grind (arith)

four-ascii : (d : Four) → are_hexadecimal d ≡ true → AreAscii (backslash ∷ letter_u ∷ four_text d)
four-ascii d h = grind (arith, digits, digit-ascii)

one-writable : (r : Repertoire) (c : ℕ) → scalar c → may_be_unescaped r c ≡ true → AreWritable r.encoding (c ∷ [])
one-writable r c h k = record { scalars = (h, tt); encodable = ((and_parts _ (is_some (encoded r.encoding c)) k).1, tt) }

pub below-ascii : (p : Spelling) (rest : List ℕ) → IsSpelling p rest → spelling_character p < 0x80 → AreAscii (spelling_text p)
below-ascii p rest h1 h2 = search (rules, four-ascii, AreAscii-append)

kept-writable : (r : Repertoire) (p : Spelling) → IsWhole p → 0x80 ≤ spelling_character p → scalar (spelling_character p)
    → may_be_unescaped r (spelling_character p) ≡ true → AreWritable r.encoding (spelling_text p)
kept-writable r (itself c) h b s k = one-writable r c s k
kept-writable r (escaped c) h b s k = grind (arith, escaped-beyond, writable-append, ascii-writable, one-writable)
kept-writable r (unicode d) h b s k = ascii-writable r.encoding _ (four-ascii d h.0)
kept-writable r (surrogates high low) h b s k = search (rules, ascii-writable, AreAscii-append, four-ascii)
kept-writable r last h b s k = absurd h

pub unicode-ascii : (p : Spelling) → IsWhole p → is_unicode p ≡ true → AreAscii (spelling_text p)
unicode-ascii p h1 h2 = grind (arith, four-ascii, AreAscii-append)

-- what meets a choice, if each alternative meets it where it is taken
pub chosen : (P : List ℕ → Type 0) (x y z : List ℕ) (a m r u : Bool) → (a ≡ true → P x) → (a ≡ false → m ≡ true → P y) → (a ≡ false → m ≡ true → P x)
    → (a ≡ false → m ≡ false → u ≡ true → P x) → (a ≡ false → m ≡ false → P z) → P (if a then x else (if m then (if r then y else x) else (if u then x else z)))
chosen P x y z a m r u h1 h2 h3 h4 h5 = grind (arith)

respelt-writable : (r : Repertoire) (readable : Bool) (p : Spelling) (x : List ℕ) → IsSpelling p x → AllByRecursion scalar (spelling_text p ++ x)
    → AreWritable r.encoding (respelt r readable p)
respelt-writable r readable p x h s =
    let c = spelling_character p in
    chosen (AreWritable r.encoding) (spelling_text p) (c ∷ []) (unicode_escape c) (nat_lt c 0x80) (may_be_unescaped r c) readable (is_unicode p)
    (λ a. ascii-writable r.encoding (spelling_text p) (below-ascii p x h (ltb-true c 0x80 a)))
    (λ a m. let b = ltb-false c 0x80 a in let w = whole-past p x h b in one-writable r c (past-scalar p w b x s) m)
    (λ a m. let b = ltb-false c 0x80 a in let w = whole-past p x h b in kept-writable r p w b (past-scalar p w b x s) m)
    (λ a m u. let b = ltb-false c 0x80 a in let w = whole-past p x h b in ascii-writable r.encoding (spelling_text p) (unicode-ascii p w u))
    (λ a m. ascii-writable r.encoding (unicode_escape c) (unicode_escape-ascii c))

pub units-writable : (r : Repertoire) (readable : Bool) (us : List TextUnit) → AreUnits us [] → AllByRecursion scalar (units_before us [])
    → AreWritable r.encoding (converted_units r readable us)
units-writable r readable [] h s = record { scalars = tt; encodable = tt }
units-writable r readable (spelt p ∷ us) h s =
    grind (arith, writable-append, respelt-writable, units-writable r readable us h.1 (rest-scalars (spelling_text p) (units_before us []) s), rest-scalars)
units-writable r readable (stray ∷ us) h s =
    grind (arith, writable-append, ascii-writable, units-writable r readable us h.1 (rest-scalars (backslash ∷ letter_u ∷ []) _ s), rest-scalars)

front-writable : (e : Encoding) (x : List ℕ) → AreWritable e x → AreWritable e (first_escaped x)
front-writable e [] h = h
front-writable e (c ∷ x) h = search (rules, writable-append, ascii-writable, unicode_escape-ascii)

pub all-writable : (r : Repertoire) (readable : Bool) (us : List TextUnit) → AreUnits us [] → AllByRecursion scalar (units_before us [])
    → AreWritable r.encoding (at_front r.encoding (converted_units r readable us))
all-writable r readable us h s =
    let x = converted_units r readable us in
    let w = units-writable r readable us h s in
    elim (cases_Bool (begins_like_bom (encoded_text r.encoding x))) [
      | inl k ↦ rw k (front-writable r.encoding x w)
      | inr k ↦ rw k w
    ]

-- What is written doesn't begin like a byte order mark.
pub all-unmarked : (e : Encoding) (x : List ℕ) → begins_like_bom (encoded_text e (at_front e x)) ≡ false
all-unmarked e x = elim (cases_Bool (begins_like_bom (encoded_text e x))) [
  | inl k ↦ rw k (escaped-unmarked x k)
  | inr k ↦ rw k k
]
  where
    escaped-unmarked : (x : List ℕ) → begins_like_bom (encoded_text e x) ≡ true → begins_like_bom (encoded_text e (first_escaped x)) ≡ false
    escaped-unmarked [] k = k ∙ absurd (let f : begins_like_bom [] ≡ false = refl in cc)
    escaped-unmarked (c ∷ x) k = let f = escape-first c in front-unmarked e (unicode_escape c ++ x) backslash (f.0 ++ x) (ap (λ v. v ++ x) f.1) (lit< tt)
