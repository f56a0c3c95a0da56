-- What is converted again.
use Rattle.std.proofs.Common.{rules, ◌≡◌, ℕ, ◌==◌, ◌≤◌, Bool, true, false, List, [], ◌∷◌, ◌++◌, refl, ap, ap₂, subst, sym, ◌∙◌, inl, inr, arith, ltb-true, ltb-false}
use Rattle.std.specs.Prelude.{nat_lt, ◌&&◌, if◌then◌else◌}
use Rattle.std.specs.List.{AllByRecursion}
use Rattle.std.proofs.lemmas.Bool.{cases_Bool}
use Rattle.properties_format.specs.Text.{backslash, scalar}
use Rattle.properties_format.specs.Encoding.{Encoding, utf_8, begins_like_bom, Repertoire, all_of}
use Rattle.properties_format.specs.Printing.{may_be_unescaped, unicode_escape, literal, encoded_text}
use Rattle.properties_format.proofs.Printing.Characters.{may_be_unescaped-ascii}
use Rattle.properties_format.specs.Escapes.{letter_u, Spelling, itself, escaped, unicode, surrogates, last, spelling_text, spelling_character, IsSpelling, NoSpelling, four_text}
use Rattle.properties_format.proofs.Escapes.Laws.{IsWhole, IsWhole-spelling}
use Rattle.properties_format.specs.Converting.{TextUnit, spelt, stray, unit_text, units_before, IsUnit, AreUnits, is_unicode, respelt, converted_unit, converted_units, first_escaped, at_front}
use Rattle.properties_format.proofs.RespeltTexts.Parts.{Part, text, AreParts}
use Rattle.properties_format.proofs.RespeltTexts.Meant.{one, two, at-first}
use Rattle.properties_format.proofs.Converting.Units.{both, escape-respelt, not-below, whole-past, past-scalar, none-left, backslash-front, all-unmarked}
use Rattle.properties_format.proofs.ReadBack.Texts.{rest-scalars}
use Rattle.properties_format.proofs.ReadBack.Unmarked.{front-unmarked}

-- ---- a `\u` that begins no spelling begins none afterwards

-- If a spelling begins in one text of parts, one begins in the other.
none-either : (ps : List Part) → AreParts ps → NoSpelling (backslash ∷ letter_u ∷ text false ps) → NoSpelling (backslash ∷ letter_u ∷ text true ps)
none-either ps h n s rest e k = elim (at-first true ps s h (record { rest = rest; whole = e; is_spelling = k })) [
  | one d after a b f ↦ n (unicode d) (text false after) (ap (λ v. backslash ∷ letter_u ∷ text false v) f) (a, b)
  | two high low after a b c d f ↦ n (surrogates high low) (text false after) (ap (λ v. backslash ∷ letter_u ∷ text false v) f) (a, b, c, d)
]

-- ---- the units of what was converted

-- Two units are the same, or spell the same non-ASCII character.
pub data AreAlike : TextUnit → TextUnit → Type 0 where
  unchanged : (u : TextUnit) → AreAlike u u
  changed : (p q : Spelling) → spelling_character p ≡ spelling_character q → 0x80 ≤ spelling_character p → AreAlike (spelt p) (spelt q)

abbrev pub AllAlike : List TextUnit → List TextUnit → Type 0
AllAlike [] [] = Unit {0}
AllAlike (u ∷ us) (v ∷ vs) = AreAlike u v × AllAlike us vs
AllAlike us vs = ⊥

-- A second conversion leaves these units as they are.
abbrev pub AreStable : Repertoire → Bool → List TextUnit → Type 0
AreStable r readable [] = Unit {0}
AreStable r readable (u ∷ us) = (converted_unit r readable u ≡ unit_text u) × AreStable r readable us

pub record Rewritten (r : Repertoire) (readable : Bool) (us : List TextUnit) (x : List ℕ) : Type 0 where
  pub units : List TextUnit
  pub whole : x ≡ units_before units []
  pub each : AreUnits units []
  pub alike : AllAlike us units
  pub stable : AreStable r readable units

escape-begins : (c : ℕ) → (y : List ℕ) × (unicode_escape c ≡ backslash ∷ letter_u ∷ y)
escape-begins c = elim (cases_Bool (nat_lt c 0x1_0000)) [
  | inl k ↦ rw k (_, refl)
  | inr k ↦ rw k (_, refl)
]

-- a spelling of the same character, which a second conversion leaves
record Settled (r : Repertoire) (readable : Bool) (p : Spelling) (x : List ℕ) : Type 0 where
  spelling : Spelling
  text : x ≡ spelling_text spelling
  whole : IsWhole spelling
  character : spelling_character p ≡ spelling_character spelling
  stays : respelt r readable spelling ≡ spelling_text spelling

-- what becomes of a spelling of a non-ASCII character, by cases
taken : (t : Repertoire) (readable : Bool) (p : Spelling) (m r u : Bool) → 0x80 ≤ spelling_character p → may_be_unescaped t (spelling_character p) ≡ m
    → readable ≡ r → is_unicode p ≡ u
    → respelt t readable p ≡ (if m then (if r then spelling_character p ∷ [] else spelling_text p) else (if u then spelling_text p else unicode_escape (spelling_character p)))
taken t readable p m r u k f g h = search (rules, not-below)

settled : (rep : Repertoire) (readable : Bool) (p : Spelling) (m r u : Bool) → IsWhole p → 0x80 ≤ spelling_character p → scalar (spelling_character p)
    → may_be_unescaped rep (spelling_character p) ≡ m → readable ≡ r → is_unicode p ≡ u → Settled rep readable p (respelt rep readable p)
settled rep readable p true true u w k s f g h =
    let c = spelling_character p in
    let i : (c == backslash) ≡ false = grind (arith) in
    record { spelling = itself c; text = taken rep readable p true true u k f g h; whole = i; character = refl; stays = taken rep readable (itself c) true true false k f g refl }
settled rep readable p true false u w k s f g h =
    let t = taken rep readable p true false u k f g h in
    record { spelling = p; text = t; whole = w; character = refl; stays = t }
settled rep readable p false r true w k s f g h =
    let t = taken rep readable p false r true k f g h in
    record { spelling = p; text = t; whole = w; character = refl; stays = t }
settled rep readable p false r false w k s f g h =
    let c = spelling_character p in
    let i = escape-respelt c s in
    let b = escape-begins c in
    let v : is_unicode i.spelling ≡ true = search (rules) in
    let z : 0x80 ≤ spelling_character i.spelling = subst (λ n. 0x80 ≤ n) i.character k in
    let y : may_be_unescaped rep (spelling_character i.spelling) ≡ false = subst (λ n. may_be_unescaped rep n ≡ false) i.character f in
    record {
      spelling = i.spelling;
      text = taken rep readable p false r false k f g h ∙ i.text;
      whole = i.whole;
      character = i.character;
      stays = taken rep readable i.spelling false r true z y g v;
    }

-- An ASCII character's spelling stays, and may come before another rest.
kept-spelling : (p : Spelling) (x y : List ℕ) → IsSpelling p x → (x ≡ [] → y ≡ []) → IsSpelling p y
kept-spelling p x y h1 h2 = grind (arith)

pub below-stays : (r : Repertoire) (readable : Bool) (p : Spelling) → nat_lt (spelling_character p) 0x80 ≡ true → respelt r readable p ≡ spelling_text p
below-stays r readable p k = rw k refl

-- one more unit
more-units : (t : Repertoire) (readable : Bool) (u v : TextUnit) (us : List TextUnit) (x y : List ℕ) → AreAlike u v → x ≡ unit_text v
    → converted_unit t readable v ≡ unit_text v → (r : Rewritten t readable us y) → IsUnit v (units_before r.units []) → Rewritten t readable (u ∷ us) (x ++ y)
more-units t readable u v us x y a f s r h = record {
  units = v ∷ r.units;
  whole = ap₂ (λ m n. m ++ n) f r.whole;
  each = (h, r.each);
  alike = (a, r.alike);
  stable = (s, r.stable);
}

pub rewritten : (rep : Repertoire) (readable : Bool) (us : List TextUnit) → AreUnits us [] → AllByRecursion scalar (units_before us [])
    → Rewritten rep readable us (converted_units rep readable us)
rewritten rep readable [] h s = record { units = []; whole = refl; each = tt; alike = tt; stable = tt }
rewritten rep readable (stray ∷ us) h s =
    let t = rest-scalars (backslash ∷ letter_u ∷ []) (units_before us []) s in
    let r = rewritten rep readable us h.1 t in
    let b = both rep readable us h.1 t in
    let n : NoSpelling (backslash ∷ letter_u ∷ text true b.parts) = none-either b.parts b.are (subst (λ v. NoSpelling (backslash ∷ letter_u ∷ v)) b.one h.0) in
    more-units rep readable stray stray us (backslash ∷ letter_u ∷ []) (converted_units rep readable us) (unchanged stray) refl refl r
    (subst (λ v. NoSpelling (backslash ∷ letter_u ∷ v)) (sym b.other ∙ r.whole) n)
rewritten rep readable (spelt p ∷ us) h s =
    let x = units_before us [] in
    let t = rest-scalars (spelling_text p) x s in
    let r = rewritten rep readable us h.1 t in
    elim (cases_Bool (nat_lt (spelling_character p) 0x80)) [
      | inl k ↦
          more-units rep readable (spelt p) (spelt p) us _ _ (unchanged (spelt p)) (below-stays rep readable p k) (below-stays rep readable p k) r
          (kept-spelling p x (units_before r.units []) h.0 (λ f. sym r.whole ∙ none-left rep readable us f))
      | inr k ↦
          let g : 0x80 ≤ spelling_character p = ltb-false (spelling_character p) 0x80 k in
          let w = whole-past p x h.0 g in
          let q = settled rep readable p (may_be_unescaped rep (spelling_character p)) readable (is_unicode p) w g (past-scalar p w g x s) refl refl refl in
          more-units rep readable (spelt p) _ us _ _ (changed p q.spelling q.character g) q.text q.stays r
          (IsWhole-spelling q.spelling (units_before r.units []) q.whole)
    ]

-- ---- the front

-- the units of what was converted, at the front of a file
pub record Fronted (r : Repertoire) (readable : Bool) (us : List TextUnit) (x : List ℕ) : Type 0 where
  pub units : List TextUnit
  pub whole : at_front r.encoding x ≡ units_before units []
  pub each : AreUnits units []
  pub alike : AllAlike us units
  pub again : at_front r.encoding (converted_units r readable units) ≡ at_front r.encoding x

stable-text : (r : Repertoire) (readable : Bool) (us : List TextUnit) → AreStable r readable us → converted_units r readable us ≡ units_before us []
stable-text r readable [] h = refl
stable-text r readable (u ∷ us) h = ap₂ (λ v w. v ++ w) h.0 (stable-text r readable us h.1)

marked-front : (e : Encoding) (x : List ℕ) → begins_like_bom (encoded_text e x) ≡ true → at_front e x ≡ first_escaped x
marked-front e x k = rw k refl

alike-escape : (u : TextUnit) (c : ℕ) (q : Spelling) → 0x80 ≤ c → c ≡ spelling_character q → AreAlike u (spelt (itself c)) → AreAlike u (spelt q)
alike-escape u c q k e h = go u (spelt (itself c)) refl h
  where
    itself-only : (p : Spelling) → spelt p ≡ spelt (itself c) → spelling_character p ≡ c
    itself-only p f = let g : p ≡ itself c = cc in ap spelling_character g

    go : (u v : TextUnit) → v ≡ spelt (itself c) → AreAlike u v → AreAlike u (spelt q)
    go _ _ f (unchanged (spelt p)) = let g = itself-only p f in changed p q (g ∙ e) (subst (λ n. 0x80 ≤ n) (sym g) k)
    go _ _ f (unchanged stray) = absurd (cc)
    go _ _ f (changed p r m n) = let g = itself-only r f in changed p q (m ∙ g ∙ e) n

-- a character that is written as itself may be
itself-may : (r : Repertoire) (readable : Bool) (c : ℕ) (m : Bool) → 0x80 ≤ c → may_be_unescaped r c ≡ m → respelt r readable (itself c) ≡ c ∷ []
    → may_be_unescaped r c ≡ true
itself-may r readable c true k f h = f
itself-may r readable c false k f h =
    let t = taken r readable (itself c) false readable false k f refl refl in
    let b = escape-begins c in
    let g : backslash ∷ letter_u ∷ b.0 ≡ c ∷ [] = sym b.1 ∙ sym t ∙ h in
    absurd (cc)

-- The first unit is a character of a byte order mark, which gets escaped.
fronted-first : (rep : Repertoire) (readable : Bool) (u : TextUnit) (us : List TextUnit) (c : ℕ) (vs : List TextUnit) (r : Bool) → readable ≡ r → 0x80 ≤ c
    → scalar c → begins_like_bom (encoded_text rep.encoding (c ∷ units_before vs [])) ≡ true → AreUnits vs [] → AreAlike u (spelt (itself c)) → AllAlike us vs
    → respelt rep readable (itself c) ≡ c ∷ [] → AreStable rep readable vs → Fronted rep readable (u ∷ us) (c ∷ units_before vs [])
fronted-first rep readable u us c vs r g k s b h a l i j =
    let q = escape-respelt c s in
    let x = c ∷ units_before vs [] in
    let z : 0x80 ≤ spelling_character q.spelling = subst (λ n. 0x80 ≤ n) q.character k in
    let m : may_be_unescaped rep (spelling_character q.spelling) ≡ true = grind (arith, itself-may) in
    let t = taken rep readable q.spelling true r (is_unicode q.spelling) z m g refl in
    record {
      units = spelt q.spelling ∷ vs;
      whole = marked-front rep.encoding x b ∙ ap (λ v. v ++ units_before vs []) q.text;
      each = (IsWhole-spelling q.spelling (units_before vs []) q.whole, h);
      alike = (alike-escape u c q.spelling k q.character a, l);
      again = by r t;
    }
  where
    by : (r : Bool)
        → (let p = (escape-respelt c s).spelling in respelt rep readable p ≡ (if r then spelling_character p ∷ [] else spelling_text p)
        → at_front rep.encoding (converted_units rep readable (spelt p ∷ vs)) ≡ at_front rep.encoding (c ∷ units_before vs []))
    by true t = ap (at_front rep.encoding) (ap₂ (λ v w. v ++ w) (t ∙ ap (λ n. n ∷ []) (sym (escape-respelt c s).character)) (stable-text rep readable vs j))
    by false t =
        ap (at_front rep.encoding) (ap₂ (λ v w. v ++ w) (t ∙ sym (escape-respelt c s).text) (stable-text rep readable vs j) ∙ sym (marked-front rep.encoding (c ∷ units_before vs []) b))
        ∙ search (rules, all-unmarked)

fronted-marked : (r : Repertoire) (readable : Bool) (us vs : List TextUnit) → AllByRecursion scalar (units_before vs [])
    → begins_like_bom (encoded_text r.encoding (units_before vs [])) ≡ true → AreUnits vs [] → AllAlike us vs → AreStable r readable vs
    → Fronted r readable us (units_before vs [])
fronted-marked r readable us [] s b h a t = absurd (let f : begins_like_bom [] ≡ false = refl in cc)
fronted-marked r readable us (stray ∷ vs) s b h a t = absurd (backslash-front r.encoding (letter_u ∷ units_before vs []) b)
fronted-marked r readable us (spelt (escaped c) ∷ vs) s b h a t = absurd (backslash-front r.encoding (c ∷ units_before vs []) b)
fronted-marked r readable us (spelt (unicode d) ∷ vs) s b h a t = absurd (backslash-front r.encoding (letter_u ∷ (four_text d ++ units_before vs [])) b)
fronted-marked r readable us (spelt (surrogates high low) ∷ vs) s b h a t = search (backslash-front)
fronted-marked r readable us (spelt last ∷ vs) s b h a t = absurd (backslash-front r.encoding (units_before vs []) b)
fronted-marked r readable [] (spelt (itself c) ∷ vs) s b h a t = absurd a
fronted-marked r readable (u ∷ us) (spelt (itself c) ∷ vs) s b h a t = elim (cases_Bool (nat_lt c 0x80)) [
  | inl k ↦ let f = front-unmarked r.encoding (c ∷ units_before vs []) c (units_before vs []) refl (ltb-true c 0x80 k) in absurd (cc)
  | inr k ↦ fronted-first r readable u us c vs readable refl (ltb-false c 0x80 k) s.0 b h.1 a.0 a.1 t.0 t.1
]

pub fronted : (t : Repertoire) (readable : Bool) (us : List TextUnit) → AreUnits us [] → AllByRecursion scalar (units_before us [])
    → AllByRecursion scalar (converted_units t readable us) → Fronted t readable us (converted_units t readable us)
fronted t readable us h s w =
    let x = converted_units t readable us in
    let r = rewritten t readable us h s in
    elim (cases_Bool (begins_like_bom (encoded_text t.encoding x))) [
      | inl k ↦ grind (arith, fronted-marked)
      | inr k ↦ record {
        units = r.units;
        whole = unmarked-front x k ∙ r.whole;
        each = r.each;
        alike = r.alike;
        again = ap (at_front t.encoding) (stable-text t readable r.units r.stable ∙ sym r.whole);
      }
    ]
  where
    unmarked-front : (x : List ℕ) → begins_like_bom (encoded_text t.encoding x) ≡ false → at_front t.encoding x ≡ x
    unmarked-front x k = rw k refl

-- ---- readable in UTF-8

readable-same : (u v : TextUnit) → AreAlike u v → converted_unit (all_of utf_8) true u ≡ converted_unit (all_of utf_8) true v
readable-same _ _ (unchanged u) = refl
readable-same _ _ (changed p q e k) = grind (arith, taken)

pub readable-all : (us vs : List TextUnit) → AllAlike us vs → converted_units (all_of utf_8) true us ≡ converted_units (all_of utf_8) true vs
readable-all (u ∷ us) (v ∷ vs) h = ap₂ (λ x y. x ++ y) (readable-same u v h.0) (readable-all us vs h.1)
readable-all us vs h1 = grind (arith)

-- ---- what becomes of a spelling, for code that converts

-- A character that is spelt as itself.
pub respelt-itself : (t : Repertoire) (readable : Bool) (c : ℕ) → respelt t readable (itself c) ≡ literal t c
respelt-itself t readable c = elim (cases_Bool (nat_lt c 0x80)) [
  | inl k ↦ below-stays t readable (itself c) k ∙ sym (below (may_be_unescaped-ascii t c (ltb-true c 0x80 k)))
  | inr k ↦ past-itself (may_be_unescaped t c) readable (ltb-false c 0x80 k) refl refl
]
  where
    below : may_be_unescaped t c ≡ true → literal t c ≡ c ∷ []
    below f = rw f refl

    past-itself : (m r : Bool) → 0x80 ≤ c → may_be_unescaped t c ≡ m → readable ≡ r → respelt t readable (itself c) ≡ literal t c
    past-itself true true k f g = taken t readable (itself c) true true false k f g refl ∙ rw f refl
    past-itself true false k f g = taken t readable (itself c) true false false k f g refl ∙ rw f refl
    past-itself false r k f g = taken t readable (itself c) false r false k f g refl ∙ rw f refl

-- Escapes that stay: those of characters that the output doesn't have, and all if the result isn't to be readable.
pub respelt-unicode : (t : Repertoire) (readable : Bool) (p : Spelling) (m r : Bool) → 0x80 ≤ spelling_character p → is_unicode p ≡ true
    → may_be_unescaped t (spelling_character p) ≡ m → readable ≡ r → (m && r) ≡ false → respelt t readable p ≡ spelling_text p
respelt-unicode t readable p true true k u f g n = absurd (cc)
respelt-unicode t readable p true false k u f g n = taken t readable p true false true k f g u
respelt-unicode t readable p false r k u f g n = taken t readable p false r true k f g u

-- A character that is written as itself.
pub respelt-held : (r : Repertoire) (readable : Bool) (p : Spelling) → 0x80 ≤ spelling_character p → may_be_unescaped r (spelling_character p) ≡ true
    → readable ≡ true → respelt r readable p ≡ literal r (spelling_character p)
respelt-held r readable p k f g = taken r readable p true true (is_unicode p) k f g refl ∙ rw f refl

-- A backslash and a character that stay.
pub respelt-kept : (r : Repertoire) (readable : Bool) (p : Spelling) → 0x80 ≤ spelling_character p → may_be_unescaped r (spelling_character p) ≡ true
    → readable ≡ false → respelt r readable p ≡ spelling_text p
respelt-kept r readable p k f g = taken r readable p true false (is_unicode p) k f g refl

-- A backslash and a character that becomes an escape.
pub respelt-lacked : (r : Repertoire) (readable : Bool) (p : Spelling) → 0x80 ≤ spelling_character p → may_be_unescaped r (spelling_character p) ≡ false
    → is_unicode p ≡ false → respelt r readable p ≡ literal r (spelling_character p)
respelt-lacked r readable p k f u = taken r readable p false readable false k f refl u ∙ rw f refl
