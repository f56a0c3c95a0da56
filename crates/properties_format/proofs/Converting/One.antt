-- Each source has exactly one result.
use Rattle.std.proofs.Common.{rules, ◌≡◌, ℕ, zero, suc, ◌≤◌, Bool, List, [], ◌∷◌, ◌++◌, length, Option, Some, None, refl, ap, ap₂, subst, sym, ◌∙◌, arith}
use Rattle.std.proofs.lemmas.List.{append_cancel_left}
use Rattle.properties_format.specs.Text.{backslash}
use Rattle.properties_format.specs.Encoding.{Encoding, Repertoire}
use Rattle.properties_format.specs.Printing.{encoded_text}
use Rattle.properties_format.specs.Escapes.{letter_u, Spelling, NoSpelling}
use Rattle.properties_format.specs.Computed.Encoding.{decoded_of}
use Rattle.properties_format.specs.Computed.Escapes.{first_spelling}
use Rattle.properties_format.proofs.Encodings.Pieces.{decoded_of-meets, decoded_of-only}
use Rattle.properties_format.proofs.Escapes.First.{spelling_of, spelling_of-only, spelling_of-none, first_spelling-found, IsFound}
use Rattle.properties_format.specs.Converting.{TextUnit, spelt, stray, unit_text, units_before, IsUnit, AreUnits, converted_units, at_front, ConvertsToOne}
use Rattle.properties_format.proofs.Converting.Units.{unit-some}

-- ---- a text has units

pub record HasUnits (x : List ℕ) : Type 0 where
  pub units : List TextUnit
  pub whole : x ≡ units_before units []
  pub each : AreUnits units []

-- One unit before others.
unit-front : (u : TextUnit) (x rest : List ℕ) → x ≡ unit_text u ++ rest → IsUnit u rest → HasUnits rest → HasUnits x
unit-front u x rest e h k = record { units = u ∷ k.units; whole = e ∙ ap (λ v. unit_text u ++ v) k.whole; each = (subst (IsUnit u) k.whole h, k.each) }

units-next : (n : ℕ) (x : List ℕ) (o : Option Spelling) → length x ≤ suc n → spelling_of x ≡ o → IsFound x o
    → ((y : List ℕ) → length y ≤ n → HasUnits y) → HasUnits x
units-next n x (Some p) h e f ih = unit-front (spelt p) x f.rest f.whole f.is_spelling (ih f.rest (search (rules)))
units-next n x None h e f ih =
    let g : length (backslash ∷ letter_u ∷ f.after) ≤ suc n = subst (λ v. length v ≤ suc n) f.whole h in
    unit-front stray x f.after f.whole (subst NoSpelling f.whole (spelling_of-none x e)) (ih f.after (omega arith))

units-within : (n : ℕ) (x : List ℕ) → length x ≤ n → HasUnits x
units-within n [] h = record { units = []; whole = refl; each = tt }
units-within zero (c ∷ cs) h = absurd (omega arith)
units-within (suc n) (c ∷ cs) h = units-next n (c ∷ cs) (first_spelling c cs) h refl (first_spelling-found c cs) (units-within n)

pub units-found : (x : List ℕ) → HasUnits x
units-found x = units-within (length x) x (omega arith)

-- ---- and only these

found-none : (y : List ℕ) (o : Option Spelling) → NoSpelling (backslash ∷ letter_u ∷ y) → IsFound (backslash ∷ letter_u ∷ y) o → o ≡ None
found-none y o h1 h2 = grind (arith)

pub stray-none : (y : List ℕ) → NoSpelling (backslash ∷ letter_u ∷ y) → spelling_of (backslash ∷ letter_u ∷ y) ≡ None
stray-none y n = found-none y (first_spelling backslash (letter_u ∷ y)) n (first_spelling-found backslash (letter_u ∷ y))

first-same : (u v : TextUnit) (x y : List ℕ) → IsUnit u x → IsUnit v y → unit_text u ++ x ≡ unit_text v ++ y → u ≡ v
first-same u v x y h1 h2 h3 = search (rules, spelling_of-only, stray-none)

pub units-only : (us vs : List TextUnit) → AreUnits us [] → AreUnits vs [] → units_before us [] ≡ units_before vs [] → us ≡ vs
units-only [] [] h k e = refl
units-only [] (v ∷ vs) h k e = absurd (unit-some v (units_before vs []) (sym e))
units-only (u ∷ us) [] h k e = absurd (unit-some u (units_before us []) e)
units-only (u ∷ us) (v ∷ vs) h k e =
    let f = first-same u v (units_before us []) (units_before vs []) h.0 k.0 e in
    let g : unit_text u ++ units_before us [] ≡ unit_text u ++ units_before vs [] = e ∙ ap (λ w. unit_text w ++ units_before vs []) (sym f) in
    ap₂ (λ w ws. w ∷ ws) f (units-only us vs h.1 k.1 (append_cancel_left (unit_text u) (units_before us []) (units_before vs []) g))

-- ---- the result

pub converts-to-one : (e : Encoding) (to : Repertoire) (readable : Bool) (source : List ℕ) → ConvertsToOne e to readable source
converts-to-one e to readable source =
    let k = units-found (decoded_of e source) in
    record {
      value = encoded_text to.encoding (at_front to.encoding (converted_units to readable k.units));
      meets = record { text = decoded_of e source; units = k.units; decoded = decoded_of-meets e source; whole = k.whole; each = k.each; bytes = refl };
      only = λ other h. h.bytes ∙ ap (λ v. encoded_text to.encoding (at_front to.encoding (converted_units to readable v)))
          (units-only h.units k.units h.each k.each (sym h.whole ∙ decoded_of-only e source h.text h.decoded ∙ k.whole));
    }
