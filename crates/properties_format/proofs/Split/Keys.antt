-- Where a key ends: the units of a key, and the computation that divides it from the rest.
use Rattle.std.proofs.Common.{rules, ◌≡◌, ℕ, ◌==◌, Bool, true, false, List, [], ◌∷◌, ◌++◌, refl, ap, sym, ◌∙◌, inl, inr, append_assoc, append-nil, arith}
use Rattle.std.proofs.lemmas.Bool.{cases_Bool, eqb-true}
use Rattle.properties_format.specs.Text.{backslash, is_blank, is_separator}
use Rattle.properties_format.specs.Split.{KeyUnit, plain, escaped, last, key_unit_text, key_units_before, IsKeyUnit, AreKeyUnits, IsKey}
use Rattle.properties_format.specs.Computed.Split.{KeyCut, with_front, ends_key, cut_key}

-- The units before a rest are their text followed by the rest.
pub units_before-append : (us : List KeyUnit) (rest : List ℕ) → key_units_before us rest ≡ key_units_before us [] ++ rest
units_before-append [] rest = refl
units_before-append (u ∷ us) rest = ap (λ v. key_unit_text u ++ v) (units_before-append us rest) ∙ sym (append_assoc (key_unit_text u) (key_units_before us []) rest)

-- the key with a text at its front
abbrev pub with_text : List ℕ → KeyCut → KeyCut
with_text x cut = record { key = x ++ cut.key; rest = cut.rest }

-- whether a key ends before this text: it is empty, or begins with a blank or a separator
abbrev pub ends_here : List ℕ → Bool
ends_here [] = true
ends_here (c ∷ cs) = ends_key c

-- A character that doesn't end a key is neither a blank nor a separator.
plain-parts : (c : ℕ) → ends_key c ≡ false → (is_blank c ≡ false) × (is_separator c ≡ false)
plain-parts c e = (grind (arith), grind (arith))

-- Units at the front.
pub cut_key-units : (us : List KeyUnit) (rest : List ℕ) → AreKeyUnits us rest
    → cut_key (key_units_before us rest) false ≡ with_text (key_units_before us []) (cut_key rest false)
cut_key-units [] rest h = refl
cut_key-units (u ∷ us) rest h = grind (arith, cut_key-units us rest h.1)

-- A key before what ends it.
pub cut_key-only : (key rest : List ℕ) → IsKey key rest → ends_here rest ≡ true → cut_key (key ++ rest) false ≡ record { key = key; rest = rest }
cut_key-only key rest k e =
    ap (λ v. cut_key v false) (ap (λ v. v ++ rest) k.whole ∙ sym (units_before-append k.units rest))
    ∙ cut_key-units k.units rest k.each
    ∙ ap (with_text (key_units_before k.units [])) (search (rules))
    ∙ ap (λ v. let cut : KeyCut = record { key = v; rest = rest } in cut) (append-nil (key_units_before k.units []) ∙ sym k.whole)

-- ---- each text is a key followed by what ends it

pub record IsCut (x : List ℕ) (cut : KeyCut) : Type 0 where
  pub whole : x ≡ cut.key ++ cut.rest
  pub is_key : IsKey cut.key cut.rest
  pub ends_it : ends_here cut.rest ≡ true

-- If the key ends at once, an empty key is divided off.
nothing-cut : (rest : List ℕ) → ends_here rest ≡ true → IsCut rest (record { key = []; rest = rest })
nothing-cut rest e = record { whole = refl; is_key = record { units = []; whole = refl; each = tt }; ends_it = e }

-- A unit before a key that has been divided off.
unit-cut : (u : KeyUnit) (x : List ℕ) (cut : KeyCut) → IsKeyUnit u x → IsCut x cut → IsCut (key_unit_text u ++ x) (with_text (key_unit_text u) cut)
unit-cut u x cut h k = record {
  whole = ap (λ v. key_unit_text u ++ v) k.whole ∙ sym (append_assoc (key_unit_text u) cut.key cut.rest);
  is_key = record {
    units = u ∷ k.is_key.units;
    whole = ap (λ v. key_unit_text u ++ v) k.is_key.whole;
    each = (rw (units_before-append k.is_key.units cut.rest) (rw (← k.is_key.whole) (rw (← k.whole) h)), k.is_key.each);
  };
  ends_it = k.ends_it;
}

-- what was divided, if a backslash may come before it
IsCutAfter : Bool → List ℕ → Type 0
IsCutAfter true x = IsCut (backslash ∷ x) (with_front backslash (cut_key x true))
IsCutAfter false x = IsCut x (cut_key x false)

-- Each text is divided in this way, whether or not a backslash comes before it.
cut-after : (x : List ℕ) (is_escaped : Bool) → IsCutAfter is_escaped x
unfolding IsCutAfter
cut-after [] true = unit-cut last [] (record { key = []; rest = [] }) refl (nothing-cut [] refl)
cut-after [] false = nothing-cut [] refl
cut-after (c ∷ x) true = unit-cut (escaped c) x (cut_key x false) tt (cut-after x false)
cut-after (c ∷ x) false = elim (cases_Bool (c == backslash)) [
  | inl e ↦ rw e (rw (eqb-true c backslash e) (cut-after x true))
  | inr e ↦ rw e (elim (cases_Bool (ends_key c)) [
    | inl k ↦ rw k (nothing-cut (c ∷ x) k)
    | inr k ↦ rw k (unit-cut (plain c) x (cut_key x false) (e, (plain-parts c k).0, (plain-parts c k).1) (cut-after x false))
  ])
]

-- The computed parts are the key at the front of the text, and what ends it.
pub cut_key-meets : (x : List ℕ) → IsCut x (cut_key x false)
unfolding IsCutAfter
cut_key-meets x = cut-after x false
