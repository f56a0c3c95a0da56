-- An ASCII-only result is ASCII, and the same in every encoding.
use Rattle.std.proofs.Common.{arith, rules, ◌≡◌, ℕ, Bool, List, [], ◌∷◌, ◌++◌, refl, ap, ap₂, subst, sym, ◌∙◌, ltb-true, ltb-false, lit<}
use Rattle.std.specs.Prelude.{nat_lt}
use Rattle.properties_format.specs.Text.{backslash}
use Rattle.properties_format.specs.Encoding.{Encoding, utf_8, ascii_in}
use Rattle.properties_format.specs.Lines.{end}
use Rattle.properties_format.specs.Printing.{may_be_unescaped, unicode_escape, encoded_text}
use Rattle.properties_format.specs.Escapes.{letter_u, Spelling, spelling_text, spelling_character, IsSpelling}
use Rattle.properties_format.specs.Computed.Items.{items_of}
use Rattle.properties_format.specs.AsciiOnly.{AreAsciiBytes}
use Rattle.properties_format.proofs.Printing.Characters.{AreAscii, AreAscii-append, encoded_text-ascii, unicode_escape-ascii}
use Rattle.properties_format.proofs.AsciiOnly.{may_be_unescaped-on, ascii-unmarked, bytes-ascii}
use Rattle.properties_format.specs.Converting.{TextUnit, spelt, stray, AreUnits, is_unicode, respelt, converted_units, at_front, ConvertingGivesAscii}
use Rattle.properties_format.proofs.Edits.InAscii.{ascii-alike}
use Rattle.properties_format.proofs.Converting.Units.{whole-past, below-ascii, unicode-ascii, chosen}

-- what becomes of a spelling
respelt-ascii : (e : Encoding) (readable : Bool) (p : Spelling) (x : List ℕ) → IsSpelling p x → AreAscii (respelt (ascii_in e) readable p)
respelt-ascii e readable p x h =
    let c = spelling_character p in
    chosen AreAscii (spelling_text p) (c ∷ []) (unicode_escape c) (nat_lt c 0x80) (may_be_unescaped (ascii_in e) c) readable (is_unicode p)
    (λ a. below-ascii p x h (ltb-true c 0x80 a))
    (λ a m. absurd (let f = may_be_unescaped-on e c in cc))
    (λ a m. absurd (let f = may_be_unescaped-on e c in cc))
    (λ a m u. unicode-ascii p (whole-past p x h (ltb-false c 0x80 a)) u)
    (λ a m. unicode_escape-ascii c)

units-ascii : (e : Encoding) (readable : Bool) (us : List TextUnit) → AreUnits us [] → AreAscii (converted_units (ascii_in e) readable us)
units-ascii e readable [] h = tt
units-ascii e readable (spelt p ∷ us) h = search (rules, AreAscii-append, respelt-ascii, units-ascii e readable us h.1)
units-ascii e readable (stray ∷ us) h = (lit< tt, (lit< tt, units-ascii e readable us h.1))

units-same : (e f : Encoding) (readable : Bool) (us : List TextUnit) → converted_units (ascii_in e) readable us ≡ converted_units (ascii_in f) readable us
units-same e f readable [] = refl
units-same e f readable (spelt p ∷ us) = ap₂ (λ v w. v ++ w) (search (rules, may_be_unescaped-on)) (units-same e f readable us)
units-same e f readable (stray ∷ us) = ap (λ v. backslash ∷ letter_u ∷ v) (units-same e f readable us)

-- An ASCII text at the front of a file stays as it is, and is its own bytes.
front-bytes : (e : Encoding) (x : List ℕ) → AreAscii x → encoded_text e (at_front e x) ≡ x
front-bytes e x h = let k = ascii-unmarked e x h in rw k (encoded_text-ascii e x h)

pub converting-gives-ascii : (e to : Encoding) (readable : Bool) (source : List ℕ) → ConvertingGivesAscii e to readable source
converting-gives-ascii e to readable source result h =
    let x = converted_units (ascii_in to) readable h.units in
    let a = units-ascii to readable h.units h.each in
    let b : result ≡ x = h.bytes ∙ front-bytes to x a in
    let bytes : AreAsciiBytes result = subst AreAsciiBytes (sym b) (bytes-ascii x a) in (
      bytes,
      (items_of utf_8 result end, ascii-alike result bytes),
      λ f. record {
        text = h.text;
        units = h.units;
        decoded = h.decoded;
        whole = h.whole;
        each = h.each;
        bytes = grind (arith, units-same, front-bytes, units-ascii);
      },
    )
