-- Converting twice, and making readable what was converted.
use Rattle.std.proofs.Common.{◌≡◌, ℕ, Bool, true, List, ap, subst, sym, ◌∙◌}
use Rattle.std.specs.Prelude.{All}
use Rattle.std.specs.List.{AllByRecursion}
use Rattle.properties_format.specs.Text.{byte, scalar}
use Rattle.properties_format.specs.Encoding.{Encoding, utf_8, output_encoding, Repertoire, all_of}
use Rattle.properties_format.specs.Printing.{encoded_text}
use Rattle.properties_format.specs.Computed.Encoding.{decoded_of}
use Rattle.properties_format.proofs.Encodings.Pieces.{decoded_of-meets, decoded_of-only}
use Rattle.properties_format.specs.Converting.{converted_units, at_front, IsConverted, ConvertingTwiceIsConvertingOnce, ReadableAnyway}
use Rattle.properties_format.proofs.Converting.Units.{units-writable}
use Rattle.properties_format.proofs.Converting.Laws.{result-decoded, units-scalars}
use Rattle.properties_format.proofs.Converting.One.{units-only}
use Rattle.properties_format.proofs.Converting.Again.{Fronted, fronted, readable-all}

-- the units of a result
abbrev fronted-of : (e : Encoding) (to : Repertoire) (readable : Bool) (source result : List ℕ) → All byte source
    → (h : IsConverted e to readable source result) → Fronted to readable h.units (converted_units to readable h.units)
fronted-of e to readable source result k h =
    let s = units-scalars e to readable source result k h in
    fronted to readable h.units h.each s (units-writable to readable h.units h.each s).scalars

-- the text of a result
result-text : (e : Encoding) (to : Repertoire) (readable : Bool) (source result : List ℕ) → All byte source → output_encoding to.encoding ≡ to.encoding
    → (h : IsConverted e to readable source result) → decoded_of to.encoding result ≡ at_front to.encoding (converted_units to readable h.units)
result-text e to readable source result k own h =
    result-decoded e to readable source result own h (subst (AllByRecursion scalar) (sym h.whole) (units-scalars e to readable source result k h))

pub converting-twice : (e : Encoding) (to : Repertoire) (readable : Bool) (source : List ℕ) → ConvertingTwiceIsConvertingOnce e to readable source
converting-twice e to readable source k own result h =
    let f = fronted-of e to readable source result k h in
    record {
      text = decoded_of to.encoding result;
      units = f.units;
      decoded = decoded_of-meets to.encoding result;
      whole = result-text e to readable source result k own h ∙ f.whole;
      each = f.each;
      bytes = h.bytes ∙ ap (encoded_text to.encoding) (sym f.again);
    }

pub readable-anyway : (e : Encoding) (to : Repertoire) (readable : Bool) (source : List ℕ) → ReadableAnyway e to readable source
readable-anyway e to readable source k own between h result =
    let f = fronted-of e to readable source between k h in
    let t = result-text e to readable source between k own h ∙ f.whole in
    let a = readable-all h.units f.units f.alike in (
      λ g. record {
        text = h.text;
        units = h.units;
        decoded = h.decoded;
        whole = h.whole;
        each = h.each;
        bytes = g.bytes
            ∙ ap (λ v. encoded_text utf_8 (at_front utf_8 (converted_units (all_of utf_8) true v)))
            (units-only g.units f.units g.each f.each (sym g.whole ∙ decoded_of-only to.encoding between g.text g.decoded ∙ t))
            ∙ ap (λ v. encoded_text utf_8 (at_front utf_8 v)) (sym a);
      },
      λ g. record {
        text = decoded_of to.encoding between;
        units = f.units;
        decoded = decoded_of-meets to.encoding between;
        whole = t;
        each = f.each;
        bytes = g.bytes
            ∙ ap (λ v. encoded_text utf_8 (at_front utf_8 (converted_units (all_of utf_8) true v)))
            (units-only g.units h.units g.each h.each (sym g.whole ∙ decoded_of-only e source g.text g.decoded ∙ sym (decoded_of-only e source h.text h.decoded) ∙ h.whole))
            ∙ ap (λ v. encoded_text utf_8 (at_front utf_8 v)) a;
      },
    )
