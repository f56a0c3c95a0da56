-- Converting keeps the items, and gives ASCII if that is asked for.
use Rattle.std.proofs.Common.{arith, ◌≡◌, ℕ, Bool, true, false, List, [], ◌∷◌, map, refl, ap, subst, sym, ◌∙◌}
use Rattle.std.specs.Prelude.{All}
use Rattle.std.specs.List.{AllByRecursion}
use Rattle.std.proofs.lemmas.List.Elements.{recursion_from_All, All-drop}
use Rattle.std.proofs.lemmas.Bool.{cond_both}
use Rattle.properties_format.specs.Text.{byte, scalar}
use Rattle.properties_format.specs.Encoding.{Encoding, InForce, output_encoding, byte_order_mark, begins_with, utf_8_bom, utf_16be_bom, utf_16le_bom, Repertoire}
use Rattle.properties_format.specs.Lines.{InputEnd, numbered_lines}
use Rattle.properties_format.specs.Computed.Encoding.{decoded_of}
use Rattle.properties_format.specs.Computed.Lines.{lines_of, groups_of}
use Rattle.properties_format.specs.Computed.Items.{items_of}
use Rattle.properties_format.proofs.Encodings.ByteOrderMarks.{decoded_of-unmarked}
use Rattle.properties_format.proofs.Encodings.Pieces.{decoded_of-only}
use Rattle.properties_format.proofs.Encodings.Characters.{pieces_of-scalar}
use Rattle.properties_format.proofs.Items.Unique.{items_of-only}
use Rattle.properties_format.proofs.ReadBack.Bytes.{text-decoded}
use Rattle.properties_format.specs.Converting.{units_before, converted_units, at_front, IsConverted, AreSameEntries, ConvertingKeepsItems, ConvertingKeepsLogicalLines, endings, ConvertingKeepsEndings}
use Rattle.properties_format.proofs.RespeltTexts.Parts.{Part, text, AreParts}
use Rattle.properties_format.proofs.RespeltTexts.Lined.{PartEnded, ended_on, lines_on, lines-alike}
use Rattle.properties_format.proofs.Lines.Only.{lines_of-only}
use Rattle.properties_format.proofs.Groups.Input.{groups_in-only}
use Rattle.properties_format.proofs.RespeltTexts.Entries.{same-items}
use Rattle.properties_format.proofs.RespeltTexts.Items.{groups_of-alike, items-alike}
use Rattle.properties_format.proofs.Converting.Units.{all-both, all-writable, all-unmarked}

-- The result is decoded to what was written.
pub result-decoded : (e : Encoding) (to : Repertoire) (readable : Bool) (source result : List ℕ) → output_encoding to.encoding ≡ to.encoding
    → (h : IsConverted e to readable source result)
    → AllByRecursion scalar h.text → decoded_of to.encoding result ≡ at_front to.encoding (converted_units to readable h.units)
result-decoded e to readable source result own h s = grind (arith, all-writable, decoded_of-unmarked, all-unmarked, text-decoded)

-- The text of a decoded source consists of scalar values.
body-bytes : (e : Encoding) (source : List ℕ) → All byte source → All byte (byte_order_mark e source).body
body-bytes e source h =
    cond_both (begins_with utf_8_bom source) _ _ (λ m. let f : InForce = m in All byte f.body) (λ k. All-drop byte 3 source h)
    (λ k. cond_both (begins_with utf_16be_bom source) _ _ (λ m. let f : InForce = m in All byte f.body) (λ l. All-drop byte 2 source h)
    (λ l. cond_both (begins_with utf_16le_bom source) _ _ (λ m. let f : InForce = m in All byte f.body) (λ m. All-drop byte 2 source h) (λ m. h)))

pub text-scalars : (e : Encoding) (source : List ℕ) → All byte source → All scalar (decoded_of e source)
text-scalars e source h = pieces_of-scalar (byte_order_mark e source).encoding (byte_order_mark e source).body (body-bytes e source h)

-- Source and result as two texts of parts.
pub record AsParts (e to : Encoding) (source result : List ℕ) : Type 0 where
  pub parts : List Part
  pub one : decoded_of e source ≡ text false parts
  pub other : decoded_of to result ≡ text true parts
  pub are : AreParts parts

pub units-scalars : (e : Encoding) (to : Repertoire) (readable : Bool) (source result : List ℕ) → All byte source
    → (h : IsConverted e to readable source result) → AllByRecursion scalar (units_before h.units [])
units-scalars e to readable source result k h =
    subst (AllByRecursion scalar) h.whole (recursion_from_All scalar h.text (subst (All scalar) (sym (decoded_of-only e source h.text h.decoded)) (text-scalars e source k)))

pub as-parts : (e : Encoding) (to : Repertoire) (readable : Bool) (source result : List ℕ) → All byte source
    → output_encoding to.encoding ≡ to.encoding → IsConverted e to readable source result → AsParts e to.encoding source result
as-parts e to readable source result k own h =
    let s = units-scalars e to readable source result k h in
    let b = all-both to readable h.units h.each s in
    record {
      parts = b.parts;
      one = sym (decoded_of-only e source h.text h.decoded) ∙ h.whole ∙ b.one;
      other = result-decoded e to readable source result own h (subst (AllByRecursion scalar) (sym h.whole) s) ∙ b.other;
      are = b.are;
    }

entries-alike : (e : Encoding) (to : Repertoire) (readable : Bool) (source result : List ℕ) (ending : InputEnd) → All byte source
    → output_encoding to.encoding ≡ to.encoding
    → IsConverted e to readable source result → AreSameEntries (items_of e source ending) (items_of to.encoding result ending)
unfolding items_of
entries-alike e to readable source result ending k own h =
    let b = as-parts e to readable source result k own h in
    rw (b.one, b.other) (items-alike b.parts ending b.are)

pub converting-keeps-items : (e : Encoding) (to : Repertoire) (readable : Bool) (source : List ℕ) (ending : InputEnd)
    → ConvertingKeepsItems e to readable source ending
converting-keeps-items e to readable source ending k own result h old new i j =
    let a : AreSameEntries old new =
    rw (items_of-only e source ending old i, items_of-only to.encoding result ending new j) (entries-alike e to readable source result ending k own h) in
    (a, λ f. same-items old new f a)

pub converting-keeps-logical-lines : (e : Encoding) (to : Repertoire) (readable : Bool) (source : List ℕ) (ending : InputEnd)
    → ConvertingKeepsLogicalLines e to readable source ending
converting-keeps-logical-lines e to readable source ending k own result h gs hs m n =
    let b = as-parts e to readable source result k own h in
    let of_text = λ (v : List ℕ). groups_of (numbered_lines (lines_of v) ending) ending in
    rw (groups_in-only e source ending gs m, groups_in-only to.encoding result ending hs n, ap of_text b.one, ap of_text b.other) (groups_of-alike b.parts ending b.are)

-- ---- line endings

ends-on : (side : Bool) (ls : List PartEnded) → endings (map (ended_on side) ls) ≡ endings (map (ended_on false) ls)
ends-on side [] = refl
ends-on side (l ∷ ls) = ap (λ v. l.by ∷ v) (ends-on side ls)

pub converting-keeps-endings : (e : Encoding) (to : Repertoire) (readable : Bool) (source : List ℕ) → ConvertingKeepsEndings e to readable source
converting-keeps-endings e to readable source k own result h x y old new d i f j =
    let b = as-parts e to readable source result k own h in
    let one : old ≡ lines_on false _ = lines_of-only x old i ∙ ap lines_of (decoded_of-only e source x d ∙ b.one) ∙ lines-alike false b.parts b.are in
    let other : new ≡ lines_on true _ = lines_of-only y new j ∙ ap lines_of (decoded_of-only to.encoding result y f ∙ b.other) ∙ lines-alike true b.parts b.are in
    grind (arith, ends-on)
