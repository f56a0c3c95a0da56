-- Bytes of windows-1252 and their characters, one by one.
use Rattle.std.proofs.Common.{◌≡◌, ℕ, ◌<◌, ◌&&◌, Bool, true, eqb, leb, List, [], take, get_or, length, ap₂, refl, subst, ◌∙◌, arith}
use Rattle.std.specs.Char.{encode_utf8}
use Rattle.std.proofs.Math.Utf8.{scalar}
use Rattle.std.proofs.lemmas.Bool.{and_parts, agree_below_at, eqb-true, leb-true}
use Rattle.properties_format.specs.Windows1252.{windows_1252_character}
use Rattle.properties_text.specs.Encoding.{IsTextOfByte}
use Rattle.properties_text.specs.declared.encoding.windows_1252.ByteText.{ByteText}
use Rattle.properties_text.specs.declared.encoding.windows_1252.texts.TheConstants.{TEXTS}
use Rattle.byte_blocks.proofs.Rows.{starts, starts-take}

-- ---- each byte in UTF-8

-- A row of the table begins with the character of a byte, and ends with its length.
abbrev is_row : ℕ → List ℕ → Bool
is_row b row =
    let text = encode_utf8 (windows_1252_character b) in
    let n = get_or row 3 0 in
    starts text row && (eqb (length text) n && (leb 1 n && (leb n 3 && scalar (windows_1252_character b))))

rows : (b : ℕ) → b < 256 → is_row b (get_or TEXTS b []) ≡ true
unfolding encode_utf8
rows b h = agree_below_at (λ b. is_row b (get_or TEXTS b [])) (λ b. true) 256 b refl h

pub text-at : (b : ℕ) (text : ByteText) → b < 256 → text.bytes ≡ get_or TEXTS b [] → text.length ≡ get_or (get_or TEXTS b []) 3 0 → IsTextOfByte b text
text-at b text h same size =
    let row = get_or TEXTS b [] in
    let n = get_or row 3 0 in
    let c = windows_1252_character b in
    let first = and_parts (starts (encode_utf8 c) row) _ (rows b h) in
    let second = and_parts (eqb (length (encode_utf8 c)) n) _ first.1 in
    let third = and_parts (leb 1 n) _ second.1 in
    let fourth = and_parts (leb n 3) _ third.1 in
    record {
      begins = ap₂ take size same ∙ subst (λ m. take m row ≡ encode_utf8 c) (eqb-true (length (encode_utf8 c)) n second.0)
          (starts-take (encode_utf8 c) row first.0);
      some = omega (arith, size, leb-true 1 n third.0);
      few = omega (arith, size, leb-true n 3 fourth.0);
      scalar = fourth.1;
    }
