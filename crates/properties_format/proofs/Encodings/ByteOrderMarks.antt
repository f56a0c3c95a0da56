-- Which bytes at the front determine the byte order mark.
use Rattle.std.proofs.Common.{◌≡◌, ℕ, false, List, ◌++◌, ap, arith}
use Rattle.properties_format.specs.Text.{piece_characters}
use Rattle.properties_format.specs.Encoding.{Encoding, InForce, byte_order_mark, begins_like_bom}
use Rattle.properties_format.specs.Computed.Encoding.{pieces_of, decoded_of, awaits_bom}

-- an encoding in force and its body, followed by more bytes
abbrev pub followed : InForce → List ℕ → InForce
followed m d = record { encoding = m.encoding; body = m.body ++ d }

-- Bytes that don't wait determine the byte order mark: what follows them is in the body.
pub byte_order_mark-append : (e : Encoding) (b d : List ℕ) → awaits_bom b ≡ false → byte_order_mark e (b ++ d) ≡ followed (byte_order_mark e b) d
byte_order_mark-append e b d h = grind (arith)

-- Bytes that don't begin like a byte order mark are in the requested encoding.
pub byte_order_mark-none : (e : Encoding) (b : List ℕ) → begins_like_bom b ≡ false → byte_order_mark e b ≡ record { encoding = e; body = b }
byte_order_mark-none e b h = grind (arith)

-- Bytes that don't begin like a byte order mark are decoded as a whole.
pub decoded_of-unmarked : (e : Encoding) (b : List ℕ) → begins_like_bom b ≡ false → decoded_of e b ≡ piece_characters (pieces_of e b)
decoded_of-unmarked e b h = ap (λ v. piece_characters (pieces_of v.encoding v.body)) (byte_order_mark-none e b h)

-- Bytes that don't wait for a byte order mark, followed by others.
pub decoded_of-append : (e : Encoding) (b d : List ℕ) → awaits_bom b ≡ false
    → decoded_of e (b ++ d) ≡ piece_characters (pieces_of (byte_order_mark e b).encoding ((byte_order_mark e b).body ++ d))
decoded_of-append e b d h = ap (λ v. piece_characters (pieces_of v.encoding v.body)) (byte_order_mark-append e b d h)
