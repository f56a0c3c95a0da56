use Rattle.std.proofs.Common.{append_assoc}
use Rattle.properties_format.proofs.Encodings.Utf8Characters.{encode-two, encode-three, encode-four}
use Rattle.properties_text.proofs.encoding.decode.put_character.Goals as goal

pub returns-then-code-lt2048-clause-text : goal.returns-then-code-lt2048-clause-text
returns-then-code-lt2048-clause-text c =
    rw (← c.from-code.ensures, encode-two c.from-code.result c.if-code-lt128.false c.if-code-lt2048.true)
    (simp (c.put_continuation.ensures.byte, c.put-at.ensures.byte, append_assoc))

pub returns-then-code-lt65536-clause-text : goal.returns-then-code-lt65536-clause-text
returns-then-code-lt65536-clause-text c =
    let last = c.put_continuation-then-code-lt65536.ensures.byte in
    rw (← c.from-code.ensures, encode-three c.from-code.result c.if-code-lt2048.false c.if-code-lt65536.true)
    (simp (last, c.put_continuation-at.ensures.byte, c.put-at-then-code-lt65536.ensures.byte, append_assoc))

pub returns-else-code-lt65536-clause-text : goal.returns-else-code-lt65536-clause-text
returns-else-code-lt65536-clause-text c =
    let last = c.put_continuation-else-code-lt65536.ensures.byte in
    let third = c.put_continuation-at-else-code-lt65536-2.ensures.byte in
    let second = c.put_continuation-at-else-code-lt65536.ensures.byte in
    rw (← c.from-code.ensures, encode-four c.from-code.result c.if-code-lt65536.false)
    (simp (last, third, second, c.put-at-else-code-lt65536.ensures.byte, append_assoc))
