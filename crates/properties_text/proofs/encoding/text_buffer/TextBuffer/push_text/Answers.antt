use Rattle.std.proofs.Common.{subst, sym, refl}
use Rattle.std.specs.Str.{IsUtf8}
use Rattle.std.proofs.lemmas.Str.{IsUtf8-append, chars-append}
use Rattle.properties_text.proofs.encoding.text_buffer.TextBuffer.push_text.Goals as goal

pub invariant_of-self-2 : goal.invariant_of-self-2
invariant_of-self-2 c =
    subst IsUtf8 (sym c.in_ok-extend.ensures.appended) (IsUtf8-append _ _ c.self.invariant c.as_bytes.ensures.utf8)

pub returns-clause-appended : goal.returns-clause-appended
returns-clause-appended c =
    rw (c.in_ok-extend.ensures.appended, chars-append _ _ c.self.invariant, c.self.view_is, c.as_bytes.ensures.value) refl
