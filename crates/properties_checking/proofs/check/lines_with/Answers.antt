use Rattle.std.proofs.Common.{ℕ, List, [], ◌∷◌, ◌++◌, take, get_or, refl, ap, sym, ◌∙◌, subst, append_assoc, append-nil}
use Rattle.std.specs.Prelude.{map}
use Rattle.std.proofs.lemmas.List.{take_more}
use Rattle.properties_format.specs.Encoding.{Encoding}
use Rattle.properties_text.specs.Encoding.{encoding_of}
use Rattle.properties_checking.specs.{Private.Checking.finding_of, Private.Checking.otherwise_finding, Check.AreWithBytes, declared.check.Finding.Finding}
use Rattle.properties_checking.specs.declared.check.FindingKind.TheVariants.{ReadOtherwise}
use Rattle.properties_tables.specs.{Lines.AreFlawedLines, declared.ill_formed.Flaw.TheVariants.Byte}
use Rattle.properties_checking.proofs.check.lines_with.Goals as goal

-- the findings of one byte more
with-more : (e : Encoding) (source bytes : List ℕ) (found : List Finding) (byte : ℕ) (numbers : List ℕ) → AreWithBytes otherwise_finding e source bytes found
    → AreFlawedLines (Byte byte) e source numbers → AreWithBytes otherwise_finding e source (bytes ++ byte ∷ []) (found ++ map (finding_of (ReadOtherwise byte)) numbers)
with-more e source [] found byte numbers none are =
    let more = map (finding_of (ReadOtherwise byte)) numbers in
    (numbers, [], are, ap (λ v. v ++ more) none ∙ sym (append-nil more), refl)
with-more e source (b ∷ bytes) found byte numbers (first, others, own, is, rest) are =
    let more = map (finding_of (ReadOtherwise byte)) numbers in
    let one = map (finding_of (ReadOtherwise b)) first in
    (first, others ++ more, own, ap (λ v. v ++ more) is ∙ append_assoc one others more, with-more e source bytes others byte numbers rest are)

pub loop-byte-preserved : goal.loop-byte-preserved
loop-byte-preserved c =
    let e = encoding_of c.args.encoding in
    let source = c.args.source.now in
    let bytes = c.args.bytes.now in
    let i = c.loop-byte.byte-index in
    let byte = get_or bytes i 0 in
    let old = c.loop-byte.findings.items in
    let pushed = c.in_ok-push_all.ensures ∙ ap (λ v. old ++ map (finding_of (ReadOtherwise byte)) v) c.deref.ensures.value in
    subst (λ v. AreWithBytes otherwise_finding e source v c.push_all.new.findings.items) (sym (take_more bytes i 0 c.loop-byte-test.true))
    (subst (AreWithBytes otherwise_finding e source (take i bytes ++ byte ∷ [])) (sym pushed)
    (with-more e source (take i bytes) old byte c.in_ok-numbers.numbers.items c.loop-byte.invariant c.in_ok-numbers.ensures.are))
