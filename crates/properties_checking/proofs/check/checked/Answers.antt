use Rattle.std.proofs.Common.{◌≡◌, ℕ, List, [], ◌++◌, ◌∙◌, rules, map, refl, ap, append_assoc, subst, sym}
use Rattle.properties_text.specs.Encoding.{encoding_of}
use Rattle.java_properties.specs.Findings.{KeyPlace, escape_records}
use Rattle.properties_items.specs.declared.findings.MalformedEscape.{MalformedEscape}
use Rattle.properties_checking.specs.Private.Checking.{escape_finding, finding_of, ill_formed_finding, misread_finding, said_of}
use Rattle.properties_tables.specs.Private.Table.{table_places}
use Rattle.properties_checking.specs.Check.{first_of, ill_formed_of, finding_kind, said_line, said_value, ArrangesByLine}
use Rattle.properties_checking.specs.{Misread.misread_at, Misread.misread_mark, JsonLines.IsReportText, Kinds.reported, declared.check.Finding.Finding, declared.check.FindingKind.TheVariants.HoldsZero}
use Rattle.properties_checking.specs.{declared.check.FindingKind.TheVariants.LooksUtf8, declared.check.FindingKind.TheVariants.NonAscii}
use Rattle.properties_checking.specs.declared.check.Words.{Words}
use Rattle.properties_checking.proofs.CheckFindings.{misread-said-at, said-all, said-arranged, said-escapes, said-first, said-ill_formed, said-otherwise, said-parts}
use Rattle.properties_checking.proofs.check.checked.Goals as goal

-- kinds that are added one after another
added : {none front first ill looks ascii other escapes all : List Finding} (m a b c d e f g : List Finding) → none ≡ [] → front ≡ none ++ m
    → first ≡ front ++ a → ill ≡ first ++ b → looks ≡ ill ++ c → ascii ≡ looks ++ d → other ≡ ascii ++ e → escapes ≡ other ++ f
    → all ≡ escapes ++ g → all ≡ m ++ (a ++ (b ++ (c ++ (d ++ (e ++ (f ++ g))))))
added m a b c d e f g h h0 h1 h2 h3 h4 h5 h6 h7 =
    rw (h7, h6, h5, h4, h3, h2, h1, h0, h, append_assoc, append_assoc, append_assoc, append_assoc, append_assoc, append_assoc) refl

pub returns : goal.returns
returns c =
    let P : List KeyPlace = table_places c.in_ok-in_lines.in_lines.keys in
    let mark = misread_mark c.args.source.now in
    let zero = c.first_flawed_line-zero.result in
    let numbers : List ℕ = c.in_ok-numbers.numbers.items in
    let utf_8 = c.first_utf_8_line-utf_8.result in
    let refused : List ℕ = c.in_ok-refused.refused.items in
    let otherwise : List Finding = c.in_ok-otherwise.otherwise.items in
    let escapes : List MalformedEscape = escape_records c.in_ok-in_lines.ensures.escapes in
    let found : List Finding = c.in_ok-in_lines.in_lines.repeats.items in
    let words : Words = c.words_for-words.result in
    let all = added (misread_at misread_finding 1 mark) (first_of (finding_of HoldsZero) zero) (ill_formed_of ill_formed_finding words numbers)
    (first_of (finding_of LooksUtf8) utf_8) (map (finding_of NonAscii) refused) otherwise (map escape_finding escapes) found
    c.new-findings.ensures.items (rw c.misread_mark.ensures at c.in_ok-push_misread.ensures) c.in_ok-push_first.ensures
    (rw c.deref.ensures.value at c.in_ok-push_ill_formed.ensures)
    c.in_ok-push_first-2.ensures
    (rw c.deref-2.ensures.value at c.in_ok-push_all.ensures)
    (rw c.deref-3.ensures.value at c.in_ok-extend_from_slice.ensures.items)
    (rw (c.deref-4.ensures.value, c.in_ok-in_lines.ensures.escape_records) at c.in_ok-push_escapes.ensures)
    (rw c.deref-5.ensures.value at c.in_ok-extend_from_slice-2.ensures.items) in
    let repeats = rw (c.is_empty.ensures, c.in_ok-numbers.numbers.ok.0) at c.in_ok-in_lines.ensures.repeats in
    let said = said-parts P (misread_at misread_finding 1 mark) (first_of (finding_of HoldsZero) zero) (ill_formed_of ill_formed_finding words numbers)
    (first_of (finding_of LooksUtf8) utf_8) (map (finding_of NonAscii) refused) otherwise (map escape_finding escapes) found _ _ _ _ _ _ _ _
    (misread-said-at P 1 mark) (said-first P HoldsZero zero) (said-ill_formed P words numbers) (said-first P LooksUtf8 utf_8)
    (said-all P NonAscii refused) refl (said-escapes P escapes) repeats in
    let printed = rw c.deref-6.ensures.value at c.in_ok-push_findings.ensures in
    record {
      report = record {
        zero = zero;
        is_zero = c.first_flawed_line-zero.ensures;
        numbers = numbers;
        ill_formed = c.in_ok-numbers.ensures.are;
        utf_8 = utf_8;
        looks_utf_8 = c.first_utf_8_line-utf_8.ensures;
        refused = refused;
        are_refused = c.in_ok-refused.ensures;
        otherwise = map (said_of P) otherwise;
        are_otherwise = said-otherwise P c.args.asked.allowed (encoding_of c.args.encoding) c.args.source.now otherwise c.in_ok-otherwise.ensures;
        escapes = c.in_ok-in_lines.ensures.escapes;
        malformed = c.in_ok-in_lines.ensures.malformed;
        keys = c.in_ok-in_lines.ensures.keys;
        are_keys = c.in_ok-in_lines.ensures.are_keys;
        all = map (said_of P) c.sort.new.findings.items;
        arranged = subst (λ v. ArrangesByLine v (map (said_of P) c.sort.new.findings.items))
            (rw (c.words_for-words.ensures, c.is_some.ensures) at (ap (map (said_of P)) all ∙ said))
            (said-arranged P _ _ c.in_ok-sort.ensures);
        is = subst (IsReportText c.args.asked.report (said_line c.args.name.now) (said_value c.args.name.now)
            (reported c.args.asked.ignored (λ s. finding_kind s.what) (map (said_of P) c.sort.new.findings.items)))
            (sym (printed.is ∙ ap (λ v. v ++ printed.text) c.new-text.ensures.bytes)) printed.is_text;
      };
      table = c.in_ok-in_lines.ensures.table;
      places = c.in_ok-in_lines.ensures.places;
      malformed = c.in_ok-in_lines.ensures.escapes;
      are_malformed = c.in_ok-in_lines.ensures.malformed;
      escapes = c.in_ok-in_lines.ensures.escape_records;
      ill_formed = numbers;
      are_ill_formed = c.in_ok-numbers.ensures.are;
      well_formed = search rules;
    }
