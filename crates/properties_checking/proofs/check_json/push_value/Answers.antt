use Rattle.std.proofs.Common.{◌≡◌, ℕ, List, ◌∙◌, ◌++◌, ap, ap₂, codes, refl, subst, sym}
use Rattle.std.specs.{Prelude.decimal, Global.Global, declared.string.String.String}
use Rattle.std.proofs.lemmas.Result.{on_ok_weaker}
use Rattle.json.specs.Json as json
use Rattle.json.specs.Json.{boolean, member, no_members, object, string, Members}
use Rattle.java_properties.specs.Findings.{KeyPlace}
use Rattle.properties_items.specs.declared.findings.MalformedEscape.{MalformedEscape}
use Rattle.properties_checking.specs.Check.{detailed, finding_kind, said_value, words_of, SaidFinding}
use Rattle.properties_checking.specs.{Kinds.kind_name, Private.Checking.said_of, Private.Checking.what_of, Private.Objects.AddsJsonLine}
use Rattle.properties_checking.specs.{declared.check.Finding.Finding, declared.check.FindingKind.FindingKind}
use Rattle.properties_tables.specs.Private.Table.{table_places}
use Rattle.properties_checking.specs.declared.check.FindingKind.TheVariants.{HoldsZero, IllFormedLine, LooksUtf8, NonAscii, ReadOtherwise, Misread, Escape, Repeats}
use Rattle.properties_checking.proofs.check_json.push_value.Goals as goal

-- An object with these details was added.
told : (name : List ℕ) (s : SaidFinding) (old new : String Global) {k m : List ℕ} (details : Members → Members) → k ≡ kind_name (finding_kind s.what) → m ≡ words_of s.what
    → ((rest : Members) → details rest ≡ detailed s.what rest)
    → AddsJsonLine (object (member (codes "file") (string name) (member (codes "line") (json.number (decimal s.line)) (member (codes "kind") (string k)
    (details (member (codes "message") (string m) no_members)))))) old new
    → AddsJsonLine (said_value name s) old new
told name s old new {k = k} {m = m} details kind words same added =
    let whole : List ℕ → Members → json.Json =
    λ k rest. object (member (codes "file") (string name) (member (codes "line") (json.number (decimal s.line)) (member (codes "kind") (string k) rest))) in
    let more = same (member (codes "message") (string m) no_members) ∙ ap (λ w. detailed s.what (member (codes "message") (string w) no_members)) words in
    subst (λ v. AddsJsonLine v old new) (ap₂ whole kind more) added

-- Other findings have none.
none : (P : List KeyPlace) (kind : FindingKind) → ((escape : MalformedEscape) → kind ≡ Escape escape → ⊥) → ((row : ℕ) → kind ≡ Repeats row → ⊥)
    → (rest : Members) → rest ≡ detailed (what_of P kind) rest
none P HoldsZero no_escape no_row rest = refl
none P (IllFormedLine words) no_escape no_row rest = refl
none P LooksUtf8 no_escape no_row rest = refl
none P NonAscii no_escape no_row rest = refl
none P (ReadOtherwise byte) no_escape no_row rest = refl
none P (Misread m) no_escape no_row rest = refl
none P (Escape escape) no_escape no_row rest = absurd (no_escape escape refl)
none P (Repeats row) no_escape no_row rest = absurd (no_row row refl)

pub returns-in-Escape : goal.returns-in-Escape
returns-in-Escape c =
    let P = table_places c.args.keys.now in
    let f : Finding = c.args.finding.now in
    let words = c.as_str.ensures.value ∙ c.in_ok-push_words.ensures ∙ ap (λ v. v ++ words_of (what_of P f.kind)) c.new-words.ensures.bytes in
    on_ok_weaker c.push_object.result
    (told c.args.name.now (said_of P f) c.args.text.now c.push_object.new.text (λ rest. member (codes "in_comment") (boolean c.in-Escape.escape.in_comment) rest)
    (c.name-kind.ensures ∙ ap kind_name (c.kind_of.ensures P)) words (λ rest. ap (λ k. detailed (what_of P k) rest) (sym c.in-Escape.is)))
    c.push_object.ensures

pub returns-in-Repeats : goal.returns-in-Repeats
returns-in-Repeats c =
    let P = table_places c.args.keys.now in
    let f : Finding = c.args.finding.now in
    let words = c.as_str-in-Repeats.ensures.value ∙ c.in_ok-push_words.ensures
    ∙ ap (λ v. v ++ words_of (what_of P f.kind)) c.new-words.ensures.bytes in
    let both : List ℕ → ℕ → Members → Members =
    λ k n rest. member (codes "key") (string k) (member (codes "first") (json.number (decimal n)) rest) in
    on_ok_weaker c.push_object-in-Repeats.result
    (told c.args.name.now (said_of P f) c.args.text.now c.push_object-in-Repeats.new.text (both c.key_at-first.result.0.now c.key_at-first.result.1)
    (c.name-kind.ensures ∙ ap kind_name (c.kind_of.ensures P)) words
    (λ rest. ap₂ (λ k n. both k n rest) c.key_at-first.ensures.text c.key_at-first.ensures.line ∙ ap (λ k. detailed (what_of P k) rest) (sym c.in-Repeats.is)))
    c.push_object-in-Repeats.ensures

pub returns : goal.returns
returns c =
    let P = table_places c.args.keys.now in
    let f : Finding = c.args.finding.now in
    let words = c.as_str-in_default.ensures.value ∙ c.in_ok-push_words.ensures
    ∙ ap (λ v. v ++ words_of (what_of P f.kind)) c.new-words.ensures.bytes in
    on_ok_weaker c.push_object-in_default.result
    (told c.args.name.now (said_of P f) c.args.text.now c.push_object-in_default.new.text (λ rest. rest)
    (c.name-kind.ensures ∙ ap kind_name (c.kind_of.ensures P)) words (none P f.kind c.in_default.not-Escape c.in_default.not-Repeats))
    c.push_object-in_default.ensures
