use Rattle.std.proofs.Common.{◌≡◌, ℕ, List, ◌∙◌, codes, refl, subst, sym}
use Rattle.std.specs.{Prelude.decimal, Prelude.encode_utf8_all, Str.chars}
use Rattle.std.proofs.lemmas.Str.{encodes-chars}
use Rattle.json.specs.Json.{member, no_members, number, object, string}
use Rattle.java_properties.specs.Findings.{KeyPlace}
use Rattle.properties_tools.specs.{Private.Lacking.key_place, Propedit.Against.missing_line, Propedit.Against.missing_value, Propedit.Against.missing_words}
use Rattle.properties_tools.specs.declared.propedit.against.Sides.{Sides}
use Rattle.properties_checking.specs.{Kinds.kind_name, declared.kinds.Kind.TheVariants.MissingKey, Private.Objects.AddsJsonLine}
use Rattle.properties_checking.proofs.Json.{adds-object}
use Rattle.properties_tools.proofs.propedit.against.push_missing.Goals as goal

members : (name base : List ℕ) (p : KeyPlace) {kind k m : List ℕ} → kind ≡ kind_name MissingKey → k ≡ encode_utf8_all p.key → m ≡ missing_words base p
    → object (member (codes "file") (string name) (member (codes "kind") (string kind) (member (codes "key") (string k) (member (codes "base") (string base)
    (member (codes "base_line") (number (decimal p.number)) (member (codes "message") (string m) no_members)))))) ≡ missing_value name base p
members name base p is key words = rw (is, key, words) refl

pub returns-in_ok-push_object-in-Json : goal.returns-in_ok-push_object-in-Json
returns-in_ok-push_object-in-Json c =
    let s : Sides = c.args.sides.now in
    let name = s.heading.name.now in
    let base = s.base_name.now in
    let p = key_place (chars c.args.key.now) c.args.base_line in
    let value = members name base p c.name.ensures (sym (encodes-chars c.args.key.now c.utf8.key)) (c.as_str.ensures.value ∙ c.in_ok-words-in-Json.ensures.ok) in
    rw c.in-Json.is (adds-object (missing_line name base) (missing_value name base) p
    (subst (λ v. AddsJsonLine v c.args.text.now c.push_object.new.text) value c.in_ok-push_object-in-Json.ensures))
