use Rattle.std.proofs.Common.{◌≡◌, ℕ, List, sym, subst}
use Rattle.std.specs.Prelude.{None}
use Rattle.std.specs.BTreeMap.{get_by_text}
use Rattle.std.specs.Str.{chars}
use Rattle.std.specs.String.{string_bytes}
use Rattle.std.proofs.lemmas.Str.{IsUtf8-string_bytes}
use Rattle.java_properties.specs.Private.LineByLine.{KeepsFirst}
use Rattle.java_properties.proofs.KeyLines.{kept-first, new-first}
use Rattle.java_properties.proofs.iter.keys.keep_first.Goals as goal

pub returns-in-Some-clause-keeps : goal.returns-in-Some-clause-keeps
returns-in-Some-clause-keeps c =
    let found = rw c.as_str.ensures.value at c.in-Some.ensures.value in
    kept-first c.args.firsts.now (string_bytes c.args.key.now) c.args.line_number c.in-Some.first.now (IsUtf8-string_bytes c.args.key.now) found

pub returns-clause-keeps : goal.returns-clause-keeps
returns-clause-keeps c =
    let copy = c.in_ok-clone.field-0 in
    let same = c.in_ok-clone.ensures.cases in
    let none = rw c.as_str.ensures.value at c.in_default.ensures.value in
    let Absent : List ℕ → Type 0 = λ v. None ≡ get_by_text c.args.firsts.now v in
    let Kept : List ℕ → Type 0 = λ v. KeepsFirst c.args.line_number (chars v) c.args.firsts.now.entries c.insert.new.self.entries c.args.line_number in
    subst Kept same
    (new-first c.args.firsts.now c.insert.new.self (string_bytes copy) c.args.line_number (IsUtf8-string_bytes copy) (subst Absent (sym same) none)
    c.in_ok-insert.ensures.updates)
