use Rattle.std.proofs.Common.{◌∙◌, ap, sym, subst, take}
use Rattle.std.specs.Str.{IsUtf8}
use Rattle.std.proofs.lemmas.Str.{IsUtf8-take}
use Rattle.properties_editing.specs.declared.cuts.Cut.{Cut}
use Rattle.properties_editing.proofs.BodyViews.{place-found, plain-place}
use Rattle.properties_editing.proofs.walk.Walk.place_in_line.Goals as goal

pub count_characters-count-requires : goal.count_characters-count-requires
count_characters-count-requires c =
    let line = c.as_bytes-line.ensures.value ∙ c.line.ensures in
    subst (λ v. IsUtf8 (take c.args.position v)) (sym line)
    (IsUtf8-take _ c.args.position c.requires.viewed.takes.held_text.text c.requires.whole)

pub returns : goal.returns
returns c =
    let line = c.as_bytes-line.ensures.value ∙ c.line.ensures in
    let count = rw line at c.count_characters-count.ensures.count in
    let found = rw c.from_state-lines.ensures at c.in_ok-find_cut.ensures in
    place-found c.args.position c.in_ok-find_cut.field-0.at c.count_characters-count.result c.requires.viewed c.requires.whole
    c.requires.viewed.takes.held_text.text count
    (ap (λ v. let w : Cut = v in w.at) found)

pub returns-then-is_plain : goal.returns-then-is_plain
returns-then-is_plain c = plain-place c.args.position c.requires.viewed (c.is_plain.ensures c.if-is_plain.true) c.requires.whole c.requires.whole.0
