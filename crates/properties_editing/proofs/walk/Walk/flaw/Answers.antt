use Rattle.std.proofs.Common.{◌∙◌, sym, subst, take}
use Rattle.std.specs.Str.{IsUtf8}
use Rattle.std.proofs.lemmas.Str.{IsUtf8-take}
use Rattle.properties_editing.proofs.BodyViews.{flaw-placed}
use Rattle.properties_editing.proofs.walk.Walk.flaw.Goals as goal

pub count_characters-count-requires : goal.count_characters-count-requires
count_characters-count-requires c =
    let line = c.as_bytes.ensures.value ∙ c.line-line.ensures in
    let found = rw c.line-line.ensures at c.in-Some.ensures in
    subst (λ v. IsUtf8 (take c.in-Some.position v)) (sym line)
    (IsUtf8-take _ c.in-Some.position c.requires.takes.held_text.text found.whole)

pub overflow_sub-result : goal.overflow_sub-result
overflow_sub-result c =
    let line = c.as_bytes.ensures.value ∙ c.line-line.ensures in
    let found = rw c.line-line.ensures at c.in-Some.ensures in
    let count = rw line at c.count_characters-count.ensures.count in
    let cut = rw c.from_state-lines.ensures at c.in_ok-cut.ensures in
    (flaw-placed c.in-Some.position c.count_characters-count.result c.in-Some.how c.in_ok-cut.cut c.requires found count cut).0

pub returns : goal.returns
returns c =
    let line = c.as_bytes.ensures.value ∙ c.line-line.ensures in
    let found = rw c.line-line.ensures at c.in-Some.ensures in
    let count = rw line at c.count_characters-count.ensures.count in
    let cut = rw c.from_state-lines.ensures at c.in_ok-cut.ensures in
    (flaw-placed c.in-Some.position c.count_characters-count.result c.in-Some.how c.in_ok-cut.cut c.requires found count cut).1
