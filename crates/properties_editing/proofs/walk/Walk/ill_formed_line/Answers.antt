use Rattle.std.proofs.Common.{◌≡◌, ◌∙◌, ◌≤◌, inl, inr, subst, true}
use Rattle.std.specs.Prelude.{◌⊎◌}
use Rattle.properties_editing.proofs.BodyViews.{all-texts, plain-texts, texts-none, texts-more, texts-found, texts-all, within-before}
use Rattle.properties_text.specs.Encoding.{encoding_of}
use Rattle.properties_editing.specs.Private.BodyViews.{AreLinesIn, walked_lines}
use Rattle.properties_editing.proofs.walk.Walk.ill_formed_line.Goals as goal
use Rattle.properties_editing.proofs.walk.Walk.ill_formed_line.Goals.{then-loop-lines-test+in_ok-find_line+else-branch, else-loop-lines-test}

pub returns-in-WINDOWS_1252 : goal.returns-in-WINDOWS_1252
returns-in-WINDOWS_1252 c =
    let is = rw c.in-WINDOWS_1252.is at c.encoding.ensures in
    subst (λ e. AreLinesIn (encoding_of e) (walked_lines c.args.self.now)) is (all-texts (walked_lines c.args.self.now))

pub returns-then-is_plain : goal.returns-then-is_plain
returns-then-is_plain c = plain-texts c.requires (c.is_plain.ensures c.if-is_plain.true)

pub loop-lines-init : goal.loop-lines-init
loop-lines-init c =
    texts-none c.from_state-lines.result c.requires c.from_state-lines.ensures
    (within-before c.from_state-lines.result c.requires c.from_state-lines.ensures)

pub returns-then-not-is_line : goal.returns-then-not-is_line
returns-then-not-is_line c =
    let takes = rw c.if-branch.true at c.in_ok-find_line.ensures in
    let inside = rw c.place.ensures at c.loop-lines-test.true in
    let same = takes.encoding ∙ c.loop-lines.invariant.encoding in
    let told = rw (c.encoding-in-loop-lines.ensures, c.raw_line-line.ensures, same) at c.if-not-is_line.ensures in
    rw c.number.ensures (texts-found c.loop-lines.invariant takes inside told)

pub loop-lines-preserved : goal.loop-lines-preserved
loop-lines-preserved c =
    let takes = rw c.if-branch.true at c.in_ok-find_line.ensures in
    let inside = rw c.place.ensures at c.loop-lines-test.true in
    let same = takes.encoding ∙ c.loop-lines.invariant.encoding in
    let told = rw (c.encoding-in-loop-lines.ensures, c.raw_line-line.ensures, same) at c.if-not-is_line.ensures in
    texts-more c.loop-lines.invariant takes inside told

pub returns : goal.returns
returns c =
    let next = c.args.group.next in
    let stop : (next ≤ c.loop-lines.lines.scanner.at) ⊎ (c.loop-lines.lines.scanner.is_done ≡ true) = elim c.loop-lines-test.branch [
      | then-loop-lines-test+in_ok-find_line+else-branch w ↦ let none = rw w.if-branch.false at w.in_ok-find_line.ensures in inr none.0
      | else-loop-lines-test w ↦ inl (rw c.place.ensures at w.loop-lines-test.false)
    ] in
    texts-all c.loop-lines.invariant stop
