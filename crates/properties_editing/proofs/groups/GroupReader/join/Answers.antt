use Rattle.std.proofs.Common.{◌≡◌, ◌∙◌, sym, subst, ap, refl, true, false, inl, inr}
use Rattle.std.specs.Prelude.{◌⊎◌}
use Rattle.std.specs.declared.alloc.AllocError.{AllocError}
use Rattle.properties_lines.specs.declared.scanner.RawLine.{RawLine}
use Rattle.properties_editing.proofs.BodyGroups.{group-more, group-whole, more-begun}
use Rattle.properties_editing.proofs.groups.GroupReader.join.Goals as goal
use Rattle.properties_editing.proofs.groups.GroupReader.join.Goals.{then-loop-joined-test+in_ok-find_line+else-branch, else-loop-joined-test}
use Rattle.properties_editing.specs.Private.BodyGroups.{IsBegun, ReadsGroup}
use Rattle.properties_editing.specs.declared.groups.GroupReader.{GroupReader}

pub is_line-is_line-requires : goal.is_line-is_line-requires
is_line-is_line-requires c =
    let taken = rw c.if-branch.true at c.in_ok-find_line.ensures in
    rw (c.line-line.ensures, c.encoding-encoding.ensures) taken.flags

pub loop-joined-preserved : goal.loop-joined-preserved
loop-joined-preserved c =
    let mid = c.loop-joined in
    let line = c.line-line.ensures in
    let taken = rw c.if-branch.true at c.in_ok-find_line.ensures in
    let adds = rw (line, c.encoding-encoding.ensures) at c.in_ok-is_open.ensures.adds in
    let unfinished = mid.invariant.begun.unfinished c.loop-joined-test.true in
    let ends = ap (λ v. let w : RawLine = v in w.end) line in
    record {
      whole = λ from h.
          group-more AllocError c.args.body.now from mid.joined mid.self c.find_line.new.self c.join.new.self c.line-line.result.now.end
          c.in_ok-is_open.is_open (mid.invariant.whole from h) c.loop-joined-test.true taken unfinished adds ends;
      begun = more-begun c.args.body.now mid.self c.find_line.new.self c.join.new.self mid.joined _ mid.invariant.begun taken adds.2 c.join.ensures.sound refl ends;
    }

pub returns : goal.returns
returns c =
    let body = c.args.body.now in
    let joined = c.loop-joined.joined in
    let mid = c.loop-joined.self in
    let stop : (c.loop-joined-test.self ≡ mid) × (joined.is_open ≡ false ⊎ mid.scanner.is_done ≡ true) = elim c.loop-joined-test.branch [
      | then-loop-joined-test+in_ok-find_line+else-branch w ↦ let none = rw w.if-branch.false at w.in_ok-find_line.ensures in (w.self-is ∙ none.1, inr none.0)
      | else-loop-joined-test w ↦ (w.self-is, inl w.loop-joined-test.false)
    ] in
    λ before h.
    group-whole body before joined c.loop-joined-test.self c.make_text.new.self (subst (ReadsGroup body before joined) (sym stop.0) (c.loop-joined.invariant.whole before h))
    (subst (λ v. let w : GroupReader = v in joined.is_open ≡ false ⊎ w.scanner.is_done ≡ true) (sym stop.0) stop.1)
    (subst (λ v. IsBegun body v joined) (sym stop.0) c.loop-joined.invariant.begun) c.in_ok-make_text.ensures.text
