use Rattle.std.proofs.Common.{refl, arith, rules, ◌≡◌, true, false, sym, ap, ◌∙◌, inl, inr}
use Rattle.std.specs.Str.{chars}
use Rattle.std.specs.String.{string_bytes}
use Rattle.std.proofs.lemmas.Str.{IsUtf8-string_bytes}
use Rattle.std.proofs.lemmas.Result.{err_from_is_err_and}
use Rattle.properties_format.specs.Lines.{is_comment_line, is_open}
use Rattle.single_lines.proofs.Joining.{popped, text-added, join-begins, join-goes_on, join-closes, join-ends, join-fails, join-lacks, stands-alone}
use Rattle.single_lines.proofs.logical.LogicalLines.join.Goals as goal
use Rattle.single_lines.proofs.logical.LogicalLines.join.Goals.{then-is_comment_line-via-then-is_comment_line, then-is_comment_line-via-else-is_comment_line+then-not-is_open}

pub returns-then-is_comment_line-clause-takes : goal.returns-then-is_comment_line-clause-takes
returns-then-is_comment_line-clause-takes g c = λ from before.
    elim c.then-is_comment_line.branch [
      | then-is_comment_line-via-then-is_comment_line w ↦
          stands-alone g.I.Iterator.next_gives from c.args.first _ before refl
          (inl (ap (λ v. is_comment_line (chars v)) (sym c.as_str.ensures.value) ∙ sym c.is_comment_line.ensures ∙ w.if-is_comment_line.true))
      | then-is_comment_line-via-else-is_comment_line+then-not-is_open w ↦
          stands-alone g.I.Iterator.next_gives from c.args.first _ before refl
          (inr (ap (λ v. is_open (chars v)) (sym w.as_str-else-is_comment_line.ensures.value) ∙ sym w.is_open.ensures ∙ w.if-not-is_open.true))
    ]

pub loop-line-init : goal.loop-line-init
loop-line-init g c =
    let first = string_bytes c.args.first.1 in
    let plain : is_comment_line (chars first) ≡ false =
    ap (λ v. is_comment_line (chars v)) (sym c.as_str.ensures.value) ∙ sym c.is_comment_line.ensures ∙ c.if-is_comment_line.false in
    let open_first : is_open (chars first) ≡ true =
    ap (λ v. is_open (chars v)) (sym c.as_str-else-is_comment_line.ensures.value) ∙ sym c.is_open.ensures ∙ c.if-not-is_open.false in
    let rest = popped first (string_bytes c.pop.new.self) _ (IsUtf8-string_bytes c.args.first.1) open_first c.args.first.1.bytes.ok.0 c.pop.ensures.ascii_bytes in
    record {
      done = c.requires.done;
      can = c.requires.can;
      finite = c.requires.finite;
      fewer = omega arith;
      joins = join-begins g.I.Iterator.next_gives c.args.self.now.lines c.args.first _ plain open_first rest;
    }

pub returns-in_err-next-clause-takes : goal.returns-in_err-next-clause-takes
returns-in_err-next-clause-takes g c = λ from before.
    let p = err_from_is_err_and c.from_residual.result c.from_residual.ensures.1 in
    let given = rw c.in_err-next.was at c.in-Some.ensures.steps in
    rw (p.1, p.2) (c.loop-line.invariant.done, inl (join-fails g.I.Iterator.next_gives from _ _ _ c.args.first _ _ before c.loop-line.invariant.joins given))

pub returns-in_err-push_str-clause-takes : goal.returns-in_err-push_str-clause-takes
returns-in_err-push_str-clause-takes g c = λ from before.
    let p = err_from_is_err_and c.from_residual-in_err-push_str.result c.from_residual-in_err-push_str.ensures.1 in
    let given = rw c.in_ok-next.was at c.in-Some.ensures.steps in
    rw p.1 (c.loop-line.invariant.done, inr (join-lacks g.I.Iterator.next_gives from _ _ _ c.args.first _ _ _ before c.loop-line.invariant.joins given p.2))

pub loop-line-preserved : goal.loop-line-preserved
loop-line-preserved g c =
    let given = rw c.in_ok-next.was at c.in-Some.ensures.steps in
    let next = c.in_ok-next.field-0 in
    let open_next : is_open (chars (string_bytes next.1)) ≡ true =
    ap (λ v. is_open (chars v)) (sym c.as_str-in-Some-2.ensures.value) ∙ sym c.is_open-in-Some.ensures ∙ c.if-not-is_open-2.false in
    let text = text-added (string_bytes c.loop-line.text) (string_bytes c.push_str.new.self) _ (string_bytes next.1) _
    (IsUtf8-string_bytes c.loop-line.text) c.in_ok-push_str.ensures.bytes c.addition.ensures c.as_str-in-Some.ensures.value in
    let joins = join-goes_on g.I.Iterator.next_gives c.args.self.now.lines _ _ c.args.first next _ c.loop-line.invariant.joins given open_next in
    record {
      done = c.loop-line.invariant.done;
      can = search rules;
      finite = search rules;
      fewer = search rules;
      joins = rw text joins;
    }

pub returns-then-not-is_open-2-clause-takes : goal.returns-then-not-is_open-2-clause-takes
returns-then-not-is_open-2-clause-takes g c = λ from before.
    let given = rw c.in_ok-next.was at c.in-Some.ensures.steps in
    let next = c.in_ok-next.field-0 in
    let closed : is_open (chars (string_bytes next.1)) ≡ false =
    ap (λ v. is_open (chars v)) (sym c.as_str-in-Some-2.ensures.value) ∙ sym c.is_open-in-Some.ensures ∙ c.if-not-is_open-2.true in
    let text = text-added (string_bytes c.loop-line.text) (string_bytes c.push_str.new.self) _ (string_bytes next.1) _
    (IsUtf8-string_bytes c.loop-line.text) c.in_ok-push_str.ensures.bytes c.addition.ensures c.as_str-in-Some.ensures.value in
    join-closes g.I.Iterator.next_gives from c.args.self.now.lines _ c.args.first next _ _ _ before c.loop-line.invariant.joins given closed refl refl text

pub returns-clause-takes : goal.returns-clause-takes
returns-clause-takes g c = λ from before.
    join-ends g.I.Iterator.next_gives from c.args.self.now.lines _ c.args.first _ _ _ before c.loop-line.invariant.joins
    c.in_default.ensures.steps c.loop-line.invariant.done refl refl
