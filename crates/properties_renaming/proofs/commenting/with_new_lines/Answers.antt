use Rattle.std.proofs.Common.{◌≡◌, ◌<◌, ◌-◌, ◌∙◌, ◌++◌, [], true, ap, arith, drop, get_or, inl, inr, length, refl, subst, sym}
use Rattle.std.specs.Str.{chars}
use Rattle.std.proofs.lemmas.List.{get_or-map, length-drop, length-map, take_all}
use Rattle.properties_format.specs.Encoding.{InForce, byte_order_mark, repertoire_in_force}
use Rattle.properties_format.specs.Lines.{joined}
use Rattle.properties_format.specs.Body.{as_lines}
use Rattle.properties_format.specs.Edited.{is_editable}
use Rattle.properties_format.specs.Computed.Items.{outcome_of}
use Rattle.properties_text.specs.Encoding.{encoding_of}
use Rattle.properties_editing.specs.Editing.{asked_for}
use Rattle.properties_editing.specs.Views.{AreGiven}
use Rattle.properties_renaming.specs.CommentLines.{lines_in_text}
use Rattle.properties_renaming.specs.Commenting.{HasLines, NewText, text_in, texts_in}
use Rattle.properties_renaming.specs.Renaming.{AreIn}
use Rattle.properties_renaming.specs.Sections.{groups_of}
use Rattle.properties_format.specs.Separators.{last_sign}
use Rattle.properties_renaming.specs.Private.Commenting.{IsSectionAt}
use Rattle.properties_renaming.specs.Private.Keyed.{value_of}
use Rattle.properties_renaming.specs.declared.commenting.NewComment.{NewComment}
use Rattle.properties_renaming.proofs.CommentedKeys.{all-made, given_comment, given_section, none-made, section-headed, section-kept, section-line}
use Rattle.properties_renaming.proofs.FoundComments.{comment-none}
use Rattle.properties_renaming.proofs.KeyedValues.{not-some}
use Rattle.properties_renaming.proofs.LastLines.{any-text, index-key, index-some, indices-below, is-last-at, not-last-at}
use Rattle.properties_renaming.proofs.NewComments.{ending-viewed, prints-in_force, section-at}
use Rattle.properties_renaming.proofs.commenting.with_new_lines.Goals as goal
use Rattle.properties_renaming.proofs.commenting.with_new_lines.Goals.{in-Some-index_at+in_ok-set_lines, in_default-index_at}

pub loop-copied-init : goal.loop-copied-init
loop-copied-init c = none-made c.in_ok-view.ensures c.in_ok-copied.ensures

pub set_lines-requires-clause-at : goal.set_lines-requires-clause-at
set_lines-requires-clause-at c =
    let takes = rw c.in-Some.is at c.in_ok-comment.ensures.gives in
    let h = c.loop-copied.invariant in
    let s = given_comment takes.0 in
    (s, subst (λ w. IsSectionAt w c.in-Some.comment s) (sym h.source_is) (section-at c.in-Some.comment c.in_ok-view.ensures h takes))

pub loop-copied-preserved : goal.loop-copied-preserved
loop-copied-preserved c =
    let r = asked_for c.args.options in
    let source = c.args.source.now in
    let comments = c.args.comments.now in
    let texts = texts_in comments in
    let indices = c.args.indices.now.entries in
    let lines = c.args.lines.now in
    let h = c.loop-copied.invariant in
    let o = c.in_ok-view.ensures in
    let view = c.in_ok-view.view in
    let comment = c.in-Some.comment in
    let takes = rw c.in-Some.is at c.in_ok-comment.ensures.gives in
    let t = takes.0 in
    let s = given_section t in
    let (division, number) = section-line comment.headed h t in
    let before = groups_of h.passed [] ++ t.run in
    let after = c.next_comment.new.view.to_come in
    let held : AreIn r.encoding source view.to_come =
    subst (λ w. let f : InForce = w in AreGiven f.encoding f.body view.to_come) (sym o.in_force) o.given in
    let sized = c.requires.sizes ∙ sym (length-map comments text_in) in
    let told : value_of indices (outcome_of (joined (as_lines s.group))) ≡ c.in_ok-last.last =
    ap (λ w. value_of indices (outcome_of w)) (sym c.line.ensures) ∙ sym c.in_ok-last.ensures in
    elim c.match-index_at.branch [
      | in-Some-index_at+in_ok-set_lines w ↦
          let i = w.in-Some-index_at.index in
          let index = sym c.index_at.ensures ∙ w.in-Some-index_at.is in
          let meant : NewComment = get_or comments i w.index-comments-index.result in
          let k = index-key indices i s.group (told ∙ (index-some lines c.in_ok-last.last comment.headed.group.line_number i index).0) in
          let below = indices-below texts indices c.requires.indices k.0 i k.2 in
          let size = length-map comments text_in in
          let within : i < length comments = omega arith in
          let named : text_in meant ≡ get_or texts i any-text = sym (get_or-map text_in comments i w.index-comments-index.result any-text within) in
          let own : chars w.deref.result.now ≡ (get_or texts i any-text).text =
          ap chars w.deref.ensures ∙ ap (λ n. let x : NewText = n in x.text) named in
          let last = is-last-at texts indices c.requires.indices c.requires.found sized view.to_come before s after held division
          comment.headed.group.line_number number c.in_ok-last.last i any-text told index in
          let force = ap (λ x. let f : InForce = x in f.encoding) (sym c.encoding_in_force-encoding.ensures.in_force) in
          let ok : is_editable (byte_order_mark r.encoding source).encoding ≡ true =
          subst (λ x. let f : InForce = x in is_editable f.encoding ≡ true) (sym o.in_force) o.editable in
          let prints = prints-in_force r c.repertoire_for.result source (encoding_of c.encoding_in_force-encoding.result.0) force ok c.repertoire_for.ensures in
          let at = subst (λ x. IsSectionAt x comment (given_comment t)) (sym h.source_is) (section-at comment o h takes) in
          let set = w.in_ok-set_lines.ensures (repertoire_in_force r source) (given_comment t) prints at in
          let start = c.encoding_in_force-encoding.result.1 in
          let body = take_all (length source - start) (drop start source) (let size = length-drop start source in omega arith)
          ∙ ap (λ x. let f : InForce = x in f.body) (sym c.encoding_in_force-encoding.ensures.in_force) in
          let ending = ending-viewed o _ c.last_ending.result.now body c.last_ending.ensures in
          let made = subst (λ x. HasLines (repertoire_in_force r source) x (last_sign (lines_in_text t.above)) t.comment s.group (get_or texts i any-text).text set.head) ending
          (subst (λ x. HasLines (repertoire_in_force r source) c.last_ending.result.now x t.comment s.group (get_or texts i any-text).text set.head) takes.3
          (subst (λ x. HasLines (repertoire_in_force r source) c.last_ending.result.now comment.separator t.comment s.group x set.head) own set.lines)) in
          rw w.copied-is
          (section-headed comment.headed set.head h t set.source_is set.done set.copied (inl (
            (get_or texts i any-text).text,
            last,
            record { above = t.above; comment = t.comment; is_comment = t.is_comment; head = set.head; lines = made; made_is = refl },
          )))
      | in_default-index_at w ↦
          let none = sym c.index_at.ensures ∙ not-some c.index_at.result w.in_default-index_at.not-Some in
          let other = not-last-at texts indices c.requires.indices c.requires.found sized view.to_come before s after held division
          comment.headed.group.line_number number c.in_ok-last.last told none in
          rw w.copied-is (section-kept comment.headed h t (inr (other, refl)))
    ]

pub returns : goal.returns
returns c =
    let none = comment-none c.loop-copied.view c.next_comment.new.view c.in_ok-comment.field-0 c.in_ok-comment.ensures.gives c.in_default.not-Some in
    let h = all-made c.in_ok-bytes.bytes.items c.in_ok-view.ensures c.loop-copied.invariant none c.in_ok-bytes.ensures in
    record {
      groups = c.in_ok-view.view.to_come;
      held = h.held;
      sections = h.sections;
      last = h.last;
      divided = h.divided;
      body = h.body;
      set = h.made;
      whole = h.whole;
    }
