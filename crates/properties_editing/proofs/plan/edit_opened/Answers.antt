use Rattle.std.proofs.Common.{◌≡◌, ◌∙◌, [], take, refl, ap, subst, sym, arith}
use Rattle.std.specs.Prelude.{Err}
use Rattle.std.proofs.lemmas.List.{take_all, take_rest}
use Rattle.properties_format.specs.Edits.{AreEdited}
use Rattle.properties_text.specs.Encoding.{encoding_of}
use Rattle.properties_editing.specs.Editing.{edits_in, asked_for}
use Rattle.properties_editing.specs.Private.BodyParts.{is_named}
use Rattle.properties_editing.proofs.PassedOver.{sound-weaker}
use Rattle.properties_editing.proofs.Editing.{made-result, refusal}
use Rattle.properties_editing.proofs.EditedLists.{next-made, next-named, next-parts}
use Rattle.properties_editing.proofs.EditsInTurn.{refuses}
use Rattle.properties_editing.proofs.SourceParts.{source-bytes, source-read, source-removable}
use Rattle.properties_editing.proofs.plan.edit_opened.Goals as goal

pub returns-in_err-edited : goal.returns-in_err-edited
returns-in_err-edited c =
    let source = c.args.source.now in
    let Makes = AreEdited (asked_for c.args.options) source (edits_in c.args.edits.now) in
    let refused = refusal c.args.options.comments (λ bytes. Unit {0}) {made = source} c.requires tt c.in_err-edited.ensures c.from_residual-in_err-edited.ensures.1 in
    let again = refuses c.args.options.comments (encoding_of c.args.options.encoding) source Makes (Err refused.0) {error = refused.0} refl refused.2 in
    rw (refused.1 ∙ again.1) again.2

pub loop-edit-init : goal.loop-edit-init
loop-edit-init c =
    let source = c.args.source.now in
    let opened = c.args.opened in
    let reads = rw (take_rest source opened.start) at c.in_ok-edited.ensures in
    let s = source-read (asked_for c.args.options) source c.args.options.comments opened c.in_ok-keys.keys c.in_ok-edited.edited c.requires reads in
    record {
      now = source;
      named = is_named c.in_ok-keys.keys;
      edited = refl;
      parts = record { groups = _; stand = s.1; sound = sound-weaker c.args.options.comments _ s.0 };
      are_named = c.in_ok-keys.ensures.1;
    }

pub make_edit-requires : goal.make_edit-requires
make_edit-requires c = next-parts c.args.edits.now c.loop-edit.edit-index _ c.edit-item.result c.loop-edit-test.true c.edit-item.is c.loop-edit.invariant

pub loop-edit-preserved : goal.loop-edit-preserved
loop-edit-preserved c =
    let h = c.loop-edit.invariant in
    next-made c.args.edits.now c.loop-edit.edit-index _ c.edit-item.result c.make_edit.new.edited c.loop-edit-test.true c.edit-item.is h
    (c.in_ok-make_edit.ensures (asked_for c.args.options) h.now h.named (next-named c.args.edits.now c.loop-edit.edit-index _ c.edit-item.result c.loop-edit-test.true c.edit-item.is h) h.parts)

pub to_bytes-requires-clause-start : goal.to_bytes-requires-clause-start
to_bytes-requires-clause-start c = c.loop-edit.invariant.parts.stand.within

pub to_bytes-requires-clause-within : goal.to_bytes-requires-clause-within
to_bytes-requires-clause-within c = (source-removable [] c.loop-edit.invariant.parts.stand).1

pub returns : goal.returns
returns c =
    let source = c.args.source.now in
    let edits = c.args.edits.now in
    let opened = c.args.opened in
    let r = asked_for c.args.options in
    let h = c.loop-edit.invariant in
    let all : edits_in (take c.loop-edit.edit-index edits) ≡ edits_in edits = ap edits_in (take_all c.loop-edit.edit-index edits (omega arith)) in
    let reads = rw (take_rest source opened.start) at c.in_ok-edited.ensures in
    let sound = (source-read r source c.args.options.comments opened c.in_ok-keys.keys c.in_ok-edited.edited c.requires reads).0 in
    let bytes : h.now ≡ c.in_ok-bytes.bytes.items = sym (source-bytes h.parts.stand) ∙ sym c.in_ok-bytes.ensures in
    made-result c.args.options.comments (AreEdited r source (edits_in edits)) c.in_ok-bytes.bytes.items c.requires sound
    (subst (λ v. AreEdited r source v c.in_ok-bytes.bytes.items) all (subst (AreEdited r source (edits_in (take c.loop-edit.edit-index edits))) bytes h.edited))
