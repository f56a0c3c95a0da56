use Rattle.std.proofs.Common.{refl}
use Rattle.std.specs.Prelude.{[], Ok}
use Rattle.std.proofs.lemmas.List.{take_rest}
use Rattle.properties_format.specs.Edits.{AreEdited}
use Rattle.properties_editing.specs.Documents.{OpensDocumentWith}
use Rattle.properties_editing.specs.Editing.{asked_for}
use Rattle.properties_editing.specs.Private.BodyDocuments.{IsDocument, open_document}
use Rattle.properties_editing.specs.declared.document.Document.TheInside.{Inside}
use Rattle.properties_editing.proofs.BodyDocuments.{none-refused, opens-document}
use Rattle.properties_editing.proofs.Editing.{refusal}
use Rattle.properties_editing.proofs.document.Document.parse_with.Goals as goal

pub returns-in_err-edited : goal.returns-in_err-edited
returns-in_err-edited c =
    let comments = c.args.options.comments in
    let r = asked_for c.args.options in
    let source = c.args.source.now in
    let refused = refusal comments (AreEdited r source []) {made = source} c.in_ok-opened.ensures refl
    c.in_err-edited.ensures c.from_residual-in_err-edited.ensures.1 in
    rw refused.1 (record { opens = none-refused comments r source refused.0 refused.2 })

-- the document that is made
made : goal.In_ok-to_vec → Inside
made c = record {
  alloc = c.args.alloc;
  encoding = c.args.options.encoding;
  comments = c.args.options.comments;
  source = c.in_ok-to_vec.field-0;
  edited = c.in_ok-edited.edited;
}

is-opened : (c : goal.In_ok-to_vec) → IsDocument (made c) × OpensDocumentWith c.args.options c.args.source.now (Ok (open_document (made c)))
unfolding made
is-opened c =
    let reads = rw (take_rest c.args.source.now c.in_ok-opened.opened.start) at c.in_ok-edited.ensures in
    opens-document (made c) c.args.options c.args.source.now c.in_ok-opened.opened c.new-keys.result refl refl
    (c.in_ok-to_vec.ensures.items_if_clones_equal (λ x y same. same)) c.in_ok-opened.ensures reads c.new-keys.ensures.named c.new-keys.ensures.all

pub invariant_of-result : goal.invariant_of-result
unfolding made
invariant_of-result c = (is-opened c).0

pub returns : goal.returns
unfolding made
returns c = record { opens = (is-opened c).1 }
