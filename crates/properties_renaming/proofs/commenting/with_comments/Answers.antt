use Rattle.std.proofs.Common.{◌∙◌, [], append-nil, subst, sym}
use Rattle.std.proofs.lemmas.List.{length-map}
use Rattle.properties_text.specs.Encoding.{encoding_of}
use Rattle.properties_renaming.specs.Commenting.{text_in, texts_in}
use Rattle.properties_renaming.specs.Private.Commenting.{IsFirstWithout, NoneIsWithout, TellsFirst}
use Rattle.properties_renaming.proofs.CommentedKeys.{guarded-whole, one-groups}
use Rattle.properties_renaming.proofs.KeyedValues.{not-some}
use Rattle.properties_renaming.proofs.LastLines.{have-keys, lacks-pair, same-have}
use Rattle.properties_renaming.proofs.commenting.with_comments.Goals as goal

pub returns-in-Some : goal.returns-in-Some
returns-in-Some c =
    let texts = texts_in c.args.comments.now in
    let indices = c.in_ok-indices.indices.entries in
    let (sizes, found) = c.in_ok-lines.ensures in
    let sized = sizes ∙ sym (length-map c.args.comments.now text_in) in
    let first = subst (λ l. IsFirstWithout indices l texts c.in-Some.index) c.deref.ensures.value c.in-Some.ensures in
    lacks-pair texts indices c.in-Some.index c.in_ok-indices.ensures sized found first

pub returns : goal.returns
returns c =
    let e = encoding_of c.args.options.encoding in
    let source = c.args.source.now in
    let texts = texts_in c.args.comments.now in
    let indices = c.in_ok-indices.indices.entries in
    let (sizes, found) = c.in_ok-lines.ensures in
    let sized = sizes ∙ sym (length-map c.args.comments.now text_in) in
    let none = not-some c.first_without.result c.in_default.not-Some in
    let all = subst (λ l. NoneIsWithout indices l texts) c.deref.ensures.value (subst (TellsFirst indices c.deref.result.now texts) none c.first_without.ensures) in
    let have = have-keys texts indices c.in_ok-indices.ensures sized found texts [] (sym (append-nil texts)) all in
    let put = c.in_ok-others.ensures in
    record {
      groups = put.groups;
      held = put.held;
      have_keys = same-have texts found.groups put.groups (one-groups e source found.groups put.groups found.held put.held) have;
      sections = put.sections;
      last = put.last;
      divided = put.divided;
      body = put.body;
      set = put.set;
      whole = guarded-whole source c.in_ok-others.others.items put.body c.in_ok-bytes.bytes.items put.whole c.in_ok-bytes.ensures;
    }
