use Rattle.std.proofs.Common.{length, ap, subst, sym, ◌∙◌}
use Rattle.std.specs.{Prelude.map, Option.option_map}
use Rattle.std.proofs.{lemmas.List.length-map, lemmas.Result.err_from_is_err_and}
use Rattle.properties_text.specs.Encoding.{encoding_of}
use Rattle.java_properties.specs.{Editing.edit_in, Editing.edits_in, Maps.characters}
use Rattle.properties_changing.specs.{Private.Collected.with_values, Change.edited_key, Change.AreKnown}
use Rattle.properties_tables.specs.Values.{value_texts, HaveValues}
use Rattle.properties_changing.proofs.{SoughtKeys.as-many, SoughtKeys.refused, KnownEdits.known-are}
use Rattle.properties_changing.proofs.change.known_edits.Goals as goal

pub with_values-requires : goal.with_values-requires
with_values-requires c =
    let edits = c.args.edits.now in
    let values = c.in_ok-values.values.items in
    ap length c.deref-2.ensures.value ∙ sym (length-map values (option_map characters))
    ∙ as-many (encoding_of c.args.encoding) c.args.source.now (map characters c.deref.result.now) (value_texts values) c.in_ok-values.ensures.1
    ∙ ap (λ k. length (map characters k)) c.deref.ensures.value ∙ ap length c.in_ok-keys.ensures
    ∙ length-map (edits_in edits) edited_key ∙ length-map edits edit_in

pub returns-in_err-values : goal.returns-in_err-values
returns-in_err-values c =
    let error = err_from_is_err_and c.from_residual-in_err-values.result c.from_residual-in_err-values.ensures.1 in
    rw (error.1, error.2) (refused (encoding_of c.args.encoding) c.args.source.now _ c.in_err-values.ensures c.requires)

pub returns : goal.returns
returns c =
    let e = encoding_of c.args.encoding in
    let source = c.args.source.now in
    let edits = edits_in c.args.edits.now in
    let texts = value_texts c.in_ok-values.values.items in
    let keys = ap (λ k. map characters k) c.deref.ensures.value ∙ c.in_ok-keys.ensures in
    let chosen = c.in_ok-with_values.ensures ∙ ap (λ v. with_values edits (value_texts v)) c.deref-2.ensures.value in
    subst (λ k. AreKnown e source edits k) (sym chosen) (known-are e source edits texts (subst (λ k. HaveValues e source k texts) keys c.in_ok-values.ensures.1))
