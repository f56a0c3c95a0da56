use Rattle.std.proofs.Common.{length, ap, sym, ◌∙◌}
use Rattle.std.specs.{Prelude.map, Option.option_map}
use Rattle.std.proofs.{lemmas.List.length-map, lemmas.Result.err_from_is_err_and}
use Rattle.properties_text.specs.Encoding.{encoding_of}
use Rattle.java_properties.specs.Maps.{characters}
use Rattle.properties_changing.specs.Private.Collected.{first_without}
use Rattle.properties_tables.specs.Values.{value_texts}
use Rattle.properties_changing.proofs.SoughtKeys.{absent-found, as-many, of-none}
use Rattle.properties_changing.proofs.change.first_absent.Goals as goal

pub first_without_value-requires : goal.first_without_value-requires
first_without_value-requires c =
    let keys = c.args.keys.now in
    let values = c.in_ok-values.values.items in
    ap length c.deref.ensures.value ∙ sym (length-map values (option_map characters))
    ∙ as-many (encoding_of c.args.encoding) c.args.source.now (map characters keys) (value_texts values) c.in_ok-values.ensures.1 ∙ length-map keys characters

pub returns : goal.returns
returns c =
    let keys = map characters c.args.keys.now in
    absent-found (encoding_of c.args.encoding) c.args.source.now keys (value_texts c.in_ok-values.values.items) c.first_without_value.result
    c.in_ok-values.ensures.1 (c.first_without_value.ensures ∙ ap (λ v. first_without keys (value_texts v)) c.deref.ensures.value)

pub returns-then-is_empty : goal.returns-then-is_empty
returns-then-is_empty c = of-none (encoding_of c.args.encoding) c.args.source.now c.args.keys.now (sym c.is_empty.ensures ∙ c.if-is_empty.true)

pub returns-in_err-values : goal.returns-in_err-values
returns-in_err-values c =
    let error = err_from_is_err_and c.from_residual.result c.from_residual.ensures.1 in
    rw (error.1, error.2) c.in_err-values.ensures
