use Rattle.std.proofs.lemmas.Result.{err_from_is_err_and}
use Rattle.properties_text.specs.Encoding.{encoding_of}
use Rattle.properties_tables.specs.Values.{value_texts}
use Rattle.properties_changing.proofs.SoughtKeys.{refused}
use Rattle.properties_tools.proofs.propedit.get.get.Goals as goal

pub returns-in_err-values : goal.returns-in_err-values
returns-in_err-values c =
    let error = err_from_is_err_and c.from_residual-in_err-values.result c.from_residual-in_err-values.ensures.1 in
    rw (error.1, error.2) (refused (encoding_of c.args.encoding) c.args.source.now _ c.in_err-values.ensures c.in_ok-refuse_bytes.ensures)

pub returns : goal.returns
returns c = record {
  sound = record { bytes = c.in_ok-refuse_bytes.ensures; in_comments = c.in_ok-values.ensures.0 };
  values = value_texts c.in_ok-values.values.items;
  have_values = c.in_ok-values.ensures.1;
  prints = rw c.deref.ensures.value at c.in_ok-answer_of.ensures;
}
