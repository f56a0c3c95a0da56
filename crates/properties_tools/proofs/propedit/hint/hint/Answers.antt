use Rattle.std.specs.Prelude.{map}
use Rattle.std.proofs.lemmas.Result.{err_from_is_err_and}
use Rattle.java_properties.specs.Maps.{characters}
use Rattle.properties_text.specs.Encoding.{encoding_of}
use Rattle.properties_tools.specs.Propedit.{source_name}
use Rattle.properties_tools.proofs.Hinting.{key-hint, memory-answers}
use Rattle.properties_tools.proofs.propedit.hint.hint.Goals as goal

pub returns-in_err-line : goal.returns-in_err-line
returns-in_err-line c =
    let job = c.args.job.now in
    let error = err_from_is_err_and c.from_residual.result c.from_residual.ensures.1 in
    rw (error.1, error.2)
    (λ answer h. memory-answers (encoding_of job.encoding) c.args.source.now _ c.in_err-line.ensures (source_name job.source) job.command)

pub returns-in-Get : goal.returns-in-Get
returns-in-Get c =
    let untold = rw c.in_default.is at c.in_ok-line.ensures in
    key-hint c.args.job.now (map characters c.args.files.now) c.args.source.now c.args.status untold c.in-Get.is _ c.file_hint.ensures
