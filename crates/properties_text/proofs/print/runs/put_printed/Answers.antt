use Rattle.std.proofs.Common.{sym, ◌∙◌, ltb-true}
use Rattle.properties_text.proofs.PrintedTexts.Steps.{put-ascii}
use Rattle.properties_text.proofs.print.runs.put_printed.Goals as goal

pub returns-then-is_ascii-clause-put : goal.returns-then-is_ascii-clause-put
returns-then-is_ascii-clause-put c =
    let small = ltb-true c.args.character 128 (sym c.is_ascii.ensures ∙ c.if-is_ascii.true) in
    rw (put-ascii c.args.repertoire c.args.character small, ← c.from.ensures) c.put_any.ensures.printed
