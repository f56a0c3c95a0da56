-- Which logical lines are passed over.
use Rattle.std.specs.Prelude.{ℕ, Bool, false, List}
use Rattle.properties_format.specs.Lines.{is_comment_line}
use Rattle.properties_editing.specs.declared.source.Comments.{Comments}
use Rattle.properties_editing.specs.declared.source.Comments.TheVariants.{Read, PassedOver}

abbrev pub passes_over : Comments → List ℕ → Bool
passes_over Read x = false
passes_over PassedOver x = is_comment_line x
