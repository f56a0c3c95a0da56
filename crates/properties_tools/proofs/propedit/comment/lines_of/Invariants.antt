use Rattle.std.proofs.Common.{◌≡◌, take}
use Rattle.std.specs.Prelude.{map}
use Rattle.java_properties.specs.Maps.{characters}
use Rattle.properties_tools.specs.{Propedit.Texts.ended_all, declared.propedit.request.Terminator.TheVariants.LineFeed}
use Rattle.properties_tools.proofs.propedit.comment.lines_of.Given as goal

abbrev pub invariant-loop-line : goal.invariant-loop-line
invariant-loop-line l = l.text.items ≡ ended_all LineFeed (map characters (take l.line-index l.texts))
