use Rattle.std.specs.Prelude.{map, vec_items}
use Rattle.counted_io.proofs.Pieces.{concat-drop_zero}
use Rattle.counted_io.proofs.scripted_reader.ScriptedReader.new.Goals as goal

pub returns-clause-bytes : goal.returns-clause-bytes
returns-clause-bytes c = concat-drop_zero (map vec_items c.args.pieces.items)
