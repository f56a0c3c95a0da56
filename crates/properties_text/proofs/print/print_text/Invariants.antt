use Rattle.std.proofs.Common.{◌≡◌, ◌++◌}
use Rattle.properties_format.specs.Printing.{printed_characters, encoded_text}
use Rattle.properties_text.specs.Printing.{in_format, place_of}
use Rattle.properties_text.proofs.print.print_text.Given as goal

abbrev pub invariant-loop-character : goal.invariant-loop-character
invariant-loop-character l = l.line ≡ l.initial.line ++ encoded_text (in_format l.repertoire).encoding
    (printed_characters (in_format l.repertoire) (place_of l.place) l.yielded)
