use Rattle.std.proofs.Common.{◌≡◌, take}
use Rattle.std.specs.{Prelude.map, List.flat_map, Option.option_map}
use Rattle.properties_tables.specs.Values.{value_texts}
use Rattle.properties_tools.specs.Propedit.Get.{ended_if, found_status, value_or}
use Rattle.properties_changing.specs.Change.{borrowed_characters}
use Rattle.properties_tools.proofs.propedit.get.answer_of.Given as goal

abbrev pub invariant-loop-value : goal.invariant-loop-value
invariant-loop-value l = record {
  text : l.text.items ≡ flat_map (ended_if l.shown.end) (map (value_or (option_map borrowed_characters l.shown.default)) (value_texts (take l.value-index l.values)));
  status : l.status ≡ found_status (map (value_or (option_map borrowed_characters l.shown.default)) (value_texts (take l.value-index l.values)));
}
