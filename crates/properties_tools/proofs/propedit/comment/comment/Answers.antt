use Rattle.std.proofs.Common.{inl, inr}
use Rattle.std.specs.{Prelude.map, Option.option_map}
use Rattle.java_properties.specs.Maps.{characters}
use Rattle.properties_tools.proofs.propedit.comment.comment.Goals as goal

pub returns-in_ok-answer_of-in-Ok : goal.returns-in_ok-answer_of-in-Ok
returns-in_ok-answer_of-in-Ok c = record {
  sound = record { bytes = c.in_ok-refuse_bytes.ensures; in_comments = c.in-Ok.ensures.escapes };
  texts = option_map (λ t. map characters t.items) c.in-Ok.texts;
  has_comment = c.in-Ok.ensures;
  prints = c.in_ok-answer_of-in-Ok.ensures;
}

pub returns-in_ok-refuse_unsound-in-Err : goal.returns-in_ok-refuse_unsound-in-Err
returns-in_ok-refuse_unsound-in-Err c =
    inr (record { sound = c.in_ok-refuse_unsound-in-Err.ensures; error = c.in-Err.error; refused = c.in-Err.ensures; is = c.from.ensures })
