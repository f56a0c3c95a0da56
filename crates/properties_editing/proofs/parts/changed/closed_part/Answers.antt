use Rattle.std.proofs.Common.{◌≡◌, ◌++◌, ◌-◌, ℕ, [], Option, Some, None, length, refl, ap, ap₂, ◌∙◌}
use Rattle.std.specs.Global.{Vec}
use Rattle.std.specs.Option.{option_and}
use Rattle.properties_items.specs.Line.{ending_of}
use Rattle.properties_editing.specs.Private.BodyParts.{ended_bytes}
use Rattle.properties_editing.specs.declared.bytes.BodySpan.{BodySpan}
use Rattle.properties_editing.specs.declared.parts.Part.{Part}
use Rattle.properties_editing.specs.declared.parts.PartText.TheVariants as text
use Rattle.properties_editing.specs.declared.parts.PartKind.TheVariants as kind
use Rattle.properties_editing.proofs.NewPairs.{ending-bytes}
use Rattle.properties_editing.proofs.parts.changed.closed_part.Goals as goal

abbrev others-as : Vec ℕ → Option BodySpan → Part
others-as bytes last = record { text = text.Own bytes; ending = None; kind = kind.Others last }

pub returns-in_ok-concatenated-in-Pair : goal.returns-in_ok-concatenated-in-Pair
returns-in_ok-concatenated-in-Pair c = record {
  bytes = c.in_ok-concatenated-in-Pair.field-0;
  are_bytes = rw c.in-Pair.is (c.in_ok-concatenated-in-Pair.ensures ∙ ap (λ v. v ++ (c.args.opened.now ++ [])) c.bytes_of-text.ensures);
  part = rw c.in-Pair.is refl;
}

pub returns-in_ok-bytes-in-Others : goal.returns-in_ok-bytes-in-Others
returns-in_ok-bytes-in-Others c =
    let ending : c.as_bytes-ending.result.now ≡ ended_bytes (Some c.args.by) =
    c.as_bytes-ending.ensures.value ∙ ending-bytes c.ending_text.result.now (ending_of c.args.by) c.ending_text.utf8 c.ending_text.ensures in
    let end : c.len.result - length c.as_bytes-ending.result.now ≡ length c.in_ok-bytes-in-Others.bytes.items - length (ended_bytes (Some c.args.by)) =
    ap₂ (λ n m. n - m) (c.len.ensures ∙ c.in_ok-bytes-in-Others.bytes.ok.0) (ap length ending) in
    let bytes = c.in_ok-bytes-in-Others.ensures ∙ ap₂ (λ v w. v ++ (c.args.opened.now ++ w)) c.bytes_of-text.ensures ending in
    record {
      bytes = c.in_ok-bytes-in-Others.bytes;
      are_bytes = rw c.in-Others.is bytes;
      part = rw c.in-Others.is (ap (λ o. others-as c.in_ok-bytes-in-Others.bytes o)
          (c.and.ensures ∙ ap (λ n. option_and c.in-Others.last (Some (record { start = 0; end = n }))) end));
    }
