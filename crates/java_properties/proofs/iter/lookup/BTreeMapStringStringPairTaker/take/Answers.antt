use Rattle.std.proofs.Common.{◌∙◌, ap}
use Rattle.std.specs.Prelude.{Some, bytes_eq, cond}
use Rattle.std.specs.Str.{chars}
use Rattle.java_properties.proofs.iter.lookup.BTreeMapStringStringPairTaker.take.Goals as goal

pub returns : goal.returns
returns c = λ first values has. (
  c.put.ensures.ordered,
  λ k. (rw (c.in_ok-key.ensures.ok, c.in_ok-value.ensures.ok) at (c.in_ok-put.ensures.puts k))
      ∙ ap (cond (bytes_eq (chars c.args.key.now) k) (Some (chars c.args.value.now))) (has.1 k),
)
