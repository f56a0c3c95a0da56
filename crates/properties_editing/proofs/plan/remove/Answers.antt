use Rattle.std.proofs.Common.{refl}
use Rattle.std.specs.Str.{chars}
use Rattle.std.proofs.lemmas.List.{take_rest}
use Rattle.properties_format.specs.Plan.{with_key_removed}
use Rattle.properties_format.proofs.Plan.Made.{key_removed-is_planned}
use Rattle.properties_editing.proofs.SourceParts.{source-removable, source-removed}
use Rattle.properties_text.specs.Encoding.{encoding_of}
use Rattle.properties_editing.proofs.SoundParts.{sound-left}
use Rattle.properties_editing.proofs.plan.remove.Goals as goal

pub remove-requires-clause-ordered : goal.remove-requires-clause-ordered
remove-requires-clause-ordered c = (source-removable (chars c.args.key.now) c.requires.parts.stand).0

pub remove-requires-clause-within : goal.remove-requires-clause-within
remove-requires-clause-within c = rw (take_rest c.args.source.now c.args.edited.now.opened.start) (source-removable (chars c.args.key.now) c.requires.parts.stand).1

pub remove-requires-clause-places : goal.remove-requires-clause-places
remove-requires-clause-places c = (source-removable (chars c.args.key.now) c.requires.parts.stand).2

pub remove-requires-clause-front : goal.remove-requires-clause-front
remove-requires-clause-front c = c.requires.parts.stand.empty

pub remove-requires-clause-bounds : goal.remove-requires-clause-bounds
remove-requires-clause-bounds c = rw (take_rest c.args.source.now c.args.edited.now.opened.start) c.requires.parts.stand.bounds

pub returns-clause-parts : goal.returns-clause-parts
returns-clause-parts c = λ r now named is p.
    let key = chars c.args.key.now in
    let removes = rw (take_rest c.args.source.now c.args.edited.now.opened.start) at c.remove.ensures in
    let made = source-removed key c.remove.result c.remove.new.self is p.stand removes in (
      record {
        result = with_key_removed r.encoding now key;
        edited = (key_removed-is_planned r.encoding now key (with_key_removed r.encoding now key)).1 refl;
        parts = record { groups = _; stand = made.0; sound = sound-left (encoding_of c.args.edited.now.opened.encoding) key p.groups p.sound };
      },
      made.1,
    )
