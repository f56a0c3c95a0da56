use Rattle.std.proofs.Common.{◌≡◌, refl}
use Rattle.std.specs.{Prelude.None, Prelude.Some, Cow.cow_str_bytes, Str.chars}
use Rattle.properties_format.specs.Computed.Split.{split_of}
use Rattle.properties_tables.specs.Private.Fold.{sound_key}
use Rattle.properties_tables.proofs.KeyTables.{took-escape, took-keyed}
use Rattle.properties_tables.proofs.key_table.KeyTableTaker.malformed.Goals as goal

pub returns-then-escape : goal.returns-then-escape
returns-then-escape c = took-escape c.args.self.now c.args.escape (chars c.args.line.now) (rw c.if-escape.true refl)

pub returns-in_default : goal.returns-in_default
returns-in_default c =
    let none : sound_key (split_of (chars c.args.line.now)) ≡ None = rw c.in_default.is at c.in_ok-key.ensures in
    took-escape c.args.self.now c.args.escape (chars c.args.line.now) (rw (c.if-escape.false, none) refl)

pub returns : goal.returns
returns c =
    let key = chars (cow_str_bytes c.in-Some.key) in
    let some : sound_key (split_of (chars c.args.line.now)) ≡ Some key = rw c.in-Some.is at c.in_ok-key.ensures in
    took-keyed c.args.self.now c.put.new.self c.args.escape (chars c.args.line.now) key _ (rw (c.if-escape.false, some) refl)
    (rw c.as_str.ensures.value at c.in_ok-put.ensures.puts) c.in_ok-put.ensures.table
