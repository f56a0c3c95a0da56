use Rattle.std.specs.{Cow.cow_str_bytes, Str.chars}
use Rattle.properties_format.specs.Escapes.{breaks, means, Breaks, Means}
use Rattle.properties_format.specs.Split.{IsSplit, Logical}
use Rattle.properties_format.proofs.Escapes.Unique.{breaks-only, means-only}
use Rattle.properties_text.specs.{Escaping.malformed_in, Parsing.bytes_in}
use Rattle.properties_tables.proofs.KeyedPairs.{key-found, key-of_pair}
use Rattle.properties_tables.proofs.key_table.sound_key.Goals as goal

pub returns-in-Ok : goal.returns-in-Ok
returns-in-Ok c =
    let line = c.args.line.now in
    let raw = chars (bytes_in line c.in-Some-KVPair.key) in
    let key = chars (cow_str_bytes c.in-Ok.key) in
    let split : IsSplit (chars line) (Logical.pair raw (chars (bytes_in line c.in-Some-KVPair.field-0-1))) =
    rw c.in-Some-KVPair.field-0-is at c.in-Some-KVPair.ensures.meets in
    let is : Means raw key = rw c.cut.ensures at c.in-Ok.ensures.meaning in
    key-of_pair (chars line) raw _ (means key) split (means-only raw key is)

pub returns-in-Err-Malformed : goal.returns-in-Err-Malformed
returns-in-Err-Malformed c =
    let line = c.args.line.now in
    let raw = chars (bytes_in line c.in-Some-KVPair.key) in
    let kind = malformed_in c.in-Err-Malformed.field-0-0 in
    let split : IsSplit (chars line) (Logical.pair raw (chars (bytes_in line c.in-Some-KVPair.field-0-1))) =
    rw c.in-Some-KVPair.field-0-is at c.in-Some-KVPair.ensures.meets in
    let is : Breaks raw kind = rw (c.cut.ensures, c.in-Err-Malformed.field-0-is) at c.in-Err-Malformed.ensures.meaning in
    key-of_pair (chars line) raw _ (breaks kind) split (breaks-only raw kind is)

pub returns-in-Some-Comment : goal.returns-in-Some-Comment
returns-in-Some-Comment c =
    let line = c.args.line.now in
    let raw = chars (bytes_in line c.in-Some-Comment.field-0-0) in
    let split : IsSplit (chars line) (Logical.comment raw) = rw c.in-Some-Comment.field-0-is at c.in-Some-Comment.ensures.meets in
    key-found (chars line) (Logical.comment raw) split

pub returns-in-None : goal.returns-in-None
returns-in-None c =
    let split : IsSplit (chars c.args.line.now) Logical.blank = rw c.in-None.is at c.parse_spans.ensures.meets in
    key-found (chars c.args.line.now) Logical.blank split
