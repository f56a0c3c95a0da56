use Rattle.std.proofs.Common.{arith}
use Rattle.std.proofs.Common.{sym, subst}
use Rattle.std.specs.Prelude.{None, Some, Err}
use Rattle.std.proofs.lemmas.Result.{err_from_is_err_and}
use Rattle.properties_text.specs.declared.escape.UnescapeError.{UnescapeError}
use Rattle.properties_text.specs.declared.parse.ParsedSpans.TheVariants.{Comment, KVPair}
use Rattle.java_properties.specs.Private.Engine.{BuildsPair}
use Rattle.java_properties.proofs.CopiedLines.{AreFound, empty-is, found-in, blank-is, comment-well, comment-read, comment-unread, key-well, value-well}
use Rattle.java_properties.proofs.CopiedLines.{pair-built, pair-unbuilt}
use Rattle.java_properties.proofs.copy.build_line.Goals as goal
use Rattle.java_properties.proofs.copy.build_line.Goals.{In-Some-Comment, In-Some-KVPair}

-- where the text of a comment is
comment : (c : In-Some-Comment) → AreFound c.args.lines.now.encoding c.args.lines.now.at.line c.with_room-bytes.result.now
    (Some (Comment c.in-Some-Comment.text))
comment c =
    let lines = c.args.lines.now in
    let bytes = c.with_room-bytes.result.now in
    let found = c.in-Some-Comment.ensures in
    rw c.in-Some-Comment.field-0-is at
    (found-in lines.encoding lines.at.line bytes _ (Some c.in-Some-Comment.field-0) c.requires.well c.with_room-bytes.ensures.front c.length-length.ensures
    found.slices found.places found.text)

-- where the key and the value of a pair are
pair : (c : In-Some-KVPair)
    → AreFound c.args.lines.now.encoding c.args.lines.now.at.line c.with_room-bytes.result.now (Some (KVPair c.in-Some-KVPair.key c.in-Some-KVPair.value))
pair c =
    let lines = c.args.lines.now in
    let bytes = c.with_room-bytes.result.now in
    let found = c.in-Some-KVPair.ensures in
    rw c.in-Some-KVPair.field-0-is at
    (found-in lines.encoding lines.at.line bytes _ (Some c.in-Some-KVPair.field-0) c.requires.well c.with_room-bytes.ensures.front c.length-length.ensures
    found.slices found.places found.text)

pub returns-then-length-eq0-clause-builds : goal.returns-then-length-eq0-clause-builds
returns-then-length-eq0-clause-builds c = grind (arith, empty-is)

pub returns-in-None-clause-builds : goal.returns-in-None-clause-builds
returns-in-None-clause-builds c =
    let lines = c.args.lines.now in
    let bytes = c.with_room-bytes.result.now in
    blank-is lines.encoding lines.at.line bytes
    (found-in lines.encoding lines.at.line bytes _ None c.requires.well c.with_room-bytes.ensures.front c.length-length.ensures c.in-None.ensures.slices
    c.in-None.ensures.places c.in-None.ensures.text)

pub check_escapes-requires : goal.check_escapes-requires
check_escapes-requires c = rw c.encoding.ensures (comment-well _ _ _ _ (comment (goal.at.check_escapes-requires c).In-Some-Comment))

pub returns-in-Ok-clause-builds : goal.returns-in-Ok-clause-builds
returns-in-Ok-clause-builds c = comment-read _ _ _ _ (comment (goal.at.returns-in-Ok-clause-builds c).In-Some-Comment)
    (rw c.encoding.ensures at c.in-Ok.ensures)

pub returns-in-Err-clause-builds : goal.returns-in-Err-clause-builds
returns-in-Err-clause-builds c =
    comment-unread _ _ _ _ (comment (goal.at.returns-in-Err-clause-builds c).In-Some-Comment) c.in-Err.malformed (rw c.encoding.ensures at c.in-Err.ensures)

pub spelt-requires-clause-key : goal.spelt-requires-clause-key
spelt-requires-clause-key c = rw c.encoding-in-Some-KVPair.ensures (key-well _ _ _ _ _ (pair (goal.at.spelt-requires-clause-key c).In-Some-KVPair))

pub spelt-requires-clause-value : goal.spelt-requires-clause-value
spelt-requires-clause-value c = rw c.encoding-in-Some-KVPair.ensures (value-well _ _ _ _ _ (pair (goal.at.spelt-requires-clause-value c).In-Some-KVPair))

pub returns-in_err-build_pair-in-Some-KVPair-clause-builds : goal.returns-in_err-build_pair-in-Some-KVPair-clause-builds
returns-in_err-build_pair-in-Some-KVPair-clause-builds c =
    let found = pair (goal.at.returns-in_err-build_pair-in-Some-KVPair-clause-builds c).In-Some-KVPair in
    let key = rw c.encoding-in-Some-KVPair.ensures at c.spelt.ensures.key in
    let value = rw c.encoding-in-Some-KVPair.ensures at c.spelt.ensures.value in
    let w = c.build_pair.new.self in
    let error = err_from_is_err_and c.from_residual.result c.from_residual.ensures.1 in
    let Q : UnescapeError → Type 0 = λ v. BuildsPair c.args.engine.now c.spelt.result (Err v) w.line in
    rw error.1
    (pair-unbuilt _ _ _ _ _ found c.args.engine.now w c.spelt.result key value error.0
    (subst Q (sym error.2) c.in_err-build_pair-in-Some-KVPair.ensures.printed))

pub returns-in_ok-build_pair-in-Some-KVPair-clause-builds : goal.returns-in_ok-build_pair-in-Some-KVPair-clause-builds
returns-in_ok-build_pair-in-Some-KVPair-clause-builds c =
    let found = pair (goal.at.returns-in_ok-build_pair-in-Some-KVPair-clause-builds c).In-Some-KVPair in
    let key = rw c.encoding-in-Some-KVPair.ensures at c.spelt.ensures.key in
    let value = rw c.encoding-in-Some-KVPair.ensures at c.spelt.ensures.value in
    let numbers = rw c.takes_span.ensures at c.next_number.ensures in
    pair-built _ _ _ _ _ found c.args.engine.now c.build_pair.new.self c.spelt.result key value c.next_number.result c.each_is_a_byte.ensures
    c.in_ok-build_pair-in-Some-KVPair.ensures.printed c.build_pair.ensures.same numbers
