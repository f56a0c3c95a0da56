use Rattle.std.proofs.Common.{◌≡◌, refl, rules, inl, inr}
use Rattle.std.proofs.lemmas.List.{take_rest}
use Rattle.std.specs.{Prelude.Ok, Prelude.Err, Str.chars}
use Rattle.properties_text.specs.Encoding.{encoding_of}
use Rattle.properties_c.specs.Writing.{settings_for}
use Rattle.properties_c.proofs.WriterSettings.{lines-crossed}
use Rattle.properties_c.proofs.write.todrenval_write.Goals as goal

pub returns-in_default-text_of : goal.returns-in_default-text_of
returns-in_default-text_of c =
    inl (
      encoding_of c.in-Some.encoding,
      search rules,
      inl (c.in-Some-flags_numbered.flags, search rules, inr (search rules, record { answers = search rules; kept = refl })),
    )

pub returns-in_default-text_of-2 : goal.returns-in_default-text_of-2
returns-in_default-text_of-2 c =
    inl (
      encoding_of c.in-Some.encoding,
      search rules,
      inl (c.in-Some-flags_numbered.flags, search rules, inl (search rules, inr (search rules, record { answers = search rules; kept = refl }))),
    )

pub returns-in-Ok : goal.returns-in-Ok
returns-in-Ok c =
    let e = encoding_of c.in-Some.encoding in
    let f = c.in-Some-flags_numbered.flags in
    let s = settings_for f (chars c.args.prefix.now) (chars c.args.separator.now) in
    let asked = settings_for f (chars c.in-Some-text_of.prefix.now) (chars c.in-Some-text_of-2.separator.now) in
    let settled : asked ≡ s = rw (c.in-Some-text_of.ensures.0, c.in-Some-text_of-2.ensures.0) refl in
    let bytes = c.in-Ok.bytes in
    let front = c.in-Ok.front in
    let given = rw (take_rest c.deref.result.now front) at c.write_bytes.ensures in
    let crossed = lines-crossed e asked s f.goes_on c.args.list.now (Ok (bytes, front)) _ settled c.in-Ok.ensures (search rules) in
    inl (e, search rules, inl (f, search rules, inl (search rules, inl (search rules, crossed))))

pub returns-in-Err : goal.returns-in-Err
returns-in-Err c =
    let e = encoding_of c.in-Some.encoding in
    let f = c.in-Some-flags_numbered.flags in
    let s = settings_for f (chars c.args.prefix.now) (chars c.args.separator.now) in
    let asked = settings_for f (chars c.in-Some-text_of.prefix.now) (chars c.in-Some-text_of-2.separator.now) in
    let settled : asked ≡ s = rw (c.in-Some-text_of.ensures.0, c.in-Some-text_of-2.ensures.0) refl in
    let crossed = lines-crossed e asked s f.goes_on c.args.list.now (Err c.in-Err.status) _ settled c.in-Err.ensures (record { answers = search rules; kept = refl }) in
    inl (e, search rules, inl (f, search rules, inl (search rules, inl (search rules, crossed))))
