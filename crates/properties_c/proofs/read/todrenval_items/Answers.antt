use Rattle.std.proofs.Common.{◌≡◌, rules, refl, inl, inr, to_z, of_z, w32}
use Rattle.properties_text.specs.Encoding.{encoding_of}
use Rattle.properties_c.proofs.GivenItems.{items-across, part-across, source-across, spans-across}
use Rattle.properties_c.proofs.read.todrenval_items.Goals as goal

pub returns-then-asked : goal.returns-then-asked
returns-then-asked c =
    let plain : to_z w32 (of_z w32 c.give_part.result) ≡ c.give_part.result = search rules in
    let asked = c.in-Some-asked_numbered.asked in
    rw plain (inl (
      encoding_of c.in-Some.encoding,
      search rules,
      inl (asked, search rules, part-across asked (encoding_of c.in-Some.encoding) c.args.source.now _ c.if-asked.true c.give_part.ensures),
    ))

pub returns-in-Some-refused_line : goal.returns-in-Some-refused_line
returns-in-Some-refused_line c =
    let asked = c.in-Some-asked_numbered.asked in
    inl (
      encoding_of c.in-Some.encoding,
      search rules,
      inl (
        asked,
        search rules,
        source-across asked (encoding_of c.in-Some.encoding) c.args.source.now _ c.if-asked.false
            (inr (c.in-Some-refused_line.number, c.in-Some-refused_line.ensures, record { answers = search rules; kept = refl })),
      ),
    )

pub returns-then-asked-2 : goal.returns-then-asked-2
returns-then-asked-2 c =
    let plain : to_z w32 (of_z w32 c.write_result.result) ≡ c.write_result.result = search rules in
    let asked = c.in-Some-asked_numbered.asked in
    let e = encoding_of c.in-Some.encoding in
    rw plain (inl (
      e,
      search rules,
      inl (
        asked,
        search rules,
        source-across asked e c.args.source.now _ c.if-asked.false (inl (
          c.in_default-refused_line.ensures,
          spans-across asked e c.args.source.now c.spanned_items.result _ c.spanned_items.ensures c.if-asked-2.true c.write_result.ensures,
        )),
      ),
    ))

pub returns-in-Ok : goal.returns-in-Ok
returns-in-Ok c =
    let plain : to_z w32 (of_z w32 c.write_up_to.result) ≡ c.write_up_to.result = search rules in
    let asked = c.in-Some-asked_numbered.asked in
    let e = encoding_of c.in-Some.encoding in
    rw plain (inl (
      e,
      search rules,
      inl (
        asked,
        search rules,
        source-across asked e c.args.source.now _ c.if-asked.false (inl (
          c.in_default-refused_line.ensures,
          inl (items-across asked e c.args.source.now c.deref.result.now c.in-Ok.items _ c.in-Ok.ensures c.deref.ensures.value c.if-asked-2.false
              c.write_up_to.ensures),
        )),
      ),
    ))

pub returns-in-Err : goal.returns-in-Err
returns-in-Err c =
    let asked = c.in-Some-asked_numbered.asked in
    inl (
      encoding_of c.in-Some.encoding,
      search rules,
      inl (
        asked,
        search rules,
        source-across asked (encoding_of c.in-Some.encoding) c.args.source.now _ c.if-asked.false
            (inl (c.in_default-refused_line.ensures, inr (record { answers = search rules; kept = refl }))),
      ),
    )
