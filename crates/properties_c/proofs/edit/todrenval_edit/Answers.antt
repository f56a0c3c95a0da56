use Rattle.std.proofs.Common.{◌≡◌, refl, rules, subst, inl, inr, to_z, of_z, w32}
use Rattle.properties_renaming.specs.KeyEdits.{key_edits_in, MakesKeyEdits}
use Rattle.properties_text.specs.Encoding.{encoding_of}
use Rattle.properties_c.specs.Packed.{edits}
use Rattle.properties_c.proofs.Refusals.{list-crossed}
use Rattle.properties_c.proofs.edit.todrenval_edit.Goals as goal

pub returns-in-Err : goal.returns-in-Err
returns-in-Err c =
    inl (
      encoding_of c.in-Some.encoding,
      search rules,
      inl (
        c.in-Some-flags_numbered.flags,
        search rules,
        inr (list-crossed edits c.args.edits.now c.in-Err.status c.args.out.now _ _ _ c.in-Err.ensures (search rules)),
      ),
    )

pub returns-in-Some-refused_line : goal.returns-in-Some-refused_line
returns-in-Some-refused_line c =
    inl (
      encoding_of c.in-Some.encoding,
      search rules,
      inl (
        c.in-Some-flags_numbered.flags,
        search rules,
        inl (
          key_edits_in c.in-Ok.edits.items,
          search rules,
          inr (
            c.in-Some-refused_line.number,
            c.in-Some-refused_line.ensures,
            record { answers = search rules; kept = refl },
          ),
        ),
      ),
    )

pub returns : goal.returns
returns c =
    let plain : to_z w32 (of_z w32 c.write_edited.result) ≡ c.write_edited.result = search rules in
    inl (
      encoding_of c.in-Some.encoding,
      search rules,
      inl (
        c.in-Some-flags_numbered.flags,
        search rules,
        inl (
          key_edits_in c.in-Ok.edits.items,
          search rules,
          inl (
            c.in_default-refused_line.ensures,
            (
              c.edit_keys-edited.result,
              (
                c.in-Some.encoding,
                refl,
                subst (λ o. MakesKeyEdits o c.args.source.now (key_edits_in c.in-Ok.edits.items) c.edit_keys-edited.result) c.options_for.ensures (search rules),
              ),
              rw plain c.write_edited.ensures,
            ),
          ),
        ),
      ),
    )
