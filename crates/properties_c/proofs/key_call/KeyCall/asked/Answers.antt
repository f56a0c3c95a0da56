use Rattle.std.proofs.Common.{rules, inl, inr}
use Rattle.properties_text.specs.Encoding.{encoding_of}
use Rattle.properties_c.proofs.key_call.KeyCall.asked.Goals as goal

pub returns-in_default : goal.returns-in_default
returns-in_default c = record { crosses = λ x refuses. inr (search rules, refuses) }

pub returns-in_default-flags_numbered : goal.returns-in_default-flags_numbered
returns-in_default-flags_numbered c = record { crosses = λ x refuses. inl (encoding_of c.in-Some.encoding, search rules, inr (search rules, refuses)) }

pub returns-in_default-text_of : goal.returns-in_default-text_of
returns-in_default-text_of c = record {
  crosses = λ x refuses.
      inl (encoding_of c.in-Some.encoding, search rules, inl (c.in-Some-flags_numbered.flags, search rules, inr (search rules, refuses)));
}

pub returns-in_default-text_of-2 : goal.returns-in_default-text_of-2
returns-in_default-text_of-2 c = record {
  crosses = λ x refuses.
      inl (
        encoding_of c.in-Some.encoding,
        search rules,
        inl (c.in-Some-flags_numbered.flags, search rules, inl (search rules, inr (search rules, refuses))),
      );
}

pub returns-in-Some-refused_line : goal.returns-in-Some-refused_line
returns-in-Some-refused_line c = record {
  crosses = λ x refuses.
      inl (
        encoding_of c.in-Some.encoding,
        search rules,
        inl (
          c.in-Some-flags_numbered.flags,
          search rules,
          inl (search rules, inl (search rules, inr (c.in-Some-refused_line.number, c.in-Some-refused_line.ensures, refuses))),
        ),
      );
}

pub returns : goal.returns
returns c = record {
  encoding = c.in-Some.encoding;
  has_encoding = search rules;
  flags = c.in-Some-flags_numbered.flags;
  has_flags = search rules;
  options = c.options_for.ensures;
  is_key = search rules;
  key = search rules;
  is_text = search rules;
  text = search rules;
  sound = c.in_default-refused_line.ensures;
}
