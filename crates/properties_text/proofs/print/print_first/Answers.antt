use Rattle.std.proofs.Common.{take, sym, ◌∙◌, arith}
use Rattle.std.proofs.lemmas.Bool.{and_left, and_right, and_from}
use Rattle.std.proofs.lemmas.List.{length-take-le}
use Rattle.properties_format.specs.Text.{backslash}
use Rattle.properties_format.specs.Encoding.{begins_like_bom}
use Rattle.properties_text.specs.Printing.{puts_of}
use Rattle.properties_text.specs.PrintedTexts.{meaning_in}
use Rattle.properties_text.proofs.PrintedTexts.Keys.{slice-put, begins-put, key-plain, key-escaped, some-text}
use Rattle.properties_text.proofs.print.print_first.Goals as goal
use Rattle.properties_text.proofs.print.print_first.Goals.{else-first-via-then-first+else-begins_like_byte_order_mark, else-first-via-else-first}

pub slice_bounds-begins_like_byte_order_mark-count : goal.slice_bounds-begins_like_byte_order_mark-count
slice_bounds-begins_like_byte_order_mark-count g c =
    let h = c.in_ok-end.ensures.printed in
    (slice-put c.args.out.now.items c.print_bytes.new.out.items (puts_of c.args.layout.repertoire h.meant) c.args.at c.in_ok-end.end c.requires.at h.within
    h.printed).0

pub slice_bounds-begins_like_byte_order_mark-start : goal.slice_bounds-begins_like_byte_order_mark-start
slice_bounds-begins_like_byte_order_mark-start g c =
    let h = c.in_ok-end.ensures.printed in
    (slice-put c.args.out.now.items c.print_bytes.new.out.items (puts_of c.args.layout.repertoire h.meant) c.args.at c.in_ok-end.end c.requires.at h.within
    h.printed).0

pub print_with_first_escaped-requires-clause-some : goal.print_with_first_escaped-requires-clause-some
print_with_first_escaped-requires-clause-some g c =
    let h = c.in_ok-end.ensures.printed in
    let like = begins-put _ c.args.layout.repertoire c.args.out.now.items c.args.at c.print_bytes.new.out.items c.deref.result.now c.in_ok-end.end h c.requires.at
    c.deref.ensures.value ∙ sym c.if-begins_like_byte_order_mark.ensures in
    let some = some-text c.args.encoding c.args.layout.repertoire (g.Stops.ByteClass.holds backslash) (take c.args.part.size c.args.part.bytes.now)
    c.args.out.now.items c.args.at
    c.print_bytes.new.out.items c.in_ok-end.end h like in
    omega (arith, some, length-take-le c.args.part.size c.args.part.bytes.now c.args.part.within)

pub returns-then-begins_like_byte_order_mark-clause-printed : goal.returns-then-begins_like_byte_order_mark-clause-printed
returns-then-begins_like_byte_order_mark-clause-printed g c =
    let h = c.in_ok-end.ensures.printed in
    let like = begins-put _ c.args.layout.repertoire c.args.out.now.items c.args.at c.print_bytes.new.out.items c.deref.result.now c.in_ok-end.end h c.requires.at
    c.deref.ensures.value ∙ sym c.if-begins_like_byte_order_mark.ensures in
    key-escaped (meaning_in c.args.encoding (g.Stops.ByteClass.holds backslash) (take c.args.part.size c.args.part.bytes.now)) c.args.layout.repertoire c.args.layout.first
    c.args.out.now.items c.args.at
    c.print_bytes.new.out.items c.print_with_first_escaped.new.out.items c.in_ok-end.end h c.print_with_first_escaped.result
    (and_from c.args.layout.first (begins_like_bom (puts_of c.args.layout.repertoire h.meant)) c.if-first.true like) c.in_ok-end.ensures.same
    c.print_with_first_escaped.ensures.printed

pub returns-clause-printed : goal.returns-clause-printed
returns-clause-printed g c =
    let h = c.in_ok-end.ensures.printed in
    let plain = key-plain (meaning_in c.args.encoding (g.Stops.ByteClass.holds backslash) (take c.args.part.size c.args.part.bytes.now)) c.args.layout.repertoire
    c.args.layout.first
    c.args.out.now.items c.args.at c.print_bytes.new.out.items c.in_ok-end.end h in
    elim c.else-first.branch [
      | else-first-via-then-first+else-begins_like_byte_order_mark w ↦
          let other = begins-put _ c.args.layout.repertoire c.args.out.now.items c.args.at c.print_bytes.new.out.items w.deref.result.now c.in_ok-end.end h
          c.requires.at
          w.deref.ensures.value ∙ sym w.begins_like_byte_order_mark.ensures ∙ w.if-begins_like_byte_order_mark.false in
          plain (and_right c.args.layout.first (begins_like_bom (puts_of c.args.layout.repertoire h.meant)) other)
      | else-first-via-else-first w ↦ plain (and_left c.args.layout.first (begins_like_bom (puts_of c.args.layout.repertoire h.meant)) w.if-first.false)
    ]
