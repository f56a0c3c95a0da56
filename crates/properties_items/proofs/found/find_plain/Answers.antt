use Rattle.std.proofs.Common.{refl}
use Rattle.properties_items.proofs.BorrowedItems.{plain-comment, plain-pair}
use Rattle.properties_items.proofs.found.find_plain.Goals as goal
use Rattle.properties_items.proofs.found.find_plain.Goals.{in-Comment, in-KVPair}

pub returns : goal.returns
returns c =
    let line = c.args.line.now in
    let number = c.args.line_number in
    elim c.match-spans.branch [
      | in-Comment w ↦
          let meets = rw w.in-Comment.is at c.in-Some.ensures.meets in
          let spans = rw w.in-Comment.is at c.in-Some.ensures.spans in
          (refl, rw (w.content-is, w.verbatim.ensures) (plain-comment line number w.in-Comment.text spans c.requires meets))
      | in-KVPair w ↦
          let meets = rw w.in-KVPair.is at c.in-Some.ensures.meets in
          let spans = rw w.in-KVPair.is at c.in-Some.ensures.spans in
          let pair = plain-pair line number w.in-KVPair.key w.in-KVPair.value spans.0 spans.1 c.requires meets in
          (refl, rw (w.content-is, w.verbatim-in-KVPair.ensures, w.verbatim-in-KVPair-2.ensures) pair)
    ]
