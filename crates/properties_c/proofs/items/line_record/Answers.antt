use Rattle.properties_c.proofs.Texts.{text-bytes, comment-record, pair-record}
use Rattle.properties_c.proofs.items.line_record.Goals as goal

pub returns-in-Comment : goal.returns-in-Comment
returns-in-Comment c = rw c.in-Comment.is (comment-record 0 _ _ _ _ c.as_slice.ensures (text-bytes _ _ _ c.as_bytes.ensures.value c.cut.utf8 c.cut.ensures))

pub returns-in-KVPair : goal.returns-in-KVPair
returns-in-KVPair c =
    rw c.in-KVPair.is (pair-record 1 _ _ _ _ _
    (text-bytes _ _ _ c.as_bytes-in-KVPair.ensures.value c.cut-in-KVPair.utf8 c.cut-in-KVPair.ensures)
    (text-bytes _ _ _ c.as_bytes-in-KVPair-2.ensures.value c.cut-in-KVPair-2.utf8 c.cut-in-KVPair-2.ensures))
