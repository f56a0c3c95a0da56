-- The kinds of what `check` finds, by their names in JSON, and those that a check leaves out.
use Rattle.std.specs.Prelude.{ℕ, not, Bool, false, List, codes, filter}
use Rattle.properties_checking.specs.declared.kinds.Ignored.{Ignored}
use Rattle.properties_checking.specs.declared.kinds.Kind.{Kind}
use Rattle.properties_checking.specs.declared.kinds.Kind.TheVariants.{Zero, IllFormed, LooksLikeUtf8, NonAscii, ReadOtherwise, ByteOrderMark, Utf32Mark, MarkInside, BlankAfterBackslash, BackslashAtEnd, EscapeInPair, EscapeInComment, RepeatedKey, MissingKey, SurplusKey}

abbrev pub kind_name : Kind → List ℕ
kind_name Zero = codes "zero"
kind_name IllFormed = codes "ill-formed"
kind_name LooksLikeUtf8 = codes "looks-like-utf-8"
kind_name NonAscii = codes "non-ascii"
kind_name ReadOtherwise = codes "read-otherwise"
kind_name ByteOrderMark = codes "byte-order-mark"
kind_name Utf32Mark = codes "utf-32-mark"
kind_name MarkInside = codes "u-feff"
kind_name BlankAfterBackslash = codes "blank-after-backslash"
kind_name BackslashAtEnd = codes "backslash-at-end"
kind_name EscapeInPair = codes "malformed-escape"
kind_name EscapeInComment = codes "malformed-escape"
kind_name RepeatedKey = codes "repeated-key"
kind_name MissingKey = codes "missing-key"
kind_name SurplusKey = codes "surplus-key"

-- Whether a kind is left out. One for which an edit refuses a source never is.
abbrev pub is_ignored : Ignored → Kind → Bool
is_ignored i Zero = false
is_ignored i IllFormed = false
is_ignored i LooksLikeUtf8 = i.looks_like_utf_8
is_ignored i NonAscii = i.non_ascii
is_ignored i ReadOtherwise = i.read_otherwise
is_ignored i ByteOrderMark = i.byte_order_mark
is_ignored i Utf32Mark = i.utf_32_mark
is_ignored i MarkInside = i.mark_inside
is_ignored i BlankAfterBackslash = i.blank_after_backslash
is_ignored i BackslashAtEnd = i.backslash_at_end
is_ignored i EscapeInPair = false
is_ignored i EscapeInComment = i.escape_in_comment
is_ignored i RepeatedKey = i.repeated_key
is_ignored i MissingKey = i.missing_key
is_ignored i SurplusKey = i.surplus_key

-- those whose kind isn't left out, in order; the function tells the kind of each
abbrev pub reported : {X : Type 0} → Ignored → (X → Kind) → List X → List X
reported ignored kind xs = filter (λ x. not (is_ignored ignored (kind x))) xs
