-- Groups that have one line more.
use Rattle.std.proofs.Common.{◌≡◌, List, [], ◌∷◌, ◌++◌, refl, append_assoc, append-nil}
use Rattle.properties_format.specs.Body.{HeldLine, group_bytes}
use Rattle.properties_format.specs.Computed.Body.{unended_bytes}

-- the bytes up to the last ending are those of the lines that are kept and of that line
pub unended-kept : (kept : List HeldLine) (l : HeldLine) → unended_bytes (kept ++ l ∷ []) ≡ group_bytes kept ++ l.bytes
unended-kept [] l = refl
unended-kept (h ∷ []) l = simp (append_assoc, append-nil)
unended-kept (h ∷ i ∷ kept) l = simp (append_assoc, unended-kept (i ∷ kept) l)
