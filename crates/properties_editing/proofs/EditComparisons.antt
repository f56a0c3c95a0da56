-- What the derived comparison and clone of edits say.
use Rattle.std.proofs.Common.{◌↔◌, IsTrue}
use Rattle.std.specs.Cmp.Lexicographic.{bytes_decides}
use Rattle.std.specs.String.{string_bytes}
use Rattle.properties_editing.specs.declared.edit.Edit.{Edit}
use Rattle.properties_editing.specs.declared.edit.Edit.TheVariants as edit
use Rattle.properties_editing.specs.contracts.edit.EditPartialEq.TheImpl as edit_eq
use Rattle.properties_editing.specs.contracts.edit.EditClone.TheImpl as edit_clone
use Rattle.properties_editing.specs.Editing.{IsSameEdit}
use Rattle.properties_items.proofs.Comparisons.{both-tests}

-- `==` of two edits
pub edit-eq : (x y : Edit) → IsTrue ((edit_eq.ghosts).eq x y) ↔ IsSameEdit x y
edit-eq (edit.Put k v) (edit.Put l w) =
    both-tests _ _ (bytes_decides (string_bytes k) (string_bytes l)) (bytes_decides (string_bytes v) (string_bytes w))
edit-eq (edit.Put k v) other = ((λ e. absurd (cc)), (λ h. absurd h))
edit-eq (edit.Remove k) (edit.Remove l) = bytes_decides (string_bytes k) (string_bytes l)
edit-eq (edit.Remove k) other = ((λ e. absurd (cc)), (λ h. absurd h))
edit-eq (edit.SetValue k v) (edit.SetValue l w) =
    both-tests _ _ (bytes_decides (string_bytes k) (string_bytes l)) (bytes_decides (string_bytes v) (string_bytes w))
edit-eq (edit.SetValue k v) other = ((λ e. absurd (cc)), (λ h. absurd h))

-- a clone of an edit
pub edit-clone : (x y : Edit) → (edit_clone.ghosts).is_clone x y → IsSameEdit x y
edit-clone (edit.Put k v) (edit.Put l w) e = (cc, cc)
edit-clone (edit.Put k v) other e = absurd e
edit-clone (edit.Remove k) (edit.Remove l) e = cc
edit-clone (edit.Remove k) other e = absurd e
edit-clone (edit.SetValue k v) (edit.SetValue l w) e = (cc, cc)
edit-clone (edit.SetValue k v) other e = absurd e
