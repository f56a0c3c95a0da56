-- A packed list has one reading.
use Rattle.std.proofs.Common.{◌≡◌, ◌<◌, ℕ, List, [], ◌∷◌, ◌++◌, length, ap, ap₂, sym, ◌∙◌, arith, length-append, append_assoc}
use Rattle.std.proofs.lemmas.List.{nil_from_length}
use Rattle.properties_format.specs.Edits.{Edit, put, remove, set_value}
use Rattle.properties_format.specs.Items.{Content, comment, pair}
use Rattle.properties_renaming.specs.{Commenting.new_text, Renames.new_name}
use Rattle.properties_renaming.specs.KeyEdits.{KeyEdit, edit, rename, remove_with_comment, set_comment}
use Rattle.properties_c.specs.Packed.{Meaning, MeansEdit, MeansLine, AreMeant, BeginsList, IsPackedList, Record, packed_all}
use Rattle.properties_c.proofs.{Packing.length-packed, Splitting.packed-only}

pair-one : (r : Record) (a b : Edit) → MeansEdit r (edit a) → MeansEdit r (edit b) → a ≡ b
pair-one r (put k v) (put l w) h g = cc
pair-one r (remove k) (remove l) h g = cc
pair-one r (set_value k v) (set_value l w) h g = cc
pair-one r a b h g = absurd (omega arith)

pair-kind : (r : Record) (a : Edit) → MeansEdit r (edit a) → r.kind < 5
pair-kind r (put k v) h = omega arith
pair-kind r (remove k) h = omega arith
pair-kind r (set_value k v) h = omega arith

-- A record means one edit, and one line.
pub edit-one : (r : Record) (a b : KeyEdit) → MeansEdit r a → MeansEdit r b → a ≡ b
edit-one r (edit a) (edit b) h g = ap edit (pair-one r a b h g)
edit-one r (edit a) b h g = absurd (omega (arith, pair-kind r a h))
edit-one r a (edit b) h g = absurd (omega (arith, pair-kind r b g))
edit-one r (rename a) (rename b) h g = ap₂ (λ old new. rename (new_name old new)) (h.1.is ∙ sym g.1.is) (h.2.is ∙ sym g.2.is)
edit-one r (set_comment a) (set_comment b) h g = ap₂ (λ key text. set_comment (new_text key text)) (h.1.is ∙ sym g.1.is) (h.2.is ∙ sym g.2.is)
edit-one r (remove_with_comment k) (remove_with_comment l) h g = cc
edit-one r a b h g = absurd (omega arith)

pub line-one : (r : Record) (a b : Content) → MeansLine r a → MeansLine r b → a ≡ b
line-one r (comment x) (comment y) h g = cc
line-one r (pair k v) (pair l w) h g = cc
line-one r a b h g = absurd (omega arith)

-- The records of a list mean what the records of the same list mean.
module _ {A : Type 0} (m : Meaning A) (one : (r : Record) (a b : A) → m.Means r a → m.Means r b → a ≡ b) where
  meant-once : (rs ss : List Record) (xs ys : List A) → packed_all rs ++ [] ≡ packed_all ss ++ [] → AreMeant m rs xs → AreMeant m ss ys → xs ≡ ys
  meant-once [] [] [] [] e f g = cc
  meant-once (r ∷ rs) (s ∷ ss) (x ∷ xs) (y ∷ ys) e f g =
      let same = packed-only r s _ _ f.0 g.0 (simp append_assoc at e) in
      let thing = one s x y (rw same.0 at f.1) g.1 in
      let things = meant-once rs ss xs ys same.1 f.2 g.2 in
      cc
  meant-once rs ss xs ys e f g = absurd (omega (arith, ap length e, length-append {A = ℕ}, length-packed))

  pub list-read : {list : List ℕ} {things : List A} (rest : List ℕ) → length rest ≡ 0 → BeginsList m list things rest
      → IsPackedList m list things
  list-read {list} {things} rest none h =
      let whole = rw (nil_from_length rest none) at h in record {
        begins = whole;
        only = λ others k.
            meant-once k.records whole.records others things (sym k.division ∙ whole.division) k.meant whole.meant;
      }
