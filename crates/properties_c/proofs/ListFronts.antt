-- Packed lists that are taken apart from their fronts.
use Rattle.std.proofs.Common.{◌≡◌, ℕ, ◌-◌, ◌<◌, List, [], ◌∷◌, ◌++◌, length, take, drop, refl, ap, sym, ◌∙◌, arith, append_assoc}
use Rattle.std.proofs.lemmas.List.{append-nil, drop_at, map-append, take_at}
use Rattle.std.proofs.lemmas.List.Concat.{flat_map-append}
use Rattle.properties_renaming.specs.{KeyEdits.key_edit_in, KeyEdits.key_edits_in, declared.key_edits.KeyEdit.KeyEdit}
use Rattle.properties_c.specs.Packed.{Meaning, edits, AreMeant, BeginsList, Record, IsSized, packed}
use Rattle.properties_c.specs.Private.Lists.{header_bytes, header_of, Splits, IsFirstThing, RefusesFirst, RefusesRecord}
use Rattle.properties_c.specs.{declared.status.Status.Status, declared.status.Status.TheVariants.NoMemory, declared.status.Status.TheVariants.NotUtf8}
use Rattle.properties_c.specs.declared.status.Status.TheVariants.{BadList}
use Rattle.properties_c.proofs.{Packing.packed-header, Packing.sizes, Splitting.packed-only}

-- The list is refused for what its first record is refused for.
pub first-refused : {A : Type 0} (m : Meaning A) (list : List ℕ) (r : Record) (rest : List ℕ) (status : Status)
    → Splits list r rest → RefusesRecord m r status → RefusesFirst m list status
first-refused m list r rest BadList splits h = λ s after division sized known.
    let same = packed-only s r after rest sized splits.sized (sym division ∙ splits.division) in
    h (rw same.0 at known)
first-refused m list r rest NotUtf8 splits h =
    record { record_there = r; rest = rest; division = splits.division; sized = splits.sized; known = h.0; no_text = h.1 }
first-refused m list r rest NoMemory splits h = tt
first-refused m list r rest other splits h = h

AreMeant-more : {A : Type 0} (m : Meaning A) (rs : List Record) (things : List A) (r : Record) (thing : A)
    → AreMeant m rs things → IsSized r → m.Means r thing → AreMeant m (rs ++ r ∷ []) (things ++ thing ∷ [])
AreMeant-more m [] [] r thing meant sized means = (sized, means, tt)
AreMeant-more m (s ∷ ss) (t ∷ ts) r thing meant sized means = (meant.0, meant.1, AreMeant-more m ss ts r thing meant.2 sized means)
AreMeant-more m rs things r thing meant sized means = absurd meant

-- A list begins with one thing more.
pub Begins-more : {A : Type 0} {m : Meaning A} {list rest after : List ℕ} {things : List A} {thing : A}
    → BeginsList m list things rest → IsFirstThing m rest thing after → BeginsList m list (things ++ thing ∷ []) after
Begins-more {A} {m} {list} {rest} {after} {things} {thing} before next = record {
  records = before.records ++ next.first ∷ [];
  division = before.division ∙ rw next.splits.division (simp (flat_map-append, append-nil, append_assoc));
  meant = AreMeant-more m before.records things next.first thing before.meant next.splits.sized next.means;
}

-- What comes after the first thing is shorter.
pub IsFirst-shorter : {A : Type 0} {m : Meaning A} {list rest : List ℕ} {thing : A} → IsFirstThing m list thing rest → length rest < length list
IsFirst-shorter {A} {m} {list} {rest} h =
    grind (arith, sizes, h.splits.division)

-- The texts of the first record.
pub first-texts : {list : List ℕ} {r : Record} {rest : List ℕ} → Splits list r rest → take (length list - length rest - 32) (drop 32 list) ≡ r.key ++ r.value
first-texts {list} {r} {rest} splits =
    let header = header_bytes (header_of r) in
    let texts = r.key ++ r.value in
    let is : list ≡ header ++ (texts ++ rest) = splits.division ∙ ap (λ v. v ++ rest) (packed-header r) ∙ append_assoc header texts rest in
    let all : length list ≡ length (packed r ++ rest) = ap length splits.division in
    let long : length header ≡ 32 = simp sizes refl in
    let count : length texts ≡ length list - length rest - 32 = grind (arith, sizes, all) in
    ap (λ v. take (length list - length rest - 32) (drop 32 v)) is
    ∙ ap (λ v. take (length list - length rest - 32) v) (drop_at header (texts ++ rest) 32 long)
    ∙ take_at texts rest _ count

-- ---- edits

pub edits-more : {list rest after : List ℕ} (found : List KeyEdit) (edit : KeyEdit)
    → BeginsList edits list (key_edits_in found) rest → IsFirstThing edits rest (key_edit_in edit) after
    → BeginsList edits list (key_edits_in (found ++ edit ∷ [])) after
edits-more {list} {rest} {after} found edit before next =
    rw (map-append key_edit_in found (edit ∷ [])) (Begins-more before next)

pub ruleset taking = (first-refused, edits-more, IsFirst-shorter)
