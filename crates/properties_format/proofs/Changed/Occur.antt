-- The other groups of a source are in the edited source, in order.
use Rattle.std.proofs.Common.{◌≡◌, ℕ, List, [], ◌∷◌, ◌++◌, refl, ap, sym, ◌∙◌, inl, inr, append_assoc}
use Rattle.properties_format.specs.Encoding.{Encoding, byte_order_mark, Repertoire}
use Rattle.properties_format.specs.Body.{AreGroupsOf, HasKey, HeldLine, NoneHasKey, group_bytes, groups_bytes}
use Rattle.properties_format.specs.Edited.{bom_of, IsKeySet, IsWithout, guarding_lf, IsKeyRemoved}
use Rattle.properties_format.specs.Changed.{OccurIn, AreOthersThanLast, AreLeft, KeepsOthers}

-- Groups with other bytes before them.
pub occur-after : (gs : List (List HeldLine)) (x y : List ℕ) → OccurIn gs y → OccurIn gs (x ++ y)
occur-after [] x y h = tt
occur-after (g ∷ gs) x y h = (x ++ h.0, h.1, ap (λ v. x ++ v) h.2 ∙ sym (append_assoc x h.0 (group_bytes g ++ h.1)), h.3)

-- Groups followed by other groups.
pub occur-before : (gs hs : List (List HeldLine)) (y : List ℕ) → OccurIn hs y → OccurIn (gs ++ hs) (groups_bytes gs ++ y)
occur-before [] hs y h = h
occur-before (g ∷ gs) hs y h = ([], groups_bytes gs ++ y, append_assoc (group_bytes g) (groups_bytes gs) y, occur-before gs hs y h)

-- All groups, followed by any bytes.
pub occur-all : (gs : List (List HeldLine)) (y : List ℕ) → OccurIn gs (groups_bytes gs ++ y)
occur-all [] y = tt
occur-all (g ∷ gs) y = ([], groups_bytes gs ++ y, append_assoc (group_bytes g) (groups_bytes gs) y, occur-all gs y)

-- All groups, and no other bytes.
pub occur-alone : (gs : List (List HeldLine)) → OccurIn gs (groups_bytes gs)
occur-alone [] = tt
occur-alone (g ∷ gs) = ([], groups_bytes gs, refl, occur-alone gs)

-- If other bytes come for the last pair with a key, every other group is unchanged.
pub others-kept : (e : Encoding) (source key result : List ℕ) (groups before : List (List HeldLine)) (g : List HeldLine) (after : List (List HeldLine))
    (rest : List ℕ) → AreGroupsOf (byte_order_mark e source).encoding (byte_order_mark e source).body groups → groups ≡ before ++ g ∷ after → HasKey key g
    → NoneHasKey key after → OccurIn after rest → result ≡ bom_of source ++ (groups_bytes before ++ rest) → KeepsOthers (AreOthersThanLast key) e source result
others-kept e source key result groups before g after rest held s has none occur is = (
  groups,
  before ++ after,
  held,
  inr (before, g, after, s, has, none, refl),
  rw is (occur-after (before ++ after) (bom_of source) _ (occur-before before after rest occur)),
)

-- If bytes are added at the end, every group is unchanged.
pub all-kept : (e : Encoding) (source key result : List ℕ) (groups : List (List HeldLine)) (more : List ℕ)
    → AreGroupsOf (byte_order_mark e source).encoding (byte_order_mark e source).body groups → NoneHasKey key groups
    → result ≡ bom_of source ++ (groups_bytes groups ++ more) → KeepsOthers (AreOthersThanLast key) e source result
all-kept e source key result groups more held none is =
    (groups, groups, held, inl (none, refl), rw is (occur-after groups (bom_of source) _ (occur-all groups more)))

-- If a key is set, every group but the last pair with the key is unchanged.
pub key_set-keeps : (t : Repertoire) (source key value result : List ℕ) → IsKeySet t source key value result
    → KeepsOthers (AreOthersThanLast key) t.encoding source result
key_set-keeps t source key value result h = elim h.edited [
  | inl r ↦ others-kept t.encoding source key result h.groups r.before r.group r.after _ h.held r.division r.has_key r.no_later
      (occur-after r.after _ _ (occur-after r.after _ (groups_bytes r.after) (occur-alone r.after)))
      (h.whole ∙ ap (λ v. bom_of source ++ v) r.bytes)
  | inr r ↦ all-kept t.encoding source key result h.groups _ h.held r.no_pair
      (h.whole ∙ ap (λ v. bom_of source ++ v) (r.bytes ∙ append_assoc (groups_bytes h.groups) _ _))
]

-- What is left without a key contains the groups that aren't pairs with it, in order.
others-occur : (key : List ℕ) (gs : List (List HeldLine)) (rest : List ℕ) → IsWithout key gs rest
    → (others : List (List HeldLine)) × AreLeft (HasKey key) gs others × OccurIn others rest
others-occur key [] rest h = ([], refl, tt)
others-occur key (g ∷ gs) rest (inl h) = let m = others-occur key gs rest h.1 in (m.0, inl (h.0, m.1), m.2)
others-occur key (g ∷ gs) rest (inr h) = let m = others-occur key gs h.1 h.3 in (g ∷ m.0, inr (h.0, m.0, refl, m.1), ([], h.1, h.2, m.2))

-- If a key is removed, every group that isn't a pair with the key is unchanged.
pub key_removed-keeps : (e : Encoding) (source key result : List ℕ) → IsKeyRemoved e source key result → KeepsOthers (AreLeft (HasKey key)) e source result
key_removed-keeps e source key result h =
    let m = others-occur key h.groups h.rest h.without in
    (h.groups, m.0, h.held, m.1, rw h.whole (occur-after m.0 (bom_of source) _ (occur-after m.0 (guarding_lf source h.rest) h.rest m.2)))
