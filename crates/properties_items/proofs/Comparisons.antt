-- What the derived comparisons, hashes and clones say, in the words of `specs/Line.antt`.
use Rattle.std.proofs.Common.{◌≡◌, ◌↔◌, refl, ap, IsTrue, arith}
pub use Rattle.std.proofs.lemmas.Bool.Decides.{Decides-and as both-tests}
use Rattle.std.proofs.lemmas.Bool.Decides.{Decides-eqb}
use denote.Enum.Bare.{same_true, true_same}
use Rattle.properties_items.specs.contracts.line.LineEnding.{the_type}
use Rattle.std.specs.Ordering.{nat_cmp, ordering_then}
use Rattle.std.specs.declared.cmp.Ordering.{Ordering}
use Rattle.std.specs.declared.cmp.Ordering.TheVariants.{Less, Equal, Greater}
use Rattle.std.specs.Cmp.Lexicographic.{slice_cmp, bytes_decides}
use Rattle.std.specs.String.{string_bytes}
use Rattle.properties_items.specs.declared.line.LineContent.{LineContent}
use Rattle.properties_items.specs.declared.line.LineContent.TheVariants.{Comment, KVPair}
use Rattle.properties_items.specs.declared.line.Line.{Line}
use Rattle.properties_items.specs.declared.line.LineEnding.{LineEnding}
use Rattle.properties_items.specs.declared.line.LineEnding.TheVariants.{CR, LF, CRLF}
use Rattle.properties_items.specs.contracts.line.LineContentPartialEq.TheImpl as content_eq
use Rattle.properties_items.specs.contracts.line.LinePartialEq.TheImpl as line_eq
use Rattle.properties_items.specs.contracts.line.LineContentOrd.TheImpl as content_cmp
use Rattle.properties_items.specs.contracts.line.LineOrd.TheImpl as line_cmp
use Rattle.properties_items.specs.contracts.line.LineHash.TheImpl as line_hash
use Rattle.properties_items.specs.contracts.line.LineHash.TheImpl.Laws as line_hash_laws
use Rattle.properties_items.specs.contracts.line.LineContentHash.TheImpl as content_hash
use Rattle.properties_items.specs.contracts.line.LineContentHash.TheImpl.Laws as content_hash_laws
use Rattle.properties_items.specs.contracts.line.LineContentClone.TheImpl as content_clone
use Rattle.properties_items.specs.contracts.line.LineClone.TheImpl as line_clone
use Rattle.properties_items.specs.contracts.line.LineEndingPartialEq.TheImpl as ending_eq
use Rattle.properties_items.specs.contracts.line.LineEndingOrd.TheImpl as ending_cmp
use Rattle.properties_items.specs.contracts.line.LineEndingHash.TheImpl as ending_hash
use Rattle.properties_items.specs.Line.{line_number_of, content_of, IsSameContent, IsSameLine, content_order, ending_place, line_order}

-- ---- which comes first

-- nothing comes after an order's last part
then-Equal : (o : Ordering) → o ≡ ordering_then o Equal
then-Equal Less = refl
then-Equal Equal = refl
then-Equal Greater = refl

-- `cmp` of two contents
pub content-cmp : (x y : LineContent) → (content_cmp.ghosts).cmp x y ≡ content_order x y
content-cmp (Comment x) (Comment y) = then-Equal (slice_cmp nat_cmp (string_bytes x) (string_bytes y))
content-cmp (Comment x) (KVPair l w) = refl
content-cmp (KVPair k v) (Comment y) = refl
content-cmp (KVPair k v) (KVPair l w) =
    ap (ordering_then (slice_cmp nat_cmp (string_bytes k) (string_bytes l)))
    (then-Equal (slice_cmp nat_cmp (string_bytes v) (string_bytes w)))

-- `cmp` of two lines
pub line-cmp : (x y : Line) → (line_cmp.ghosts).cmp x y ≡ line_order x y
line-cmp x y = ap (ordering_then (nat_cmp (line_number_of x) (line_number_of y))) (content-cmp (content_of x) (content_of y))

-- `cmp` of two line endings
pub ending-cmp : (x y : LineEnding) → (ending_cmp.ghosts).cmp x y ≡ nat_cmp (ending_place x) (ending_place y)
ending-cmp CR CR = refl
ending-cmp CR LF = refl
ending-cmp CR CRLF = refl
ending-cmp LF CR = refl
ending-cmp LF LF = refl
ending-cmp LF CRLF = refl
ending-cmp CRLF CR = refl
ending-cmp CRLF LF = refl
ending-cmp CRLF CRLF = refl

-- ---- which are equal

-- `==` of two contents
pub content-eq : (x y : LineContent) → IsTrue ((content_eq.ghosts).eq x y) ↔ IsSameContent x y
content-eq (Comment x) (Comment y) =
    let test = bytes_decides (string_bytes x) (string_bytes y) in ((λ e. let h = test.0 e in (refl, cc)), (λ h. test.1 cc))
content-eq (Comment x) (KVPair l w) = ((λ e. cc), (λ e. absurd (omega (arith, e.0))))
content-eq (KVPair k v) (Comment y) = ((λ e. cc), (λ e. absurd (omega (arith, e.0))))
content-eq (KVPair k v) (KVPair l w) =
    let test = both-tests _ _ (bytes_decides (string_bytes k) (string_bytes l)) (bytes_decides (string_bytes v) (string_bytes w)) in
    ((λ e. let h = test.0 e in (refl, cc)), (λ h. test.1 (cc, cc)))

-- `==` of two lines
pub line-eq : (x y : Line) → IsTrue ((line_eq.ghosts).eq x y) ↔ IsSameLine x y
line-eq x y = both-tests _ _ (Decides-eqb (line_number_of x) (line_number_of y)) (content-eq (content_of x) (content_of y))

-- ---- equal items hash alike

pub content-hash : (x y : LineContent) → IsSameContent x y → (content_hash.ghosts).hash_input x ≡ (content_hash.ghosts).hash_input y
content-hash x y h = content_hash_laws.respects_eq-law x y ((content-eq x y).1 h)

pub line-hash : (x y : Line) → IsSameLine x y → (line_hash.ghosts).hash_input x ≡ (line_hash.ghosts).hash_input y
line-hash x y h = line_hash_laws.respects_eq-law x y ((line-eq x y).1 h)

pub ending-hash : (x y : LineEnding) → x ≡ y → (ending_hash.ghosts).hash_input x ≡ (ending_hash.ghosts).hash_input y
ending-hash x y h = ap (ending_hash.ghosts).hash_input h

-- ---- clones

pub content-clone : (x y : LineContent) → (content_clone.ghosts).is_clone x y → IsSameContent x y
content-clone (Comment x) (Comment y) e = (refl, cc)
content-clone (Comment x) (KVPair l w) e = absurd e
content-clone (KVPair k v) (Comment y) e = absurd e
content-clone (KVPair k v) (KVPair l w) e = (refl, cc)

pub line-clone : (x y : Line) → (line_clone.ghosts).is_clone x y → IsSameLine x y
line-clone x y e = (cc, content-clone (content_of x) (content_of y) e.1)

-- `==` of two line endings
pub ending-eq : (x y : LineEnding) → IsTrue ((ending_eq.ghosts).eq x y) ↔ (x ≡ y)
ending-eq x y = (same_true the_type tt x y, true_same the_type x y)
