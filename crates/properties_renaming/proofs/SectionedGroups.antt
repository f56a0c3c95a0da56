-- The sections of groups: there is one division into them, and one text that is made of them.
use Rattle.std.proofs.Common.{◌≡◌, ℕ, List, [], ◌∷◌, ◌++◌, refl, sym, ap, ap₂, ◌∙◌, subst, append_assoc}
use Rattle.properties_format.specs.Body.{HeldLine, NoneHasKey}
use Rattle.properties_renaming.specs.CommentLines.{AreCommentGroups, IsCommentGroup}
use Rattle.properties_renaming.specs.Sections.{AreDivided, AreMadeOf, AreSections, Section, groups_of}

pub groups-append : (ss : List Section) (last more : List (List HeldLine)) → groups_of ss (last ++ more) ≡ groups_of ss last ++ more
groups-append [] last more = refl
groups-append (s ∷ ss) last more =
    ap (λ w. s.run ++ s.group ∷ w) (groups-append ss last more) ∙ sym (append_assoc s.run (s.group ∷ groups_of ss last) more)

pub groups-push : (ss : List Section) (s : Section) (last : List (List HeldLine)) → groups_of (ss ++ s ∷ []) last ≡ groups_of ss (s.run ++ s.group ∷ last)
groups-push [] s last = refl
groups-push (t ∷ ss) s last = ap (λ w. t.run ++ t.group ∷ w) (groups-push ss s last)

pub sections-push : (ss : List Section) (s : Section) → AreSections ss → AreCommentGroups s.run → ¬ (IsCommentGroup s.group) → AreSections (ss ++ s ∷ [])
sections-push [] s h c n = (c, n, tt)
sections-push (t ∷ ss) s h c n = (h.0, h.1, sections-push ss s h.2 c n)

-- ---- one division

first-comment : (run : List (List HeldLine)) (g : List HeldLine) (gs : List (List HeldLine)) → AreCommentGroups (run ++ g ∷ gs) → IsCommentGroup g
first-comment [] g gs h = h.0
first-comment (r ∷ run) g gs h = first-comment run g gs h.1

-- Comment lines, another group and those after it are so divided once.
record IsOneRun (run : List (List HeldLine)) (g : List HeldLine) (gs run' : List (List HeldLine)) (g' : List HeldLine) (gs' : List (List HeldLine)) : Type 0 where
  runs : run ≡ run'
  group : g ≡ g'
  rest : gs ≡ gs'

one-run : (run run' : List (List HeldLine)) (g g' : List HeldLine) (gs gs' : List (List HeldLine)) → AreCommentGroups run → AreCommentGroups run' → ¬ (IsCommentGroup g)
    → ¬ (IsCommentGroup g') → run ++ g ∷ gs ≡ run' ++ g' ∷ gs' → IsOneRun run g gs run' g' gs'
one-run [] [] g g' gs gs' c c' n n' q = record { runs = refl; group = cc; rest = cc }
one-run [] (r ∷ run') g g' gs gs' c c' n n' q = let same : g ≡ r = cc in absurd (n (subst IsCommentGroup (sym same) c'.0))
one-run (r ∷ run) [] g g' gs gs' c c' n n' q = let same : r ≡ g' = cc in absurd (n' (subst IsCommentGroup same c.0))
one-run (r ∷ run) (r' ∷ run') g g' gs gs' c c' n n' q =
    let first : r ≡ r' = cc in
    let m = one-run run run' g g' gs gs' c.1 c'.1 n n' (cc) in
    record { runs = ap₂ (λ a b. a ∷ b) first m.runs; group = m.group; rest = m.rest }

pub one-division : (gs : List (List HeldLine)) (ss ts : List Section) (last last' : List (List HeldLine)) → AreDivided gs ss last → AreDivided gs ts last'
    → (ss ≡ ts) × (last ≡ last')
one-division gs [] [] last last' h k = (refl, sym h.division ∙ k.division)
one-division gs [] (t ∷ ts) last last' h k =
    absurd (k.are_sections.1 (first-comment t.run t.group (groups_of ts last') (subst AreCommentGroups (sym h.division ∙ k.division) h.last_comments)))
one-division gs (s ∷ ss) [] last last' h k =
    absurd (h.are_sections.1 (first-comment s.run s.group (groups_of ss last) (subst AreCommentGroups (sym k.division ∙ h.division) k.last_comments)))
one-division gs (s ∷ ss) (t ∷ ts) last last' h k =
    let (a, b, are) = h.are_sections in
    let (a', b', are') = k.are_sections in
    let m = one-run s.run t.run s.group t.group (groups_of ss last) (groups_of ts last') a a' b b' (sym h.division ∙ k.division) in
    let more = one-division (groups_of ss last) ss ts last last' (record { division = refl; are_sections = are; last_comments = h.last_comments })
    (record { division = m.rest; are_sections = are'; last_comments = k.last_comments }) in
    let first : s ≡ t = ap₂ (λ r g. let u : Section = record { run = r; group = g } in u) m.runs m.group in
    (ap₂ (λ u us. u ∷ us) first more.0, more.1)

-- One text is made of them, if one is made of each.
pub one-made : (Makes : Section → List (List HeldLine) → List ℕ → Type 0)
    → ((s : Section) (after : List (List HeldLine)) (a b : List ℕ) → Makes s after a → Makes s after b → a ≡ b)
    → (ss : List Section) (last : List (List HeldLine)) (a b : List ℕ) → AreMadeOf Makes ss last a → AreMadeOf Makes ss last b → a ≡ b
one-made Makes one [] last a b h k = h ∙ sym k
one-made Makes one (s ∷ ss) last a b (made, more, m, is, h) (made', more', m', is', k) =
    is ∙ ap₂ (λ v w. v ++ w) (one s (groups_of ss last) made made' m m') (one-made Makes one ss last more more' h k) ∙ sym is'

pub none-both : (key : List ℕ) (gs hs : List (List HeldLine)) → NoneHasKey key gs → NoneHasKey key hs → NoneHasKey key (gs ++ hs)
none-both key [] hs h k = k
none-both key (g ∷ gs) hs h k = (h.0, none-both key gs hs h.1 k)
