-- Each text means one text, or is malformed in one way.
use Rattle.std.proofs.Common.{rules, arith, ◌≡◌, ℕ, pred, length, List, [], ◌∷◌, ◌++◌, map, Option, Some, None, refl, ap, sym, ◌∙◌, subst, append-nil}
use Rattle.properties_format.specs.Text.{backslash}
use Rattle.properties_format.specs.Escapes.{letter_u, Malformed, four_text, Spelling, escaped, unicode, surrogates, spelling_text, spelling_character, IsSpelling, spellings_before, AreSpellings, Means, NoSpelling, malformed_by, Breaks, Meaning, means, breaks, IsMeaning}
use Rattle.properties_format.specs.Computed.Escapes.{first_spelling, in_front, text_in_front, fault_of, meaning_past, meaning_of}
use Rattle.properties_format.proofs.Escapes.First.{spelling_of, spelling_of-only, spelling_of-none, IsFound, first_spelling-found}

-- the text of a spelling after its first character
abbrev pub spelling_tail : Spelling → List ℕ
spelling_tail (escaped c) = c ∷ []
spelling_tail (unicode d) = letter_u ∷ four_text d
spelling_tail (surrogates high low) = (letter_u ∷ four_text high) ++ (backslash ∷ letter_u ∷ four_text low)
spelling_tail spelling = []

-- ---- one step of the computation

-- If a spelling is found, its character comes before what the rest means.
past-spelling : (c : ℕ) (cs : List ℕ) (p : Spelling) → first_spelling c cs ≡ Some p
    → meaning_past (c ∷ cs) 0 ≡ in_front (spelling_character p) (meaning_past cs (pred (length (spelling_text p))))
past-spelling c cs p e = rw (e, meaning_past) refl

-- If no spelling is found, the text is malformed.
past-none : (c : ℕ) (cs : List ℕ) → first_spelling c cs ≡ None → meaning_past (c ∷ cs) 0 ≡ breaks (fault_of cs)
past-none c cs e = rw (e, meaning_past) refl

-- A spelling at the front that the computation has found.
past-front : (p : Spelling) (rest : List ℕ) → spelling_of (spelling_text p ++ rest) ≡ Some p
    → meaning_past (spelling_text p ++ rest) 0 ≡ in_front (spelling_character p) (meaning_past rest 0)
past-front p rest h1 = grind (arith, past-spelling)

-- A spelling at the front, before what may follow it.
pub meaning_of-spelling : (p : Spelling) (rest : List ℕ) → IsSpelling p rest
    → meaning_of (spelling_text p ++ rest) ≡ in_front (spelling_character p) (meaning_of rest)
unfolding meaning_of
meaning_of-spelling p rest h = past-front p rest (spelling_of-only p rest h)

-- A text before a meaning.
pub text_in_front-means : (x y : List ℕ) → text_in_front x (means y) ≡ means (x ++ y)
text_in_front-means [] y = refl
text_in_front-means (c ∷ x) y = ap (in_front c) (text_in_front-means x y)

-- A text before something malformed, which stays malformed in the same way.
pub text_in_front-breaks : (x : List ℕ) (kind : Malformed) → text_in_front x (breaks kind) ≡ breaks kind
text_in_front-breaks [] kind = refl
text_in_front-breaks (c ∷ x) kind = ap (in_front c) (text_in_front-breaks x kind)

-- Spellings at the front.
pub meaning_of-spellings : (ps : List Spelling) (rest : List ℕ) → AreSpellings ps rest
    → meaning_of (spellings_before ps rest) ≡ text_in_front (map spelling_character ps) (meaning_of rest)
meaning_of-spellings [] rest h = refl
meaning_of-spellings (p ∷ ps) rest h = search (meaning_of-spelling, meaning_of-spellings ps rest h.1)

-- An empty text means an empty text.
pub meaning_of-empty : meaning_of [] ≡ means []
unfolding meaning_of
meaning_of-empty = refl

-- ---- what a text resolves to is the computed meaning

-- What a text means is the computed meaning.
pub means-only : (text meant : List ℕ) → Means text meant → means meant ≡ meaning_of text
means-only text meant m = grind (arith, meaning_of-spellings, meaning_of-empty, text_in_front-means, append-nil)

-- If no spelling begins a text, none is found.
none-found : (c : ℕ) (cs : List ℕ) (o : Option Spelling) → NoSpelling (c ∷ cs) → IsFound (c ∷ cs) o → o ≡ None
none-found c cs o h1 h2 = grind (arith)

-- A `\u` that begins no spelling.
pub meaning_of-fault : (after : List ℕ) → NoSpelling (backslash ∷ letter_u ∷ after) → meaning_of (backslash ∷ letter_u ∷ after) ≡ breaks (malformed_by after)
unfolding meaning_of
meaning_of-fault after n = search (past-none, none-found, first_spelling-found)

-- How a text is malformed is the computed meaning.
pub breaks-only : (text : List ℕ) (kind : Malformed) → Breaks text kind → breaks kind ≡ meaning_of text
breaks-only text kind b = grind (arith, meaning_of-spellings, meaning_of-fault, text_in_front-breaks)

-- What a text resolves to is the computed meaning.
pub meaning_of-only : (text : List ℕ) (m : Meaning) → IsMeaning text m → m ≡ meaning_of text
meaning_of-only text m h1 = grind (arith, means-only, breaks-only)

-- ---- a text resolves to the computed meaning

-- A spelling at the front adds its character to the front of the meaning.
front-meets : (p : Spelling) (x rest : List ℕ) (m : Meaning) → x ≡ spelling_text p ++ rest → IsSpelling p rest → IsMeaning rest m
    → IsMeaning x (in_front (spelling_character p) m)
front-meets p x rest (means meant) e h k = record {
  spellings = p ∷ k.spellings;
  whole = e ∙ ap (λ v. spelling_text p ++ v) k.whole;
  each = (rw k.whole at h, k.each);
  characters = ap (λ v. spelling_character p ∷ v) k.characters;
}
front-meets p x rest (breaks kind) e h k = record {
  spellings = p ∷ k.spellings;
  after = k.after;
  whole = e ∙ ap (λ v. spelling_text p ++ v) k.whole;
  each = (rw k.whole at h, k.each);
  no_spelling = k.no_spelling;
  fault = k.fault;
}

-- That rest is one character shorter than the spelling.
length-tail : (p : Spelling) → length (spelling_tail p) ≡ pred (length (spelling_text p))
length-tail p = grind (arith)

-- A text resolves to its computed meaning if the text after its first character does.
next-meets : (c : ℕ) (cs : List ℕ) (o : Option Spelling) → first_spelling c cs ≡ o → IsFound (c ∷ cs) o
    → ((t rest : List ℕ) → cs ≡ t ++ rest → IsMeaning rest (meaning_past cs (length t))) → IsMeaning (c ∷ cs) (meaning_past (c ∷ cs) 0)
next-meets c cs None e f ih = subst (IsMeaning (c ∷ cs)) (sym (past-none c cs e)) (record {
  spellings = [];
  after = f.after;
  whole = f.whole;
  each = tt;
  no_spelling = subst NoSpelling f.whole (spelling_of-none (c ∷ cs) e);
  fault = let w = f.whole in let k : cs ≡ letter_u ∷ f.after = cc in ap fault_of k;
})
next-meets c cs (Some p) e f ih =
    subst (IsMeaning (c ∷ cs)) (sym (past-spelling c cs p e))
    (front-meets p (c ∷ cs) f.rest (meaning_past cs (pred (length (spelling_text p)))) f.whole f.is_spelling
    (subst (λ n. IsMeaning f.rest (meaning_past cs n)) (length-tail p) (ih (spelling_tail p) f.rest (search (rules)))))

-- A text resolves to its computed meaning after a spelling that was read.
past-meets : (text skipped rest : List ℕ) → text ≡ skipped ++ rest → IsMeaning rest (meaning_past text (length skipped))
past-meets [] [] rest e = record { spellings = []; whole = sym e; each = tt; characters = refl }
past-meets [] (d ∷ skipped) rest e = absurd (cc)
past-meets (c ∷ cs) (d ∷ skipped) rest e = past-meets cs skipped rest (cc)
past-meets (c ∷ cs) [] rest e =
    subst (λ v. IsMeaning v (meaning_past (c ∷ cs) 0)) e (next-meets c cs (first_spelling c cs) refl (first_spelling-found c cs) (λ t r. past-meets cs t r))

-- A text resolves to its computed meaning.
pub meaning_of-meets : (text : List ℕ) → IsMeaning text (meaning_of text)
unfolding meaning_of
meaning_of-meets text = past-meets text [] text refl
