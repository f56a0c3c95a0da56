-- Which of the renames of a list is refused, and which comment.
use Rattle.std.proofs.Common.{◌≡◌, ℕ, ◌++◌, ◌∷◌, List, get_or, ap, subst, sym, ◌∙◌}
use Rattle.std.proofs.{Math.ListN.get_or-map, Math.Seq.get_or-append_seam}
use Rattle.properties_format.specs.Encoding.{Encoding}
use Rattle.properties_editing.specs.declared.source.SourceOptions.{SourceOptions}
use Rattle.properties_renaming.specs.Commenting.{HasNoPairFor, NewText, text_in, texts_in}
use Rattle.properties_renaming.specs.Renames.{IsRefusedAt, NewName, name_in, names_in}
use Rattle.properties_renaming.specs.{declared.commenting.NewComment.NewComment, declared.renames.Rename.Rename}

-- what holds of the one that is refused, as told by its place in the list
pub refused-as : (o : SourceOptions) (source : List ℕ) (renames : List Rename) (index : ℕ) (IsRefused IsTold : List ℕ → NewName → Type 0) (rename : Rename)
    → IsRefusedAt o source (names_in renames) index IsRefused → rename ≡ get_or renames index rename
    → ((left : List ℕ) → IsRefused left (name_in rename) → IsTold left (name_in rename)) → IsRefusedAt o source (names_in renames) index IsTold
refused-as o source renames index IsRefused IsTold rename r is told =
    let other = name_in rename in
    let here = ap name_in is ∙ sym (get_or-map name_in renames index rename) ∙ ap (λ l. get_or l index other) r.division
    ∙ ap (λ i. get_or (r.before ++ r.name ∷ r.after) i other) r.index_is ∙ get_or-append_seam r.before r.name r.after other in
    record {
      before = r.before;
      name = r.name;
      after = r.after;
      division = r.division;
      index_is = r.index_is;
      left = r.left;
      made = r.made;
      refused = subst (λ n. IsTold r.left n) here (told r.left (subst (λ n. IsRefused r.left n) (sym here) r.refused));
    }

-- the key of the comment that is refused
pub refused-key : {e : Encoding} {source : List ℕ} (comments : List NewComment) (index : ℕ) (comment : NewComment)
    → (h : HasNoPairFor e source (texts_in comments) index) → comment ≡ get_or comments index comment → (text_in comment).key ≡ h.text.key
refused-key comments index comment h is =
    let other = text_in comment in
    ap (λ t. let u : NewText = t in u.key)
    (ap text_in is ∙ sym (get_or-map text_in comments index comment) ∙ ap (λ l. get_or l index other) h.division
    ∙ ap (λ i. get_or (h.before ++ h.text ∷ h.after) i other) h.index_is ∙ get_or-append_seam h.before h.text h.after other)
