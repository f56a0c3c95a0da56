-- A writer that is set in steps, and lines that are refused.
use Rattle.std.proofs.Common.{◌≡◌, not, ℕ, Bool, true, false, List, [], ◌∷◌, map, length, refl, ap, sym, ◌∙◌, inl, inr, Result, Err, drop}
use mathlib.Core.Bool.{beq}
use Rattle.std.proofs.lemmas.List.{drop_at}
use Rattle.properties_format.specs.{Encoding.Encoding, Encoding.output_encoding, Items.Content, Items.comment, Items.pair, Settings.Settings}
use Rattle.properties_format.specs.{Settings.IsGoodPrefix, Settings.IsGoodSeparator, Writing.is_accepted, Writing.wrote}
use Rattle.java_properties.specs.PropertiesWriter.{Writing, call_of, SetsText}
use Rattle.properties_items.specs.{Errors.kind_of, declared.error.PropertiesError.PropertiesError}
use Rattle.properties_items.specs.declared.error.ErrorKind.TheVariants as kind
use Rattle.std.specs.{Prelude.Ok, Global.Vec}
use Rattle.properties_c.specs.{Crossing.Crossing, Crossing.Delivers, Crossing.RefusesCall, Packed.WithList, Packed.lines, Private.Lists.RefusesList}
use Rattle.properties_c.specs.{Statuses.status_of_kind, Writing.WritesLines, Writing.has_refused, Writing.lines_before, declared.status.Status.Status}
use Rattle.properties_c.specs.Private.Results.{RefusesCalls, SetsSettings, WritesOn, has_refused_call, opening}
use Rattle.properties_c.specs.declared.status.Status.TheVariants.{Done, NoMemory, NotUtf8, BadList, BadPrefix, BadSeparator, EmptyKey}

pub prefix-refused : {V W : Type 0} (w : Writing V) (old new : Writing W) (s : Settings) (text : List ℕ) (error : PropertiesError)
    → s.comment_prefix ≡ text → SetsText (IsGoodPrefix text) kind.BadCommentPrefix text old old (Err error) new
    → SetsSettings w s (Err (status_of_kind (kind_of error)))
prefix-refused w old new s text error same (inl h) = rw (h.refuses.its_kind, same) h.bad
prefix-refused w old new s text error same (inr h) = rw h.is.its_kind tt

pub separator-refused : {V W : Type 0} (w : Writing V) (old new : Writing W) (s : Settings) (text : List ℕ) (error : PropertiesError)
    → IsGoodPrefix s.comment_prefix → s.kv_separator ≡ text
    → SetsText (IsGoodSeparator text) kind.BadKvSeparator text old old (Err error) new
    → SetsSettings w s (Err (status_of_kind (kind_of error)))
separator-refused w old new s text error good same (inl h) = rw h.refuses.its_kind (good, rw same h.bad)
separator-refused w old new s text error good same (inr h) = rw h.is.its_kind tt

-- a list of lines has a call that isn't accepted if it has a line that isn't
pub refused-lines : (s : Settings) (contents : List Content) → has_refused_call s (map call_of contents) ≡ has_refused s contents
refused-lines s [] = refl
refused-lines s (comment text ∷ contents) = refused-lines s contents
refused-lines s (pair key value ∷ contents) = rw (refused-lines s contents, refused-answer (is_accepted s (call_of (pair key value)))) refl
  where
    refused-answer : (b : Bool) → beq b false ≡ not b
    refused-answer true = refl
    refused-answer false = refl

-- What was written crosses: its bytes behind the front, or its status.
abbrev pub WrittenCrosses : Result (Vec ℕ × ℕ) Status → Crossing → Type 0
WrittenCrosses (Ok (bytes, front)) x = Delivers (drop front bytes.items) Done 0 x
WrittenCrosses (Err status) x = RefusesCall status 0 x

crossed : (e : Encoding) (s : Settings) (goes_on : Bool) (contents : List Content) (status : Status) (x : Crossing)
    → RefusesCalls s (map call_of contents) status → RefusesCall status 0 x → WritesLines e s (lines_before goes_on) contents x
crossed e s goes_on contents BadPrefix x h given = inr (inl (h, given))
crossed e s goes_on contents BadSeparator x h given = inr (inr (inl (h.0, h.1, given)))
crossed e s goes_on contents EmptyKey x h given = inr (inr (inr (inl (h.0, sym (refused-lines s contents) ∙ h.1, given))))
crossed e s goes_on contents NoMemory x h given = inr (inr (inr (inr given)))
crossed e s goes_on contents other x h given = absurd h

list-crossed : (s : Settings) (list : List ℕ) (status : Status) (x : Crossing) {Holds : List Content → Type 0} → RefusesList lines list status
    → RefusesCall status 0 x → WithList lines list Holds x
list-crossed s list BadList x h given = inr (inl (h, given))
list-crossed s list NotUtf8 x h given = inr (inr (inl (h, given)))
list-crossed s list NoMemory x h given = inr (inr (inr given))
list-crossed s list other x h given = absurd h

-- The lines were written with settings that are equal to these.
pub lines-crossed : (e : Encoding) (asked s : Settings) (goes_on : Bool) (list : List ℕ) (written : Result (Vec ℕ × ℕ) Status) (x : Crossing)
    → asked ≡ s → WritesOn e asked goes_on list written → WrittenCrosses written x
    → WithList lines list (λ contents. WritesLines e s (lines_before goes_on) contents x) x
lines-crossed e asked s goes_on list (Ok (bytes, front)) x settled h given =
    let k = h.0 in
    let opened = opening e asked goes_on in
    let wrote_lines = wrote (output_encoding e) asked (lines_before goes_on) (map call_of k.contents) in
    let behind : drop front bytes.items ≡ wrote_lines =
    ap (λ n. drop n bytes.items) h.1 ∙ ap (drop (length opened)) k.is ∙ drop_at opened wrote_lines (length opened) refl in
    inl (
      k.contents,
      k.are_lines,
      rw (sym settled) (inl record {
        good = k.good;
        accepted = sym (refused-lines asked k.contents) ∙ k.accepted;
        given = rw behind at given;
      }),
    )
lines-crossed e asked s goes_on list (Err status) x settled (inl h) given = list-crossed s list status x h given
lines-crossed e asked s goes_on list (Err status) x settled (inr (contents, are, h)) given =
    inl (contents, are, rw (sym settled) (crossed e asked goes_on contents status x h given))
