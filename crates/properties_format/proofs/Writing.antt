-- What two lists of calls write, one after the other.
use Rattle.std.proofs.Common.{◌≡◌, ℕ, List, [], ◌∷◌, ◌++◌, refl, ap, append_assoc}
use Rattle.properties_format.specs.Encoding.{Encoding}
use Rattle.properties_format.specs.Settings.{Settings}
use Rattle.properties_format.specs.Writing.{Call, is_accepted, settings_after_call, settings_after, answers, written_line, lines_with, line_count_after, wrote}

-- The settings after two lists of calls.
pub settings_after-append : (s : Settings) (xs ys : List Call) → settings_after s (xs ++ ys) ≡ settings_after (settings_after s xs) ys
settings_after-append s [] ys = refl
settings_after-append s (x ∷ xs) ys = settings_after-append (settings_after_call s x) xs ys

-- The number of lines after two lists of calls.
pub line_count_after-append : (s : Settings) (n : ℕ) (xs ys : List Call)
    → line_count_after s n (xs ++ ys) ≡ line_count_after (settings_after s xs) (line_count_after s n xs) ys
line_count_after-append s n [] ys = refl
line_count_after-append s n (x ∷ xs) ys = line_count_after-append (settings_after_call s x) (lines_with n (written_line s x)) xs ys

-- The results of two lists of calls.
pub answers-append : (s : Settings) (xs ys : List Call) → answers s (xs ++ ys) ≡ answers s xs ++ answers (settings_after s xs) ys
answers-append s [] ys = refl
answers-append s (x ∷ xs) ys = ap (λ v. is_accepted s x ∷ v) (answers-append (settings_after_call s x) xs ys)

-- The bytes that two lists of calls write.
pub wrote-append : (e : Encoding) (s : Settings) (n : ℕ) (xs ys : List Call)
    → wrote e s n (xs ++ ys) ≡ wrote e s n xs ++ wrote e (settings_after s xs) (line_count_after s n xs) ys
wrote-append e s n [] ys = refl
wrote-append e s n (x ∷ xs) ys = simp (append_assoc, wrote-append e (settings_after_call s x) (lines_with n (written_line s x)) xs ys)
