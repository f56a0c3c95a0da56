-- The message of a failure, put together.
use Rattle.std.proofs.Common.{◌≡◌, ℕ, List, [], ◌∷◌, ◌++◌, refl, ap, ◌∙◌, append_assoc}
use Rattle.std.specs.Prelude.{Option, Some, None, codes}
use Rattle.std.specs.Fmt.{decimal}
use Rattle.properties_format.specs.Text.{line_feed}
use Rattle.properties_tables.specs.{Messages.escaped, Messages.printed_line, declared.error.Failure.Failure}
use Rattle.properties_tables.specs.Failures.{failure_line, failure_place, message, IsReasonOf, IsMessageLine}

-- a line without a number, as it is printed
pub plain_line : (place reason line : List ℕ) → line ≡ codes "propedit: " ++ (escaped place ++ (codes ": " ++ (reason ++ (line_feed ∷ []))))
    → line ≡ printed_line (message place None reason)
plain_line place reason line is = is ∙ simp append_assoc refl

module _ (name : List ℕ) (failure : Failure) {place : List ℕ} (reason line : List ℕ) (is_place : place ≡ failure_place name failure)
    (is_reason : IsReasonOf failure reason) where
  message-line : (number : Option ℕ) → number ≡ failure_line failure → line ≡ printed_line (message place number reason) → IsMessageLine name failure line
  message-line number is_number is = (
    message (failure_place name failure) (failure_line failure) reason,
    record { reason = reason; is_reason = is_reason; is = refl },
    is ∙ ap (λ p. printed_line (message p number reason)) is_place ∙ ap (λ n. printed_line (message (failure_place name failure) n reason)) is_number,
  )

  -- a line with a number, as it is printed
  pub numbered-line : (number : ℕ) → Some number ≡ failure_line failure
      → line ≡ codes "propedit: " ++ (escaped place ++ (codes ":" ++ (decimal number ++ (codes ": " ++ (reason ++ (line_feed ∷ []))))))
      → IsMessageLine name failure line
  numbered-line number is_number is = message-line (Some number) is_number (is ∙ simp append_assoc refl)

  -- and without one
  pub unnumbered-line : None ≡ failure_line failure → line ≡ codes "propedit: " ++ (escaped place ++ (codes ": " ++ (reason ++ (line_feed ∷ []))))
      → IsMessageLine name failure line
  unnumbered-line is_number is = message-line None is_number (plain_line place reason line is)
