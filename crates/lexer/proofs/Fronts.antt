-- The token at the front of the bytes, by the first of them.
use Rattle.std.proofs.Common.{◌≡◌, ℕ, true, false, List, ◌∷◌, take, Ok, ◌∙◌, arith}
use Rattle.std.proofs.lemmas.Bool.{cond-true, cond-false}
use Rattle.std.proofs.lemmas.Bool.Decides.{nat_tests}
use Rattle.lexer.specs.declared.Token.TheVariants.{Capitals}
use Rattle.lexer.specs.Bytes.{longest_run, base_ten, is_digit, is_lower, is_capital, is_lower_or_digit}
use Rattle.lexer.specs.Tokens.{token_of, number_token, name_or_fault}

module _ (p b : ℕ) (after : List ℕ) where
  pub digit_first : is_digit b ≡ true → token_of p (b ∷ after) ≡ Ok (number_token (base_ten (take (longest_run is_digit (b ∷ after)) (b ∷ after))), longest_run is_digit (b ∷ after))
  digit_first h = cond-true (is_digit b) _ _ h

  pub lower_first : is_lower b ≡ true → token_of p (b ∷ after) ≡ name_or_fault p (longest_run is_lower_or_digit (b ∷ after))
  lower_first h = let d : is_digit b ≡ false = grind (arith, nat_tests) in cond-false (is_digit b) _ _ d ∙ cond-true (is_lower b) _ _ h

  pub capital_first : is_capital b ≡ true → token_of p (b ∷ after) ≡ Ok (Capitals, longest_run is_capital (b ∷ after))
  capital_first h =
      let d : is_digit b ≡ false = grind (arith, nat_tests) in
      let l : is_lower b ≡ false = grind (arith, nat_tests) in
      cond-false (is_digit b) _ _ d ∙ cond-false (is_lower b) _ _ l ∙ cond-true (is_capital b) _ _ h
