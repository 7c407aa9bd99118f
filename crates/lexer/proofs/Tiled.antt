-- The tokens of a text cover it.
use Rattle.std.proofs.Common.{◌≡◌, ℕ, zero, suc, ◌+◌, ◌-◌, ◌<◌, ◌≤◌, Bool, true, false, cond, List, [], length, drop, Ok, Err, MatchBool, refl, arith, length-drop}
use Rattle.lexer.specs.declared.Token.{Token}
use Rattle.lexer.specs.Tokens.{Answer, token_at}
use Rattle.lexer.specs.Tilings.{is_end, read_then, tokens_from, Tiles, TokensTile}
use Rattle.lexer.proofs.Denoted.{denoted_some, denoted_end}
use Rattle.lexer.proofs.Standing.{stands_where_read, fails_where_told}

-- every token but the text's end takes some bytes of it
pub reading_goes_on : (bs : List ℕ) (o : ℕ) → o ≤ length bs → (t : Token) (p n : ℕ) → token_at bs o ≡ Ok (t, (p, n)) → is_end t ≡ false → (o < p + n) × (p + n ≤ length bs)
reading_goes_on bs o h t p n e more =
    let s = stands_where_read bs o h t p n e in
    (omega (arith, s.spaces.0, denoted_some t (drop p bs) n s.denotes more), s.inside)

-- the text's end stands at its length
pub end_is_last : (bs : List ℕ) (o : ℕ) → o ≤ length bs → (t : Token) (p n : ℕ) → token_at bs o ≡ Ok (t, (p, n)) → is_end t ≡ true → p ≡ length bs
end_is_last bs o h t p n e last =
    let s = stands_where_read bs o h t p n e in
    omega (arith, s.inside, denoted_end t (drop p bs) n s.denotes last, length-drop p bs)

tiles_from : (turns : ℕ) (bs : List ℕ) (o : ℕ) → o ≤ length bs → length bs - o < turns → Tiles bs o (tokens_from turns bs o)
tiles_from zero bs o h few = absurd (omega arith)
tiles_from (suc turns) bs o h few = go (token_at bs o) refl (tiles_from turns bs)
  where
    onward : (t : Token) (p n : ℕ) → token_at bs o ≡ Ok (t, (p, n)) → (b : Bool) → is_end t ≡ b → ((q : ℕ) → q ≤ length bs → length bs - q < turns → Tiles bs q (tokens_from turns bs q)) → MatchBool b ((cond b [] (tokens_from turns bs (p + n)) ≡ []) × (p ≡ length bs)) (Tiles bs (p + n) (cond b [] (tokens_from turns bs (p + n))))
    onward t p n e true last ih = (refl, end_is_last bs o h t p n e last)
    onward t p n e false more ih =
        let on = reading_goes_on bs o h t p n e more in
        ih (p + n) on.1 (omega (arith, on.0))

    go : (r : Answer) → token_at bs o ≡ r → ((q : ℕ) → q ≤ length bs → length bs - q < turns → Tiles bs q (tokens_from turns bs q)) → Tiles bs o (read_then r (λ next. tokens_from turns bs next))
    go (Ok x) e ih = (stands_where_read bs o h x.0 x.1.0 x.1.1 e, onward x.0 x.1.0 x.1.1 e (is_end x.0) refl ih)
    go (Err f) e ih = (f, fails_where_told bs o h f e)

pub tokens_tile_lem : TokensTile
tokens_tile_lem bs = tiles_from (suc (length bs)) bs 0 (omega arith) (omega arith)
