-- The token that is next after an offset of a text.
use Rattle.std.specs.Prelude.{ℕ, ◌+◌, ◌^◌, cond, List, [], ◌∷◌, take, drop, Ok, Err, Result, ◌==◌, nat_le, nat_lt}
use Rattle.lexer.specs.declared.Token.{Token}
use Rattle.lexer.specs.declared.Token.TheVariants.{LineEnd, Number, HugeNumber, Name, Capitals, Percent, Dots, Colon, Open, Close, Comma, Equals, Minus, End}
use Rattle.lexer.specs.declared.LexicalFault.{LexicalFault}
use Rattle.lexer.specs.declared.LexicalFault.TheVariants.{StrayByte, LongName}
use Rattle.lexer.specs.Bytes.{is_space, is_digit, is_capital, is_lower, is_lower_or_digit, longest_run, base_ten}

-- the byte at which a fault is told
abbrev pub lexical_place : LexicalFault → ℕ
lexical_place (StrayByte p) = p
lexical_place (LongName p) = p

-- what bytes begin with: a token of a kind and a length, or a fault
abbrev pub Front : Type 0
Front = Result (Token × ℕ) LexicalFault

-- what is read of a text: a token of a kind, its place and its length, or a fault
abbrev pub Answer : Type 0
Answer = Result (Token × (ℕ × ℕ)) LexicalFault

-- a number is told by its value if that is at most 4294967295
abbrev pub number_token : ℕ → Token
number_token v = cond (nat_lt v (2 ^ 32)) (Number v) HugeNumber

-- a name at place p, if it is at most 8 long
abbrev pub name_or_fault : ℕ → ℕ → Front
name_or_fault p n = cond (nat_le n 8) (Ok (Name, n)) (Err (LongName p))

-- a full stop at place p starts a token if the next byte is one too
abbrev pub dots_or_fault : ℕ → List ℕ → Front
dots_or_fault p [] = Err (StrayByte p)
dots_or_fault p (b ∷ after) = cond (b == 46) (Ok (Dots, 2)) (Err (StrayByte p))

-- a byte at place p that is a token by itself, or starts none; the codes are those of the line end and of : ( ) , = -
abbrev pub mark_or_fault : ℕ → ℕ → Front
mark_or_fault p b =
    cond (b == 10) (Ok (LineEnd, 1))
    (cond (b == 58) (Ok (Colon, 1))
    (cond (b == 40) (Ok (Open, 1))
    (cond (b == 41) (Ok (Close, 1))
    (cond (b == 44) (Ok (Comma, 1))
    (cond (b == 61) (Ok (Equals, 1))
    (cond (b == 45) (Ok (Minus, 1))
    (Err (StrayByte p))))))))

-- what the bytes from place p on begin with, where no space stands first; 37 is the code of % and 46 of the full stop
abbrev pub token_of : ℕ → List ℕ → Front
token_of p [] = Ok (End, 0)
token_of p (b ∷ after) =
    cond (is_digit b) (Ok (number_token (base_ten (take (longest_run is_digit (b ∷ after)) (b ∷ after))), longest_run is_digit (b ∷ after)))
    (cond (is_lower b) (name_or_fault p (longest_run is_lower_or_digit (b ∷ after)))
    (cond (is_capital b) (Ok (Capitals, longest_run is_capital (b ∷ after)))
    (cond (b == 37) (Ok (Percent, 1 + longest_run is_lower_or_digit after))
    (cond (b == 46) (dots_or_fault p after)
    (mark_or_fault p b)))))

abbrev pub placed : ℕ → Front → Answer
placed p (Ok x) = Ok (x.0, (p, x.1))
placed p (Err f) = Err f

-- where the spaces from offset o on end
abbrev pub after_spaces : List ℕ → ℕ → ℕ
after_spaces bs o = o + longest_run is_space (drop o bs)

-- what is read of the text bs from offset o on: the spaces are passed, and the token begins where they end
abbrev pub token_at : List ℕ → ℕ → Answer
token_at bs o = placed (after_spaces bs o) (token_of (after_spaces bs o) (drop (after_spaces bs o) bs))

-- the offset after that: just past the token, and where it was at a fault
abbrev pub offset_after : Answer → ℕ → ℕ
offset_after (Ok x) o = x.1.0 + x.1.1
offset_after (Err f) o = o
