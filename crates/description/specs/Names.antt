-- Declared names: which number a text has, that none is declared twice, and where a name's values lie.
use Rattle.std.specs.Prelude.{ℕ, zero, suc, Bool, true, false, cond, not, ◌&&◌, List, [], ◌∷◌, is_some, Some, None, Option, ◌==◌}
use Rattle.pattern.specs.Letters.{letters_of}
use Rattle.description.specs.declared.rules.Nonterminal.{Nonterminal}

-- whether two texts are the same
abbrev pub same_text : List ℕ → List ℕ → Bool
same_text [] [] = true
same_text [] (b ∷ bs) = false
same_text (a ∷ xs) [] = false
same_text (a ∷ xs) (b ∷ bs) = a == b && same_text xs bs

-- a name's text
abbrev pub text_of : Nonterminal → List ℕ
text_of n = letters_of n.name

-- the number of the first name with that text, where the list's first has the number k
abbrev pub number_from : ℕ → List ℕ → List Nonterminal → Option ℕ
number_from k t [] = None
number_from k t (n ∷ ns) = cond (same_text (text_of n) t) (Some k) (number_from (suc k) t ns)

-- the number of the name with that text, from 0
abbrev pub number_of_text : List ℕ → List Nonterminal → Option ℕ
number_of_text t ns = number_from 0 t ns

-- whether no name is declared twice
abbrev pub declared_once : List Nonterminal → Bool
declared_once [] = true
declared_once (n ∷ ns) = not (is_some (number_of_text (text_of n) ns)) && declared_once ns

-- the letter of the PLACE of name i, and 0 where there is no such name
abbrev pub place_letter : List Nonterminal → ℕ → ℕ
place_letter [] i = 0
place_letter (n ∷ ns) zero = n.place.letter
place_letter (n ∷ ns) (suc i) = place_letter ns i
