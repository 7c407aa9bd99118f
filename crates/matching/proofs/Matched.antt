-- A function that matches a shape at a tree, and that it finds exactly the matches.
use Rattle.std.proofs.Common.{◌≡◌, ℕ, ◌+◌, Bool, true, false, cond, ◌&&◌, eqb, leb, List, [], ◌∷◌, ◌++◌, map, length, drop, Some, None, Option, sym, refl, ap, ◌∙◌, subst, append_assoc, append-nil, arith}
use Rattle.std.proofs.lemmas.List.{drop_at, map-append, length-append, length-map}
use Rattle.std.proofs.lemmas.Option.{none-some}
use Rattle.std.proofs.lemmas.Bool.{eqb-true, eq-eqb, leb-true, le-leb, and_parts, and_from, cond-true}
use Rattle.operators.specs.declared.Unary.{Unary}
use Rattle.operators.specs.declared.Binary.{Binary}
use Rattle.operators.specs.declared.Operator.{Operator}
use Rattle.operators.specs.declared.Operator.TheVariants.{Cnst, Var, One, Two}
use Rattle.operators.specs.Operators.{operator_number, operator_of, unary, binary}
use Rattle.operators.proofs.Numbers.{operator_of_number}
use Rattle.tree.specs.Trees.{Tree, cnst, var, one, two, node_count, value_of}
use Rattle.pattern.specs.declared.intervals.Interval.{Interval}
use Rattle.pattern.specs.Ranges.{Admits, admitted}
use Rattle.pattern.specs.Shapes.{Shape, operand_shape, constant_shape, variable_shape, unary_shape, binary_shape, operands_of, leaves_of, shape_value}
use Rattle.matching.specs.Matches.{Subgoal, Matches, at_operand, at_constant, at_variable, at_unary, at_binary, MatchesOnce, MatchValue}

-- the operator, the payload and the parts of a tree
abbrev pub top_operator : Tree → Operator
top_operator (cnst w) = Cnst
top_operator (var v) = Var
top_operator (one o t) = One o
top_operator (two o t u) = Two o

abbrev pub top_payload : Tree → ℕ
top_payload (cnst w) = w
top_payload (var v) = v
top_payload (one o t) = 0
top_payload (two o t u) = 0

abbrev pub left_tree : Tree → Tree
left_tree (cnst w) = cnst w
left_tree (var v) = var v
left_tree (one o t) = t
left_tree (two o t u) = t

abbrev pub right_tree : Tree → Tree
right_tree (cnst w) = cnst w
right_tree (var v) = var v
right_tree (one o t) = t
right_tree (two o t u) = u

-- whether the tree has this operator, as the code asks it
abbrev pub tops : Operator → Tree → Bool
tops op t = eqb (operator_number (top_operator t)) (operator_number op)

pub record Found : Type 0 where
  pub goals : List Subgoal
  pub payloads : List ℕ

abbrev pub found : List Subgoal → List ℕ → Found
found gs ws = record { goals = gs; payloads = ws }

abbrev pub goal_of : ℕ → Tree → ℕ → Subgoal
goal_of a t n = record { asked = a; subtree = t; start = n }

abbrev pub a_payload : ℕ → Found
a_payload w = found [] (w ∷ [])

abbrev pub after : Found → Option Found → Option Found
after f None = None
after f (Some g) = Some (found (f.goals ++ g.goals) (f.payloads ++ g.payloads))

abbrev pub both : Option Found → Option Found → Option Found
both None g = None
both (Some f) g = after f g

abbrev pub matched : Shape → Tree → ℕ → Option Found
matched (operand_shape a) t n = Some (found (goal_of a t n ∷ []) [])
matched (constant_shape i) t n = cond (tops Cnst t && admitted i (top_payload t)) (Some (a_payload (top_payload t))) None
matched variable_shape t n = cond (tops Var t) (Some (a_payload (top_payload t))) None
matched (unary_shape o p) t n = cond (tops (One o) t) (matched p (right_tree t) n) None
matched (binary_shape o p q) t n =
    cond (tops (Two o) t) (both (matched p (left_tree t) n) (matched q (right_tree t) (n + node_count (left_tree t)))) None

-- the operator is what its number says
pub tops_is : (op : Operator) (t : Tree) → tops op t ≡ true → top_operator t ≡ op
tops_is op t e =
    let same : Some (top_operator t) ≡ Some op =
    sym (operator_of_number (top_operator t)) ∙ ap operator_of (eqb-true _ _ e) ∙ operator_of_number op in
    cc

pub is_tops : (op : Operator) (t : Tree) → top_operator t ≡ op → tops op t ≡ true
is_tops op t e = eq-eqb _ _ (ap operator_number e)

pub admitted_is : (i : Interval) (w : ℕ) → admitted i w ≡ true → Admits i w
admitted_is i w e =
    let parts = and_parts (leb i.low w) (leb w i.high) e in
    (leb-true i.low w parts.0, leb-true w i.high parts.1)

pub is_admitted : (i : Interval) (w : ℕ) → Admits i w → admitted i w ≡ true
is_admitted i w a = and_from (leb i.low w) (leb w i.high) (le-leb i.low w a.0) (le-leb w i.high a.1)

-- every match is found
pub finds : {p : Shape} {t : Tree} {n : ℕ} {gs : List Subgoal} {ws : List ℕ} → Matches p t n gs ws → matched p t n ≡ Some (found gs ws)
finds at_operand = refl
finds (at_constant {i} {w} a) = cond-true (admitted i w) _ _ (is_admitted i w a)
finds at_variable = refl
finds (at_unary {o} {o'} {p} {t} {n} e m) = cond-true (tops (One o) (one o' t)) _ _ (is_tops (One o) (one o' t) (ap One (sym e))) ∙ finds m
finds (at_binary {o} {o'} {p} {q} {t} {u} {n} {gs} {gs'} {ws} {ws'} e m m') =
    cond-true (tops (Two o) (two o' t u)) _ _ (is_tops (Two o) (two o' t u) (ap Two (sym e)))
    ∙ ap (λ f. both f (matched q u (n + node_count t))) (finds m) ∙ ap (after (found gs ws)) (finds m')

pub matches_once_lem : MatchesOnce
matches_once_lem p t n gs gs' ws ws' m m' =
    let same : ◌≡◌ {A = Option Found} (Some (found gs ws)) (Some (found gs' ws')) = sym (finds m) ∙ finds m' in
    let same-found : found gs ws ≡ found gs' ws' = cc in
    (ap (λ f. f.goals) same-found, ap (λ f. f.payloads) same-found)

-- a tree with this operator, from its parts
is_cnst : (t : Tree) → top_operator t ≡ Cnst → cnst (top_payload t) ≡ t
is_cnst (cnst w) e = refl
is_cnst (var v) e = cc
is_cnst (one o t) e = cc
is_cnst (two o t u) e = cc

is_var : (t : Tree) → top_operator t ≡ Var → var (top_payload t) ≡ t
is_var (cnst w) e = cc
is_var (var v) e = refl
is_var (one o t) e = cc
is_var (two o t u) e = cc

pub is_one : (o : Unary) (t : Tree) → top_operator t ≡ One o → one o (right_tree t) ≡ t
is_one o (cnst w) e = cc
is_one o (var v) e = cc
is_one o (one o' t) e = let same : o ≡ o' = cc in ap (λ p. one p t) same
is_one o (two o' t u) e = cc

pub is_two : (o : Binary) (t : Tree) → top_operator t ≡ Two o → two o (left_tree t) (right_tree t) ≡ t
is_two o (cnst w) e = cc
is_two o (var v) e = cc
is_two o (one o' t) e = cc
is_two o (two o' t u) e = let same : o ≡ o' = cc in ap (λ p. two p t u) same

-- what is found
abbrev pub MatchedBy : Shape → Tree → ℕ → Found → Type 0
MatchedBy p t n f = Matches p t n f.goals f.payloads

cond_some : (b : Bool) (x : Option Found) (f : Found) → cond b x None ≡ Some f → (b ≡ true) × (x ≡ Some f)
cond_some true x f e = (refl, e)
cond_some false x f e = absurd (none-some f e)

record Halves (x y : Option Found) (f : Found) : Type 0 where
  first : Found
  second : Found
  first_is : x ≡ Some first
  second_is : y ≡ Some second
  joined : found (first.goals ++ second.goals) (first.payloads ++ second.payloads) ≡ f

halves : (x y : Option Found) (f : Found) → both x y ≡ Some f → Halves x y f
halves None y f e = absurd (none-some f e)
halves (Some g) None f e = absurd (none-some f e)
halves (Some g) (Some h) f e = record { first = g; second = h; first_is = refl; second_is = refl; joined = cc }

-- what is found is a match
pub sound : (p : Shape) (t : Tree) (n : ℕ) (f : Found) → matched p t n ≡ Some f → MatchedBy p t n f
sound (operand_shape a) t n f e =
    let same : found (goal_of a t n ∷ []) [] ≡ f = cc in
    subst (MatchedBy (operand_shape a) t n) same at_operand
sound (constant_shape i) t n f e =
    let here = cond_some (tops Cnst t && admitted i (top_payload t)) _ f e in
    let parts = and_parts (tops Cnst t) (admitted i (top_payload t)) here.0 in
    let same : a_payload (top_payload t) ≡ f = let s = here.1 in cc in
    let at : Matches (constant_shape i) (cnst (top_payload t)) n [] (top_payload t ∷ []) = at_constant (admitted_is i (top_payload t) parts.1) in
    subst (λ u. MatchedBy (constant_shape i) u n f) (is_cnst t (tops_is Cnst t parts.0))
    (subst (MatchedBy (constant_shape i) (cnst (top_payload t)) n) same at)
sound variable_shape t n f e =
    let here = cond_some (tops Var t) _ f e in
    let same : a_payload (top_payload t) ≡ f = let s = here.1 in cc in
    let at : Matches variable_shape (var (top_payload t)) n [] (top_payload t ∷ []) = at_variable in
    subst (λ u. MatchedBy variable_shape u n f) (is_var t (tops_is Var t here.0))
    (subst (MatchedBy variable_shape (var (top_payload t)) n) same at)
sound (unary_shape o p) t n f e =
    let here = cond_some (tops (One o) t) _ f e in
    subst (λ u. MatchedBy (unary_shape o p) u n f) (is_one o t (tops_is (One o) t here.0))
    (at_unary refl (sound p (right_tree t) n f here.1))
sound (binary_shape o p q) t n f e =
    let here = cond_some (tops (Two o) t) _ f e in
    let m = n + node_count (left_tree t) in
    let parts = halves (matched p (left_tree t) n) (matched q (right_tree t) m) f here.1 in
    subst (λ u. MatchedBy (binary_shape o p q) u n f) (is_two o t (tops_is (Two o) t here.0))
    (subst (MatchedBy (binary_shape o p q) (two o (left_tree t) (right_tree t)) n) parts.joined
    (at_binary refl (sound p (left_tree t) n parts.first parts.first_is) (sound q (right_tree t) m parts.second parts.second_is)))

-- the goals ask for the shape's operands, and each leaf gives a payload
pub asked_are : {p : Shape} {t : Tree} {n : ℕ} {gs : List Subgoal} {ws : List ℕ} → Matches p t n gs ws → map (λ g. g.asked) gs ≡ operands_of p
asked_are at_operand = refl
asked_are (at_constant a) = refl
asked_are at_variable = refl
asked_are (at_unary e m) = asked_are m
asked_are (at_binary {gs} {gs'} e m m') = map-append (λ g. g.asked) gs gs' ∙ (λ i. asked_are m i ++ asked_are m' i)

pub payload_each : {p : Shape} {t : Tree} {n : ℕ} {gs : List Subgoal} {ws : List ℕ} → Matches p t n gs ws → length ws ≡ length (leaves_of p)
payload_each at_operand = refl
payload_each (at_constant a) = refl
payload_each at_variable = refl
payload_each (at_unary e m) = payload_each m
payload_each (at_binary {p} {q} {ws} {ws'} e m m') =
    simp length-append (omega (arith, payload_each m, payload_each m'))

pub goal_each : {p : Shape} {t : Tree} {n : ℕ} {gs : List Subgoal} {ws : List ℕ} → Matches p t n gs ws → length gs ≡ length (operands_of p)
goal_each {gs} m = sym (length-map gs (λ g. g.asked)) ∙ ap length (asked_are m)

-- the value of a match, whatever values and payloads follow
module _ (σ : List ℕ) where
  abbrev values : List Subgoal → List ℕ
  values gs = map (λ g. value_of σ g.subtree) gs

  value_from : {p : Shape} {t : Tree} {n : ℕ} {gs : List Subgoal} {ws : List ℕ} → Matches p t n gs ws → (vs more : List ℕ) → shape_value p (values gs ++ vs) (ws ++ more) σ ≡ value_of σ t
  value_from at_operand vs more = refl
  value_from (at_constant a) vs more = refl
  value_from at_variable vs more = refl
  value_from (at_unary {o} {o'} {p} {t} e m) vs more = λ i. unary (e i) (value_from m vs more i)
  value_from (at_binary {o} {o'} {p} {q} {t} {u} {n} {gs} {gs'} {ws} {ws'} e m m') vs more =
      let goals = ap (λ l. l ++ vs) (map-append (λ g. value_of σ g.subtree) gs gs') ∙ append_assoc (values gs) (values gs') vs in
      let pays = append_assoc ws ws' more in
      let left = (λ i. shape_value p (goals i) (pays i) σ) ∙ value_from m (values gs' ++ vs) (ws' ++ more) in
      let rest = ap (drop (length (operands_of p))) goals ∙ drop_at (values gs) (values gs' ++ vs) (length (operands_of p)) (length-map gs _ ∙ goal_each m) in
      let rest' = ap (drop (length (leaves_of p))) pays ∙ drop_at ws (ws' ++ more) (length (leaves_of p)) (payload_each m) in
      let right = (λ i. shape_value q (rest i) (rest' i) σ) ∙ value_from m' vs more in
      λ i. binary (e i) (left i) (right i)

pub match_value_lem : MatchValue
match_value_lem p t n gs ws σ m =
    sym (λ i. shape_value p (append-nil (values σ gs) i) (append-nil ws i) σ) ∙ value_from σ m [] []
