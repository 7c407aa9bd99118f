-- Lists of statements as lists of assignments.
use Rattle.std.proofs.Common.{◌≡◌, ℕ, ◌+◌, ◌<◌, List, [], ◌∷◌, ◌++◌, map, length, get_or, take, drop, set, sym, refl, ap, ◌∙◌, subst₂, arith, take-append-drop}
use Rattle.std.proofs.lemmas.List.{drop_more, map_more, length-take-le}
use Rattle.std.proofs.ByRecursion.{All-more}
use Rattle.std.specs.List.{AllByRecursion}
use Rattle.tree.specs.declared.nodes.Statement.{Statement}
use Rattle.tree.specs.Trees.{Tree, postfix, value_of, Assignment, evaluated, changed_by}
use Rattle.tree.specs.declared.checked.CheckedStatement.{CheckedStatement}
use Rattle.tree.specs.Checked.{nodes_of}
use Rattle.tree.specs.Statements.{StatementGranted}
use Rattle.tree.specs.Evaluations.{Granted, Denied, FirstDenied, Says, SayAll}
use Rattle.tree.proofs.Forests.{newest, forest, forest-postfix}
use Rattle.tree.proofs.Grants.{tree_of}

-- the assignment that a granted statement is
abbrev pub assignment_of : Statement → Assignment
assignment_of s = record { assigned = s.target; expression = newest (forest [] s.nodes.now) }

pub says : (s : Statement) → Granted s → Says s (assignment_of s)
says s g =
    let found = tree_of s.target s.nodes.now g in
    let t : Tree = found.0 in
    let same : newest (forest [] s.nodes.now) ≡ t = ap (λ l. newest (forest [] l)) (sym found.1.nodes_are) ∙ ap newest (forest-postfix t []) in
    record { target_is = refl; stands = rw same found.1 }

pub say_all : (ss : List Statement) → AllByRecursion Granted ss → SayAll ss (map assignment_of ss)
say_all [] g = tt
say_all (s ∷ ss) g = (says s g.0, say_all ss g.1)

pub evaluated_push : (bs : List Assignment) (a : Assignment) (σ : List ℕ) → evaluated (bs ++ a ∷ []) σ ≡ changed_by a (evaluated bs σ)
evaluated_push [] a σ = refl
evaluated_push (b ∷ bs) a σ = evaluated_push bs a (changed_by b σ)

-- a checked statement is the statement that was checked
abbrev pub Same : Statement → CheckedStatement → Type 0
Same s c = (c.target ≡ s.target) × (nodes_of c ≡ s.nodes.now)

pub granted_same : (s : Statement) (c : CheckedStatement) → Same s c → Granted s
granted_same s c e = subst₂ StatementGranted e.0 e.1 c.granted

module _ (ss : List Statement) (i : ℕ) (d : Statement) (h : i < length ss) (before : AllByRecursion Granted (take i ss)) where
  pub first_denied : (k p : ℕ) → Denied (get_or ss i d) k p → FirstDenied ss i k p
  first_denied k p r = record {
    before = take i ss;
    refused = get_or ss i d;
    after = drop (i + 1) ss;
    split = sym (take-append-drop i ss) ∙ ap (λ l. take i ss ++ l) (drop_more ss i d h);
    counted = length-take-le i ss (omega arith);
    granted_before = before;
    denied = r;
  }

  -- one statement more
  module _ (c : CheckedStatement) (same : Same (get_or ss i d) c) where
    pub granted_more : AllByRecursion Granted (take (i + 1) ss)
    granted_more = All-more Granted ss i d h before (granted_same (get_or ss i d) c same)

    pub evaluated_more : (σ σ' τ : List ℕ) → τ ≡ evaluated (map assignment_of (take i ss)) σ → ((t : Tree) → postfix t ≡ nodes_of c → σ' ≡ set τ c.target (value_of τ t)) → σ' ≡ evaluated (map assignment_of (take (i + 1) ss)) σ
    evaluated_more σ σ' τ e gives =
        let s = get_or ss i d in
        let a = assignment_of s in
        let nodes = (says s (granted_same s c same)).stands.nodes_are in
        gives a.expression (nodes ∙ sym same.1)
        ∙ ap (λ v. set τ v (value_of τ a.expression)) same.0
        ∙ ap (changed_by a) e
        ∙ sym (evaluated_push (map assignment_of (take i ss)) a σ)
        ∙ ap (λ l. evaluated l σ) (sym (map_more assignment_of ss i d h))
