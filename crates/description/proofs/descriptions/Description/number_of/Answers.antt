use Rattle.std.proofs.Common.{rules, ◌≡◌, nat_eq, ◌∙◌}
use Rattle.std.proofs.lemmas.Iterator.{YieldsList-from_slice}
use Rattle.std.proofs.lemmas.Iterator.Search.{position_from_yields_List}
use Rattle.std.proofs.lemmas.Iterator.Adapters.{position_from-zero}
use Rattle.std.specs.Cmp.Lexicographic.{pointwise}
use borrow.Author.Tests.{tests}
use Rattle.pattern.specs.Letters.{letters_of}
use Rattle.description.specs.Descriptions.{names_of}
use Rattle.description.specs.Names.{same_text, text_of}
use Rattle.description.proofs.Names.{number_is, same_is}
use Rattle.description.proofs.descriptions.Description.number_of.Goals as goal

pub returns : goal.returns
returns c =
    let ns = names_of c.args.self.now in
    let t = letters_of c.args.name.now in
    position_from_yields_List (λ n. same_text (text_of n) t) _ _ _ c.position.ensures.ran (YieldsList-from_slice ns cc) (λ n b q k. (search (rules, tests), let e : b ≡ pointwise nat_eq (text_of n.now) t = search (rules, tests) in e ∙ same_is (text_of n.now) t))
    ∙ position_from-zero (λ n. same_text (text_of n) t) ns ∙ number_is t 0 ns
