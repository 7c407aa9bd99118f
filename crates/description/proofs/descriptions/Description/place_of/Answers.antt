use Rattle.std.proofs.Common.{rules, ◌≡◌, sym, subst}
use Rattle.std.specs.Option.{option_map}
use borrow.Author.Tests.{tests}
use Rattle.description.specs.Descriptions.{names_of}
use Rattle.description.specs.declared.rules.Nonterminal.{Nonterminal}
use Rattle.description.proofs.Lying.{PlaceOf, placed}
use Rattle.description.proofs.descriptions.Description.place_of.Goals as goal

pub returns : goal.returns
returns c =
    let ns = names_of c.args.self.now in
    let i = c.args.number in
    let mapped : c.map.result ≡ option_map (λ (n : Nonterminal). n.place) c.name.result = search (rules, tests) in
    subst (PlaceOf ns i) (sym mapped) (placed ns i c.name.result c.name.ensures)
