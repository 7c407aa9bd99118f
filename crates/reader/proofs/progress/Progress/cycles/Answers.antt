use Rattle.description.specs.Outlines.{emitted}
use Rattle.reader.specs.Reading.{cycles_number}
use Rattle.reader.specs.States.{draft_of}
use Rattle.reader.proofs.Ruled.{one_pattern, rule_fits, rule_taken}
use Rattle.reader.proofs.progress.Progress.cycles.Goals as goal

pub rule_of-rule-requires : goal.rule_of-rule-requires
rule_of-rule-requires c =
    let d = c.args.draft in
    (one_pattern d.items c.requires.0.limits c.requires.1, (c.requires.3, c.in_ok-cycles.ensures.2))

pub unreachable-requires : goal.unreachable-requires
unreachable-requires c =
    let w = cycles_number c.args.size (emitted c.args.mnemonic) (draft_of c.args.draft) in
    rule_fits c.args.self.now w c.rule_of-rule.result _ _ _ _ c.rule_of-rule.ensures c.requires.0 c.requires.2 _ c.in_default.ensures.1

pub returns : goal.returns
returns c =
    let x = c.args.word.now in
    rule_taken c.args.self.now (draft_of c.args.draft) (emitted c.args.mnemonic) c.args.size c.in_ok-cycles.cycles c.rule_of-rule.result c.add_rule.new.self x.token x.place c.rule_of-rule.ensures c.in-Ok.ensures c.in_ok-cycles.ensures
