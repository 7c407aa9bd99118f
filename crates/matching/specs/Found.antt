-- What a match holds.
use Rattle.std.specs.Prelude.{ℕ, List}
use Rattle.matching.specs.declared.matches.Match.{Match}
use Rattle.matching.specs.declared.matches.OperandAt.{OperandAt}

-- its operands with the nodes that they fall on, from the left
abbrev pub operands_found : Match → List OperandAt
operands_found m = m.operands

-- the payloads of its leaves, from the left
abbrev pub payloads_found : Match → List ℕ
payloads_found m = m.payloads
