use Rattle.std.proofs.Common.{◌≡◌, ◌-◌, ◌≤◌, length}
use Rattle.processor.specs.Simulations.{simulated, from_start}
use Rattle.processor.specs.Simulators.{running_of}
use Rattle.processor.proofs.simulation.simulate.Given as goal

abbrev pub invariant-loop-rest : goal.invariant-loop-rest
invariant-loop-rest g l =
    (simulated g.P.Processor.design 0 l.words (from_start g.P.Processor.design l.variables) ≡ simulated g.P.Processor.design (length l.words - length l.rest) l.rest (running_of l.simulator))
    × (length l.rest ≤ length l.words)

abbrev pub decreases-loop-rest : goal.decreases-loop-rest
decreases-loop-rest g l = length l.rest
