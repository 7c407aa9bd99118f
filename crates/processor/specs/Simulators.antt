-- What a simulator has come to.
use Rattle.processor.specs.declared.Processor.{Ghosts}
use Rattle.processor.specs.declared.simulation.Simulator.{Simulator}
use Rattle.processor.specs.Simulations.{Running, running}

-- its variables, and its processor's own words
abbrev pub running_of : {P : Type 0} {by : Ghosts P} → Simulator P by → Running
running_of {P} {by} s = running s.setting (by.own s.processor)
