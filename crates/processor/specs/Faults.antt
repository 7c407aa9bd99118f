-- Each refusal's number and place.
use Rattle.std.specs.Prelude.{ℕ}
use Rattle.processor.specs.declared.faults.SimulatorFault.{SimulatorFault}
use Rattle.processor.specs.declared.faults.SimulatorFault.TheVariants.{WrongCount, UnknownOpcode, Misplaced, PayloadBarred}

abbrev pub simulator_number : SimulatorFault → ℕ
simulator_number (WrongCount n) = 34
simulator_number (UnknownOpcode i) = 31
simulator_number (Misplaced i) = 32
simulator_number (PayloadBarred i) = 33

-- how many variables there are, or the index of the instruction's first word
abbrev pub simulator_place : SimulatorFault → ℕ
simulator_place (WrongCount n) = n
simulator_place (UnknownOpcode i) = i
simulator_place (Misplaced i) = i
simulator_place (PayloadBarred i) = i
