-- Each refusal's number and place.
use Rattle.std.specs.Prelude.{ℕ}
use Rattle.board.specs.declared.faults.BoardFault.{BoardFault}
use Rattle.board.specs.declared.faults.BoardFault.TheVariants.{UnknownOpcode, OperandLacking, PayloadBarred, TooDeep, NoRoom}
use Rattle.board.specs.declared.faults.RunFault.{RunFault}
use Rattle.board.specs.declared.faults.RunFault.TheVariants.{WrongCount}

abbrev pub board_number : BoardFault → ℕ
board_number (UnknownOpcode n) = 21
board_number (OperandLacking n) = 22
board_number (PayloadBarred n) = 23
board_number (TooDeep n) = 24
board_number (NoRoom n) = 25

-- how many operands wait
abbrev pub board_place : BoardFault → ℕ
board_place (UnknownOpcode n) = n
board_place (OperandLacking n) = n
board_place (PayloadBarred n) = n
board_place (TooDeep n) = n
board_place (NoRoom n) = n

abbrev pub run_number : RunFault → ℕ
run_number (WrongCount n) = 34

-- how many variables there are
abbrev pub run_place : RunFault → ℕ
run_place (WrongCount n) = n
