-- Defines the lines of the commands.
use Rattle.std.specs.Prelude.{◌∷◌, ℕ, List, [], Option, codes, find}
use Rattle.std.specs.Str.{bytes_eq}
use Rattle.day_control.specs.declared.command.ControlCommand.{ControlCommand}
use Rattle.day_control.specs.declared.command.ControlCommand.TheVariants.{Status, End}

-- the line of a command, without its line feed
abbrev pub command_name : ControlCommand → List ℕ
command_name Status = codes "status"
command_name End = codes "end"

-- the command of a line, without its line feed
abbrev pub command_of : List ℕ → Option ControlCommand
command_of line = find (λ command. bytes_eq line (command_name command)) (Status ∷ End ∷ [])
