-- What reading a script and its lines answers.
use Rattle.std.specs.Prelude.{◌≡◌, ℕ, List, map, Option, Some, None, Result, Ok, Err, Vec}
use Rattle.std.specs.declared.alloc.Global.{Global}
use Rattle.std.specs.declared.alloc.AllocError.{AllocError}
use Rattle.hsm_session.specs.declared.lines.Line.{Line}
use Rattle.hsm_session.specs.declared.lines.Line.TheVariants as variant
use Rattle.hsm_session.specs.declared.script.ScriptFault.{ScriptFault}
use Rattle.hsm_session.specs.declared.script.ScriptFault.TheVariants as fault
use Rattle.hsm_session.specs.Scripts.{Said, Nothing, Moment, Piece, Console}

-- what a line says, with its bytes as lists
abbrev pub said_of : Line → Said
said_of variant.Skip = Nothing
said_of (variant.Moment moment) = Moment moment
said_of (variant.Piece lane bytes) = Piece lane bytes.items
said_of (variant.Console text) = Console text.items

-- what these lines say
abbrev pub all_said : List Line → List Said
all_said lines = map said_of lines

-- the text of a line, none, or want of memory
abbrev pub ReadsLine : Option Said → Result (Option Line) AllocError → Type 0
ReadsLine said (Ok (Some line)) = said ≡ Some (said_of line)
ReadsLine said (Ok None) = said ≡ None
ReadsLine said (Err e) = Unit {0}

-- the lines of a script, the first line that does not read, or want of memory
abbrev pub ReadsScript : Result (List Said) ℕ → Result (Vec Line Global) ScriptFault → Type 0
ReadsScript read (Ok lines) = read ≡ Ok (all_said lines.items)
ReadsScript read (Err (fault.Line n)) = read ≡ Err n
ReadsScript read (Err fault.Memory) = Unit {0}
ReadsScript read (Err fault.Out) = ⊥

-- these bytes, none, or want of memory
abbrev pub ReadsBytes : Option (List ℕ) → Result (Option (Vec ℕ Global)) AllocError → Type 0
ReadsBytes bytes (Ok (Some read)) = bytes ≡ Some read.items
ReadsBytes bytes (Ok None) = bytes ≡ None
ReadsBytes bytes (Err e) = Unit {0}
