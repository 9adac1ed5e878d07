-- What reading a file whole gives.
use Rattle.std.specs.Prelude.{◌≡◌, ◌<◌, ◌≤◌, ℕ, List, length, Option, Some, Result, Ok, Err, Vec}
use Rattle.std.specs.declared.alloc.Global.{Global}
use Rattle.hsm_program.specs.declared.reading.ReadingFault.{ReadingFault}
use Rattle.hsm_program.specs.declared.reading.ReadingFault.TheVariants.{Memory, Failed, Long}

-- the most bytes of a file
abbrev pub file_limit : ℕ
file_limit = 16777216

-- what reading a file gives, by its bytes; that reading fails has its cause elsewhere
abbrev pub ReadsFile : List ℕ → Result (Vec ℕ Global) ReadingFault → Type 0
ReadsFile bytes (Ok read) = (read.items ≡ bytes) × (length bytes ≤ file_limit)
ReadsFile bytes (Err Long) = file_limit < length bytes
ReadsFile bytes (Err Failed) = Unit {0}
ReadsFile bytes (Err Memory) = Unit {0}

-- each file is as it was, where told
abbrev pub FilesStay : (List ℕ → Option (List ℕ)) → (List ℕ → Option (List ℕ)) → Type 0
FilesStay before after = (name bytes : List ℕ) → before name ≡ Some bytes → after name ≡ Some bytes
