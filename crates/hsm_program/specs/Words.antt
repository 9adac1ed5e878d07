-- The words of the command line.
use Rattle.std.specs.Prelude.{◌≡◌, ℕ, ◌<◌, List, [], ◌∷◌, length, map, Bool, false, not, ◌==◌, if◌then◌else◌, slice_index_or, String, string_bytes, Option, Some, None, Result, Ok, Err, codes, bytes_eq}
use Rattle.std.specs.declared.alloc.Global.{Global}
use Rattle.hsm_rows.specs.Table.{RowShape, shape_of, row_with, host_rows, IsHostRow}
use Rattle.hsm_program.specs.declared.command.Command.{Command}
use Rattle.hsm_session.specs.Scripts.{not_zero, number_within}
use Rattle.hsm_program.specs.declared.command.Command.TheVariants.{Serve, Script, Check, Explain, Make}
use Rattle.hsm_program.specs.declared.command.WordsFault.{WordsFault}
use Rattle.hsm_program.specs.declared.command.WordsFault.TheVariants.{Usage}

-- the words as lists of bytes
abbrev pub names : List (String Global) → List (List ℕ)
names words = map (λ word. string_bytes word) words

-- What the words ask for: the place of the first word that no command allows, the name of a configuration to serve, the names of a configuration and of a
-- script's file, the name of a configuration to check, a row to print, or a script to make and run, by its number of messages and its seed.
pub data Asked : Type 0 where
  usage : (place : ℕ) → Asked
  serve : (config : List ℕ) → Asked
  script : (config file : List ℕ) → Asked
  check : (config : List ℕ) → Asked
  explain : (row : RowShape) → Asked
  make : (count seed : ℕ) → Asked

-- a word that names a file is not empty and does not begin with a dash
abbrev pub is_file_word : List ℕ → Bool
is_file_word [] = false
is_file_word (byte ∷ bytes) = not (byte == 45)

-- nothing follows, or the word at this place is not allowed
abbrev pub asked_end : Asked → ℕ → List (List ℕ) → Asked
asked_end what place [] = what
asked_end what place (word ∷ rest) = usage place

-- the file of the script
abbrev pub asked_file : List ℕ → List (List ℕ) → Asked
asked_file config [] = usage 2
asked_file config (word ∷ rest) = if is_file_word word then asked_end (script config word) 3 rest else usage 2

-- the configuration of the script
abbrev pub asked_script : List (List ℕ) → Asked
asked_script [] = usage 1
asked_script (word ∷ rest) = if is_file_word word then asked_file word rest else usage 1

-- the configuration to serve
abbrev pub asked_serve : List (List ℕ) → Asked
asked_serve [] = usage 1
asked_serve (word ∷ rest) = if is_file_word word then asked_end (serve word) 2 rest else usage 1

-- the configuration to check
abbrev pub asked_check : List (List ℕ) → Asked
asked_check [] = usage 1
asked_check (word ∷ rest) = if is_file_word word then asked_end (check word) 2 rest else usage 1

abbrev pub asked_found : Option RowShape → List (List ℕ) → Asked
asked_found None rest = usage 1
asked_found (Some row) rest = asked_end (explain row) 2 rest

-- the code of a host row
abbrev pub asked_code : List (List ℕ) → Asked
asked_code [] = usage 1
asked_code (word ∷ rest) = asked_found (row_with word host_rows) rest

abbrev pub asked_seeded : ℕ → Option ℕ → List (List ℕ) → Asked
asked_seeded count None rest = usage 2
asked_seeded count (Some seed) rest = asked_end (make count seed) 3 rest

-- the seed of a made script, 0 to 4,294,967,295
abbrev pub asked_seed : ℕ → List (List ℕ) → Asked
asked_seed count [] = usage 2
asked_seed count (word ∷ rest) = asked_seeded count (number_within 4294967295 word) rest

abbrev pub asked_counted : Option ℕ → List (List ℕ) → Asked
asked_counted None rest = usage 1
asked_counted (Some count) rest = asked_seed count rest

-- the number of messages of a made script, 1 to 50,000; neither number has a sign or a leading zero
abbrev pub asked_make : List (List ℕ) → Asked
asked_make [] = usage 1
asked_make (word ∷ rest) = asked_counted (not_zero (number_within 50000 word)) rest

-- what the words ask for
abbrev pub asked : List (List ℕ) → Asked
asked [] = usage 0
asked (word ∷ rest) =
    if bytes_eq word (codes "serve") then asked_serve rest
    else if bytes_eq word (codes "script") then asked_script rest
    else if bytes_eq word (codes "check") then asked_check rest
    else if bytes_eq word (codes "explain") then asked_code rest
    else if bytes_eq word (codes "make") then asked_make rest
    else usage 0

abbrev pub word_at : List (List ℕ) → ℕ → List ℕ
word_at words i = slice_index_or words i []

-- The command of the words, with the places of the words that name its files, or the place of the word that none allows.
abbrev pub ReadsWords : List (List ℕ) → Result Command WordsFault → Type 0
ReadsWords words (Ok (Script config file)) =
    (config ≡ 1) × (file ≡ 2) × (2 < length words) × (asked words ≡ script (word_at words config) (word_at words file))
ReadsWords words (Ok (Serve config)) = (config ≡ 1) × (1 < length words) × (asked words ≡ serve (word_at words config))
ReadsWords words (Ok (Check config)) = (config ≡ 1) × (1 < length words) × (asked words ≡ check (word_at words config))
ReadsWords words (Ok (Explain row)) = IsHostRow (shape_of row.now) × (asked words ≡ explain (shape_of row.now))
ReadsWords words (Ok (Make count seed)) = asked words ≡ make count seed
ReadsWords words (Err (Usage place)) = asked words ≡ usage place

-- The same of the words after the first one.
abbrev pub ReadsRest : (List (List ℕ) → Asked) → List (List ℕ) → Result Command WordsFault → Type 0
ReadsRest ask words (Ok (Script config file)) = (config ≡ 1) × (file ≡ 2) × (1 < length words) × (ask words ≡ script (word_at words 0) (word_at words 1))
ReadsRest ask words (Ok (Serve config)) = (config ≡ 1) × (0 < length words) × (ask words ≡ serve (word_at words 0))
ReadsRest ask words (Ok (Check config)) = (config ≡ 1) × (0 < length words) × (ask words ≡ check (word_at words 0))
ReadsRest ask words (Ok (Explain row)) = IsHostRow (shape_of row.now) × (ask words ≡ explain (shape_of row.now))
ReadsRest ask words (Ok (Make count seed)) = ask words ≡ make count seed
ReadsRest ask words (Err (Usage place)) = ask words ≡ usage place

-- a command that is not `serve`
abbrev pub IsLocal : Command → Type 0
IsLocal (Serve config) = ⊥
IsLocal (Script config file) = Unit {0}
IsLocal (Check config) = Unit {0}
IsLocal (Explain row) = Unit {0}
IsLocal (Make count seed) = Unit {0}
