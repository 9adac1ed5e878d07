-- What a script says: its lines, and what each of them says.
use Rattle.std.specs.Prelude.{ℕ, ◌+◌, ◌^◌, ◌==◌, ◌||◌, ◌&&◌, not, nat_le, Bool, List, [], ◌∷◌, length, take, drop, position, if◌then◌else◌, Option, Some, None, Result, Ok, Err, codes, bytes_eq}
use Rattle.std.specs.List.{list_all}
use Rattle.std.specs.Char.{is_ascii_digit}
use Rattle.std.specs.Option.{option_map}
use Rattle.hex.specs.Hex.{decode_of}
use Rattle.hex.specs.declared.error.FromHexError.{FromHexError}
use Rattle.hsm_rows.specs.Forms.{decimal_from}

-- what a line says: nothing, the moment from here on, a piece of the stream of the host lane of this number, or the text of a console message
pub data Said : Type 0 where
  Nothing : Said
  Moment : ℕ → Said
  Piece : ℕ → List ℕ → Said
  Console : List ℕ → Said

-- a byte before the first of these lines
abbrev pub onto_first_line : ℕ → List (List ℕ) → List (List ℕ)
onto_first_line byte [] = (byte ∷ []) ∷ []
onto_first_line byte (line ∷ later) = (byte ∷ line) ∷ later

-- the lines of a text, each ended by a line feed, which the last may lack
abbrev pub lines : List ℕ → List (List ℕ)
lines [] = []
lines (byte ∷ bytes) = if byte == 10 then [] ∷ lines bytes else onto_first_line byte (lines bytes)

-- whether a text is a decimal number without leading zeros
abbrev pub is_number : List ℕ → Bool
is_number text = bytes_eq text (codes "0") || ((nat_le 1 (length text) && list_all is_ascii_digit text) && not (bytes_eq (take 1 text) (codes "0")))

-- the decimal number of at most so much, without leading zeros, that a text is
unfoldable pub number_within : ℕ → List ℕ → Option ℕ
number_within most text = if is_number text && nat_le (decimal_from 0 text) most then Some (decimal_from 0 text) else None

-- bytes of which there is at least one
abbrev pub some_bytes : Result (List ℕ) FromHexError → Option (List ℕ)
some_bytes (Err e) = None
some_bytes (Ok []) = None
some_bytes (Ok (byte ∷ bytes)) = Some (byte ∷ bytes)

-- a number that is not 0
abbrev pub not_zero : Option ℕ → Option ℕ
not_zero None = None
not_zero (Some number) = if number == 0 then None else Some number

-- the number of a host lane, of which there are so many, counted from 1
abbrev pub lane_number : ℕ → List ℕ → Option ℕ
lane_number hosts text = not_zero (number_within hosts text)

-- the piece for a lane
abbrev pub piece_for_lane : Option ℕ → Option (List ℕ) → Option Said
piece_for_lane None bytes = None
piece_for_lane (Some lane) None = None
piece_for_lane (Some lane) (Some bytes) = Some (Piece lane bytes)

-- what stands before the space at a place is the number of a lane, what follows it at least one pair of hexadecimal digits
abbrev pub piece_at : ℕ → List ℕ → Option ℕ → Option Said
piece_at hosts text None = None
piece_at hosts text (Some at) = piece_for_lane (lane_number hosts (take at text)) (some_bytes (decode_of (drop (at + 1) text)))

-- the piece of a line, of which this follows the `L`: the number of a lane, a space, and at least one pair of hexadecimal digits
unfoldable pub piece_of : ℕ → List ℕ → Option Said
piece_of hosts text = piece_at hosts text (position (λ c. c == 32) text)

-- a character from the space to the tilde
abbrev pub is_printable : ℕ → Bool
is_printable c = nat_le 32 c && nat_le c 126

-- a console text: 1 to 1,000 such characters
unfoldable pub console_of : List ℕ → Option Said
console_of text = if (nat_le 1 (length text) && nat_le (length text) 1000) && list_all is_printable text then Some (Console text) else None

-- a moment, in seconds
unfoldable pub moment_of : List ℕ → Option Said
moment_of text = option_map Moment (number_within (2 ^ 40) text)

-- whether a line says nothing: an empty one, and a remark
abbrev pub is_blank : List ℕ → Bool
is_blank line = length line == 0 || bytes_eq (take 1 line) (codes "#")

-- What a line says to a module with so many host lanes, if it reads.
unfoldable pub line_of : ℕ → List ℕ → Option Said
line_of hosts line =
    if is_blank line then Some Nothing
    else if bytes_eq (take 2 line) (codes "T ") then moment_of (drop 2 line)
    else if bytes_eq (take 2 line) (codes "C ") then console_of (drop 2 line)
    else if bytes_eq (take 1 line) (codes "L") then piece_of hosts (drop 1 line)
    else None

-- what a line says before what the later lines say, or the number of the first line that does not read
abbrev pub with_line : ℕ → Option Said → Result (List Said) ℕ → Result (List Said) ℕ
with_line number None later = Err number
with_line number (Some said) (Err n) = Err n
with_line number (Some said) (Ok later) = Ok (said ∷ later)

-- what these lines say, of which the first has this number
abbrev pub lines_from : ℕ → ℕ → List (List ℕ) → Result (List Said) ℕ
lines_from hosts number [] = Ok []
lines_from hosts number (line ∷ later) = with_line number (line_of hosts line) (lines_from hosts (number + 1) later)

-- What the lines of a script say to a module with so many host lanes, or the number of the first line that does not read. Lines are counted from 1.
unfoldable pub script_of : ℕ → List ℕ → Result (List Said) ℕ
script_of hosts script = lines_from hosts 1 (lines script)
