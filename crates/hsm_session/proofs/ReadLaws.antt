-- What a script that reads says is within its limits.
use Rattle.std.proofs.Common.{◌≡◌, ℕ, zero, suc, slice_index, slice_index_or, ◌^◌, ◌+◌, ◌≤◌, ◌<◌, ◌==◌, ◌&&◌, nat_le, if◌then◌else◌, Bool, true, false, List, [], ◌∷◌, ◌++◌, length, take, drop, sum_by, position, Option, Some, None, Result, Ok, Err, codes, bytes_eq, refl, sym, subst, arith, length-drop}
use Rattle.std.specs.List.{AllByRecursion, list_all}
use Rattle.std.proofs.lemmas.List.Sums.{sum_by-cons}
use Rattle.std.specs.Option.{option_map}
use Rattle.hex.specs.Hex.{decode_of}
use Rattle.hex.specs.declared.error.FromHexError.{FromHexError}
use Rattle.hex.proofs.HexLemmas.{decode_of-ok}
use Rattle.hsm_session.specs.Scripts.{Said, Nothing, Moment, Piece, Console, lines, onto_first_line, is_blank, is_printable, moment_of, console_of, piece_of, piece_at, piece_for_lane, lane_number, not_zero, some_bytes, number_within, line_of, lines_from, with_line, script_of}
use Rattle.hsm_session.specs.Lanes.{AreBytes, BringBytes, IsLine, weight}
use Rattle.hsm_session.specs.Runs.{got}
use Rattle.std.proofs.lemmas.List.Elements.{All-append}
use Rattle.hsm_session.proofs.NumberLaws.{number_below}

-- the lines of a text have no more bytes than the text
first_length : (byte : ℕ) (all : List (List ℕ)) → sum_by length (onto_first_line byte all) ≡ sum_by length all + 1
first_length byte [] = omega arith
first_length byte (line ∷ later) = omega (arith, sum_by-cons length (byte ∷ line) later, sum_by-cons length line later)

lines_length : (text : List ℕ) → sum_by length (lines text) ≤ length text
lines_length [] = omega arith
lines_length (byte ∷ bytes) = go (byte == 10) (lines_length bytes)
  where
    go : (test : Bool) → sum_by length (lines bytes) ≤ length bytes
        → sum_by length (if test then [] ∷ lines bytes else onto_first_line byte (lines bytes)) ≤ length (byte ∷ bytes)
    go true rest = omega (arith, sum_by-cons length [] (lines bytes))
    go false rest = omega (arith, first_length byte (lines bytes))

-- the element at a place is the same whatever stands past the end
default_within : (bytes : List ℕ) (k d : ℕ) → k < length bytes → slice_index bytes k ≡ slice_index_or bytes k d
default_within [] k d within = absurd (omega arith)
default_within (byte ∷ bytes) zero d within = refl
default_within (byte ∷ bytes) (suc k) d within = default_within bytes k d (omega arith)

-- what is within its limits, and has no more weight than so many bytes
abbrev Within : ℕ → ℕ → Said → Type 0
Within hosts size said = IsLine hosts said × (weight said ≤ size)

within_more : (hosts less more : ℕ) (said : Said) → less ≤ more → Within hosts less said → Within hosts more said
within_more hosts less more said le w = (w.0, omega (arith, le, w.1))

moment_within : (hosts : ℕ) (text : List ℕ) (said : Said) → moment_of text ≡ Some said → Within hosts (length text) said
unfolding moment_of
moment_within hosts text said is = go (number_within (2 ^ 40) text) refl is
  where
    go : (number : Option ℕ) → number_within (2 ^ 40) text ≡ number → option_map Moment number ≡ Some said → Within hosts (length text) said
    go None reads is = absurd (cc)
    go (Some moment) reads is =
        let same : Moment moment ≡ said = cc in
        subst (Within hosts (length text)) same (number_below (2 ^ 40) text moment reads, omega arith)

console_within : (hosts : ℕ) (text : List ℕ) (said : Said) → console_of text ≡ Some said → Within hosts (length text) said
unfolding console_of
console_within hosts text said is = go ((nat_le 1 (length text) && nat_le (length text) 1000) && list_all is_printable text) refl is
  where
    go : (test : Bool) → ((nat_le 1 (length text) && nat_le (length text) 1000) && list_all is_printable text) ≡ test
        → (if test then Some (Console text) else None) ≡ Some said → Within hosts (length text) said
    go true holds is =
        let same : Console text ≡ said = cc in
        let least : 1 ≤ length text = grind arith in
        let most : length text ≤ 1000 = grind arith in
        subst (Within hosts (length text)) same ((least, most), least)
    go false holds is = absurd (cc)

bytes_within : (decoded : Result (List ℕ) FromHexError) (bytes : List ℕ) → some_bytes decoded ≡ Some bytes → decoded ≡ Ok bytes
bytes_within (Err e) bytes is = absurd (cc)
bytes_within (Ok []) bytes is = absurd (cc)
bytes_within (Ok (byte ∷ more)) bytes is = cc

lane_within : (hosts : ℕ) (number : Option ℕ) (text : List ℕ) (lane : ℕ) → number_within hosts text ≡ number → not_zero number ≡ Some lane → (1 ≤ lane) × (lane ≤ hosts)
lane_within hosts None text lane reads is = absurd (cc)
lane_within hosts (Some number) text lane reads is = go (number == 0) refl is
  where
    go : (test : Bool) → (number == 0) ≡ test → (if test then None else Some number) ≡ Some lane → (1 ≤ lane) × (lane ≤ hosts)
    go true none is = absurd (cc)
    go false some is =
        let same : number ≡ lane = cc in
        let least : 1 ≤ number = grind arith in
        subst (λ (n : ℕ). (1 ≤ n) × (n ≤ hosts)) same (least, number_below hosts text number reads)

piece_within : (hosts : ℕ) (text : List ℕ) (said : Said) → piece_of hosts text ≡ Some said → Within hosts (length text) said
unfolding piece_of
piece_within hosts text said is = at (position (λ c. c == 32) text) is
  where
    with_bytes : (lane place : ℕ) (bytes : Option (List ℕ)) → (1 ≤ lane) × (lane ≤ hosts) → some_bytes (decode_of (drop (place + 1) text)) ≡ bytes
        → piece_for_lane (Some lane) bytes ≡ Some said → Within hosts (length text) said
    with_bytes lane place None limits reads is = absurd (cc)
    with_bytes lane place (Some bytes) limits reads is =
        let digits = drop (place + 1) text in
        let decoded = bytes_within (decode_of digits) bytes reads in
        let same : Piece lane bytes ≡ said = cc in
        let ok = decode_of-ok digits bytes decoded in
        let are : AreBytes bytes = λ k d within. subst (λ (b : ℕ). b < 2 ^ 8) (default_within bytes k d within) (ok.3 k) in
        subst (Within hosts (length text)) same ((limits.0, limits.1, are), omega (arith, ok.2, length-drop (place + 1) text))

    with_lane : (place : ℕ) (lane : Option ℕ) → lane_number hosts (take place text) ≡ lane
        → piece_for_lane lane (some_bytes (decode_of (drop (place + 1) text))) ≡ Some said → Within hosts (length text) said
    with_lane place None reads is = absurd (cc)
    with_lane place (Some lane) reads is =
        with_bytes lane place (some_bytes (decode_of (drop (place + 1) text))) (lane_within hosts (number_within hosts (take place text)) (take place text) lane refl reads) refl is

    at : (place : Option ℕ) → piece_at hosts text place ≡ Some said → Within hosts (length text) said
    at None is = absurd (cc)
    at (Some place) is = with_lane place (lane_number hosts (take place text)) refl is

-- what a line says that is no console text, that sets no moment, and that is not blank
abbrev after_console : ℕ → List ℕ → Option Said
after_console hosts line = if bytes_eq (take 1 line) (codes "L") then piece_of hosts (drop 1 line) else None

abbrev after_moment : ℕ → List ℕ → Option Said
after_moment hosts line = if bytes_eq (take 2 line) (codes "C ") then console_of (drop 2 line) else after_console hosts line

abbrev after_blank : ℕ → List ℕ → Option Said
after_blank hosts line = if bytes_eq (take 2 line) (codes "T ") then moment_of (drop 2 line) else after_moment hosts line

line_within : (hosts : ℕ) (line : List ℕ) (said : Said) → line_of hosts line ≡ Some said → Within hosts (length line) said
unfolding line_of
line_within hosts line said is = first (is_blank line) is
  where
    shorter : (n : ℕ) → Within hosts (length (drop n line)) said → Within hosts (length line) said
    shorter n w = within_more hosts (length (drop n line)) (length line) said (omega (arith, length-drop n line)) w

    fourth : (test : Bool) → (if test then piece_of hosts (drop 1 line) else None) ≡ Some said → Within hosts (length line) said
    fourth true is = shorter 1 (piece_within hosts (drop 1 line) said is)
    fourth false is = absurd (cc)

    third : (test : Bool) → (if test then console_of (drop 2 line) else after_console hosts line) ≡ Some said → Within hosts (length line) said
    third true is = shorter 2 (console_within hosts (drop 2 line) said is)
    third false is = fourth (bytes_eq (take 1 line) (codes "L")) is

    second : (test : Bool) → (if test then moment_of (drop 2 line) else after_moment hosts line) ≡ Some said → Within hosts (length line) said
    second true is = shorter 2 (moment_within hosts (drop 2 line) said is)
    second false is = third (bytes_eq (take 2 line) (codes "C ")) is

    first : (test : Bool) → (if test then Some Nothing else after_blank hosts line) ≡ Some said → Within hosts (length line) said
    first true is = let same : Nothing ≡ said = cc in subst (Within hosts (length line)) same (tt, omega arith)
    first false is = second (bytes_eq (take 2 line) (codes "T ")) is

-- the lines that read
abbrev AreWithin : ℕ → ℕ → List Said → Type 0
AreWithin hosts size said = AllByRecursion (IsLine hosts) said × (sum_by weight said ≤ size)

with_within : (hosts number size rest : ℕ) (line : Option Said) (later : Result (List Said) ℕ) (said : List Said)
    → ((one : Said) → line ≡ Some one → Within hosts size one) → ((more : List Said) → later ≡ Ok more → AreWithin hosts rest more)
    → with_line number line later ≡ Ok said → AreWithin hosts (size + rest) said
with_within hosts number size rest None later said one more is = absurd (cc)
with_within hosts number size rest (Some first) (Err n) said one more is = absurd (cc)
with_within hosts number size rest (Some first) (Ok others) said one more is =
    let same : first ∷ others ≡ said = cc in
    let a = one first refl in
    let b = more others refl in
    subst (AreWithin hosts (size + rest)) same ((a.0, b.0), omega (arith, sum_by-cons weight first others, a.1, b.1))

lines_within : (hosts number : ℕ) (all : List (List ℕ)) (said : List Said) → lines_from hosts number all ≡ Ok said → AreWithin hosts (sum_by length all) said
lines_within hosts number [] said is = let same : [] ≡ said = cc in subst (AreWithin hosts 0) same (tt, omega arith)
lines_within hosts number (line ∷ later) said is =
    let whole : length line + sum_by length later ≡ sum_by length (line ∷ later) = sym (sum_by-cons length line later) in
    subst (λ (size : ℕ). AreWithin hosts size said) whole
    (with_within hosts number (length line) (sum_by length later) (line_of hosts line) (lines_from hosts (number + 1) later) said
    (λ one reads. line_within hosts line one reads) (λ more reads. lines_within hosts (number + 1) later more reads) is)

-- a script that reads
pub script_within : (hosts : ℕ) (script : List ℕ) (said : List Said) → script_of hosts script ≡ Ok said
    → AllByRecursion (IsLine hosts) said × (sum_by weight said ≤ length script)
unfolding script_of
script_within hosts script said is =
    let w = lines_within hosts 1 (lines script) said is in
    (w.0, omega (arith, w.1, lines_length script))

-- what the lines of a script bring each lane is bytes
pub script_brings : (hosts : ℕ) (said : List Said) → AllByRecursion (IsLine hosts) said → BringBytes said
script_brings hosts [] all = λ lane k d within. absurd (omega arith)
script_brings hosts (Nothing ∷ later) all = script_brings hosts later all.1
script_brings hosts (Moment moment ∷ later) all = script_brings hosts later all.1
script_brings hosts (Piece to bytes ∷ later) all = λ lane. brings lane (to == lane) (script_brings hosts later all.1 lane)
  where
    brings : (lane : ℕ) (test : Bool) → AreBytes (got lane later) → AreBytes ((if test then bytes else []) ++ got lane later)
    brings lane true rest = All-append (λ (b : ℕ). b < 2 ^ 8) bytes (got lane later) all.0.2 rest
    brings lane false rest = rest
script_brings hosts (Console text ∷ later) all = script_brings hosts later all.1
