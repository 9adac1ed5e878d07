-- A made script is read as what it says.
use Rattle.std.proofs.Common.{◌≡◌, ℕ, zero, suc, ◌+◌, ◌/◌, ◌%◌, ◌<◌, ◌≤◌, ◌==◌, ◌∙◌, nat_lt, if◌then◌else◌, Bool, true, false, List, [], ◌∷◌, ◌++◌, length, take, drop, position, flat_map, Option, Some, Result, Ok, codes, refl, sym, ap, ap₂, append_assoc, append-nil, arith, length-drop}
use Rattle.std.specs.Int.{w32, to_be_bytes}
use Rattle.std.specs.List.{AllByRecursion}
use Rattle.hex.specs.Hex.{decode_of}
use Rattle.hsm_nibbles.specs.Characters.{hex_character, hex_of_bytes}
use Rattle.hsm_session.specs.Scripts.{Said, Nothing, Piece, Console, console_of, is_blank, line_of, lines, lines_from, number_within, piece_at, piece_for_lane, piece_of, script_of, some_bytes, with_line}
use Rattle.hsm_make.specs.Numbers.{made_xs}
use Rattle.hsm_make.specs.Messages.{frame_lines, host_frame, host_text, kind_of, made_text, message_lines, piece_line, sealed_key}
use Rattle.law_made_scripts.specs.Said.{frame_said, made_said, message_said}
use Rattle.law_made_scripts.proofs.Bytes.{AreBytes, bytes_drop, bytes_take, frame_bytes, reads_back}

-- no element is a line feed
abbrev IsOneLine : List ℕ → Type 0
IsOneLine text = AllByRecursion (λ c. (c == 10) ≡ false) text

line_first : (text rest : List ℕ) → IsOneLine text → lines (text ++ 10 ∷ rest) ≡ text ∷ lines rest
line_first [] rest one = refl
line_first (c ∷ text) rest one = rw (one.0, line_first text rest one.1) refl

no_feed : (digit : ℕ) → (hex_character digit == 10) ≡ false
no_feed digit = go (nat_lt digit 10)
  where
    go : (test : Bool) → ((if test then 48 + digit else 55 + digit) == 10) ≡ false
    go true = grind arith
    go false = grind arith

hex_line : (bytes : List ℕ) → IsOneLine (hex_of_bytes bytes)
hex_line [] = tt
hex_line (byte ∷ bytes) = (no_feed (byte / 16), (no_feed (byte % 16), hex_line bytes))

-- digits that decode to some bytes are a piece for the first lane
piece_of_digits : (digits bytes : List ℕ) → some_bytes (decode_of digits) ≡ Some bytes → piece_of 1 (codes "1 " ++ digits) ≡ Some (Piece 1 bytes)
unfolding piece_of number_within
piece_of_digits digits bytes reads =
    let text = codes "1 " ++ digits in
    let place : position (λ (c : ℕ). c == 32) text ≡ Some 1 = grind arith in
    ap (λ (at : Option ℕ). piece_at 1 text at) place ∙ ap (λ (b : Option (List ℕ)). piece_for_lane (Some 1) b) reads

lane_line : (digits : List ℕ) → line_of 1 (codes "L1 " ++ digits) ≡ piece_of 1 (codes "1 " ++ digits)
unfolding line_of
lane_line digits =
    let blank : is_blank (codes "L1 " ++ digits) ≡ false = grind arith in
    ap (λ (b : Bool). if b then Some Nothing else piece_of 1 (codes "1 " ++ digits)) blank

-- a piece of at least one byte is read from its line
piece_says : (bytes : List ℕ) → 0 < length bytes → AreBytes bytes → line_of 1 (codes "L1 " ++ hex_of_bytes bytes) ≡ Some (Piece 1 bytes)
piece_says [] some are = absurd (omega (arith, some))
piece_says (byte ∷ bytes) some are =
    let digits = hex_of_bytes (byte ∷ bytes) in
    lane_line digits ∙ piece_of_digits digits (byte ∷ bytes) (ap some_bytes (reads_back (byte ∷ bytes) are))

console_says : line_of 1 (codes "C GC 001 Z") ≡ Some (Console (codes "GC 001 Z"))
unfolding line_of console_of
console_says = refl

-- This text, before any rest, is read as these lines, before what the rest says.
abbrev Says : List ℕ → List Said → Type 0
Says text said =
    (number : ℕ) (rest : List ℕ) (later : List Said) → ((n : ℕ) → lines_from 1 n (lines rest) ≡ Ok later)
    → lines_from 1 number (lines (text ++ rest)) ≡ Ok (said ++ later)

one_line : (text : List ℕ) (said : Said) → IsOneLine text → line_of 1 text ≡ Some said → Says (text ++ 10 ∷ []) (said ∷ [])
one_line text said one says number rest later follows =
    let joined : (text ++ 10 ∷ []) ++ rest ≡ text ++ 10 ∷ rest = append_assoc text (10 ∷ []) rest in
    let cut : lines ((text ++ 10 ∷ []) ++ rest) ≡ text ∷ lines rest = ap lines joined ∙ line_first text rest one in
    ap (lines_from 1 number) cut
    ∙ ap₂ (λ (s : Option Said) (r : Result (List Said) ℕ). with_line number s r) says (follows (number + 1))

two_texts : (first second : List ℕ) (said more : List Said) → Says first said → Says second more → Says (first ++ second) (said ++ more)
two_texts first second said more a b number rest later follows =
    ap (λ (text : List ℕ). lines_from 1 number (lines text)) (append_assoc first second rest)
    ∙ a number (second ++ rest) (more ++ later) (λ n. b n rest later follows) ∙ ap (λ (all : List Said). Ok all) (sym (append_assoc said more later))

piece_line_says : (bytes : List ℕ) → 0 < length bytes → AreBytes bytes → Says (piece_line bytes) (Piece 1 bytes ∷ [])
piece_line_says bytes some are = one_line (codes "L1 " ++ hex_of_bytes bytes) (Piece 1 bytes) (refl, (refl, (refl, hex_line bytes))) (piece_says bytes some are)

frame_lines_say : (first : ℕ) (frame : List ℕ) → 0 < first → first < length frame → AreBytes frame → Says (frame_lines first frame) (frame_said first frame)
frame_lines_say first frame some within are =
    two_texts (piece_line (take first frame)) (piece_line (drop first frame)) (Piece 1 (take first frame) ∷ []) (Piece 1 (drop first frame) ∷ [])
    (piece_line_says (take first frame) (front first frame some within) (bytes_take first frame are))
    (piece_line_says (drop first frame) (omega (arith, within, length-drop first frame)) (bytes_drop first frame are))
  where
    front : (n : ℕ) (xs : List ℕ) → 0 < n → n < length xs → 0 < length (take n xs)
    front zero xs some within = absurd (omega (arith, some))
    front (suc n) [] some within = absurd (omega (arith, within))
    front (suc n) (x ∷ xs) some within = omega arith

host_length : (kind x : ℕ) → 2 ≤ length (host_text kind x)
host_length kind x = go (kind == 0) (kind == 1) (kind == 2)
  where
    go : (a b c : Bool) → 2 ≤ length (if a then codes "B20008" ++ hex_of_bytes (to_be_bytes w32 x) else if b then codes "A00001U"
        else if c then codes "JA12345678901204" else codes "BU010" ++ hex_of_bytes sealed_key)
    go true b c = omega arith
    go false true c = omega arith
    go false false true = omega arith
    go false false false = omega arith

message_says : (x : ℕ) → Says (message_lines x) (message_said x)
unfolding message_lines message_said
message_says x = go (kind_of x == 4)
  where
    go : (test : Bool) → Says (if test then codes "C GC 001 Z\n" else frame_lines (1 + x % 7) (host_frame (kind_of x) x))
        (if test then Console (codes "GC 001 Z") ∷ [] else frame_said (1 + x % 7) (host_frame (kind_of x) x))
    go true = one_line (codes "C GC 001 Z") (Console (codes "GC 001 Z")) (refl, (refl, (refl, (refl, (refl, (refl, (refl, (refl, (refl, (refl, tt)))))))))) console_says
    go false =
        let longer = host_length (kind_of x) x in
        let small : x % 7 < 7 = omega arith in
        frame_lines_say (1 + x % 7) (host_frame (kind_of x) x) (omega arith) (omega (arith, longer, small)) (frame_bytes (kind_of x) x)

all_say : (xs : List ℕ) → Says (flat_map message_lines xs) (flat_map message_said xs)
all_say [] = λ number rest later follows. follows number
all_say (x ∷ xs) = two_texts (message_lines x) (flat_map message_lines xs) (message_said x) (flat_map message_said xs) (message_says x) (all_say xs)

pub made_reads : (count seed : ℕ) → script_of 1 (made_text count seed) ≡ Ok (made_said count seed)
unfolding script_of made_text made_said
made_reads count seed =
    let xs = made_xs count seed in
    let whole = all_say xs 1 [] [] (λ n. refl) in
    sym (ap (λ (text : List ℕ). lines_from 1 1 (lines text)) (append-nil (flat_map message_lines xs))) ∙ whole
    ∙ ap (λ (all : List Said). Ok all) (append-nil (flat_map message_said xs))
