-- The lines of a script's output, and which of them are replies.
use Rattle.std.specs.Prelude.{ℕ, ◌==◌, ◌-◌, ◌^◌, min, Bool, ◌&&◌, ◌||◌, not, List, [], ◌∷◌, length, take, drop, count_by, bytes_eq, codes}
use Rattle.std.specs.List.{slice_split}

-- all parts but the last
abbrev pub all_but_last : List (List ℕ) → List (List ℕ)
all_but_last [] = []
all_but_last (part ∷ []) = []
all_but_last (part ∷ next ∷ later) = part ∷ all_but_last (next ∷ later)

-- the last part
abbrev pub last_part : List (List ℕ) → List ℕ
last_part [] = []
last_part (part ∷ []) = part
last_part (part ∷ next ∷ later) = last_part (next ∷ later)

-- the parts of a text between its bytes 0A
abbrev pub parts : List ℕ → List (List ℕ)
parts text = slice_split (λ byte. byte == 10) text

-- the whole lines of a text, each without the byte 0A that ends it
abbrev pub whole_lines : List ℕ → List (List ℕ)
whole_lines text = all_but_last (parts text)

-- what stands behind the last byte 0A
abbrev pub unfinished_line : List ℕ → List ℕ
unfinished_line text = last_part (parts text)

-- the line begins with a text
abbrev pub begins : List ℕ → List ℕ → Bool
begins line text = bytes_eq (take (length text) line) text

-- A reply of the console or of the first host lane. The output has other lines, as that of its end.
abbrev pub is_reply : List ℕ → Bool
is_reply line = begins line (codes "C") || begins line (codes "L1")

-- A console's reply without an error, or a host's: behind `L1` and a space stands a frame in hexadecimal, whose digits 17
-- to 20, counted from 1, are its error code 00.
abbrev pub is_ok : List ℕ → Bool
is_ok line = begins line (codes "C OK") || (begins line (codes "L1 ") && begins (drop 16 (drop 3 line)) (codes "3030"))

-- a reply with an error
abbrev pub is_other : List ℕ → Bool
is_other line = is_reply line && not (is_ok line)

-- how many whole lines are replies without an error
abbrev pub ok_count : List ℕ → ℕ
ok_count text = count_by is_ok (whole_lines text)

-- how many whole lines are other replies
abbrev pub other_count : List ℕ → ℕ
other_count text = count_by is_other (whole_lines text)

-- a count that stays at its last value
abbrev pub capped : ℕ → ℕ
capped count = min count (2 ^ 64 - 1)
