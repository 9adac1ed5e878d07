-- Scripts that are read line by line.
use Rattle.std.proofs.Common.{◌≡◌, ℕ, ◌+◌, List, [], ◌∷◌, ◌++◌, length, Option, Some, None, Result, Ok, Err, refl, sym, ap, ◌∙◌, append-nil, append_assoc, arith}
use Rattle.std.proofs.lemmas.List.{map-append}
use Rattle.hsm_session.specs.declared.lines.Line.{Line}
use Rattle.hsm_session.specs.Scripts.{Said, lines, line_of, lines_from, with_line}
use Rattle.hsm_session.specs.Reading.{all_said, said_of}

-- these lines before those that are read later
abbrev pub after_lines : List Said → Result (List Said) ℕ → Result (List Said) ℕ
after_lines first (Ok later) = Ok (first ++ later)
after_lines first (Err number) = Err number

after_with : (first : List Said) (number : ℕ) (said : Said) (later : Result (List Said) ℕ)
    → after_lines first (with_line number (Some said) later) ≡ after_lines (first ++ said ∷ []) later
after_with first number said (Ok later) = ap (λ (all : List Said). Ok all) (sym (append_assoc first (said ∷ []) later))
after_with first number said (Err n) = refl

pub after_none : (read : Result (List Said) ℕ) → read ≡ after_lines [] read
after_none (Ok lines) = refl
after_none (Err n) = refl

-- one more line
pub read_more : (hosts : ℕ) (read : Result (List Said) ℕ) (first : List Line) (line : Line) (rest text later : List ℕ) (number : ℕ)
    → read ≡ after_lines (all_said first) (lines_from hosts number (lines rest)) → lines rest ≡ text ∷ lines later → line_of hosts text ≡ Some (said_of line)
    → read ≡ after_lines (all_said (first ++ line ∷ [])) (lines_from hosts (number + 1) (lines later))
read_more hosts read first line rest text later number was cut is =
    was
    ∙ ap (λ (all : List (List ℕ)). after_lines (all_said first) (lines_from hosts number all)) cut
    ∙ ap (λ (s : Option Said). after_lines (all_said first) (with_line number s (lines_from hosts (number + 1) (lines later)))) is
    ∙ after_with (all_said first) number (said_of line) (lines_from hosts (number + 1) (lines later))
    ∙ ap (λ (all : List Said). after_lines all (lines_from hosts (number + 1) (lines later))) (sym (map-append said_of first (line ∷ [])))

-- a line that does not read
pub read_refused : (hosts : ℕ) (read : Result (List Said) ℕ) (first : List Line) (rest text later : List ℕ) (number : ℕ)
    → read ≡ after_lines (all_said first) (lines_from hosts number (lines rest)) → lines rest ≡ text ∷ lines later → line_of hosts text ≡ None → read ≡ Err number
read_refused hosts read first rest text later number was cut is =
    was
    ∙ ap (λ (all : List (List ℕ)). after_lines (all_said first) (lines_from hosts number all)) cut
    ∙ ap (λ (s : Option Said). after_lines (all_said first) (with_line number s (lines_from hosts (number + 1) (lines later)))) is

-- no line is left
pub read_all : (hosts : ℕ) (read : Result (List Said) ℕ) (first : List Line) (rest : List ℕ) (number : ℕ)
    → read ≡ after_lines (all_said first) (lines_from hosts number (lines rest)) → length rest ≡ 0 → read ≡ Ok (all_said first)
read_all hosts read first [] number was none = was ∙ ap (λ (all : List Said). Ok all) (append-nil (all_said first))
read_all hosts read first (byte ∷ rest) number was none = absurd (omega arith)
