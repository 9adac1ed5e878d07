-- What was written to a sink, where told: each test says for which lists of bytes the sink stands.
use Rattle.std.specs.Prelude.{◌≡◌, ℕ, List, ◌++◌}

-- For each list that the sink stood for, it stands for that list with the text appended.
abbrev pub Appends : (List ℕ → Type 0) → (List ℕ → Type 0) → List ℕ → Type 0
Appends before after text = (base : List ℕ) → before base → after (base ++ text)

-- For each list that the sink stood for, it still stands for it.
abbrev pub Stays : (List ℕ → Type 0) → (List ℕ → Type 0) → Type 0
Stays before after = (base : List ℕ) → before base → after base

-- A part from the front of the text was appended.
pub record AppendsFront (before after : List ℕ → Type 0) (text : List ℕ) : Type 0 where
  pub front : List ℕ
  pub rest : List ℕ
  pub whole : text ≡ front ++ rest
  pub appended : Appends before after front
