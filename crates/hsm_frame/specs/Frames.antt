-- Length framing: a message on a stream is its length in two bytes, high byte first, and its bytes.
use Rattle.std.specs.Prelude.{◌≡◌, ℕ, ◌+◌, ◌*◌, ◌^◌, ◌<◌, ◌≤◌, List, [], ◌∷◌, ◌++◌, length, flat_map}
use Rattle.std.specs.Int.{w16, to_be_bytes}
use Rattle.std.specs.List.{AllByRecursion}

-- a message behind its length in two bytes, high byte first
abbrev pub frame : List ℕ → List ℕ
frame message = to_be_bytes w16 (length message) ++ message

-- a message of at least so many bytes, whose length two bytes can name
abbrev pub IsMessage : ℕ → List ℕ → Type 0
IsMessage least message = (least ≤ length message) × (length message < 2 ^ 16)

-- less than a frame and not nothing: one byte, or two bytes that name a length and fewer bytes than that
abbrev pub IsPart : ℕ → List ℕ → Type 0
IsPart least [] = ⊥
IsPart least (high ∷ []) = Unit {0}
IsPart least (high ∷ low ∷ rest) = (least ≤ 256 * high + low) × (length rest < 256 * high + low)

-- two bytes that name n, which is below the least
abbrev pub IsShort : ℕ → ℕ → List ℕ → Type 0
IsShort least n [] = ⊥
IsShort least n (high ∷ []) = ⊥
IsShort least n (high ∷ low ∷ rest) = (n ≡ 256 * high + low) × (n < least)

-- how a stream ends: with a whole message, within a frame, or at a length below the least
pub data StreamEnd : Type 0 where
  Whole : StreamEnd
  Part : StreamEnd
  Short : ℕ → StreamEnd

-- a tail that ends a stream so
abbrev pub IsTail : ℕ → StreamEnd → List ℕ → Type 0
IsTail least Whole tail = tail ≡ []
IsTail least Part tail = IsPart least tail
IsTail least (Short n) tail = IsShort least n tail

-- The bytes are the messages framed, one after another, and a tail. Nothing is said of pieces or of a buffer.
pub record Frames (least : ℕ) (bytes : List ℕ) (messages : List (List ℕ)) (end : StreamEnd) : Type 0 where
  pub tail : List ℕ
  pub whole : bytes ≡ flat_map frame messages ++ tail
  pub each : AllByRecursion (IsMessage least) messages
  pub ends : IsTail least end tail
