-- Readings of streams, and of what follows them.
use Rattle.std.proofs.Common.{◌≡◌, ℕ, zero, suc, ◌<◌, ◌^◌, List, [], ◌∷◌, ◌++◌, length, slice_index_or, flat_map, sym, ap, ◌∙◌, append_assoc, arith}
use Rattle.std.specs.List.{AllByRecursion}
use Rattle.std.proofs.lemmas.Grind.{flat_map-append}
use Rattle.hsm_frame.specs.Frames.{Frames, StreamEnd, frame, IsMessage}
use Rattle.hsm_session.specs.Lanes.{AreBytes}
use Rattle.hsm_session.proofs.Answering.{each_append}

pub bytes_right : (first second : List ℕ) → AreBytes (first ++ second) → AreBytes second
bytes_right [] second all = all
bytes_right (byte ∷ first) second all = bytes_right first second (λ k d within. all (suc k) d (omega arith))

pub bytes_left : (first second : List ℕ) → AreBytes (first ++ second) → AreBytes first
bytes_left [] second all = λ k d within. absurd (omega arith)
bytes_left (byte ∷ first) second all = go (bytes_left first second (λ j e inside. all (suc j) e (omega arith)))
  where
    go : AreBytes first → (k : ℕ) (d : ℕ) → k < length (byte ∷ first) → slice_index_or (byte ∷ first) k d < 2 ^ 8
    go rest zero d within = all 0 d (omega arith)
    go rest (suc k) d within = rest k d (omega arith)

-- a part that follows a stream makes messages of what was held
pub parts_joined : (fed held part left : List ℕ) (messages more : List (List ℕ)) → fed ≡ flat_map frame messages ++ held
    → held ++ part ≡ flat_map frame more ++ left → fed ++ part ≡ flat_map frame (messages ++ more) ++ left
parts_joined fed held part left messages more whole split =
    ap (λ (front : List ℕ). front ++ part) whole
    ∙ append_assoc (flat_map frame messages) held part
    ∙ ap (λ (rest : List ℕ). flat_map frame messages ++ rest) split
    ∙ sym (append_assoc (flat_map frame messages) (flat_map frame more) left)
    ∙ ap (λ (front : List ℕ). front ++ left) (sym (flat_map-append frame messages more))

-- messages, and a reading of what follows them
pub frames_after : (least : ℕ) (bytes left : List ℕ) (messages others : List (List ℕ)) (end : StreamEnd)
    → bytes ≡ flat_map frame messages ++ left → AllByRecursion (IsMessage least) messages → Frames least left others end → Frames least bytes (messages ++ others) end
frames_after least bytes left messages others end whole each f = record {
  tail = f.tail;
  whole =
      whole
      ∙ ap (λ (rest : List ℕ). flat_map frame messages ++ rest) f.whole
      ∙ sym (append_assoc (flat_map frame messages) (flat_map frame others) f.tail)
      ∙ ap (λ (front : List ℕ). front ++ f.tail) (sym (flat_map-append frame messages others));
  each = each_append least messages others each f.each;
  ends = f.ends;
}

-- a stream and what follows it
pub frames_more : (least : ℕ) (fed piece : List ℕ) (messages others : List (List ℕ)) (before after : StreamEnd)
    → (f : Frames least fed messages before) → Frames least (f.tail ++ piece) others after → Frames least (fed ++ piece) (messages ++ others) after
frames_more least fed piece messages others before after f g =
    frames_after least (fed ++ piece) (f.tail ++ piece) messages others after
    (ap (λ (front : List ℕ). front ++ piece) f.whole ∙ append_assoc (flat_map frame messages) f.tail piece) f.each g
