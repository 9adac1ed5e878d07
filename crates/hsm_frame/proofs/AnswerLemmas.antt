-- What `next` leaves, over plain lists.
use Rattle.std.proofs.Common.{◌≡◌, ℕ, ◌+◌, ◌-◌, ◌^◌, ◌<◌, ◌≤◌, ◌∙◌, ◌++◌, List, length, take, drop, sym, ap, ap₂, subst, arith, w16, length-drop, length-take, take-append-drop, drop-drop}
use Rattle.std.specs.Int.{to_be_bytes}
use Rattle.hsm_frame.specs.Frames.{IsMessage, IsShort, frame}
use Rattle.hsm_frame.specs.Calls.{Held, IsNotYet}

-- what was held begins with a whole frame
whole_frame : (items : List ℕ) (start n : ℕ) (message : List ℕ)
    → n + 2 ≤ length (drop start items) → drop start items ≡ to_be_bytes w16 n ++ drop 2 (drop start items)
    → message ≡ take n (drop (start + 2) items)
    → (length message ≡ n) × (drop start items ≡ frame message ++ drop (start + 2 + n) items)
whole_frame items start n message long begins read =
    let room : n + 2 ≤ length items - start = omega (arith, length-drop start items) in
    let len : length message ≡ n = ap length read ∙ simp (length-take, length-drop) (omega arith) in
    let rest : drop 2 (drop start items) ≡ message ++ drop (start + 2 + n) items =
    drop-drop 2 start items ∙ sym (take-append-drop n (drop (start + 2) items))
    ∙ ap₂ (λ (a b : List ℕ). a ++ b) (sym read) (drop-drop n (start + 2) items) in (
      len,
      begins ∙ ap (λ (bs : List ℕ). to_be_bytes w16 n ++ bs) rest
          ∙ ap (λ (k : ℕ). to_be_bytes w16 k ++ (message ++ drop (start + 2 + n) items)) (sym len),
    )

pub message_answer : (old : Held) (items : List ℕ) (start least n : ℕ) (message : List ℕ)
    → record { least = least; bytes = drop start items } ≡ old → least ≤ n → n < 2 ^ 16
    → n + 2 ≤ length (drop start items) → drop start items ≡ to_be_bytes w16 n ++ drop 2 (drop start items)
    → message ≡ take n (drop (start + 2) items) → (next : ℕ) → next ≡ start + 2 + n
    → IsMessage old.least message × (old.bytes ≡ frame message ++ drop next items) × (least ≡ old.least)
message_answer old items start least n message was enough fits long begins read next place =
    let found = whole_frame items start n message long begins read in
    let same_least : least ≡ old.least = ap (λ (h : Held). h.least) was in
    let same_bytes : drop start items ≡ old.bytes = ap (λ (h : Held). h.bytes) was in
    ((omega (arith, found.0), omega (arith, found.0)), sym same_bytes ∙ found.1 ∙ ap (λ (k : ℕ). frame message ++ drop k items) (sym place), same_least)

pub short_answer : (old : Held) (held : List ℕ) (least n m : ℕ) → m ≡ n
    → record { least = least; bytes = held } ≡ old → IsShort least n held
    → IsShort old.least m old.bytes × (record { least = least; bytes = held } ≡ old)
short_answer old held least n m same was short =
    let P : Held → Type 0 = λ h. IsShort h.least m h.bytes in
    let Q : ℕ → Type 0 = λ k. IsShort least k held in
    (subst P was (subst Q (sym same) short), was)

pub not_yet_answer : (old : Held) (held : List ℕ) (least : ℕ)
    → record { least = least; bytes = held } ≡ old → IsNotYet least held → length held < 65537
    → IsNotYet old.least old.bytes × (length old.bytes < 65537) × (record { least = least; bytes = held } ≡ old)
not_yet_answer old held least was waits room =
    let P : Held → Type 0 = λ h. IsNotYet h.least h.bytes × (length h.bytes < 65537) in
    let moved = subst P was (waits, room) in
    (moved.0, moved.1, was)
