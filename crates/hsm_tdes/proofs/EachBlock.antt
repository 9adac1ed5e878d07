-- A list of blocks of which each is replaced in its place, two at a time.
use Rattle.std.proofs.Common.{◌≡◌, ℕ, ◌+◌, ◌*◌, ◌<◌, ◌≤◌, ◌≢◌, ◌∙◌, List, ◌++◌, length, get_or, map, set, take, drop, sym, ap, ap₂, arith, take_all, append-nil, length-append, length-take, length-drop}
use Rattle.std.proofs.lemmas.List.{drop_all, get_or-set_other, length-map}
use Rattle.std.proofs.lemmas.List.Edits.{map_over_more}
use Rattle.std.proofs.lemmas.Option.{get_or_from_slice_get, slice_get-get_or}

-- the list with its first k elements replaced
abbrev pub replaced : (ℕ → ℕ) → ℕ → List ℕ → List ℕ
replaced f k xs = map f (take k xs) ++ drop k xs

length-replaced : (f : ℕ → ℕ) (k : ℕ) (xs : List ℕ) → length (replaced f k xs) ≡ length xs
length-replaced f k xs = simp (length-append, length-map, length-take, length-drop) (omega arith)

-- an element there is found whatever stands for one past the end
found : (xs : List ℕ) (i : ℕ) → i < length xs → get_or xs i 0 ≡ get_or xs i (get_or xs i 0)
found xs i there = sym (get_or_from_slice_get xs i (get_or xs i 0) (get_or xs i 0) (slice_get-get_or xs i 0 there))

pub two_more : (f : ℕ → ℕ) (xs ys : List ℕ) (i a b : ℕ) → 2 * i + 1 < length xs → ys ≡ replaced f (2 * i) xs
    → a ≡ f (get_or ys (2 * i) 0) → b ≡ f (get_or ys (2 * i + 1) 0) → set (set ys (2 * i) a) (2 * i + 1) b ≡ replaced f (2 * (i + 1)) xs
two_more f xs ys i a b room so_far first second =
    let k = 2 * i in
    let len : length ys ≡ length xs = ap length so_far ∙ length-replaced f k xs in
    let x = get_or ys k 0 in
    let y = get_or ys (k + 1) 0 in
    let other : k + 1 ≢ k = omega arith in
    let next : k + 1 + 1 ≡ 2 * (i + 1) = omega arith in
    let one = map_over_more f xs ys k x (omega arith) so_far (found ys k (omega (arith, len))) in
    let two = map_over_more f xs (set ys k (f x)) (k + 1) y room one (found ys (k + 1) (omega (arith, len)) ∙ sym (get_or-set_other ys k (k + 1) (f x) y other)) in
    ap₂ (λ (p q : ℕ). set (set ys k p) (k + 1) q) first second ∙ two ∙ ap (λ (n : ℕ). replaced f n xs) next

pub last_one : (f : ℕ → ℕ) (xs ys : List ℕ) (k a : ℕ) → k + 1 ≡ length xs → ys ≡ replaced f k xs → a ≡ f (get_or ys k 0) → set ys k a ≡ map f xs
last_one f xs ys k a end so_far last =
    let len : length ys ≡ length xs = ap length so_far ∙ length-replaced f k xs in
    let there : k < length ys = omega (arith, len, end) in
    let most : length xs ≤ k + 1 = omega (arith, end) in
    ap (set ys k) last
    ∙ map_over_more f xs ys k (get_or ys k 0) (omega (arith, end)) so_far (found ys k there)
    ∙ ap₂ (λ (front rest : List ℕ). map f front ++ rest) (take_all (k + 1) xs most) (drop_all (k + 1) xs most)
    ∙ append-nil (map f xs)
