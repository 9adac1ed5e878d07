-- Lists of blocks of which each is replaced, in its place, by what it becomes.
use Rattle.std.proofs.Common.{◌≡◌, ℕ, suc, ◌+◌, ◌*◌, ◌<◌, ◌≤◌, ◌≢◌, ◌∙◌, List, [], ◌∷◌, ◌++◌, length, get_or, map, set, take, drop, bit_xor, refl, sym, ap, ap₂, subst, arith, take_all, append-nil, append_assoc, length-take, length-append, length-drop}
use Rattle.std.proofs.lemmas.List.{take_more, drop_more, drop_all, set_at, get_or_at, get_or-set_other}
use Rattle.hsm_tdes.specs.Tdes.{enciphered, deciphered}
use Rattle.hsm_modes.specs.declared.Mode.{Mode}
use Rattle.hsm_modes.specs.declared.Mode.TheVariants.{Ecb, Cbc}
use Rattle.hsm_modes.specs.declared.Dir.{Dir}
use Rattle.hsm_modes.specs.declared.Dir.TheVariants.{Encrypt, Decrypt}
use Rattle.hsm_modes.specs.Modes.{State, all_made, after, in_cbc, made, next, secret_blocks, clear_blocks}
use Rattle.hsm_modes.proofs.ModeLaws.{state, all_made-append, after-append, block_by_block}

-- the list whose first k blocks are replaced
abbrev pub replaced : State → ℕ → List ℕ → List ℕ
replaced s k xs = all_made s (take k xs) ++ drop k xs

made_count : (s : State) (xs : List ℕ) → length (all_made s xs) ≡ length xs
made_count s [] = refl
made_count s (x ∷ xs) = ap suc (made_count (next s x) xs)

made_first : (s : State) (k : ℕ) (xs : List ℕ) → k < length xs → length (all_made s (take k xs)) ≡ k
made_first s k xs there = made_count s (take k xs) ∙ omega (arith, length-take k xs)

pub length-replaced : (s : State) (k : ℕ) (xs : List ℕ) → length (replaced s k xs) ≡ length xs
length-replaced s k xs = length-append (all_made s (take k xs)) (drop k xs) ∙ omega (arith, made_count s (take k xs), length-take k xs, length-drop k xs)

-- the list at its next block
at_block : (s : State) (xs ys : List ℕ) (k : ℕ) → k < length xs → ys ≡ replaced s k xs → ys ≡ all_made s (take k xs) ++ get_or xs k 0 ∷ drop (k + 1) xs
at_block s xs ys k there so_far = so_far ∙ ap (λ (rest : List ℕ). all_made s (take k xs) ++ rest) (drop_more xs k 0 there)

-- a block that is still to come stands as it was
pub unread : (s : State) (xs ys : List ℕ) (k : ℕ) → k < length xs → ys ≡ replaced s k xs → get_or ys k 0 ≡ get_or xs k 0
unread s xs ys k there so_far =
    ap (λ (zs : List ℕ). get_or zs k 0) (at_block s xs ys k there so_far)
    ∙ get_or_at (all_made s (take k xs)) (get_or xs k 0) (drop (k + 1) xs) 0 k (made_first s k xs there)

-- one more of them replaced
pub put_more : (s : State) (xs ys : List ℕ) (k : ℕ) → k < length xs → ys ≡ replaced s k xs
    → set ys k (made (after s (take k xs)) (get_or xs k 0)) ≡ replaced s (k + 1) xs
put_more s xs ys k there so_far =
    let front = all_made s (take k xs) in
    let x = get_or xs k 0 in
    let v = made (after s (take k xs)) x in
    ap (λ (zs : List ℕ). set zs k v) (at_block s xs ys k there so_far)
    ∙ set_at front x (drop (k + 1) xs) v k (made_first s k xs there)
    ∙ sym (append_assoc front (v ∷ []) (drop (k + 1) xs))
    ∙ ap (λ (zs : List ℕ). zs ++ drop (k + 1) xs) (sym (ap (all_made s) (take_more xs k 0 there) ∙ all_made-append s (take k xs) (x ∷ [])))

-- the state after one more
pub after_more : (s : State) (xs : List ℕ) (k : ℕ) → k < length xs → after s (take (k + 1) xs) ≡ next (after s (take k xs)) (get_or xs k 0)
after_more s xs k there = ap (after s) (take_more xs k 0 there) ∙ after-append s (take k xs) (get_or xs k 0 ∷ [])

-- all of them replaced
pub put_all : (s : State) (xs ys : List ℕ) (k : ℕ) → length xs ≤ k → ys ≡ replaced s k xs → ys ≡ all_made s xs
put_all s xs ys k most so_far =
    so_far ∙ ap₂ (λ (front rest : List ℕ). all_made s front ++ rest) (take_all k xs most) (drop_all k xs most) ∙ append-nil (all_made s xs)

-- ---- CBC: key and direction stay

cbc_after : (key : List (List ℕ)) (dir : Dir) (chain : ℕ) (xs : List ℕ) → after (in_cbc key dir chain) xs ≡ in_cbc key dir (after (in_cbc key dir chain) xs).chain
cbc_after key dir chain [] = refl
cbc_after key Encrypt chain (x ∷ xs) = cbc_after key Encrypt (enciphered key (bit_xor x chain)) xs
cbc_after key Decrypt chain (x ∷ xs) = cbc_after key Decrypt x xs

-- the state, from its chaining value
there_is : (key : List (List ℕ)) (dir : Dir) (chain before : ℕ) (xs : List ℕ) → before ≡ (after (in_cbc key dir chain) xs).chain
    → after (in_cbc key dir chain) xs ≡ in_cbc key dir before
there_is key dir chain before xs is = cbc_after key dir chain xs ∙ ap (in_cbc key dir) (sym is)

pub cbc_more : (key : List (List ℕ)) (dir : Dir) (chain before : ℕ) (xs ys : List ℕ) (k v : ℕ) → k < length xs
    → ys ≡ replaced (in_cbc key dir chain) k xs → before ≡ (after (in_cbc key dir chain) (take k xs)).chain
    → v ≡ made (in_cbc key dir before) (get_or ys k 0)
    → set ys k v ≡ replaced (in_cbc key dir chain) (k + 1) xs
cbc_more key dir chain before xs ys k v there so_far is value =
    let s = in_cbc key dir chain in
    let same : v ≡ made (after s (take k xs)) (get_or xs k 0) =
    value ∙ ap₂ (λ (t : State) (x : ℕ). made t x) (sym (there_is key dir chain before (take k xs) is)) (unread s xs ys k there so_far) in
    ap (set ys k) same ∙ put_more s xs ys k there so_far

pub cbc_chain : (key : List (List ℕ)) (dir : Dir) (chain before : ℕ) (xs ys : List ℕ) (k v : ℕ) → k < length xs
    → ys ≡ replaced (in_cbc key dir chain) k xs → before ≡ (after (in_cbc key dir chain) (take k xs)).chain
    → v ≡ (next (in_cbc key dir before) (get_or ys k 0)).chain
    → v ≡ (after (in_cbc key dir chain) (take (k + 1) xs)).chain
cbc_chain key dir chain before xs ys k v there so_far is value =
    let s = in_cbc key dir chain in
    value ∙ ap₂ (λ (t : State) (x : ℕ). (next t x).chain) (sym (there_is key dir chain before (take k xs) is)) (unread s xs ys k there so_far)
    ∙ ap (λ (t : State). t.chain) (sym (after_more s xs k there))

-- ---- two secret blocks deciphered

abbrev Pair : List (List ℕ) → ℕ → List ℕ → List ℕ → ℕ → ℕ → Type 0
Pair key chain xs ys i before = (ys ≡ replaced (in_cbc key Decrypt chain) (2 * i) xs) × (before ≡ (after (in_cbc key Decrypt chain) (take (2 * i) xs)).chain)

pub two_more : (key : List (List ℕ)) (chain before : ℕ) (xs ys : List ℕ) (i a b : ℕ) → 2 * i + 1 < length xs
    → ys ≡ replaced (in_cbc key Decrypt chain) (2 * i) xs → before ≡ (after (in_cbc key Decrypt chain) (take (2 * i) xs)).chain
    → a ≡ deciphered key (get_or ys (2 * i) 0) → b ≡ deciphered key (get_or ys (2 * i + 1) 0)
    → Pair key chain xs (set (set ys (2 * i) (bit_xor a before)) (2 * i + 1) (bit_xor b (get_or ys (2 * i) 0))) (i + 1) (get_or ys (2 * i + 1) 0)
two_more key chain before xs ys i a b room so_far is first second =
    let k = 2 * i in
    let s = in_cbc key Decrypt chain in
    let x = get_or ys k 0 in
    let y = get_or ys (k + 1) 0 in
    let u = bit_xor a before in
    let w = bit_xor b x in
    let here : k < length xs = omega (arith, room) in
    let len : length ys ≡ length xs = ap length so_far ∙ length-replaced s k xs in
    let other : k + 1 ≢ k = omega arith in
    let turn : k + 1 + 1 ≡ 2 * (i + 1) = omega arith in
    let one = cbc_more key Decrypt chain before xs ys k u here so_far is (ap (λ (z : ℕ). bit_xor z before) first) in
    let middle = cbc_chain key Decrypt chain before xs ys k x here so_far is refl in
    let still : get_or (set ys k u) (k + 1) 0 ≡ y = get_or-set_other ys k (k + 1) u 0 other in
    let two = cbc_more key Decrypt chain x xs (set ys k u) (k + 1) w room one middle (ap (λ (z : ℕ). bit_xor z x) (second ∙ ap (deciphered key) (sym still))) in
    let last = cbc_chain key Decrypt chain x xs (set ys k u) (k + 1) y room one middle (sym still) in (
      two ∙ ap (λ (n : ℕ). replaced s n xs) turn,
      last ∙ ap (λ (n : ℕ). (after s (take n xs)).chain) turn,
    )

-- the last of an odd number of secret blocks deciphered
pub last_block : (key : List (List ℕ)) (chain before : ℕ) (xs ys : List ℕ) (i k a : ℕ) → 2 * i ≡ k → k + 1 ≡ length xs
    → ys ≡ replaced (in_cbc key Decrypt chain) (2 * i) xs → before ≡ (after (in_cbc key Decrypt chain) (take (2 * i) xs)).chain
    → a ≡ deciphered key (get_or ys k 0)
    → (set ys k (bit_xor a before) ≡ all_made (in_cbc key Decrypt chain) xs) × (get_or ys k 0 ≡ (after (in_cbc key Decrypt chain) xs).chain)
last_block key chain before xs ys i k a at end so_far is last =
    let s = in_cbc key Decrypt chain in
    let there : k < length xs = omega (arith, end) in
    let most : length xs ≤ k + 1 = omega (arith, end) in
    let so_far_k = so_far ∙ ap (λ (n : ℕ). replaced s n xs) at in
    let is_k = is ∙ ap (λ (n : ℕ). (after s (take n xs)).chain) at in
    let put = cbc_more key Decrypt chain before xs ys k (bit_xor a before) there so_far_k is_k (ap (λ (z : ℕ). bit_xor z before) last) in
    let chains = cbc_chain key Decrypt chain before xs ys k (get_or ys k 0) there so_far_k is_k refl in (
      put_all s xs (set ys k (bit_xor a before)) (k + 1) most put,
      chains ∙ ap (λ (zs : List ℕ). (after s zs).chain) (take_all (k + 1) xs most),
    )

-- ---- what a whole list becomes, by mode and direction

-- in ECB nothing changes
ecb_after : (key : List (List ℕ)) (dir : Dir) (chain : ℕ) (xs : List ℕ) → after (state key Ecb dir chain) xs ≡ state key Ecb dir chain
ecb_after key dir chain [] = refl
ecb_after key Encrypt chain (x ∷ xs) = ecb_after key Encrypt chain xs
ecb_after key Decrypt chain (x ∷ xs) = ecb_after key Decrypt chain xs

-- the blocks are what the state makes of them, and it stays
abbrev Stays : State → List ℕ → List ℕ → Type 0
Stays s xs ys = (ys ≡ all_made s xs) × (s ≡ after s xs)

ecb_stays : (dir : Dir) (key : List (List ℕ)) (chain : ℕ) (s : State) (xs ys : List ℕ) → state key Ecb dir chain ≡ s
    → ys ≡ all_made (state key Ecb dir chain) xs → Stays s xs ys
ecb_stays dir key chain s xs ys is made =
    subst (λ (t : State). Stays t xs ys) is (made, sym (ecb_after key dir chain xs))

pub ecb_enciphered : (key : List (List ℕ)) (mode : Mode) (dir : Dir) (chain : ℕ) (s : State) (xs ys : List ℕ) → state key mode dir chain ≡ s
    → mode ≡ Ecb → dir ≡ Encrypt → ys ≡ map (enciphered key) xs → Stays s xs ys
unfolding secret_blocks
ecb_enciphered key mode dir chain s xs ys is in_ecb there made =
    ecb_stays Encrypt key chain s xs ys (ap₂ (λ (m : Mode) (d : Dir). state key m d chain) (sym in_ecb) (sym there) ∙ is)
    (made ∙ sym (block_by_block (state key Ecb Encrypt chain) xs))

pub ecb_deciphered : (key : List (List ℕ)) (mode : Mode) (dir : Dir) (chain : ℕ) (s : State) (xs ys : List ℕ) → state key mode dir chain ≡ s
    → mode ≡ Ecb → dir ≡ Decrypt → ys ≡ map (deciphered key) xs → Stays s xs ys
unfolding clear_blocks
ecb_deciphered key mode dir chain s xs ys is in_ecb there made =
    ecb_stays Decrypt key chain s xs ys (ap₂ (λ (m : Mode) (d : Dir). state key m d chain) (sym in_ecb) (sym there) ∙ is)
    (made ∙ sym (block_by_block (state key Ecb Decrypt chain) xs))

-- in CBC the chaining value alone changes
pub cbc_state : (key : List (List ℕ)) (mode : Mode) (dir to : Dir) (chain last : ℕ) (s : State) (xs : List ℕ) → state key mode dir chain ≡ s
    → mode ≡ Cbc → dir ≡ to → last ≡ (after (in_cbc key to chain) xs).chain → state key mode dir last ≡ after s xs
cbc_state key mode dir to chain last s xs is chained way value =
    ap₂ (λ (m : Mode) (d : Dir). state key m d last) chained way
    ∙ sym (there_is key to chain last xs value)
    ∙ ap (λ (t : State). after t xs) (ap₂ (λ (m : Mode) (d : Dir). state key m d chain) (sym chained) (sym way) ∙ is)
