-- Laws of ECB and CBC.
use Rattle.std.proofs.Common.{◌≡◌, ℕ, zero, suc, ◌^◌, ◌<◌, ◌∙◌, List, [], ◌∷◌, ◌++◌, length, map, bit_xor, refl, sym, ap, subst, arith}
use Rattle.std.specs.Prelude.{slice_index_or}
use Rattle.std.proofs.lemmas.Nat.{xor_lt}
use lib.Bits.{xor_assoc, xor_self, xor_zero_r}
use Rattle.hsm_tdes.specs.Tdes.{enciphered, deciphered}
use Rattle.hsm_tdes.proofs.TdesLaws.{enciphered-lt, deciphered-enciphered, enciphered-deciphered}
use Rattle.hsm_blocks.specs.Blocks.{blocks_of, bytes_of, joined}
use Rattle.hsm_blocks.proofs.BlockLaws.{blocks_of-append, blocks_of-nil, bytes_of-append, bytes_of-nil}
use Rattle.hsm_modes.specs.declared.Mode.{Mode}
use Rattle.hsm_modes.specs.declared.Mode.TheVariants.{Ecb, Cbc}
use Rattle.hsm_modes.specs.declared.Dir.{Dir}
use Rattle.hsm_modes.specs.declared.Dir.TheVariants.{Encrypt, Decrypt}
use Rattle.hsm_modes.specs.Modes.{State, Ciphered, chained, cbc_secret, cbc_clear, secret_blocks, clear_blocks, chain_after, all_made, after, made, next, whole, secrets_of}
use Rattle.hsm_modes.specs.Laws.{AreBlocks, OneSecretList, OneClearList, BlockByBlock, ChainFollows, PartsJoin, ChainsJoin}

-- ---- the one list of secret blocks

abbrev EachSecret : List (List ℕ) → Mode → ℕ → List ℕ → List ℕ → Type 0
EachSecret key mode chain clear secret =
    (i : ℕ) → i < length clear → slice_index_or secret i 0 ≡ enciphered key (chained mode (slice_index_or (chain ∷ secret) i 0) (slice_index_or clear i 0))

ecb_list : (key : List (List ℕ)) (chain : ℕ) (clear secret : List ℕ) → length secret ≡ length clear → EachSecret key Ecb chain clear secret → secret ≡ map (enciphered key) clear
ecb_list key chain [] [] n each = refl
ecb_list key chain [] (y ∷ ys) n each = absurd (omega arith)
ecb_list key chain (x ∷ xs) [] n each = absurd (omega arith)
ecb_list key chain (x ∷ xs) (y ∷ ys) n each =
    let first : y ≡ enciphered key x = each 0 (omega arith) in
    let more = ecb_list key y xs ys (omega arith) (λ i l. each (suc i) (omega arith)) in
    cc

cbc_list : (key : List (List ℕ)) (chain : ℕ) (clear secret : List ℕ) → length secret ≡ length clear → EachSecret key Cbc chain clear secret → secret ≡ cbc_secret key chain clear
cbc_list key chain [] [] n each = refl
cbc_list key chain [] (y ∷ ys) n each = absurd (omega arith)
cbc_list key chain (x ∷ xs) [] n each = absurd (omega arith)
cbc_list key chain (x ∷ xs) (y ∷ ys) n each =
    let first : y ≡ enciphered key (bit_xor x chain) = each 0 (omega arith) in
    let more = cbc_list key y xs ys (omega arith) (λ i l. each (suc i) (omega arith)) in
    ap (λ (ts : List ℕ). y ∷ ts) more ∙ ap (λ (z : ℕ). z ∷ cbc_secret key z xs) first

ecb_count : (key : List (List ℕ)) (clear : List ℕ) → length (map (enciphered key) clear) ≡ length clear
ecb_count key [] = refl
ecb_count key (x ∷ xs) = ap suc (ecb_count key xs)

cbc_count : (key : List (List ℕ)) (chain : ℕ) (clear : List ℕ) → length (cbc_secret key chain clear) ≡ length clear
cbc_count key chain [] = refl
cbc_count key chain (x ∷ xs) = ap suc (cbc_count key (enciphered key (bit_xor x chain)) xs)

ecb_each : (key : List (List ℕ)) (chain : ℕ) (clear : List ℕ) → EachSecret key Ecb chain clear (map (enciphered key) clear)
ecb_each key chain [] i l = absurd (omega arith)
ecb_each key chain (x ∷ xs) zero l = refl
ecb_each key chain (x ∷ xs) (suc i) l = ecb_each key (enciphered key x) xs i (omega arith)

cbc_each : (key : List (List ℕ)) (chain : ℕ) (clear : List ℕ) → EachSecret key Cbc chain clear (cbc_secret key chain clear)
cbc_each key chain [] i l = absurd (omega arith)
cbc_each key chain (x ∷ xs) zero l = refl
cbc_each key chain (x ∷ xs) (suc i) l = cbc_each key (enciphered key (bit_xor x chain)) xs i (omega arith)

is_list : (key : List (List ℕ)) (mode : Mode) (chain : ℕ) (clear secret : List ℕ) → Ciphered key mode chain clear secret → secret ≡ secret_blocks key mode chain clear
unfolding secret_blocks
is_list key Ecb chain clear secret h = ecb_list key chain clear secret h.count h.each
is_list key Cbc chain clear secret h = cbc_list key chain clear secret h.count h.each

pub list_is : (key : List (List ℕ)) (mode : Mode) (chain : ℕ) (clear : List ℕ) → Ciphered key mode chain clear (secret_blocks key mode chain clear)
unfolding secret_blocks
list_is key Ecb chain clear = record { count = ecb_count key clear; each = ecb_each key chain clear }
list_is key Cbc chain clear = record { count = cbc_count key chain clear; each = cbc_each key chain clear }

pub one_secret : OneSecretList
one_secret key mode chain clear secret =
    (is_list key mode chain clear secret, λ e. subst (λ (xs : List ℕ). Ciphered key mode chain clear xs) (sym e) (list_is key mode chain clear))

-- ---- the one list of clear blocks

xor_twice : (x y : ℕ) → bit_xor (bit_xor x y) y ≡ x
xor_twice x y = xor_assoc x y y ∙ ap (λ (z : ℕ). bit_xor x z) (xor_self y) ∙ xor_zero_r x

ecb_undone : (key : List (List ℕ)) (clear : List ℕ) → AreBlocks clear → map (deciphered key) (map (enciphered key) clear) ≡ clear
ecb_undone key [] h = refl
ecb_undone key (x ∷ xs) h =
    let first : deciphered key (enciphered key x) ≡ x = deciphered-enciphered key x h.0 in
    let more = ecb_undone key xs h.1 in
    cc

ecb_redone : (key : List (List ℕ)) (secret : List ℕ) → AreBlocks secret → map (enciphered key) (map (deciphered key) secret) ≡ secret
ecb_redone key [] h = refl
ecb_redone key (y ∷ ys) h =
    let first : enciphered key (deciphered key y) ≡ y = enciphered-deciphered key y h.0 in
    let more = ecb_redone key ys h.1 in
    cc

cbc_undone : (key : List (List ℕ)) (chain : ℕ) (clear : List ℕ) → chain < 2 ^ 64 → AreBlocks clear → cbc_clear key chain (cbc_secret key chain clear) ≡ clear
cbc_undone key chain [] c h = refl
cbc_undone key chain (x ∷ xs) c h =
    let mixed = xor_lt 64 x chain h.0 c in
    let y = enciphered key (bit_xor x chain) in
    let first : bit_xor (deciphered key y) chain ≡ x =
    ap (λ (z : ℕ). bit_xor z chain) (deciphered-enciphered key (bit_xor x chain) mixed) ∙ xor_twice x chain in
    let more = cbc_undone key y xs (enciphered-lt key (bit_xor x chain) mixed) h.1 in
    cc

cbc_redone : (key : List (List ℕ)) (chain : ℕ) (secret : List ℕ) → AreBlocks secret → cbc_secret key chain (cbc_clear key chain secret) ≡ secret
cbc_redone key chain [] h = refl
cbc_redone key chain (y ∷ ys) h =
    let first : enciphered key (bit_xor (bit_xor (deciphered key y) chain) chain) ≡ y =
    ap (enciphered key) (xor_twice (deciphered key y) chain) ∙ enciphered-deciphered key y h.0 in
    ap (λ (z : ℕ). z ∷ cbc_secret key z (cbc_clear key y ys)) first ∙ ap (λ (ts : List ℕ). y ∷ ts) (cbc_redone key y ys h.1)

undone : (key : List (List ℕ)) (mode : Mode) (chain : ℕ) (clear : List ℕ) → chain < 2 ^ 64 → AreBlocks clear → clear_blocks key mode chain (secret_blocks key mode chain clear) ≡ clear
unfolding secret_blocks clear_blocks
undone key Ecb chain clear c h = ecb_undone key clear h
undone key Cbc chain clear c h = cbc_undone key chain clear c h

redone : (key : List (List ℕ)) (mode : Mode) (chain : ℕ) (secret : List ℕ) → AreBlocks secret → secret_blocks key mode chain (clear_blocks key mode chain secret) ≡ secret
unfolding secret_blocks clear_blocks
redone key Ecb chain secret h = ecb_redone key secret h
redone key Cbc chain secret h = cbc_redone key chain secret h

-- secret blocks are those of some clear ones
pub clear_is : (key : List (List ℕ)) (mode : Mode) (chain : ℕ) (secret : List ℕ) → AreBlocks secret → Ciphered key mode chain (clear_blocks key mode chain secret) secret
clear_is key mode chain secret h =
    subst (λ (xs : List ℕ). Ciphered key mode chain (clear_blocks key mode chain secret) xs) (redone key mode chain secret h) (list_is key mode chain (clear_blocks key mode chain secret))

pub one_clear : OneClearList
one_clear key mode chain clear secret c blocks secrets = (
  λ h. sym (undone key mode chain clear c blocks) ∙ ap (clear_blocks key mode chain) (sym (is_list key mode chain clear secret h)),
  λ e. subst (λ (xs : List ℕ). Ciphered key mode chain clear xs)
      (ap (secret_blocks key mode chain) e ∙ redone key mode chain secret secrets) (list_is key mode chain clear),
)

-- ---- block by block

abbrev pub state : List (List ℕ) → Mode → Dir → ℕ → State
state key mode dir chain = record { key = key; mode = mode; dir = dir; chain = chain }

by_blocks : (key : List (List ℕ)) (mode : Mode) (dir : Dir) (chain : ℕ) (blocks : List ℕ) → all_made (state key mode dir chain) blocks ≡ whole key mode chain dir blocks
unfolding secret_blocks clear_blocks
by_blocks key Ecb Encrypt chain [] = refl
by_blocks key Ecb Encrypt chain (x ∷ xs) = ap (λ (ts : List ℕ). enciphered key x ∷ ts) (by_blocks key Ecb Encrypt chain xs)
by_blocks key Ecb Decrypt chain [] = refl
by_blocks key Ecb Decrypt chain (x ∷ xs) = ap (λ (ts : List ℕ). deciphered key x ∷ ts) (by_blocks key Ecb Decrypt chain xs)
by_blocks key Cbc Encrypt chain [] = refl
by_blocks key Cbc Encrypt chain (x ∷ xs) =
    let y = enciphered key (bit_xor x chain) in
    ap (λ (ts : List ℕ). y ∷ ts) (by_blocks key Cbc Encrypt y xs)
by_blocks key Cbc Decrypt chain [] = refl
by_blocks key Cbc Decrypt chain (x ∷ xs) = ap (λ (ts : List ℕ). bit_xor (deciphered key x) chain ∷ ts) (by_blocks key Cbc Decrypt x xs)

chain_of : (key : List (List ℕ)) (mode : Mode) (dir : Dir) (chain : ℕ) (blocks : List ℕ)
    → (after (state key mode dir chain) blocks).chain ≡ chain_after mode chain (secrets_of dir blocks (whole key mode chain dir blocks))
unfolding secret_blocks clear_blocks
chain_of key Ecb Encrypt chain [] = refl
chain_of key Ecb Encrypt chain (x ∷ xs) = chain_of key Ecb Encrypt chain xs
chain_of key Ecb Decrypt chain [] = refl
chain_of key Ecb Decrypt chain (x ∷ xs) = chain_of key Ecb Decrypt chain xs
chain_of key Cbc Encrypt chain [] = refl
chain_of key Cbc Encrypt chain (x ∷ xs) = chain_of key Cbc Encrypt (enciphered key (bit_xor x chain)) xs
chain_of key Cbc Decrypt chain [] = refl
chain_of key Cbc Decrypt chain (x ∷ xs) = chain_of key Cbc Decrypt x xs

pub block_by_block : BlockByBlock
block_by_block s blocks = by_blocks s.key s.mode s.dir s.chain blocks

pub chain_follows : ChainFollows
chain_follows s blocks = chain_of s.key s.mode s.dir s.chain blocks

-- ---- parts

pub all_made-append : (s : State) (xs ys : List ℕ) → all_made s (xs ++ ys) ≡ all_made s xs ++ all_made (after s xs) ys
all_made-append s [] ys = refl
all_made-append s (x ∷ xs) ys = ap (λ (ts : List ℕ). made s x ∷ ts) (all_made-append (next s x) xs ys)

pub after-append : (s : State) (xs ys : List ℕ) → after s (xs ++ ys) ≡ after (after s xs) ys
after-append s [] ys = refl
after-append s (x ∷ xs) ys = after-append (next s x) xs ys

pub parts_join : PartsJoin
parts_join s [] h = sym (ap (λ (bs : List ℕ). bytes_of (all_made s bs)) blocks_of-nil ∙ bytes_of-nil)
parts_join s (part ∷ parts) h =
    let front = blocks_of part in
    let back = blocks_of (joined parts) in
    ap (λ (xs : List ℕ). bytes_of (all_made s front) ++ xs) (parts_join (after s front) parts h.1)
    ∙ sym (ap (λ (bs : List ℕ). bytes_of (all_made s bs)) (blocks_of-append part (joined parts) h.0)
    ∙ (ap bytes_of (all_made-append s front back) ∙ bytes_of-append (all_made s front) (all_made (after s front) back)))

pub chains_join : ChainsJoin
chains_join s [] h = sym (ap (after s) blocks_of-nil)
chains_join s (part ∷ parts) h =
    let front = blocks_of part in
    let back = blocks_of (joined parts) in
    chains_join (after s front) parts h.1
    ∙ sym (ap (after s) (blocks_of-append part (joined parts) h.0) ∙ after-append s front back)

-- ---- counts

clear_length : (key : List (List ℕ)) (chain : ℕ) (secret : List ℕ) → length (cbc_clear key chain secret) ≡ length secret
clear_length key chain [] = refl
clear_length key chain (y ∷ ys) = ap suc (clear_length key y ys)

plain_length : (key : List (List ℕ)) (secret : List ℕ) → length (map (deciphered key) secret) ≡ length secret
plain_length key [] = refl
plain_length key (y ∷ ys) = ap suc (plain_length key ys)

pub secret_count : (key : List (List ℕ)) (mode : Mode) (chain : ℕ) (clear : List ℕ) → length (secret_blocks key mode chain clear) ≡ length clear
unfolding secret_blocks
secret_count key Ecb chain clear = ecb_count key clear
secret_count key Cbc chain clear = cbc_count key chain clear

pub clear_count : (key : List (List ℕ)) (mode : Mode) (chain : ℕ) (secret : List ℕ) → length (clear_blocks key mode chain secret) ≡ length secret
unfolding clear_blocks
clear_count key Ecb chain secret = plain_length key secret
clear_count key Cbc chain secret = clear_length key chain secret
