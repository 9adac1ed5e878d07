-- What a cache keeps of several checks.
use Rattle.std.proofs.Common.{◌≡◌, ◌≤◌, ◌<◌, ℕ, List, [], ◌∷◌, ◌++◌, length, slice_index_or, None, refl, sym, arith}
use Rattle.std.proofs.lemmas.List.{append-nil}
use Rattle.hsm_lmk.specs.Cache.{Kept, kept_all, kept_one}
use Rattle.hsm_lmk.specs.declared.kept.KeyEntry.{KeyEntry}
use Rattle.hsm_rows.specs.declared.rules.KeyCheck.{KeyCheck}
use Rattle.hsm_answers.specs.Read.{ReadMessage}
use Rattle.hsm_answers.specs.Keys.{key_fault}
use Rattle.hsm_answers.specs.Kept.{check_entries, checks_entries}

-- entries that are kept one list after another
pub kept_joined : (n : ℕ) (k : Kept) (es fs : List KeyEntry) → kept_all n k (es ++ fs) ≡ kept_all n (kept_all n k es) fs
kept_joined n k [] fs = refl
kept_joined n k (e ∷ es) fs = kept_joined n (kept_one n k e) es fs

two_checks : (q : ReadMessage) (a b : KeyCheck) (n : ℕ) (before middle after : Kept)
    → None ≡ key_fault q a → None ≡ key_fault q b
    → middle ≡ kept_all n before (check_entries q a) → after ≡ kept_all n middle (check_entries q b)
    → after ≡ kept_all n before (checks_entries q (a ∷ b ∷ []))
two_checks q a b n before middle after sound also first second =
    rw (sym sound, sym also, append-nil (check_entries q b), kept_joined n before (check_entries q a) (check_entries q b), sym first) second

-- two checks without a fault, which are all
pub two_kept : (q : ReadMessage) (cs : List KeyCheck) (d : KeyCheck) (n : ℕ) (before middle after : Kept)
    → 2 ≤ length cs → length cs < 3
    → None ≡ key_fault q (slice_index_or cs 0 d) → None ≡ key_fault q (slice_index_or cs 1 d)
    → middle ≡ kept_all n before (check_entries q (slice_index_or cs 0 d)) → after ≡ kept_all n middle (check_entries q (slice_index_or cs 1 d))
    → after ≡ kept_all n before (checks_entries q cs)
two_kept q [] d n before middle after least most sound also first second = absurd (omega arith)
two_kept q (a ∷ []) d n before middle after least most sound also first second = absurd (omega arith)
two_kept q (a ∷ b ∷ []) d n before middle after least most sound also first second = two_checks q a b n before middle after sound also first second
two_kept q (a ∷ b ∷ c ∷ cs) d n before middle after least most sound also first second = absurd (omega arith)
