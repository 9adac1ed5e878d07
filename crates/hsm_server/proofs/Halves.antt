-- What holds of two halves of a list holds of the whole.
use Rattle.std.proofs.Common.{◌≡◌, ◌-◌, ◌<◌, ◌≤◌, ◌⊎◌, inl, inr, List, ◌++◌, length, slice_index_or, refl, arith, length-append}
use Rattle.std.proofs.lemmas.Bool.{cases_lt}
use Rattle.std.proofs.lemmas.List.{get_or_append_left, get_or-append_right}
use Rattle.hsm_server.specs.Lanes.{EachLane}

pub each_of_halves : {L : Type 0} (R : L → L → Type 0) (left right left' right' : List L) → length left' ≡ length left
    → EachLane R left left' → EachLane R right right' → EachLane R (left ++ right) (left' ++ right')
each_of_halves {L} R left right left' right' long l r k d within = by_half (cases_lt k (length left))
  where
    by_half : (k < length left) ⊎ (length left ≤ k) → R (slice_index_or (left ++ right) k d) (slice_index_or (left' ++ right') k d)
    by_half (inl less) =
        rw (get_or_append_left left right d k less) (rw (get_or_append_left left' right' d k (omega (arith, less, long))) (l k d less))
    by_half (inr more) =
        let n = length left in
        let beyond : k - n < length right = omega (arith, within, more, length-append left right) in
        rw (get_or-append_right left right n k d refl more) (rw (get_or-append_right left' right' n k d long more) (r (k - n) d beyond))
