-- What a cache keeps of the connections of a lane, one after another, and the hits that their reports count.
use Rattle.std.proofs.Common.{◌≡◌, ◌⊎◌, ℕ, zero, suc, ◌+◌, List, [], ◌∷◌, ◌++◌, slice_get, take, Some, refl, sym, ap, ◌∙◌, inl, inr, append-nil, arith}
use Rattle.std.proofs.lemmas.Grind.{flat_map-append}
use Rattle.hsm_auth.specs.declared.activity.Place.{Place}
use Rattle.hsm_lmk.specs.Cache.{Kept}
use Rattle.hsm_lmk.specs.Caches.{capacity_of, kept_in}
use Rattle.hsm_lmk.specs.declared.kept.KeyCache.{KeyCache}
use Rattle.hsm_rows.specs.declared.settings.Module.{Module}
use Rattle.hsm_session.proofs.Keeping.{kept_both}
use Rattle.hsm_session.specs.Connections.{Keeps, kept_after}
use Rattle.hsm_server.specs.Lanes.{CountsHits, Served, all_messages}

all_messages_more : (connections : List Served) (served : Served) → all_messages connections ++ served.messages ≡ all_messages (connections ++ served ∷ [])
all_messages_more connections served = sym (
    flat_map-append (λ s. s.messages) connections (served ∷ [])
    ∙ ap (λ (last : List (List ℕ)). all_messages connections ++ last) (append-nil served.messages)
    )

-- no connection was served yet
pub keeps_none : (m : Module) (kind : Place) (cache : KeyCache) → Keeps m kind cache cache []
keeps_none m kind cache = record { capacity = refl; kept = refl }

-- one more connection
pub keeps_more : (m : Module) (kind : Place) (start old new : KeyCache) (connections : List Served) (served : Served)
    → Keeps m kind start old (all_messages connections) → Keeps m kind old new served.messages
    → Keeps m kind start new (all_messages (connections ++ served ∷ []))
keeps_more m kind start old new connections served before now = record {
  capacity = now.capacity ∙ before.capacity;
  kept =
      now.kept
      ∙ ap (λ (capacity : ℕ). kept_after m kind capacity (kept_in old) served.messages) before.capacity
      ∙ ap (λ (k : Kept). kept_after m kind (capacity_of start) k served.messages) before.kept
      ∙ sym (kept_both m kind (capacity_of start) (kept_in start) (all_messages connections) served.messages)
      ∙ ap (λ (messages : List (List ℕ)). kept_after m kind (capacity_of start) (kept_in start) messages) (all_messages_more connections served);
}

-- an item of a list with one more item at its end, and the items up to it
pushed : (xs : List Served) (x : Served) (j : ℕ) (y : Served) → slice_get (xs ++ x ∷ []) j ≡ Some y
    → ((slice_get xs j ≡ Some y) × (take (suc j) (xs ++ x ∷ []) ≡ take (suc j) xs)) ⊎ ((x ≡ y) × (take (suc j) (xs ++ x ∷ []) ≡ xs ++ x ∷ []))
pushed [] x zero y at = inr (cc, refl)
pushed [] x (suc j) y at = absurd (cc)
pushed (z ∷ xs) x zero y at = inl (at, refl)
pushed (z ∷ xs) x (suc j) y at = elim (pushed xs x j y at) [
  | inl old ↦ inl (old.0, ap (λ (rest : List Served). z ∷ rest) old.1)
  | inr last ↦ inr (last.0, ap (λ (rest : List Served). z ∷ rest) last.1)
]

one_more : (j : ℕ) → suc j ≡ j + 1
one_more j = omega arith

-- the report of one more connection
pub hits_more : (m : Module) (kind : Place) (capacity : ℕ) (kept : Kept) (connections : List Served) (served : Served)
    → CountsHits m kind capacity kept connections → served.report.hits ≡ (kept_after m kind capacity kept (all_messages (connections ++ served ∷ []))).hits
    → CountsHits m kind capacity kept (connections ++ served ∷ [])
hits_more m kind capacity kept connections served before now j y at =
    let hits : List Served → ℕ = λ front. (kept_after m kind capacity kept (all_messages front)).hits in
    let same : take (suc j) (connections ++ served ∷ []) ≡ take (j + 1) (connections ++ served ∷ []) = ap (λ (n : ℕ). take n (connections ++ served ∷ [])) (one_more j) in
    elim (pushed connections served j y at) [
      | inl old ↦ before j y old.0 ∙ ap hits (ap (λ (n : ℕ). take n connections) (sym (one_more j)) ∙ sym old.1 ∙ same)
      | inr last ↦ ap (λ (s : Served). s.report.hits) (sym last.0) ∙ now ∙ ap hits (sym last.1 ∙ same)
    ]
