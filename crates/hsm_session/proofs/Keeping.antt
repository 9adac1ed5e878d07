-- What a cache keeps of the messages of a connection, one after another.
use Rattle.std.proofs.Common.{◌≡◌, ℕ, List, [], ◌∷◌, ◌++◌, flat_map, refl, sym, ap, ◌∙◌, append-nil}
use Rattle.std.proofs.lemmas.Grind.{flat_map-append}
use Rattle.hsm_answers.specs.Kept.{opened_of}
use Rattle.hsm_auth.specs.declared.activity.Place.{Place}
use Rattle.hsm_commands.proofs.KeptLaws.{kept_joined}
use Rattle.hsm_lmk.specs.Cache.{Kept, kept_all}
use Rattle.hsm_lmk.specs.Caches.{capacity_of, kept_in}
use Rattle.hsm_lmk.specs.declared.kept.KeyCache.{KeyCache}
use Rattle.hsm_lmk.specs.declared.kept.KeyEntry.{KeyEntry}
use Rattle.hsm_rows.specs.declared.settings.Module.{Module}
use Rattle.hsm_session.specs.Connections.{Keeps, kept_after}

-- messages that are answered one list after another
pub kept_both : (m : Module) (kind : Place) (capacity : ℕ) (kept : Kept) (xs ys : List (List ℕ))
    → kept_after m kind capacity kept (xs ++ ys) ≡ kept_after m kind capacity (kept_after m kind capacity kept xs) ys
kept_both m kind capacity kept xs ys =
    ap (λ (all : List KeyEntry). kept_all capacity kept all) (flat_map-append (opened_of m kind) xs ys)
    ∙ kept_joined capacity kept (flat_map (opened_of m kind) xs) (flat_map (opened_of m kind) ys)

-- the keys of one more message
kept_push : (m : Module) (kind : Place) (capacity : ℕ) (kept : Kept) (messages : List (List ℕ)) (message : List ℕ)
    → kept_after m kind capacity kept (messages ++ message ∷ []) ≡ kept_all capacity (kept_after m kind capacity kept messages) (opened_of m kind message)
kept_push m kind capacity kept messages message =
    kept_both m kind capacity kept messages (message ∷ [])
    ∙ ap (λ (keys : List KeyEntry). kept_all capacity (kept_after m kind capacity kept messages) keys) (append-nil (opened_of m kind message))

-- no message yet
pub keeps_none : (m : Module) (kind : Place) (cache : KeyCache) → Keeps m kind cache cache []
keeps_none m kind cache = record { capacity = refl; kept = refl }

-- one more message
pub keeps_more : (m : Module) (kind : Place) (start old new : KeyCache) (messages : List (List ℕ)) (message : List ℕ)
    → Keeps m kind start old messages → capacity_of new ≡ capacity_of old → kept_in new ≡ kept_all (capacity_of old) (kept_in old) (opened_of m kind message)
    → Keeps m kind start new (messages ++ message ∷ [])
keeps_more m kind start old new messages message keeps same kept = record {
  capacity = same ∙ keeps.capacity;
  kept =
      kept ∙ ap (λ (capacity : ℕ). kept_all capacity (kept_in old) (opened_of m kind message)) keeps.capacity
      ∙ ap (λ (k : Kept). kept_all (capacity_of start) k (opened_of m kind message)) keeps.kept
      ∙ sym (kept_push m kind (capacity_of start) (kept_in start) messages message);
}
