-- Passes that are joined one after another.
use Rattle.std.proofs.Common.{rules, arith, ◌<◌, IfSome, IsSome, ◌≡◌, ℕ, zero, suc, List, [], ◌∷◌, ◌++◌, length, map, flat_map, slice_get, Option, Some, None, refl, sym, ap, subst, ◌∙◌, append-nil, inl, inr}
use Rattle.std.proofs.lemmas.Grind.{flat_map-append}
use Rattle.hsm_auth.specs.Own.{own}
use Rattle.hsm_desk.specs.Passes.{IsWhole, OnlyKin, PassView, Sound}
use Rattle.hsm_program.specs.Lanes.{AreJoined, Joins}
use Rattle.hsm_program.proofs.ClearFields.{joined_within}
use Rattle.hsm_program.proofs.Opening.{pushed}

abbrev pub kin_of : PassView → List (ℕ × ℕ)
kin_of pass = pass.kin

-- what the passes so far come to: one into which they were joined, or none where there is none
abbrev pub JoinedTo : List PassView → Option PassView → Type 0
JoinedTo passes None = passes ≡ []
JoinedTo passes (Some pass) = AreJoined passes pass × (IsWhole pass → OnlyKin pass)

joined_first : (other pass : PassView) → Joins None other pass → AreJoined (other ∷ []) pass
joined_first other pass joins = record {
  kin = ap kin_of joins.0 ∙ sym (append-nil other.kin);
  own = only;
  sound = subst (λ (p : PassView). Sound p) (sym joins.0) joins.1;
}
  where
    only : (k : ℕ) (p : PassView) → slice_get (other ∷ []) k ≡ Some p → (j : ℕ) (n : ℕ × ℕ) → slice_get p.kin j ≡ Some n → own n.0 pass.seen ≡ own n.0 p.seen
    only zero p at j n there = let e : other ≡ p = cc in ap (λ (q : PassView). own n.0 q.seen) (joins.0 ∙ e)
    only (suc k) p at j n there = absurd (cc)

joined_more : (passes : List PassView) (mine other pass : PassView) → AreJoined passes mine → Joins (Some mine) other pass → AreJoined (passes ++ other ∷ []) pass
joined_more passes mine other pass all joins = record {
  kin = joins.0
      ∙ ap (λ (front : List (ℕ × ℕ)). front ++ other.kin) all.kin
      ∙ ap (λ (last : List (ℕ × ℕ)). flat_map kin_of passes ++ last) (sym (append-nil other.kin))
      ∙ sym (flat_map-append kin_of passes (other ∷ []));
  own = λ k p at j n there. elim (pushed passes other k p at) [
    | inl before ↦ (let w = joined_within kin_of passes k p j n before there in
        joins.1 w.0 n (ap (λ (kin : List (ℕ × ℕ)). slice_get kin w.0) all.kin ∙ w.1) ∙ all.own k p before j n there)
    | inr last ↦ (let there' : slice_get other.kin j ≡ Some n = ap (λ (q : PassView). slice_get q.kin j) last.1 ∙ there in
        joins.2 j n there' ∙ ap (λ (q : PassView). own n.0 q.seen) last.1)
  ];
  sound = joins.3;
}

-- one more pass
pub joined_push : (passes : List PassView) (before : Option PassView) (other pass : PassView) → JoinedTo passes before → Joins before other pass → (IsWhole pass → OnlyKin pass)
    → JoinedTo (passes ++ other ∷ []) (Some pass)
joined_push passes None other pass none joins numbers = (subst (λ (front : List PassView). AreJoined (front ++ other ∷ []) pass) (sym none) (joined_first other pass joins), numbers)
joined_push passes (Some mine) other pass all joins numbers = (joined_more passes mine other pass all.0 joins, numbers)

-- what the passes in the end come to
pub joined_all : (passes : List PassView) (pass : Option PassView) → JoinedTo passes pass → IfSome pass (λ p. AreJoined passes p)
joined_all passes None none = tt
joined_all passes (Some pass) joined = joined.0

pub joined_numbers : (passes : List PassView) (pass : Option PassView) → JoinedTo passes pass → IfSome pass (λ p. IsWhole p → OnlyKin p)
joined_numbers passes None none = tt
joined_numbers passes (Some pass) joined = joined.1

pub joined_some : (passes : List PassView) (pass : Option PassView) → JoinedTo passes pass → 0 < length passes → IsSome pass
joined_some passes None none some = absurd (let e = ap (λ (l : List PassView). length l) none in omega (arith, e, some))
joined_some passes (Some pass) joined some = search rules

pub map-id : {A : Type 0} (xs : List A) → map (λ x. x) xs ≡ xs
map-id [] = refl
map-id (x ∷ xs) = ap (λ (rest : List _). x ∷ rest) (map-id xs)
