-- Going along the path of a goal.
use Rattle.std.proofs.Common.{◌≡◌, ℕ, suc, ◌<◌, ◌≤◌, Bool, true, false, eqb, List, [], ◌∷◌, length, get_or, Some, None, Option, sym, refl, ap, ◌∙◌, subst, arith}
use Rattle.std.specs.List.{slice_get}
use Rattle.std.proofs.lemmas.Option.{slice_get-get_or}
use Rattle.std.proofs.lemmas.Bool.{eq-eqb, ne_eqb, eqb-true}
use Rattle.theory.specs.Records.{member}
use Rattle.theory.proofs.Elements.{none_some, some_inj}
use Rattle.frames.specs.declared.frame.Frame.{Frame}
use Rattle.frames.specs.Goals.{above, Link}
use Rattle.frames.specs.Tries.{Chain}
use Rattle.frames.proofs.Following.{unset, nth_inside, true_false}

module _ (frames : List Frame) where
  -- the frame of a step on the path
  pub chain_at : (chain : List ℕ) (s : ℕ) → Chain frames chain (Some s) →
      (s < length frames) × Link s (get_or frames s unset) × ((rest : List ℕ) × (chain ≡ s ∷ rest) ×
      Chain frames rest (get_or frames s unset).goal.parent)
  chain_at [] s c = absurd (none_some (sym c))
  chain_at (t ∷ chain) s c =
      let ts : t ≡ s = sym (some_inj c.0) in
      let f : Frame = c.1.0 in
      let p : slice_get frames s ≡ Some f = subst (λ k. slice_get frames k ≡ Some f) ts c.1.1 in
      let h : s < length frames = nth_inside frames s f p in
      let e : f ≡ get_or frames s unset = some_inj (sym p ∙ slice_get-get_or frames s unset h) in (
        h,
        subst (Link s) e (subst (λ k. Link k f) ts c.1.2),
        (chain, ap (λ k. k ∷ chain) ts, subst (λ (y : Frame). Chain frames chain y.goal.parent) e c.1.3),
      )

  -- the step is the first of the path
  pub path_here : (chain : List ℕ) (s n : ℕ) → Chain frames chain (Some s) → s ≡ n → true ≡ member n chain
  path_here chain s n c e =
      let z = chain_at chain s c in
      sym (ap (member n) z.2.1 ∙ ap (λ t. elim t [ true ↦ true | false ↦ member n z.2.0 ]) (eq-eqb n s (sym e)))

  -- it is not, and the path goes on
  pub path_on : (chain : List ℕ) (s n : ℕ) → Chain frames chain (Some s) → (s ≡ n → ⊥) →
      (rest : List ℕ) × Chain frames rest (get_or frames s unset).goal.parent × (member n rest ≡ member n chain)
  path_on chain s n c e =
      let z = chain_at chain s c in (
        z.2.0,
        z.2.2,
        sym (ap (member n) z.2.1
            ∙ ap (λ t. elim t [ true ↦ true | false ↦ member n z.2.0 ]) (ne_eqb n s (λ q. e (sym q)))),
      )

  -- the path has come to its end
  pub path_end : (chain : List ℕ) (p : Option ℕ) (n : ℕ) → p ≡ None → Chain frames chain p → false ≡ member n chain
  path_end [] p n e c = refl
  path_end (s ∷ chain) p n e c = absurd (none_some (sym e ∙ c.0))

  -- a step on the path stands
  pub on_path_below : (chain : List ℕ) (p : Option ℕ) (n : ℕ) → Chain frames chain p → member n chain ≡ true → n < above p
  on_path_below [] p n c m = true_false (sym m)
  on_path_below (s ∷ chain) p n c m =
      let low : above c.1.0.goal.parent ≤ s = c.1.2.lower in
      subst (λ q. n < above q) (sym c.0) (go (eqb n s) refl m (on_path_below chain c.1.0.goal.parent n c.1.3))
    where
      go : (t : Bool) → eqb n s ≡ t → (elim t [ true ↦ true | false ↦ member n chain ]) ≡ true →
          (member n chain ≡ true → n < above c.1.0.goal.parent) → n < suc s
      go true e m h = let q : n ≡ s = eqb-true n s e in omega arith
      go false e m h =
          let k : n < above c.1.0.goal.parent = h m in
          let low : above c.1.0.goal.parent ≤ s = c.1.2.lower in
          omega arith
