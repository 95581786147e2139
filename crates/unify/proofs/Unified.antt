-- The unifier is right: what it agrees to, and what it refuses.
use Rattle.std.proofs.Common.{◌≡◌, ℕ, ◌<◌, ◌≤◌, Bool, true, false, ◌⊎◌, List, length, None, sym, refl, ap, ◌∙◌, subst, subst₂, inl, inr, arith}
use Rattle.std.proofs.lemmas.Bool.{both_ways}
use Rattle.theory.specs.Trees.{Tree, Same}
use Rattle.theory.specs.Equations.{MeetsAll}
use Rattle.unify.specs.Cells.{Content, variable, leaf, node, Cell, most, content_at, joined_at, root}
use Rattle.unify.specs.Solved.{Matches, SameRoots, Solved, stated}
use Rattle.unify.specs.Unify.{State, Move, went, clash, fits, join, unify}
use Rattle.unify.specs.Theorems.{Decides, SameContents, Unified}
use Rattle.unify.proofs.Places.{nth_inside}
use Rattle.unify.proofs.Roots.{IsVariable}
use Rattle.unify.proofs.CellReads.{Reads, MeetsContent, reads_root, reads_meets, meets_reads}
use Rattle.unify.proofs.Fitting.{unfit_labels}
use Rattle.unify.proofs.Invariant.{Inv, Owed, Follows, inv_descends}
use Rattle.unify.proofs.Meeting.{Good, Joined, join_good}

module _ {V : Type 0} (open_joins : Bool) (old : List (Cell V)) (ok : Solved old) (a b : ℕ)
    (t : State V) (inv : Inv open_joins old a b t) where
  -- with nothing owed the cells are solved
  pub solved_again : length t.trail ≤ t.place → Solved t.cells
  solved_again done = record {
    few = subst (λ n. n ≤ most) (sym inv.number) ok.few;
    lower = λ i f xs e. ok.lower i f xs (sym (inv.contents i) ∙ e);
    descends = inv_descends open_joins old a b t inv;
    agrees = λ i j e. subst₂ (λ c d. Matches (SameRoots t.cells) c d) (sym (inv.contents i)) (sym (inv.contents j)) (agreeing i j (inv.owed i j e));
  }
    where
      agreeing : (i j : ℕ) → Owed t i ⊎ Matches (SameRoots t.cells) (content_at old i) (content_at old j) →
          Matches (SameRoots t.cells) (content_at old i) (content_at old j)
      agreeing i j (inl o) =
          let h : o.0 < length t.trail = nth_inside t.trail o.0 i o.2 in
          let k : t.place ≤ o.0 = o.1 in absurd (omega arith)
      agreeing i j (inr m) = m

  pub same_contents : SameContents old t.cells
  same_contents = record { number = inv.number; contents = inv.contents }

  -- a reading of the new cells is one of the old, and gives a and b one tree
  pub reads_old : root t.cells a ≡ root t.cells b → (ρ : ℕ → Tree V) → Reads t.cells ρ → Reads old ρ × Same (ρ a) (ρ b)
  reads_old one ρ r = (
    record { contents = λ i. subst (MeetsContent ρ i) (inv.contents i) (r.contents i); joins = λ i j e. r.joins i j (inv.kept i j e) },
    λ p. at a p ∙ (ap (λ n. ρ n p) one ∙ sym (at b p)),
  )
    where
      at : (i : ℕ) → Same (ρ i) (ρ (root t.cells i))
      at = reads_root ρ t.cells (inv_descends open_joins old a b t inv) r.joins

  -- and the other way round
  pub reads_new : (ρ : ℕ → Tree V) → Reads old ρ → Same (ρ a) (ρ b) → Reads t.cells ρ
  reads_new ρ r s = record
      { contents = λ i. subst (MeetsContent ρ i) (sym (inv.contents i)) (r.contents i); joins = λ i j e. inv.follows i j e ρ r s }

module _ {V : Type 0} (same : V → V → Bool) (law : Decides same) (old : List (Cell V)) (ok : Solved old) (a b : ℕ)
    (ha : a < length old) (hb : b < length old) where
  abbrev NoReading : Type 0
  NoReading = (ρ : ℕ → Tree V) → MeetsAll ρ (stated old) → Same (ρ a) (ρ b) → ⊥

  -- where open roots are joined, only written ones do not fit
  unfit_written : (c d : Content V) → fits same true c d ≡ false → (IsVariable c → ⊥) × (IsVariable d → ⊥)
  unfolding fits
  unfit_written variable d e = absurd (both_ways true e refl)
  unfit_written (leaf v) variable e = absurd (both_ways true e refl)
  unfit_written (leaf v) (leaf w) e = (λ x. x, λ x. x)
  unfit_written (leaf v) (node g ys) e = (λ x. x, λ x. x)
  unfit_written (node f xs) variable e = absurd (both_ways true e refl)
  unfit_written (node f xs) (leaf w) e = (λ x. x, λ x. x)
  unfit_written (node f xs) (node g ys) e = (λ x. x, λ x. x)

  none_left : (s : State V) → Inv true old a b s → (r t : ℕ) → joined_at s.cells r ≡ None → joined_at s.cells t ≡ None → (r ≡ t → ⊥) →
      fits same true (content_at old r) (content_at old t) ≡ false → Follows true old a b r t → NoReading
  none_left s inv r t p q apart e f ρ m h =
      let z : Reads old ρ = meets_reads ρ old m in
      let w = unfit_written (content_at old r) (content_at old t) e in
      unfit_labels same true law ρ r t (content_at old r) (content_at old t) w.0 w.1 e (z.contents r) (z.contents t) (f ρ z h)

  right : (m : Move V) → Good same true law old ok a b NoReading none_left (Joined same true law old ok a b NoReading none_left) m → Unified old a b m
  right (went t) g = record {
    solved = solved_again true old ok a b t g.inv g.done;
    contents = same_contents true old ok a b t g.inv;
    undone = g.inv.undone;
    readings = λ ρ. (
      λ m. let h = reads_old true old ok a b t g.inv g.one ρ (meets_reads ρ t.cells m) in (reads_meets ρ old h.0, h.1),
      λ h. reads_meets ρ t.cells (reads_new true old ok a b t g.inv ρ (meets_reads ρ old h.0) h.1),
    );
  }
  right (clash t) g = record { undone = g.1; hopeless = g.0 }

  pub unify_right : Unified old a b (unify same old a b)
  unfolding unify
  unify_right = right (join same true old a b) (join_good same true law old ok a b NoReading none_left ha hb)
