-- Parts copied behind cells: what stands where, and that solved cells stay solved.
use Rattle.std.proofs.Common.{◌≡◌, ℕ, zero, suc, ◌+◌, ◌<◌, ◌≤◌, List, [], ◌∷◌, ◌++◌, length, take, Some, None, sym, refl, ap, ◌∙◌, le_refl, add-zero, arith}
use Rattle.std.specs.List.{slice_get}
use Rattle.std.proofs.lemmas.List.{take_all, take-take, take_at}
use Rattle.std.proofs.ByRecursion.{All-weaker, All-map}
use Rattle.theory.specs.Entries.{Part, PartRules, PartsRules}
use Rattle.unify.specs.Cells.{Content, Cell, most, content_at, joined_at}
use Rattle.unify.specs.Solved.{Solved}
use Rattle.unify.specs.Writing.{write, Writable}
use Rattle.unify.proofs.Places.{none_some, some_same}
use Rattle.unify.proofs.Written.{writing, length_write, content_before, content_new, joined_write}
use Rattle.searching.specs.Trying.{content_of, copied}

module _ {V : Type 0} (at : ℕ → ℕ) where
  -- one part more
  pub copied_push : (cells : List (Cell V)) (ps : List (Part V)) (p : Part V) →
      copied at cells (ps ++ (p ∷ [])) ≡ write (copied at cells ps) (content_of at p)
  unfolding copied
  copied_push cells [] p = refl
  copied_push cells (q ∷ ps) p = copied_push (write cells (content_of at q)) ps p

  pub length_copied : (ps : List (Part V)) (cells : List (Cell V)) →
      length (copied at cells ps) ≡ length cells + length ps
  unfolding copied
  length_copied [] cells = omega arith
  length_copied (p ∷ ps) cells =
      let l = length_write cells (content_of at p) in
      let h = length_copied ps (write cells (content_of at p)) in
      omega arith

  write_front : (cells : List (Cell V)) (c : Content V) → take (length cells) (write cells c) ≡ cells
  unfolding write
  write_front cells c = take_at cells (record { content = c; joined = None } ∷ []) (length cells) refl

  -- the cells before are as they were
  pub copied_front : (ps : List (Part V)) (cells : List (Cell V)) → take (length cells) (copied at cells ps) ≡ cells
  unfolding copied
  copied_front [] cells = take_all (length cells) cells (le_refl _)
  copied_front (p ∷ ps) cells =
      let c : Content V = content_of at p in
      let w : List (Cell V) = write cells c in
      let h : length cells ≤ length w = omega (arith, length_write cells c) in
      sym (take-take (length cells) (length w) (copied at w ps) h)
      ∙ (ap (take (length cells)) (copied_front ps w) ∙ write_front cells c)

  pub joined_copied : (ps : List (Part V)) (cells : List (Cell V)) (i : ℕ) →
      joined_at (copied at cells ps) i ≡ joined_at cells i
  unfolding copied
  joined_copied [] cells i = refl
  joined_copied (p ∷ ps) cells i =
      joined_copied ps (write cells (content_of at p)) i ∙ joined_write cells (content_of at p) i

  pub content_copied : (ps : List (Part V)) (cells : List (Cell V)) (i : ℕ) → i < length cells →
      content_at (copied at cells ps) i ≡ content_at cells i
  unfolding copied
  content_copied [] cells i h = refl
  content_copied (p ∷ ps) cells i h =
      content_copied ps (write cells (content_of at p)) i (omega (arith, length_write cells (content_of at p)))
      ∙ content_before cells (content_of at p) i h

  -- behind them stand the parts
  pub content_there : (ps : List (Part V)) (cells : List (Cell V)) (k : ℕ) (p : Part V) → slice_get ps k ≡ Some p →
      content_at (copied at cells ps) (length cells + k) ≡ content_of at p
  unfolding copied
  content_there [] cells k p e = absurd (none_some e)
  content_there (q ∷ ps) cells zero p e =
      let c : Content V = content_of at q in
      let w : List (Cell V) = write cells c in
      ap (content_at (copied at w ps)) (add-zero (length cells))
      ∙ (content_copied ps w (length cells) (omega (arith, length_write cells c))
      ∙ (content_new cells c ∙ ap (content_of at) (some_same e)))
  content_there (q ∷ ps) cells (suc k) p e =
      let c : Content V = content_of at q in
      let w : List (Cell V) = write cells c in
      let n : length cells + suc k ≡ length w + k = omega (arith, length_write cells c) in
      ap (content_at (copied at w ps)) n ∙ content_there ps w k p e

module _ {V : Type 0} (base : ℕ) where
  writable : (cells : List (Cell V)) (j : ℕ) → length cells ≡ base + j → (p : Part V) → PartRules j p →
      Writable cells (content_of (λ i. base + i) p)
  unfolding content_of
  writable cells j n Part.variable r = tt
  writable cells j n (Part.leaf v) r = tt
  writable cells j n (Part.node f args) r = (
    r.0,
    All-map (λ x. x < length cells) (λ i. base + i) args
        (All-weaker (λ a. a < j) (λ a. (base + a) < length cells) (λ a h. omega arith) args r.2),
  )

  -- parts that keep the rules leave the cells solved
  pub copied_solved : (ps : List (Part V)) (j : ℕ) (cells : List (Cell V)) → Solved cells → length cells ≡ base + j →
      PartsRules j ps → length cells + length ps ≤ most → Solved (copied (λ i. base + i) cells ps)
  unfolding copied
  copied_solved [] j cells ok n r h = ok
  copied_solved (p ∷ ps) j cells ok n r h =
      let c : Content V = content_of (λ i. base + i) p in
      let room : length cells < most = omega arith in
      let l = length_write cells c in
      copied_solved ps (suc j) (write cells c)
      ((writing V).one_more cells ok room c (writable cells j n p r.0)).solved (omega arith) r.1 (omega arith)
