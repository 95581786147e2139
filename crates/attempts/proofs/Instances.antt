-- A cell of an entry as it is written, and one cell more of an instance.
use Rattle.std.proofs.Common.{◌≡◌, ℕ, zero, suc, ◌+◌, ◌-◌, ◌<◌, ◌≤◌, ◌⊎◌, List, [], ◌∷◌, ◌++◌, map, length, get_or, take, set, replicate, Some, None, sym, refl, ap, ◌∙◌, subst, inl, inr, add-one, arith}
use mathlib.Core.List.{map-append}
use Rattle.std.proofs.lemmas.List.{length-take, get_or-take, get_or_append_left, get_or-append_right, get_or_past, get_or-replicate, ext_get_or, take-map, take_more_set}
use Rattle.std.proofs.ByRecursion.{All-push}
use Rattle.std.proofs.lemmas.Bool.{cases_lt}
use Rattle.std.specs.List.{slice_get}
use Rattle.theory.specs.Entries.{Part}
use Rattle.unify.specs.Cells as C
use Rattle.unify.specs.Writing.{write}
use Rattle.unify.proofs.Places.{none_some, some_same}
use Rattle.searching.specs.Trying as M
use Rattle.searching.specs.Trying.{copied}
use Rattle.cells.specs.declared.cell.Content.{Content}
use Rattle.cells.specs.declared.cell.Cell.{Cell}
use Rattle.cells.specs.Cells.{cell_of, cells_of, content_of, Counted, AllCounted}
use Rattle.book.proofs.Listed.{length_listed}
use Rattle.attempts.proofs.Copying.{copied_push}

-- one more of a list's first
pub take_next : {X : Type 0} (xs : List X) (j : ℕ) (x : X) → slice_get xs j ≡ Some x → take (j + 1) xs ≡ take j xs ++ (x ∷ [])
take_next {X = X} xs j x e = ap (λ k. take k xs) (add-one j) ∙ go xs j e
  where
    go : (xs : List X) (j : ℕ) → slice_get xs j ≡ Some x → take (suc j) xs ≡ take j xs ++ (x ∷ [])
    go [] j e = absurd (none_some e)
    go (y ∷ xs) zero e = ap (λ z. z ∷ []) (some_same e)
    go (y ∷ xs) (suc j) e = ap (λ l. y ∷ l) (go xs j e)

-- the first four numbers, as the code has them
abbrev four : List ℕ → List ℕ
four xs = get_or xs 0 0 ∷ get_or xs 1 0 ∷ get_or xs 2 0 ∷ get_or xs 3 0 ∷ []

four_at : (xs : List ℕ) (i : ℕ) → i < 4 → get_or (four xs) i 0 ≡ get_or xs i 0
four_at xs zero h = refl
four_at xs (suc zero) h = refl
four_at xs (suc (suc zero)) h = refl
four_at xs (suc (suc (suc zero))) h = refl
four_at xs (suc (suc (suc (suc i)))) h = absurd (omega arith)

padded_at : (n : ℕ) (xs : List ℕ) (i : ℕ) → i < n → get_or (xs ++ replicate n 0) i 0 ≡ get_or xs i 0
padded_at n xs i h = go (cases_lt i (length xs))
  where
    go : (i < length xs) ⊎ (length xs ≤ i) → get_or (xs ++ replicate n 0) i 0 ≡ get_or xs i 0
    go (inl l) = get_or_append_left xs (replicate n 0) 0 i l
    go (inr l) =
        get_or-append_right xs (replicate n 0) (length xs) i 0 refl l
        ∙ (get_or-replicate n (i - length xs) 0 0 (omega arith) ∙ sym (get_or_past xs i 0 l))

listed_four : (n : ℕ) (xs : List ℕ) → n ≤ 4 → take n (four xs) ≡ take n (xs ++ replicate n 0)
listed_four n xs h =
    let l : length (take n (four xs)) ≡ n = length-take n (four xs) ∙ omega arith in
    ext_get_or 0 (take n (four xs)) (take n (xs ++ replicate n 0)) (l ∙ sym (length_listed n xs))
    (λ i k. let q : i < n = omega (arith, l) in
    get_or-take n (four xs) i 0 q
    ∙ (four_at xs i (omega arith) ∙ sym (get_or-take n (xs ++ replicate n 0) i 0 q ∙ padded_at n xs i q)))

module _ {L : Type 0} (base : ℕ) where
  -- a node, with each of its arguments so many cells further
  pub written_node : (f n : ℕ) (xs : List ℕ) (a b c d : ℕ) → n ≤ 4 →
      a ≡ get_or xs 0 0 → b ≡ get_or xs 1 0 → c ≡ get_or xs 2 0 → d ≡ get_or xs 3 0 →
      ◌≡◌ {A = C.Content L} (C.node f (take n ((base + a) ∷ (base + b) ∷ (base + c) ∷ (base + d) ∷ [])))
      (M.content_of (λ j. base + j) (Part.node f (take n (xs ++ replicate n 0))))
  unfolding M.content_of
  written_node f n xs a b c d h p q r s =
      (λ i. C.node f (take n ((base + p i) ∷ (base + q i) ∷ (base + r i) ∷ (base + s i) ∷ [])))
      ∙ (ap (C.node f) (take-map (λ j. base + j) n (four xs))
      ∙ ap (λ l. C.node f (map (λ j. base + j) l)) (listed_four n xs h))

  module _ (j : ℕ) (xs : List (Cell L)) (c : Content L) (h : base + j < length xs) where
    abbrev fresh : Cell L
    fresh = record { content = c; joined = None }

    next_taken : take (base + (j + 1)) (set xs (base + j) fresh) ≡ take (base + j) xs ++ (fresh ∷ [])
    next_taken =
        let e : base + (j + 1) ≡ base + j + 1 = omega arith in
        ap (λ n. take n (set xs (base + j) fresh)) e ∙ take_more_set xs (base + j) fresh h

    pub one_counted : Counted c → AllCounted (take (base + j) xs) →
        AllCounted (take (base + (j + 1)) (set xs (base + j) fresh))
    one_counted k a = subst AllCounted (sym next_taken) (All-push (λ d. Counted d.content) (take (base + j) xs) fresh a k)

    -- one more cell of the instance
    pub one_copied : (old : List (C.Cell L)) (ps : List (Part L)) (p : Part L) → slice_get ps j ≡ Some p →
        content_of c ≡ M.content_of (λ i. base + i) p →
        cells_of (take (base + j) xs) ≡ copied (λ i. base + i) old (take j ps) →
        cells_of (take (base + (j + 1)) (set xs (base + j) fresh)) ≡ copied (λ i. base + i) old (take (j + 1) ps)
    unfolding write
    one_copied old ps p at is e =
        ap cells_of next_taken
        ∙ (map-append cell_of (take (base + j) xs) (fresh ∷ [])
        ∙ ((λ i. write (e i) (is i))
        ∙ (sym (copied_push (λ i. base + i) old (take j ps) p)
        ∙ ap (copied (λ i. base + i) old) (sym (take_next ps j p at)))))
