-- A search comes to at most one outcome.
use Rattle.std.proofs.Common.{◌≡◌, ℕ, suc, ◌<◌, ◌≤◌, List, [], ◌∷◌, ◌++◌, sym, refl, ap, ◌∙◌, subst, arith}
use mathlib.Core.Path.{subst₃}
use mathlib.Core.List.{cons≢nil, head-eq_of_cons-eq, tail-eq_of_cons-eq}
use Rattle.std.specs.List.{AllByRecursion}
use Rattle.theory.specs.Equations.{Equation, Solvable}
use Rattle.theory.specs.Entries.{Entry}
use Rattle.theory.specs.Records.{Step, Replay, went, start, step, together}
use Rattle.theory.specs.Search.{tries, Point, Limits, Outcome, Searches, Solve, May, without, onward}
use Rattle.theory.specs.Search.{done, exhausted, back, out_of_tries, out_of_steps, out_of_cells, falls, stands}
use Rattle.theory.proofs.Steps.{went_inj}

-- a list is not both empty and not
two : {l : List Step} {x : Step} {xs : List Step} {A : Type 0} → l ≡ [] → l ≡ x ∷ xs → A
two e f = absurd (cons≢nil (sym f ∙ e))

-- a number is not both at least and below another
over : {m n : ℕ} {A : Type 0} → m ≤ n → n < m → A
over a b = absurd (bad a b)
  where
    bad : {m n : ℕ} → m ≤ n → n < m → ⊥
    bad a b = omega arith

-- a list has one first element
same_x : {l : List Step} {x y : Step} {xs ys : List Step} → l ≡ x ∷ xs → l ≡ y ∷ ys → x ≡ y
same_x e f = head-eq_of_cons-eq (sym e ∙ f)

-- and one rest
same_xs : {l : List Step} {x y : Step} {xs ys : List Step} → l ≡ x ∷ xs → l ≡ y ∷ ys → xs ≡ ys
same_xs e f = tail-eq_of_cons-eq (sym e ∙ f)

module _ {V : Type 0} (book : List (Entry V)) (known : List (Equation V ℕ)) (lim : Limits) where
  -- where nothing is pending no try is left
  abbrev Ok : Point V → Type 0
  Ok p = p.at.pending ≡ [] → p.left ≡ []

  -- fewer tries left make no difference to it
  ok_without : (p : Point V) (x : Step) (xs : List Step) → p.left ≡ x ∷ xs → Ok p → Ok (without p xs)
  ok_without p x xs l o e = two (o e) l

  -- a new point is so
  ok_new : (r : Replay V) (s : List Step) → Ok (record { at = r; steps = s; left = tries book r.pending })
  ok_new r s e = ap (tries book) e

  -- the same step leads to the same replay
  same_r : (r : Replay V) {x y : Step} {a b : Replay V} → x ≡ y → step book r x ≡ went a →
      step book r y ≡ went b → a ≡ b
  same_r r e f g = went_inj (sym f ∙ (ap (step book r) e ∙ g))

  -- two tries that are next at a point are the same, and lead to the same replay
  module _ {p : Point V} {n : ℕ} {x y : Step} {xs ys : List Step} {a b : Replay V} where
    -- the replay after it is the same
    same_may : May book known lim p n x xs a → May book known lim p n y ys b → a ≡ b
    same_may f g = same_r p.at (same_x f.next g.next) f.after g.after

    -- it does not both fit and not fit
    fit : p.left ≡ x ∷ xs → step book p.at x ≡ went a → lim.free < a.cells →
        May book known lim p n y ys b → ⊥
    fit l s c m =
        over m.cells (subst (λ q. lim.free < q.cells) (same_r p.at (same_x l m.next) s m.after) c)

    -- where it stands the search is the same
    same_stand : (below : List (Point V)) {o : Outcome} → May book known lim p n x xs a →
        May book known lim p n y ys b →
        Searches book known lim (onward book p x a) (without p xs ∷ below) (suc n) o →
        Searches book known lim (onward book p y b) (without p ys ∷ below) (suc n) o
    same_stand below {o = o} f g t =
        subst₃ (λ x xs a. Searches book known lim (onward book p x a) (without p xs ∷ below) (suc n) o)
        (same_x f.next g.next) (same_xs f.next g.next) (same_may f g) t

    -- and where it falls
    same_fall : (below : List (Point V)) {o : Outcome} → May book known lim p n x xs a →
        May book known lim p n y ys b →
        Searches book known lim (without p xs) below (suc n) o →
        Searches book known lim (without p ys) below (suc n) o
    same_fall below {o = o} f g t =
        subst (λ q. Searches book known lim (without p q) below (suc n) o) (same_xs f.next g.next) t

  -- one case for each two ways to go on
  one : {p : Point V} {below : List (Point V)} {n : ℕ} {o o' : Outcome} →
      Searches book known lim p below n o → Searches book known lim p below n o' → Ok p → AllByRecursion Ok below → o ≡ o'
  one (done e1) (done e2) ok all = refl
  one (done e1) (exhausted s2) ok all = absurd (s2.goal e1)
  one (done e1) (back s2 t2) ok all = absurd (s2.goal e1)
  one (done e1) (out_of_tries x2 xs2 k2 e2) ok all = two (ok e1) k2
  one (done e1) (out_of_steps x2 xs2 k2 e2 f2) ok all = two (ok e1) k2
  one (done e1) (out_of_cells x2 xs2 r2 k2 e2 f2 g2 c2) ok all = two (ok e1) k2
  one (done e1) (falls x2 xs2 r2 m2 u2 t2) ok all = two (ok e1) m2.next
  one (done e1) (stands x2 xs2 r2 m2 u2 t2) ok all = two (ok e1) m2.next
  one (exhausted s1) (done e2) ok all = absurd (s1.goal e2)
  one (exhausted s1) (exhausted s2) ok all = refl
  one (exhausted s1) (out_of_tries x2 xs2 k2 e2) ok all = two s1.none k2
  one (exhausted s1) (out_of_steps x2 xs2 k2 e2 f2) ok all = two s1.none k2
  one (exhausted s1) (out_of_cells x2 xs2 r2 k2 e2 f2 g2 c2) ok all = two s1.none k2
  one (exhausted s1) (falls x2 xs2 r2 m2 u2 t2) ok all = two s1.none m2.next
  one (exhausted s1) (stands x2 xs2 r2 m2 u2 t2) ok all = two s1.none m2.next
  one (back s1 t1) (done e2) ok all = absurd (s1.goal e2)
  one (back s1 t1) (back s2 t2) ok all = one t1 t2 all.0 all.1
  one (back s1 t1) (out_of_tries x2 xs2 k2 e2) ok all = two s1.none k2
  one (back s1 t1) (out_of_steps x2 xs2 k2 e2 f2) ok all = two s1.none k2
  one (back s1 t1) (out_of_cells x2 xs2 r2 k2 e2 f2 g2 c2) ok all = two s1.none k2
  one (back s1 t1) (falls x2 xs2 r2 m2 u2 t2) ok all = two s1.none m2.next
  one (back s1 t1) (stands x2 xs2 r2 m2 u2 t2) ok all = two s1.none m2.next
  one (out_of_tries x1 xs1 k1 e1) (done e2) ok all = two (ok e2) k1
  one (out_of_tries x1 xs1 k1 e1) (exhausted s2) ok all = two s2.none k1
  one (out_of_tries x1 xs1 k1 e1) (back s2 t2) ok all = two s2.none k1
  one (out_of_tries x1 xs1 k1 e1) (out_of_tries x2 xs2 k2 e2) ok all = refl
  one (out_of_tries x1 xs1 k1 e1) (out_of_steps x2 xs2 k2 e2 f2) ok all = absurd (e2 e1)
  one (out_of_tries x1 xs1 k1 e1) (out_of_cells x2 xs2 r2 k2 e2 f2 g2 c2) ok all = absurd (e2 e1)
  one (out_of_tries x1 xs1 k1 e1) (falls x2 xs2 r2 m2 u2 t2) ok all = absurd (m2.budget e1)
  one (out_of_tries x1 xs1 k1 e1) (stands x2 xs2 r2 m2 u2 t2) ok all = absurd (m2.budget e1)
  one (out_of_steps x1 xs1 k1 e1 f1) (done e2) ok all = two (ok e2) k1
  one (out_of_steps x1 xs1 k1 e1 f1) (exhausted s2) ok all = two s2.none k1
  one (out_of_steps x1 xs1 k1 e1 f1) (back s2 t2) ok all = two s2.none k1
  one (out_of_steps x1 xs1 k1 e1 f1) (out_of_tries x2 xs2 k2 e2) ok all = absurd (e1 e2)
  one (out_of_steps x1 xs1 k1 e1 f1) (out_of_steps x2 xs2 k2 e2 f2) ok all = refl
  one (out_of_steps x1 xs1 k1 e1 f1) (out_of_cells x2 xs2 r2 k2 e2 f2 g2 c2) ok all = over f1 f2
  one (out_of_steps x1 xs1 k1 e1 f1) (falls x2 xs2 r2 m2 u2 t2) ok all = over f1 m2.room
  one (out_of_steps x1 xs1 k1 e1 f1) (stands x2 xs2 r2 m2 u2 t2) ok all = over f1 m2.room
  one (out_of_cells x1 xs1 r1 k1 e1 f1 g1 c1) (done e2) ok all = two (ok e2) k1
  one (out_of_cells x1 xs1 r1 k1 e1 f1 g1 c1) (exhausted s2) ok all = two s2.none k1
  one (out_of_cells x1 xs1 r1 k1 e1 f1 g1 c1) (back s2 t2) ok all = two s2.none k1
  one (out_of_cells x1 xs1 r1 k1 e1 f1 g1 c1) (out_of_tries x2 xs2 k2 e2) ok all = absurd (e1 e2)
  one (out_of_cells x1 xs1 r1 k1 e1 f1 g1 c1) (out_of_steps x2 xs2 k2 e2 f2) ok all = over f2 f1
  one (out_of_cells x1 xs1 r1 k1 e1 f1 g1 c1) (out_of_cells x2 xs2 r2 k2 e2 f2 g2 c2) ok all = refl
  one (out_of_cells x1 xs1 r1 k1 e1 f1 g1 c1) (falls x2 xs2 r2 m2 u2 t2) ok all = absurd (fit k1 g1 c1 m2)
  one (out_of_cells x1 xs1 r1 k1 e1 f1 g1 c1) (stands x2 xs2 r2 m2 u2 t2) ok all = absurd (fit k1 g1 c1 m2)
  one (falls x1 xs1 r1 m1 u1 t1) (done e2) ok all = two (ok e2) m1.next
  one (falls x1 xs1 r1 m1 u1 t1) (exhausted s2) ok all = two s2.none m1.next
  one (falls x1 xs1 r1 m1 u1 t1) (back s2 t2) ok all = two s2.none m1.next
  one (falls x1 xs1 r1 m1 u1 t1) (out_of_tries x2 xs2 k2 e2) ok all = absurd (m1.budget e2)
  one (falls x1 xs1 r1 m1 u1 t1) (out_of_steps x2 xs2 k2 e2 f2) ok all = over f2 m1.room
  one (falls x1 xs1 r1 m1 u1 t1) (out_of_cells x2 xs2 r2 k2 e2 f2 g2 c2) ok all = absurd (fit k2 g2 c2 m1)
  one (falls {p = p} {below = below} x1 xs1 r1 m1 u1 t1) (falls x2 xs2 r2 m2 u2 t2) ok all =
      one t1 (same_fall below m2 m1 t2) (ok_without p x1 xs1 m1.next ok) all
  one (falls x1 xs1 r1 m1 u1 t1) (stands x2 xs2 r2 m2 u2 t2) ok all =
      absurd (u1 (subst (λ q. Solvable (together known q)) (same_may m2 m1) u2))
  one (stands x1 xs1 r1 m1 u1 t1) (done e2) ok all = two (ok e2) m1.next
  one (stands x1 xs1 r1 m1 u1 t1) (exhausted s2) ok all = two s2.none m1.next
  one (stands x1 xs1 r1 m1 u1 t1) (back s2 t2) ok all = two s2.none m1.next
  one (stands x1 xs1 r1 m1 u1 t1) (out_of_tries x2 xs2 k2 e2) ok all = absurd (m1.budget e2)
  one (stands x1 xs1 r1 m1 u1 t1) (out_of_steps x2 xs2 k2 e2 f2) ok all = over f2 m1.room
  one (stands x1 xs1 r1 m1 u1 t1) (out_of_cells x2 xs2 r2 k2 e2 f2 g2 c2) ok all = absurd (fit k2 g2 c2 m1)
  one (stands x1 xs1 r1 m1 u1 t1) (falls x2 xs2 r2 m2 u2 t2) ok all =
      absurd (u2 (subst (λ q. Solvable (together known q)) (same_may m1 m2) u1))
  one (stands {p = p} {below = below} x1 xs1 r1 m1 u1 t1) (stands x2 xs2 r2 m2 u2 t2) ok all =
      one t1 (same_stand below m2 m1 t2) (ok_new r1 (p.steps ++ (x1 ∷ [])))
      (ok_without p x1 xs1 m1.next ok, all)

  -- the search for a record of the goals comes to at most one outcome
  pub one_outcome : (goals : List ℕ) (o o' : Outcome) →
      Solve book known lim goals o → Solve book known lim goals o' → o ≡ o'
  one_outcome goals o o' s t = one s t (ok_new (start goals) []) tt
