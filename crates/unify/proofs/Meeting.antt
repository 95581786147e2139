-- The steps of the unifier keep its invariant, and its turns end.
use Rattle.std.proofs.Common.{◌≡◌, ℕ, zero, suc, ◌+◌, ◌-◌, ◌<◌, ◌≤◌, Bool, true, false, eqb, ltb, ◌⊎◌, List, [], ◌∷◌, length, Some, None, Option, sym, refl, ap, ◌∙◌, subst, subst₂, inl, inr, arith}
use Rattle.std.proofs.lemmas.Bool.{eqb-true, eqb-false, ltb-true, ltb-false, cases_lt}
use Rattle.std.specs.List.{slice_get, AllByRecursion}
use Rattle.theory.specs.Trees.{Tree, Same}
use Rattle.theory.specs.Equations.{Children}
use Rattle.unify.specs.Cells.{Content, variable, leaf, node, Cell, most, content_at, joined_at, rejoin, rank, root, unjoined}
use Rattle.unify.specs.Solved.{Matches, SameRoots, Descends, Solved}
use Rattle.unify.specs.Unify.{State, Move, went, clash, start, link, link_down, next, after, clear, fits, link_if, meet_roots, meet, meet_all, meet_arguments, pay_to, pay, turn, settle, rest, join}
use Rattle.unify.specs.Theorems.{Decides}
use Rattle.unify.proofs.Places.{none_some, some_same}
use Rattle.unify.proofs.CellLaws.{unjoined_few, content_past}
use Rattle.unify.proofs.Roots.{IsVariable, root_some, root_ends, root_inside}
use Rattle.unify.proofs.CellReads.{Reads, MeetsContent, reads_root}
use Rattle.unify.proofs.Matching.{SameLength}
use Rattle.unify.proofs.Growth.{More, root_on, one_root_on, nth_front, nth_none}
use Rattle.unify.proofs.Fitting.{ranks_apart, fit_down, fit_up, fit_written}
use Rattle.unify.proofs.Invariant.{Inv, Follows, inv_descends, start_inv, next_inv, inv_rank, link_inv, more, new_down, here}

-- a state that came from another with nothing taken back and nothing paid
pub record Grows {V : Type 0} (s t : State V) : Type 0 where
  pub place : t.place ≡ s.place
  pub trail : (k i : ℕ) → slice_get s.trail k ≡ Some i → slice_get t.trail k ≡ Some i
  pub joins : More s.cells t.cells

module _ {V : Type 0} where
  grows_refl : (s : State V) → Grows s s
  grows_refl s = record { place = refl; trail = λ k i e. e; joins = λ i j e. e }

  grows_trans : (s t u : State V) → Grows s t → Grows t u → Grows s u
  grows_trans s t u g h = record {
    place = h.place ∙ g.place;
    trail = λ k i e. h.trail k i (g.trail k i e);
    joins = λ i j e. h.joins i j (g.joins i j e);
  }

module _ {V : Type 0} (same : V → V → Bool) (open_joins : Bool) (law : Decides same)
    (old : List (Cell V)) (ok : Solved old) (a b : ℕ) (No : Type 0)
    (on_clash : (s : State V) → Inv open_joins old a b s → (r t : ℕ) →
    joined_at s.cells r ≡ None → joined_at s.cells t ≡ None → (r ≡ t → ⊥) →
    fits same open_joins (content_at old r) (content_at old t) ≡ false → Follows open_joins old a b r t → No) where
  abbrev OK : State V → Type 0
  OK s = Inv open_joins old a b s

  abbrev Sound : ℕ → ℕ → Type 0
  Sound x y = Follows open_joins old a b x y

  -- a move that went on has come to such a state; a clash says no, and can be undone
  abbrev pub Good : (State V → Type 0) → Move V → Type 0
  Good G (went t) = G t
  Good G (clash t) = No × (clear t.trail t.cells ≡ old)

  after_good : (G H : State V → Type 0) (m : Move V) (step : State V → Move V) →
      Good G m → ((t : State V) → G t → Good H (step t)) → Good H (after m step)
  unfolding after
  after_good G H (went t) step g f = f t g
  after_good G H (clash t) step g f = g

  few : (s : State V) → OK s → length s.cells ≤ most
  few s inv = subst (λ n. n ≤ most) (sym inv.number) ok.few

  -- two cells have one root now
  pub record Met (s : State V) (x y : ℕ) (t : State V) : Type 0 where
    pub inv : OK t
    pub grows : Grows s t
    pub one : root t.cells x ≡ root t.cells y

  -- what holds of two cells holds of their roots
  to_roots : (s : State V) → OK s → (x y : ℕ) → Sound x y → Sound (root s.cells x) (root s.cells y)
  to_roots s inv x y f ρ r e p =
      sym (at x p) ∙ (f ρ r e p ∙ at y p)
    where
      at : (i : ℕ) → Same (ρ i) (ρ (root s.cells i))
      at = reads_root ρ s.cells (inv_descends open_joins old a b s inv) (λ i j q. inv.follows i j q ρ r e)

  map_good : (G H : State V → Type 0) (m : Move V) → Good G m → ((t : State V) → G t → H t) → Good H m
  map_good G H (went t) g f = f t g
  map_good G H (clash t) g f = g

  down : (s : State V) → OK s → Descends s.cells
  down s inv = inv_descends open_joins old a b s inv

  -- two roots, of x and y
  module _ (s : State V) (inv : OK s) (x y r t : ℕ) (rx : root s.cells x ≡ r) (ty : root s.cells y ≡ t)
      (r_in : r < length s.cells) (t_in : t < length s.cells)
      (r_free : joined_at s.cells r ≡ None) (t_free : joined_at s.cells t ≡ None) (sound : Sound r t) where
    met : (high low : ℕ) → ((f : ℕ → ℕ) → f high ≡ f low → f r ≡ f t) →
        high < length s.cells → joined_at s.cells high ≡ None → rank old low < rank old high →
        Matches SameLength (content_at old high) (content_at old low) → Sound high low →
        (open_joins ≡ false → IsVariable (content_at old high) → ⊥) → Met s x y (link s high low)
    unfolding link
    met high low way inside free lower fit follows bound = record {
      inv = link_inv open_joins old a b s inv high low inside free lower fit follows bound;
      grows = record { place = refl; trail = nth_front s.trail (high ∷ []); joins = added };
      one = on x r rx ∙ (way (root new) (root_some new falls high low (here open_joins old a b s inv high low inside free)) ∙ sym (on y t ty));
    }
      where
        new : List (Cell V)
        new = rejoin s.cells high (Some low)

        added : More s.cells new
        added = more open_joins old a b s inv high low inside free

        falls : Descends new
        falls = new_down open_joins old a b s inv high low inside free lower fit follows bound

        on : (i k : ℕ) → root s.cells i ≡ k → root new i ≡ root new k
        on i k e = root_on s.cells new added (down s inv) falls i ∙ ap (root new) e

    below : (i j : ℕ) → rank s.cells i < rank s.cells j → rank old i < rank old j
    below i j h = subst₂ (λ m n. m < n) (inv_rank open_joins old a b s inv i) (inv_rank open_joins old a b s inv j) h

    no_lower : (i j : ℕ) → rank s.cells i ≤ rank s.cells j → rank old i ≤ rank old j
    no_lower i j h = subst₂ (λ m n. m ≤ n) (inv_rank open_joins old a b s inv i) (inv_rank open_joins old a b s inv j) h

    small : (i : ℕ) → i < length s.cells → i < most
    small i h = let k : length s.cells ≤ most = few s inv in omega arith

    linked : (r ≡ t → ⊥) → fits same open_joins (content_at old r) (content_at old t) ≡ true →
        (first : Bool) → ltb (rank s.cells r) (rank s.cells t) ≡ first → Met s x y (link_down first s r t)
    unfolding link_down rank
    linked apart fit true e = met t r (λ f q. sym q) t_in t_free lower
        (fit_up same open_joins law (content_at old r) (content_at old t) r t (small t t_in) lower fit)
        (λ ρ d q p. sym (sound ρ d q p)) (λ n. (fit_written same open_joins law n (content_at old r) (content_at old t) fit).1)
      where
        lower : rank old r < rank old t
        lower = below r t (ltb-true (rank s.cells r) (rank s.cells t) e)
    linked apart fit false e = met r t (λ f q. q) r_in r_free lower
        (fit_down same open_joins law (content_at old r) (content_at old t) r t (small r r_in) lower fit)
        sound (λ n. (fit_written same open_joins law n (content_at old r) (content_at old t) fit).0)
      where
        lower : rank old t < rank old r
        lower = ranks_apart (content_at old t) (content_at old r) t r (small t t_in) (small r r_in) (λ q. apart (sym q))
            (no_lower t r (ltb-false (rank s.cells r) (rank s.cells t) e))

    fitted : (r ≡ t → ⊥) → (f : Bool) → fits same open_joins (content_at s.cells r) (content_at s.cells t) ≡ f →
        Good (Met s x y) (link_if same open_joins f s r t)
    unfolding link_if
    fitted apart true e = linked apart (subst₂ (λ c d. fits same open_joins c d ≡ true) (inv.contents r) (inv.contents t) e)
        (ltb (rank s.cells r) (rank s.cells t)) refl
    fitted apart false e = (
      on_clash s inv r t r_free t_free apart (subst₂ (λ c d. fits same open_joins c d ≡ false) (inv.contents r) (inv.contents t) e) sound,
      inv.undone,
    )

    meeting : (f : Bool) → eqb r t ≡ f → Good (Met s x y) (meet_roots same open_joins f s r t)
    unfolding meet_roots
    meeting true e = record { inv = inv; grows = grows_refl s; one = rx ∙ (eqb-true r t e ∙ sym ty) }
    meeting false e = fitted (eqb-false r t e) (fits same open_joins (content_at s.cells r) (content_at s.cells t)) refl

  pub meet_good : (s : State V) → OK s → (x y : ℕ) → x < length old → y < length old → Sound x y →
      Good (Met s x y) (meet same open_joins s x y)
  unfolding meet
  meet_good s inv x y hx hy f =
      meeting s inv x y (root s.cells x) (root s.cells y) refl refl (inside x hx) (inside y hy)
      (root_ends s.cells (down s inv) x) (root_ends s.cells (down s inv) y) (to_roots s inv x y f)
      (eqb (root s.cells x) (root s.cells y)) refl
    where
      inside : (i : ℕ) → i < length old → root s.cells i < length s.cells
      inside i h = root_inside s.cells (down s inv) (few s inv) i (subst (λ n. i < n) (sym inv.number) h)

  -- two lists of cells, pair by pair
  abbrev AllSound : List ℕ → List ℕ → Type 0
  AllSound [] ys = Unit {0}
  AllSound (x ∷ xs) [] = Unit {0}
  AllSound (x ∷ xs) (y ∷ ys) = Sound x y × AllSound xs ys

  pub record MetAll (s : State V) (xs ys : List ℕ) (t : State V) : Type 0 where
    pub inv : OK t
    pub grows : Grows s t
    pub ones : SameRoots t.cells xs ys

  pub meet_all_good : (xs ys : List ℕ) (s : State V) → OK s → AllByRecursion (λ x. x < length old) xs → AllByRecursion (λ y. y < length old) ys →
      length xs ≡ length ys → AllSound xs ys → Good (MetAll s xs ys) (meet_all same open_joins s xs ys)
  unfolding meet_all
  meet_all_good [] [] s inv hx hy e f = record { inv = inv; grows = grows_refl s; ones = tt }
  meet_all_good [] (y ∷ ys) s inv hx hy e f = absurd (omega arith)
  meet_all_good (x ∷ xs) [] s inv hx hy e f = absurd (omega arith)
  meet_all_good (x ∷ xs) (y ∷ ys) s inv hx hy e f =
      after_good (Met s x y) (MetAll s (x ∷ xs) (y ∷ ys)) (meet same open_joins s x y) (λ t. meet_all same open_joins t xs ys)
      (meet_good s inv x y hx.0 hy.0 f.0)
      (λ t m. map_good (MetAll t xs ys) (MetAll s (x ∷ xs) (y ∷ ys)) (meet_all same open_joins t xs ys)
      (meet_all_good xs ys t m.inv hx.1 hy.1 (omega arith) f.1)
      (λ u n. record {
        inv = n.inv;
        grows = grows_trans s t u m.grows n.grows;
        ones = (one_root_on t.cells u.cells n.grows.joins (down t m.inv) (down u n.inv) x y m.one, n.ones);
      }))

  -- the entry at the present place is paid for
  pub record Paid (s t : State V) : Type 0 where
    pub inv : OK (next t)
    pub place : t.place ≡ s.place
    pub joins : More s.cells t.cells

  lower_all : (i : ℕ) (xs : List ℕ) → i < length old → AllByRecursion (λ x. x < i) xs → AllByRecursion (λ x. x < length old) xs
  lower_all i [] h l = tt
  lower_all i (x ∷ xs) h l = (let k : x < i = l.0 in omega arith, lower_all i xs h l.1)

  node_inside : (k f : ℕ) (xs : List ℕ) → content_at old k ≡ node f xs → k < length old
  node_inside k f xs e = go (cases_lt k (length old))
    where
      go : (k < length old) ⊎ (length old ≤ k) → k < length old
      go (inl h) = h
      go (inr h) = absurd (subst IsVariable (sym (content_past old k h) ∙ e) tt)

  -- nodes with one tree have the same trees as arguments
  pairs_sound : (i j k : ℕ) (xs ys : List ℕ) →
      ((ρ : ℕ → Tree V) → Reads old ρ → Same (ρ a) (ρ b) → Same (ρ i) (ρ j) × Children ρ (ρ i) k xs × Children ρ (ρ j) k ys) → AllSound xs ys
  pairs_sound i j k [] ys f = tt
  pairs_sound i j k (x ∷ xs) [] f = tt
  pairs_sound i j k (x ∷ xs) (y ∷ ys) f = (
    λ ρ r e p. let h = f ρ r e in sym (h.1.0 p) ∙ (h.0 (k ∷ p) ∙ h.2.0 p),
    pairs_sound i j (suc k) xs ys (λ ρ r e. let h = f ρ r e in (h.0, h.1.1, h.2.1)),
  )

  module _ (s : State V) (inv : OK s) (i : ℕ) (at : slice_get s.trail s.place ≡ Some i) where
    -- the joined cell i now agrees with its target j
    paid : (j : ℕ) → joined_at s.cells i ≡ Some j → (t : State V) → OK t → Grows s t →
        Matches (SameRoots t.cells) (content_at old i) (content_at old j) → Paid s t
    paid j e t inv' g m = record {
      inv = next_inv open_joins old a b t inv' i (ap (slice_get t.trail) g.place ∙ g.trail s.place i at)
          (λ k q. subst (λ n. Matches (SameRoots t.cells) (content_at old i) (content_at old n)) (some_same (sym (g.joins i j e) ∙ q)) m);
      place = g.place;
      joins = g.joins;
    }

    of_node : (ρ : ℕ → Tree V) → Reads old ρ → (k f : ℕ) (xs : List ℕ) → content_at old k ≡ node f xs → Children ρ (ρ k) 0 xs
    of_node ρ r k f xs e =
        let m : MeetsContent ρ k (node f xs) = subst (MeetsContent ρ k) e (r.contents k) in m.1

    module _ (j : ℕ) (e : joined_at s.cells i ≡ Some j) where
      settled : (c d : Content V) → content_at old i ≡ c → content_at old j ≡ d → (t : State V) → OK t → Grows s t →
          Matches (SameRoots t.cells) c d → Paid s t
      settled c d p q t inv' g m = paid j e t inv' g (subst₂ (λ x y. Matches (SameRoots t.cells) x y) (sym p) (sym q) m)

      paying : (c d : Content V) → content_at old i ≡ c → content_at old j ≡ d → Matches SameLength c d →
          Good (Paid s) (meet_arguments same open_joins s c d)
      unfolding meet_arguments
      paying variable d p q m = settled variable d p q s inv (grows_refl s) tt
      paying (leaf v) variable p q m = absurd m
      paying (leaf v) (leaf w) p q m = settled (leaf v) (leaf w) p q s inv (grows_refl s) m
      paying (leaf v) (node g ys) p q m = absurd m
      paying (node f xs) variable p q m = absurd m
      paying (node f xs) (leaf w) p q m = absurd m
      paying (node f xs) (node g ys) p q m =
          map_good (MetAll s xs ys) (Paid s) (meet_all same open_joins s xs ys)
          (meet_all_good xs ys s inv
          (lower_all i xs (node_inside i f xs p) (ok.lower i f xs p).1)
          (lower_all j ys (node_inside j g ys q) (ok.lower j g ys q).1)
          m.1
          (pairs_sound i j 0 xs ys (λ ρ r h. (inv.follows i j e ρ r h, of_node ρ r i f xs p, of_node ρ r j g ys q))))
          (λ t n. settled (node f xs) (node g ys) p q t n.inv n.grows (m.0, n.ones))

      pay_some : Good (Paid s) (meet_arguments same open_joins s (content_at s.cells i) (content_at s.cells j))
      pay_some = subst₂ (λ c d. Good (Paid s) (meet_arguments same open_joins s c d)) (sym (inv.contents i)) (sym (inv.contents j))
          (paying (content_at old i) (content_at old j) refl refl (inv.labels i j e))

    pay_any : (o : Option ℕ) → joined_at s.cells i ≡ o → Good (Paid s) (pay_to same open_joins o s i)
    unfolding pay_to
    pay_any None e = record
        { inv = next_inv open_joins old a b s inv i at (λ k q. absurd (none_some (sym e ∙ q))); place = refl; joins = λ k j q. q }
    pay_any (Some j) e = pay_some j e

    pub pay_good : Good (Paid s) (pay same open_joins s i)
    unfolding pay
    pay_good = pay_any (joined_at s.cells i) refl

  -- nothing is owed any more
  pub record Settled (s t : State V) : Type 0 where
    pub inv : OK t
    pub done : length t.trail ≤ t.place
    pub joins : More s.cells t.cells

  -- a turn for each cell that is not joined yet or still owes is enough
  pub settle_good : (n : ℕ) (s : State V) → OK s → unjoined old ≤ n + s.place → Good (Settled s) (settle same open_joins n s)
  unfolding settle turn next
  settle_good zero s inv h =
      record { inv = inv; done = let k : unjoined s.cells + length s.trail ≡ unjoined old = inv.count in omega arith; joins = λ i j e. e }
  settle_good (suc n) s inv h = turning (slice_get s.trail s.place) refl (settle_good n)
    where
      turning : (o : Option ℕ) → slice_get s.trail s.place ≡ o →
          ((t : State V) → OK t → unjoined old ≤ n + t.place → Good (Settled t) (settle same open_joins n t)) →
          Good (Settled s) (turn same open_joins o s (settle same open_joins n))
      turning None e rest = record { inv = inv; done = nth_none s.trail s.place e; joins = λ i j q. q }
      turning (Some i) e rest = after_good (Paid s) (Settled s) (pay same open_joins s i) (λ t. settle same open_joins n (next t))
          (pay_good s inv i e)
          (λ t p. map_good (Settled (next t)) (Settled s) (settle same open_joins n (next t))
          (rest (next t) p.inv (let q : t.place ≡ s.place = p.place in omega arith))
          (λ u z. record { inv = z.inv; done = z.done; joins = λ k j q. z.joins k j (p.joins k j q) }))

  -- the whole run
  pub record Joined (t : State V) : Type 0 where
    pub inv : OK t
    pub done : length t.trail ≤ t.place
    pub one : root t.cells a ≡ root t.cells b

  pub rest_good : (s : State V) → OK s → Good (Settled s) (rest same open_joins s)
  unfolding rest
  rest_good s inv =
      settle_good (length s.cells - s.place) s inv
      (let h : unjoined old ≤ length old = unjoined_few old in let k : length s.cells ≡ length old = inv.number in omega arith)

  pub join_good : a < length old → b < length old → Good Joined (join same open_joins old a b)
  unfolding join
  join_good ha hb =
      after_good (Met (start old) a b) Joined (meet same open_joins (start old) a b) (rest same open_joins)
      (meet_good (start old) (start_inv open_joins old a b ok) a b ha hb (λ ρ r e. e))
      (λ t m. map_good (Settled t) Joined (rest same open_joins t)
      (rest_good t m.inv)
      (λ u z. record {
        inv = z.inv;
        done = z.done;
        one = one_root_on t.cells u.cells z.joins (down t m.inv) (down u z.inv) a b m.one;
      }))
