-- The unifier's turns as a loop takes them: what is left to do stays the same from turn to turn.
use Rattle.std.proofs.Common.{◌≡◌, ℕ, zero, suc, ◌+◌, ◌-◌, ◌<◌, ◌≤◌, Bool, true, false, eqb, ◌⊎◌, List, [], ◌∷◌, length, Some, None, sym, refl, ap, ◌∙◌, subst, inl, inr, arith}
use Rattle.std.proofs.lemmas.Option.{slice_get_past}
use Rattle.std.proofs.lemmas.Bool.{eq-eqb, ne_eqb, lt-ltb, le-ltb}
use Rattle.std.specs.List.{slice_get}
use Rattle.unify.specs.Cells.{Content, content_at, joined_at, rank, root, rejoin, unjoined}
use Rattle.unify.specs.Unify.{State, went, clash, link, link_down, next, after, fits, link_if, meet_roots, meet, meet_all, meet_arguments, pay_to, pay, turn, settle, rest}
use Rattle.unify.specs.Steady.{Steady, StaysSteady, reached}
use Rattle.unify.proofs.Places.{nth_inside, nth_all}
use Rattle.unify.proofs.CellLaws.{unjoined_rejoin}
use Rattle.unify.proofs.Steadiness.{pay_steady, next_steady}

-- a cell that is joined to none leaves room on the trail
pub room_for : {V : Type 0} (s : State V) → Steady s → (i : ℕ) → i < length s.cells → joined_at s.cells i ≡ None →
    length s.trail < length s.cells
room_for s st i h e =
    let k : suc (unjoined (rejoin s.cells i (Some 0))) ≡ unjoined s.cells = unjoined_rejoin s.cells i 0 h e in
    let m : unjoined s.cells + length s.trail ≤ length s.cells = st.room in omega arith

module _ {V : Type 0} (same : V → V → Bool) (open_joins : Bool) where
  -- the ways in which two cells meet, by their roots
  module _ (s : State V) (x y r t : ℕ) (rx : r ≡ root s.cells x) (ty : t ≡ root s.cells y) where
    at_roots : meet_roots same open_joins (eqb r t) s r t ≡ meet same open_joins s x y
    unfolding meet
    at_roots = λ i. meet_roots same open_joins (eqb (rx i) (ty i)) s (rx i) (ty i)

    -- one root already
    pub meet_same : r ≡ t → went s ≡ meet same open_joins s x y
    unfolding meet_roots
    meet_same e = ap (λ b. meet_roots same open_joins b s r t) (sym (eq-eqb r t e)) ∙ at_roots

    fitting : (r ≡ t → ⊥) → (b : Bool) → fits same open_joins (content_at s.cells r) (content_at s.cells t) ≡ b →
        link_if same open_joins b s r t ≡ meet same open_joins s x y
    unfolding meet_roots
    fitting n b e =
        ap (λ b. link_if same open_joins b s r t) (sym e) ∙ (ap (λ b. meet_roots same open_joins b s r t) (sym (ne_eqb r t n)) ∙ at_roots)

    -- roots that do not fit
    pub meet_unfit : (r ≡ t → ⊥) → fits same open_joins (content_at s.cells r) (content_at s.cells t) ≡ false → clash s ≡ meet same open_joins s x y
    unfolding link_if
    meet_unfit n e = fitting n false e

    -- the second root is the higher one
    pub meet_up : (r ≡ t → ⊥) → fits same open_joins (content_at s.cells r) (content_at s.cells t) ≡ true →
        rank s.cells r < rank s.cells t → went (link s t r) ≡ meet same open_joins s x y
    unfolding link_if link_down
    meet_up n e h = ap (λ b. went (link_down b s r t)) (sym (lt-ltb (rank s.cells r) (rank s.cells t) h)) ∙ fitting n true e

    -- the first root is the higher one
    pub meet_down : (r ≡ t → ⊥) → fits same open_joins (content_at s.cells r) (content_at s.cells t) ≡ true →
        rank s.cells t ≤ rank s.cells r → went (link s r t) ≡ meet same open_joins s x y
    unfolding link_if link_down
    meet_down n e h = ap (λ b. went (link_down b s r t)) (sym (le-ltb (rank s.cells r) (rank s.cells t) h)) ∙ fitting n true e

  -- two lists, pair by pair
  pub all_went : (s t : State V) (x y : ℕ) (xs ys : List ℕ) → meet same open_joins s x y ≡ went t →
      meet_all same open_joins s (x ∷ xs) (y ∷ ys) ≡ meet_all same open_joins t xs ys
  unfolding meet_all after
  all_went s t x y xs ys e = ap (λ m. after m (λ t. meet_all same open_joins t xs ys)) e

  pub all_clash : (s t : State V) (x y : ℕ) (xs ys : List ℕ) → meet same open_joins s x y ≡ clash t →
      meet_all same open_joins s (x ∷ xs) (y ∷ ys) ≡ clash t
  unfolding meet_all after
  all_clash s t x y xs ys e = ap (λ m. after m (λ t. meet_all same open_joins t xs ys)) e

  -- to the end of the shorter list
  pub all_done : (s : State V) (xs ys : List ℕ) → (xs ≡ []) ⊎ (ys ≡ []) → meet_all same open_joins s xs ys ≡ went s
  unfolding meet_all
  all_done s xs ys (inl e) = ap (λ l. meet_all same open_joins s l ys) e
  all_done s [] ys (inr e) = refl
  all_done s (x ∷ xs) ys (inr e) = ap (λ l. meet_all same open_joins s (x ∷ xs) l) e

  -- what a trail's entry owes
  pub pay_none : (s : State V) (i : ℕ) → joined_at s.cells i ≡ None → pay same open_joins s i ≡ went s
  unfolding pay pay_to
  pay_none s i e = ap (λ o. pay_to same open_joins o s i) e

  pub pay_some : (s : State V) (i j : ℕ) (c d : Content V) → joined_at s.cells i ≡ Some j → content_at s.cells i ≡ c → content_at s.cells j ≡ d →
      pay same open_joins s i ≡ meet_arguments same open_joins s c d
  unfolding pay pay_to
  pay_some s i j c d e p q = ap (λ o. pay_to same open_joins o s i) e ∙ (λ k. meet_arguments same open_joins s (p k) (q k))

  settle_done : (n : ℕ) (s : State V) → length s.trail ≤ s.place → settle same open_joins n s ≡ went s
  unfolding settle turn
  settle_done zero s h = refl
  settle_done (suc n) s h = ap (λ o. turn same open_joins o s (settle same open_joins n)) (slice_get_past s.trail s.place h)

  settle_turn : (n : ℕ) (s : State V) (i : ℕ) → slice_get s.trail s.place ≡ Some i →
      settle same open_joins (suc n) s ≡ after (pay same open_joins s i) (λ t. settle same open_joins n (next t))
  unfolding settle turn
  settle_turn n s i e = ap (λ o. turn same open_joins o s (settle same open_joins n)) e

  -- at the end of the trail nothing is left to do
  pub rest_done : (s : State V) → length s.trail ≤ s.place → rest same open_joins s ≡ went s
  unfolding rest
  rest_done s h = settle_done (length s.cells - s.place) s h

  module _ (s : State V) (st : Steady s) (i : ℕ) (at : slice_get s.trail s.place ≡ Some i) where
    -- the trail's entry is a cell
    pub entry_inside : i < length s.cells
    entry_inside = nth_all (λ k. k < length s.cells) s.trail st.trailed s.place i at

    one_turn : rest same open_joins s ≡ after (pay same open_joins s i) (λ t. settle same open_joins (length s.cells - suc s.place) (next t))
    unfolding rest
    one_turn = ap (λ n. settle same open_joins n s) fuel ∙ settle_turn (length s.cells - suc s.place) s i at
      where
        fuel : length s.cells - s.place ≡ suc (length s.cells - suc s.place)
        fuel =
            let h : s.place < length s.trail = nth_inside s.trail s.place i at in
            let k : unjoined s.cells + length s.trail ≤ length s.cells = st.room in omega arith

    -- a turn that went on leaves the same to do
    pub rest_went : (t : State V) → pay same open_joins s i ≡ went t → rest same open_joins s ≡ rest same open_joins (next t)
    unfolding rest after next
    rest_went t e = one_turn ∙ (ap (λ m. after m (λ t. settle same open_joins (length s.cells - suc s.place) (next t))) e
        ∙ ap (λ n. settle same open_joins n (next t)) fuel)
      where
        stays : StaysSteady s t
        stays = subst (λ m. StaysSteady s (reached m)) e (pay_steady same open_joins s st i)

        fuel : length s.cells - suc s.place ≡ length t.cells - suc t.place
        fuel = omega (arith, stays.number, stays.place)

    -- a clash ends it
    pub rest_clash : (t : State V) → pay same open_joins s i ≡ clash t → rest same open_joins s ≡ clash t
    unfolding after
    rest_clash t e = one_turn ∙ ap (λ m. after m (λ t. settle same open_joins (length s.cells - suc s.place) (next t))) e

    -- and the next state is steady again
    pub turn_steady : (t : State V) → pay same open_joins s i ≡ went t → Steady (next t)
    turn_steady t e = next_steady t stays.steady (omega (arith, stays.place, stays.longer, nth_inside s.trail s.place i at))
      where
        stays : StaysSteady s t
        stays = subst (λ m. StaysSteady s (reached m)) e (pay_steady same open_joins s st i)
