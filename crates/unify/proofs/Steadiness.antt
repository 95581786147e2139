-- Every step of the unifier leaves its state steady.
use Rattle.std.proofs.Common.{◌≡◌, ℕ, suc, ◌+◌, ◌<◌, ◌≤◌, Bool, true, false, eqb, ltb, ◌⊎◌, List, [], ◌∷◌, ◌++◌, length, Some, None, Option, sym, refl, ap, ◌∙◌, subst, subst₂, inl, inr, le_trans, le_refl, arith, length-append}
use Rattle.std.proofs.lemmas.Bool.{eqb-false, ltb-true, ltb-false, cases_eq, cases_lt}
use Rattle.std.specs.List.{AllByRecursion}
use Rattle.unify.specs.Cells.{Content, variable, leaf, node, Cell, most, content_at, joined_at, rejoin, rank, root, unjoined}
use Rattle.unify.specs.Solved.{Solved}
use Rattle.unify.specs.Unify.{State, Move, went, clash, start, link, link_down, next, after, fits, link_if, meet_roots, meet, meet_all, meet_arguments, pay_to, pay}
use Rattle.unify.specs.Steady.{Steady, StaysSteady, StaysTrailed, reached}
use Rattle.unify.proofs.Places.{some_same}
use Rattle.unify.proofs.CellLaws.{unjoined_few, unjoined_rejoin, content_rejoin, content_past, rank_rejoin, length_rejoin, joined_here, joined_apart}
use Rattle.unify.proofs.Roots.{IsVariable, root_ends, root_inside}
use Rattle.unify.proofs.Fitting.{ranks_apart}

pub all_push : (P : ℕ → Type 0) (xs : List ℕ) (x : ℕ) → AllByRecursion P xs → P x → AllByRecursion P (xs ++ (x ∷ []))
all_push P [] x a p = (p, tt)
all_push P (y ∷ ys) x a p = (a.0, all_push P ys x a.1 p)

pub all_weaken : (m n : ℕ) (xs : List ℕ) → m ≤ n → AllByRecursion (λ x. x < m) xs → AllByRecursion (λ x. x < n) xs
all_weaken m n [] h a = tt
all_weaken m n (x ∷ xs) h a = (let k : x < m = a.0 in omega arith, all_weaken m n xs h a.1)

module _ {V : Type 0} where
  stays_refl : (s : State V) → Steady s → StaysTrailed s s
  stays_refl s st = record {
    stays = record { steady = st; number = refl; place = refl; longer = le_refl (length s.trail) };
    kept = refl;
  }

  stays_trans : (s t u : State V) → StaysTrailed s t → StaysTrailed t u → StaysTrailed s u
  stays_trans s t u g h = record {
    stays = record {
      steady = h.stays.steady;
      number = h.stays.number ∙ g.stays.number;
      place = h.stays.place ∙ g.stays.place;
      longer = le_trans g.stays.longer h.stays.longer;
    };
    kept = h.kept ∙ g.kept;
  }

  after_trailed : (s : State V) (m : Move V) (step : State V → Move V) → StaysTrailed s (reached m) →
      ((t : State V) → StaysTrailed s t → StaysTrailed s (reached (step t))) → StaysTrailed s (reached (after m step))
  unfolding after
  after_trailed s (went t) step g f = f t g
  after_trailed s (clash t) step g f = g

  pub link_trailed : (s : State V) → Steady s → (high low : ℕ) → high < length s.cells → joined_at s.cells high ≡ None →
      rank s.cells low < rank s.cells high → StaysTrailed s (link s high low)
  unfolding link
  link_trailed s st high low inside free lower = record {
    stays = record {
      steady = record {
        few = subst (λ n. n ≤ most) (sym same) st.few;
        lower = λ i f xs e. st.lower i f xs (sym (content_rejoin s.cells high (Some low) i) ∙ e);
        descends = λ i j e. subst₂ (λ m n. m < n) (sym (rank_rejoin s.cells high (Some low) j)) (sym (rank_rejoin s.cells high (Some low) i))
            (falls i j e (cases_eq i high));
        trailed = subst (λ n. AllByRecursion (λ i. i < n) (s.trail ++ (high ∷ []))) (sym same)
            (all_push (λ i. i < length s.cells) s.trail high st.trailed inside);
        room =
            let m : suc (unjoined new) ≡ unjoined s.cells = unjoined_rejoin s.cells high low inside free in
            let n : unjoined s.cells + length s.trail ≤ length s.cells = st.room in
            omega (arith, length-append s.trail (high ∷ []), same);
        within = let w : s.place ≤ length s.trail = st.within in omega (arith, length-append s.trail (high ∷ []));
      };
      number = same;
      place = refl;
      longer = omega (arith, length-append s.trail (high ∷ []));
    };
    kept =
        let m : suc (unjoined new) ≡ unjoined s.cells = unjoined_rejoin s.cells high low inside free in
        omega (arith, length-append s.trail (high ∷ []));
  }
    where
      new : List (Cell V)
      new = rejoin s.cells high (Some low)

      same : length new ≡ length s.cells
      same = length_rejoin s.cells high (Some low)

      falls : (i j : ℕ) → joined_at new i ≡ Some j → (i ≡ high) ⊎ (i ≡ high → ⊥) → rank s.cells j < rank s.cells i
      falls i j e (inl q) =
          subst₂ (λ m n. rank s.cells m < rank s.cells n)
          (some_same (sym (joined_here s.cells high (Some low) inside) ∙ (ap (joined_at new) (sym q) ∙ e))) (sym q) lower
      falls i j e (inr n) = st.descends i j (sym (joined_apart s.cells high (Some low) i n) ∙ e)

  pub link_steady : (s : State V) → Steady s → (high low : ℕ) → high < length s.cells → joined_at s.cells high ≡ None →
      rank s.cells low < rank s.cells high → StaysSteady s (link s high low)
  link_steady s st high low inside free lower = (link_trailed s st high low inside free lower).stays

  pub next_steady : (s : State V) → Steady s → s.place < length s.trail → Steady (next s)
  unfolding next
  next_steady s st h = record
      { few = st.few; lower = st.lower; descends = st.descends; trailed = st.trailed; room = st.room; within = h }

  pub start_steady : (cs : List (Cell V)) → Solved cs → Steady (start cs)
  unfolding start
  start_steady cs ok = record {
    few = ok.few;
    lower = ok.lower;
    descends = ok.descends;
    trailed = tt;
    room = let h : unjoined cs ≤ length cs = unjoined_few cs in omega arith;
    within = omega arith;
  }

module _ {V : Type 0} (same : V → V → Bool) (open_joins : Bool) where
  module _ (s : State V) (st : Steady s) (r t : ℕ) (r_in : r < length s.cells) (t_in : t < length s.cells)
      (r_free : joined_at s.cells r ≡ None) (t_free : joined_at s.cells t ≡ None) where
    link_down_trailed : (r ≡ t → ⊥) → (first : Bool) → ltb (rank s.cells r) (rank s.cells t) ≡ first → StaysTrailed s (link_down first s r t)
    unfolding link_down rank
    link_down_trailed apart true e = link_trailed s st t r t_in t_free (ltb-true (rank s.cells r) (rank s.cells t) e)
    link_down_trailed apart false e =
        let k : length s.cells ≤ most = st.few in
        link_trailed s st r t r_in r_free (ranks_apart (content_at s.cells t) (content_at s.cells r) t r (omega arith) (omega arith)
        (λ q. apart (sym q)) (ltb-false (rank s.cells r) (rank s.cells t) e))

    link_if_trailed : (r ≡ t → ⊥) → (f : Bool) → StaysTrailed s (reached (link_if same open_joins f s r t))
    unfolding link_if
    link_if_trailed apart true = link_down_trailed apart (ltb (rank s.cells r) (rank s.cells t)) refl
    link_if_trailed apart false = stays_refl s st

    meet_roots_trailed : (f : Bool) → eqb r t ≡ f → StaysTrailed s (reached (meet_roots same open_joins f s r t))
    unfolding meet_roots
    meet_roots_trailed true e = stays_refl s st
    meet_roots_trailed false e = link_if_trailed (eqb-false r t e) (fits same open_joins (content_at s.cells r) (content_at s.cells t))

  pub meet_trailed : (s : State V) → Steady s → (x y : ℕ) → x < length s.cells → y < length s.cells →
      StaysTrailed s (reached (meet same open_joins s x y))
  unfolding meet
  meet_trailed s st x y hx hy =
      meet_roots_trailed s st (root s.cells x) (root s.cells y)
      (root_inside s.cells st.descends st.few x hx) (root_inside s.cells st.descends st.few y hy)
      (root_ends s.cells st.descends x) (root_ends s.cells st.descends y)
      (eqb (root s.cells x) (root s.cells y)) refl

  pub meet_all_trailed : (xs ys : List ℕ) (s : State V) → Steady s → AllByRecursion (λ x. x < length s.cells) xs → AllByRecursion (λ y. y < length s.cells) ys →
      StaysTrailed s (reached (meet_all same open_joins s xs ys))
  unfolding meet_all
  meet_all_trailed [] ys s st hx hy = stays_refl s st
  meet_all_trailed (x ∷ xs) [] s st hx hy = stays_refl s st
  meet_all_trailed (x ∷ xs) (y ∷ ys) s st hx hy =
      after_trailed s (meet same open_joins s x y) (λ t. meet_all same open_joins t xs ys) (meet_trailed s st x y hx.0 hy.0)
      (λ t g. stays_trans s t (reached (meet_all same open_joins t xs ys)) g
      (meet_all_trailed xs ys t g.stays.steady
      (subst (λ n. AllByRecursion (λ x. x < n) xs) (sym g.stays.number) hx.1) (subst (λ n. AllByRecursion (λ y. y < n) ys) (sym g.stays.number) hy.1)))

  -- the arguments of a node are cells
  pub arguments_inside : (s : State V) → Steady s → (i f : ℕ) (xs : List ℕ) → content_at s.cells i ≡ node f xs → AllByRecursion (λ x. x < length s.cells) xs
  arguments_inside s st i f xs e = all_weaken i (length s.cells) xs (go (cases_lt i (length s.cells))) (st.lower i f xs e).1
    where
      go : (i < length s.cells) ⊎ (length s.cells ≤ i) → i ≤ length s.cells
      go (inl h) = omega arith
      go (inr h) = absurd (subst IsVariable (sym (content_past s.cells i h) ∙ e) tt)

  arguments_trailed : (s : State V) → Steady s → (i j : ℕ) (c d : Content V) → content_at s.cells i ≡ c → content_at s.cells j ≡ d →
      StaysTrailed s (reached (meet_arguments same open_joins s c d))
  unfolding meet_arguments
  arguments_trailed s st i j variable d p q = stays_refl s st
  arguments_trailed s st i j (leaf v) d p q = stays_refl s st
  arguments_trailed s st i j (node f xs) variable p q = stays_refl s st
  arguments_trailed s st i j (node f xs) (leaf w) p q = stays_refl s st
  arguments_trailed s st i j (node f xs) (node g ys) p q =
      meet_all_trailed xs ys s st (arguments_inside s st i f xs p) (arguments_inside s st j g ys q)

  pay_to_trailed : (o : Option ℕ) (s : State V) → Steady s → (i : ℕ) → StaysTrailed s (reached (pay_to same open_joins o s i))
  unfolding pay_to
  pay_to_trailed None s st i = stays_refl s st
  pay_to_trailed (Some j) s st i = arguments_trailed s st i j (content_at s.cells i) (content_at s.cells j) refl refl

  pub pay_trailed : (s : State V) → Steady s → (i : ℕ) → StaysTrailed s (reached (pay same open_joins s i))
  unfolding pay
  pay_trailed s st i = pay_to_trailed (joined_at s.cells i) s st i

  -- so for a meeting, without its trail
  pub meet_steady : (s : State V) → Steady s → (x y : ℕ) → x < length s.cells → y < length s.cells →
      StaysSteady s (reached (meet same open_joins s x y))
  meet_steady s st x y hx hy = (meet_trailed s st x y hx hy).stays

  -- for meetings of arguments
  pub meet_all_steady : (xs ys : List ℕ) (s : State V) → Steady s → AllByRecursion (λ x. x < length s.cells) xs → AllByRecursion (λ y. y < length s.cells) ys →
      StaysSteady s (reached (meet_all same open_joins s xs ys))
  meet_all_steady xs ys s st hx hy = (meet_all_trailed xs ys s st hx hy).stays

  -- and for paying
  pub pay_steady : (s : State V) → Steady s → (i : ℕ) → StaysSteady s (reached (pay same open_joins s i))
  pay_steady s st i = (pay_trailed s st i).stays
