-- The first goal that the standing steps leave, found step by step.
use Rattle.std.proofs.Common.{◌≡◌, ℕ, zero, suc, ◌+◌, ◌<◌, ◌≤◌, Bool, true, false, cond, eqb, List, [], ◌∷◌, ◌++◌, map, length, get_or, drop, Some, None, Option, sym, refl, ap, ◌∙◌, subst, subst₂, inl, inr, arith}
use mathlib.Core.Logic.{∥∥₁_elim}
use native.Mathlib.Bridge.{le_prop}
use Rattle.std.proofs.lemmas.Option.{slice_get-get_or}
use Rattle.std.specs.List.{slice_get}
use Rattle.std.specs.Option.{option_map}
use Rattle.theory.specs.Entries.{Entry, EntryRules, BookRules}
use Rattle.theory.specs.Records.{Term, cell, part, goal_below}
use Rattle.theory.specs.Records as T
use Rattle.theory.proofs.Elements.{none_some, some_inj, all_nth}
use Rattle.book.specs.Answers.{goal_in, goal_at}
use Rattle.searching.proofs.Scopes.{Within}
use Rattle.frames.specs.declared.frame.Goal.{Goal}
use Rattle.frames.specs.declared.frame.Frame.{Frame}
use Rattle.frames.specs.Goals.{above, base_of, listed_goal, inner_goal, closing_goal, body_goals, left_by, goal_left}
use Rattle.frames.specs.Goals.{IsGoal, Link, Pends, Pending, First}

-- lists by their n-th element
module _ {A : Type 0} where
  pub drop_some : (xs : List A) (j : ℕ) (x : A) → slice_get xs j ≡ Some x → drop j xs ≡ x ∷ drop (suc j) xs
  drop_some [] j x e = absurd (none_some e)
  drop_some (y ∷ ys) zero x e = ap (λ z. z ∷ ys) (some_inj e)
  drop_some (y ∷ ys) (suc j) x e = drop_some ys j x e

  pub drop_none : (xs : List A) (j : ℕ) → slice_get xs j ≡ None → drop j xs ≡ []
  drop_none [] zero e = refl
  drop_none [] (suc j) e = refl
  drop_none (y ∷ ys) zero e = absurd (none_some (sym e))
  drop_none (y ∷ ys) (suc j) e = drop_none ys j e

  pub nth_inside : (xs : List A) (j : ℕ) (x : A) → slice_get xs j ≡ Some x → j < length xs
  nth_inside [] j x e = absurd (none_some e)
  nth_inside (y ∷ ys) zero x e = omega arith
  nth_inside (y ∷ ys) (suc j) x e = let h : j < length ys = nth_inside ys j x e in omega arith

  pub nth_map : {B : Type 0} (f : A → B) (xs : List A) (j : ℕ) → slice_get (map f xs) j ≡ option_map f (slice_get xs j)
  nth_map f [] j = refl
  nth_map f (x ∷ xs) zero = refl
  nth_map f (x ∷ xs) (suc j) = nth_map f xs j

-- a frame in which nothing is set
abbrev pub unset : Frame
unset = record {
  goal = record { cell = 0; inner = false; parent = None; place = 0 };
  step = record { mode = 0; number = 0 };
  used = 0;
  trail = 0;
}

-- true is not false
pub true_false : {A : Type 0} → true ≡ false → A
true_false e = absurd (subst (λ b. cond b (Unit {0}) ⊥) e tt)

-- a term of earlier steps is one of more
pub within_more : (k n : ℕ) → k ≤ n → (t : Term) → Within k t → Within n t
within_more k n h (cell c) w = tt
within_more k n h (part s j) w = omega arith

module _ {V : Type 0} (book : List (Entry V)) (rules : ∥ BookRules book ∥₁) where
  -- the place of a body goal is one of at most eight
  few_goals : (k j b : ℕ) (e : Entry V) → slice_get book k ≡ Some e → slice_get e.body j ≡ Some b → j < 8
  few_goals k j b e p q =
      ∥∥₁_elim rules le_prop (λ r.
      let er : EntryRules e = all_nth EntryRules book k e r.entries p in
      let h : j < length e.body = nth_inside e.body j b q in
      let n : length e.body ≤ 8 = er.few_goals in
      omega arith)

  module _ (frames : List Frame) (s : ℕ) (f : Frame) (p : slice_get frames s ≡ Some f) (link : Link s f) (chain : List ℕ)
      (g : T.Goal) (is : IsGoal frames chain g f.goal) where
    -- the goal at a place among those that the step leaves, or that there is none
    abbrev pub Left : List T.Goal → ℕ → Option Goal → Type 0
    Left l j None = drop j l ≡ []
    Left l j (Some goal) =
        (h : T.Goal) × (drop j l ≡ h ∷ drop (suc j) l) × IsGoal frames (s ∷ chain) h goal ×
        (goal.parent ≡ Some s) × (goal.place ≡ j) × (j < 8)

    -- a step that closes a loop leaves its own goal
    closing : (j : ℕ) → Left (inner_goal g ∷ []) j (closing_goal s f j)
    closing zero = (
      inner_goal g,
      refl,
      record {
        inner = refl;
        lies = is.lies;
        within = within_more (above f.goal.parent) (suc s) (let h = link.lower in omega arith) g.term is.within;
        path = λ e. true_false e;
      },
      refl,
      refl,
      omega arith,
    )
    closing (suc zero) = refl
    closing (suc (suc j)) = refl

    -- a step that names an entry leaves the body goals
    body_at : (e : Entry V) (j : ℕ) → slice_get book f.step.number ≡ Some e → (o : Option ℕ) → slice_get e.body j ≡ o →
        Left (map (goal_below s g) e.body) j
        (option_map (λ b. record { cell = f.used + b; inner = f.goal.inner; parent = Some s; place = j }) o)
    body_at e j q None n = drop_none (map (goal_below s g) e.body) j (nth_map (goal_below s g) e.body j ∙ ap (option_map (goal_below s g)) n)
    body_at e j q (Some b) n = (
      goal_below s g b,
      drop_some (map (goal_below s g) e.body) j (goal_below s g b)
          (nth_map (goal_below s g) e.body j ∙ ap (option_map (goal_below s g)) n),
      record {
        inner = is.inner;
        lies = ap (λ x. base_of x + b) p;
        within = omega arith;
        path = λ i. ap (λ c. s ∷ c) (is.path i);
      },
      refl,
      refl,
      few_goals f.step.number j b e q n,
    )

    in_body : (j : ℕ) (o : Option (Entry V)) → slice_get book f.step.number ≡ o →
        Left (body_goals book o s g) j
        (option_map (λ b. record { cell = f.used + b; inner = f.goal.inner; parent = Some s; place = j }) (goal_in o j))
    in_body j None q = drop_none [] j refl
    in_body j (Some e) q = body_at e j q (slice_get e.body j) refl

    by_mode : (j : ℕ) (b : Bool) →
        Left (cond b (inner_goal g ∷ []) (body_goals book (slice_get book f.step.number) s g)) j
        (cond b (closing_goal s f j)
        (option_map (λ b. record { cell = f.used + b; inner = f.goal.inner; parent = Some s; place = j })
        (goal_at book f.step.number j)))
    by_mode j true = closing j
    by_mode j false = in_body j (slice_get book f.step.number) refl

    -- what the step leaves at a place
    pub left_at : (j : ℕ) → Left (left_by book s f g) j (goal_left book s f j)
    left_at j = by_mode j (eqb f.step.mode 2)

  module _ (goals : List ℕ) (frames : List Frame) where
    -- the links of the step where goals pend
    pub head_link : (chain : List ℕ) (s j : ℕ) (l : List T.Goal) → Pends book goals frames chain (Some s) j l →
        (f : Frame) × (slice_get frames s ≡ Some f) × Link s f
    head_link [] s j l q = absurd (none_some (sym q.0))
    head_link (t ∷ chain) s j l q =
        let e : t ≡ s = sym (some_inj q.0) in
        (q.1.0, subst (λ k. slice_get frames k ≡ Some q.1.0) e q.1.3, subst (λ k. Link k q.1.0) e q.1.4)

    -- the frame of that step
    pub frame_at : (s j : ℕ) → Pending book goals frames (Some s) j →
        (s < length frames) × (slice_get frames s ≡ Some (get_or frames s unset)) × Link s (get_or frames s unset)
    frame_at s j q =
        let z = head_link q.0 s j q.1 q.3 in
        let h : s < length frames = nth_inside frames s z.0 z.1 in
        let e : slice_get frames s ≡ Some (get_or frames s unset) = slice_get-get_or frames s unset h in
        (h, e, subst (Link s) (some_inj (sym z.1 ∙ e)) z.2)

    -- a goal of the step is found
    pub found : (chain : List ℕ) (s j : ℕ) (l : List T.Goal) → Pends book goals frames chain (Some s) j l →
        (f : Frame) → slice_get frames s ≡ Some f → (from : Option ℕ) → suc s ≤ above from →
        (goal : Goal) → Some goal ≡ goal_left book s f j → First book goals frames from (Some goal) l
    found [] s j l q f p from h goal e = absurd (none_some (sym q.0))
    found (t ∷ chain) s j l q f p from h goal e =
        let ts : t ≡ s = sym (some_inj q.0) in
        let f₀ : Frame = q.1.0 in
        let g : T.Goal = q.1.1 in
        let rest : List T.Goal = q.1.2 in
        let p₀ : slice_get frames s ≡ Some f₀ = subst (λ k. slice_get frames k ≡ Some f₀) ts q.1.3 in
        let same : f₀ ≡ f = some_inj (sym p₀ ∙ p) in
        let link : Link s f₀ = subst (λ k. Link k f₀) ts q.1.4 in
        let z = subst (Left frames s f₀ p₀ link chain g q.1.5 (left_by book s f₀ g) j)
        (ap (λ x. goal_left book s x j) same ∙ sym e) (left_at frames s f₀ p₀ link chain g q.1.5 j) in
        let l_is : l ≡ drop j (left_by book s f₀ g) ++ rest =
        subst (λ k. l ≡ drop j (left_by book k f₀ g) ++ rest) ts q.1.6 in (
          record {
            chain = s ∷ chain;
            first = z.0;
            rest = drop (suc j) (left_by book s f₀ g) ++ rest;
            list = l_is ∙ ap (λ x. x ++ rest) z.1;
            is = z.2;
            few = subst (λ k. k < 8) (sym z.4) z.5;
            origin = inr (s, f, z.3, p, subst (λ k. goal_left book s f k ≡ Some goal) (sym z.4) (sym e));
            pends = subst₂ (λ a b. Pends book goals frames (s ∷ chain) a (suc b) (drop (suc j) (left_by book s f₀ g) ++ rest))
                (sym z.3) (sym z.4)
                (refl, (f₀, g, rest, p₀, link, q.1.5, refl, q.1.7));
          },
          subst (λ a. above a ≤ above from) (sym z.3) h,
        )

    -- the step has no more goals: those after its own goal are next
    pub onward : (chain : List ℕ) (s j : ℕ) (l : List T.Goal) → Pends book goals frames chain (Some s) j l →
        (f : Frame) → slice_get frames s ≡ Some f → None ≡ goal_left book s f j →
        (chain' : List ℕ) × Pends book goals frames chain' f.goal.parent (suc f.goal.place) l
    onward [] s j l q f p e = absurd (none_some (sym q.0))
    onward (t ∷ chain) s j l q f p e =
        let ts : t ≡ s = sym (some_inj q.0) in
        let f₀ : Frame = q.1.0 in
        let g : T.Goal = q.1.1 in
        let rest : List T.Goal = q.1.2 in
        let p₀ : slice_get frames s ≡ Some f₀ = subst (λ k. slice_get frames k ≡ Some f₀) ts q.1.3 in
        let same : f₀ ≡ f = some_inj (sym p₀ ∙ p) in
        let link : Link s f₀ = subst (λ k. Link k f₀) ts q.1.4 in
        let z : drop j (left_by book s f₀ g) ≡ [] =
        subst (Left frames s f₀ p₀ link chain g q.1.5 (left_by book s f₀ g) j)
        (ap (λ x. goal_left book s x j) same ∙ sym e) (left_at frames s f₀ p₀ link chain g q.1.5 j) in
        let l_is : l ≡ drop j (left_by book s f₀ g) ++ rest =
        subst (λ k. l ≡ drop j (left_by book k f₀ g) ++ rest) ts q.1.6 in
        let l_rest : l ≡ rest = l_is ∙ ap (λ x. x ++ rest) z in (
          chain,
          subst₂ (λ (x : Frame) y. Pends book goals frames chain x.goal.parent (suc x.goal.place) y)
              same (sym l_rest) q.1.7,
        )

    -- at the goals of the list
    at_list : (chain : List ℕ) (j : ℕ) (l : List T.Goal) → Pends book goals frames chain None j l →
        l ≡ drop j (map T.goal_at goals)
    at_list [] j l q = q.1
    at_list (s ∷ chain) j l q = absurd (none_some q.0)

    from_list : (from : Option ℕ) (j : ℕ) (l : List T.Goal) → length goals ≤ 8 → l ≡ drop j (map T.goal_at goals) →
        (o : Option ℕ) → slice_get goals j ≡ o →
        First book goals frames from (option_map (λ c. record { cell = c; inner = false; parent = None; place = j }) o) l
    from_list from j l n q None e =
        q ∙ drop_none (map T.goal_at goals) j (nth_map T.goal_at goals j ∙ ap (option_map T.goal_at) e)
    from_list from j l n q (Some c) e = (
      record {
        chain = [];
        first = T.goal_at c;
        rest = drop (suc j) (map T.goal_at goals);
        list = q ∙ drop_some (map T.goal_at goals) j (T.goal_at c) (nth_map T.goal_at goals j ∙ ap (option_map T.goal_at) e);
        is = record { inner = refl; lies = refl; within = tt; path = λ i. refl };
        few = let h : j < length goals = nth_inside goals j c e in omega arith;
        origin = inl (refl, e);
        pends = (refl, refl);
      },
      omega arith,
    )

    pub last_goals : (chain : List ℕ) (j : ℕ) (l : List T.Goal) → length goals ≤ 8 → Pends book goals frames chain None j l →
        (from : Option ℕ) → First book goals frames from (listed_goal goals j) l
    last_goals chain j l n q from = from_list from j l n (at_list chain j l q) (slice_get goals j) refl
