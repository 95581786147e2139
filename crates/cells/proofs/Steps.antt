-- The steps of the loops against the unifier's, over the lists that the code has.
use Rattle.std.proofs.Common.{◌≡◌, ℕ, zero, suc, ◌+◌, ◌-◌, ◌<◌, ◌≤◌, min, Bool, true, false, ◌⊎◌, List, [], ◌∷◌, ◌++◌, length, get_or, take, drop, Some, None, Option, reverse, sym, refl, ap, ◌∙◌, subst, inl, inr, le_of_suc-le-suc, not-suc-le-zero, add-one, arith, length-take, drop-cons}
use lib.ListN.{length-map}
use Rattle.std.specs.List.{AllByRecursion, slice_get}
use Rattle.std.proofs.lemmas.List.{drop_all, take_more, length-reverse, get_or-reverse}
use Rattle.std.proofs.lemmas.Bool.{cases_lt}
use Rattle.cells.specs.declared.cell.Cell.{Cell}
use Rattle.cells.specs.declared.cell.Content.{Content as Written}
use Rattle.cells.specs.declared.cell.Content.TheVariants.{Open, Leaf, Node}
use Rattle.cells.specs.Cells.{cell_of, cells_of, content_of, arguments_of, AllCounted, WellFormed}
use Rattle.cells.proofs.Front.{front, front_as_many}
use Rattle.cells.specs.declared.joins.Joins.{Joins}
use Rattle.cells.specs.Loops.{Ready, state, moved, Given, Unifies, Did, Told, Borrows, Keeps, IsReady, at_place, Stepped, Takes}
use Rattle.unify.specs.Cells.{Content, root, joined_at, content_at, rejoin, unjoined}
use Rattle.unify.specs.Unify.{State, Move, went, clash, fits, meet, meet_all, meet_arguments, pay, next, after, start, clear, rest, join, unify, compare}
use Rattle.unify.specs.Solved.{Solved}
use Rattle.unify.specs.Cells as C
use Rattle.theory.specs.Equations.{equal}
use Rattle.unify.specs.Meaning.{Equated, Entailed}
use Rattle.unify.proofs.Meant.{meaning}
use Rattle.unify.specs.Theorems.{Decides, Refused, Unified, Equal, Different, Compared}
use Rattle.unify.proofs.Unified.{unify_right}
use Rattle.unify.proofs.Compared.{compare_right}
use Rattle.unify.proofs.Steadiness.{start_steady}
use Rattle.unify.specs.Steady.{Steady, StaysSteady, WentOn, reached}
use Rattle.unify.proofs.Steadiness.{meet_steady, arguments_inside}
use Rattle.unify.proofs.Roots.{root_ends, target_inside}
use Rattle.unify.proofs.Turns.{room_for, all_went, all_clash, all_done, pay_none, pay_some, rest_done, rest_went, rest_clash, turn_steady}
use Rattle.unify.proofs.Running.{went_on}
use Rattle.unify.proofs.Growth.{clear_last}

pub number : {L : Type 0} (cells : List (Cell L)) → length (cells_of cells) ≡ length cells
number cells = length-map cells cell_of

module _ {L : Type 0} where
  -- what is as it was
  pub keeps_all : (j : Joins L) → Keeps j j
  keeps_all j = record {
    borrows = record { cells = refl; trail = refl; as_many = refl; as_long = refl; open_joins = refl };
    paid = refl;
  }

  pub borrows_on : {a b c : Joins L} → Borrows a b → Borrows b c → Borrows a c
  borrows_on p q = record {
    cells = q.cells ∙ p.cells;
    trail = q.trail ∙ p.trail;
    as_many = q.as_many ∙ p.as_many;
    as_long = q.as_long ∙ p.as_long;
    open_joins = q.open_joins ∙ p.open_joins;
  }

  pub keeps_on : {a b c : Joins L} → Keeps a b → Keeps b c → Keeps a c
  keeps_on p q = record { borrows = borrows_on p.borrows q.borrows; paid = q.paid ∙ p.paid }

pub reached_moved : {L : Type 0} (b : Bool) (s : State L) → reached (moved b s) ≡ s
reached_moved true s = refl
reached_moved false s = refl

module _ {L : Type 0} (cells : List (Cell L)) (work : List ℕ) (n : ℕ) (ok : Ready cells work n) where
  -- a root leaves room on the trail
  pub room : (i r : ℕ) → r ≡ root (cells_of cells) i → r < length cells → n < length work
  room i r e h =
      let f : joined_at (cells_of cells) r ≡ None = subst (λ k. joined_at (cells_of cells) k ≡ None) (sym e)
      (root_ends (cells_of cells) ok.steady.descends i) in
      let k : r < length (cells_of cells) = subst (λ m. r < m) (sym (number cells)) h in
      let m : length (take n work) < length (cells_of cells) = room_for (state cells work n 0) ok.steady r k f in
      let p : n ≤ length work = ok.part in
      let q : length cells ≤ length work = ok.list in
      omega (arith, number cells, length-take n work)

  -- a step of the unifier that the code has taken leaves it ready
  pub ready_after : (m : Move L) → StaysSteady (state cells work n 0) (reached m) → (b : Bool) (cells' : List
      (Cell L)) (work' : List ℕ) (n' : ℕ) →
      moved b (state cells' work' n' 0) ≡ m → AllCounted cells' → length work' ≡ length work → n' ≤ length work' →
      Ready cells' work' n'
  ready_after m st b cells' work' n' e c l h =
      let z : StaysSteady (state cells work n 0) (state cells' work' n' 0) =
      subst (StaysSteady (state cells work n 0)) (reached_moved b (state cells' work' n' 0))
      (subst (λ m. StaysSteady (state cells work n 0) (reached m)) (sym e) st) in
      record {
        counted = c;
        steady = z.steady;
        list = let q : length cells ≤ length work = ok.list in omega (arith, number cells, number cells', z.number);
        part = h;
      }

pub fit_at : {L : Type 0} (same : L → L → Bool) (oj : Bool) (c c' d d' : Content L) (b : Bool) → c ≡ c' → d ≡ d' → b ≡
    fits same oj c d → fits same oj c' d' ≡ b
fit_at same oj c c' d d' b p q e = sym (e ∙ (λ i. fits same oj (p i) (q i)))

-- two roots that the code has joined
pub linked : {L : Type 0} (same : L → L → Bool) (old new : Joins L) (x y : ℕ) → IsReady old →
    x < length old.cells.now → y < length old.cells.now →
    ((place : ℕ) → went (at_place new place) ≡ meet same old.open_joins (at_place old place) x y) →
    AllCounted new.cells.now → old.used < length old.trail.now → new.used ≡ old.used + 1 →
    Keeps old new → Stepped (λ s. meet same old.open_joins s x y) old true new
linked same old new x y ok hx hy e c h one k = record {
  is = e;
  ready = ready_after old.cells.now old.trail.now old.used ok
      (meet same old.open_joins (at_place old 0) x y)
      (meet_steady same old.open_joins (at_place old 0) ok.steady x y
      (subst (λ m. x < m) (sym (number old.cells.now)) hx) (subst (λ m. y < m) (sym (number old.cells.now)) hy))
      true new.cells.now new.trail.now new.used (e 0) c k.borrows.as_long
      (omega (arith, k.borrows.as_long));
  keeps = k;
}

-- two numbers stand at the same index of two lists
abbrev pub Pair : List ℕ → List ℕ → ℕ → ℕ → ℕ → Type 0
Pair xs ys k x y = (k < length xs) × (k < length ys) × ((d : ℕ) → x ≡ get_or xs k d) × ((d : ℕ) → y ≡ get_or ys k d)

module _ {L : Type 0} (same : L → L → Bool) (oj : Bool) (xs ys : List ℕ) where
  module _ (s t : State L) (k x y : ℕ) (at : Pair xs ys k x y) where
    pairs : meet_all same oj s (drop k xs) (drop k ys) ≡ meet_all same oj s (x ∷ drop (suc k) xs) (y ∷ drop (suc k) ys)
    pairs = λ i. meet_all same oj s ((drop-cons xs k 0 at.0 ∙ ap (λ z. z ∷ drop (suc k) xs) (sym (at.2 0))) i)
        ((drop-cons ys k 0 at.1 ∙ ap (λ z. z ∷ drop (suc k) ys) (sym (at.3 0))) i)

    pub one_pair : meet same oj s x y ≡ went t →
        meet_all same oj t (drop (k + 1) xs) (drop (k + 1) ys) ≡ meet_all same oj s (drop k xs) (drop k ys)
    one_pair e = ap (λ j. meet_all same oj t (drop j xs) (drop j ys)) (add-one k)
        ∙ (sym (all_went same oj s t x y (drop (suc k) xs) (drop (suc k) ys) e) ∙ sym pairs)

    pub one_clash : meet same oj s x y ≡ clash t → clash t ≡ meet_all same oj s (drop k xs) (drop k ys)
    one_clash e = sym (all_clash same oj s t x y (drop (suc k) xs) (drop (suc k) ys) e) ∙ sym pairs

  pub no_pair : (s : State L) (k : ℕ) → k ≡ min (length xs) (length ys) → went s ≡ meet_all same oj s (drop k xs)
      (drop k ys)
  no_pair s k h = sym (all_done same oj s (drop k xs) (drop k ys) (ended (cases_lt k (length xs))))
    where
      ended : (k < length xs) ⊎ (length xs ≤ k) → (drop k xs ≡ []) ⊎ (drop k ys ≡ [])
      ended (inl p) = inr (drop_all k ys (omega arith))
      ended (inr p) = inl (drop_all k xs p)

module _ {L : Type 0} (cells : List (Cell L)) (work : List ℕ) (n : ℕ) (ok : Ready cells work n) where
  pub joined_inside : (i j : ℕ) → i < length cells → Some j ≡ joined_at (cells_of cells) i → j < length cells
  joined_inside i j h e = subst (λ m. j < m) (number cells)
      (target_inside (cells_of cells) ok.steady.descends ok.steady.few i j (sym e) (subst (λ m. i < m)
      (sym (number cells)) h))

  pub arguments_in : (i : ℕ) (c : Written L) → content_of c ≡ content_at (cells_of cells) i →
      AllByRecursion (λ x. x < length cells) (arguments_of c)
  arguments_in i Open e = tt
  arguments_in i (Leaf v) e = tt
  arguments_in i (Node f xs m) e = subst (λ k. AllByRecursion (λ x. x < k) (take m xs)) (number cells)
      (arguments_inside (λ v w. true) true (state cells work n 0) ok.steady i f (take m xs) (sym e))

-- what a joined cell owes
pub paying : {L : Type 0} (same : L → L → Bool) (oj : Bool) (s : State L) (i j : ℕ) → Some j ≡ joined_at
    s.cells i →
    meet_arguments same oj s (content_at s.cells i) (content_at s.cells j) ≡ pay same oj s i
paying same oj s i j e = sym (pay_some same oj s i j (content_at s.cells i) (content_at s.cells j)
    (sym e) refl refl)

-- the arguments of what the code has read; what is no node has none
module _ {L : Type 0} (same : L → L → Bool) (oj : Bool) (s : State L) where
  no_arguments : (xs : List ℕ) → meet_all same oj s xs [] ≡ went s
  unfolding meet_all
  no_arguments [] = refl
  no_arguments (x ∷ xs) = refl

  met : (c d : Written L) → meet_all same oj s (arguments_of c) (arguments_of d) ≡
      meet_arguments same oj s (content_of c) (content_of d)
  unfolding meet_arguments meet_all
  met Open d = refl
  met (Leaf v) d = refl
  met (Node f xs m) Open = no_arguments (take m xs)
  met (Node f xs m) (Leaf v) = no_arguments (take m xs)
  met (Node f xs m) (Node g ys n) = refl

  pub arguments_read : (c d : Written L) (a b : Content L) → content_of c ≡ a → content_of d ≡ b →
      meet_all same oj s (arguments_of c) (arguments_of d) ≡ meet_arguments same oj s a b
  arguments_read c d a b p q = met c d ∙ (λ k. meet_arguments same oj s (p k) (q k))

pub not_paying : {L : Type 0} (same : L → L → Bool) (oj : Bool) (s : State L) (i : ℕ) → None ≡ joined_at
    s.cells i → went s ≡ pay same oj s i
not_paying same oj s i e = sym (pay_none same oj s i (sym e))

pub nth_taken : (xs : List ℕ) (n k : ℕ) → k < n → n ≤ length xs → slice_get (take n xs) k ≡ Some (get_or xs k 0)
nth_taken [] zero k h l = absurd (not-suc-le-zero h)
nth_taken [] (suc n) k h l = absurd (not-suc-le-zero l)
nth_taken (x ∷ xs) zero k h l = absurd (not-suc-le-zero h)
nth_taken (x ∷ xs) (suc n) zero h l = refl
nth_taken (x ∷ xs) (suc n) (suc k) h l = nth_taken xs n k (le_of_suc-le-suc h) (le_of_suc-le-suc l)

module _ {L : Type 0} (same : L → L → Bool) (oj : Bool) (cells : List (Cell L)) (work : List ℕ) (n : ℕ)
    (ok : Ready cells work n) (place : ℕ) where
  pub taken : length (take n work) ≡ n
  taken = let p : n ≤ length work = ok.part in omega (arith, length-take n work)

  pub end_of_trail : n ≤ place → went (state cells work n place) ≡ rest same oj (state cells work n place)
  end_of_trail h = sym (rest_done same oj (state cells work n place) (omega (arith, taken)))

  module _ (h : place < n) where
    here : Steady (state cells work n place)
    here = record {
      few = ok.steady.few;
      lower = ok.steady.lower;
      descends = ok.steady.descends;
      trailed = ok.steady.trailed;
      room = ok.steady.room;
      within = omega (arith, taken);
    }

    at : slice_get (take n work) place ≡ Some (get_or work place 0)
    at = nth_taken work n place h ok.part

    module _ (cells' : List (Cell L)) (work' : List ℕ) (n' : ℕ) where
      pub turn_clash : clash (state cells' work' n' place) ≡ pay same oj (state cells work n place)
          (get_or work place 0) →
          clash (state cells' work' n' place) ≡ rest same oj (state cells work n place)
      turn_clash e = sym (rest_clash same oj (state cells work n place) here (get_or work place 0) at
          (state cells' work' n' place) (sym e))

      pub turn_went : Ready cells' work' n' → went (state cells' work' n' place) ≡ pay same oj
          (state cells work n place) (get_or work place 0) →
          (place + 1 ≤ n') × (rest same oj (state cells' work' n' (place + 1)) ≡ rest same oj
          (state cells work n place))
      unfolding next
      turn_went ok' e = (
        (let s : Steady (next (state cells' work' n' place)) = turn_steady same oj (state cells work n place) here
            (get_or work place 0) at (state cells' work' n' place) (sym e) in
            let w : suc place ≤ length (take n' work') = s.within in
            let p : n' ≤ length work' = ok'.part in omega (arith, length-take n' work')),
        ap (λ k. rest same oj (state cells' work' n' k)) (add-one place)
            ∙ sym (rest_went same oj (state cells work n place) here (get_or work place 0) at
            (state cells' work' n' place) (sym e)),
      )

-- what taking the next entry of the trail leaves as it was
module _ {L : Type 0} (old new : Joins L) (r : Option ℕ) (t : Takes old r new) where
  pub taken_at : (place : ℕ) → at_place new place ≡ at_place old place
  taken_at place = λ k. state (t.cells k) (t.trail k) (t.used k) place

  pub taken_ready : IsReady old → IsReady new
  taken_ready ok = let P : List (Cell L) × List ℕ × ℕ → Type 0 = λ s. Ready s.0 s.1 s.2 in
      subst P (λ k. (sym t.cells k, sym t.trail k, sym t.used k)) ok

-- a step of taking back: the cell that so many others follow on the trail
module _ (trail : List ℕ) (n i : ℕ) (at : (n < length (reverse trail)) × (i ≡ get_or (reverse trail) n i)) where
  inside : n < length trail
  inside = subst (λ m. n < m) (length-reverse trail) at.0

  from_end : i ≡ get_or trail (length trail - 1 - n) 0
  from_end =
      let k = length trail - 1 - n in
      let h : k < length trail = omega (arith, inside) in
      let same : get_or trail k i ∷ drop (suc k) trail ≡ get_or trail k 0 ∷ drop (suc k) trail = sym (drop-cons trail k i h) ∙ drop-cons trail k 0 h in
      let e : i ≡ get_or trail k i = at.1 ∙ get_or-reverse trail n i inside in
      let z : get_or trail k i ≡ get_or trail k 0 = cc in e ∙ z

  pub one_back : {L : Type 0} (cells cells' : List (Cell L)) → cells_of cells' ≡ rejoin (cells_of cells) i None →
      clear (take (length trail - (n + 1)) trail) (cells_of cells') ≡ clear (take (length trail - n) trail) (cells_of cells)
  one_back cells cells' e =
      let k = length trail - (n + 1) in
      let last : take (length trail - n) trail ≡ take k trail ++ (i ∷ []) =
      ap (λ m. take m trail) (let z : length trail - n ≡ k + 1 = omega (arith, inside) in z)
      ∙ (take_more trail k 0 (omega (arith, inside)) ∙ ap (λ j. take k trail ++ (j ∷ []))
      (ap (λ m. get_or trail m 0) (let z : k ≡ length trail - 1 - n = omega (arith, inside) in z) ∙ sym from_end)) in
      ap (clear (take k trail)) e ∙ (sym (clear_last (take k trail) i (cells_of cells)) ∙ ap (λ l. clear l (cells_of cells)) (sym last))

-- the start of a run
pub start_ready : {L : Type 0} (cells : List (Cell L)) (work : List ℕ) → Solved (cells_of cells) → AllCounted cells →
    length cells ≤ length work → Ready cells work 0
unfolding start
start_ready cells work ok c l = record {
  counted = c;
  steady = start_steady (cells_of cells) ok;
  list = l;
  part =
      omega arith;
}

module _ {L : Type 0} (same : L → L → Bool) (oj : Bool) (cells : List (Cell L)) (work : List ℕ) (n : ℕ) (z : n ≡ 0)
    (a b : ℕ) (t : State L) where
  nothing_joined : meet same oj (state cells work n 0) a b ≡ meet same oj (state cells work 0 0) a b
  nothing_joined = λ k. meet same oj (state cells work (z k) 0) a b

  pub join_clash : clash t ≡ meet same oj (state cells work n 0) a b → clash t ≡ join same oj (cells_of cells) a b
  unfolding join start after
  join_clash e = ap (λ m. after m (rest same oj)) (e ∙ nothing_joined)

  pub join_went : went t ≡ meet same oj (state cells work n 0) a b → rest same oj t ≡ join same oj
      (cells_of cells) a b
  unfolding join start after
  join_went e = ap (λ m. after m (rest same oj)) (e ∙ nothing_joined)

-- the unifier's runs on given cells, by what the cells mean
module _ {L : Type 0} (same : L → L → Bool) (law : Decides same) (cells : List (Cell L)) (work : List ℕ) (a b : ℕ)
    (ok : Given cells work a b) where
  abbrev old : List (C.Cell L)
  old = cells_of cells

  first_in : a < length old
  first_in = subst (λ n. a < n) (sym (number cells)) ok.first

  second_in : b < length old
  second_in = subst (λ n. b < n) (sym (number cells)) ok.second

  module _ (s : State L) where
    pub agreed : went s ≡ join same true old a b → Unifies same old a b true s.cells s.trail
    unfolding unify
    agreed e = (s.place, sym e)

    pub refused : clash s ≡ join same true old a b → (new : List (C.Cell L)) → new ≡ clear s.trail
        s.cells → (trail : List ℕ) → Unifies same old a b false new trail
    unfolding unify
    refused e new n trail =
        let z : Refused old a b s = subst (Unified old a b) (sym e)
        (unify_right same law old ok.sound.solved a b first_in second_in) in
        ((s, sym e), n ∙ z.undone)

    pub told : (r : Bool) → moved r s ≡ join same false old a b → (Told old a b r) × (clear s.trail s.cells ≡ old)
    unfolding compare
    told true e = let z : Equal old a b s = subst (Compared old a b) (sym e)
        (compare_right same law old ok.sound.solved a b first_in second_in) in (
          λ es means. subst (Entailed es a b) (sym e)
              ((meaning L).compared same law old es ok.sound.solved means a b first_in second_in),
          z.undone,
        )
    told false e = let z : Different old a b s = subst (Compared old a b) (sym e)
        (compare_right same law old ok.sound.solved a b first_in second_in) in (
          λ es means. subst (Entailed es a b) (sym e)
              ((meaning L).compared same law old es ok.sound.solved means a b first_in second_in),
          z.undone,
        )

  -- what unifying came to
  module _ (new : List (C.Cell L)) (trail : List ℕ) where
    -- where it went on, what the run left
    goes_on : (u : Unifies same old a b true new trail) → WentOn old (record {
      cells = new;
      trail = trail;
      place = u.0;
    })
    goes_on u = went_on same law old ok.sound.solved a b first_in second_in
        (record { cells = new; trail = trail; place = u.0 }) u.1

    -- what it did to the cells' meaning
    did : (r : Bool) → Unifies same old a b r new trail → Did old new a b r
    did true u =
        let z = goes_on u in (
          z.solved,
          z.number,
          λ es means. subst (Equated (es ++ (equal a b ∷ []))) u.1
              ((meaning L).equated same law old es ok.sound.solved means a b first_in second_in),
        )
    did false u = (
      u.1,
      λ es means. subst (Equated (es ++ (equal a b ∷ []))) u.0.1
          ((meaning L).equated same law old es ok.sound.solved means a b first_in second_in),
    )

    solved_after : (r : Bool) → Unifies same old a b r new trail → Solved new
    solved_after true u = (goes_on u).solved
    solved_after false u = subst Solved (sym u.1) ok.sound.solved

  -- the cells are solved again
  sound_after : (new : List (Cell L)) (trail : List ℕ) (r : Bool) → Unifies same old a b r (cells_of new) trail →
      AllCounted new → WellFormed new
  sound_after new trail r u c = record { solved = solved_after (cells_of new) trail r u; counted = c }

-- what unifying came to for all cells, by what it came to for the first of them
module _ {L : Type 0} (same : L → L → Bool) (law : Decides same) (used : ℕ) (cells : List (Cell L)) (part : used ≤ length cells)
    (work : List ℕ) (a b : ℕ) (ok : Given (take used cells) work a b) where
  abbrev before : List (C.Cell L)
  before = cells_of (take used cells)

  pub unified : (new : List (Cell L)) (trail : List ℕ) (r : Bool) → Unifies same before a b r (cells_of new) trail →
      AllCounted new → length new ≡ length (take used cells) →
      let all = new ++ drop used cells in Unifies same before a b r (cells_of (take used all)) trail ×
      Did before (cells_of (take used all)) a b r × WellFormed (take used all) × (length all ≡ length cells)
  unified new trail r u c n =
      let e = sym (front used cells new part n) in (
        subst (λ l. Unifies same before a b r (cells_of l) trail) e u,
        subst (λ l. Did before (cells_of l) a b r) e
            (did same law (take used cells) work a b ok (cells_of new) trail r u),
        subst WellFormed e (sound_after same law (take used cells) work a b ok new trail r u c),
        front_as_many used cells new part n,
      )
