-- A reading of a whole record turns its steps into derivations, so that the book holds the trees of its goals.
use Rattle.std.proofs.Common.{◌≡◌, ℕ, suc, ◌<◌, Bool, true, false, eqb, List, [], ◌∷◌, ◌++◌, map, length, get_or, Some, sym, refl, ap, ◌∙◌, subst, append_assoc, append-nil, suc-le-suc, zero-le, arith}
use Rattle.std.specs.List.{slice_get, AllByRecursion}
use Rattle.std.proofs.ByRecursion.{All-append, All-get_or, All-weaker, All-map}
use Rattle.std.proofs.lemmas.List.{get_or_at, get_or_append_left, get_or_default, length_push}
use Rattle.std.proofs.lemmas.Bool.{false≢true, eqb-true}
use Rattle.theory.specs.Trees.{Tree, Same}
use Rattle.theory.specs.Equations.{Equation, equal, Solves, MeetsAll}
use Rattle.theory.specs.Entries.{Entry, clause, Instance, instance_of}
use Rattle.theory.specs.Held.{FiniteProof, Held}
use Rattle.theory.specs.Held as H
use Rattle.theory.specs.Records.{Step, Term, cell, part, Goal, goal_at, goal_below, Replay, start, made}
use Rattle.theory.specs.Records.{expand, close}
use Rattle.theory.specs.Records.{member, Leads}
use Rattle.theory.proofs.Elements.{all_left, all_right, all_any, all_unmap}
use Rattle.theory.proofs.Readings.{meets_left, meets_right, meets_unrenamed}
use Rattle.theory.proofs.Steps.{Took, clause_step, loop_step, entry_step, took}
use Rattle.theory.proofs.Replays.{Grown, grows}
use Rattle.theory.proofs.Derivations.{Derivation, expands, loops, held}

-- a step that was taken still is after one more
one_more : (l : List Term) (t : Term) (n : ℕ) → n < length l → n < length (l ++ (t ∷ []))
one_more l t n h = subst (λ k. n < k) (sym (length_push l t)) (omega arith)

module _ {V : Type 0} where
  -- the path names steps that were taken
  abbrev PathTaken : Replay V → Goal → Type 0
  PathTaken r g = AllByRecursion (λ n. n < length r.taken) g.path

  -- so does every path that is pending
  abbrev PathsTaken : Replay V → Type 0
  PathsTaken r = AllByRecursion (PathTaken r) r.pending

  -- so for a path
  still_taken : (r : Replay V) (t : Term) (path : List ℕ) →
      AllByRecursion (λ n. n < length r.taken) path → AllByRecursion (λ n. n < length (r.taken ++ (t ∷ []))) path
  still_taken r t path a =
      All-weaker (λ n. n < length r.taken) (λ n. n < length (r.taken ++ (t ∷ [])))
      (one_more r.taken t) path a

  -- after a step that names an entry
  paths_expand : (r : Replay V) (g : Goal) (rest : List Goal) (e : Entry V) →
      AllByRecursion (PathTaken r) (g ∷ rest) → PathsTaken (expand r g rest e)
  paths_expand r g rest e o =
      let m : Replay V = expand r g rest e in
      let s : ℕ = length r.taken in
      let now : s < length (r.taken ++ (g.term ∷ [])) =
      subst (λ k. s < k) (sym (length_push r.taken g.term)) (omega arith) in
      All-append (PathTaken m) (map (goal_below s g) e.body) rest
      (All-map (PathTaken m) (goal_below s g) e.body
      (all_any (λ b. PathTaken m (goal_below s g b)) (λ b. (now, still_taken r g.term g.path o.0))
      e.body))
      (All-weaker (PathTaken r) (PathTaken m) (λ h. still_taken r g.term h.path) rest o.1)

  -- and after one that closes a loop
  paths_close : (r : Replay V) (g : Goal) (rest : List Goal) (n : ℕ) →
      AllByRecursion (PathTaken r) (g ∷ rest) → PathsTaken (close r g rest n)
  paths_close r g rest n o = (
    tt,
    All-weaker (PathTaken r) (PathTaken (close r g rest n))
        (λ h. still_taken r g.term h.path) rest o.1,
  )

module _ {V : Type 0} (book : List (Entry V))
    (v : Term → Tree V) (last : Replay V) (sol : Solves last.equations v) where
  -- the tree of the goal that a step took
  abbrev tree_at : ℕ → Tree V
  tree_at n = v (get_or last.taken n (cell 0))

  -- the trees on a path
  abbrev above : List ℕ → List (Tree V)
  above path = map tree_at path

  -- what is shown of an inner goal, and of an outer one
  abbrev Shown : Bool → List ℕ → Tree V → Type 0
  Shown true path t = FiniteProof book t
  Shown false path t = Derivation book (above path) t

  -- what is shown of a goal
  abbrev GoalShown : Goal → Type 0
  GoalShown g = Shown g.inner g.path (v g.term)

  -- the replay is on its way to the last one
  abbrev OnTheWay : Replay V → Type 0
  OnTheWay r = (ts : List Term) × (last.taken ≡ r.taken ++ ts)

  -- the replay before a step is on the way, and the step took its goal
  step_before : (r : Replay V) (g : Term) (ts : List Term) → last.taken ≡ (r.taken ++ (g ∷ [])) ++ ts →
      OnTheWay r × (tree_at (length r.taken) ≡ v g)
  step_before r g ts q =
      let w : last.taken ≡ r.taken ++ (g ∷ ts) = q ∙ append_assoc r.taken (g ∷ []) ts in
      let s : ℕ = length r.taken in
      ((g ∷ ts, w), ap v (ap (λ l. get_or l s (cell 0)) w ∙ get_or_at r.taken g ts (cell 0) s refl))

  -- every replay of the record is on the way
  on_the_way : (r : Replay V) (xs : List Step) → Leads book r xs last → OnTheWay r
  on_the_way r [] l = ([], sym (ap (λ q. q.taken) l) ∙ sym (append-nil r.taken))
  on_the_way r (x ∷ xs) (m, s, l) = go x m (took book r x m s) (on_the_way m xs l)
    where
      go : (x : Step) (m : Replay V) → Took book r x m → OnTheWay m → OnTheWay r
      go x m (clause_step g rest n e p i f c) (ts, q) = (step_before r g.term ts q).0
      go x m (loop_step g rest n p i f) (ts, q) = (step_before r g.term ts q).0
      go x m (entry_step g rest n e p i f) (ts, q) = (step_before r g.term ts q).0

  -- the reading meets what a step adds
  meets_added : (r m : Replay V) (es : List (Equation V Term)) → m.equations ≡ r.equations ++ es →
      Grown m last → MeetsAll v es
  meets_added r m es q (fs, w) =
      let all : MeetsAll v m.equations = meets_left v m.equations fs (subst (MeetsAll v) w sol.meets) in
      meets_right v r.equations es (subst (MeetsAll v) q all)

  -- the trees of the instance that step s made for a goal
  abbrev InstanceAt : ℕ → Entry V → Term → Type 0
  InstanceAt s e t = Instance e (λ j. v (part s j)) × Same (v t) (v (part s e.head))

  -- the reading gives the instance its trees
  instance_at : (s : ℕ) (e : Entry V) (t : Term) →
      MeetsAll v (made s e ++ (equal t (part s e.head) ∷ [])) → InstanceAt s e t
  instance_at s e t m =
      let parts : MeetsAll v (made s e) = meets_left v (made s e) (equal t (part s e.head) ∷ []) m in (
        record {
          trees = λ j. sol.trees (part s j);
          meets = meets_unrenamed (part s) v (instance_of e.parts 0) parts;
        },
        (meets_right v (made s e) (equal t (part s e.head) ∷ []) m).0,
      )

  -- what is shown of the body goals shows the goal
  by_body : (s : ℕ) (g : Goal) (k : ℕ) (e : Entry V) → slice_get book k ≡ Some e → tree_at s ≡ v g.term →
      InstanceAt s e g.term → (b : Bool) → (b ≡ false → e.kind ≡ clause) →
      AllByRecursion (λ c. Shown b (s ∷ g.path) (v (part s c))) e.body → Shown b g.path (v g.term)
  by_body s g k e f q (inst, same) true c a =
      H.by_entry k e f (λ j. v (part s j)) inst same
      (λ i h. All-get_or (λ c. Shown true (s ∷ g.path) (v (part s c))) e.body i 0 h a)
  by_body s g k e f q (inst, same) false c a =
      expands k e f (c refl) (λ j. v (part s j)) inst same
      (λ i h. subst (λ t. Derivation book (t ∷ above g.path) (v (part s (get_or e.body i 0)))) q
      (All-get_or (λ c. Shown false (s ∷ g.path) (v (part s c))) e.body i 0 h a))

  -- where the tree of a step on the path stands among the ancestors
  abbrev OnPath : Replay V → ℕ → List ℕ → Tree V → Type 0
  OnPath r n path t = (j : ℕ) × (j < length (above path)) × (get_or (above path) j t ≡ tree_at n) ×
      (n < length r.taken)

  -- every step on a path stands there
  on_path : (r : Replay V) (n : ℕ) (path : List ℕ) (t : Tree V) →
      AllByRecursion (λ k. k < length r.taken) path → member n path ≡ true → OnPath r n path t
  on_path r n [] t a f = absurd (false≢true f)
  on_path r n (y ∷ ys) t a f = go (eqb n y) refl f (on_path r n ys t a.1)
    where
      here : n ≡ y → OnPath r n (y ∷ ys) t
      here e = (0, suc-le-suc zero-le, ap tree_at (sym e), subst (λ k. k < length r.taken) (sym e) a.0)

      go : (b : Bool) → eqb n y ≡ b → Path Bool (elim b [ true ↦ true | false ↦ member n ys ]) true →
          (member n ys ≡ true → OnPath r n ys t) → OnPath r n (y ∷ ys) t
      go true q f later = here (eqb-true n y q)
      go false q f later = let w : OnPath r n ys t = later f in (suc w.0, suc-le-suc w.1, w.2, w.3)

  -- an outer goal that meets a step on its path, and has a finite proof, is derived
  by_loop : (r : Replay V) (g : Goal) (n : ℕ) → OnTheWay r → PathTaken r g → member n g.path ≡ true →
      Same (v g.term) (v (get_or r.taken n g.term)) → FiniteProof book (v g.term) →
      Derivation book (above g.path) (v g.term)
  by_loop r g n (ts, q) a f s p =
      let w : OnPath r n g.path (v g.term) = on_path r n g.path (v g.term) a f in
      let e : get_or r.taken n g.term ≡ get_or last.taken n (cell 0) =
      get_or_default r.taken n g.term (cell 0) w.3
      ∙ (sym (get_or_append_left r.taken ts (cell 0) n w.3) ∙ ap (λ l. get_or l n (cell 0)) (sym q)) in
      loops w.0 w.1 (λ k. s k ∙ ap (λ z. z k) (ap v e ∙ sym w.2)) p

  -- from the last step back to the first, every goal that is pending is shown
  shown : (xs : List Step) (r : Replay V) → Leads book r xs last → last.pending ≡ [] → PathsTaken r →
      AllByRecursion GoalShown r.pending
  shown [] r l d o = subst (AllByRecursion GoalShown) (sym (ap (λ q. q.pending) l ∙ d)) tt
  shown (x ∷ xs) r (m, s, l) d o =
      go x m (took book r x m s) (on_the_way m xs l) (grows book m xs last l) (shown xs m l d)
    where
      paths : (g : Goal) (rest : List Goal) → r.pending ≡ g ∷ rest → AllByRecursion (PathTaken r) (g ∷ rest)
      paths g rest p = subst (AllByRecursion (PathTaken r)) p o

      by_entry : (g : Goal) (rest : List Goal) (n : ℕ) (e : Entry V) → r.pending ≡ g ∷ rest →
          slice_get book n ≡ Some e →
          (g.inner ≡ false → e.kind ≡ clause) → OnTheWay (expand r g rest e) → Grown (expand r g rest e) last →
          (PathsTaken (expand r g rest e) → AllByRecursion GoalShown (expand r g rest e).pending) →
          AllByRecursion GoalShown r.pending
      by_entry g rest n e p f c (ts, q) w later =
          let s : ℕ = length r.taken in
          let body : List Goal = map (goal_below s g) e.body in
          let a : AllByRecursion GoalShown (body ++ rest) = later (paths_expand r g rest e (paths g rest p)) in
          subst (AllByRecursion GoalShown) (sym p) (
            by_body s g n e f (step_before r g.term ts q).1
                (instance_at s e g.term (meets_added r (expand r g rest e) _ refl w))
                g.inner c (all_unmap GoalShown (goal_below s g) e.body (all_left GoalShown body rest a)),
            all_right GoalShown body rest a,
          )

      go : (x : Step) (m : Replay V) → Took book r x m → OnTheWay m → Grown m last →
          (PathsTaken m → AllByRecursion GoalShown m.pending) → AllByRecursion GoalShown r.pending
      go x m (clause_step g rest n e p i f c) way w later = by_entry g rest n e p f (λ z. c) way w later
      go x m (entry_step g rest n e p i f) way w later =
          by_entry g rest n e p f (λ z. absurd (false≢true (sym z ∙ i))) way w later
      go x m (loop_step g rest n p i f) (ts, q) w later =
          let o' : AllByRecursion (PathTaken r) (g ∷ rest) = paths g rest p in
          let a : AllByRecursion GoalShown (close r g rest n).pending = later (paths_close r g rest n o') in
          let met : Same (v g.term) (v (get_or r.taken n g.term)) =
          (meets_added r (close r g rest n) _ refl w).0 in
          subst (AllByRecursion GoalShown) (sym p) (
            subst (λ b. Shown b g.path (v g.term)) (sym i)
                (by_loop r g n (step_before r g.term ts q).0 o'.0 f met a.0),
            a.1,
          )

module _ {V : Type 0} (book : List (Entry V)) where
  -- the goals of a record that keeps the rules and leaves nothing pending have held trees, under each reading
  pub goals_held : (goals : List ℕ) (steps : List Step) (last : Replay V) →
      Leads book (start goals) steps last → last.pending ≡ [] →
      (v : Term → Tree V) → Solves last.equations v → AllByRecursion (λ g. Held book (v (cell g))) goals
  goals_held goals steps last l d v sol =
      let fine : AllByRecursion (PathTaken (start {V = V} goals)) (map goal_at goals) =
      All-map (PathTaken (start {V = V} goals)) goal_at goals (all_any (λ c. Unit {0}) (λ c. tt) goals) in
      let all : AllByRecursion (λ c. GoalShown book v last sol (goal_at c)) goals =
      all_unmap (GoalShown book v last sol) goal_at goals (shown book v last sol steps (start goals) l d fine) in
      All-weaker (λ c. GoalShown book v last sol (goal_at c)) (λ g. Held book (v (cell g)))
      (λ g z. held book refl z) goals all
