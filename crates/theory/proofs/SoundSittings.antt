-- In a right sitting the equations accepted name only cells in use, and some reading solves them.
use Rattle.std.proofs.Common.{◌≡◌, ℕ, suc, ◌+◌, ◌<◌, ◌≤◌, List, [], ◌∷◌, ◌++◌, map, sym, refl, subst, append-nil, arith, lit<}
use Rattle.std.specs.List.{AllByRecursion}
use Rattle.std.proofs.ByRecursion.{All-append, All-push, All-weaker}
use Rattle.theory.specs.Trees.{Tree, IsTree}
use Rattle.theory.specs.Equations.{Equation, is_leaf, is_node, equal, rename, Solvable}
use Rattle.theory.specs.Entries.{Entry, BookRules}
use Rattle.theory.specs.Records.{Step, Term, start, replay, Lawful}
use Rattle.theory.specs.Calls.{Call, write_open, write_leaf, write_node, equate, compare, solve, check}
use Rattle.theory.specs.Calls.{Answer, wrote, accepted, same, different, grants, fails, passes, refused, Event}
use Rattle.theory.specs.Known.{Known, nothing, Names, Sound, placed, written, equated, recorded, solved, after}
use Rattle.theory.specs.Known.{known_from, known}
use Rattle.theory.specs.Answers.{Defined, limits}
use Rattle.theory.specs.Sittings.{RightFrom, Right}
use Rattle.theory.proofs.Readings.{all_names_weaker, all_names_renamed}
use Rattle.theory.proofs.Replays.{leads_replay}
use Rattle.theory.proofs.GrantedSearches.{granted_found}
use Rattle.theory.proofs.NewCells.{node_tree, node_is, with_leaf, with_node}
use Rattle.theory.proofs.PlacedInstances.{placed_low, placed_solves}
use Rattle.theory.proofs.DefinedAnswers.{of_node, of_accepted, of_granted}

-- a tree that has no leaf
module _ (V : Type 0) where
  -- a node with no argument
  some_tree : Tree V
  some_tree = node_tree 0 []

  -- it is a tree
  some_tree_is : IsTree some_tree
  unfolding some_tree
  some_tree_is = node_is 0 [] (lit< tt) tt

module _ {V : Type 0} where
  -- cells below a number are below a greater one
  wider : (n m : ℕ) → n ≤ m → (es : List (Equation V ℕ)) → AllByRecursion (Names (λ c. c < n)) es →
      AllByRecursion (Names (λ c. c < m)) es
  wider n m h es a = all_names_weaker (λ c. c < n) (λ c. c < m) (λ c l. omega arith) es a

  -- the equations so far name cells in use after one more cell
  one_more : (k : Known V) → Sound k → AllByRecursion (Names (λ c. c < suc k.used)) k.equations
  one_more k g = wider k.used (suc k.used) (omega arith) k.equations g.in_use

  -- nothing is sound
  sound_nothing : Sound {V = V} nothing
  sound_nothing = record {
    in_use = tt;
    solvable = ∣ (λ c. some_tree V, record { trees = λ c. some_tree_is V; meets = tt }) ∣₁;
  }

  -- and so is what is known after a cell is written
  sound_open : (k : Known V) → Sound k → Sound (record { used = suc k.used; equations = k.equations ++ [] })
  sound_open k g =
      subst (λ l. Sound (record { used = suc k.used; equations = l })) (sym (append-nil k.equations))
      (record { in_use = one_more k g; solvable = g.solvable })

  -- as a leaf
  sound_leaf : (k : Known V) (v : V) → Sound k →
      Sound (record { used = suc k.used; equations = k.equations ++ (is_leaf k.used v ∷ []) })
  sound_leaf k v g = record {
    in_use =
        All-push (Names (λ c. c < suc k.used)) k.equations (is_leaf k.used v) (one_more k g)
        (omega arith);
    solvable = with_leaf k.used k.equations g.in_use v g.solvable;
  }

  -- as a node over cells in use
  sound_node : (k : Known V) (f : ℕ) (args : List ℕ) → f < 65536 → AllByRecursion (λ c. c < k.used) args → Sound k →
      Sound (record { used = suc k.used; equations = k.equations ++ (is_node k.used f args ∷ []) })
  sound_node k f args hf a g = record {
    in_use =
        All-push (Names (λ c. c < suc k.used)) k.equations (is_node k.used f args) (one_more k g)
        (omega arith, All-weaker (λ c. c < k.used) (λ c. c < suc k.used) (λ c l. omega arith) args a);
    solvable = with_node k.used k.equations g.in_use f args hf a g.solvable;
  }

  -- whatever the answer to a write
  sound_written : (k : Known V) (es : List (Equation V ℕ)) (a : Answer) → Sound k →
      ((c : ℕ) → a ≡ wrote c → Sound (record { used = suc k.used; equations = k.equations ++ es })) →
      Sound (written k es a)
  sound_written k es (wrote c) g h = h c refl
  sound_written k es accepted g h = g
  sound_written k es same g h = g
  sound_written k es different g h = g
  sound_written k es (grants n s) g h = g
  sound_written k es (fails n) g h = g
  sound_written k es passes g h = g
  sound_written k es (refused r) g h = g

module _ {V : Type 0} (book : List (Entry V)) (rules : BookRules book) where
  -- after a record is laid onto the slate
  sound_recorded : (k : Known V) (goals : List ℕ) (steps : List Step) → AllByRecursion (λ c. c < k.used) goals →
      Lawful book k.equations goals steps → Sound k → Sound (recorded k (replay book goals steps))
  sound_recorded k goals steps u l g =
      subst (λ r. Sound (recorded k r)) (sym (leads_replay book (start goals) steps l.last l.leads))
      (record {
        in_use =
            All-append (Names low) k.equations (map (rename put) l.last.equations)
            (wider k.used (k.used + l.last.cells) (omega arith) k.equations g.in_use)
            (all_names_renamed put low l.last.equations
            (placed_low k.used (λ _. some_tree V) (λ _. some_tree_is V) book rules goals u steps l.last
            l.leads));
        solvable =
            ∥∥₁_rec squash₁
            (λ z. ∣ placed_solves k.used z.0 z.1.trees book rules goals u steps l.last l.leads
            k.equations g.in_use z.1.meets ∣₁)
            l.solvable;
      })
    where
      put : Term → ℕ
      put = placed k.used l.last.offsets

      low : ℕ → Type 0
      low c = c < k.used + l.last.cells

  module _ (supplied : ℕ) where
    -- after an equate
    sound_equated : (k : Known V) (x y w : ℕ) (a : Answer) → Sound k → Defined book supplied k (equate x y w) a →
        Sound (equated k x y a)
    sound_equated k x y w (wrote c) g d = g
    sound_equated k x y w accepted g d =
        let z : AllByRecursion (λ c. c < k.used) (x ∷ y ∷ []) × Solvable (k.equations ++ (equal x y ∷ [])) =
        of_accepted book supplied k x y w d in
        record {
          in_use =
              All-push (Names (λ c. c < k.used)) k.equations (equal x y) g.in_use (z.0.0, z.0.1.0);
          solvable = z.1;
        }
    sound_equated k x y w same g d = g
    sound_equated k x y w different g d = g
    sound_equated k x y w (grants n s) g d = g
    sound_equated k x y w (fails n) g d = g
    sound_equated k x y w passes g d = g
    sound_equated k x y w (refused r) g d = g

    -- what a granted solve found
    pub granted_lawful : (k : Known V) (goals : List ℕ) (b s w f n : ℕ) (steps : List Step) → Sound k →
        Defined book supplied k (solve goals b s w f) (grants n steps) →
        AllByRecursion (λ c. c < k.used) goals × Lawful book k.equations goals steps
    granted_lawful k goals b s w f n steps g d =
        let z : AllByRecursion (λ c. c < k.used) goals × _ = of_granted book supplied k goals b s w f n steps d in (
          z.0,
          (granted_found book k.equations (limits supplied k b s) goals n steps g.solvable z.1).lawful,
        )

    -- after a solve
    sound_solved : (k : Known V) (goals : List ℕ) (b s w f : ℕ) (a : Answer) → Sound k →
        Defined book supplied k (solve goals b s w f) a → Sound (solved book k goals a)
    sound_solved k goals b s w f (wrote c) g d = g
    sound_solved k goals b s w f accepted g d = g
    sound_solved k goals b s w f same g d = g
    sound_solved k goals b s w f different g d = g
    sound_solved k goals b s w f (grants n steps) g d =
        let z : AllByRecursion (λ c. c < k.used) goals × Lawful book k.equations goals steps =
        granted_lawful k goals b s w f n steps g d in
        sound_recorded k goals steps z.0 z.1 g
    sound_solved k goals b s w f (fails n) g d = g
    sound_solved k goals b s w f passes g d = g
    sound_solved k goals b s w f (refused r) g d = g

    -- after any call with its defined answer
    sound_after : (k : Known V) (c : Call V) (a : Answer) → Sound k → Defined book supplied k c a →
        Sound (after book k c a)
    sound_after k write_open a g d = sound_written k [] a g (λ c e. sound_open k g)
    sound_after k (write_leaf v) a g d = sound_written k (is_leaf k.used v ∷ []) a g (λ c e. sound_leaf k v g)
    sound_after k (write_node f args) a g d =
        sound_written k (is_node k.used f args ∷ []) a g
        (λ c e.
        let z : (f < 65536) × AllByRecursion (λ c. c < k.used) args =
        of_node book supplied k f args c (subst (Defined book supplied k (write_node f args)) e d) in
        sound_node k f args z.0 z.1 g)
    sound_after k (equate x y w) a g d = sound_equated k x y w a g d
    sound_after k (compare x y w) a g d = g
    sound_after k (solve goals b s w f) a g d = sound_solved k goals b s w f a g d
    sound_after k (check goals steps w f) a g d = g

    -- after any right events
    sound_from : (k : Known V) (h : List (Event V)) → RightFrom book supplied k h → Sound k →
        Sound (known_from book k h)
    sound_from k [] r g = g
    sound_from k (e ∷ h) r g =
        sound_from (after book k e.call e.answer) h r.1 (sound_after k e.call e.answer g r.0)

    -- what is known after a right sitting is sound
    pub sound_right : (h : List (Event V)) → Right book supplied h → Sound (known book h)
    sound_right h r = sound_from nothing h r sound_nothing
