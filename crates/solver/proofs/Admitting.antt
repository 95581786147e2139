-- The tests of goals and of lists that are lent, as a loop makes them.
use Rattle.std.proofs.Common.{◌≡◌, ℕ, zero, suc, ◌+◌, ◌*◌, ◌<◌, ◌≤◌, true, false, ◌||◌, ltb, List, [], ◌∷◌, length, get_or, drop, Some, None, Option, sym, refl, ap, ◌∙◌, le_of_suc-le-suc, not-suc-le-zero, add-one, drop-cons}
use Rattle.std.specs.List.{AllByRecursion}
use Rattle.std.proofs.lemmas.List.{drop_all}
use Rattle.std.proofs.lemmas.Bool.{lt-ltb, le-ltb}
use Rattle.theory.specs.Calls.{refused, not_in_use, not_an_atom, too_short}
use Rattle.theory.specs.Answers.{capacity, first_unused}
use Rattle.unify.specs.Cells.{Content, Cell, content_at, root}
use Rattle.unify.specs.Theorems.{IsNode}
use Rattle.searching.specs.Answering.{Answered, answered, or_goal, is_node_there, refusing, if_used, if_atoms, first_non_atom}
use Rattle.slate.proofs.Unused.{all_used}
use Rattle.solver.specs.Admission.{gate, Admitted}

-- what holds of all holds at each place
pub all_at : (P : ℕ → Type 0) (xs : List ℕ) (i : ℕ) → AllByRecursion P xs → i < length xs → P (get_or xs i 0)
all_at P [] i a h = absurd (not-suc-le-zero h)
all_at P (x ∷ xs) zero a h = a.0
all_at P (x ∷ xs) (suc i) a h = all_at P xs i a.1 (le_of_suc-le-suc h)

module _ {V : Type 0} where
  node_there : (c : Content V) → IsNode c → is_node_there c ≡ true
  unfolding is_node_there
  node_there Content.variable h = absurd h
  node_there (Content.leaf v) h = absurd h
  node_there (Content.node f xs) h = refl

  no_node_there : (c : Content V) → (IsNode c → ⊥) → is_node_there c ≡ false
  unfolding is_node_there
  no_node_there Content.variable h = refl
  no_node_there (Content.leaf v) h = refl
  no_node_there (Content.node f xs) h = absurd (h tt)

  module _ (cs : List (Cell V)) (goals : List ℕ) (i : ℕ) where
    -- the goal at the place is an atom
    pub one_atom : i < length goals → IsNode (content_at cs (root cs (get_or goals i 0))) →
        first_non_atom cs (drop (i + 1) goals) ≡ first_non_atom cs (drop i goals)
    unfolding first_non_atom or_goal
    one_atom h k =
        ap (λ j. first_non_atom cs (drop j goals)) (add-one i)
        ∙ (sym (ap (λ b. or_goal b (get_or goals i 0) (first_non_atom cs (drop (suc i) goals)))
        (node_there (content_at cs (root cs (get_or goals i 0))) k))
        ∙ ap (first_non_atom cs) (sym (drop-cons goals i 0 h)))

    -- it is none
    pub no_atom : i < length goals → (IsNode (content_at cs (root cs (get_or goals i 0))) → ⊥) →
        first_non_atom cs (drop i goals) ≡ Some (get_or goals i 0)
    unfolding first_non_atom or_goal
    no_atom h k =
        ap (first_non_atom cs) (drop-cons goals i 0 h)
        ∙ ap (λ b. or_goal b (get_or goals i 0) (first_non_atom cs (drop (suc i) goals)))
        (no_node_there (content_at cs (root cs (get_or goals i 0))) k)

    -- no goal is left
    pub none_left : length goals ≤ i → first_non_atom cs (drop i goals) ≡ None
    unfolding first_non_atom
    none_left h = ap (first_non_atom cs) (drop_all i goals h)

  module _ (cs : List (Cell V)) (used supplied : ℕ) (goals : List ℕ) (work frames needed : ℕ) (n : length cs ≡ used)
      (rest : Option (Answered V)) where
    abbrev late : Option (Answered V)
    late = refusing cs too_short (ltb work (9 * capacity supplied) || ltb frames needed) rest

    -- a goal is not in use
    pub gate_unused : (c : ℕ) → first_unused used goals ≡ Some c →
        gate cs supplied goals work frames needed rest ≡ answered (refused (not_in_use c)) cs
    unfolding if_used
    gate_unused c e =
        ap (λ o. if_used cs o (if_atoms cs (first_non_atom cs goals) late)) (ap (λ k. first_unused k goals) n ∙ e)

    module _ (u : first_unused used goals ≡ None) where
      to_atoms : gate cs supplied goals work frames needed rest ≡ if_atoms cs (first_non_atom cs goals) late
      unfolding if_used
      to_atoms = ap (λ o. if_used cs o (if_atoms cs (first_non_atom cs goals) late)) (ap (λ k. first_unused k goals) n ∙ u)

      -- a goal is no atom
      pub gate_no_atom : (c : ℕ) → first_non_atom cs goals ≡ Some c →
          gate cs supplied goals work frames needed rest ≡ answered (refused (not_an_atom c)) cs
      unfolding if_atoms
      gate_no_atom c e = to_atoms ∙ ap (λ o. if_atoms cs o late) e

      module _ (a : first_non_atom cs goals ≡ None) where
        to_lists : gate cs supplied goals work frames needed rest ≡ late
        unfolding if_atoms
        to_lists = to_atoms ∙ ap (λ o. if_atoms cs o late) a

        -- the work list is too short
        pub gate_short_work : work < 9 * capacity supplied →
            gate cs supplied goals work frames needed rest ≡ answered (refused too_short) cs
        unfolding refusing
        gate_short_work h =
            to_lists ∙ ap (λ b. refusing cs too_short (b || ltb frames needed) rest) (lt-ltb work (9 * capacity supplied) h)

        -- the frames are too few
        pub gate_short_frames : 9 * capacity supplied ≤ work → frames < needed →
            gate cs supplied goals work frames needed rest ≡ answered (refused too_short) cs
        unfolding refusing
        gate_short_frames w h =
            to_lists
            ∙ (ap (λ b. refusing cs too_short (b || ltb frames needed) rest) (le-ltb work (9 * capacity supplied) w)
            ∙ ap (λ b. refusing cs too_short b rest) (lt-ltb frames needed h))

        -- all tests are passed
        pub gate_passed : 9 * capacity supplied ≤ work → needed ≤ frames →
            gate cs supplied goals work frames needed rest ≡ rest
        unfolding refusing
        gate_passed w h =
            to_lists
            ∙ (ap (λ b. refusing cs too_short (b || ltb frames needed) rest) (le-ltb work (9 * capacity supplied) w)
            ∙ ap (λ b. refusing cs too_short b rest) (le-ltb frames needed h))

  module _ (cs : List (Cell V)) (used supplied : ℕ) (goals : List ℕ) (work frames needed : ℕ) (n : length cs ≡ used) where
    -- the goals and the lists are admitted
    pub admitted : first_unused used goals ≡ None → first_non_atom cs goals ≡ None → 9 * capacity supplied ≤ work →
        needed ≤ frames → Admitted cs used supplied goals work frames needed
    admitted u a w h = record {
      passes = λ rest. gate_passed cs used supplied goals work frames needed n rest u a w h;
      low = all_used used goals u;
      long = w;
      framed = h;
    }
