-- The worked sitting over book A, answer by answer.
use Rattle.std.proofs.Common.{ℕ, zero, suc, ◌<◌, ◌≤◌, ◌≢◌, ◌⊎◌, List, [], ◌∷◌, ◌++◌, map, length, None, sym, refl, ◌∙◌, inl, inr, arith, lit<, lit≤}
use mathlib.Core.HLevel.{⊥_prop}
use Rattle.theory.specs.Trees.{Tree, IsTree}
use Rattle.theory.specs.Equations.{Equation, is_node, equal, rename, Solvable, MeetsAll, IsAtom}
use Rattle.theory.specs.Entries.{BookRules, EntryRules}
use Rattle.theory.specs.Records.{Step, step_of, Term, cell, part, Replay, start, made, replay, Leads, together}
use Rattle.theory.specs.Search.{Limits, Outcome, granted, spent, full, Searches, Solve, Point}
use Rattle.theory.specs.Search.{done, out_of_tries, out_of_steps, falls, stands}
use Rattle.theory.specs.Check.{Verdict, passed, unlawful, CheckFrom, Check}
use Rattle.theory.specs.Calls.{solve, check}
use Rattle.theory.specs.Known.{Known}
use Rattle.theory.specs.Answers.{served, answer_of, answer_to, Defined}
use Rattle.theory.specs.Sittings.{RightFrom, Right}
use Rattle.theory.specs.Worked.{NoLeaf, q_fact, p_clause, q_clause, book_a, record_a}
use Rattle.theory.specs.Worked.{checks_a, searches_a, sitting_a}
use Rattle.theory.proofs.Elements.{never}
use Rattle.theory.proofs.Readings.{meets_both}
use Rattle.theory.proofs.Replays.{grows, earlier_same}
use Rattle.theory.proofs.NewCells.{node_tree, node_is}
use Rattle.theory.proofs.EndlessTrees.{endless, endless_is}

-- book A keeps the entry rules
pub book_a_rules : BookRules book_a
book_a_rules = record { few = lit≤ tt; entries = (fact, (first, (second, tt))) }
  where
    fact : EntryRules q_fact
    fact = record {
      some_part = lit≤ tt;
      few_parts = lit≤ tt;
      parts = (tt, ((lit< tt, lit≤ tt, (lit< tt, tt)), tt));
      head = tt;
      few_goals = lit≤ tt;
      goals = tt;
      no_body = refl;
    }

    first : EntryRules p_clause
    first = record {
      some_part = lit≤ tt;
      few_parts = lit≤ tt;
      parts = (
        (lit< tt, lit≤ tt, tt),
        (
          (lit< tt, lit≤ tt, (lit< tt, tt)),
          (tt, ((lit< tt, lit≤ tt, (lit< tt, tt)), tt)),
        ),
      );
      head = tt;
      few_goals = lit≤ tt;
      goals = (tt, tt);
      no_body = tt;
    }

    second : EntryRules q_clause
    second = record {
      some_part = lit≤ tt;
      few_parts = lit≤ tt;
      parts = (
        tt,
        (
          (lit< tt, lit≤ tt, (lit< tt, tt)),
          ((lit< tt, lit≤ tt, (lit< tt, tt)), ((lit< tt, lit≤ tt, (lit< tt, tt)), tt)),
        ),
      );
      head = tt;
      few_goals = lit≤ tt;
      goals = (tt, tt);
      no_body = tt;
    }

-- z in cell 0, p(z) in cell 1
abbrev eqs : List (Equation NoLeaf ℕ)
eqs = is_node 0 2 [] ∷ is_node 1 0 (0 ∷ []) ∷ []

-- the record's first steps, and the replays after them
abbrev s1 : List Step
s1 = step_of 1 1 ∷ []

abbrev s2 : List Step
s2 = step_of 1 1 ∷ step_of 1 2 ∷ []

abbrev s3 : List Step
s3 = step_of 1 1 ∷ step_of 1 2 ∷ step_of 2 1 ∷ []

abbrev r1 : Replay NoLeaf
r1 = replay book_a (1 ∷ []) s1

abbrev r2 : Replay NoLeaf
r2 = replay book_a (1 ∷ []) s2

abbrev r3 : Replay NoLeaf
r3 = replay book_a (1 ∷ []) s3

abbrev r4 : Replay NoLeaf
r4 = replay book_a (1 ∷ []) record_a

-- a reading of the whole record: every X is the endless tree
abbrev Z : Tree NoLeaf
Z = node_tree 2 []

abbrev P : Tree NoLeaf
P = node_tree 0 (Z ∷ [])

abbrev Q : Tree NoLeaf
Q = node_tree 1 (endless ∷ [])

abbrev part_tree : ℕ → ℕ → Tree NoLeaf
part_tree zero zero = Z
part_tree zero (suc zero) = P
part_tree zero (suc (suc zero)) = endless
part_tree zero (suc (suc (suc j))) = Q
part_tree (suc zero) zero = endless
part_tree (suc zero) (suc zero) = endless
part_tree (suc zero) (suc (suc j)) = Q
part_tree (suc (suc s)) zero = endless
part_tree (suc (suc s)) (suc j) = Q

abbrev reading : Term → Tree NoLeaf
reading (cell zero) = Z
reading (cell (suc c)) = P
reading (part s j) = part_tree s j

Z_is : IsTree Z
Z_is = node_is 2 [] (lit< tt) tt

P_is : IsTree P
P_is = node_is 0 (Z ∷ []) (lit< tt) (Z_is, tt)

Q_is : IsTree Q
Q_is = node_is 1 (endless ∷ []) (lit< tt) (endless_is, tt)

part_is : (s j : ℕ) → IsTree (part_tree s j)
part_is zero zero = Z_is
part_is zero (suc zero) = P_is
part_is zero (suc (suc zero)) = endless_is
part_is zero (suc (suc (suc j))) = Q_is
part_is (suc zero) zero = endless_is
part_is (suc zero) (suc zero) = endless_is
part_is (suc zero) (suc (suc j)) = Q_is
part_is (suc (suc s)) zero = endless_is
part_is (suc (suc s)) (suc j) = Q_is

reading_is : (t : Term) → IsTree (reading t)
reading_is (cell zero) = Z_is
reading_is (cell (suc c)) = P_is
reading_is (part s j) = part_is s j

-- what the slate says and what each step adds
abbrev slate_says : List (Equation NoLeaf Term)
slate_says = map (rename cell) eqs

abbrev first_adds : List (Equation NoLeaf Term)
first_adds = made 0 p_clause ++ (equal (cell 1) (part 0 1) ∷ [])

abbrev second_adds : List (Equation NoLeaf Term)
second_adds = made 1 q_clause ++ (equal (part 0 3) (part 1 2) ∷ [])

abbrev third_adds : List (Equation NoLeaf Term)
third_adds = equal (part 1 3) (part 0 3) ∷ []

abbrev fourth_adds : List (Equation NoLeaf Term)
fourth_adds = made 3 q_fact ++ (equal (part 1 3) (part 3 1) ∷ [])

-- the reading meets all of it
known_met : MeetsAll reading slate_says
known_met = ((refl, tt), ((refl, ((λ p. refl), tt)), tt))

first_met : MeetsAll reading first_adds
first_met = ((refl, tt), ((refl, ((λ p. refl), tt)), ((refl, ((λ p. refl), tt)), ((λ p. refl), tt))))

second_met : MeetsAll reading second_adds
second_met =
    ((refl, ((λ p. refl), tt)), ((refl, ((λ p. refl), tt)), ((refl, ((λ p. refl), tt)), ((λ p. refl), tt))))

third_met : MeetsAll reading third_adds
third_met = ((λ p. refl), tt)

fourth_met : MeetsAll reading fourth_adds
fourth_met = ((refl, ((λ p. refl), tt)), ((λ p. refl), tt))

all_met : MeetsAll reading (together eqs r4)
all_met =
    meets_both reading slate_says r4.equations known_met
    (meets_both reading first_adds (second_adds ++ (third_adds ++ fourth_adds)) first_met
    (meets_both reading second_adds (third_adds ++ fourth_adds) second_met
    (meets_both reading third_adds fourth_adds third_met fourth_met)))

solved_4 : Solvable (together eqs r4)
solved_4 = ∣ (reading, record { trees = reading_is; meets = all_met }) ∣₁

-- it is one of each replay on the way
from_3 : Leads book_a r3 (step_of 3 0 ∷ []) r4
from_3 = (r4, refl, refl)

from_2 : Leads book_a r2 (step_of 2 1 ∷ step_of 3 0 ∷ []) r4
from_2 = (r3, refl, from_3)

from_1 : Leads book_a r1 (step_of 1 2 ∷ step_of 2 1 ∷ step_of 3 0 ∷ []) r4
from_1 = (r2, refl, from_2)

solved_3 : Solvable (together eqs r3)
solved_3 = earlier_same eqs r3 r4 (grows book_a r3 (step_of 3 0 ∷ []) r4 from_3) solved_4

solved_2 : Solvable (together eqs r2)
solved_2 = earlier_same eqs r2 r4 (grows book_a r2 (step_of 2 1 ∷ step_of 3 0 ∷ []) r4 from_2) solved_4

solved_1 : Solvable (together eqs r1)
solved_1 = earlier_same eqs r1 r4 (grows book_a r1 (step_of 1 2 ∷ step_of 2 1 ∷ step_of 3 0 ∷ []) r4 from_1)
    solved_4

-- two tries that fall: q(X) is not p(z), nor the head of the clause for p
abbrev with_ancestor : Replay NoLeaf
with_ancestor = replay book_a (1 ∷ []) (step_of 1 1 ∷ step_of 2 0 ∷ [])

abbrev with_p_clause : Replay NoLeaf
with_p_clause = replay book_a (1 ∷ []) (step_of 1 1 ∷ step_of 1 1 ∷ [])

no_ancestor : ¬ Solvable (together eqs with_ancestor)
no_ancestor s =
    ∥∥₁_rec ⊥_prop
    (λ z.
    let m : MeetsAll z.0 (together eqs with_ancestor) = z.1.meets in
    let e = sym m.1.1.1.1.0.0 ∙ (m.1.1.1.1.1.1.0 [] ∙ m.1.0.0) in
    never (cc))
    s

no_p_clause : ¬ Solvable (together eqs with_p_clause)
no_p_clause s =
    ∥∥₁_rec ⊥_prop
    (λ z.
    let m : MeetsAll z.0 (together eqs with_p_clause) = z.1.meets in
    let e = sym m.1.1.1.1.0.0 ∙ (m.1.1.1.1.1.1.1.1.1.0 [] ∙ m.1.1.1.1.1.1.1.0.0) in
    never (cc))
    s

-- the search, up to its sixth try
module _ (lim : Limits) (b : 4 < lim.budget) (c : 10 ≤ lim.free) (r : 2 < lim.room) where
  not_yet : (n : ℕ) → n < 5 → n ≢ lim.budget
  not_yet n h e = omega arith

  abbrev fifth : Point NoLeaf
  fifth = record { at = r3; steps = s3; left = step_of 3 0 ∷ step_of 3 1 ∷ step_of 3 2 ∷ [] }

  abbrev below_fifth : List (Point NoLeaf)
  below_fifth =
      record { at = r2; steps = s2; left = step_of 2 0 ∷ step_of 1 1 ∷ step_of 1 2 ∷ [] }
      ∷ record { at = r1; steps = s1; left = [] }
      ∷ record { at = start (1 ∷ []); steps = []; left = step_of 1 2 ∷ [] }
      ∷ []

  five_tries : (o : Outcome) → Searches book_a eqs lim fifth below_fifth 5 o → Solve book_a eqs lim (1 ∷ []) o
  five_tries o t =
      stands (step_of 1 1) (step_of 1 2 ∷ []) r1
      (record { next = refl; after = refl; budget = not_yet 0 (lit< tt); room = omega arith; cells = omega arith })
      solved_1
      (falls (step_of 2 0) (step_of 1 1 ∷ step_of 1 2 ∷ []) with_ancestor
      (record { next = refl; after = refl; budget = not_yet 1 (lit< tt); room = omega arith; cells = omega arith })
      no_ancestor
      (falls (step_of 1 1) (step_of 1 2 ∷ []) with_p_clause
      (record { next = refl; after = refl; budget = not_yet 2 (lit< tt); room = omega arith; cells = omega arith })
      no_p_clause
      (stands (step_of 1 2) [] r2
      (record { next = refl; after = refl; budget = not_yet 3 (lit< tt); room = omega arith; cells = omega arith })
      solved_2
      (stands (step_of 2 1) (step_of 2 0 ∷ step_of 1 1 ∷ step_of 1 2 ∷ []) r3
      (record { next = refl; after = refl; budget = not_yet 4 (lit< tt); room = omega arith; cells = omega arith })
      solved_3 t))))

abbrev left_after : List Step
left_after = step_of 3 1 ∷ step_of 3 2 ∷ []

search_5 : Solve book_a eqs (record { budget = 5; room = 10; free = 98 }) (1 ∷ []) (spent 5)
search_5 =
    five_tries (record { budget = 5; room = 10; free = 98 }) (lit< tt) (lit≤ tt) (lit< tt) (spent 5)
    (out_of_tries (step_of 3 0) left_after refl refl)

search_3 : Solve book_a eqs (record { budget = 100; room = 3; free = 98 }) (1 ∷ []) (full 5)
search_3 =
    five_tries (record { budget = 100; room = 3; free = 98 }) (lit< tt) (lit≤ tt) (lit< tt) (full 5)
    (out_of_steps (step_of 3 0) left_after refl (λ e. omega arith) (lit≤ tt))

search_6 : Solve book_a eqs (record { budget = 6; room = 4; free = 98 }) (1 ∷ []) (granted 6 record_a)
search_6 =
    five_tries (record { budget = 6; room = 4; free = 98 }) (lit< tt) (lit≤ tt) (lit< tt) (granted 6 record_a)
    (stands (step_of 3 0) left_after r4
    (record { next = refl; after = refl; budget = λ e. omega arith; room = lit< tt; cells = lit≤ tt })
    solved_4 (done refl))

-- p(z) is an atom
atom : IsAtom eqs 1
atom = ∣ (1, 1, 0, 0 ∷ [], refl, λ ρ s p. refl) ∣₁

-- a test that does not apply, and two
pub no : {m n : ℕ} → n ≤ m → m < n → ⊥
no a b = omega arith

pub neither : {m n k l : ℕ} → n ≤ m → l ≤ k → (m < n) ⊎ (k < l) → ⊥
neither a b (inl q) = no a q
neither a b (inr q) = no b q

-- a check and a solve get past their tests
abbrev slate : Known NoLeaf
slate = record { used = 2; equations = eqs }

check_says : (steps : List Step) (frames : ℕ) (v : Verdict) → length steps ≤ 4096 → length steps ≤ frames →
    Check book_a eqs 98 (1 ∷ []) steps v →
    Defined book_a 100 slate (check (1 ∷ []) steps 900 frames) (answer_to v)
check_says steps frames v h f c =
    inr (neither (lit≤ tt) h, (None, inl (atom, refl), inr (neither (lit≤ tt) f, (v, c, refl))))

solve_says : (budget steps frames : ℕ) (o : Outcome) → served steps ≤ frames →
    Solve book_a eqs (record { budget = budget; room = served steps; free = 98 }) (1 ∷ []) o →
    Defined book_a 100 slate (solve (1 ∷ []) budget steps 900 frames) (answer_of o)
solve_says budget steps frames o f t =
    inr (no (lit≤ tt), (None, inl (atom, refl), inr (neither (lit≤ tt) f, (o, t, refl))))

wrong_mode : Check book_a eqs 98 (1 ∷ []) (step_of 1 1 ∷ step_of 1 2 ∷ step_of 3 0 ∷ []) (unlawful 2 5)
wrong_mode = inr (no (lit≤ tt), inl (solved_1, inr (no (lit≤ tt), inl (solved_2, refl))))

wrong_loop : Check book_a eqs 98 (1 ∷ []) (step_of 1 1 ∷ step_of 2 0 ∷ []) (unlawful 1 7)
wrong_loop = inr (no (lit≤ tt), inl (solved_1, inr (no (lit≤ tt), inr (no_ancestor, refl))))

last_steps : CheckFrom book_a eqs 98 r2 2 (step_of 2 1 ∷ step_of 3 0 ∷ []) passed
last_steps = inr (no (lit≤ tt), inl (solved_3, inr (no (lit≤ tt), inl (solved_4, refl))))

all_steps : Check book_a eqs 98 (1 ∷ []) record_a passed
all_steps = inr (no (lit≤ tt), inl (solved_1, inr (no (lit≤ tt), inl (solved_2, last_steps))))

-- the answers after p(z) is written, each by its tests in their order
pub searches_right : RightFrom book_a 100 slate searches_a
searches_right = (
  solve_says 5 10 10 (spent 5) (lit≤ tt) search_5,
  (
    solve_says 100 3 3 (full 5) (lit≤ tt) search_3,
    (solve_says 6 4 4 (granted 6 record_a) (lit≤ tt) search_6, tt),
  ),
)

pub checks_right : RightFrom book_a 100 slate (checks_a ++ searches_a)
checks_right = (
  check_says (step_of 1 1 ∷ step_of 1 2 ∷ step_of 3 0 ∷ []) 3 (unlawful 2 5) (lit≤ tt) (lit≤ tt) wrong_mode,
  (
    check_says (step_of 1 1 ∷ step_of 2 0 ∷ []) 2 (unlawful 1 7) (lit≤ tt) (lit≤ tt) wrong_loop,
    (check_says record_a 4 passed (lit≤ tt) (lit≤ tt) all_steps, searches_right),
  ),
)

pub sitting_a_right : Right book_a 100 sitting_a
sitting_a_right = (
  (lit< tt, inr (no (lit≤ tt), inl (lit< tt, refl))),
  ((lit< tt, inr (no (lit≤ tt), inl (lit< tt, refl))), checks_right),
)
