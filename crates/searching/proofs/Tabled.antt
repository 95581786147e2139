-- Every case of the table is a right sitting, since it comes out so when it is executed.
use Rattle.std.proofs.Common.{◌≡◌, ℕ, ◌<◌, eqb, List, [], ◌∷◌, map, Some, refl, ap, lit<, lit≤}
use Rattle.std.specs.List.{AllByRecursion}
use Rattle.std.proofs.lemmas.Bool.{eqb-true, eqb-false}
use Rattle.theory.specs.Entries.{EntryRules, BookRules}
use Rattle.theory.specs.Sittings.{Right}
use Rattle.unify.specs.Theorems.{Decides}
use Rattle.searching.specs.Table.{Case, executed, q_fact, p_clause, q_clause, book_a, fine_fact, fine_clause}
use Rattle.searching.specs.Table.{ok_clause, book_f, table}
use Rattle.searching.proofs.Computed.{computed}
use Rattle.searching.proofs.Sittings.{sittings_right}

module _ {B : Type 0} where
  -- the first element, or a default
  abbrev first_or : B → List B → B
  first_or d [] = d
  first_or d (x ∷ xs) = x

  -- the others
  abbrev others : List B → List B
  others [] = []
  others (x ∷ xs) = xs

-- two maps that give one list agree on each element
all_alike : {A B : Type 0} (f g : A → B) (l : List A) → map f l ≡ map g l → AllByRecursion (λ x. f x ≡ g x) l
all_alike f g [] e = tt
all_alike f g (x ∷ l) e = (ap (first_or (f x)) e, all_alike f g l (ap others e))

-- what follows for each element from two facts of each
all_both : {A : Type 0} (P Q R : A → Type 0) → ((x : A) → P x → Q x → R x) → (l : List A) → AllByRecursion P l → AllByRecursion Q l →
    AllByRecursion R l
all_both P Q R h [] p q = tt
all_both P Q R h (x ∷ l) p q = (h x p.0 q.0, all_both P Q R h l p.1 q.1)

-- the test of numbers decides whether they are the same
eqb_decides : Decides eqb
eqb_decides = record { yields = eqb-true; denies = eqb-false }

-- an empty book keeps the rules
no_entries : BookRules {V = ℕ} []
no_entries = record { few = lit≤ tt; entries = tt }

-- the co-fact of book A keeps the rules
q_fact_rules : EntryRules q_fact
q_fact_rules = record {
  some_part = lit≤ tt;
  few_parts = lit≤ tt;
  parts = (tt, ((lit< tt, lit≤ tt, (lit< tt, tt)), tt));
  head = tt;
  few_goals = lit≤ tt;
  goals = tt;
  no_body = refl;
}

-- so does its clause for p
p_clause_rules : EntryRules p_clause
p_clause_rules = record {
  some_part = lit≤ tt;
  few_parts = lit≤ tt;
  parts = (
    (lit< tt, lit≤ tt, tt),
    ((lit< tt, lit≤ tt, (lit< tt, tt)), (tt, ((lit< tt, lit≤ tt, (lit< tt, tt)), tt))),
  );
  head = tt;
  few_goals = lit≤ tt;
  goals = (tt, tt);
  no_body = tt;
}

-- and its clause for q
q_clause_rules : EntryRules q_clause
q_clause_rules = record {
  some_part = lit≤ tt;
  few_parts = lit≤ tt;
  parts = (
    tt,
    (
      (lit< tt, lit≤ tt, (lit< tt, tt)),
      ((lit< tt, lit≤ tt, (lit< tt, tt)), ((lit< tt, lit≤ tt, (lit< tt, tt)), tt)),
    ),
  );
  head = tt;
  few_goals = lit≤ tt;
  goals = (tt, tt);
  no_body = tt;
}

-- book A keeps the rules
book_a_rules : BookRules book_a
book_a_rules = record { few = lit≤ tt; entries = (q_fact_rules, (p_clause_rules, (q_clause_rules, tt))) }

-- and does so without its co-fact
without_rules : BookRules (p_clause ∷ q_clause ∷ [])
without_rules = record { few = lit≤ tt; entries = (p_clause_rules, (q_clause_rules, tt)) }

-- the co-fact of book F keeps the rules
fine_fact_rules : EntryRules fine_fact
fine_fact_rules = record {
  some_part = lit≤ tt;
  few_parts = lit≤ tt;
  parts = (tt, ((lit< tt, lit≤ tt, (lit< tt, tt)), tt));
  head = tt;
  few_goals = lit≤ tt;
  goals = tt;
  no_body = refl;
}

-- so does its clause for a run
fine_clause_rules : EntryRules fine_clause
fine_clause_rules = record {
  some_part = lit≤ tt;
  few_parts = lit≤ tt;
  parts = (
    tt,
    (
      tt,
      (
        (lit< tt, lit≤ tt, (lit< tt, (lit< tt, tt))),
        (
          (lit< tt, lit≤ tt, (lit< tt, tt)),
          ((lit< tt, lit≤ tt, (lit< tt, tt)), ((lit< tt, lit≤ tt, (lit< tt, tt)), tt)),
        ),
      ),
    ),
  );
  head = tt;
  few_goals = lit≤ tt;
  goals = (tt, (tt, tt));
  no_body = tt;
}

-- and its clause for a word
ok_clause_rules : (w : ℕ) → w < 65536 → EntryRules (ok_clause w)
ok_clause_rules w h = record {
  some_part = lit≤ tt;
  few_parts = lit≤ tt;
  parts = ((h, lit≤ tt, tt), ((lit< tt, lit≤ tt, (lit< tt, tt)), tt));
  head = tt;
  few_goals = lit≤ tt;
  goals = tt;
  no_body = tt;
}

-- book F keeps the rules
book_f_rules : BookRules book_f
book_f_rules = record {
  few = lit≤ tt;
  entries = (
    fine_fact_rules,
    (fine_clause_rules, (ok_clause_rules 3 (lit< tt), (ok_clause_rules 4 (lit< tt), tt))),
  );
}

-- the books of the table keep the rules
all_rules : AllByRecursion (λ c. BookRules c.book) table
all_rules = (
  book_a_rules,
  (
    book_a_rules,
    (
      without_rules,
      (book_f_rules, (book_f_rules, (no_entries, (no_entries, (no_entries, (no_entries, tt)))))),
    ),
  ),
)

-- a case that comes out as expected is a right sitting
case_right : (c : Case) → BookRules c.book → executed c ≡ Some c.sitting →
    BookRules c.book × Right c.book c.supplied c.sitting
case_right c rules e = (
  rules,
  (sittings_right ℕ eqb eqb_decides c.book rules c.supplied 100
      (map (λ x. x.call) c.sitting) c.sitting e).0,
)

-- so is every case of the table
pub cases_right : AllByRecursion (λ c. BookRules c.book × Right c.book c.supplied c.sitting) table
cases_right =
    all_both (λ c. BookRules c.book) (λ c. executed c ≡ Some c.sitting)
    (λ c. BookRules c.book × Right c.book c.supplied c.sitting) case_right table all_rules
    (all_alike executed (λ c. Some c.sitting) table computed)
