-- What is said over the book and the goals of a derivation, as it goes on.
use Rattle.std.proofs.Common.{◌≡◌, ℕ, List, Bor, sym, ap, ◌∙◌, subst₂}
use Rattle.theory.specs.Entries.{Entry}
use Rattle.solver.specs.declared.derivation.Derivation.{Derivation}
use Rattle.solver.specs.Derivations.{Continues}

module _ {B L : Type 0} (entries : B → List (Entry L)) (d d' : Derivation B L) (P : List (Entry L) → List ℕ → Type 0)
    (same : Continues d d') where
  book_is : entries d'.book.now ≡ entries d.book.now
  book_is = ap (λ (z : Bor B). entries z.now) same.book

  goals_are : d'.goals.now ≡ d.goals.now
  goals_are = ap (λ (z : Bor (List ℕ)). z.now) same.goals

  -- it is said of what the derivation was, and so of what it is
  pub onward : P (entries d.book.now) d.goals.now → P (entries d'.book.now) d'.goals.now
  onward h = subst₂ P (sym book_is) (sym goals_are) h

  -- it is said of what the derivation is, and so of what it was
  pub backward : P (entries d'.book.now) d'.goals.now → P (entries d.book.now) d.goals.now
  backward h = subst₂ P book_is goals_are h

module _ {B L : Type 0} {a b c : Derivation B L} where
  -- it goes on twice
  pub further : Continues a b → Continues b c → Continues a c
  further s t = record {
    book = t.book ∙ s.book;
    goals = t.goals ∙ s.goals;
    store = t.store ∙ s.store;
    lists = record { cells = t.lists.cells ∙ s.lists.cells; work = t.lists.work ∙ s.lists.work };
    as_many = t.as_many ∙ s.as_many;
    frames = t.frames ∙ s.frames;
  }
