-- A call that answers as the executable answers do keeps its promise over its book.
use Rattle.std.proofs.Common.{◌≡◌, ℕ, Bool, true, false, ◌||◌, ltb, List, [], ◌∷◌, map, length, take, Some, None, vec_items, Option, sym, refl, ◌∙◌, subst}
use Rattle.theory.specs.Entries.{Entry, BookRules}
use Rattle.theory.specs.Search.{Outcome, granted, failed, spent, full, short}
use Rattle.theory.specs.Calls.{Call, write_open, write_leaf, write_node, equate, compare, solve, check}
use Rattle.theory.specs.Calls.{Answer, Refusal, too_many_arguments, too_long, too_short}
use Rattle.theory.specs.Known.{Known, after}
use Rattle.theory.specs.Answers.{capacity, served, first_unused, answer_of, Defined}
use Rattle.theory.specs.Carried.{StandsFor, RightCall}
use Rattle.theory.proofs.Elements.{none_some, some_inj}
use Rattle.theory.proofs.OneBookProof.{rules_out}
use Rattle.theory.proofs.CarriedSittings.{carries}
use Rattle.unify.specs.Cells.{Content, Cell}
use Rattle.unify.specs.Unify.{Move}
use Rattle.unify.specs.Theorems.{Decides}
use Rattle.unify.specs.Unify
use Rattle.searching.specs.Solving.{Ended, solves}
use Rattle.searching.specs.Answering.{Answered, refusing, if_used, if_atoms, first_non_atom, next_cell}
use Rattle.searching.specs.Answering.{if_small, by_unifying, by_comparing, left_by, by_searching, short_work, limits_of}
use Rattle.searching.specs.Answering.{writes, answers}
use Rattle.searching.specs.Theorems.{Holds}
use Rattle.searching.proofs.Answered.{answers_right}
use Rattle.cells.specs.Cells.{lying}
use Rattle.slate.specs.declared.slate.Slate.{Slate}
use Rattle.slate.specs.Slates.{supplied, in_use, on_slate, Leaves, KeptOver}
use Rattle.slate.proofs.Next.{sound_out}
use Rattle.slate.proofs.Standing.{means_known, number_known, stands_for}

module _ {V : Type 0} (cells : List (Cell V)) where
  -- the cells are as they were, if the answer is one that leaves them
  abbrev Alone : Answered V → Type 0
  Alone a = Leaves a.answer → a.cells ≡ cells

  refusing_alone : (r : Refusal) (b : Bool) (rest : Option (Answered V)) (a : Answered V) →
      (rest ≡ Some a → Alone a) → refusing cells r b rest ≡ Some a → Alone a
  unfolding refusing
  refusing_alone r true rest a f q = subst Alone (some_inj q) (λ h. refl)
  refusing_alone r false rest a f q = f q

  used_alone : (o : Option ℕ) (rest : Option (Answered V)) (a : Answered V) →
      (rest ≡ Some a → Alone a) → if_used cells o rest ≡ Some a → Alone a
  unfolding if_used
  used_alone (Some c) rest a f q = subst Alone (some_inj q) (λ h. refl)
  used_alone None rest a f q = f q

  atoms_alone : (o : Option ℕ) (rest : Option (Answered V)) (a : Answered V) →
      (rest ≡ Some a → Alone a) → if_atoms cells o rest ≡ Some a → Alone a
  unfolding if_atoms
  atoms_alone (Some c) rest a f q = subst Alone (some_inj q) (λ h. refl)
  atoms_alone None rest a f q = f q

  small_alone : (b : Bool) (rest : Option (Answered V)) (a : Answered V) → (rest ≡ Some a → Alone a) →
      if_small b rest ≡ Some a → Alone a
  unfolding if_small
  small_alone true rest a f q = f q
  small_alone false rest a f q = absurd (none_some q)

  next_alone : (d : Content V) (b : Bool) (a : Answered V) → next_cell cells d b ≡ Some a → Alone a
  unfolding next_cell
  next_alone d true a q = subst Alone (some_inj q) (λ h. absurd h)
  next_alone d false a q = subst Alone (some_inj q) (λ h. refl)

  unifying_alone : (m : Move V) (a : Answered V) → by_unifying cells m ≡ Some a → Alone a
  unfolding by_unifying
  unifying_alone (Move.went s) a q = subst Alone (some_inj q) (λ h. absurd h)
  unifying_alone (Move.clash s) a q = subst Alone (some_inj q) (λ h. refl)

  comparing_alone : (m : Move V) (a : Answered V) → by_comparing cells m ≡ Some a → Alone a
  unfolding by_comparing
  comparing_alone (Move.went s) a q = subst Alone (some_inj q) (λ h. refl)
  comparing_alone (Move.clash s) a q = subst Alone (some_inj q) (λ h. refl)

  left_alone : (last : List (Cell V)) (o : Outcome) → Leaves (answer_of o) → left_by cells last o ≡ cells
  unfolding left_by
  left_alone last (granted n steps) h = absurd h
  left_alone last (failed n) h = refl
  left_alone last (spent n) h = refl
  left_alone last (full n) h = refl
  left_alone last (short n) h = refl

  searching_alone : (o : Option (Ended V)) (a : Answered V) → by_searching cells o ≡ Some a → Alone a
  unfolding by_searching
  searching_alone None a q = absurd (none_some q)
  searching_alone (Some e) a q = subst Alone (some_inj q) (left_alone e.last.cells e.outcome)

  -- an executed call that neither writes, nor is accepted, nor is granted leaves the cells as they were
  module _ (same : V → V → Bool) (book : List (Entry V)) (n turns : ℕ) where
    writes_alone : (d : Content V) (a : Answered V) → writes same book n turns cells d ≡ Some a → Alone a
    unfolding writes
    writes_alone d a q = next_alone d (ltb (length cells) (capacity n)) a q

    pub leaves_alone : (c : Call V) (a : Answered V) → answers same book n turns cells c ≡ Some a →
        Leaves a.answer → a.cells ≡ cells
    unfolding answers
    leaves_alone write_open a q = writes_alone Content.variable a q
    leaves_alone (write_leaf v) a q = writes_alone (Content.leaf v) a q
    leaves_alone (write_node f args) a q =
        small_alone (ltb f 65536) _ a (refusing_alone too_many_arguments (ltb 4 (length args)) _ a
        (used_alone (first_unused (length cells) args) _ a (writes_alone (Content.node f args) a))) q
    leaves_alone (equate x y work) a q =
        used_alone (first_unused (length cells) (x ∷ y ∷ [])) _ a
        (refusing_alone too_short (short_work same book n turns work) _ a
        (unifying_alone (Unify.unify same cells x y) a)) q
    leaves_alone (compare x y work) a q =
        used_alone (first_unused (length cells) (x ∷ y ∷ [])) _ a
        (refusing_alone too_short (short_work same book n turns work) _ a
        (comparing_alone (Unify.compare same cells x y) a)) q
    leaves_alone (solve goals budget steps work frames) a q =
        refusing_alone too_long (ltb 8 (length goals)) _ a (used_alone (first_unused (length cells) goals) _ a
        (atoms_alone (first_non_atom cells goals) _ a
        (refusing_alone too_short (short_work same book n turns work || ltb frames (served steps)) _ a
        (searching_alone
        (solves same book (length cells) (limits_of same book n turns cells budget steps) turns cells goals) a)))) q
    leaves_alone (check goals steps work frames) a q =
        refusing_alone too_long (ltb 8 (length goals) || ltb 4096 (length steps)) _ a
        (used_alone (first_unused (length cells) goals) _ a (atoms_alone (first_non_atom cells goals) _ a
        (refusing_alone too_short (short_work same book n turns work || ltb frames (length steps)) _ a
        (λ p. subst Alone (some_inj p) (λ h. refl))))) q

module _ {L : Type 0} where
  -- a call that is right over a book carries sittings on over that book
  pub kept_over : {book : List (Entry L)} {old new : Slate L} {c : Call L} {a : Answer} →
      RightCall book (supplied old) (on_slate old) c a (on_slate new) → supplied new ≡ supplied old →
      (Leaves a → in_use new ≡ in_use old) → KeptOver book old new c a
  kept_over {book} {old} {new} {c} {a} r m u = record {
    right = r;
    carries = λ rules. carries book (rules_out rules) (supplied old) (on_slate old) (on_slate new) c a r;
    as_many = m;
    unaltered = u;
  }

  module _ (set : IsSet L) (same : L → L → Bool) (law : Decides same) (book : List (Entry L))
      (rules : ∥ BookRules book ∥₁) (old new : Slate L) where
    -- a call whose answer is the executed one, and whose slate has the cells that this one leaves
    pub executed : (turns : ℕ) (c : Call L) (a : Answered L) →
        answers same book (supplied old) turns (in_use old) c ≡ Some a → in_use new ≡ a.cells →
        supplied new ≡ supplied old → KeptOver book old new c a.answer
    executed turns c a q e m =
        kept_over right m (λ h. e ∙ leaves_alone (in_use old) same book (supplied old) turns c a q h)
      where
        holds : (k : Known L) → StandsFor (on_slate old) k → Holds (in_use old) k
        holds k st = record {
          solved = (sound_out set (take old.used (vec_items old.cells)) old.sound).solved;
          used = number_known (in_use old) k st;
          means = means_known (in_use old) k st;
        }

        right : RightCall book (supplied old) (on_slate old) c a.answer (on_slate new)
        right k ok st =
            let z : Defined book (supplied old) k c a.answer × Holds a.cells (after book k c a.answer) =
            answers_right L same law book (rules_out rules) (supplied old) turns k ok (in_use old) (holds k st) c a q
            in (
              z.0,
              subst (λ cs. StandsFor (map lying cs) (after book k c a.answer)) (sym e)
                  (stands_for a.cells (after book k c a.answer) z.1.used z.1.means),
            )
