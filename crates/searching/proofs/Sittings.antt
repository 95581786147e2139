-- An executed sitting is right.
use Rattle.std.proofs.Common.{◌≡◌, ℕ, Bool, List, [], ◌∷◌, ◌++◌, map, Some, None, Option, sym, refl, subst}
use Rattle.theory.specs.Entries.{Entry, BookRules}
use Rattle.theory.specs.Calls.{Call, Answer, Event}
use Rattle.theory.specs.Known.{Known, nothing, after, known_from, known}
use Rattle.theory.specs.Answers.{Defined}
use Rattle.theory.specs.Sittings.{RightFrom, Right}
use Rattle.theory.proofs.Elements.{none_some, some_inj}
use Rattle.theory.proofs.Histories.{right_push}
use Rattle.theory.proofs.SoundSittings.{sound_right}
use Rattle.unify.specs.Cells.{Cell}
use Rattle.unify.specs.Theorems.{Decides}
use Rattle.unify.proofs.Written.{writing}
use Rattle.unify.proofs.Meant.{meaning}
use Rattle.searching.specs.Answering.{Answered, answers, before, next_call, sits}
use Rattle.searching.specs.Theorems.{Holds, SittingsAreRight}
use Rattle.searching.proofs.Answered.{answers_right}

-- what is known after one more event
known_push : {V : Type 0} (book : List (Entry V)) (k : Known V) (h : List (Event V)) (e : Event V) →
    known_from book k (h ++ (e ∷ [])) ≡ after book (known_from book k h) e.call e.answer
known_push book k [] e = refl
known_push book k (d ∷ h) e = known_push book (after book k d.call d.answer) h e

module _ {V : Type 0} (same : V → V → Bool) (law : Decides same) (book : List (Entry V)) (rules : BookRules book)
    (supplied turns : ℕ) where
  -- what the further calls come to
  abbrev ComesTo : List (Call V) → Known V → List (Event V) → Type 0
  ComesTo cs k h = RightFrom book supplied k h × (map (λ e. e.call) h ≡ cs)

  -- the calls are rightly answered after any right sitting that led to the cells
  abbrev SitsRight : List (Call V) → (List (Cell V) → Option (List (Event V))) → Type 0
  SitsRight cs go = (past : List (Event V)) → Right book supplied past → (cells : List (Cell V)) →
      Holds cells (known book past) → (h : List (Event V)) → go cells ≡ Some h → ComesTo cs (known book past) h

  -- one more event in front
  before_right : (k : Known V) (c : Call V) (a : Answer) (cs : List (Call V)) → Defined book supplied k c a →
      (o : Option (List (Event V))) → ((h : List (Event V)) → o ≡ Some h → ComesTo cs (after book k c a) h) →
      (h : List (Event V)) → before (record { call = c; answer = a }) o ≡ Some h → ComesTo (c ∷ cs) k h
  unfolding before
  before_right k c a cs d None rest h q = absurd (none_some q)
  before_right k c a cs d (Some t) rest h q =
      let w = rest t refl in
      subst (ComesTo (c ∷ cs) k) (some_inj q) ((d, w.0), λ i. c ∷ w.1 i)

  -- one more call
  call_right : (c : Call V) (cs : List (Call V)) (go : List (Cell V) → Option (List (Event V))) →
      SitsRight cs go → (past : List (Event V)) → Right book supplied past → (cells : List (Cell V)) →
      Holds cells (known book past) → (o : Option (Answered V)) → answers same book supplied turns cells c ≡ o →
      (h : List (Event V)) → next_call c o go ≡ Some h → ComesTo (c ∷ cs) (known book past) h
  unfolding next_call
  call_right c cs go right past r cells k None e h q = absurd (none_some q)
  call_right c cs go right past r cells k (Some a) e h q =
      let k₀ : Known V = known book past in
      let x : Event V = record { call = c; answer = a.answer } in
      let w = answers_right V same law book rules supplied turns k₀ (sound_right book rules supplied past r) cells
      k c a e in
      let n : known book (past ++ (x ∷ [])) ≡ after book k₀ c a.answer = known_push book nothing past x in
      before_right k₀ c a.answer cs w.0 (go a.cells)
      (λ t p. subst (λ z. ComesTo cs z t) n
      (right (past ++ (x ∷ [])) (right_push book supplied nothing past c a.answer r w.0) a.cells
      (subst (Holds a.cells) (sym n) w.1) t p))
      h q

  -- any calls
  sits_right : (cs : List (Call V)) → SitsRight cs (sits same book supplied turns cs)
  unfolding sits
  sits_right [] past r cells k h q = subst (ComesTo [] (known book past)) (some_inj q) (tt, refl)
  sits_right (c ∷ cs) past r cells k h q =
      call_right c cs (sits same book supplied turns cs) (sits_right cs) past r cells k
      (answers same book supplied turns cells c) refl h q

-- from no cells on
pub sittings_right : (V : Type 0) → SittingsAreRight V
sittings_right V same law book rules supplied turns calls h q =
    sits_right same law book rules supplied turns calls [] tt []
    (record { solved = (writing V).none; used = refl; means = (meaning V).none }) h q
