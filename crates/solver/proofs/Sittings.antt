-- One call of a sitting, and one after another.
use Rattle.std.proofs.Common.{◌≡◌, ℕ, ◌+◌, ◌-◌, ◌<◌, min, List, [], ◌∷◌, ◌++◌, map, length, get_or, take, drop, IfOk, Ok, Err, Result, sym, refl, ap, ◌∙◌, subst, arith, length-take}
use mathlib.Core.List.{map-append}
use lib.ListN.{length-map}
use Rattle.std.proofs.lemmas.List.{take_more, take-append-drop}
use Rattle.theory.specs.Entries.{Entry, BookRules}
use Rattle.theory.specs.Calls.{Event}
use Rattle.theory.specs.Calls as T
use Rattle.theory.specs.Known.{nothing}
use Rattle.theory.specs.Carried.{Cell, StandsFor, Carries, and_then}
use Rattle.theory.proofs.LawOfSittings.{law}
use Rattle.theory.proofs.OneBookProof.{rules_out}
use Rattle.calls.specs.declared.answer.Answer.{Answer}
use Rattle.calls.specs.Answers.{answer_of}
use Rattle.slate.specs.declared.slate.Slate.{Slate}
use Rattle.slate.specs.Slates.{supplied, on_slate, Kept, CarriesOn, KeptOver}
use Rattle.calls.specs.declared.call.Call.{Call}
use Rattle.solver.specs.Sitting.{lent, history, Sitting, Made, Sat}

module _ {L : Type 0} (book : List (Entry L)) (rules : ∥ BookRules book ∥₁) (old new : Slate L) (c c' : T.Call L)
    (a : T.Answer) (same : c ≡ c') where
  -- a call that asks no book
  pub made_kept : {E : Type 0} (v : Answer) → Kept old new c a → CarriesOn old new c a → answer_of v ≡ a → Made {E = E} book old new c' (Ok v)
  made_kept v k o e = record {
    answer = a;
    carries = subst (λ z. Carries book (supplied old) (on_slate old) z a (on_slate new)) same (o.over book (rules_out rules));
    as_many = k.as_many;
    is = e;
  }

  -- a call that asks the book
  pub made_over : {E : Type 0} (r : Result Answer E) → KeptOver book old new c a → IfOk r (λ v. answer_of v ≡ a) →
      Made book old new c' r
  made_over r k e = record {
    answer = a;
    carries = subst (λ z. Carries book (supplied old) (on_slate old) z a (on_slate new)) same (k.carries rules);
    as_many = k.as_many;
    is = e;
  }

-- as much of a list as is asked for, but no more than there is
pub lent_length : {A : Type 0} (n r : ℕ) (xs : List A) → r ≡ min n (length xs) → length (take (r - 0) xs) ≡ min n (length xs)
lent_length n r xs e = omega (arith, length-take (r - 0) xs)

module _ {L : Type 0} where
  -- one more call and its answer
  pub history_push : (cs : List (T.Call L)) (l : List T.Answer) (c : T.Call L) (a : T.Answer) → length cs ≡ length l →
      history (cs ++ (c ∷ [])) (l ++ (a ∷ [])) ≡ and_then (history cs l) c a
  history_push [] [] c a n = refl
  history_push [] (b ∷ l) c a n = absurd (omega arith)
  history_push (d ∷ cs) [] c a n = absurd (omega arith)
  history_push (d ∷ cs) (b ∷ l) c a n = ap (λ h. record { call = d; answer = b } ∷ h) (history_push cs l c a (omega arith))

  -- the calls of a history
  pub history_calls : (cs : List (T.Call L)) (l : List T.Answer) → length cs ≡ length l → map (λ (e : Event L). e.call) (history cs l) ≡ cs
  history_calls [] l n = refl
  history_calls (d ∷ cs) [] n = absurd (omega arith)
  history_calls (d ∷ cs) (b ∷ l) n = ap (λ h. d ∷ h) (history_calls cs l (omega arith))

  module _ (book : List (Entry L)) (n : ℕ) where
    -- a call carries the sitting on
    pub carried : (cs ds : List (Cell L)) (h : List (Event L)) (c : T.Call L) (a : T.Answer) → Sitting book n h cs →
        Carries book n cs c a ds → Sitting book n (and_then h c a) ds
    carried cs ds h c a s k =
        let z = k h s.right s.stands in record { right = z.0; law = z.1; stands = z.2 }

-- no call was made yet
pub begun : {L : Type 0} (book : List (Entry L)) (rules : ∥ BookRules book ∥₁) (n : ℕ) (cs : List (Cell L)) →
    StandsFor cs nothing → Sitting book n [] cs
begun book rules n cs s = record { right = tt; law = law book (rules_out rules) n [] tt; stands = s }

module _ {L A : Type 0} (f : A → T.Call L) (calls : List A) (i : ℕ) (x : A) (here : x ≡ get_or calls i x) (inside : i < length calls) where
  -- the calls up to the next one
  up_to : map f (take (i + 1) calls) ≡ map f (take i calls) ++ (f x ∷ [])
  up_to =
      ap (map f) (take_more calls i x inside ∙ ap (λ y. take i calls ++ (y ∷ [])) (sym here))
      ∙ map-append f (take i calls) (x ∷ [])

  module _ (book : List (Entry L)) (n : ℕ) (cs ds : List (Cell L)) (l : List Answer) (long : length l ≡ i)
      (s : Sitting book n (history (map f (take i calls)) (map answer_of l)) cs) (a : T.Answer)
      (k : Carries book n cs (f x) a ds) where
    as_long : length (map f (take i calls)) ≡ length (map answer_of l)
    as_long = omega (arith, length-map (take i calls) f, length-take i calls, length-map l answer_of)

    -- the sitting goes on with the next call
    next_history : List (Event L)
    next_history = and_then (history (map f (take i calls)) (map answer_of l)) (f x) a

    next_sitting : Sitting book n next_history ds
    unfolding next_history
    next_sitting = carried book n cs ds (history (map f (take i calls)) (map answer_of l)) (f x) a s k

    -- its answer is collected
    pub collected : (v : Answer) → answer_of v ≡ a → (m : List Answer) → m ≡ l ++ (v ∷ []) →
        Sitting book n (history (map f (take (i + 1) calls)) (map answer_of m)) ds
    unfolding next_history
    collected v e m q =
        subst (λ h. Sitting book n h ds)
        (sym ((λ j. history (up_to j) ((ap (map answer_of) q ∙ map-append answer_of l (v ∷ [])) j))
        ∙ (ap (λ z. history (map f (take i calls) ++ (f x ∷ [])) (map answer_of l ++ (z ∷ []))) e
        ∙ history_push (map f (take i calls)) (map answer_of l) (f x) a as_long))) next_sitting

    -- its answer is lost for want of memory
    pub lost : {E : Type 0} (e : E) → Sat book n (map f calls) ds (Err e)
    unfolding next_history
    lost e = (
      next_history,
      map f (drop (i + 1) calls),
      sym (ap (λ z. z ++ map f (drop (i + 1) calls))
          (map-append (λ (e : Event L). e.call) (history (map f (take i calls)) (map answer_of l))
          (record { call = f x; answer = a } ∷ [])
          ∙ (ap (λ z. z ++ (f x ∷ [])) (history_calls (map f (take i calls)) (map answer_of l) as_long) ∙ sym up_to))
          ∙ (sym (map-append f (take (i + 1) calls) (drop (i + 1) calls)) ∙ ap (map f) (take-append-drop (i + 1) calls))),
      next_sitting,
    )

-- a call by other names for the same lengths
pub at_lengths : {L : Type 0} (book : List (Entry L)) (cs ds : List (Cell L)) (x : Call L) (a : T.Answer) {n n' p p' q q' r r' : ℕ} →
    n ≡ n' → p ≡ p' → q ≡ q' → r ≡ r' → Carries book n cs (lent p q r x) a ds → Carries book n' cs (lent p' q' r' x) a ds
at_lengths book cs ds x a {n} {n'} {p} {p'} {q} {q'} {r} {r'} en ep eq er k =
    subst (λ z. Carries book z cs (lent p' q' r' x) a ds) en
    (subst (λ z. Carries book n cs (lent z q' r' x) a ds) ep
    (subst (λ z. Carries book n cs (lent p z r' x) a ds) eq
    (subst (λ z. Carries book n cs (lent p q z x) a ds) er k)))
