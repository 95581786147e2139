-- A call that keeps its contract carries every right sitting on.
use Rattle.std.proofs.Common.{◌≡◌, ℕ, List, [], ◌∷◌, sym, refl, subst}
use Rattle.theory.specs.Entries.{Entry, BookRules}
use Rattle.theory.specs.Calls.{Call, Answer, Event}
use Rattle.theory.specs.Known.{Known, nothing, after, known, known_from}
use Rattle.theory.specs.Answers.{Defined}
use Rattle.theory.specs.Sittings.{Right}
use Rattle.theory.specs.Carried.{Cell, StandsFor, and_then, RightCall, Carries}
use Rattle.theory.proofs.Elements.{none_some}
use Rattle.theory.proofs.SoundSittings.{sound_right}
use Rattle.theory.proofs.Histories.{right_push}
use Rattle.theory.proofs.LawOfSittings.{law}

-- no cells stand for nothing
pub wiped : {V : Type 0} → StandsFor {V = V} [] nothing
wiped = record { used = refl; readings = λ ρ trees. (λ m. m, λ m. m); nodes = λ i c f xs e p. absurd (none_some e) }

module _ {V : Type 0} (book : List (Entry V)) where
  -- what is known after one more event
  known_push : (k : Known V) (h : List (Event V)) (c : Call V) (a : Answer) →
      known_from book k (and_then h c a) ≡ after book (known_from book k h) c a
  known_push k [] c a = refl
  known_push k (e ∷ h) c a = known_push (after book k e.call e.answer) h c a

  -- a call that answers as it should after every right sitting that leads to its cells carries each of them on
  pub carries_from : BookRules book → (supplied : ℕ) (cs cs' : List (Cell V)) (c : Call V) (a : Answer) →
      ((h : List (Event V)) → Right book supplied h → StandsFor cs (known book h) →
      Defined book supplied (known book h) c a × StandsFor cs' (after book (known book h) c a)) →
      Carries book supplied cs c a cs'
  carries_from rules supplied cs cs' c a f h r s =
      let d : Defined book supplied (known book h) c a × StandsFor cs' (after book (known book h) c a) = f h r s in
      let r' : Right book supplied (and_then h c a) = right_push book supplied nothing h c a r d.0 in (
        r',
        law book rules supplied (and_then h c a) r',
        subst (StandsFor cs') (sym (known_push nothing h c a)) d.1,
      )

  -- so does a call that keeps its contract
  pub carries : BookRules book → (supplied : ℕ) (cs cs' : List (Cell V)) (c : Call V) (a : Answer) →
      RightCall book supplied cs c a cs' → Carries book supplied cs c a cs'
  carries rules supplied cs cs' c a f =
      carries_from rules supplied cs cs' c a (λ h r. f (known book h) (sound_right book rules supplied h r))
