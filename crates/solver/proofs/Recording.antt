-- Writing the steps that stand into a record list.
use Rattle.std.proofs.Common.{◌≡◌, ℕ, suc, ◌+◌, ◌<◌, ◌≤◌, List, [], ◌∷◌, ◌++◌, map, length, get_or, take, drop, set, Ok, Result, sym, refl, ap, ◌∙◌, append_assoc, add-one, arith, length-append, length-drop, length-take}
use mathlib.Core.List.{map-append}
use lib.ListN.{length-map}
use Rattle.std.proofs.lemmas.List.{take_at, drop_at, drop-drop, set_split, take_more}
use Rattle.calls.specs.declared.step.Step.{Step}
use Rattle.calls.specs.Steps.{step_of, steps_of}
use Rattle.theory.specs.Calls.{Answer, grants}
use Rattle.frames.specs.declared.frame.Frame.{Frame}
use Rattle.frames.proofs.Following.{unset}
use Rattle.solver.specs.declared.solved.Solved.TheVariants.{Granted}
use Rattle.solver.specs.declared.ending.Finish.{Finish}
use Rattle.solver.specs.declared.ending.Ending.{Ending}
use Rattle.solver.specs.Searching.{frame_steps}
use Rattle.solver.specs.Solver.{steps_written, Concluded}

-- one more element behind those written
filled : {A : Type 0} (xs old : List A) (i : ℕ) (x : A) → length xs ≡ i → i < length old →
    set (xs ++ drop i old) i x ≡ (xs ++ (x ∷ [])) ++ drop (i + 1) old
filled xs old i x n h =
    set_split (xs ++ drop i old) i x (omega (arith, length-append xs (drop i old), length-drop i old))
    ∙ ((λ j. take_at xs (drop i old) i n j ++ (x ∷ behind j))
    ∙ sym (append_assoc xs (x ∷ []) (drop (i + 1) old)))
  where
    behind : drop (suc i) (xs ++ drop i old) ≡ drop (i + 1) old
    behind =
        ap (λ k. drop k (xs ++ drop i old)) (sym (add-one i))
        ∙ (sym (drop-drop 1 i (xs ++ drop i old)) ∙ (ap (drop 1) (drop_at xs (drop i old) i n) ∙ drop-drop 1 i old))

-- one more is written
pub one_written : (frames : List Frame) (old steps : List Step) (i : ℕ) → steps ≡ steps_written (take i frames) old →
    i < length frames → i < length old → set steps i (get_or frames i unset).step ≡ steps_written (take (i + 1) frames) old
one_written frames old steps i e h k =
    let n : length (take i frames) ≡ i = omega (arith, length-take i frames) in
    let m : length (take (i + 1) frames) ≡ i + 1 = omega (arith, length-take (i + 1) frames) in
    let xs : List Step = map (λ (f : Frame). f.step) (take i frames) in
    let x : Step = (get_or frames i unset).step in
    ap (λ l. set l i x) (e ∙ ap (λ j. xs ++ drop j old) n)
    ∙ (filled xs old i x (length-map (take i frames) (λ (f : Frame). f.step) ∙ n) k
    ∙ sym ((λ j. map (λ (f : Frame). f.step) (take_more frames i unset h j) ++ drop (m j) old)
    ∙ ap (λ l. l ++ drop (i + 1) old) (map-append (λ (f : Frame). f.step) (take i frames) (get_or frames i unset ∷ []))))

-- the record of a grant
pub granted_record : (end : Finish) (frames : List Frame) (old new : List Step) → end.ending ≡ Ok tt →
    end.depth ≤ length old → end.depth ≤ length frames → new ≡ steps_written (take end.depth frames) old →
    Concluded end frames old new (Ok (Granted end.count end.depth))
granted_record end frames old new g h k e =
    let d : ℕ = end.depth in
    let n : length (take d frames) ≡ d = omega (arith, length-take d frames) in
    let xs : List Step = map (λ (f : Frame). f.step) (take d frames) in
    let l : length xs ≡ d = length-map (take d frames) (λ (f : Frame). f.step) ∙ n in
    let e₁ : new ≡ xs ++ drop d old = e ∙ ap (λ j. xs ++ drop j old) n in
    record {
      is =
          ap (λ z. grants end.count (steps_of z)) (ap (take d) e₁ ∙ take_at xs (drop d old) d l)
          ∙ (ap (grants end.count) (both (take d frames)) ∙ sym (ap (λ z. out z) g));
      left = (
        h,
        ap length e₁ ∙ omega (arith, length-append xs (drop d old), length-drop d old),
        ap (drop d) e₁ ∙ drop_at xs (drop d old) d l,
      );
    }
  where
    out : Result (Unit {0}) Ending → Answer
    out z = Rattle.theory.specs.Answers.answer_of
        (Rattle.solver.specs.Searching.outcome_of z end.count (frame_steps (take end.depth frames)))

    both : (fs : List Frame) → steps_of (map (λ (f : Frame). f.step) fs) ≡ frame_steps fs
    both [] = refl
    both (f ∷ fs) = ap (λ z. step_of f.step ∷ z) (both fs)
