-- Readings of joined lists of equations, and of equations over other terms.
use Rattle.std.proofs.Common.{ℕ, suc, List, [], ◌∷◌, ◌++◌, map, Some, sym, refl, ap, ◌∙◌}
use lib.ListN.{length-map}
use Rattle.std.specs.List.{AllByRecursion}
use Rattle.std.proofs.ByRecursion.{All-map, All-weaker}
use Rattle.theory.specs.Trees.{Tree, Same, Label}
use Rattle.theory.specs.Equations.{Equation, is_leaf, is_node, equal, rename, Meets, MeetsAll, Children}
use Rattle.theory.specs.Known.{Names}
use Rattle.theory.proofs.Elements.{all_any}

module _ {V X : Type 0} (ρ : X → Tree V) where
  -- a reading of two lists meets the first
  pub meets_left : (a b : List (Equation V X)) → MeetsAll ρ (a ++ b) → MeetsAll ρ a
  meets_left [] b m = tt
  meets_left (e ∷ a) b m = (m.0, meets_left a b m.1)

  -- and the second
  pub meets_right : (a b : List (Equation V X)) → MeetsAll ρ (a ++ b) → MeetsAll ρ b
  meets_right [] b m = m
  meets_right (e ∷ a) b m = meets_right a b m.1

  -- what meets both meets the joined list
  pub meets_both : (a b : List (Equation V X)) → MeetsAll ρ a → MeetsAll ρ b → MeetsAll ρ (a ++ b)
  meets_both [] b m n = n
  meets_both (e ∷ a) b m n = (m.0, meets_both a b m.1 n)

module _ {V X : Type 0} where
  -- what holds of the terms that an equation names may be weakened
  pub names_weaker : (P Q : X → Type 0) → ((x : X) → P x → Q x) → (e : Equation V X) → Names P e → Names Q e
  names_weaker P Q h (is_leaf x v) a = h x a
  names_weaker P Q h (is_node x f xs) a = (h x a.0, All-weaker P Q h xs a.1)
  names_weaker P Q h (equal x y) a = (h x a.0, h y a.1)

  -- so for each equation of a list
  pub all_names_weaker :
      (P Q : X → Type 0) → ((x : X) → P x → Q x) →
      (es : List (Equation V X)) → AllByRecursion (Names P) es → AllByRecursion (Names Q) es
  all_names_weaker P Q h es a = All-weaker (Names P) (Names Q) (names_weaker P Q h) es a

  -- what holds of all terms holds of those named
  names_any : (P : X → Type 0) → ((x : X) → P x) → (e : Equation V X) → Names P e
  names_any P h (is_leaf x v) = h x
  names_any P h (is_node x f xs) = (h x, all_any P h xs)
  names_any P h (equal x y) = (h x, h y)

-- what holds of the new terms holds of those that the renamed equations name
pub all_names_renamed :
    {V X Y : Type 0} (g : X → Y) (P : Y → Type 0) (es : List (Equation V X)) →
    AllByRecursion (Names (λ x. P (g x))) es → AllByRecursion (Names P) (map (rename g) es)
all_names_renamed g P [] a = tt
all_names_renamed g P (is_leaf x v ∷ es) a = (a.0, all_names_renamed g P es a.1)
all_names_renamed g P (is_node x f xs ∷ es) a =
    ((a.0.0, All-map P g xs a.0.1), all_names_renamed g P es a.1)
all_names_renamed g P (equal x y ∷ es) a = (a.0, all_names_renamed g P es a.1)

-- a reading ρ of the new terms and one τ of the old
module _ {V X Y : Type 0} (f : X → Y) (ρ : Y → Tree V) (τ : X → Tree V) where
  -- the two give a term the same tree
  abbrev pub Agrees : X → Type 0
  Agrees x = Same (ρ (f x)) (τ x)

  -- the arguments
  there_children :
      (t u : Tree V) → Same t u → (i : ℕ) (xs : List X) → AllByRecursion Agrees xs →
      Children τ u i xs → Children ρ t i (map f xs)
  there_children t u s i [] a c = tt
  there_children t u s i (x ∷ xs) a c =
      (λ p. s (i ∷ p) ∙ (c.0 p ∙ sym (a.0 p)), there_children t u s (suc i) xs a.1 c.1)

  -- one equation
  there : (e : Equation V X) → Names Agrees e → Meets τ e → Meets ρ (rename f e)
  there (is_leaf x v) a m = a [] ∙ m
  there (is_node x g xs) a m = (
    a.0 [] ∙ (m.0 ∙ ap (λ n. Some (Label.node g n)) (sym (length-map xs f))),
    there_children (ρ (f x)) (τ x) a.0 0 xs a.1 m.1,
  )
  there (equal x y) a m = λ p. a.0 p ∙ (m p ∙ sym (a.1 p))

  -- where they agree on what the equations name, one meets the renamed equations if the other meets the equations
  pub there_all : (es : List (Equation V X)) → AllByRecursion (Names Agrees) es → MeetsAll τ es →
      MeetsAll ρ (map (rename f) es)
  there_all [] a m = tt
  there_all (e ∷ es) a m = (there e a.0 m.0, there_all es a.1 m.1)

  -- the arguments, the other way
  back_children :
      (t u : Tree V) → Same t u → (i : ℕ) (xs : List X) → AllByRecursion Agrees xs →
      Children ρ t i (map f xs) → Children τ u i xs
  back_children t u s i [] a c = tt
  back_children t u s i (x ∷ xs) a c =
      (λ p. sym (s (i ∷ p)) ∙ (c.0 p ∙ a.0 p), back_children t u s (suc i) xs a.1 c.1)

  -- one equation, the other way
  back : (e : Equation V X) → Names Agrees e → Meets ρ (rename f e) → Meets τ e
  back (is_leaf x v) a m = sym (a []) ∙ m
  back (is_node x g xs) a m = (
    sym (a.0 []) ∙ (m.0 ∙ ap (λ n. Some (Label.node g n)) (length-map xs f)),
    back_children (ρ (f x)) (τ x) a.0 0 xs a.1 m.1,
  )
  back (equal x y) a m = λ p. sym (a.0 p) ∙ (m p ∙ a.1 p)

  -- and the other way round
  pub back_all : (es : List (Equation V X)) → AllByRecursion (Names Agrees) es → MeetsAll ρ (map (rename f) es) →
      MeetsAll τ es
  back_all [] a m = tt
  back_all (e ∷ es) a m = (back e a.0 m.0, back_all es a.1 m.1)

-- a reading of the new terms is one of the old
module _ {V X Y : Type 0} (f : X → Y) (ρ : Y → Tree V) (es : List (Equation V X)) where
  -- the two agree on all terms
  agrees : AllByRecursion (Names (Agrees f ρ (λ x. ρ (f x)))) es
  agrees = all_any (Names (Agrees f ρ (λ x. ρ (f x)))) (names_any (Agrees f ρ (λ x. ρ (f x))) (λ x p. refl)) es

  -- what meets the equations meets them renamed
  pub meets_renamed : MeetsAll (λ x. ρ (f x)) es → MeetsAll ρ (map (rename f) es)
  meets_renamed m = there_all f ρ (λ x. ρ (f x)) es agrees m

  -- and the other way round
  pub meets_unrenamed : MeetsAll ρ (map (rename f) es) → MeetsAll (λ x. ρ (f x)) es
  meets_unrenamed m = back_all f ρ (λ x. ρ (f x)) es agrees m
