-- A derivation in which every branch ends or meets a tree above it shows that its tree is held.
use Rattle.std.proofs.Common.{◌≡◌, ℕ, zero, suc, ◌<◌, List, [], ◌∷◌, ◌++◌, length, get_or, Some, refl, ◌∙◌, subst, suc-le-suc, zero-le, le_of_suc-le-suc, not-suc-le-zero}
use native.Mathlib.Bridge.{le_prop}
use Rattle.std.specs.List.{slice_get, AllByRecursion}
use Rattle.std.proofs.ByRecursion.{All-append, All-get_or, All-weaker}
use Rattle.theory.specs.Trees.{Tree, Same}
use Rattle.theory.specs.Entries.{Entry, clause, Instance}
use Rattle.theory.specs.Held.{FiniteProof, by_entry, HeadsWithin, Held}
use Rattle.theory.proofs.Elements.{all_left, all_right, all_or}

-- a list for each number below n, joined
module _ {A : Type 0} where
  -- all of them in one list
  abbrev gather : (n : ℕ) → ((i : ℕ) → i < n → List A) → List A
  gather zero f = []
  gather (suc n) f = f 0 (suc-le-suc zero-le) ++ gather n (λ i h. f (suc i) (suc-le-suc h))

  -- what holds of each element of each list holds of each element of all
  gathered : (P : A → Type 0) (n : ℕ) (f : (i : ℕ) → i < n → List A) →
      ((i : ℕ) (h : i < n) → AllByRecursion P (f i h)) → AllByRecursion P (gather n f)
  gathered P zero f a = tt
  gathered P (suc n) f a =
      All-append P (f 0 (suc-le-suc zero-le)) (gather n (λ i h. f (suc i) (suc-le-suc h)))
      (a 0 (suc-le-suc zero-le))
      (gathered P n (λ i h. f (suc i) (suc-le-suc h)) (λ i h. a (suc i) (suc-le-suc h)))

  -- and the other way round
  each : (P : A → Type 0) (n : ℕ) (f : (i : ℕ) → i < n → List A) →
      AllByRecursion P (gather n f) → (i : ℕ) (h : i < n) → AllByRecursion P (f i h)
  each P zero f a i h = absurd (not-suc-le-zero h)
  each P (suc n) f a zero h =
      subst (λ q. AllByRecursion P (f 0 q)) (le_prop (suc-le-suc zero-le) h)
      (all_left P (f 0 (suc-le-suc zero-le)) (gather n (λ i h. f (suc i) (suc-le-suc h))) a)
  each P (suc n) f a (suc i) h =
      subst (λ q. AllByRecursion P (f (suc i) q)) (le_prop (suc-le-suc (le_of_suc-le-suc h)) h)
      (each P n (λ i h. f (suc i) (suc-le-suc h))
      (all_right P (f 0 (suc-le-suc zero-le)) (gather n (λ i h. f (suc i) (suc-le-suc h))) a)
      i (le_of_suc-le-suc h))

module _ {V : Type 0} (book : List (Entry V)) where
  -- a derivation of a tree below some ancestors: an instance of a clause with derivations of its body trees,
  -- or the tree of an ancestor, which then needs a finite proof of its own
  pub data Derivation : List (Tree V) → Tree V → Type 0 where
    expands : {above : List (Tree V)} {t : Tree V} (k : ℕ) (e : Entry V) →
        slice_get book k ≡ Some e →
        e.kind ≡ clause →
        (ι : ℕ → Tree V) → Instance e ι →
        Same t (ι e.head) →
        ((i : ℕ) → i < length e.body → Derivation (t ∷ above) (ι (get_or e.body i 0))) →
        Derivation above t
    loops : {above : List (Tree V)} {t : Tree V} (n : ℕ) → n < length above →
        Same t (get_or above n t) →
        FiniteProof book t →
        Derivation above t

  -- a derived tree has a finite proof
  finite : {above : List (Tree V)} {t : Tree V} → Derivation above t → FiniteProof book t
  finite (expands k e f c ι inst s kids) = by_entry k e f ι inst s (λ i h. finite (kids i h))
  finite (loops n h s p) = p

  -- the trees that a derivation expands
  abbrev expanded : {above : List (Tree V)} {t : Tree V} → Derivation above t → List (Tree V)
  expanded (expands {t = t} k e f c ι inst s kids) = t ∷ gather (length e.body) (λ i h. expanded (kids i h))
  expanded (loops n h s p) = []

  -- each of them has a finite proof
  all_finite : {above : List (Tree V)} {t : Tree V} (d : Derivation above t) → AllByRecursion (FiniteProof book) (expanded d)
  all_finite (expands k e f c ι inst s kids) = (
    finite (expands k e f c ι inst s kids),
    gathered (FiniteProof book) (length e.body) (λ i h. expanded (kids i h)) (λ i h. all_finite (kids i h)),
  )
  all_finite (loops n h s p) = tt

  module _ (S : ℕ → Tree V) where
    -- the tree is a member of the sequence
    abbrev Member : Tree V → Type 0
    Member t = (m : ℕ) × Same t (S m)

    -- where the ancestors and the expanded trees are members, so is the tree, and each expanded tree heads an
    -- instance within the sequence
    within : {above : List (Tree V)} {t : Tree V} (d : Derivation above t) →
        AllByRecursion Member above → AllByRecursion Member (expanded d) → Member t × AllByRecursion (HeadsWithin book S) (expanded d)
    within (expands {t = t} k e f c ι inst s kids) a b =
        let trees : (i : ℕ) → i < length e.body → List (Tree V) = λ i h. expanded (kids i h) in
        let kid : (i : ℕ) (h : i < length e.body) →
        Member (ι (get_or e.body i 0)) × AllByRecursion (HeadsWithin book S) (expanded (kids i h)) =
        λ i h. within (kids i h) (b.0, a) (each Member (length e.body) trees b.1 i h) in
        let here : HeadsWithin book S t = record {
          number = k;
          entry = e;
          found = f;
          is_clause = c;
          trees = ι;
          instance = inst;
          head = s;
          body = λ i h. (kid i h).0;
        } in
        (b.0, (here, gathered (HeadsWithin book S) (length e.body) trees (λ i h. (kid i h).1)))
    within (loops {above = above} {t = t} n h s p) a b =
        let u : Member (get_or above n t) = All-get_or Member above n t h a in
        ((u.0, λ q. s q ∙ u.1 q), tt)

  -- a list is a sequence that has its elements as members
  listed : (t : Tree V) (l : List (Tree V)) → AllByRecursion (Member (λ m. get_or l m t)) l
  listed t [] = tt
  listed t (x ∷ l) = (
    (0, λ p. refl),
    All-weaker (Member (λ m. get_or l m t)) (Member (λ m. get_or (x ∷ l) m t)) (λ u w. (suc w.0, w.1)) l
        (listed t l),
  )

  -- a derived tree with no ancestors is held, in the set of the expanded trees
  pub held : {above : List (Tree V)} {t : Tree V} → length above ≡ 0 → Derivation above t → Held book t
  held z (expands {above = []} {t = t} k e f c ι inst s kids) =
      let d : Derivation [] t = expands k e f c ι inst s kids in
      let S : ℕ → Tree V = λ m. get_or (expanded d) m t in
      let w : Member S t × AllByRecursion (HeadsWithin book S) (expanded d) = within S d tt (listed t (expanded d)) in
      record {
        set = S;
        at = 0;
        same = λ p. refl;
        proved = all_or (FiniteProof book) (expanded d) t (all_finite d) (finite d);
        heads = all_or (HeadsWithin book S) (expanded d) t w.1 w.1.0;
      }
  held z (expands {above = x ∷ above} k e f c ι inst s kids) =
      absurd (not-suc-le-zero (subst (λ n. 0 < n) z (suc-le-suc zero-le)))
  held z (loops n h s p) = absurd (not-suc-le-zero (subst (λ k. n < k) z h))
