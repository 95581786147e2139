-- What a field of an entry is taken for: a cell that keeps the rules, or goals that name nodes.
use Rattle.std.proofs.Common.{◌≡◌, ℕ, zero, suc, ◌+◌, ◌*◌, ◌<◌, ◌≤◌, false, cond, not, eqb, ltb, leb, List, [], ◌∷◌, ◌++◌, length, Some, None, Decides, Option, sym, refl, ap, arith}
use Rattle.std.specs.List.{AllByRecursion, slice_get, list_all}
use Rattle.std.proofs.lemmas.List.{nil_from_length}
use Rattle.std.proofs.lemmas.Bool.{false≢true, not-false, leb-true, leb-false, eqb-true, and_parts, cond_both}
use Rattle.leaf.specs.Bytes.{Bytes, two_bytes}
use Rattle.theory.specs.Entries.{Part, variable, leaf, node, PartRules, IsNode}
use Rattle.form.specs.declared.fault.Cause.{Cause}
use Rattle.form.specs.declared.fault.Cause.TheVariants.{WrongLength, WrongCell, TooMuch}
use Rattle.form.specs.Meanings.{Test, Shape, variable_field, leaf_field, node_field, goals_field, shape, between, Seen, wrong, cell, goals, node_at, judged, leaf_seen, seen}
use Rattle.std.proofs.lemmas.Bool.Decides.{Decides-ltb}
use Rattle.form.proofs.Bytewise.{all_decides}
use Rattle.form.proofs.Rows.{two_bytes_back}

module _ {V : Type 0} where
  -- the test of a cell's number decides whether the cell is a node
  pub node_decides : (ps : List (Part V)) (n : ℕ) → Decides (node_at ps n) (IsNode (slice_get ps n))
  node_decides [] n = (λ e. absurd (false≢true e), λ h. absurd h)
  node_decides (variable ∷ ps) zero = (λ e. absurd (false≢true e), λ h. absurd h)
  node_decides (leaf v ∷ ps) zero = (λ e. absurd (false≢true e), λ h. absurd h)
  node_decides (node f xs ∷ ps) zero = (λ e. tt, λ h. refl)
  node_decides (p ∷ ps) (suc n) = node_decides ps n

  -- what holds of every fault, and of what passes all the tests, holds of what is judged
  judged_all : (P : Seen V → Type 0) → ((c : Cause) → P (wrong c)) → (ts : List Test) (s : Seen V) →
      (AllByRecursion (λ t. t.fails ≡ false) ts → P s) → P (judged ts s)
  judged_all P faulty [] s passes = passes tt
  judged_all P faulty (t ∷ ts) s passes =
      cond_both t.fails (wrong t.cause) (judged ts s) P (λ e. faulty t.cause)
      (λ e. judged_all P faulty ts s (λ a. passes (e, a)))

module _ {V : Type 0} (wide : ℕ) (reading : List ℕ → Option V) where
  -- a field with that tag and those contents is the cell
  abbrev pub Shows : ℕ → List ℕ → Part V → Type 0
  Shows tag bs variable = (tag ≡ 16) × (bs ≡ [])
  Shows tag bs (leaf v) = (tag ≡ 17) × (reading bs ≡ Some v)
  Shows tag bs (node f args) = (tag ≡ 18) × (bs ≡ two_bytes f ++ args)

  -- what is known of what a field after the cells ps is taken for
  abbrev pub Good : List (Part V) → ℕ → List ℕ → Seen V → Type 0
  Good ps tag bs (wrong c) = Unit {0}
  Good ps tag bs (cell p) = (length ps < 64) × PartRules (length ps) p × Shows tag bs p
  Good ps tag bs (goals head body) =
      IsNode (slice_get ps head) × AllByRecursion (λ b. IsNode (slice_get ps b)) body × (length body ≤ 8) × (tag ≡ 19) × (bs ≡ head ∷ body)

  module _ (ps : List (Part V)) (tag : ℕ) where
    variable_good : (bs : List ℕ) → tag ≡ 16 → Good ps tag bs (seen wide reading ps bs (Some variable_field))
    variable_good bs t =
        judged_all (Good ps tag bs) (λ c. tt)
        (record { cause = WrongLength; fails = not (eqb (length bs) 0) }
        ∷ record { cause = TooMuch; fails = leb 64 (length ps) } ∷ [])
        (cell variable)
        (λ a. (
          leb-false 64 (length ps) a.1.0,
          tt,
          (t, nil_from_length bs (eqb-true (length bs) 0 (not-false (eqb (length bs) 0) a.0))),
        ))

    leaf_good : (bs : List ℕ) → tag ≡ 17 → Good ps tag bs (seen wide reading ps bs (Some leaf_field))
    leaf_good bs t =
        judged_all (Good ps tag bs) (λ c. tt)
        (record { cause = WrongLength; fails = not (eqb (length bs) wide) }
        ∷ record { cause = TooMuch; fails = leb 64 (length ps) } ∷ [])
        (leaf_seen (reading bs))
        (λ a. go (reading bs) refl (leb-false 64 (length ps) a.1.0))
      where
        go : (o : Option V) → reading bs ≡ o → length ps < 64 → Good ps tag bs (leaf_seen o)
        go None e h = tt
        go (Some v) e h = (h, tt, (t, e))

    node_good : (bs : List ℕ) → Bytes bs → tag ≡ 18 → Good ps tag bs (seen wide reading ps bs (Some node_field))
    node_good [] b t = tt
    node_good (x ∷ []) b t = tt
    node_good (h ∷ l ∷ args) b t =
        judged_all (Good ps tag (h ∷ l ∷ args)) (λ c. tt)
        (record { cause = WrongLength; fails = not (between 2 (length (h ∷ l ∷ args)) 6) }
        ∷ record { cause = TooMuch; fails = leb 64 (length ps) }
        ∷ record { cause = WrongCell; fails = not (list_all (λ a. ltb a (length ps)) args) } ∷ [])
        (cell (node (h * 256 + l) args))
        (λ a.
        let n = length (h ∷ l ∷ args) in
        let few : n ≤ 6 = leb-true n 6 (and_parts (leb 2 n) (leb n 6) (not-false (between 2 n 6) a.0)).1 in
        let low : l < 256 = b.1.0 in
        let high : h < 256 = b.0 in (
          leb-false 64 (length ps) a.1.0,
          (
            omega arith,
            omega arith,
            (all_decides (λ x. ltb x (length ps)) (λ x. x < length ps) (λ x. Decides-ltb x (length ps)) args).0
                (not-false (list_all (λ x. ltb x (length ps)) args) a.1.1.0),
          ),
          (t, ap (λ xs. xs ++ args) (sym (two_bytes_back h l low))),
        ))

    goals_good : (bs : List ℕ) → tag ≡ 19 → Good ps tag bs (seen wide reading ps bs (Some goals_field))
    goals_good [] t = tt
    goals_good (head ∷ body) t =
        judged_all (Good ps tag (head ∷ body)) (λ c. tt)
        (record { cause = WrongLength; fails = not (between 1 (length (head ∷ body)) 9) }
        ∷ record { cause = WrongCell; fails = not (list_all (node_at ps) (head ∷ body)) } ∷ [])
        (goals head body)
        (λ a.
        let n = length (head ∷ body) in
        let few : n ≤ 9 = leb-true n 9 (and_parts (leb 1 n) (leb n 9) (not-false (between 1 n 9) a.0)).1 in
        let nodes : AllByRecursion (λ b. IsNode (slice_get ps b)) (head ∷ body) =
        (all_decides (node_at ps) (λ b. IsNode (slice_get ps b)) (node_decides ps) (head ∷ body)).0
        (not-false (list_all (node_at ps) (head ∷ body)) a.1.0) in
        (nodes.0, nodes.1, omega arith, t, refl))

    -- whatever bytes a field holds, what it is taken for is good
    pub seen_good : (bs : List ℕ) → Bytes bs → Good ps tag bs (seen wide reading ps bs (shape tag))
    seen_good bs b =
        let P : Option Shape → Type 0 = λ o. Good ps tag bs (seen wide reading ps bs o) in
        cond_both (eqb tag 16) (Some variable_field)
        (cond (eqb tag 17) (Some leaf_field)
        (cond (eqb tag 18) (Some node_field) (cond (eqb tag 19) (Some goals_field) None))) P
        (λ e. variable_good bs (eqb-true tag 16 e))
        (λ _.
        cond_both (eqb tag 17) (Some leaf_field)
        (cond (eqb tag 18) (Some node_field) (cond (eqb tag 19) (Some goals_field) None)) P
        (λ e. leaf_good bs (eqb-true tag 17 e))
        (λ _.
        cond_both (eqb tag 18) (Some node_field) (cond (eqb tag 19) (Some goals_field) None) P
        (λ e. node_good bs b (eqb-true tag 18 e))
        (λ _. cond_both (eqb tag 19) (Some goals_field) None P (λ e. goals_good bs (eqb-true tag 19 e)) (λ _. tt))))
