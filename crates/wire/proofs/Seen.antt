-- What a field is seen as, kind by kind, from the outcome of its tests.
use Rattle.std.proofs.Common.{◌≡◌, ℕ, ◌+◌, ◌*◌, ◌<◌, ◌≤◌, Bool, true, false, cond, not, eqb, ltb, leb, List, length, get_or, drop, Some, None, Option, sym, ap, ◌∙◌, ⊎_elim, arith}
use Rattle.std.specs.List.{list_all}
use Rattle.std.proofs.lemmas.Bool.{cases_lt, eq-eqb, le-leb, lt-leb}
use Rattle.std.proofs.lemmas.Bool.Decides.{nat_tests}
use Rattle.theory.specs.Entries.{Part, variable, node}
use Rattle.form.specs.declared.fault.Cause.{Cause}
use Rattle.form.specs.declared.fault.Cause.TheVariants.{TooMuch, WrongCell, WrongLength}
use Rattle.form.specs.Meanings.{Seen, Shape, between, cell, goals, leaf_seen, node_at, seen, wrong, variable_field, leaf_field, node_field, goals_field}

has_length : (n m : ℕ) → n ≡ m → not (eqb n m) ≡ false
has_length n m e = ap not (eq-eqb n m e)

lies_between : (low n high : ℕ) → low ≤ n → n ≤ high → not (between low n high) ≡ false
lies_between low n high l h = grind (arith, nat_tests)

module _ {V : Type 0} (wide : ℕ) (reading : List ℕ → Option V) (ps : List (Part V)) (bs : List ℕ) where
  pub variable_full : length bs ≡ 0 → 64 ≤ length ps → seen wide reading ps bs (Some variable_field) ≡ wrong TooMuch
  variable_full e h = rw (has_length (length bs) 0 e, le-leb 64 (length ps) h)

  pub variable_seen : length bs ≡ 0 → length ps < 64 → seen wide reading ps bs (Some variable_field) ≡ cell variable
  variable_seen e h = rw (has_length (length bs) 0 e, lt-leb 64 (length ps) h)

  pub leaf_full : length bs ≡ wide → 64 ≤ length ps → seen wide reading ps bs (Some leaf_field) ≡ wrong TooMuch
  leaf_full e h = rw (has_length (length bs) wide e, le-leb 64 (length ps) h)

  pub leaf_read : (o : Option V) → length bs ≡ wide → length ps < 64 → reading bs ≡ o →
      seen wide reading ps bs (Some leaf_field) ≡ leaf_seen o
  leaf_read o e h r = rw (has_length (length bs) wide e, lt-leb 64 (length ps) h) (ap leaf_seen r)

  pub node_full : 2 ≤ length bs → length bs ≤ 6 → 64 ≤ length ps → seen wide reading ps bs (Some node_field) ≡ wrong TooMuch
  node_full l u h = rw (lies_between 2 (length bs) 6 l u, le-leb 64 (length ps) h)

  pub node_wrong : 2 ≤ length bs → length bs ≤ 6 → length ps < 64 → list_all (λ a. ltb a (length ps)) (drop 2 bs) ≡ false →
      seen wide reading ps bs (Some node_field) ≡ wrong WrongCell
  node_wrong l u h e =
      rw (lies_between 2 (length bs) 6 l u, lt-leb 64 (length ps) h, ap not e)

  pub node_seen : 2 ≤ length bs → length bs ≤ 6 → length ps < 64 → list_all (λ a. ltb a (length ps)) (drop 2 bs) ≡ true →
      seen wide reading ps bs (Some node_field) ≡ cell (node (get_or bs 0 0 * 256 + get_or bs 1 0) (drop 2 bs))
  node_seen l u h e =
      rw (lies_between 2 (length bs) 6 l u, lt-leb 64 (length ps) h, ap not e)

  pub goals_wrong : 1 ≤ length bs → length bs ≤ 9 → list_all (node_at ps) bs ≡ false →
      seen wide reading ps bs (Some goals_field) ≡ wrong WrongCell
  goals_wrong l u e = rw (lies_between 1 (length bs) 9 l u, ap not e)

  pub goals_seen : 1 ≤ length bs → length bs ≤ 9 → list_all (node_at ps) bs ≡ true →
      seen wide reading ps bs (Some goals_field) ≡ goals (get_or bs 0 0) (drop 1 bs)
  goals_seen l u e = rw (lies_between 1 (length bs) 9 l u, ap not e)

  -- what was read as a cell had room
  pub cell_room : (sh : Option Shape) (p : Part V) → seen wide reading ps bs sh ≡ cell p → length ps < 64
  cell_room sh p e = ⊎_elim (λ h. h) (λ h. absurd (full sh e (le-leb 64 (length ps) h))) (cases_lt (length ps) 64)
    where
      short : (b c : Bool) (s : Seen V) (k j : Cause) → c ≡ true → cond b (wrong k) (cond c (wrong j) s) ≡ cell p → ⊥
      short true c s k j t f = let z : ◌≡◌ {A = ℕ} 0 1 = cc in omega arith
      short false c s k j t f =
          let g : wrong j ≡ cell p = sym (ap (λ d. cond d (wrong j) s) t) ∙ f in
          let z : ◌≡◌ {A = ℕ} 0 1 = cc in omega arith

      never : (b c : Bool) (k j : Cause) (h : ℕ) (xs : List ℕ) → cond b (wrong k) (cond c (wrong j) (goals h xs)) ≡ cell p → ⊥
      never true c k j h xs f = let z : ◌≡◌ {A = ℕ} 0 1 = cc in omega arith
      never false true k j h xs f = let z : ◌≡◌ {A = ℕ} 0 1 = cc in omega arith
      never false false k j h xs f = let z : ◌≡◌ {A = ℕ} 0 1 = cc in omega arith

      full : (sh : Option Shape) → seen wide reading ps bs sh ≡ cell p → leb 64 (length ps) ≡ true → ⊥
      full None f t = let z : ◌≡◌ {A = ℕ} 0 1 = cc in omega arith
      full (Some variable_field) f t = short (not (eqb (length bs) 0)) (leb 64 (length ps)) (cell variable) WrongLength TooMuch t f
      full (Some leaf_field) f t = short (not (eqb (length bs) wide)) (leb 64 (length ps)) (leaf_seen (reading bs)) WrongLength TooMuch t f
      full (Some node_field) f t = short (not (between 2 (length bs) 6)) (leb 64 (length ps)) _ WrongLength TooMuch t f
      full (Some goals_field) f t = never (not (between 1 (length bs) 9)) (not (list_all (node_at ps) bs)) WrongLength WrongCell (get_or bs 0 0) (drop 1 bs) f
