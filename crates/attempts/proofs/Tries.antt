-- What a try leaves, by what unifying left.
use Rattle.std.proofs.Common.{◌≡◌, ℕ, ◌+◌, ◌≤◌, Bool, true, false, List, length, take, sym, refl, ap, ◌∙◌, subst, subst₂, arith}
use Rattle.theory.specs.Entries.{Part}
use Rattle.unify.specs.Cells as C
use Rattle.unify.specs.Solved.{Solved}
use Rattle.searching.specs.Trying.{copied}
use Rattle.cells.specs.declared.cell.Cell.{Cell}
use Rattle.cells.specs.Cells.{cells_of, WellFormed}
use Rattle.attempts.specs.declared.extent.Extent.{Extent}
use Rattle.attempts.specs.Attempts.{Joined, UnifiedOn, Attempted}
use Rattle.attempts.proofs.Copying.{copied_front}
use Rattle.attempts.proofs.Fronts.{cells_front, counted_front, number_front}

module _ {L : Type 0} (used : ℕ) (cells : List (Cell L)) (h : used ≤ length cells) (ps : List (Part L)) where
  abbrev old : List (C.Cell L)
  old = cells_of (take used cells)

  -- the copy, by the number of cells before it
  pub by_number : copied (λ j. used + j) old ps ≡ copied (λ j. length old + j) old ps
  by_number = ap (λ n. copied (λ j. n + j) old ps) (sym (number_front used cells h))

  -- the run of the unifier over the copy
  pub to_tried : (alike : L → L → Bool) (r : Bool) (whole a b b' : ℕ) (copy : List (Cell L)) (trail trail' : List ℕ)
      (new : List (C.Cell L)) → cells_of (take whole copy) ≡ copied (λ j. used + j) old ps → b ≡ b' →
      Joined alike (cells_of (take whole copy)) a b trail r new trail' →
      Joined alike (copied (λ j. length old + j) old ps) a b' trail r new trail'
  to_tried alike r whole a b b' copy trail trail' new e q j =
      subst₂ (λ cs k. Joined alike cs a k trail r new trail') (e ∙ by_number) q j

  -- the cells in front of the copy are as they were
  module _ (whole : ℕ) (cells' : List (Cell L)) (k : used ≤ whole)
      (e : cells_of (take whole cells') ≡ copied (λ j. used + j) old ps) where
    pub front_kept : cells_of (take used cells') ≡ old
    front_kept =
        cells_front used whole cells' k
        ∙ (ap (take used) e
        ∙ (ap (λ n. take n (copied (λ j. used + j) old ps)) (sym (number_front used cells h))
        ∙ copied_front (λ j. used + j) ps old))

    pub front_sound : WellFormed (take used cells) → WellFormed (take whole cells') → WellFormed (take used cells')
    front_sound s t = record {
      solved = subst Solved (sym front_kept) s.solved;
      counted = counted_front used whole cells' k t.counted;
    }

-- what a try comes to, by what unifying over its copy came to
module _ {L : Type 0} (alike : L → L → Bool) (ps : List (Part L)) (a b b' : ℕ) (q : b ≡ b') (cells copy cells' : List (Cell L))
    (work work' : List ℕ) (x x' : Extent) (whole : ℕ) (within : x.used ≤ length cells) (more : x.used ≤ whole)
    (fits : whole ≤ length cells) (is : cells_of (take whole copy) ≡ copied (λ j. x.used + j) (cells_of (take x.used cells)) ps)
    (many : length copy ≡ length cells) (sound : WellFormed (take x.used cells)) where
  pub stands : x'.used ≡ whole → UnifiedOn alike a b true whole copy work x.trail cells' work' x'.trail →
      Attempted alike ps a b' true cells work x cells' work' x'
  stands e u = record {
    tried = subst (λ k. Joined alike (copied (λ j. length (old x.used cells within ps) + j) (old x.used cells within ps) ps) a b'
        (take x.trail work) true (cells_of (take k cells')) (take x'.trail work')) (sym e)
        (to_tried x.used cells within ps alike true whole a b b' copy (take x.trail work) (take x'.trail work')
        (cells_of (take whole cells')) is q u.joined);
    sound = subst (λ k. WellFormed (take k cells')) (sym e) u.sound;
    fits = omega (arith, u.as_many);
    room = u.room;
    as_many = u.as_many ∙ many;
    as_long = u.as_long;
  }

  pub falls : x' ≡ x → UnifiedOn alike a b false whole copy work x.trail cells' work' x'.trail →
      Attempted alike ps a b' false cells work x cells' work' x'
  falls e u =
      let j = to_tried x.used cells within ps alike false whole a b b' copy (take x.trail work) (take x'.trail work')
      (cells_of (take whole cells')) is q u.joined in
      let all : cells_of (take whole cells') ≡ copied (λ i. x.used + i) (cells_of (take x.used cells)) ps = u.joined.1 ∙ is in
      let n : x'.used ≡ x.used = ap (λ y. y.used) e in
      record {
        tried = (
          j.0,
          ap (λ k. cells_of (take k cells')) n ∙ front_kept x.used cells within ps whole cells' more all,
          j.2,
        );
        sound = subst (λ k. WellFormed (take k cells')) (sym n)
            (front_sound x.used cells within ps whole cells' more all sound u.sound);
        fits = omega (arith, u.as_many);
        room = u.room;
        as_many = u.as_many ∙ many;
        as_long = u.as_long;
      }

  -- in either case
  pub attempted : (r : Bool) → (r ≡ true → x'.used ≡ whole) → (r ≡ false → x' ≡ x) →
      UnifiedOn alike a b r whole copy work x.trail cells' work' x'.trail → Attempted alike ps a b' r cells work x cells' work' x'
  attempted true s f u = stands (s refl) u
  attempted false s f u = falls (f refl) u
