-- The unifier over endless trees, in steps as a loop over cells and a trail takes them. Assumes nothing.
use Rattle.std.specs.Prelude.{ℕ, zero, suc, ◌-◌, Bool, true, false, cond, List, [], ◌∷◌, ◌++◌, length, Some, None, Option, ◌==◌, nat_lt}
use Rattle.std.specs.List.{slice_get}
use Rattle.unify.specs.Cells.{Content, variable, leaf, node, Cell, content_at, joined_at, rejoin, rank, root}

-- the cells, the trail of those joined so far, and the place in it from which on arguments are owed
pub record State (V : Type 0) : Type 0 where
  pub cells : List (Cell V)
  pub trail : List ℕ
  pub place : ℕ

-- a step goes on, or meets two roots that cannot be joined
pub data Move (V : Type 0) : Type 0 where
  went : State V → Move V
  clash : State V → Move V

module _ {V : Type 0} where
  -- nothing joined yet, nothing owed
  unfoldable pub start : List (Cell V) → State V
  start cells = record { cells = cells; trail = []; place = 0 }

  -- joins a root to another, and puts it on the trail
  unfoldable pub link : State V → ℕ → ℕ → State V
  link s high low = record {
    cells = rejoin s.cells high (Some low);
    trail = s.trail ++ (high ∷ []);
    place = s.place;
  }

  -- the first root has the lower rank, or not: joins the higher one to the lower
  unfoldable pub link_down : Bool → State V → ℕ → ℕ → State V
  link_down true s r t = link s t r
  link_down false s r t = link s r t

  -- nothing more is owed for the trail's entry at the present place
  unfoldable pub next : State V → State V
  next s = record { cells = s.cells; trail = s.trail; place = suc s.place }

  -- goes on with the next step unless there was a clash
  unfoldable pub after : Move V → (State V → Move V) → Move V
  after (went s) step = step s
  after (clash s) step = clash s

  -- takes the joins of a trail back, the latest first
  unfoldable pub clear : List ℕ → List (Cell V) → List (Cell V)
  clear [] cells = cells
  clear (i ∷ trail) cells = rejoin (clear trail cells) i None

-- `open_joins`: in unifying an open root may be joined to another root, in comparing it meets only itself
module _ {V : Type 0} (same : V → V → Bool) (open_joins : Bool) where
  -- whether two roots can be joined, by what stands at them
  unfoldable pub fits : Content V → Content V → Bool
  fits variable d = open_joins
  fits (leaf v) variable = open_joins
  fits (leaf v) (leaf w) = same v w
  fits (leaf v) (node g ys) = false
  fits (node f xs) variable = open_joins
  fits (node f xs) (leaf w) = false
  fits (node f xs) (node g ys) = cond (f == g) (length xs == length ys) false

  -- two roots that fit or not
  unfoldable pub link_if : Bool → State V → ℕ → ℕ → Move V
  link_if true s r t = went (link_down (nat_lt (rank s.cells r) (rank s.cells t)) s r t)
  link_if false s r t = clash s

  -- two roots that are the same or not
  unfoldable pub meet_roots : Bool → State V → ℕ → ℕ → Move V
  meet_roots true s r t = went s
  meet_roots false s r t = link_if (fits (content_at s.cells r) (content_at s.cells t)) s r t

  -- makes two cells have one root
  unfoldable pub meet : State V → ℕ → ℕ → Move V
  meet s x y =
      let r : ℕ = root s.cells x in
      let t : ℕ = root s.cells y in
      meet_roots (r == t) s r t

  -- the same for two lists of cells, from left to right
  unfoldable pub meet_all : State V → List ℕ → List ℕ → Move V
  meet_all s [] ys = went s
  meet_all s (x ∷ xs) [] = went s
  meet_all s (x ∷ xs) (y ∷ ys) = after (meet s x y) (λ t. meet_all t xs ys)

  -- what a joined cell and its target owe: that their arguments meet
  unfoldable pub meet_arguments : State V → Content V → Content V → Move V
  meet_arguments s variable d = went s
  meet_arguments s (leaf v) d = went s
  meet_arguments s (node f xs) variable = went s
  meet_arguments s (node f xs) (leaf w) = went s
  meet_arguments s (node f xs) (node g ys) = meet_all s xs ys

  -- the same for a cell and what it is joined to, if anything
  unfoldable pub pay_to : Option ℕ → State V → ℕ → Move V
  pay_to None s i = went s
  pay_to (Some j) s i = meet_arguments s (content_at s.cells i) (content_at s.cells j)

  -- pays what the joined cell i owes
  unfoldable pub pay : State V → ℕ → Move V
  pay s i = pay_to (joined_at s.cells i) s i

  -- one turn at the trail's entry at the present place, if there is one, and then the rest
  unfoldable pub turn : Option ℕ → State V → (State V → Move V) → Move V
  turn None s go = went s
  turn (Some i) s go = after (pay s i) (λ t. go (next t))

  -- goes through the trail as a queue, for at most so many turns
  unfoldable pub settle : ℕ → State V → Move V
  settle zero s = went s
  settle (suc n) s = turn (slice_get s.trail s.place) s (settle n)

  -- all that is left to do; each cell is joined once at most, so a turn for each suffices
  unfoldable pub rest : State V → Move V
  rest s = settle (length s.cells - s.place) s

  -- joins the two roots, then settles all that follows from it
  unfoldable pub join : List (Cell V) → ℕ → ℕ → Move V
  join cells a b = after (meet (start cells) a b) rest

module _ {V : Type 0} where
  -- unifies two cells; where it goes well the joins stay
  unfoldable pub unify : (V → V → Bool) → List (Cell V) → ℕ → ℕ → Move V
  unify same cells a b = join same true cells a b

  -- compares two cells; whatever comes of it, the joins are taken back
  unfoldable pub compare : (V → V → Bool) → List (Cell V) → ℕ → ℕ → Move V
  compare same cells a b = join same false cells a b
