-- Frames that agree in the steps that stand tell the same of them.
use Rattle.std.proofs.Common.{◌≡◌, ℕ, suc, ◌+◌, ◌<◌, ◌≤◌, Bool, true, false, cond, eqb, List, [], ◌∷◌, length, take, Some, None, Option, sym, refl, ap, ◌∙◌, subst, inl, inr, arith}
use Rattle.std.specs.List.{slice_get}
use Rattle.std.proofs.lemmas.Bool.{eqb-true}
use Rattle.theory.specs.Entries.{Entry}
use Rattle.theory.specs.Records.{Term, cell, part, Replay}
use Rattle.theory.specs.Records as T
use Rattle.unify.specs.Cells.{Cell}
use Rattle.searching.specs.Solving.{Spot}
use Rattle.searching.proofs.Scopes.{Within}
use Rattle.calls.specs.declared.step.Step.{Step}
use Rattle.frames.specs.declared.frame.Goal.{Goal}
use Rattle.frames.specs.declared.frame.Frame.{Frame}
use Rattle.frames.specs.declared.frame.Cursor.{Cursor}
use Rattle.frames.specs.Goals.{above, base_of, lies_at, IsGoal, Pends, Origin, Current}
use Rattle.frames.specs.Tries.{parent_of, cursor_after, Named, Chain, Leftover}
use Rattle.frames.specs.Levels.{Tells, Level, Under, Stacked}
use Rattle.frames.proofs.Following.{within_more}

-- the first n frames are the same
abbrev pub Agree : ℕ → List Frame → List Frame → Type 0
Agree n old new = (s : ℕ) → s < n → slice_get new s ≡ slice_get old s

-- a step that is none of n has no number below
pub below : (p : Option ℕ) (s n : ℕ) → p ≡ Some s → above p ≤ n → s < n
below p s n e h = let k : suc s ≤ n = subst (λ q. above q ≤ n) e h in omega arith

module _ (n : ℕ) (old new : List Frame) (agree : Agree n old new) where
  pub lies_agree : (t : Term) → Within n t → lies_at new t ≡ lies_at old t
  lies_agree (cell c) w = refl
  lies_agree (part s j) w = ap (λ o. base_of o + j) (agree s w)

  pub goal_agree : (chain : List ℕ) (g : T.Goal) (goal : Goal) → above goal.parent ≤ n → IsGoal old chain g goal →
      IsGoal new chain g goal
  goal_agree chain g goal h is = record {
    inner = is.inner;
    lies = lies_agree g.term (within_more (above goal.parent) n h g.term is.within) ∙ is.lies;
    within = is.within;
    path = is.path;
  }

  pub chain_agree : (chain : List ℕ) (p : Option ℕ) → above p ≤ n → Chain old chain p → Chain new chain p
  chain_agree [] p h c = c
  chain_agree (s ∷ chain) p h c =
      let k : s < n = below p s n c.0 h in
      let low : above c.1.0.goal.parent ≤ s = c.1.2.lower in
      (c.0, (c.1.0, agree s k ∙ c.1.1, c.1.2, chain_agree chain c.1.0.goal.parent (omega arith) c.1.3))

  pub cursor_agree : (x : Step) → Named n x → cursor_after new x ≡ cursor_after old x
  cursor_agree x named = go (eqb x.mode 2) refl
    where
      go : (b : Bool) → eqb x.mode 2 ≡ b →
          ◌≡◌ {A = Cursor} (cond b (record { path = parent_of (slice_get new x.number); entry = 0 })
          (record { path = None; entry = suc x.number }))
          (cond b (record { path = parent_of (slice_get old x.number); entry = 0 })
          (record { path = None; entry = suc x.number }))
      go true e = ap (λ o. record { path = parent_of o; entry = 0 }) (agree x.number (named.0 (eqb-true x.mode 2 e)))
      go false e = refl

  module _ {V : Type 0} (book : List (Entry V)) (goals : List ℕ) where
    pub pends_agree : (chain : List ℕ) (p : Option ℕ) (j : ℕ) (l : List T.Goal) → above p ≤ n →
        Pends book goals old chain p j l → Pends book goals new chain p j l
    pends_agree [] p j l h q = q
    pends_agree (s ∷ chain) p j l h q =
        let k : s < n = below p s n q.0 h in
        let f : Frame = q.1.0 in
        let low : above f.goal.parent ≤ s = q.1.4.lower in
        let up : above f.goal.parent ≤ n = omega arith in (
          q.0,
          (
            f,
            q.1.1,
            q.1.2,
            agree s k ∙ q.1.3,
            q.1.4,
            goal_agree chain q.1.1 f.goal up q.1.5,
            q.1.6,
            pends_agree chain f.goal.parent (suc f.goal.place) q.1.2 up q.1.7,
          ),
        )

    pub origin_agree : (goal : Goal) → above goal.parent ≤ n → Origin book goals old goal → Origin book goals new goal
    origin_agree goal h (inl o) = inl o
    origin_agree goal h (inr (s, f, p, e, q)) = inr (s, f, p, agree s (below goal.parent s n p h) ∙ e, q)

    unfoldable pub current_agree : (goal : Goal) (l : List T.Goal) → above goal.parent ≤ n → Current book goals old goal l →
        Current book goals new goal l
    current_agree goal l h u = record {
      chain = u.chain;
      first = u.first;
      rest = u.rest;
      list = u.list;
      is = goal_agree u.chain u.first goal h u.is;
      few = u.few;
      origin = origin_agree goal h u.origin;
      pends = pends_agree u.chain goal.parent (suc goal.place) u.rest h u.pends;
    }

    pub leftover_agree : (m : ℕ) → m ≤ n → (inner : Bool) (path : List ℕ) (c : Cursor) (left : List T.Step) →
        Leftover book old m inner path c left → Leftover book new m inner path c left
    leftover_agree m h inner path c left o = record {
      chain = o.chain;
      lower = o.lower;
      chained = let k : above c.path ≤ m = o.lower in chain_agree o.chain c.path (omega arith) o.chained;
      fresh = o.fresh;
      before = o.before;
      on_path = o.on_path;
      inner_none = o.inner_none;
      is = o.is;
    }

    module _ (used₀ : ℕ) (cells₀ : List (Cell V)) (long : n ≤ length new) where
      pub level_agree : (m : ℕ) → m ≤ n → (r : Replay V) (steps : List T.Step) (cells : List (Cell V)) (trail : List ℕ) →
          Level book goals used₀ cells₀ old m r steps cells trail → Level book goals used₀ cells₀ new m r steps cells trail
      level_agree m h r steps cells trail k = record {
        taken = k.taken;
        offsets = k.offsets;
        recorded = k.recorded;
        framed = omega arith;
        tells = λ s f e i.
            let t : Tells book goals used₀ cells₀ old r steps (length cells) m s f =
            k.tells s f (sym (agree s (omega arith)) ∙ e) i in
            record {
              link = t.link;
              base = t.base;
              term = t.term;
              taken = t.taken;
              within = t.within;
              lies = lies_agree t.term (within_more m n h t.term t.within) ∙ t.lies;
              step = t.step;
              end = t.end;
            };
        number = k.number;
        solved = k.solved;
        room = k.room;
        inside = k.inside;
        undone = k.undone;
      }

      under_agree : (m : ℕ) → m ≤ n → (f : Frame) (q : Spot V) (cells : List (Cell V)) (trail : List ℕ) →
          Under book goals used₀ cells₀ old m f q cells trail → Under book goals used₀ cells₀ new m f q cells trail
      unfolding current_agree
      under_agree m h f q cells trail u =
          let low : above f.goal.parent ≤ m = u.lower in
          let named : Named n f.step = ((λ e. let k : f.step.number < m = u.named.0 e in omega arith), u.named.1) in
          record {
            level = level_agree m h q.point.at q.point.steps q.cells (take f.trail trail) u.level;
            goal = current_agree f.goal q.point.at.pending (omega arith) u.goal;
            lower = u.lower;
            left =
                subst (λ c. Leftover book new m f.goal.inner u.goal.chain c q.point.left)
                (sym (cursor_agree f.step named))
                (leftover_agree m h f.goal.inner u.goal.chain (cursor_after old f.step) q.point.left u.left);
            named = u.named;
            used = u.used;
            joins = u.joins;
            are = u.are;
          }

      pub stacked_agree : (qs : List (Spot V)) (m : ℕ) → m ≤ n → (cells : List (Cell V)) (trail : List ℕ) →
          Stacked book goals used₀ cells₀ old m cells trail qs → Stacked book goals used₀ cells₀ new m cells trail qs
      stacked_agree [] m h cells trail k = k
      stacked_agree (q ∷ qs) m h cells trail k =
          let j : ℕ = k.0 in
          let f : Frame = k.1 in
          let e : m ≡ suc j = k.2 in
          let i : j < n = omega arith in
          let up : j ≤ n = omega arith in (
            j,
            f,
            e,
            agree j i ∙ k.3,
            under_agree j up f q cells trail k.4,
            stacked_agree qs j up q.cells (take f.trail trail) k.5,
          )
