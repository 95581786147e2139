use Rattle.std.proofs.Common.{◌≡◌, length, take, sym, refl, ◌∙◌, arith}
use Rattle.std.specs.List.{slice_get}
use Rattle.std.proofs.lemmas.List.{length-take, take_all}
use Rattle.wire.specs.Writes.{body_in}
use Rattle.wire.proofs.Bounds.{goal_is, goals_count, there}
use Rattle.wire.proofs.FaultsFound.{is_there}
use Rattle.wire.proofs.Filling.{fills_none, fills_rest, fills_same, rest_long, take_next}
use Rattle.wire.proofs.book_entry.BookEntry.put_body.Goals as goal

pub loop-k-init : goal.loop-k-init
loop-k-init g c = fills_none c.args.out.now

pub unwrap-goal-requires : goal.unwrap-goal-requires
unwrap-goal-requires g c =
    let s = c.args.self.now in
    let o = slice_get (g.B.Book.entries c.args.self.now.book.now) c.args.self.now.index in
    let k = c.loop-k.k in
    let more = goals_count g.L.WireLeaf.written o s.outline s.there in
    is_there c.goal.result (λ n. there (body_in o) k (omega (arith, more)) (sym (sym n ∙ c.goal.ensures ∙ goal_is o k)))

pub put_bytes-at-requires : goal.put_bytes-at-requires
put_bytes-at-requires g c =
    let s = c.args.self.now in
    let o = slice_get (g.B.Book.entries c.args.self.now.book.now) c.args.self.now.index in
    let more = goals_count g.L.WireLeaf.written o s.outline s.there in
    let so_far : length (take c.loop-k.k (body_in o)) ≡ c.loop-k.k = omega (arith, more, length-take c.loop-k.k (body_in o)) in
    rest_long 1 c.loop-k.invariant (omega (arith, c.loop-k.invariant.count, so_far, c.requires))

pub loop-k-preserved : goal.loop-k-preserved
loop-k-preserved g c =
    let o = slice_get (g.B.Book.entries c.args.self.now.book.now) c.args.self.now.index in
    let k = c.loop-k.k in
    let at = sym (sym c.unwrap-goal.ensures ∙ c.goal.ensures ∙ goal_is o k) in
    fills_same (sym (take_next (body_in o) k _ at)) refl (fills_rest c.loop-k.invariant c.put_bytes-at.ensures)

pub returns : goal.returns
returns g c =
    let s = c.args.self.now in
    let o = slice_get (g.B.Book.entries c.args.self.now.book.now) c.args.self.now.index in
    let all = goals_count g.L.WireLeaf.written o s.outline s.there in
    fills_same (take_all c.loop-k.k (body_in o) (omega (arith, all))) refl c.loop-k.invariant
