use Rattle.std.proofs.Common.{◌+◌, ◌<◌, min, length, take, set, vec_items, vec_len, sym, refl, ap, ◌∙◌, subst, arith}
use base.Stored.{Coded-set}
use Rattle.cells.specs.Cells.{cells_of, WellFormed}
use Rattle.slate.proofs.Next.{sound_out, next_cells, next_sound}
use Rattle.slate.proofs.slate.Slate.write.Goals as goal

pub invariant_of-self : goal.invariant_of-self
invariant_of-self g c =
    let s = c.args.self.now in
    let xs = vec_items s.cells in
    let room : s.used < min (vec_len s.cells) 2048 = omega (
      arith,
      c.min.ensures,
      c.len.ensures,
      c.if-min-used.false,
    ) in
    let inside : s.used < length xs = omega (arith, s.cells.ok.0) in
    record {
      within = omega (arith, room);
      few = omega (arith, room);
      sound = ∣ subst (λ d. WellFormed (take (s.used + 1) (set xs s.used d))) (sym c.into.ensures)
          (next_sound xs s.used c.args.content inside (omega (arith, room))
          (sound_out (Coded-set g.row.L.coded) (take s.used xs) s.sound) c.requires.counted
          c.requires.writable) ∣₁;
    }

pub returns : goal.returns
returns g c =
    let s = c.args.self.now in
    let xs = vec_items s.cells in
    let room : s.used < min (vec_len s.cells) 2048 = omega (
      arith,
      c.min.ensures,
      c.len.ensures,
      c.if-min-used.false,
    ) in
    let inside : s.used < length xs = omega (arith, s.cells.ok.0) in (
      refl,
      room,
      ap (λ d. cells_of (take (s.used + 1) (set xs s.used d))) c.into.ensures
          ∙ next_cells xs s.used c.args.content inside,
      refl,
    )
