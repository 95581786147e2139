use Rattle.std.proofs.Common.{◌≡◌, [], ◌∷◌, ◌++◌, length, refl, ap, ◌∙◌, arith}
use Rattle.std.proofs.lemmas.List.{length-append}
use Rattle.book.specs.declared.table.Row.{Row}
use Rattle.wire.specs.declared.store.Store.{Store}
use Rattle.wire.proofs.Kept.{added}
use Rattle.wire.proofs.store.Store.add.Goals as goal

pub returns : goal.returns
returns g c ps e inside =
    let before = c.args.self.now in
    let cells = c.add_cells.new.self.cells in
    let after : Store g.row.L.Denot = record { rows = c.push.new.self; cells = cells } in
    let stored = c.in_ok-add_cells.ensures.cells in
    let first : c.len-first.result ≡ length before.cells.items = omega (arith, c.len-first.ensures, before.cells.ok.0) in
    let count : c.saturating_sub.result ≡ length stored.0 =
    omega (arith, c.saturating_sub.ensures, c.len.ensures, first, cells.ok.0, ap length stored.1, length-append before.cells.items stored.0) in
    let entry = c.args.entry.now in
    let row : Row =
    record {
      kind = entry.kind;
      first = c.len-first.result;
      cells = c.saturating_sub.result;
      head = entry.goals.head;
      body = entry.goals.body;
    } in
    added before after stored.0 row entry ps stored.1
    (c.in_ok-push.ensures.items ∙ ap (λ rows. rows.items ++ row ∷ []) c.in_ok-add_cells.ensures.rows) first count
    (stored.2 ps _ _ e) refl refl refl inside
