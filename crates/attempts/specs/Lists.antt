-- The lists that a store holds.
use Rattle.std.specs.Prelude.{◌≡◌}
use Rattle.attempts.specs.declared.store.Store.{Store}

-- the store holds the lists that it held, whatever they hold now
pub record SameLists {L : Type 0} (old new : Store L) : Type 0 where
  pub cells : new.cells.ghost_name ≡ old.cells.ghost_name
  pub work : new.work.ghost_name ≡ old.work.ghost_name
