-- The calls, as the definitions have them.
use Rattle.std.specs.Prelude.{vec_items}
use Rattle.theory.specs.Calls as T
use Rattle.calls.specs.declared.call.Call.{Call}
use Rattle.calls.specs.declared.call.Call.TheVariants.{Open, Leaf, Node, Equate, Compare, Solve, Check}
use Rattle.calls.specs.Steps.{steps_of}

-- a call, as the definitions have it
abbrev pub call_of : {L : Type 0} → Call L → T.Call L
call_of Open = T.write_open
call_of (Leaf v) = T.write_leaf v
call_of (Node symbol args) = T.write_node symbol (vec_items args)
call_of (Equate left right work) = T.equate left right work
call_of (Compare left right work) = T.compare left right work
call_of (Solve goals budget room work frames) = T.solve (vec_items goals) budget room work frames
call_of (Check goals steps work frames) = T.check (vec_items goals) (steps_of (vec_items steps)) work frames
