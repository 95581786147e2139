use Rattle.std.proofs.Common.{◌∙◌, refl, rules}
use Rattle.std.proofs.lemmas.Iterator.{YieldsList-from_slice, YieldsList-from_map}
use Rattle.std.proofs.lemmas.Iterator.Consumers.{max_from_yields_List}
use Rattle.std.proofs.lemmas.Fn.{says_at}
use Rattle.script.proofs.Largest.{largest_found}
use Rattle.script.proofs.lengths.largest_of.Goals as goal

pub returns : goal.returns
returns g c = λ key says.
    c.unwrap_or.ensures
    ∙ largest_found key c.args.calls.now c.max.result (
    max_from_yields_List _ _ c.max.ensures.ran (
    YieldsList-from_map _ key (YieldsList-from_slice c.args.calls.now cc) c.map.ensures.closure (λ x r q k. (search rules, says x.now r (says_at g.F.Fn {y = x} (search rules) refl)))))
