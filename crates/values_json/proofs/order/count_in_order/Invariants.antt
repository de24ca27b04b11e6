use Rattle.std.proofs.Common.{option_map}
use Rattle.values_json.specs.order.Names.{object_names}
use Rattle.values_json.proofs.order.Turns.{Counts, rest_of}
use Rattle.values_json.proofs.order.count_in_order.Given as goal

abbrev pub invariant-loop-i : goal.invariant-loop-i
invariant-loop-i l = Counts (option_map (λ n. n.now) l.last) l.count l.i (rest_of l.parts l.values l.i)
    (object_names l.has_additions l.parts l.values)
