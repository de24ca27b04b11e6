use Rattle.run_defs.specs.States.{new_state}
use Rattle.proof_run_steps.proofs.law_run_links.Links.{own_later, first_own}
use Rattle.proof_run_steps.proofs.law_run_links.items_of_radios_are_their_own.Goals as goal

pub returns-clause-run : goal.returns-clause-run
returns-clause-run g c = λ world events t is.
    own_later g.row.M.Denot g.row.C.Denot g.row.L.Denot g.row.P.Denot world events new_state t
    (first_own g.row.M.Denot g.row.C.Denot g.row.L.Denot g.row.P.Denot) is

pub returns-clause-on : goal.returns-clause-on
returns-clause-on g c = λ world events s t own is.
    own_later g.row.M.Denot g.row.C.Denot g.row.L.Denot g.row.P.Denot world events s t own is
