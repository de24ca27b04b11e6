use Rattle.std.proofs.Common.{◌≡◌}
use Rattle.std.specs.List.{list_all}
use Rattle.unit_defs.specs.Accessors.{cu_up_rests}
use Rattle.site.proofs.site_tables.users.rest.Given as goal

-- those to come decide
abbrev pub invariant-loop-user : goal.invariant-loop-user
invariant-loop-user l =
    list_all (λ e. cu_up_rests e.1.up l.ue l.bearer) l.user-iterator ≡ list_all (λ e. cu_up_rests e.1.up l.ue l.bearer) l.initial.user-iterator
