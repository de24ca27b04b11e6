-- What was taken of messages, and what was delivered, over lists of events, the newest first.
use Rattle.std.specs.Prelude.{◌≡◌, ◌⊎◌, ℕ, ◌+◌, List, [], ◌∷◌, Some, None}
use Rattle.std.specs.Ordering.{nat_cmp}
use Rattle.gnb_types.specs.declared.names.SnBits.{SnBits}
use Rattle.tables.specs.Tables.{find}
use Rattle.um_defs.specs.declared.types.event.UmEvent.{UmEvent}
use Rattle.um_defs.specs.declared.types.line.UmLine.{UmLine}
use Rattle.um_defs.specs.declared.types.line.UmLine.TheVariants as lines
use Rattle.um_defs.specs.Receivers.{refuses}
use Rattle.um_defs.specs.um_run_defs.Run.{UmRun}
use Rattle.law_um.specs.run.Reached.{GoesOn, IsReached}
use Rattle.law_um.specs.run.Gaps.{Gives}

-- the packet is among these, under its COUNT
abbrev pub Has : {X : Type 0} → ℕ → X → List (ℕ × X) → Type 0
Has count x [] = ⊥
Has count x (e ∷ es) = ((e.0 ≡ count) × (e.1 ≡ x)) ⊎ Has count x es

-- these lines deliver it
abbrev pub Delivers : ℕ → List ℕ → List UmLine → Type 0
Delivers count packet [] = ⊥
Delivers count packet (lines.Deliver c p ∷ more) = ((c ≡ count) × (p ≡ packet)) ⊎ Delivers count packet more
Delivers count packet (line ∷ more) = Delivers count packet more

-- The message with the packet of this COUNT was given, and the packet was taken: it was neither dropped nor held.
abbrev pub WasTaken : SnBits → ℕ → List UmEvent → ℕ → List ℕ → Type 0
WasTaken sn ticks [] count packet = ⊥
WasTaken sn ticks (event ∷ earlier) count packet =
    (Gives event count × (before : UmRun) × IsReached sn ticks earlier before
    × (find nat_cmp before.flight (count + 1) ≡ Some packet) × (refuses before.entity (Some count) ≡ None))
    ⊎ WasTaken sn ticks earlier count packet

-- the packet of this COUNT was delivered
abbrev pub WasDelivered : SnBits → ℕ → List UmEvent → ℕ → List ℕ → Type 0
WasDelivered sn ticks [] count packet = ⊥
WasDelivered sn ticks (event ∷ earlier) count packet =
    ((before : UmRun) × (printed : List UmLine) × (after : UmRun)
    × IsReached sn ticks earlier before × GoesOn sn ticks event before printed after × Delivers count packet printed)
    ⊎ WasDelivered sn ticks earlier count packet
