-- What the orders of control leave of a bearer, and what they find.
use Rattle.std.specs.Prelude.{◌≡◌, ℕ, Bool, false, ◌||◌, if◌then◌else◌, List, [], None}
use Rattle.gnb_types.specs.declared.plans.SnStatus.{SnStatus}
use Rattle.pdcp_defs.specs.Senders.{new_sender}
use Rattle.pdcp_defs.specs.Receivers.{new_receiver}
use Rattle.unit_defs.specs.Ways.{Way, Answer, ◌then◌}
use Rattle.unit_defs.specs.CuUpRecords.{CuUpBearer, CuUpScope}
use Rattle.unit_defs.specs.CuUpBearers.{forward_numbered, forward_fresh, forward_late}
use Rattle.cu_up_bearer.specs.declared.tunnels.at.Scope.{Scope}
use Rattle.cu_up_bearer.specs.declared.downlink.down.DownSide.{DownSide}
use Rattle.cu_up_bearer.specs.downlink.Downlinks.{taken_of}
use Rattle.cu_up_bearer.specs.declared.bearers.bearer.Bearer.{Bearer}

-- nothing was sent, and nothing is stored
abbrev pub IsEmpty : Bearer → Type 0
IsEmpty b = (b.down.sending.sender.unconfirmed ≡ []) × (b.receiving.receiver.stored ≡ [])

-- as in a context before the SN status
abbrev pub IsIdle : Scope → Bearer → Type 0
IsIdle a b = a.flags.may_serve ≡ false → IsEmpty b

-- nothing is frozen any more
abbrev pub thawed_bearer : Bearer → Bearer
thawed_bearer b = record b { hop = None; loss_while_frozen = false; taken_while_frozen = [] }

-- an empty one goes on at these numbers
abbrev pub status_bearer : SnStatus → Bearer → Bearer
status_bearer s b = record b {
  dl_next = s.dl_next;
  down = record b.down { sending = record b.down.sending { sender = new_sender s.dl_next } };
  receiving = record b.receiving { receiver = new_receiver s.ul_first };
}

-- all that is held, given to the target
abbrev pub all_given : {M C P : Type 0} → Way M C P → CuUpScope → CuUpBearer → Answer M P CuUpBearer
all_given way at b =
    forward_numbered way at b.sender.unconfirmed b
    then (λ c. forward_fresh way at c.waiting c)
    then (λ c. forward_late way at c.receiver.stored c)

-- what is owed: all of these where a loss was reported, else those that came meanwhile
abbrev pub owed_of : Bool → List ℕ → List (ℕ × List ℕ) → List (ℕ × List ℕ)
owed_of loss came es = if loss then es else taken_of came es

-- the next frame has the restart mark after a loss
abbrev pub marked : Bool → DownSide → DownSide
marked loss d = record d { frames = record d.frames { restart = d.frames.restart || loss } }
