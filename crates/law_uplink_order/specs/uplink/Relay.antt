-- Runs that meet what is asked: packets forwarded through three contexts, and a handover that is cancelled.
use Rattle.std.specs.Prelude.{ℕ, List, [], ◌∷◌, None}
use Rattle.gnb_types.specs.declared.plans.SnStatus.{SnStatus}
use Rattle.law_downlink_order.specs.chain.Relay.{a, b, c, d, hop_to}
use Rattle.bearer_defs.specs.uplink_defs.Models.{numbered, end_marker, uplink_tunnel, forwarding}
use Rattle.bearer_defs.specs.uplink_defs.Orders.{ModelStep, offers, numbers, connects, leaves, arrives, carries, acknowledges, reports, marks, makes, adds, freezes, knows, switches, resumes, releases, closes, discards, takes, ends_uplink, ends_hop}

abbrev pub first_is : ℕ → SnStatus
first_is count = record { bearer = record { 0 = 1 }; dl_next = 0; ul_first = count; ul_received = None }

-- the second handover begins before the first hop is done; each context ends once all has come
unfoldable pub relay : List ModelStep
relay =
    -- three packets at the first context, one of them delivered and confirmed, one on its tunnel, one on the radio
    offers a ∷ numbers a [] ∷ offers b ∷ numbers b [] ∷ offers c ∷ numbers c [] ∷ carries 11 0 a ((1, b) ∷ (2, c) ∷ [])
    ∷ takes 1 (uplink_tunnel 11) 0 a [] ∷ acknowledges 0 [] ∷ carries 11 1 b ((2, c) ∷ [])
    -- to the second: what still comes is stored and forwarded, and what the radio lost is sent again
    ∷ makes 2 20 ∷ freezes 1 2 (hop_to 2 22) ∷ takes 1 (uplink_tunnel 11) 1 b [] ∷ leaves ∷ knows 2 (first_is 1) ∷ arrives 2
    ∷ connects ∷ switches 2 ∷ carries 21 1 b ((2, c) ∷ []) ∷ takes 2 (uplink_tunnel 21) 1 b [] ∷ takes 2 forwarding 1 b []
    -- the second gets another uplink tunnel, which a packet is sent on, and the first one ends
    ∷ adds 2 24 ∷ marks 2 21 ∷ carries 24 2 c [] ∷ ends_uplink 2 21 []
    -- to the third, before the hop to the second has ended; then what the second takes goes on
    ∷ makes 3 30 ∷ freezes 2 3 (hop_to 3 32) ∷ leaves ∷ knows 3 (first_is 2) ∷ arrives 3 ∷ takes 2 (uplink_tunnel 24) 2 c []
    -- the tunnels end one after another, from the first context on
    ∷ releases 1 ∷ marks 1 11 ∷ ends_uplink 1 11 [] ∷ closes 1 ∷ releases 2 ∷ ends_hop 2 [] ∷ marks 2 24
    ∷ ends_uplink 2 24 [] ∷ closes 2
    -- the third delivers what was forwarded, and the terminal sends what it doesn't know of
    ∷ switches 3 ∷ connects ∷ takes 3 forwarding 2 c (end_marker ∷ []) ∷ ends_hop 3 [] ∷ reports 2 [] ∷ offers d
    ∷ numbers d [] ∷ carries 31 1 b ((2, c) ∷ (3, d) ∷ []) ∷ carries 31 2 c ((3, d) ∷ []) ∷ carries 31 3 d []
    ∷ takes 3 (uplink_tunnel 31) 1 b (numbered 2 c ∷ numbered 3 d ∷ []) ∷ takes 3 (uplink_tunnel 31) 2 c (numbered 3 d ∷ [])
    ∷ takes 3 (uplink_tunnel 31) 3 d [] ∷ acknowledges 1 (2 ∷ 3 ∷ []) ∷ acknowledges 2 (3 ∷ []) ∷ acknowledges 3 []
    ∷ []

-- the source goes on, and delivers what came meanwhile
unfoldable pub cancelled : List ModelStep
cancelled =
    -- a packet comes while its context is frozen: it is stored, and forwarded
    offers a ∷ numbers a [] ∷ offers b ∷ numbers b [] ∷ carries 11 0 a ((1, b) ∷ []) ∷ makes 2 20 ∷ freezes 1 2 (hop_to 2 22)
    ∷ takes 1 (uplink_tunnel 11) 0 a [] ∷ knows 2 (first_is 0)
    -- the handover is cancelled: the source delivers it, and the target is discarded with its copy
    ∷ resumes 1 ∷ discards 2
    -- the radio fails, and the terminal comes back
    ∷ acknowledges 0 [] ∷ leaves ∷ connects ∷ switches 1 ∷ carries 11 1 b [] ∷ takes 1 (uplink_tunnel 11) 1 b []
    ∷ acknowledges 1 []
    ∷ []
