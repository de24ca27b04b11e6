-- A run over a handover, with a frame lost before it and one after it.
use Rattle.std.specs.Prelude.{true, false, List, [], ◌∷◌, None}
use Rattle.bearer_defs.specs.chain_defs.Models.{numbered, fresh}
use Rattle.bearer_defs.specs.chain_defs.Orders.{offers, makes, freezes, knows, switches, arrives, keeps_n3, numbers, sends, passes_n3, keeps_fresh, sends_again, reports_loss}
use Rattle.law_downlink_order.specs.chain.Relay.{a, b, c, hop_to, downlink_to, next_is}
use Rattle.law_downlink_order.specs.path.Lossy.{data_frame, report_frame}
use Rattle.law_downlink_order.specs.path.Steps as ways
use Rattle.law_downlink_order.specs.lossy_chain.Both.{Step, by_chain, by_way, receives, moves}

unfoldable pub lossy : List Step
lossy =
    -- two packets at the first context, the first frame is lost: the next one shows it, and both are sent again
    by_chain (makes 2 true 20)
    ∷ by_chain (offers a) ∷ by_chain (keeps_n3 1 a []) ∷ by_chain (numbers 1 a []) ∷ by_way (ways.numbers a)
    ∷ by_chain (offers b) ∷ by_chain (keeps_n3 1 b []) ∷ by_chain (numbers 1 b []) ∷ by_way (ways.numbers b)
    ∷ by_way (ways.loses [] (data_frame false 0 0 a) (data_frame false 1 1 b ∷ []))
    ∷ by_way (ways.takes (data_frame false 1 1 b) [])
    ∷ by_chain (reports_loss 1) ∷ by_chain (sends_again 1) ∷ by_way (ways.status ((0, 0) ∷ []) None)
    ∷ by_way (ways.takes (data_frame true 2 0 a) (data_frame false 3 1 b ∷ []))
    ∷ receives 0 a []
    -- to the second: the other frame is lost with its tunnel; both packets are forwarded with their COUNTs, a third without
    ∷ by_chain (freezes 1 2 (hop_to 2 22)) ∷ by_way (ways.freezes (hop_to 2 22)) ∷ by_chain (offers c) ∷ by_chain (passes_n3 1 c [])
    ∷ by_way ways.fails ∷ by_chain (knows 2 (next_is 2)) ∷ by_chain (arrives 2) ∷ by_chain (switches 2 (downlink_to 5) 1)
    ∷ moves 0 (downlink_to 5) 0 []
    ∷ by_chain (sends 2 0 a (numbered 1 b ∷ fresh c ∷ [])) ∷ by_way (ways.sends 0 a)
    ∷ by_chain (sends 2 1 b (fresh c ∷ [])) ∷ by_way (ways.sends 1 b)
    -- there too a frame is lost
    ∷ by_way (ways.takes (report_frame 0) (data_frame false 1 0 a ∷ data_frame false 2 1 b ∷ []))
    ∷ by_way (ways.loses [] (data_frame false 1 0 a) (data_frame false 2 1 b ∷ []))
    ∷ by_way (ways.takes (data_frame false 2 1 b) [])
    ∷ by_chain (reports_loss 2) ∷ by_chain (sends_again 2) ∷ by_way (ways.status ((1, 1) ∷ []) None)
    ∷ by_way (ways.takes (data_frame true 3 0 a) (data_frame false 4 1 b ∷ []))
    ∷ by_way (ways.takes (data_frame false 4 1 b) [])
    ∷ by_chain (keeps_fresh 2 c []) ∷ by_chain (numbers 2 c []) ∷ by_way (ways.numbers c) ∷ by_way (ways.takes (data_frame false 5 2 c) [])
    ∷ receives 0 a ((1, b) ∷ (2, c) ∷ []) ∷ receives 1 b ((2, c) ∷ []) ∷ receives 2 c []
    ∷ []
