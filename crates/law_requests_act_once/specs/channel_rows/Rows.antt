-- The moves of a CU-CP's row: those of what it says, in order.
use Rattle.std.specs.Prelude.{◌≡◌, ℕ, false, List, [], ◌∷◌, ◌++◌, Option, Some, None}
use Rattle.std.specs.List.{AllByRecursion}
use Rattle.gnb_types.specs.declared.names.NodeId.{NodeId}
use Rattle.gnb_types.specs.declared.names.UeId.{UeId}
use Rattle.unit_defs.specs.Ways.{Answer, gives, spent}
use Rattle.unit_defs.specs.Messages.{channel}
use Rattle.unit_defs.specs.Transactions.{transfer}
use Rattle.unit_defs.specs.CuCpRecords.{CuCpRecord, waiting_of, Action, asks as says_ask, cancels as says_cancel, replies as says_reply, replies_late as says_late, sends, fails, ignores, refuses, forgets as says_forget, Row, row, row_spent}
use Rattle.law_requests_act_once.specs.channel.Replies.{Talk}
use Rattle.law_requests_act_once.specs.channel.Moves.{Move, asks, asks_at_once, replies, replies_late, transfers, forgets, Net, sent_by, IsRequest, IsCancel, MayAll}
use Rattle.law_requests_act_once.specs.channel_rows.IsPlayed.{orders_of, Plays}

module _ {M C P : Type 0} (talk : Talk M C P) where
  abbrev pub moves_of : UeId → Action C → List (Move M C)
  moves_of ue (says_ask to m deadline awaited) = asks (channel ue.0 to) (waiting_of talk.way m deadline awaited) ∷ []
  moves_of ue (says_cancel to m) = asks_at_once (channel ue.0 to) (waiting_of talk.way m None false) ∷ []
  moves_of ue (says_reply to m) = replies (channel ue.0 to) m ∷ []
  moves_of ue (says_late to instance m) = replies_late (channel ue.0 to) instance m ∷ []
  moves_of ue (sends to m) = transfers to ue.0 (talk.way.encode m) ∷ []
  moves_of ue (fails cause) = []
  moves_of ue (ignores reason) = []
  moves_of ue (refuses reason) = []
  moves_of ue says_forget = forgets ue ∷ []

  abbrev pub moves_of_all : UeId → List (Action C) → List (Move M C)
  moves_of_all ue [] = []
  moves_of_all ue (s ∷ ss) = moves_of ue s ++ moves_of_all ue ss

  -- the moves of a row may be made
  abbrev pub IsAllowed : Net M C → NodeId → UeId → Row C → Type 0
  IsAllowed net n ue (row says after) = MayAll talk net (orders_of talk n (moves_of_all ue says))
  IsAllowed net n ue (row_spent counter) = Unit {0}

  -- an answer is that of the row's moves
  abbrev pub RowPlays : Net M C → NodeId → UeId → Row C → Answer M P (CuCpRecord M C) → Type 0
  RowPlays net n ue (row says after) (gives outputs r) = Plays talk net n r.transactions (sent_by n outputs) (moves_of_all ue says)
  RowPlays net n ue (row says after) (spent counter) = Unit {0}
  RowPlays net n ue (row_spent k) (gives outputs r) = ⊥
  RowPlays net n ue (row_spent k) (spent counter) = Unit {0}

  -- ---- what a row says without a reply: requests, cancels, and messages that are neither request nor reply

  abbrev pub SpeaksOne : UeId → Action C → Type 0
  SpeaksOne ue (says_ask to m deadline awaited) = IsRequest talk ue.0 (waiting_of talk.way m deadline awaited)
  SpeaksOne ue (says_cancel to m) = IsRequest talk ue.0 (waiting_of talk.way m None false) × IsCancel talk (waiting_of talk.way m None false)
  SpeaksOne ue (says_reply to m) = ⊥
  SpeaksOne ue (says_late to instance m) = ⊥
  SpeaksOne ue (sends to m) = (u : ℕ) × (talk.kind (talk.way.encode m) ≡ transfer u)
  SpeaksOne ue (fails cause) = Unit {0}
  SpeaksOne ue (ignores reason) = Unit {0}
  SpeaksOne ue (refuses reason) = Unit {0}
  SpeaksOne ue says_forget = Unit {0}

  abbrev pub Speaks : UeId → List (Action C) → Type 0
  Speaks ue says = AllByRecursion (SpeaksOne ue) says

  abbrev pub RowSpeaks : UeId → Row C → Type 0
  RowSpeaks ue (row says after) = Speaks ue says
  RowSpeaks ue (row_spent counter) = Unit {0}

  abbrev pub IfRowSpeaks : UeId → Option (Row C) → Type 0
  IfRowSpeaks ue None = Unit {0}
  IfRowSpeaks ue (Some what) = RowSpeaks ue what
