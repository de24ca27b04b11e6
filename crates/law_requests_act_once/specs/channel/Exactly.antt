-- What follows of a channel that is exactly once: what acts, what an answer says, and what is given in vain.
use Rattle.std.specs.Prelude.{◌≡◌, ℕ, ◌<◌, true, List, [], ◌∷◌, Some, None}
use Rattle.std.specs.List.{AllByRecursion}
use Rattle.gnb_types.specs.declared.keys.Channel.{Channel}
use Rattle.gnb_types.specs.declared.reasons.DropReason.TheVariants.{Stale}
use Rattle.transaction_defs.specs.Callers.{opened_at}
use Rattle.unit_defs.specs.Ways.{Output, control, dropped, Answer, gives, spent}
use Rattle.unit_defs.specs.Transactions.{Transactions, waits_at}
use Rattle.law_requests_act_once.specs.channel.Replies.{Talk}
use Rattle.law_requests_act_once.specs.channel.Ends.{Act, Ends, Note, asked, told}

-- each act, the newest first, has a higher instance than all before it
abbrev pub Descends : {M : Type 0} → List (Act M) → Type 0
Descends [] = Unit {0}
Descends (a ∷ acts) = AllByRecursion (λ b. b.instance < a.instance) acts × Descends acts

abbrev pub BeginsWith : {M : Type 0} → List (Act M) → ℕ → M → Type 0
BeginsWith [] i x = ⊥
BeginsWith (a ∷ acts) i x = (a.instance ≡ i) × (a.message ≡ x)

-- what waits, waits for an open request
abbrev pub WaitsForOpen : {M C : Type 0} → Transactions M C → Channel → Type 0
WaitsForOpen t c = opened_at t.caller c ≡ None → waits_at t c ≡ []

-- what holds of the answer, where no counter is spent
abbrev pub IfGives : {M P R : Type 0} → (R → Type 0) → Answer M P R → Type 0
IfGives Q (gives outputs after) = Q after
IfGives Q (spent counter) = Unit {0}

module _ {M C P : Type 0} (talk : Talk M C P) where
  -- A reply with the open instance was put: all that the responder has of the channel is of the open request, it acted on that one
  -- last, and what it keeps is this reply, which answers it.
  pub record IsAnswered (s : Ends M C) (B : Note M → Type 0) (i : ℕ) (y : M) : Type 0 where
    pub newest_is : s.answering.newest ≡ i
    pub last_is : s.asking.last ≡ i
    pub kept_is : s.answering.kept ≡ Some y
    pub request : M
    pub was_put : B (asked i request)
    pub acted : BeginsWith s.acts i request
    pub answers : talk.answers request y ≡ true

  -- a request is pending that was put and not taken, nor a later one
  abbrev pub IsPending : Ends M C → (Note M → Type 0) → ℕ → M → Type 0
  IsPending s B i x = B (asked i x) × (s.answering.newest < i)

  -- what is put in answer to a request that isn't pending: the reply that was put before, or nothing
  abbrev pub WasPut : (Note M → Type 0) → Channel → ℕ → Output M P → Type 0
  WasPut B c i (control to ue message) = (to ≡ c.peer) × (ue ≡ c.ue) × B (told i message)
  WasPut B c i (dropped reason) = reason ≡ Stale
  WasPut B c i output = ⊥

  -- whatever the row: nothing that is kept changes, and nothing new is put
  abbrev pub InVain : {R : Type 0} → (Note M → Type 0) → R → Channel → ℕ → Answer M P R → Type 0
  InVain B same c i answer = (outputs : List (Output M P)) × (answer ≡ gives outputs same) × AllByRecursion (WasPut B c i) outputs
