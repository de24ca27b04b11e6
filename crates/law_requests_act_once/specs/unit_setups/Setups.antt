-- What a DU and a CU-UP ask: the setup of their interface alone (TS 38.473, 8.2.3; TS 37.483, 8.2.3). And that at most one request more
-- was put on a channel than before.
use Rattle.std.specs.Prelude.{◌≡◌, ◌⊎◌, ◌+◌, Some}
use Rattle.std.specs.List.{AllByRecursion}
use Rattle.gnb_types.specs.declared.keys.Channel.{Channel}
use Rattle.message_types.specs.declared.f1.F1.TheVariants as f1s
use Rattle.message_types.specs.declared.e1.E1Message.TheVariants as e1s
use Rattle.transaction_defs.specs.Callers.{Opened}
use Rattle.unit_defs.specs.Ways.{Message, f1, e1, Way}
use Rattle.unit_defs.specs.Transactions.{Waiting, Transactions}
use Rattle.law_requests_act_once.specs.channel.Ends.{Asking, asking_at}

abbrev pub IsSetup : {C : Type 0} → Message C → Type 0
IsSetup (f1 (f1s.F1SetupRequest instance name)) = Unit {0}
IsSetup (e1 (e1s.E1SetupRequest instance name)) = Unit {0}
IsSetup message = ⊥

-- at most one request more was put: and then it is open
abbrev pub HasOneMore : {M C : Type 0} → Asking M C → Asking M C → Type 0
HasOneMore {M = M} a b = (b.last ≡ a.last) ⊎ ((b.last ≡ a.last + 1) × (o : Opened M) × (b.opened ≡ Some o))

module _ {M C P : Type 0} (way : Way M C P) where
  -- what stands for a request for setup
  abbrev pub SpellsSetup : M → Type 0
  SpellsSetup x = (m : Message C) × IsSetup m × (x ≡ way.encode m)

  abbrev pub AsksForSetup : Asking M C → Type 0
  AsksForSetup a =
      ((o : Opened M) → a.opened ≡ Some o → (x : M) → o.request ≡ Some x → SpellsSetup x)
      × AllByRecursion (λ (w : Waiting C). IsSetup w.message) a.waits

  -- from one step to the next
  pub record Grows (a b : Asking M C) : Type 0 where
    pub setups : AsksForSetup a → AsksForSetup b
    pub one_more : HasOneMore a b

  abbrev pub GoesOn : Transactions M C → Transactions M C → Type 0
  GoesOn t u = (c : Channel) → Grows (asking_at t c) (asking_at u c)
