-- What is known of lengths by the plans of a state: in messages, in what units keep, and in items. It is known later.
use Rattle.std.proofs.Common.{◌≡◌, ℕ, List, [], ◌∷◌, Option, Some, None, refl, sym, ap, ◌∙◌}
use Rattle.std.specs.List.{AllByRecursion}
use Rattle.gnb_types.specs.declared.names.Gnb.{Gnb}
use Rattle.gnb_types.specs.declared.names.NodeId.{NodeId}
use Rattle.gnb_types.specs.declared.names.SnBits.{SnBits}
use Rattle.gnb_types.specs.declared.names.UeId.{UeId}
use Rattle.gnb_types.specs.declared.names.BearerId.{BearerId}
use Rattle.gnb_types.specs.declared.plans.Plan.{Plan}
use Rattle.gnb_types.specs.Orders.{ue_cmp}
use Rattle.message_types.specs.declared.rrc.Token.{Token}
use Rattle.message_types.specs.declared.f1.F1.TheVariants as f1s
use Rattle.message_types.specs.declared.e1.E1Message.TheVariants as e1s
use Rattle.message_types.specs.declared.xn.XnMessage.TheVariants as xns
use Rattle.tables.specs.Tables.{find}
use Rattle.unit_defs.specs.Ways.{Message, f1, e1, xn, Pdu, Load, fresh, numbered, frame, uplink, status, end_marker}
use Rattle.unit_defs.specs.Transactions.{kind_of, Transactions}
use Rattle.unit_defs.specs.CuUpRecords.{CuUpBearer, CuUp}
use Rattle.unit_defs.specs.Du.{DuBearer, Du}
use Rattle.unit_defs.specs.CuCpRecords.{Attempt, CuCpContext, CuCpRecord}
use Rattle.unit_defs.specs.Core.{CoreRecord}
use Rattle.unit_defs.specs.octet_defs.Writing.{load_octets, written_load}
use Rattle.run_defs.specs.States.{sn_in}
use Rattle.run_defs.specs.Runs.{plain_way}
use Rattle.proof_run_steps.specs.plans.Plans.{Plans, PlansStay}
use Rattle.proof_run_steps.specs.facts.UnitFacts.{UnitFacts, OfUnits}
use Rattle.proof_run_steps.proofs.facts.Alone.{alone}
use Rattle.proof_run_steps.specs.plan_facts.Along.{lengths_by}
use Rattle.law_tunnels_are_owned.proofs.link_items.Octets.{map_all}
use Rattle.proof_unit_steps.specs.tunnel_names.Names.{Owners, IfAny, ue_of, NamesFor, Names, LoadNames, Property, KeptNames}
use Rattle.proof_unit_steps.specs.tunnel_names.CuCps.{ContextNames, TerminalNames, CuCpNames, CoreNames}
use Rattle.proof_unit_steps.specs.tunnels.Units.{Each, BearerHolds, CuUpHolds, DownlinkHolds, DuHolds, NoneIsFree, CuUpNames, DuNames, IsLong}

-- its plan says so
abbrev pub SaysLength : Plans → UeId → SnBits → Type 0
SaysLength plans ue sn = (plan : Plan) × (find ue_cmp plans ue ≡ Some plan) × (plan.sn ≡ sn)

pub length_is : (plans : Plans) (ue : UeId) (sn : SnBits) → SaysLength plans ue sn → lengths_by plans ue ≡ sn
length_is plans ue sn k = ap sn_in k.1 ∙ k.2

pub any_all : {X : Type 0} (Q : X → Type 0) (xs : List X) → ((x : X) → Q x) → AllByRecursion Q xs
any_all Q [] f = tt
any_all Q (x ∷ xs) f = (f x, any_all Q xs f)

-- beside it something else may be asked of a length
module _ (Extra : UeId → SnBits → Type 0) where
  -- any TEID may be named for any
  abbrev pub Owns : Plans → Owners
  Owns plans = record {
    up = λ gnb number kind ue bearer teid. Unit {0};
    du = λ gnb number ue bearer teid. Unit {0};
    length = λ ue sn. SaysLength plans ue sn × Extra ue sn;
  }

  abbrev pub Its : Plans → Property {M = Message Token} {C = Token} {P = Pdu} plain_way
  Its plans = record {
    owners = Owns plans;
    says = λ from message. Names (Owns plans) from message;
    spells = λ from message p. p;
    passes = λ from container. tt;
  }

  abbrev pub Parts : Plans → UnitFacts
  Parts plans =
      alone (λ g n r. CuUpNames (Its plans) g n r) (λ g n r. DuNames (Its plans) g n r) (λ g r. CuCpNames (Its plans) g r) (λ ue x. IsLong (Its plans) x)
      (λ r. Unit {0})

  -- ---- own tunnels

  pub bearer_holds : (plans : Plans) (g : Gnb) (n : ℕ) (ue : UeId) (bearer : BearerId) (b : CuUpBearer) → BearerHolds (Owns plans) g n ue bearer b
  bearer_holds plans g n ue bearer b = record {
    paths = any_all _ _ (λ teid. tt);
    uplinks = any_all _ _ (λ teid. tt);
    down = any_all _ _ (λ teid. tt);
    up = any_all _ _ (λ teid. tt);
  }

  pub ups_hold : (plans : Plans) (g : Gnb) (n : ℕ) (ue : UeId) (es : List (BearerId × CuUpBearer)) → Each (BearerHolds (Owns plans) g n ue) es
  ups_hold plans g n ue es = any_all (λ (e : BearerId × CuUpBearer). BearerHolds (Owns plans) g n ue e.0 e.1) es (λ e. bearer_holds plans g n ue e.0 e.1)

  pub dus_hold : (plans : Plans) (g : Gnb) (n : ℕ) (ue : UeId) (es : List (BearerId × DuBearer)) → Each (DownlinkHolds (Owns plans) g n ue) es
  dus_hold plans g n ue es = any_all (λ (e : BearerId × DuBearer). DownlinkHolds (Owns plans) g n ue e.0 e.1) es (λ e. tt)

  pub up_holds : (plans : Plans) (g : Gnb) (n : ℕ) (r : CuUp (Message Token) Token) → CuUpHolds (Owns plans) g n r
  up_holds plans g n r ue c there = ups_hold plans g n ue c.bearers

  pub du_holds : (plans : Plans) (g : Gnb) (n : ℕ) (r : Du (Message Token) Token) → DuHolds (Owns plans) g n r
  du_holds plans g n r ue c there = dus_hold plans g n ue c.bearers

  pub none_free : (plans : Plans) → NoneIsFree (Owns plans)
  none_free plans = record { up = λ g n kind ue bearer. tt; du = λ g n ue bearer. tt }

  -- ---- later

  module _ (before after : Plans) (stay : PlansStay before after) where
    pub length_later : (ue : UeId) (sn : SnBits) → (Owns before).length ue sn → (Owns after).length ue sn
    length_later ue sn h = ((h.0.0, stay ue h.0.0 h.0.1, h.0.2), h.1)

    for_later : (from : NodeId) (ue : UeId) (m : Message Token) → NamesFor (Owns before) from ue m → NamesFor (Owns after) from ue m
    for_later from ue (f1 (f1s.UeContextSetupRequest u instance epoch uplinks sn peer)) p = (p.0, length_later ue sn p.1)
    for_later from ue (e1 (e1s.BearerContextSetupRequest u instance bearers sn quota forward)) p = length_later ue sn p
    for_later from ue (xn (xns.HandoverRequest u instance epoch bearers sn quota peer du origin)) p = length_later ue sn p
    for_later from ue m p = p

    pub names_later : (from : NodeId) (m : Message Token) → Names (Owns before) from m → Names (Owns after) from m
    names_later from m p = for_later from (ue_of (kind_of m)) m p

    if_later : (from : NodeId) (m : Option (Message Token)) → IfAny (Names (Owns before) from) m → IfAny (Names (Owns after) from) m
    if_later from None p = tt
    if_later from (Some m) p = names_later from m p

    kept_later : (node : NodeId) (t : Transactions (Message Token) Token) → KeptNames (Its before) node t → KeptNames (Its after) node t
    kept_later node t p = record {
      opened = map_all _ _ t.caller.opened (λ e h. if_later node e.1.request h) p.opened;
      waiting = map_all _ _ t.waiting (λ e h. map_all _ _ e.1 (λ w k. names_later node w.message k) h) p.waiting;
      replies = map_all _ _ t.callee (λ e h. if_later node e.1.reply h) p.replies;
    }

    context_later : (gnb : Gnb) (ue : UeId) (c : CuCpContext) (a : Option Attempt) → ContextNames (Its before) gnb ue c a → ContextNames (Its after) gnb ue c a
    context_later gnb ue c None p = length_later ue c.sn p
    context_later gnb ue c (Some a) p = record {
      paths = p.paths;
      downlinks = p.downlinks;
      down = p.down;
      up = p.up;
      awaits = p.awaits;
      at_goal = p.at_goal;
      sn = length_later ue c.sn p.sn;
    }

    terminal_later : (gnb : Gnb) (ue : UeId) (c : Option CuCpContext) → TerminalNames (Its before) gnb ue c → TerminalNames (Its after) gnb ue c
    terminal_later gnb ue None p = tt
    terminal_later gnb ue (Some c) p = context_later gnb ue c c.attempt p

    cp_later : (gnb : Gnb) (r : CuCpRecord (Message Token) Token) → CuCpNames (Its before) gnb r → CuCpNames (Its after) gnb r
    cp_later gnb r p = record {
      own = p.own;
      terminals = λ ue t there. terminal_later gnb ue t.context (p.terminals ue t there);
      kept = kept_later _ r.transactions p.kept;
    }

    up_later : (g : Gnb) (n : ℕ) (r : CuUp (Message Token) Token) → CuUpNames (Its before) g n r → CuUpNames (Its after) g n r
    up_later g n r p = record {
      own = p.own;
      contexts = p.contexts;
      lengths = map_all _ _ r.contexts (λ e h. length_later e.0 e.1.sn h) p.lengths;
      kept = kept_later _ r.transactions p.kept;
    }

    du_later : (g : Gnb) (n : ℕ) (r : Du (Message Token) Token) → DuNames (Its before) g n r → DuNames (Its after) g n r
    du_later g n r p = record {
      own = p.own;
      uplinks = p.uplinks;
      lengths = map_all _ _ r.contexts (λ e h. length_later e.0 e.1.sn h) p.lengths;
      kept = kept_later _ r.transactions p.kept;
    }

    pub parts_later : (u : _) → OfUnits (Parts before) u → OfUnits (Parts after) u
    parts_later u h = (
      λ g n. up_later g n _ (h.0 g n),
      λ g n. du_later g n _ (h.1 g n),
      λ g. cp_later g _ (h.2 g),
      λ ue x there. length_later x.plan.ue x.plan.sn (h.3 ue x there),
    )

    pub core_later : (r : CoreRecord (Message Token) Token) → CoreNames (Its before) r → CoreNames (Its after) r
    core_later r p = record { paths = p.paths; kept = kept_later _ r.transactions p.kept }

    -- ---- items

    same_length : (ue : UeId) (sn : SnBits) → (Owns before).length ue sn → lengths_by before ue ≡ lengths_by after ue
    same_length ue sn h = length_is before ue sn h.0 ∙ sym (length_is after ue sn (length_later ue sn h).0)

    pub load_later : (ue : UeId) (load : Load Pdu) → LoadNames (Owns before) ue load → LoadNames (Owns after) ue load
    load_later ue (numbered sn count p) h = length_later ue sn h
    load_later ue (frame poll restart number pdu) h = (h.0, length_later ue h.0 h.1)
    load_later ue (uplink pdu) h = (h.0, length_later ue h.0 h.1)
    load_later ue (status lost (Some count)) h = (h.0, length_later ue h.0 h.1)
    load_later ue load h = tt

    pub octets_later : (teid : ℕ) (ue : UeId) (load : Load Pdu) → LoadNames (Owns before) ue load
        → load_octets teid (written_load (lengths_by before ue) load) ≡ load_octets teid (written_load (lengths_by after ue) load)
    octets_later teid ue (fresh p) h = refl
    octets_later teid ue (numbered sn count p) h = refl
    octets_later teid ue (frame poll restart number pdu) h =
        ap (λ (sn : SnBits). load_octets teid (written_load sn (frame poll restart number pdu))) (same_length ue h.0 h.1)
    octets_later teid ue (uplink pdu) h = ap (λ (sn : SnBits). load_octets teid (written_load sn (uplink pdu))) (same_length ue h.0 h.1)
    octets_later teid ue (status lost (Some count)) h =
        ap (λ (sn : SnBits). load_octets teid (written_load sn (status lost (Some count)))) (same_length ue h.0 h.1)
    octets_later teid ue (status lost None) h = refl
    octets_later teid ue end_marker h = refl

    pub air_later : (ue : UeId) (pdu : Pdu) (sn : SnBits) → (Owns before).length ue sn → lengths_by before ue ≡ lengths_by after ue
    air_later ue pdu sn h = same_length ue sn h
