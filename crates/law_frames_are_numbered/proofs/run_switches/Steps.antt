-- Whatever a unit does with what was put to it, the TEID stays in one place.
use Rattle.std.proofs.Common.{◌≡◌, ℕ, false, ◌⊎◌, inl, inr, List, [], ◌∷◌, ◌++◌, map, Option, Some, None, refl, sym, ◌∙◌, subst, arith}
use Rattle.std.proofs.lemmas.List.Elements.{Contains-append_cases, Contains-push_cases}
use Rattle.std.specs.List.{AllByRecursion, Contains}
use Rattle.gnb_types.specs.declared.names.Gnb.{Gnb}
use Rattle.gnb_types.specs.declared.names.NodeId.{NodeId}
use Rattle.gnb_types.specs.declared.names.NodeId.TheVariants.{CuCp, CuUp as up_id, Du as du_id, Core, Ue}
use Rattle.gnb_types.specs.declared.plans.Tunnel.{Tunnel}
use Rattle.gnb_types.specs.Orders.{node_cmp}
use Rattle.std.specs.Ordering.{eq_by_cmp}
use Rattle.message_types.specs.declared.rrc.Token.{Token}
use Rattle.transport_defs.specs.declared.ControlMessage.{ControlMessage}
use Rattle.unit_defs.specs.Ways.{Message, Pdu, control, packet, radio, deliver, dropped, held, opened, closed, failed, no, Input, Output, gives, spent}
use Rattle.unit_defs.specs.Messages.{channel}
use Rattle.unit_defs.specs.CuUpRecords.{CuUp}
use Rattle.unit_defs.specs.CuUp.{cu_up_acts}
use Rattle.unit_defs.specs.Du.{du_acts}
use Rattle.unit_defs.specs.Ue.{UeNode, ue_acts}
use Rattle.unit_defs.specs.CuCp.{cu_cp_acts}
use Rattle.run_defs.specs.Units.{cu_cp_of, with_cu_cp, cu_up_of, with_cu_up, du_of, with_du, ue_of, with_ue}
use Rattle.run_defs.specs.Written.{written_put, PlainStepped}
use Rattle.run_defs.specs.States.{Lengths, stepped, step_spent}
use Rattle.run_defs.specs.Runs.{Reading, Plain, plain_way, stepped_with, ue_stepped, acts_on}
use Rattle.proof_run_steps.specs.control.Control.{control_messages_in}
use Rattle.intervals.proofs.Intervals.{all_append}
use Rattle.proof_unit_steps.specs.tunnel_names.Names.{InputNames}
use Rattle.proof_unit_steps.specs.tunnel_names.CuCps.{CuCpNames}
use Rattle.proof_unit_steps.specs.downlink_names.Places.{DownlinkTeid, du_of_teid, Grant, away, Story, AnswerIs, GoesTo}
use Rattle.proof_unit_steps.specs.downlink_names.Claims.{HasClosed, PutIs, CuCpHas, InputIs, CuCpGoes}
use Rattle.proof_unit_steps.proofs.downlink_names.Moves.{on_answer}
use Rattle.proof_unit_steps.proofs.downlink_names.Begins.{all_as, put_stays}
use Rattle.proof_unit_steps.proofs.downlink_names.CuCps.{cu_cp_goes}
use Rattle.proof_unit_steps.specs.downlink_grants.Grants.{DuKeeps, TellIs, DuGoes}
use Rattle.proof_unit_steps.proofs.downlink_grants.Dus.{du_goes}
use Rattle.proof_run_steps.proofs.answerers.Runs.{Any}
use Rattle.law_frames_are_numbered.specs.run_switches.Switches.{AsksOnce, TellsOnce}
use Rattle.law_frames_are_numbered.proofs.run_switches.Units.{Records, PlainCp, PlainDu, same_gnb, same_du, apart_node, cp_same, cp_here, cp_apart, du_beside, du_here, du_apart}

abbrev pub PlainControlMessage : Type 0
PlainControlMessage = ControlMessage (Message Token)

pub contained : {X : Type 0} (Q : X → Type 0) (xs : List X) (x : X) → AllByRecursion Q xs → Contains xs x → Q x
contained Q [] x all has = let low = has.1 in absurd (omega (arith, low))
contained {X} Q (y ∷ ys) x all has = by (contained Q ys x all.1) (Contains-append_cases (y ∷ []) ys x has)
  where
    here : Contains [] x ⊎ (y ≡ x) → Q x
    here (inl none) = let low = none.1 in absurd (omega (arith, low))
    here (inr same) = subst Q same all.0

    by : (Contains ys x → Q x) → Contains (y ∷ []) x ⊎ Contains ys x → Q x
    by later (inl first) = here (Contains-push_cases [] y x first)
    by later (inr rest) = later rest

-- ---- the control messages of what is put

abbrev OfPut : (PlainControlMessage → Type 0) → NodeId → Output (Message Token) Pdu → Type 0
OfPut Q node (control to ue m) = Q (record { from = node; to = to; ue = ue; message = m })
OfPut Q node o = Unit {0}

of_puts : (Q : PlainControlMessage → Type 0) (node : NodeId) (sn : Lengths) (os : List (Output (Message Token) Pdu)) → AllByRecursion (OfPut Q node) os
    → AllByRecursion Q (control_messages_in node (map (written_put sn) os))
of_puts Q node sn [] all = tt
of_puts Q node sn (control to ue m ∷ os) all = (all.0, of_puts Q node sn os all.1)
of_puts Q node sn (packet to teid ue bearer dir tag load ∷ os) all = of_puts Q node sn os all.1
of_puts Q node sn (radio ue bearer dir epoch tag pdu ∷ os) all = of_puts Q node sn os all.1
of_puts Q node sn (deliver ue bearer dir count p ∷ os) all = of_puts Q node sn os all.1
of_puts Q node sn (dropped reason ∷ os) all = of_puts Q node sn os all.1
of_puts Q node sn (held reason ∷ os) all = of_puts Q node sn os all.1
of_puts Q node sn (opened teid ∷ os) all = of_puts Q node sn os all.1
of_puts Q node sn (closed teid ∷ os) all = of_puts Q node sn os all.1
of_puts Q node sn (failed ue cause ∷ os) all = of_puts Q node sn os all.1
of_puts Q node sn (no reason ∷ os) all = of_puts Q node sn os all.1

put_as : (P : Output (Message Token) Pdu → Type 0) (Q : PlainControlMessage → Type 0) (node : NodeId)
    → ((to : NodeId) (ue : ℕ) (m : Message Token) → P (control to ue m) → Q (record { from = node; to = to; ue = ue; message = m }))
    → (o : Output (Message Token) Pdu) → P o → OfPut Q node o
put_as P Q node each (control to ue m) p = each to ue m p
put_as P Q node each (packet to teid ue bearer dir tag load) p = tt
put_as P Q node each (radio ue bearer dir epoch tag pdu) p = tt
put_as P Q node each (deliver ue bearer dir count x) p = tt
put_as P Q node each (dropped reason) p = tt
put_as P Q node each (held reason) p = tt
put_as P Q node each (opened teid) p = tt
put_as P Q node each (closed teid) p = tt
put_as P Q node each (failed ue cause) p = tt
put_as P Q node each (no reason) p = tt

pub puts_as : (P : Output (Message Token) Pdu → Type 0) (Q : PlainControlMessage → Type 0) (node : NodeId) (sn : Lengths)
    → ((to : NodeId) (ue : ℕ) (m : Message Token) → P (control to ue m) → Q (record { from = node; to = to; ue = ue; message = m }))
    → (os : List (Output (Message Token) Pdu)) → AllByRecursion P os → AllByRecursion Q (control_messages_in node (map (written_put sn) os))
puts_as P Q node sn each os all = of_puts Q node sn os (all_as P (OfPut Q node) os (λ o p. put_as P Q node each o p) all)

pub free : {X : Type 0} (xs : List X) → AllByRecursion (λ (x : X). Unit {0}) xs
free [] = tt
free (x ∷ xs) = (tt, free xs)

module _ (t : DownlinkTeid) where
  abbrev pub ControlMessageIs : Story → PlainControlMessage → Type 0
  ControlMessageIs s l = AsksOnce t s.place l × TellsOnce t s l

  pub record HasPlace (s : Story) (u : Records) (ls : List PlainControlMessage) : Type 0 where
    pub cp : CuCpHas t s (cu_cp_of u t.gnb)
    pub du : DuKeeps t s (du_of u t.gnb t.du)
    pub control_messages : AllByRecursion (ControlMessageIs s) ls

  answer_later : (g h : Option Grant) (m : Message Token) → ((x : Grant) → g ≡ Some x → h ≡ Some x) → AnswerIs t g (du_of_teid t) m → AnswerIs t h (du_of_teid t) m
  answer_later g h m later k =
      on_answer _ _ m (λ ue i list all. all_as (λ (x : Tunnel). x.teid ≡ t.teid → g ≡ Some (record { channel = channel ue.0 (du_of_teid t); instance = i; bearer = x.bearer }))
      (λ (x : Tunnel). x.teid ≡ t.teid → h ≡ Some (record { channel = channel ue.0 (du_of_teid t); instance = i; bearer = x.bearer })) list
      (λ x is named. later _ (is named)) all) k

  pub control_messages_later : (s q : Story) (ls : List PlainControlMessage) → GoesTo s q → AllByRecursion (ControlMessageIs s) ls → AllByRecursion (ControlMessageIs q) ls
  control_messages_later s q ls goes all =
      all_as (ControlMessageIs s) (ControlMessageIs q) ls
      (λ l h. (
        λ e. put_stays t {P = Pdu} s.place q.place (control l.to l.ue l.message) goes.asked_stays (h.0 e),
        λ e. answer_later s.grant q.grant l.message goes.granted (h.1 e),
      )) all

  pub same_story : (s : Story) → GoesTo s s
  same_story s = record { granted = λ g e. e; asked_stays = λ c i b e. e; placed_stays = λ e. e }

  module _ (reading : Reading) (s : Story) (u : Records) (ls : List PlainControlMessage) (h : HasPlace s u ls) (sn : Lengths) where
    abbrev pub Moved : NodeId → PlainStepped → Type 0
    Moved node (stepped os v) = (q : Story) × GoesTo s q × HasPlace q v (ls ++ control_messages_in node (map (written_put sn) os))
    Moved node (step_spent counter) = Unit {0}

    -- ---- the CU-CP and the DU themselves

    mine_cp : (input : Input Token Pdu) → CuCpNames Any t.gnb (cu_cp_of u t.gnb) → InputNames Any input → InputIs t s input
        → Moved (CuCp t.gnb) (acts_on reading u (CuCp t.gnb) input)
    mine_cp input n names given =
        by (cu_cp_acts plain_way (cu_cp_of u t.gnb) input) (cu_cp_goes t plain_way (λ m. refl) Any s (cu_cp_of u t.gnb) input n names h.cp given)
      where
        by : (a : Plain PlainCp) → CuCpGoes t s a → Moved (CuCp t.gnb) (stepped_with reading (with_cu_cp u t.gnb) a)
        by (gives os r) e = (
          record s { place = e.0 },
          e.1,
          record {
            cp = subst (CuCpHas t (record s { place = e.0 })) (sym (cp_here u t.gnb r)) e.4;
            du = subst (DuKeeps t (record s { place = e.0 })) (sym (du_beside u t.gnb t.gnb t.du r)) (record {
              left = λ is. let old = h.du.left is in (old.0, e.2 old.0 old.1);
              opened = h.du.opened;
              waiting = h.du.waiting;
              replies = h.du.replies;
            });
            control_messages = all_append (ControlMessageIs (record s { place = e.0 })) ls (control_messages_in (CuCp t.gnb) (map (written_put sn) os))
                (control_messages_later s (record s { place = e.0 }) ls e.1 h.control_messages)
                (puts_as (PutIs t e.0) (ControlMessageIs (record s { place = e.0 })) (CuCp t.gnb) sn (λ to ue m p. (λ x. p, λ x. absurd cc)) os e.3);
          },
        )
        by (spent counter) e = tt

    grant_has : (g : Option Grant) (r : PlainCp) → ((x : Grant) → s.grant ≡ Some x → g ≡ Some x) → ((x : Grant) → g ≡ Some x → s.grant ≡ None → s.place ≡ away)
        → CuCpHas t s r → CuCpHas t (record s { grant = g }) r
    grant_has g r later off k = (
      k.0,
      record {
        transactions = record {
          opened = k.1.transactions.opened;
          last = k.1.transactions.last;
          waiting = k.1.transactions.waiting;
          kept = k.1.transactions.kept;
          closed = λ apart. by s.grant refl g refl apart;
        };
        contexts = k.1.contexts;
      },
    )
      where
        by : (o : Option Grant) → s.grant ≡ o → (n : Option Grant) → g ≡ n → (s.place ≡ away → ⊥) → HasClosed r.transactions.caller g
        by (Some x) is n was apart =
            subst (HasClosed r.transactions.caller) (is ∙ sym (later x is)) (k.1.transactions.closed apart)
        by None is None was apart = subst (HasClosed r.transactions.caller) (sym was) tt
        by None is (Some x) was apart = absurd (apart (off x was is))

    mine_du : (input : Input Token Pdu) → Moved (du_of_teid t) (acts_on reading u (du_of_teid t) input)
    mine_du input =
        by (du_acts plain_way (du_of u t.gnb t.du) input) (du_goes t plain_way (λ m. refl) (λ c. tt) s (du_of u t.gnb t.du) input h.du)
      where
        by : (a : Plain PlainDu) → DuGoes t s a → Moved (du_of_teid t) (stepped_with reading (with_du u t.gnb t.du) a)
        by (gives os r) e = (
          record s { grant = e.0 },
          e.1,
          record {
            cp = subst (CuCpHas t (record s { grant = e.0 })) (sym (cp_same t.gnb u (with_du u t.gnb t.du r) refl refl))
                (grant_has e.0 (cu_cp_of u t.gnb) e.1.granted e.2 h.cp);
            du = subst (DuKeeps t (record s { grant = e.0 })) (sym (du_here u t.gnb t.du r)) e.4;
            control_messages = all_append (ControlMessageIs (record s { grant = e.0 })) ls (control_messages_in (du_of_teid t) (map (written_put sn) os))
                (control_messages_later s (record s { grant = e.0 }) ls e.1 h.control_messages)
                (puts_as (TellIs t e.0) (ControlMessageIs (record s { grant = e.0 })) (du_of_teid t) sn (λ to ue m p. (λ x. absurd cc, λ x. p)) os e.3);
          },
        )
        by (spent counter) e = tt

    -- ---- other nodes

    others : (node : NodeId) (os : List (Output (Message Token) Pdu)) (v : Records) → (node ≡ CuCp t.gnb → ⊥) → (node ≡ du_of_teid t → ⊥)
        → cu_cp_of v t.gnb ≡ cu_cp_of u t.gnb → du_of v t.gnb t.du ≡ du_of u t.gnb t.du → Moved node (stepped os v)
    others node os v not_cp not_du cps dus = (
      s,
      same_story s,
      record {
        cp = subst (CuCpHas t s) (sym cps) h.cp;
        du = subst (DuKeeps t s) (sym dus) h.du;
        control_messages = all_append (ControlMessageIs s) ls (control_messages_in node (map (written_put sn) os)) h.control_messages
            (puts_as (λ o. Unit {0}) (ControlMessageIs s) node sn (λ to ue m p. (λ e. absurd (not_cp e), λ e. absurd (not_du e))) os (free os));
      },
    )

    pub acted : (node : NodeId) (input : Input Token Pdu) → CuCpNames Any t.gnb (cu_cp_of u t.gnb) → InputNames Any input → InputIs t s input
        → Moved node (acts_on reading u node input)
    acted (CuCp g) input n names given = by (same_gnb t.gnb g)
      where
        apart : (t.gnb ≡ g → ⊥) → (a : Plain PlainCp) → Moved (CuCp g) (stepped_with reading (with_cu_cp u g) a)
        apart off (gives os r) =
            others (CuCp g) os (with_cu_cp u g r) (λ e. off (sym (gnbs e))) (λ e. absurd cc) (cp_apart u g t.gnb r off) (du_beside u g t.gnb t.du r)
          where
            gnbs : CuCp g ≡ CuCp t.gnb → g ≡ t.gnb
            gnbs e = cc
        apart off (spent counter) = tt

        by : (t.gnb ≡ g) ⊎ (t.gnb ≡ g → ⊥) → Moved (CuCp g) (acts_on reading u (CuCp g) input)
        by (inl same) = subst (λ (x : Gnb). Moved (CuCp x) (acts_on reading u (CuCp x) input)) same (mine_cp input n names given)
        by (inr off) = apart off (cu_cp_acts plain_way (cu_cp_of u g) input)
    acted (du_id g n) input names_cp names given = by (same_du t.gnb g t.du n)
      where
        by : (◌≡◌ {A = Gnb × ℕ} (t.gnb, t.du) (g, n)) ⊎ (eq_by_cmp node_cmp (du_id t.gnb t.du) (du_id g n) ≡ false)
            → Moved (du_id g n) (acts_on reading u (du_id g n) input)
        by (inl same) = subst (λ (x : Gnb × ℕ). Moved (du_id x.0 x.1) (acts_on reading u (du_id x.0 x.1) input)) same (mine_du input)
        by (inr off) = apart (du_acts plain_way (du_of u g n) input)
          where
            apart : (a : Plain PlainDu) → Moved (du_id g n) (stepped_with reading (with_du u g n) a)
            apart (gives os r) =
                others (du_id g n) os (with_du u g n r) (λ e. absurd cc) (λ e. apart_node t.gnb g t.du n off e) (cp_same t.gnb u (with_du u g n r) refl refl)
                (du_apart u g t.gnb n t.du r off)
            apart (spent counter) = tt
    acted (up_id g n) input names_cp names given = by (cu_up_acts plain_way (cu_up_of u g n) input)
      where
        by : (a : Plain (CuUp (Message Token) Token)) → Moved (up_id g n) (stepped_with reading (with_cu_up u g n) a)
        by (gives os r) = others (up_id g n) os (with_cu_up u g n r) (λ e. absurd cc) (λ e. absurd cc) (cp_same t.gnb u (with_cu_up u g n r) refl refl) refl
        by (spent counter) = tt
    acted (Ue ue) input names_cp names given = there (ue_of u (record { 0 = ue }))
      where
        by : (a : Plain UeNode) → Moved (Ue ue) (stepped_with reading (with_ue u (record { 0 = ue })) a)
        by (gives os x) =
            others (Ue ue) os (with_ue u (record { 0 = ue }) x) (λ e. absurd cc) (λ e. absurd cc) (cp_same t.gnb u (with_ue u (record { 0 = ue }) x) refl refl) refl
        by (spent counter) = tt

        there : (o : Option UeNode) → Moved (Ue ue) (ue_stepped reading u ue input o)
        there None = others (Ue ue) [] u (λ e. absurd cc) (λ e. absurd cc) refl refl
        there (Some x) = by (ue_acts plain_way x input)
    acted Core input names_cp names given = others Core [] u (λ e. absurd cc) (λ e. absurd cc) refl refl
