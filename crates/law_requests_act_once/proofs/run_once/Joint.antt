-- What holds together in all that steps lead to: control comes of orders; CU-CPs keep deadlines, and the requests of offers open; units ask
-- for setup alone, and the core nothing. So CU-CPs fit what their rows ask.
use Rattle.std.proofs.Common.{arith, ◌≡◌, List, [], Some, None, refl, sym, ap, ◌∙◌, subst, ◌<◌}
use Rattle.std.specs.List.{Contains}
use Rattle.gnb_types.specs.declared.names.Gnb.{Gnb}
use Rattle.gnb_types.specs.declared.names.Gnb.TheVariants.{A, B}
use Rattle.gnb_types.specs.declared.names.NodeId.TheVariants.{CuCp}
use Rattle.gnb_types.specs.declared.names.UeId.{UeId}
use Rattle.gnb_types.specs.declared.keys.Channel.{Channel}
use Rattle.message_types.specs.declared.rrc.Token.{Token}
use Rattle.tables.specs.Tables.{find, at}
use Rattle.transaction_defs.specs.Callers.{opened_at}
use Rattle.transaction_defs.specs.Callees.{kept_at, newest, newest_in, kept_reply, reply_in}
use Rattle.unit_defs.specs.Ways.{Message}
use Rattle.unit_defs.specs.Messages.{channel, other_gnb}
use Rattle.unit_defs.specs.Transactions.{Transactions, no_transactions, waits_at}
use Rattle.unit_defs.specs.CuCpRecords.{Attempt, new_cu_cp}
use Rattle.run_defs.specs.Units.{new_units, cu_cp_of}
use Rattle.run_defs.specs.Runs.{plain_way}
use Rattle.law_requests_act_once.specs.channel.Ends.{asking_at}
use Rattle.law_requests_act_once.specs.run_channels.Reached.{PlainControl, PlainControlMessage, PlainCp, IsOpenOffer, OffersAreOpen, CpsFit, first_control}
use Rattle.law_requests_act_once.proofs.run_channels.Nodes.{first_kept}
use Rattle.law_requests_act_once.proofs.run_channels.Reaches.{IsReached, first_reached}
use Rattle.law_requests_act_once.specs.cu_cp_deadlines.Deadlines.{DeadlinesFit}
use Rattle.law_requests_act_once.proofs.cu_cp_deadlines.Acts.{first_fits, can_cancel}
use Rattle.law_requests_act_once.specs.cu_cp_offers.Offers.{offered_of, offer_of, IsOpenIn, OffersStand}
use Rattle.law_requests_act_once.specs.unit_setups.Setups.{AsksForSetup}
use Rattle.law_requests_act_once.proofs.run_once.Asked.{UnitsAsk, NoneAskHandover, WasAsked}

-- a CU-CP, where these messages were put
pub record CuCpFits (control_messages : List PlainControlMessage) (gnb : Gnb) (r : PlainCp) : Type 0 where
  pub own : r.gnb ≡ gnb
  pub deadlines : DeadlinesFit r
  pub offers : OffersStand (WasAsked control_messages gnb) r

pub record Joint (k : PlainControl) : Type 0 where
  pub reached : IsReached k
  pub cps : (gnb : Gnb) → CuCpFits k.control_messages gnb (cu_cp_of k.units gnb)
  pub units : UnitsAsk k
  pub none : NoneAskHandover k.control_messages
  pub core : (c : Channel) → (asking_at k.core.transactions c).last ≡ 0

-- ---- CU-CPs fit what their rows ask

module _ (control_messages : List PlainControlMessage) (gnb : Gnb) (r : PlainCp) (fits : CuCpFits control_messages gnb r) where
  opens : (ue : UeId) (a : Attempt) → IsOpenIn (kept_at r.transactions.callee (channel ue.0 (CuCp (other_gnb r.gnb)))) a.instance → WasAsked control_messages gnb ue a.instance
      → IsOpenOffer gnb r control_messages ue a
  unfolding newest kept_reply
  opens ue a is_open asked_for = record {
    is_newest = subst (λ (g : Gnb). newest_in (kept_at r.transactions.callee (channel ue.0 (CuCp (other_gnb g)))) ≡ Some a.instance) fits.own is_open.0;
    is_unanswered = subst (λ (g : Gnb). reply_in (kept_at r.transactions.callee (channel ue.0 (CuCp (other_gnb g)))) ≡ None) fits.own is_open.1;
    owner = asked_for.owner;
    message = asked_for.message;
    was_put = asked_for.was_put;
    is_request = asked_for.is_request;
    fits = asked_for.fits;
  }

  offers_open : OffersAreOpen gnb r control_messages
  offers_open ue c a is e s =
      let stands = fits.offers ue a.instance (ap offer_of is ∙ (λ i. offered_of (s i) (e i))) in opens ue a stands.0 stands.1

pub cps_fit : (k : PlainControl) → Joint k → CpsFit k
cps_fit k j gnb =
    let fits = j.cps gnb in
    (fits.own, offers_open k.control_messages gnb (cu_cp_of k.units gnb) fits, can_cancel (cu_cp_of k.units gnb) fits.deadlines)

-- ---- with more messages

pub more_asked : (ls more : List PlainControlMessage) → ((x : PlainControlMessage) → Contains ls x → Contains more x) → (gnb : Gnb) (r : PlainCp) → CuCpFits ls gnb r → CuCpFits more gnb r
more_asked ls more grew gnb r fits = record {
  own = fits.own;
  deadlines = fits.deadlines;
  offers = λ ue i is. let stands = fits.offers ue i is in (
    stands.0,
    record {
      owner = stands.1.owner;
      message = stands.1.message;
      was_put = grew _ stands.1.was_put;
      is_request = stands.1.is_request;
      fits = stands.1.fits;
    },
  );
}

-- ---- at first

nothing_asked : (c : Channel) → AsksForSetup plain_way (asking_at (no_transactions {M = Message Token} {C = Token}) c)
unfolding opened_at waits_at at find
nothing_asked c = ((λ o is x e. absurd cc), tt)

new_fits : (gnb : Gnb) → CuCpFits [] gnb (new_cu_cp gnb)
unfolding find
new_fits gnb = record { own = refl; deadlines = first_fits gnb; offers = λ ue i is. absurd cc }

first_cps : (gnb : Gnb) → CuCpFits [] gnb (cu_cp_of new_units gnb)
first_cps A = new_fits A
first_cps B = new_fits B

pub first_joint : Joint first_control
unfolding at find
first_joint = record {
  reached = first_reached;
  cps = first_cps;
  units = λ m is c. subst (λ (t : Transactions (Message Token) Token). AsksForSetup plain_way (asking_at t c)) (sym (first_kept m)) (nothing_asked c);
  none = λ l has unit. let h : has.0 < 0 = has.1 in absurd (omega arith);
  core = λ c. refl;
}
