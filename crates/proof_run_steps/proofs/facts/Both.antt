-- Two facts of a run at once: where the first goes on to hold for itself, and the second where the run leads on as it does, both do. What
-- is put has both, and so what stands on a tunnel may have a third one for it.
use Rattle.std.proofs.Common.{ℕ, List, [], ◌∷◌, Option, None}
use Rattle.gnb_types.specs.declared.names.NodeId.{NodeId}
use Rattle.gnb_types.specs.declared.names.NodeId.TheVariants.{Core}
use Rattle.gnb_types.specs.declared.keys.TunnelEnd.{TunnelEnd}
use Rattle.unit_defs.specs.Ways.{Put, control, packet, radio, deliver, dropped, held, opened, closed, failed, no}
use Rattle.transport_defs.specs.declared.Item.{Item}
use Rattle.run_defs.specs.Units.{Units}
use Rattle.run_defs.specs.States.{World, Given, control_message_for, item_for, carried_for, confirmed_for, offer_for, tick_for, order_for, octets_from, octets_on}
use Rattle.proof_run_steps.specs.facts.Facts.{Facts, PutFits, PutsFit, GivenFits, AreKept}
use Rattle.proof_run_steps.specs.facts.Later.{AreKeptTo}

module _ {M C L P : Type 0} (one other : Facts M C L P) (on : TunnelEnd → Item L → Type 0)
    (stand : (node : NodeId) (end : TunnelEnd) (item : Item L) → one.puts_on node end item → other.puts_on node end item → on end item) where
  abbrev pub both : Facts M C L P
  both = record {
    units = λ u. one.units u × other.units u;
    core = λ r. one.core r × other.core r;
    control_message = λ l. one.control_message l × other.control_message l;
    puts_on = λ node end item. one.puts_on node end item × other.puts_on node end item;
    puts_on_air = λ node key item. one.puts_on_air node key item × other.puts_on_air node key item;
    on_tunnel = λ end item. one.on_tunnel end item × (other.on_tunnel end item × on end item);
    on_radio = λ key item. one.on_radio key item × other.on_radio key item;
    stands = λ node end item p. (one.stands node end item p.0, (other.stands node end item p.1, stand node end item p.0 p.1));
    stands_on_air = λ node key item p. (one.stands_on_air node key item p.0, other.stands_on_air node key item p.1);
    counted = ⊥;
  }

  -- ---- what is given and put has both facts

  pub given_one : (node : NodeId) (taken : Option ℕ) (given : Given M L P) → GivenFits both node taken given → GivenFits one node taken given
  given_one node taken (control_message_for from message) p = (p.0, p.1.0)
  given_one node taken (item_for teid item) p = (p.0, p.1.0)
  given_one node taken (carried_for item) p = (p.0, (p.1.0, p.1.1.0))
  given_one node taken (confirmed_for item) p = (p.0, (p.1.0, p.1.1.0))
  given_one node taken (offer_for ue bearer x) p = tt
  given_one node taken tick_for p = tt
  given_one node taken (order_for order) p = tt
  given_one node taken (octets_from from octets) p = tt
  given_one node taken (octets_on teid octets) p = tt

  pub given_other : (node : NodeId) (taken : Option ℕ) (given : Given M L P) → GivenFits both node taken given → GivenFits other node taken given
  given_other node taken (control_message_for from message) p = (p.0, p.1.1)
  given_other node taken (item_for teid item) p = (p.0, p.1.1.0)
  given_other node taken (carried_for item) p = (p.0, (p.1.0, p.1.1.1))
  given_other node taken (confirmed_for item) p = (p.0, (p.1.0, p.1.1.1))
  given_other node taken (offer_for ue bearer x) p = tt
  given_other node taken tick_for p = tt
  given_other node taken (order_for order) p = tt
  given_other node taken (octets_from from octets) p = tt
  given_other node taken (octets_on teid octets) p = tt

  put_both : (node : NodeId) (taken : Option ℕ) (output : Put M L P) → PutFits one node taken output → PutFits other node taken output → PutFits both node taken output
  put_both node taken (control to ue message) p q = (p, q)
  put_both node taken (packet to teid ue bearer dir tag load) p q = (p, q)
  put_both node taken (radio ue bearer dir epoch tag pdu) p q = (p, q)
  put_both node taken (deliver ue bearer dir count x) p q = tt
  put_both node taken (dropped reason) p q = tt
  put_both node taken (held reason) p q = tt
  put_both node taken (opened teid) p q = tt
  put_both node taken (closed teid) p q = tt
  put_both node taken (failed ue cause) p q = tt
  put_both node taken (no reason) p q = tt

  pub puts_both : (node : NodeId) (taken : Option ℕ) (outputs : List (Put M L P)) → PutsFit one node taken outputs → PutsFit other node taken outputs
      → PutsFit both node taken outputs
  puts_both node taken [] p q = tt
  puts_both node taken (output ∷ outputs) p q = (put_both node taken output p.0 q.0, puts_both node taken outputs p.1 q.1)

  -- ---- they go on to hold

  pub both_kept : (world : World M C L P) (later : Units M C → Type 0) → AreKept world one → AreKeptTo world other later → AreKeptTo world both later
  both_kept world later kept keeps = record {
    before_answer = keeps.before_answer;
    before_coming = keeps.before_coming;
    before_placing = keeps.before_placing;
    answers = λ lengths u v node taken given outputs p fits is l.
        let a = kept.answers lengths u v node taken given outputs p.0 (given_one node taken given fits) is in
        let b = keeps.answers lengths u v node taken given outputs p.1 (given_other node taken given fits) is l in
        ((a.0, b.0), puts_both node taken outputs a.1 b.1);
    comes = λ u plan p. (kept.comes u plan p.0, keeps.comes u plan p.1);
    placed = λ u plan may l p. (kept.placed u plan may.0 may.1 may.2 p.0, keeps.placed u plan may l p.1);
    core_placed = λ u r plan may l p q. (kept.core_placed r plan _ q.0, keeps.core_placed u r plan may l p.1 q.1);
    core_answers = λ lengths r q given outputs p fits is.
        let a = kept.core_answers lengths r q given outputs p.0 (given_one Core None given fits) is in
        let b = keeps.core_answers lengths r q given outputs p.1 (given_other Core None given fits) is in
        ((a.0, b.0), puts_both Core None outputs a.1 b.1);
    lays = λ r ue bearer x path p found. (kept.lays r ue bearer x path p.0 found, keeps.lays r ue bearer x path p.1 found);
    silent = λ counted. absurd counted;
  }
