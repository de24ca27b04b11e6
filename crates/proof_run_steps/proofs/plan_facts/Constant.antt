-- Facts that speak of no plans are kept along; and so are two facts at once.
use Rattle.std.proofs.Common.{None}
use Rattle.gnb_types.specs.declared.names.NodeId.TheVariants.{CuCp, Core}
use Rattle.gnb_types.specs.declared.keys.TunnelEnd.{TunnelEnd}
use Rattle.gnb_types.specs.declared.inputs.Order.TheVariants as orders
use Rattle.transport_defs.specs.declared.Item.{Item}
use Rattle.run_defs.specs.States.{World, order_for}
use Rattle.proof_run_steps.specs.plans.Plans.{Plans}
use Rattle.proof_run_steps.specs.facts.Facts.{Facts, AreKept}
use Rattle.proof_run_steps.proofs.facts.Both.{both, given_one, given_other, puts_both}
use Rattle.proof_run_steps.specs.plan_facts.Along.{lengths_by, with_plan, Allowed, Grows, AreKeptAlong}

module _ {M C L P : Type 0} (world : World M C L P) where
  pub always_along : (allowed : Allowed) (facts : Facts M C L P) → AreKept world facts → AreKeptAlong world (λ plans. facts) allowed
  always_along allowed facts kept = record {
    grows = λ before after stay. record {
      units = λ u p. p;
      core = λ r p. p;
      control_message = λ l p. p;
      on_tunnel = λ end item p. p;
      on_radio = λ key item p. p;
      counted = λ c. c;
    };
    answers = λ plans u v node taken given outputs none h fits is. kept.answers (lengths_by plans) u v node taken given outputs h fits is;
    attaches = λ plans plan u v outputs may new h is. kept.answers (lengths_by plans) u v (CuCp plan.gnb) None (order_for (orders.Attach plan)) outputs h tt is;
    comes = λ plans plan u may h. kept.comes u plan h;
    placed = λ plans plan u may room h. kept.placed u plan room.0 room.1 room.2 h;
    core_placed = λ plans plan u r may room h. kept.core_placed r plan _ h;
    core_answers = λ plans r q given outputs h fits is. kept.core_answers (lengths_by plans) r q given outputs h fits is;
    lays = λ plans r ue bearer p path may h found. kept.lays r ue bearer p path h found;
    silent = λ plans counted lengths r q from octets outputs is. kept.silent counted lengths r q from octets outputs is;
  }

  module _ (one other : Plans → Facts M C L P) where
    abbrev Nothing : TunnelEnd → Item L → Type 0
    Nothing end item = Unit {0}

    abbrev pub both_by : Plans → Facts M C L P
    both_by plans = both (one plans) (other plans) Nothing (λ node end item p q. tt)

    pub both_along : (allowed : Allowed) → AreKeptAlong world one allowed → AreKeptAlong world other allowed → AreKeptAlong world both_by allowed
    both_along allowed kept keeps = record {
      grows = λ before after stay.
          let f : Grows (one before) (one after) = kept.grows before after stay in
          let g : Grows (other before) (other after) = keeps.grows before after stay in
          record {
            units = λ u p. (f.units u p.0, g.units u p.1);
            core = λ r p. (f.core r p.0, g.core r p.1);
            control_message = λ l p. (f.control_message l p.0, g.control_message l p.1);
            on_tunnel = λ end item p. (f.on_tunnel end item p.0, (g.on_tunnel end item p.1.0, tt));
            on_radio = λ key item p. (f.on_radio key item p.0, g.on_radio key item p.1);
            counted = λ c. c;
          };
      answers = λ plans u v node taken given outputs none h fits is.
          let a = kept.answers plans u v node taken given outputs none h.0
          (given_one (one plans) (other plans) Nothing (λ node end item p q. tt) node taken given fits) is in
          let b = keeps.answers plans u v node taken given outputs none h.1
          (given_other (one plans) (other plans) Nothing (λ node end item p q. tt) node taken given fits) is in
          ((a.0, b.0), puts_both (one plans) (other plans) Nothing (λ node end item p q. tt) node taken outputs a.1 b.1);
      attaches = λ plans plan u v outputs may new h is.
          let a = kept.attaches plans plan u v outputs may new h.0 is in
          let b = keeps.attaches plans plan u v outputs may new h.1 is in (
            (a.0, b.0),
            puts_both (one (with_plan plans plan)) (other (with_plan plans plan)) Nothing (λ node end item p q. tt) (CuCp plan.gnb) None outputs a.1 b.1,
          );
      comes = λ plans plan u may h. (kept.comes plans plan u may h.0, keeps.comes plans plan u may h.1);
      placed = λ plans plan u may room h. (kept.placed plans plan u may room h.0, keeps.placed plans plan u may room h.1);
      core_placed = λ plans plan u r may room h. (kept.core_placed plans plan u r may room h.0, keeps.core_placed plans plan u r may room h.1);
      core_answers = λ plans r q given outputs h fits is.
          let a = kept.core_answers plans r q given outputs h.0
          (given_one (one plans) (other plans) Nothing (λ node end item p q. tt) Core None given fits) is in
          let b = keeps.core_answers plans r q given outputs h.1
          (given_other (one plans) (other plans) Nothing (λ node end item p q. tt) Core None given fits) is in
          ((a.0, b.0), puts_both (one plans) (other plans) Nothing (λ node end item p q. tt) Core None outputs a.1 b.1);
      lays = λ plans r ue bearer p path may h found. (kept.lays plans r ue bearer p path may h.0 found, keeps.lays plans r ue bearer p path may h.1 found);
      silent = λ plans counted. absurd counted;
    }
