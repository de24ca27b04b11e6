-- Projections that two states have in common: what leaves the others leaves each of them.
use Rattle.std.proofs.Common.{refl, sym, ◌∙◌}
use Rattle.std.specs.Prelude.{◌≢◌}
use Rattle.gnb_types.specs.declared.names.UeId.{UeId}
use Rattle.run_defs.specs.States.{State}
use Rattle.law_terminals_are_isolated.specs.own_steps.Own.{LeavesOthers}
use Rattle.law_terminals_are_isolated.specs.all_steps.Projections.{ShareProjection}

module _ {M C L P : Type 0} (ue : UeId) where
  abbrev Share : State M C L P → State M C L P → Type 0
  Share s t = ShareProjection ue s t

  pub share_same : (s : State M C L P) → Share s s
  share_same s = record {
    units = refl;
    tunnels = λ gnb number. refl;
    core = refl;
    control_messages = refl;
    items = λ end key is. refl;
    radios = λ key is. refl;
    books = λ key is. refl;
    connected = refl;
    plan = refl;
  }

  pub share_back : (s t : State M C L P) → Share s t → Share t s
  share_back s t h = record {
    units = sym h.units;
    tunnels = λ gnb number. sym (h.tunnels gnb number);
    core = sym h.core;
    control_messages = sym h.control_messages;
    items = λ end key is. sym (h.items end key is);
    radios = λ key is. sym (h.radios key is);
    books = λ key is. sym (h.books key is);
    connected = sym h.connected;
    plan = sym h.plan;
  }

  pub share_then : (s t u : State M C L P) → Share s t → Share t u → Share s u
  share_then s t u p q = record {
    units = p.units ∙ q.units;
    tunnels = λ gnb number. p.tunnels gnb number ∙ q.tunnels gnb number;
    core = p.core ∙ q.core;
    control_messages = p.control_messages ∙ q.control_messages;
    items = λ end key is. p.items end key is ∙ q.items end key is;
    radios = λ key is. p.radios key is ∙ q.radios key is;
    books = λ key is. p.books key is ∙ q.books key is;
    connected = p.connected ∙ q.connected;
    plan = p.plan ∙ q.plan;
  }

  pub share_left : (who : UeId) (s t : State M C L P) → ue ≢ who → LeavesOthers who s t → Share s t
  share_left who s t apart h = record {
    units = sym (h.units ue apart);
    tunnels = λ gnb number. sym (h.tunnels gnb number ue apart);
    core = sym (h.core ue apart);
    control_messages = sym (h.beside.control_messages ue apart);
    items = λ end key is. sym (h.beside.tunnels end key (λ e. apart (sym is ∙ e)));
    radios = λ key is. sym (h.beside.radios key (λ e. apart (sym is ∙ e)));
    books = λ key is. sym (h.beside.books key (λ e. apart (sym is ∙ e)));
    connected = sym (h.beside.connected ue apart);
    plan = sym (h.beside.plans ue apart);
  }
