-- Answers that fit: by cases, one after another, where a request or a reply is taken; and those that put control messages alone, of which
-- nothing is asked.
use Rattle.std.proofs.Common.{ℕ, Bool, true, false, not, ◌||◌, List, [], ◌∷◌, ◌++◌, Option, Some, None}
use Rattle.std.specs.Prelude.{if◌then◌else◌}
use Rattle.std.specs.List.{flat_map}
use Rattle.gnb_types.specs.declared.names.NodeId.{NodeId}
use Rattle.gnb_types.specs.declared.keys.Channel.{Channel}
use Rattle.gnb_types.specs.declared.reasons.DropReason.TheVariants.{Stale}
use Rattle.message_types.specs.declared.rrc.Token.{Token}
use Rattle.transaction_defs.specs.Callers.{is_open, is_awaited, close, Begin, begun, running, spent as begins_no_more, begin, Due}
use Rattle.transaction_defs.specs.Callees.{Verdict, new, again, stale, verdict, taken as taken_in, kept_reply}
use Rattle.unit_defs.specs.Ways.{Message, Pdu, Output, Answer, gives, spent, with_outputs, ◌then◌, nothing, drops}
use Rattle.unit_defs.specs.Transactions.{Transactions, Waiting, Asked, is_empty, waits_at, with_waiting, begun_as, begin_request, ask, advance_with, advance, ask_at_once, replied, replied_late, answered_again, request_by, on_request, on_reply}
use Rattle.transport_defs.specs.declared.ControlMessage.{ControlMessage}
use Rattle.run_defs.specs.Runs.{plain_way}
use Rattle.proof_run_steps.specs.facts.Facts.{PutFits, PutsFit}
use Rattle.proof_run_steps.proofs.facts.Within.{all_both}
use Rattle.proof_run_steps.specs.facts.UnitFacts.{UnitFacts, as_facts, AnswerFits}

module _ (facts : UnitFacts) (node : NodeId) (taken : Option ℕ) where
  pub puts_both : (os more : List (Output (Message Token) Pdu)) → PutsFit (as_facts facts) node taken os → PutsFit (as_facts facts) node taken more
      → PutsFit (as_facts facts) node taken (os ++ more)
  puts_both os more p q = all_both (PutFits (as_facts facts) node taken) os more p q

  pub fits_if : {R : Type 0} (Q : R → Type 0) (t : Bool) (x y : Answer (Message Token) Pdu R) → AnswerFits facts Q node taken x → AnswerFits facts Q node taken y
      → AnswerFits facts Q node taken (if t then x else y)
  fits_if Q true x y p q = p
  fits_if Q false x y p q = q

  pub fits_then : {R S : Type 0} (Q : R → Type 0) (T : S → Type 0) (a : Answer (Message Token) Pdu R) (f : R → Answer (Message Token) Pdu S)
      → AnswerFits facts Q node taken a → ((r : R) → Q r → AnswerFits facts T node taken (f r)) → AnswerFits facts T node taken (a then f)
  fits_then {S = S} Q T (gives os r) f p q = by (f r) (q r p.0)
    where
      by : (b : Answer (Message Token) Pdu S) → AnswerFits facts T node taken b → AnswerFits facts T node taken (with_outputs os b)
      by (gives more s) h = (h.0, puts_both os more p.1 h.1)
      by (spent k) h = tt
  fits_then Q T (spent k) f p q = tt

  abbrev pub FitsAny : {R : Type 0} → Answer (Message Token) Pdu R → Type 0
  FitsAny {R = R} a = AnswerFits facts (λ (r : R). Unit {0}) node taken a

  pub any_then : {R S : Type 0} (T : S → Type 0) (a : Answer (Message Token) Pdu R) (f : R → Answer (Message Token) Pdu S) → FitsAny a
      → ((r : R) → AnswerFits facts T node taken (f r)) → AnswerFits facts T node taken (a then f)
  any_then {R = R} T a f p q = fits_then (λ (r : R). Unit {0}) T a f p (λ r h. q r)

  -- ---- control messages alone

  module _ (any_control_message : (l : ControlMessage (Message Token)) → facts.control_message l) where
    begun_fits : (t : Transactions (Message Token) Token) (c : Channel) (w : Waiting Token) (b : Begin (Message Token)) → FitsAny (begun_as plain_way t c w b)
    begun_fits t c w (begun instance after) = (tt, (any_control_message _, tt))
    begun_fits t c w running = (tt, tt)
    begun_fits t c w begins_no_more = tt

    request_fits : (t : Transactions (Message Token) Token) (c : Channel) (w : Waiting Token) → FitsAny (begin_request plain_way t c w)
    unfolding begin_request
    request_fits t c w = begun_fits t c w (begin t.caller c w.deadline)

    pub ask_fits : (t : Transactions (Message Token) Token) (c : Channel) (w : Waiting Token) → FitsAny (ask plain_way t c w)
    unfolding ask
    ask_fits t c w =
        fits_if (λ (a : Asked (Message Token) Token). Unit {0}) (is_open t.caller c || not (is_empty (waits_at t c)))
        (nothing (record { transactions = with_waiting t c (waits_at t c ++ w ∷ []); awaited = None })) (begin_request plain_way t c w) (tt, tt)
        (request_fits t c w)

    pub advance_fits : (t : Transactions (Message Token) Token) (c : Channel) → FitsAny (advance plain_way t c)
    unfolding advance
    advance_fits t c =
        fits_if (λ (a : Asked (Message Token) Token). Unit {0}) (is_open t.caller c) (nothing (record { transactions = t; awaited = None }))
        (advance_with plain_way t c (waits_at t c)) (tt, tt) (by (waits_at t c))
      where
        by : (ws : List (Waiting Token)) → FitsAny (advance_with plain_way t c ws)
        by [] = (tt, tt)
        by (w ∷ ws) = request_fits (with_waiting t c ws) c w

    pub at_once_fits : (t : Transactions (Message Token) Token) (c : Channel) (w : Waiting Token) → FitsAny (ask_at_once plain_way t c w)
    unfolding ask_at_once
    at_once_fits t c w = request_fits (with_waiting (record t { caller = close t.caller c }) c []) c w

    pub replied_fits : (t : Transactions (Message Token) Token) (c : Channel) (m : Message Token) → FitsAny (replied plain_way t c m)
    unfolding replied
    replied_fits t c m = (tt, (any_control_message _, tt))

    pub late_fits : (t : Transactions (Message Token) Token) (c : Channel) (instance : ℕ) (m : Message Token) → FitsAny (replied_late plain_way t c instance m)
    unfolding replied_late
    late_fits t c instance m = (tt, (any_control_message _, tt))

    pub fits_request : {R : Type 0} (Q : R → Type 0) (same : R) (t : Transactions (Message Token) Token) (c : Channel) (instance : ℕ)
        (row : Transactions (Message Token) Token → Answer (Message Token) Pdu R) → Q same
        → ((u : Transactions (Message Token) Token) → AnswerFits facts Q node taken (row u)) → AnswerFits facts Q node taken (on_request plain_way same t c instance row)
    unfolding on_request
    fits_request Q same t c instance row is each = by (verdict t.callee c instance)
      where
        kept_again : (kept : Option (Message Token)) → AnswerFits facts Q node taken (answered_again plain_way same c kept)
        kept_again None = (is, tt)
        kept_again (Some m) = (is, (any_control_message _, tt))

        by : (v : Verdict) → AnswerFits facts Q node taken (request_by plain_way same t c instance row v)
        by new = each (record t { callee = taken_in t.callee c instance })
        by again = kept_again (kept_reply t.callee c)
        by stale = (is, (tt, tt))

    pub fits_reply : {R : Type 0} (Q : R → Type 0) (same : R) (t : Transactions (Message Token) Token) (c : Channel) (instance : ℕ)
        (row : Answer (Message Token) Pdu R) → Q same → AnswerFits facts Q node taken row → AnswerFits facts Q node taken (on_reply plain_way same t c instance row)
    unfolding on_reply
    fits_reply Q same t c instance row is p = fits_if Q (is_awaited t.caller c instance) row (drops Stale same) p (is, (tt, tt))

    -- requests that are due
    pub due_fits : (f : Due (Message Token) → List (Output (Message Token) Pdu)) → ((d : Due (Message Token)) → PutsFit (as_facts facts) node taken (f d))
        → (ds : List (Due (Message Token))) → PutsFit (as_facts facts) node taken (flat_map f ds)
    due_fits f each [] = tt
    due_fits f each (d ∷ ds) = puts_both (f d) (flat_map f ds) (each d) (due_fits f each ds)
