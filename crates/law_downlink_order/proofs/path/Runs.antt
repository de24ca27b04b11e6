-- What holds at the start and is kept by each step holds after every list of steps.
use Rattle.std.proofs.Common.{◌≡◌, ℕ, suc, ◌+◌, ◌≤◌, Bool, true, false, List, [], ◌∷◌, length, refl, sym, ap, subst, ◌∙◌, arith}
use Rattle.std.specs.Prelude.{⊤}
use Rattle.intervals.specs.Intervals.{segment, upto, HasNoGap, reach}
use Rattle.pdcp_defs.specs.Receivers.{Delivery, is_duplicate, stored, deliver}
use Rattle.unit_defs.specs.CuUpRecords.{DownlinkTunnel}
use Rattle.unit_defs.specs.CuUpBearers.{made}
use Rattle.unit_defs.specs.Du.{DuBearer}
use Rattle.law_downlink_order.proofs.chain.Runs.{stream}
use Rattle.law_downlink_order.specs.path.Paths.{Path, start}
use Rattle.law_downlink_order.specs.path.Steps.{Step, numbers, sends, keeps, polls, reports, status, confirms, freezes, resumes, fails, begins_anew, loses, takes, carries, handed, after, run, packets_in, IsReady, IsAssumed, AreKept}
use Rattle.law_downlink_order.proofs.path.Facts.{Stands, Marked, Kept}
use Rattle.law_downlink_order.proofs.path.Senders.{kept_numbers, kept_sends, kept_keeps, kept_polls, kept_reports, kept_status, kept_confirms}
use Rattle.law_downlink_order.proofs.path.Control.{kept_freezes, kept_resumes, kept_fails, kept_begins_anew}
use Rattle.law_downlink_order.proofs.path.Takes.{kept_loses, kept_takes}
use Rattle.law_downlink_order.proofs.path.Carries.{kept_carries}

-- the packets from a place on are those of p
abbrev pub Agrees : (ℕ → List ℕ) → ℕ → List (List ℕ) → Type 0
Agrees p n xs = (i : ℕ) → p (n + i) ≡ stream xs i

agrees_first : (p : ℕ → List ℕ) (n : ℕ) (x : List ℕ) (xs : List (List ℕ)) → Agrees p n (x ∷ xs) → (x ≡ p n) × Agrees p (n + 1) xs
unfolding stream
agrees_first p n x xs h =
    let e : n + 0 ≡ n = omega arith in
    (sym (h 0) ∙ ap p e, λ i. (let f : n + 1 + i ≡ n + suc i = omega arith in ap p f ∙ h (suc i)))

-- the packets that a step brings are those of p
unfoldable pub Comes : (ℕ → List ℕ) → Path → Step → Type 0
Comes p s (numbers packet) = packet ≡ p s.comes
Comes p s (sends count packet) = packet ≡ p s.comes
Comes p s (keeps count packet) = packet ≡ p s.comes
Comes p s o = ⊤

pub kept_step : (p : ℕ → List ℕ) (base : ℕ) (s : Path) (k : Kept p base s) (o : Step) → IsReady s o → IsAssumed s o → Comes p s o → Kept p base (after s o)
unfolding IsReady IsAssumed Comes
kept_step p base s k (numbers packet) r d is = kept_numbers p base s k packet r d is
kept_step p base s k (sends count packet) r d is = kept_sends p base s k count packet r d is
kept_step p base s k (keeps count packet) r d is = kept_keeps p base s k count packet r d is
kept_step p base s k polls r d is = kept_polls p base s k
kept_step p base s k (reports fmc bits) r d is = kept_reports p base s k fmc bits
kept_step p base s k (status lost delivered) r d is = kept_status p base s k lost delivered d
kept_step p base s k (confirms fmc bits) r d is = kept_confirms p base s k fmc bits d.0 d.1
kept_step p base s k (freezes hop) r d is = kept_freezes p base s k hop r
kept_step p base s k resumes r d is = kept_resumes p base s k r
kept_step p base s k fails r d is = kept_fails p base s k
kept_step p base s k (begins_anew downlink fmc bits) r d is = kept_begins_anew p base s k downlink fmc bits
kept_step p base s k (loses before frame rest) r d is = kept_loses p base s k before frame rest r
kept_step p base s k (takes frame rest) r d is = kept_takes p base s k frame rest r
kept_step p base s k (carries count packet rest) r d is = kept_carries p base s k count packet rest r

was_received : (s : Path) (rest : List (ℕ × List ℕ)) (b : Bool) (d : Delivery (List ℕ)) → (handed (record s { air = rest }) b d).comes ≡ s.comes
was_received s rest true d = refl
was_received s rest false d = refl

-- what a step brings, and what is left to come
comes_after : (p : ℕ → List ℕ) (s : Path) (o : Step) (os : List Step) → Agrees p s.comes (packets_in (o ∷ os))
    → Comes p s o × Agrees p (after s o).comes (packets_in os)
unfolding after packets_in Comes
comes_after p s (numbers packet) os h = agrees_first p s.comes packet (packets_in os) h
comes_after p s (sends count packet) os h = agrees_first p s.comes packet (packets_in os) h
comes_after p s (keeps count packet) os h = agrees_first p s.comes packet (packets_in os) h
comes_after p s (carries count packet rest) os h = (
  tt,
  subst (λ n. Agrees p n (packets_in os))
      (sym (was_received s rest (is_duplicate s.terminal count) (deliver (stored s.terminal count packet)))) h,
)
comes_after p s _ os h = (tt, h)

counts_after : (s : Path) (o : Step) (os : List Step) → (after s o).comes + length (packets_in os) ≡ s.comes + length
    (packets_in (o ∷ os))
unfolding after packets_in
counts_after s (numbers packet) os = omega arith
counts_after s (sends count packet) os = omega arith
counts_after s (keeps count packet) os = omega arith
counts_after s (carries count packet rest) os = ap (λ n. n + length (packets_in os))
    (was_received s rest (is_duplicate s.terminal count) (deliver (stored s.terminal count packet)))
counts_after s _ os = refl

pub all_come : (s : Path) (os : List Step) → (run s os).comes ≡ s.comes + length (packets_in os)
unfolding run packets_in
all_come s [] = omega arith
all_come s (o ∷ os) = all_come (after s o) os ∙ counts_after s o os

pub kept_run : (p : ℕ → List ℕ) (base : ℕ) (s : Path) (os : List Step) → Kept p base s → AreKept s os → Agrees p s.comes (packets_in os)
    → Kept p base (run s os)
unfolding run AreKept
kept_run p base s [] k a h = k
kept_run p base s (o ∷ os) k a h =
    let e = comes_after p s o os h in
    kept_run p base (after s o) os (kept_step p base s k o a.0 a.1 e.0) a.2 e.1

pub kept_start : (p : ℕ → List ℕ) (first : ℕ) (d : DownlinkTunnel) (du : DuBearer) → Kept p 0 (start first d du)
unfolding start made reach HasNoGap upto segment Stands Marked
kept_start p first d du = record {
  low = 0;
  sent = 0;
  holds = record {
    unconfirmed_are = refl;
    low_comes = none;
    low_deliv = none;
    sent_comes = none;
    all_sent = λ _. (refl, refl);
    taken_are = λ _. refl;
  };
  speaks = record {
    need = λ _. 0;
    downlink = record d { next = 0 };
    there = refl;
    line = record { stands = none; taken = λ _ _. none };
    marked = λ _. none;
  };
  radio = record { no_gap = tt; packets = tt; reached_limit = omega arith; delivered_are = refl; none_stored = refl };
}
  where
    none : 0 ≤ 0
    none = omega arith
