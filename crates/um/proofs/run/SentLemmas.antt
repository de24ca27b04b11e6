-- Messages on the link.
use Rattle.std.proofs.Common.{◌≡◌, ◌==◌, ℕ, ◌+◌, ◌-◌, ◌<◌, ◌≤◌, min, nat_lt, is_some, List, [], ◌∷◌, length, Option, Some, None, refl, ap, ◌∙◌, subst, arith, Bool, true, false, cond, not}
use Rattle.std.specs.Cmp.{ranks}
use Rattle.std.specs.Ordering.{nat_cmp, is_eq, match_ordering, MatchOrdering}
use Rattle.std.specs.declared.cmp.Ordering.{Ordering}
use Rattle.std.specs.declared.cmp.Ordering.TheVariants.{Less, Equal, Greater}
use Rattle.std.specs.List.{filter}
use Rattle.std.specs.Map.{lookup}
use Rattle.std.specs.BTreeMap.{is_at, insert_entry}
use Rattle.tables.specs.Tables.{find, put, without, first_entry}
use Rattle.pdcp.specs.declared.pdu.TheConstants.{PACKET_LIMIT}
use Rattle.std.proofs.lemmas.Bool.Decides.{nat_tests}
use Rattle.gnb_types.specs.declared.reasons.RefuseReason.TheVariants.{NoSuch}
use Rattle.um_defs.specs.um_run_defs.Run.{UmRun, UmOutcome, of_message, on_link, refused, least_on_link, span}
use Rattle.um.specs.run.inside.Views.{AreSent}

pub more_sent : (puts : ℕ) (es : List (ℕ × List ℕ)) → AreSent puts es → AreSent (puts + 1) es
more_sent puts [] sent = tt
more_sent puts (e ∷ es) sent = ((sent.0.0, sent.0.1, sent.0.2, omega (arith, sent.0.3)), more_sent puts es sent.1)

pub sent_put : (puts : ℕ) (es : List (ℕ × List ℕ)) (k : ℕ) (packet : List ℕ) → AreSent puts es → 1 ≤ length packet → length packet ≤ PACKET_LIMIT
    → 1 ≤ k → k ≤ puts → AreSent puts (put nat_cmp es k packet)
unfolding put
sent_put puts [] k packet sent least most one last = ((least, most, one, last), tt)
sent_put puts (e ∷ es) k packet sent least most one last = by (nat_cmp k e.0) (sent_put puts es k packet sent.1 least most one last)
  where
    by : (r : Ordering) → AreSent puts (insert_entry nat_cmp es k packet)
        → AreSent puts (match_ordering r ((k, packet) ∷ e ∷ es) ((e.0, packet) ∷ es) (e ∷ insert_entry nat_cmp es k packet))
    by Less later = ((least, most, one, last), sent)
    by Equal later = ((least, most, sent.0.2, sent.0.3), sent.1)
    by Greater later = (sent.0, later)

pub sent_without : (puts : ℕ) (es : List (ℕ × List ℕ)) (k : ℕ) → AreSent puts es → AreSent puts (without nat_cmp es k)
unfolding without
sent_without puts [] k sent = tt
sent_without puts (e ∷ es) k sent = by (is_at (nat_cmp k) e.0) (sent_without puts es k sent.1)
  where
    by : (b : Bool) → AreSent puts (filter (λ f. not (is_at (nat_cmp k) f.0)) es)
        → AreSent puts (cond (not b) (e ∷ filter (λ f. not (is_at (nat_cmp k) f.0)) es) (filter (λ f. not (is_at (nat_cmp k) f.0)) es))
    by true later = later
    by false later = (sent.0, later)

pub sent_find : (puts : ℕ) (es : List (ℕ × List ℕ)) (k : ℕ) (packet : List ℕ) → AreSent puts es → find nat_cmp es k ≡ Some packet
    → (1 ≤ length packet) × (length packet ≤ PACKET_LIMIT)
unfolding find
sent_find puts [] k packet sent h = absurd (cc)
sent_find puts (e ∷ es) k packet sent h = by (nat_cmp k e.0) h (sent_find puts es k packet sent.1)
  where
    by : (r : Ordering) → cond (is_eq r) (Some e.1) (lookup (is_at (nat_cmp k)) es) ≡ Some packet
        → (lookup (is_at (nat_cmp k)) es ≡ Some packet → (1 ≤ length packet) × (length packet ≤ PACKET_LIMIT))
        → (1 ≤ length packet) × (length packet ≤ PACKET_LIMIT)
    by Less h later = later h
    by Equal h later =
        let value : e.1 ≡ packet = cc in
        subst (λ (p : List ℕ). (1 ≤ length p) × (length p ≤ PACKET_LIMIT)) value (sent.0.0, sent.0.1)
    by Greater h later = later h

-- ---- what an event of a message comes to

not_less : (a b : ℕ) → b ≤ a → nat_lt a b ≡ false
not_less a b h = grind (arith, nat_tests)

pub is_there : (number : ℕ) (s : UmRun) → number ≤ s.puts → is_some (find nat_cmp s.flight number) ≡ true
    → (packet : List ℕ) × (find nat_cmp s.flight number ≡ Some packet) × ((go : List ℕ → UmOutcome) → of_message number s go ≡ go packet)
is_there number s h there = by (find nat_cmp s.flight number) refl there
  where
    by : (o : Option (List ℕ)) → find nat_cmp s.flight number ≡ o → is_some o ≡ true
        → (packet : List ℕ) × (find nat_cmp s.flight number ≡ Some packet) × ((go : List ℕ → UmOutcome) → of_message number s go ≡ go packet)
    by None is there = absurd (cc)
    by (Some packet) is there = (
      packet,
      is,
      λ go.
          ap (λ b. cond b (refused NoSuch s) (on_link number s go (find nat_cmp s.flight number))) (not_less s.puts number h)
          ∙ ap (on_link number s go) is,
    )

-- ---- how many COUNTs are outstanding

pub least_none : (deliv : ℕ) (es : List (ℕ × List ℕ)) → None ≡ first_entry es → least_on_link deliv es ≡ deliv
unfolding first_entry
least_none deliv [] is = refl
least_none deliv (e ∷ es) is = absurd (cc)

pub least_some : (deliv number : ℕ) (packet : List ℕ) (es : List (ℕ × List ℕ)) → Some (number, packet) ≡ first_entry es
    → least_on_link deliv es ≡ min deliv (number - 1)
unfolding first_entry
least_some deliv number packet [] is = absurd (cc)
least_some deliv number packet (e ∷ es) is = let at : e.0 ≡ number = cc in ap (λ n. min deliv (n - 1)) at

pub span_is : (s : UmRun) (least : ℕ) → (s.puts ≡ 0 → ⊥) → least_on_link s.entity.receiver.deliv s.flight ≡ least → span s ≡ s.puts - least
unfolding span
span_is s least some is = ap (λ b. cond b 0 (s.puts - least_on_link s.entity.receiver.deliv s.flight)) (not_zero s.puts some) ∙ ap (λ n. s.puts - n) is
  where
    not_zero : (a : ℕ) → (a ≡ 0 → ⊥) → (a == 0) ≡ false
    not_zero a h = grind (arith, nat_tests)
