-- What is asked in the worked runs is met.
use Rattle.std.proofs.Common.{◌≡◌, ◌≢◌, ℕ, ◌<◌, ◌≤◌, ◌-◌, ◌==◌, ◌&&◌, ◌||◌, Bool, true, false, nat_lt, if◌then◌else◌, List, [], ◌∷◌, take, refl, sym, true≢false, arith}
use Rattle.tables.specs.Tables.{find, put}
use Rattle.pdcp_defs.specs.Senders.{numbered as with_next, confirmed_to, confirmed_by, is_set, is_reported}
use Rattle.pdcp_defs.specs.Receivers.{is_duplicate, stored, deliver}
use Rattle.unit_defs.specs.CuUpBearers.{made}
use Rattle.law_downlink_order.specs.chain.Relay.{a, b, c, d}
use Rattle.law_downlink_order.proofs.chain.Frames.{same, apart}
use Rattle.bearer_defs.specs.uplink_defs.Models.{Member, initial}
use Rattle.bearer_defs.specs.uplink_defs.Orders.{ModelStep, after, run}
use Rattle.bearer_defs.specs.uplink_defs.Assumptions.{Feeds, IsUnfed, NoEnd, IsReady, IsAssumed, AreKept}
use Rattle.law_uplink_order.specs.uplink.Relay.{relay, cancelled}

-- ---- nobody sends on to a context

record Idle (m : Member) (y : ℕ) : Type 0 where
  no_hop : Feeds m y → ⊥

feeds : Member → ℕ → Bool
feeds m y = m.is_there && (m.flags.frozen && (m.next_hop == y))

all_true : (a b c : Bool) → a ≡ true → b ≡ true → c ≡ true → (a && (b && c)) ≡ true
all_true a b c h i j = rw (h, i, j)

idle_by : (m : Member) (y : ℕ) → feeds m y ≡ false → Idle m y
unfolding feeds
idle_by m y h = record {
  no_hop = λ (e : Feeds m y). apart (all_true m.is_there m.flags.frozen (m.next_hop == y) e.0 e.1 (same m.next_hop y e.2)) h;
}

idle_if : (b : Bool) (m n : Member) (y : ℕ) → Idle m y → Idle n y → Idle (if b then m else n) y
idle_if true m n y h k = h
idle_if false m n y h k = k

apart_numbers : (a b : ℕ) → (a == b) ≡ false → a ≢ b
apart_numbers a b h e = apart (same a b e) h

unfed : (orders : List ModelStep) (n y : ℕ) → ((x : ℕ) → Idle ((run (initial 1 10) (take n orders)).members x) y)
    → IsUnfed (run (initial 1 10) (take n orders)) y
unfed orders n y h x f = (h x).no_hop f

-- ---- a report without bits

none_set : (n i : ℕ) → is_set [] (i - n - 1) ≡ false
none_set n i = refl

reported : (fmc reached : ℕ) → fmc ≤ reached → (i : ℕ) → is_reported fmc [] i ≡ true → i < reached
reported fmc reached l i h = by (nat_lt i fmc) (nat_lt fmc i) refl h
  where
    by : (t u : Bool) → nat_lt i fmc ≡ t → (t || (u && false)) ≡ true → i < reached
    by true u t h = let o : i < fmc = grind arith in omega arith
    by false true t h = absurd (true≢false (sym h))
    by false false t h = absurd (true≢false (sym h))

pub relay_kept : AreKept (initial 1 10) relay
unfolding relay initial run AreKept IsReady IsAssumed after made
    with_next confirmed_to confirmed_by is_duplicate stored deliver find put NoEnd feeds
relay_kept =
    -- offers a
    (
      tt,
      tt,
      -- numbers a []
      (
        (refl, refl),
        tt,
        -- offers b
        (
          tt,
          tt,
          -- numbers b []
          (
            (refl, refl),
            tt,
            -- offers c
            (
              tt,
              tt,
              -- numbers c []
              (
                (refl, refl),
                tt,
                -- carries 11 0 a ((1, b) ∷ (2, c) ∷ [])
                (
                  refl,
                  (refl, tt),
                  -- takes 1 (uplink_tunnel 11) 0 a []
                  (
                    record { there = refl; open_ = refl; stands = refl; passes = refl },
                    tt,
                    -- acknowledges 0 []
                    (
                      refl,
                      tt,
                      -- carries 11 1 b ((2, c) ∷ [])
                      (
                        refl,
                        (refl, tt),
                        -- makes 2 20
                        (
                          refl,
                          unfed relay 10 2 (λ x. search (idle_if, idle_by) depth 60 fits 2000),
                          -- freezes 1 2 (hop_to 2 22)
                          (
                            (refl, refl),
                            (
                              refl,
                              record {
                                target = refl;
                                ended = refl;
                                status = refl;
                                arrived = refl;
                                released = refl;
                                forwarded = refl;
                              },
                              unfed relay 11 2 (λ x. search (idle_if, idle_by) depth 60 fits 2000),
                            ),
                            -- takes 1 (uplink_tunnel 11) 1 b []
                            (
                              record { there = refl; open_ = refl; stands = refl; passes = refl },
                              tt,
                              -- leaves
                              (
                                tt,
                                tt,
                                -- knows 2 (first_is 1)
                                (
                                  refl,
                                  refl,
                                  -- arrives 2
                                  (
                                    tt,
                                    ((refl, refl, refl), refl),
                                    -- connects
                                    (
                                      tt,
                                      tt,
                                      -- switches 2
                                      (
                                        tt,
                                        refl,
                                        -- carries 21 1 b ((2, c) ∷ [])
                                        (
                                          refl,
                                          (refl, tt),
                                          -- takes 2 (uplink_tunnel 21) 1 b []
                                          (
                                            record { there = refl; open_ = refl; stands = refl; passes = refl },
                                            tt,
                                            -- takes 2 forwarding 1 b []
                                            (
                                              record { there = refl; open_ = tt; stands = refl; passes = refl },
                                              tt,
                                              -- adds 2 24
                                              (
                                                tt,
                                                refl,
                                                -- marks 2 21
                                                (
                                                  tt,
                                                  tt,
                                                  -- carries 24 2 c []
                                                  (
                                                    refl,
                                                    (refl, tt),
                                                    -- ends_uplink 2 21 []
                                                    (
                                                      record { there = refl; open_ = refl; stands = refl; passes = refl },
                                                      tt,
                                                      -- makes 3 30
                                                      (
                                                        refl,
                                                        unfed relay 25 3 (λ x. search (idle_if, idle_by) depth 60 fits 2000),
                                                        -- freezes 2 3 (hop_to 3 32)
                                                        (
                                                          (refl, refl),
                                                          (
                                                            refl,
                                                            record {
                                                              target = refl;
                                                              ended = refl;
                                                              status = refl;
                                                              arrived = refl;
                                                              released = refl;
                                                              forwarded = refl;
                                                            },
                                                            unfed relay 26 3 (λ x. search (idle_if, idle_by) depth 60 fits 2000),
                                                          ),
                                                          -- leaves
                                                          (
                                                            tt,
                                                            tt,
                                                            -- knows 3 (first_is 2)
                                                            (
                                                              refl,
                                                              refl,
                                                              -- arrives 3
                                                              (
                                                                tt,
                                                                ((refl, refl, refl), refl),
                                                                -- takes 2 (uplink_tunnel 24) 2 c []
                                                                (
                                                                  record { there = refl; open_ = refl; stands = refl; passes = refl },
                                                                  tt,
                                                                  -- releases 1
                                                                  (
                                                                    tt,
                                                                    (refl, apart_numbers _ _ refl),
                                                                    -- marks 1 11
                                                                    (
                                                                      tt,
                                                                      tt,
                                                                      -- ends_uplink 1 11 []
                                                                      (
                                                                        record { there = refl; open_ = refl; stands = refl; passes = refl },
                                                                        tt,
                                                                        -- closes 1
                                                                        (
                                                                          (refl, refl, refl),
                                                                          tt,
                                                                          -- releases 2
                                                                          (
                                                                            tt,
                                                                            (refl, apart_numbers _ _ refl),
                                                                            -- ends_hop 2 []
                                                                            (
                                                                              record {
                                                                                there = refl;
                                                                                open_ = tt;
                                                                                stands = refl;
                                                                                passes = refl;
                                                                              },
                                                                              tt,
                                                                              -- marks 2 24
                                                                              (
                                                                                tt,
                                                                                tt,
                                                                                -- ends_uplink 2 24 []
                                                                                (
                                                                                  record {
                                                                                    there = refl;
                                                                                    open_ = refl;
                                                                                    stands = refl;
                                                                                    passes = refl;
                                                                                  },
                                                                                  tt,
                                                                                  -- closes 2
                                                                                  (
                                                                                    (refl, refl, refl),
                                                                                    tt,
                                                                                    -- switches 3
                                                                                    (
                                                                                      tt,
                                                                                      refl,
                                                                                      -- connects
                                                                                      (
                                                                                        tt,
                                                                                        tt,
                                                                                        -- takes 3 forwarding 2 c (end_marker ∷ [])
                                                                                        (
                                                                                          record {
                                                                                            there = refl;
                                                                                            open_ = tt;
                                                                                            stands = refl;
                                                                                            passes = refl;
                                                                                          },
                                                                                          tt,
                                                                                          -- ends_hop 3 []
                                                                                          (
                                                                                            record {
                                                                                              there = refl;
                                                                                              open_ = tt;
                                                                                              stands = refl;
                                                                                              passes = refl;
                                                                                            },
                                                                                            tt,
                                                                                            -- reports 2 []
                                                                                            (
                                                                                              tt,
                                                                                              reported 2 3 (omega arith),
                                                                                              -- offers d
                                                                                              (
                                                                                                tt,
                                                                                                tt,
                                                                                                -- numbers d []
                                                                                                (
                                                                                                  (refl, refl),
                                                                                                  tt,
                                                                                                  -- carries 31 1 b ((2, c) ∷ (3, d) ∷ [])
                                                                                                  (
                                                                                                    refl,
                                                                                                    (refl, tt),
                                                                                                    -- carries 31 2 c ((3, d) ∷ [])
                                                                                                    (
                                                                                                      refl,
                                                                                                      (refl, tt),
                                                                                                      -- carries 31 3 d []
                                                                                                      (
                                                                                                        refl,
                                                                                                        (refl, tt),
                                                                                                        -- takes 3 (uplink_tunnel 31) 1 b (numbered 2 c ∷ numbered 3 d ∷ [])
                                                                                                        (
                                                                                                          record {
                                                                                                            there = refl;
                                                                                                            open_ = refl;
                                                                                                            stands = refl;
                                                                                                            passes = refl;
                                                                                                          },
                                                                                                          tt,
                                                                                                          -- takes 3 (uplink_tunnel 31) 2 c (numbered 3 d ∷ [])
                                                                                                          (
                                                                                                            record {
                                                                                                              there = refl;
                                                                                                              open_ = refl;
                                                                                                              stands = refl;
                                                                                                              passes = refl;
                                                                                                            },
                                                                                                            tt,
                                                                                                            -- takes 3 (uplink_tunnel 31) 3 d []
                                                                                                            (
                                                                                                              record {
                                                                                                                there = refl;
                                                                                                                open_ = refl;
                                                                                                                stands = refl;
                                                                                                                passes = refl;
                                                                                                              },
                                                                                                              tt,
                                                                                                              -- acknowledges 1 (2 ∷ 3 ∷ [])
                                                                                                              (
                                                                                                                refl,
                                                                                                                tt,
                                                                                                                -- acknowledges 2 (3 ∷ [])
                                                                                                                (
                                                                                                                  refl,
                                                                                                                  tt,
                                                                                                                  -- acknowledges 3 []
                                                                                                                  (
                                                                                                                    refl,
                                                                                                                    tt,
                                                                                                                    tt,
                                                                                                                  ),
                                                                                                                ),
                                                                                                              ),
                                                                                                            ),
                                                                                                          ),
                                                                                                        ),
                                                                                                      ),
                                                                                                    ),
                                                                                                  ),
                                                                                                ),
                                                                                              ),
                                                                                            ),
                                                                                          ),
                                                                                        ),
                                                                                      ),
                                                                                    ),
                                                                                  ),
                                                                                ),
                                                                              ),
                                                                            ),
                                                                          ),
                                                                        ),
                                                                      ),
                                                                    ),
                                                                  ),
                                                                ),
                                                              ),
                                                            ),
                                                          ),
                                                        ),
                                                      ),
                                                    ),
                                                  ),
                                                ),
                                              ),
                                            ),
                                          ),
                                        ),
                                      ),
                                    ),
                                  ),
                                ),
                              ),
                            ),
                          ),
                        ),
                      ),
                    ),
                  ),
                ),
              ),
            ),
          ),
        ),
      ),
    )

pub relay_delivers : (run (initial 1 10) relay).delivered ≡ (0, a) ∷ (1, b) ∷ (2, c) ∷ (3, d) ∷ []
unfolding relay initial run after made with_next confirmed_to confirmed_by is_duplicate stored deliver find put
relay_delivers = refl

pub cancelled_kept : AreKept (initial 1 10) cancelled
unfolding cancelled initial run AreKept IsReady IsAssumed after made
    with_next confirmed_to confirmed_by is_duplicate stored deliver find put NoEnd feeds
cancelled_kept =
    -- offers a
    (
      tt,
      tt,
      -- numbers a []
      (
        (refl, refl),
        tt,
        -- offers b
        (
          tt,
          tt,
          -- numbers b []
          (
            (refl, refl),
            tt,
            -- carries 11 0 a ((1, b) ∷ [])
            (
              refl,
              (refl, tt),
              -- makes 2 20
              (
                refl,
                unfed cancelled 5 2 (λ x. search (idle_if, idle_by) depth 60 fits 2000),
                -- freezes 1 2 (hop_to 2 22)
                (
                  (refl, refl),
                  (
                    refl,
                    record {
                      target = refl;
                      ended = refl;
                      status = refl;
                      arrived = refl;
                      released = refl;
                      forwarded = refl;
                    },
                    unfed cancelled 6 2 (λ x. search (idle_if, idle_by) depth 60 fits 2000),
                  ),
                  -- takes 1 (uplink_tunnel 11) 0 a []
                  (
                    record { there = refl; open_ = refl; stands = refl; passes = refl },
                    tt,
                    -- knows 2 (first_is 0)
                    (
                      refl,
                      refl,
                      -- resumes 1
                      (
                        tt,
                        refl,
                        -- discards 2
                        (
                          tt,
                          (refl, apart_numbers _ _ refl),
                          -- acknowledges 0 []
                          (
                            refl,
                            tt,
                            -- leaves
                            (
                              tt,
                              tt,
                              -- connects
                              (
                                tt,
                                tt,
                                -- switches 1
                                (
                                  tt,
                                  refl,
                                  -- carries 11 1 b []
                                  (
                                    refl,
                                    (refl, tt),
                                    -- takes 1 (uplink_tunnel 11) 1 b []
                                    (
                                      record { there = refl; open_ = refl; stands = refl; passes = refl },
                                      tt,
                                      -- acknowledges 1 []
                                      (
                                        refl,
                                        tt,
                                        tt,
                                      ),
                                    ),
                                  ),
                                ),
                              ),
                            ),
                          ),
                        ),
                      ),
                    ),
                  ),
                ),
              ),
            ),
          ),
        ),
      ),
    )

pub cancelled_delivers : (run (initial 1 10) cancelled).delivered ≡ (0, a) ∷ (1, b) ∷ []
unfolding cancelled initial run after made with_next confirmed_to confirmed_by is_duplicate stored deliver find put
cancelled_delivers = refl
