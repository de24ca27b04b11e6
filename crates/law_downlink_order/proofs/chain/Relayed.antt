-- What is asked in the worked runs is met.
use Rattle.std.proofs.Common.{◌≡◌, ◌≢◌, ℕ, ◌==◌, ◌&&◌, Bool, true, false, if◌then◌else◌, List, [], ◌∷◌, take, refl, sym, true≢false, arith}
use Rattle.gnb_types.specs.declared.names.SnBits.TheVariants.{Len12}
use Rattle.tables.specs.Tables.{find, put}
use Rattle.pdcp_defs.specs.Senders.{numbered, has_room, first, may_restore, restored, confirmed_to, confirmed_by}
use Rattle.pdcp_defs.specs.Receivers.{is_duplicate, stored, deliver}
use Rattle.unit_defs.specs.CuUpBearers.{made}
use Rattle.bearer_defs.specs.chain_defs.Models.{Member, initial, is_open}
use Rattle.bearer_defs.specs.chain_defs.Orders.{ModelStep, after, run}
use Rattle.bearer_defs.specs.chain_defs.Assumptions.{Feeds, IsUnfed, IsReady, IsAssumed, AreKept}
use Rattle.law_downlink_order.specs.chain.Relay.{relay, cancelled, a, b, c, d, e}
use Rattle.law_downlink_order.proofs.chain.Frames.{same, apart}

record Idle (m : Member) (y : ℕ) : Type 0 where
  no_hop : Feeds m y → ⊥

feeds : Member → ℕ → Bool
feeds m y = m.is_there && (m.flags.frozen && (is_open m.bearer.n3 && (m.next_hop == y)))

all_true : (a b c d : Bool) → a ≡ true → b ≡ true → c ≡ true → d ≡ true → (a && (b && (c && d))) ≡ true
all_true a b c d h i j k = rw (h, i, j, k)

idle_by : (m : Member) (y : ℕ) → feeds m y ≡ false → Idle m y
unfolding feeds
idle_by m y h = record {
  no_hop = λ (e : Feeds m y). apart
      (all_true m.is_there m.flags.frozen (is_open m.bearer.n3) (m.next_hop == y) e.0 e.1 e.2 (same m.next_hop y e.3)) h;
}

idle_if : (b : Bool) (m n : Member) (y : ℕ) → Idle m y → Idle n y → Idle (if b then m else n) y
idle_if true m n y h k = h
idle_if false m n y h k = k

apart_numbers : (a b : ℕ) → (a == b) ≡ false → a ≢ b
apart_numbers a b h e = apart (same a b e) h

unfed : (orders : List ModelStep) (n y : ℕ) → ((x : ℕ) → Idle ((run (initial 1 10) (take n orders)).members x) y)
    → IsUnfed (run (initial 1 10) (take n orders)) y
unfed orders n y h x f = (h x).no_hop f

pub relay_kept : AreKept Len12 64 (initial 1 10) relay
unfolding relay initial run AreKept IsReady IsAssumed after made numbered has_room first may_restore restored confirmed_to is_duplicate
    stored deliver find put feeds
relay_kept =
    -- makes 2 true 20
    (
      refl,
      unfed relay 0 2 (λ x. search (idle_if, idle_by) depth 60 fits 2000),
      -- makes 3 true 30
      (
        refl,
        unfed relay 1 3 (λ x. search (idle_if, idle_by) depth 60 fits 2000),
        -- offers a
        (
          tt,
          tt,
          -- offers b
          (
            tt,
            tt,
            -- keeps_n3 1 a (fresh b ∷ [])
            (
              ((refl, record { there = refl; stands = refl; passes = refl }), refl),
              tt,
              -- numbers 1 a []
              (
                (refl, refl, refl, refl, refl),
                tt,
                -- keeps_n3 1 b []
                (
                  ((refl, record { there = refl; stands = refl; passes = refl }), refl),
                  tt,
                  -- numbers 1 b []
                  (
                    (refl, refl, refl, refl, refl),
                    tt,
                    -- carries 0 a ((1, b) ∷ [])
                    (
                      refl,
                      tt,
                      -- confirms 1 0
                      (
                        refl,
                        omega arith,
                        -- freezes 1 2 (hop_to 2 22)
                        (
                          (refl, refl, refl),
                          (
                            refl,
                            apart_numbers _ _ refl,
                            record {
                              there = refl;
                              target = refl;
                              ended = refl;
                              status = refl;
                              frozen = refl;
                              open_ = refl;
                              unconfirmed =
                                  refl;
                              waiting = refl;
                              n3 = refl;
                              forwarded = refl;
                            },
                            unfed relay 10 2
                                (λ x. search (idle_if, idle_by) depth 60 fits 2000),
                          ),
                          -- offers c
                          (
                            tt,
                            tt,
                            -- passes_n3 1 c []
                            (
                              ((refl, record { there = refl; stands = refl; passes = refl }), refl),
                              tt,
                              -- knows 2 (next_is 2)
                              (
                                (refl, refl),
                                refl,
                                -- arrives 2
                                (
                                  tt,
                                  (refl, refl, refl, refl),
                                  -- switches 2 (downlink_to 5) 1
                                  (
                                    refl,
                                    (refl, omega arith),
                                    -- sends 2 1 b (fresh c ∷ [])
                                    (
                                      (record { there = refl; stands = refl; passes = refl }, refl, refl),
                                      tt,
                                      -- carries 1 b []
                                      (
                                        refl,
                                        tt,
                                        -- switches_path 2
                                        (
                                          tt,
                                          (refl, refl, refl),
                                          -- offers d
                                          (
                                            tt,
                                            tt,
                                            -- freezes 2 3 (hop_to 3 32)
                                            (
                                              (refl, refl, refl),
                                              (
                                                refl,
                                                apart_numbers _ _ refl,
                                                record {
                                                  there = refl;
                                                  target = refl;
                                                  ended = refl;
                                                  status = refl;
                                                  frozen = refl;
                                                  open_ =
                                                      refl;
                                                  unconfirmed = refl;
                                                  waiting = refl;
                                                  n3 = refl;
                                                  forwarded = refl;
                                                },
                                                unfed relay 20 3
                                                    (λ x. search (idle_if, idle_by) depth 60 fits 2000),
                                              ),
                                              -- passes_fresh 2 c []
                                              (
                                                (record { there = refl; stands = refl; passes = refl }, refl),
                                                tt,
                                                -- knows 3 (next_is 2)
                                                (
                                                  (refl, refl),
                                                  refl,
                                                  -- arrives 3
                                                  (
                                                    tt,
                                                    (refl, refl, refl, refl),
                                                    -- switches 3 (downlink_to 6) 2
                                                    (
                                                      refl,
                                                      (refl, omega arith),
                                                      -- switches_path 3
                                                      (
                                                        tt,
                                                        (refl, refl, refl),
                                                        -- offers e
                                                        (
                                                          tt,
                                                          tt,
                                                          -- ends_n3 1 []
                                                          (
                                                            ((refl, record { there = refl; stands = refl; passes = refl }), refl),
                                                            tt,
                                                            -- ends_hop 2 []
                                                            (
                                                              record { there = refl; stands = refl; passes = refl },
                                                              tt,
                                                              -- passes_n3 2 d (end_marker ∷ [])
                                                              (
                                                                ((refl, record { there = refl; stands = refl; passes = refl }), refl),
                                                                tt,
                                                                -- ends_n3 2 []
                                                                (
                                                                  ((refl, record { there = refl; stands = refl; passes = refl }), refl),
                                                                  tt,
                                                                  -- releases 1
                                                                  (
                                                                    refl,
                                                                    (refl, apart_numbers _ _ refl),
                                                                    -- closes 1
                                                                    (
                                                                      tt,
                                                                      λ open_. absurd (true≢false (sym open_)),
                                                                      -- sends 3 1 b (fresh c ∷ fresh d ∷ end_marker ∷ [])
                                                                      (
                                                                        (record { there = refl; stands = refl; passes = refl }, refl, refl),
                                                                        tt,
                                                                        -- keeps_fresh 3 c (fresh d ∷ end_marker ∷ [])
                                                                        (
                                                                          (record { there = refl; stands = refl; passes = refl }, refl),
                                                                          tt,
                                                                          -- numbers 3 c []
                                                                          (
                                                                            (refl, refl, refl, refl, refl),
                                                                            tt,
                                                                            -- keeps_fresh 3 d (end_marker ∷ [])
                                                                            (
                                                                              (record { there = refl; stands = refl; passes = refl }, refl),
                                                                              tt,
                                                                              -- numbers 3 d []
                                                                              (
                                                                                (refl, refl, refl, refl, refl),
                                                                                tt,
                                                                                -- ends_hop 3 []
                                                                                (
                                                                                  record { there = refl; stands = refl; passes = refl },
                                                                                  tt,
                                                                                  -- keeps_n3 3 e []
                                                                                  (
                                                                                    (
                                                                                      (
                                                                                        refl,
                                                                                        record
                                                                                            { there = refl; stands = refl; passes = refl },
                                                                                      ),
                                                                                      refl,
                                                                                    ),
                                                                                    tt,
                                                                                    -- numbers 3 e []
                                                                                    (
                                                                                      (refl, refl, refl, refl, refl),
                                                                                      tt,
                                                                                      -- carries 1 b ((2, c) ∷ (3, d) ∷ (4, e) ∷ [])
                                                                                      (
                                                                                        refl,
                                                                                        tt,
                                                                                        -- carries 2 c ((3, d) ∷ (4, e) ∷ [])
                                                                                        (
                                                                                          refl,
                                                                                          tt,
                                                                                          -- carries 3 d ((4, e) ∷ [])
                                                                                          (
                                                                                            refl,
                                                                                            tt,
                                                                                            -- carries 4 e []
                                                                                            (
                                                                                              refl,
                                                                                              tt,
                                                                                              tt,
                                                                                            ),
                                                                                          ),
                                                                                        ),
                                                                                      ),
                                                                                    ),
                                                                                  ),
                                                                                ),
                                                                              ),
                                                                            ),
                                                                          ),
                                                                        ),
                                                                      ),
                                                                    ),
                                                                  ),
                                                                ),
                                                              ),
                                                            ),
                                                          ),
                                                        ),
                                                      ),
                                                    ),
                                                  ),
                                                ),
                                              ),
                                            ),
                                          ),
                                        ),
                                      ),
                                    ),
                                  ),
                                ),
                              ),
                            ),
                          ),
                        ),
                      ),
                    ),
                  ),
                ),
              ),
            ),
          ),
        ),
      ),
    )

pub relay_delivers : (run (initial 1 10) relay).delivered ≡ (0, a) ∷ (1, b) ∷ (2, c) ∷ (3, d) ∷ (4, e) ∷ []
unfolding relay initial run after made numbered restored confirmed_to is_duplicate stored deliver find put
relay_delivers = refl

pub cancelled_kept : AreKept Len12 64 (initial 1 10) cancelled
unfolding cancelled initial run AreKept IsReady IsAssumed after made numbered has_room first may_restore restored confirmed_to confirmed_by
    is_duplicate stored deliver find put feeds
cancelled_kept =
    -- makes 2 true 20
    (
      refl,
      unfed cancelled 0 2 (λ x. search (idle_if, idle_by) depth 60 fits 2000),
      -- offers a
      (
        tt,
        tt,
        -- offers b
        (
          tt,
          tt,
          -- keeps_n3 1 a (fresh b ∷ [])
          (
            ((refl, record { there = refl; stands = refl; passes = refl }), refl),
            tt,
            -- numbers 1 a []
            (
              (refl, refl, refl, refl, refl),
              tt,
              -- keeps_n3 1 b []
              (
                ((refl, record { there = refl; stands = refl; passes = refl }), refl),
                tt,
                -- numbers 1 b []
                (
                  (refl, refl, refl, refl, refl),
                  tt,
                  -- fails
                  (
                    tt,
                    tt,
                    -- switches 1 (downlink_to 5) 1
                    (
                      refl,
                      (refl, omega arith),
                      -- carries 0 a ((1, b) ∷ [])
                      (
                        refl,
                        tt,
                        -- reports 1 1 []
                        (
                          refl,
                          (omega arith, refl),
                          -- freezes 1 2 (hop_to 2 22)
                          (
                            (refl, refl, refl),
                            (
                              refl,
                              apart_numbers _ _ refl,
                              record {
                                there = refl;
                                target = refl;
                                ended = refl;
                                status = refl;
                                frozen = refl;
                                open_ =
                                    refl;
                                unconfirmed = refl;
                                waiting = refl;
                                n3 = refl;
                                forwarded = refl;
                              },
                              unfed cancelled 11 2
                                  (λ x. search (idle_if, idle_by) depth 60 fits 2000),
                            ),
                            -- offers c
                            (
                              tt,
                              tt,
                              -- passes_n3 1 c []
                              (
                                ((refl, record { there = refl; stands = refl; passes = refl }), refl),
                                tt,
                                -- tells_loss 1
                                (
                                  refl,
                                  tt,
                                  -- knows 2 (next_is 2)
                                  (
                                    (refl, refl),
                                    refl,
                                    -- resumes 1
                                    (
                                      (refl, refl),
                                      refl,
                                      -- numbers 1 c []
                                      (
                                        (refl, refl, refl, refl, refl),
                                        tt,
                                        -- sends_again 1
                                        (
                                          (refl, refl),
                                          tt,
                                          -- closes 2
                                          (
                                            tt,
                                            λ _. (apart_numbers _ _ refl, apart_numbers _ _ refl),
                                            -- carries 1 b ((1, b) ∷ (2, c) ∷ (1, b) ∷ (2, c) ∷ [])
                                            (
                                              refl,
                                              tt,
                                              -- carries 1 b ((2, c) ∷ (1, b) ∷ (2, c) ∷ [])
                                              (
                                                refl,
                                                tt,
                                                -- carries 2 c ((1, b) ∷ (2, c) ∷ [])
                                                (
                                                  refl,
                                                  tt,
                                                  -- carries 1 b ((2, c) ∷ [])
                                                  (
                                                    refl,
                                                    tt,
                                                    -- carries 2 c []
                                                    (
                                                      refl,
                                                      tt,
                                                      tt,
                                                    ),
                                                  ),
                                                ),
                                              ),
                                            ),
                                          ),
                                        ),
                                      ),
                                    ),
                                  ),
                                ),
                              ),
                            ),
                          ),
                        ),
                      ),
                    ),
                  ),
                ),
              ),
            ),
          ),
        ),
      ),
    )

pub cancelled_delivers : (run (initial 1 10) cancelled).delivered ≡ (0, a) ∷ (1, b) ∷ (2, c) ∷ []
unfolding cancelled initial run after made numbered restored confirmed_to confirmed_by is_duplicate stored deliver find put
cancelled_delivers = refl
