-- What is asked in the worked run is met.
use Rattle.std.proofs.Common.{◌≡◌, ◌≢◌, ℕ, ◌==◌, ◌&&◌, Bool, true, false, if◌then◌else◌, List, [], ◌∷◌, take, refl, arith}
use Rattle.gnb_types.specs.declared.names.SnBits.TheVariants.{Len12}
use Rattle.tables.specs.Tables.{find, put}
use Rattle.pdcp_defs.specs.Senders.{numbered, has_room, first, may_restore, restored, confirmed_to}
use Rattle.pdcp_defs.specs.Receivers.{is_duplicate, stored, deliver}
use Rattle.unit_defs.specs.CuUpBearers.{made}
use Rattle.bearer_defs.specs.chain_defs.Models.{Member, is_open}
use Rattle.bearer_defs.specs.chain_defs.Models as models
use Rattle.bearer_defs.specs.chain_defs.Orders as orders
use Rattle.bearer_defs.specs.chain_defs.Assumptions as guards
use Rattle.bearer_defs.specs.chain_defs.Assumptions.{Feeds, IsUnfed}
use Rattle.law_downlink_order.specs.chain.Relay.{a, b, c}
use Rattle.law_downlink_order.proofs.chain.Frames.{same, apart}
use Rattle.law_downlink_order.specs.path.Lossy.{downlink_to, du_bearer}
use Rattle.law_downlink_order.specs.path.Paths.{packets_sent}
use Rattle.law_downlink_order.specs.path.Paths as paths
use Rattle.law_downlink_order.specs.path.Steps as ways
use Rattle.law_downlink_order.specs.lossy_chain.Both.{Step, start, run, after, orders_in, offers_in, AreKept}
use Rattle.law_downlink_order.specs.lossy_chain.Lossy.{lossy}

record Idle (m : Member) (y : ℕ) : Type 0 where
  no_hop : Feeds m y → ⊥

feeds : Member → ℕ → Bool
feeds m y = m.is_there && (m.flags.frozen && (is_open m.bearer.n3 && (m.next_hop == y)))

all_true : (a b c d : Bool) → a ≡ true → b ≡ true → c ≡ true → d ≡ true → (a && (b && (c && d))) ≡ true
all_true a b c d h i j k = rw (h, i, j, k)

idle_by : (m : Member) (y : ℕ) → feeds m y ≡ false → Idle m y
unfolding feeds
idle_by m y h = record {
  no_hop = λ (e : Feeds m y). apart
      (all_true m.is_there m.flags.frozen (is_open m.bearer.n3) (m.next_hop == y) e.0 e.1 e.2 (same m.next_hop y e.3)) h;
}

idle_if : (b : Bool) (m n : Member) (y : ℕ) → Idle m y → Idle n y → Idle (if b then m else n) y
idle_if true m n y h k = h
idle_if false m n y h k = k

apart_numbers : (a b : ℕ) → (a == b) ≡ false → a ≢ b
apart_numbers a b h e = apart (same a b e) h

unfed : (steps : List Step) (n y : ℕ) → ((x : ℕ) → Idle ((run (start 1 10 (downlink_to 1) du_bearer) (take n steps)).chain.members x) y)
    → IsUnfed (run (start 1 10 (downlink_to 1) du_bearer) (take n steps)).chain y
unfed steps n y h x f = (h x).no_hop f

pub lossy_delivers : (run (start 1 10 (downlink_to 1) du_bearer) lossy).chain.delivered ≡ (0, a) ∷ (1, b) ∷ (2, c) ∷ []
unfolding lossy start models.initial paths.start run after orders.after ways.after made packets_sent numbered restored confirmed_to is_duplicate stored deliver find put
lossy_delivers = refl

pub lossy_kept : AreKept Len12 64 (offers_in lossy) (start 1 10 (downlink_to 1) du_bearer) lossy
unfolding lossy start models.initial paths.start run AreKept orders_in orders.offers_in guards.IsReady guards.IsAssumed ways.IsReady ways.IsAssumed after orders.after
    ways.after made packets_sent numbered has_room first may_restore restored confirmed_to is_duplicate stored deliver find put feeds
lossy_kept = (
  -- makes 2 true 20
  (tt, refl, unfed lossy 0 2 (λ x. search (idle_if, idle_by) depth 60 fits 2000)),
  (
    -- offers a
    (tt, tt, tt),
    (
      -- keeps_n3 1 a
      (tt, ((refl, record { there = refl; stands = refl; passes = refl }), refl), tt),
      (
        -- numbers 1 a
        (tt, (refl, refl, refl, refl, refl), tt),
        (
          -- numbers a
          (tt, refl, refl, (refl, omega arith)),
          (
            -- offers b
            (tt, tt, tt),
            (
              -- keeps_n3 1 b
              (tt, ((refl, record { there = refl; stands = refl; passes = refl }), refl), tt),
              (
                -- numbers 1 b
                (tt, (refl, refl, refl, refl, refl), tt),
                (
                  -- numbers b
                  (tt, refl, refl, (refl, omega arith)),
                  (
                    -- loses
                    (tt, refl, tt, tt),
                    (
                      -- takes
                      (tt, refl, tt, tt),
                      (
                        -- tells_loss 1
                        (tt, refl, tt),
                        (
                          -- sends_again 1
                          (tt, (refl, refl), tt),
                          (
                            -- status
                            (tt, tt, tt, tt),
                            (
                              -- takes
                              (tt, refl, tt, tt),
                              (
                                -- hears 0 a
                                refl,
                                (
                                  -- freezes 1 2
                                  (
                                    tt,
                                    (refl, refl, refl),
                                    (
                                      refl,
                                      apart_numbers _ _ refl,
                                      record {
                                        there = refl;
                                        target = refl;
                                        ended = refl;
                                        status = refl;
                                        frozen = refl;
                                        open_ = refl;
                                        unconfirmed = refl;
                                        waiting = refl;
                                        n3 = refl;
                                        forwarded = refl;
                                      },
                                      unfed lossy 16 2 (λ x. search (idle_if, idle_by) depth 60 fits 2000),
                                    ),
                                  ),
                                  (
                                    -- freezes
                                    (tt, refl, tt, tt),
                                    (
                                      -- offers c
                                      (tt, tt, tt),
                                      (
                                        -- passes_n3 1 c
                                        (tt, ((refl, record { there = refl; stands = refl; passes = refl }), refl), tt),
                                        (
                                          -- fails
                                          (tt, tt, tt, tt),
                                          (
                                            -- knows 2
                                            (tt, (refl, refl), refl),
                                            (
                                              -- arrives 2
                                              (tt, tt, (refl, refl, refl, refl)),
                                              (
                                                -- switches 2
                                                (tt, refl, (refl, omega arith)),
                                                (
                                                  -- moves 0
                                                  omega arith,
                                                  (
                                                    -- sends 2 0
                                                    (tt, (record { there = refl; stands = refl; passes = refl }, refl, refl), tt),
                                                    (
                                                      -- sends 0
                                                      (tt, refl, refl, (refl, omega arith)),
                                                      (
                                                        -- sends 2 1
                                                        (tt, (record { there = refl; stands = refl; passes = refl }, refl, refl), tt),
                                                        (
                                                          -- sends 1
                                                          (tt, refl, refl, (refl, omega arith)),
                                                          (
                                                            -- takes
                                                            (tt, refl, tt, tt),
                                                            (
                                                              -- loses
                                                              (tt, refl, tt, tt),
                                                              (
                                                                -- takes
                                                                (tt, refl, tt, tt),
                                                                (
                                                                  -- tells_loss 2
                                                                  (tt, refl, tt),
                                                                  (
                                                                    -- sends_again 2
                                                                    (tt, (refl, refl), tt),
                                                                    (
                                                                      -- status
                                                                      (tt, tt, tt, tt),
                                                                      (
                                                                        -- takes
                                                                        (tt, refl, tt, tt),
                                                                        (
                                                                          -- takes
                                                                          (tt, refl, tt, tt),
                                                                          (
                                                                            -- keeps_fresh 2 c
                                                                            (tt, (record { there = refl; stands = refl; passes = refl }, refl), tt),
                                                                            (
                                                                              -- numbers 2 c
                                                                              (tt, (refl, refl, refl, refl, refl), tt),
                                                                              (
                                                                                -- numbers c
                                                                                (tt, refl, refl, (refl, omega arith)),
                                                                                (
                                                                                  -- takes
                                                                                  (tt, refl, tt, tt),
                                                                                  (
                                                                                    -- hears 0 a
                                                                                    refl,
                                                                                    (
                                                                                      -- hears 1 b
                                                                                      refl,
                                                                                      (
                                                                                        -- hears 2 c
                                                                                        refl,
                                                                                        tt,
                                                                                      ),
                                                                                    ),
                                                                                  ),
                                                                                ),
                                                                              ),
                                                                            ),
                                                                          ),
                                                                        ),
                                                                      ),
                                                                    ),
                                                                  ),
                                                                ),
                                                              ),
                                                            ),
                                                          ),
                                                        ),
                                                      ),
                                                    ),
                                                  ),
                                                ),
                                              ),
                                            ),
                                          ),
                                        ),
                                      ),
                                    ),
                                  ),
                                ),
                              ),
                            ),
                          ),
                        ),
                      ),
                    ),
                  ),
                ),
              ),
            ),
          ),
        ),
      ),
    ),
  ),
)
