-- What is asked in the worked run is met.
use Rattle.std.proofs.Common.{◌≡◌, [], ◌∷◌, refl, arith}
use Rattle.tables.specs.Tables.{find, put}
use Rattle.pdcp_defs.specs.Senders.{numbered, restored, confirmed_to, confirmed_by}
use Rattle.pdcp_defs.specs.Receivers.{is_duplicate, stored, deliver}
use Rattle.unit_defs.specs.CuUpBearers.{made}
use Rattle.law_downlink_order.specs.path.Paths.{packets_sent, start}
use Rattle.law_downlink_order.specs.path.Steps.{after, run, IsReady, IsAssumed, AreKept}
use Rattle.law_downlink_order.specs.path.Lossy.{lossy, downlink_to, du_bearer, a, b, c, d}

pub lossy_delivers : (run (start 1 (downlink_to 1) du_bearer) lossy).delivered ≡ (0, a) ∷ (1, b) ∷ (2, c) ∷ (3, d) ∷ []
unfolding lossy start run after made packets_sent numbered restored confirmed_to confirmed_by is_duplicate stored deliver find put
lossy_delivers = refl

pub lossy_kept : AreKept (start 1 (downlink_to 1) du_bearer) lossy
unfolding lossy start run AreKept IsReady IsAssumed after made packets_sent numbered restored confirmed_to confirmed_by is_duplicate stored
    deliver find put
lossy_kept =
    -- numbers a
    (
      refl,
      refl,
      -- numbers b
      (
        refl,
        refl,
        -- numbers c
        (
          refl,
          refl,
          -- loses [] (data_frame false 0 0 a) (data_frame false 1 1 b ∷ data_frame false 2 2 c ∷ [])
          (
            refl,
            tt,
            -- takes (data_frame false 1 1 b) (data_frame false 2 2 c ∷ [])
            (
              refl,
              tt,
              -- status ((0, 0) ∷ []) None
              (
                tt,
                tt,
                -- takes (data_frame false 2 2 c) and the rest
                (
                  refl,
                  tt,
                  -- takes (data_frame true 3 0 a) (data_frame false 4 1 b ∷ data_frame false 5 2 c ∷ [])
                  (
                    refl,
                    tt,
                    -- takes (data_frame false 4 1 b) (data_frame false 5 2 c ∷ [])
                    (
                      refl,
                      tt,
                      -- carries 0 a ((1, b) ∷ [])
                      (
                        refl,
                        tt,
                        -- carries 1 b []
                        (
                          refl,
                          tt,
                          -- status [] (Some 0)
                          (
                            tt,
                            omega arith,
                            -- loses [] (data_frame false 5 2 c) []
                            (
                              refl,
                              tt,
                              -- polls
                              (
                                tt,
                                tt,
                                -- takes (poll_frame 6) []
                                (
                                  refl,
                                  tt,
                                  -- status ((5, 5) ∷ []) None
                                  (
                                    tt,
                                    tt,
                                    -- takes (data_frame true 7 1 b) (data_frame false 8 2 c ∷ [])
                                    (
                                      refl,
                                      tt,
                                      -- takes (data_frame false 8 2 c) []
                                      (
                                        refl,
                                        tt,
                                        -- carries 1 b ((2, c) ∷ [])
                                        (
                                          refl,
                                          tt,
                                          -- carries 2 c []
                                          (
                                            refl,
                                            tt,
                                            -- confirms 2 []
                                            (
                                              tt,
                                              (omega arith, refl),
                                              -- freezes hop
                                              (
                                                refl,
                                                tt,
                                                -- keeps 3 d
                                                (
                                                  refl,
                                                  refl,
                                                  -- status ((9, 9) ∷ []) None
                                                  (
                                                    tt,
                                                    tt,
                                                    -- resumes
                                                    (
                                                      refl,
                                                      tt,
                                                      -- loses (data_frame true 9 2 c ∷ []) (data_frame false 10 3 d) []
                                                      (
                                                        refl,
                                                        tt,
                                                        -- takes (data_frame true 9 2 c) []
                                                        (
                                                          refl,
                                                          tt,
                                                          -- fails
                                                          (
                                                            tt,
                                                            tt,
                                                            -- begins_anew (downlink_to 7) 0 []
                                                            (
                                                              tt,
                                                              tt,
                                                              -- takes (report_frame 0) and the rest
                                                              (
                                                                refl,
                                                                tt,
                                                                -- takes (data_frame false 1 2 c) and the rest
                                                                (
                                                                  refl,
                                                                  tt,
                                                                  -- takes (data_frame false 2 3 d) []
                                                                  (
                                                                    refl,
                                                                    tt,
                                                                    -- carries 2 c ((3, d) ∷ [])
                                                                    (
                                                                      refl,
                                                                      tt,
                                                                      -- carries 3 d []
                                                                      (
                                                                        refl,
                                                                        tt,
                                                                        tt,
                                                                      ),
                                                                    ),
                                                                  ),
                                                                ),
                                                              ),
                                                            ),
                                                          ),
                                                        ),
                                                      ),
                                                    ),
                                                  ),
                                                ),
                                              ),
                                            ),
                                          ),
                                        ),
                                      ),
                                    ),
                                  ),
                                ),
                              ),
                            ),
                          ),
                        ),
                      ),
                    ),
                  ),
                ),
              ),
            ),
          ),
        ),
      ),
    )
