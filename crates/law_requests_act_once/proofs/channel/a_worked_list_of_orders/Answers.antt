use Rattle.std.proofs.Common.{arith, refl}
use Rattle.tables.specs.Tables.{find, put, without, at}
use Rattle.transaction_defs.specs.Callers.{opened_at, is_open, begin, keep_request, is_awaited, close, after_tick}
use Rattle.transaction_defs.specs.Callees.{kept_at, newest, verdict, taken, kept_reply, keep, keep_for}
use Rattle.unit_defs.specs.Transactions.{kind_of, with_instance, waits_at, with_waiting, begin_request, ask, advance, ask_at_once, replied, replied_late}
use Rattle.law_requests_act_once.specs.channel.Example.{preparation, prepared, cancel, release, confirm}
use Rattle.law_requests_act_once.proofs.channel.a_worked_list_of_orders.Goals as goal

pub returns : goal.returns
unfolding find put without at opened_at is_open begin keep_request is_awaited close after_tick kept_at newest verdict taken kept_reply keep keep_for kind_of with_instance waits_at with_waiting begin_request ask advance ask_at_once replied replied_late
returns c = record {
  may = (
    (λ i. refl, refl),
    (
      (refl, (1, (0, omega arith, refl), refl)),
      (
        tt,
        (
          (1, (1, (0, omega arith, refl), refl)),
          (
            record { is_newest = refl; is_unanswered = refl; is_reply = refl; request = preparation 1; was_put = (1, (0, omega arith, refl), refl); fits = refl },
            (
              tt,
              (
                (λ i. refl, refl),
                (
                  (1, prepared 1, refl, (1, (2, omega arith, refl), refl)),
                  (
                    refl,
                    (
                      (λ i. refl, λ i. refl),
                      (
                        (refl, (1, (5, omega arith, refl), refl)),
                        (
                          (3, record { is_newest = refl; is_unanswered = refl; is_reply = refl; request = cancel 3; was_put = (1, (5, omega arith, refl), refl); fits = refl }),
                          (
                            (3, confirm 3, refl, (1, (6, omega arith, refl), refl)),
                            (
                              (λ i. refl, refl),
                              (
                                tt,
                                (
                                  (λ i. refl, λ i. refl),
                                  (
                                    (refl, (1, (8, omega arith, refl), refl)),
                                    (
                                      (5, record { is_newest = refl; is_unanswered = refl; is_reply = refl; request = cancel 5; was_put = (1, (8, omega arith, refl), refl); fits = refl }),
                                      (
                                        (5, confirm 5, refl, (1, (9, omega arith, refl), refl)),
                                        (
                                          (λ i. refl, refl),
                                          (
                                            (refl, (1, (10, omega arith, refl), refl)),
                                            (
                                              (6, record { is_newest = refl; is_unanswered = refl; is_reply = refl; request = release 6; was_put = (1, (10, omega arith, refl), refl); fits = refl }),
                                              tt,
                                            ),
                                          ),
                                        ),
                                      ),
                                    ),
                                  ),
                                ),
                              ),
                            ),
                          ),
                        ),
                      ),
                    ),
                  ),
                ),
              ),
            ),
          ),
        ),
      ),
    ),
  );
  acts = refl;
}
