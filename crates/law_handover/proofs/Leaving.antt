-- A token of a terminal that was told to leave for another DU: the cases of its row.
use Rattle.std.proofs.Common.{◌≡◌, ℕ, Bool, true, false, cond, not, ◌&&◌, [], ◌∷◌, refl, sym, subst, inl, inr}
use Rattle.gnb_types.specs.declared.names.NodeId.{NodeId}
use Rattle.gnb_types.specs.declared.reasons.DropReason.TheVariants.{Unexpected}
use Rattle.message_types.specs.declared.rrc.Token.{Token}
use Rattle.message_types.specs.declared.rrc.Token.TheVariants as tokens
use Rattle.unit_defs.specs.declared.AttemptKind.TheVariants.{BetweenDus}
use Rattle.unit_defs.specs.Ways.{Way}
use Rattle.unit_defs.specs.CuCpRecords.{Attempt, CuCpContext, CuCpTerminal, same_node, ignores, Row, stays}
use Rattle.unit_defs.specs.CuCpRows.{CuCpScope, own_du, accepted_action, completes, completes_again, returns}
use Rattle.unit_defs.specs.CuCp.{is_epoch, token_row}
use Rattle.law_handover.specs.NoReturn.{away_attempt, away_context, away, LeavesDu, is_return}

module _ {M C P : Type 0} (way : Way M C P) (at : CuCpScope) (from : NodeId) (t : CuCpTerminal) (c : CuCpContext) (a : Attempt) where
  there : CuCpTerminal
  there = away BetweenDus t c a

  context : CuCpContext
  context = away_context BetweenDus c a

  unexpected : Row C
  unexpected = stays there (ignores Unexpected ∷ [])

  by_complete : (epoch : ℕ) (accepted elsewhere arrived : Bool)
      → LeavesDu a (cond accepted (stays there (accepted_action way at context epoch ∷ []))
      (cond elsewhere unexpected (cond arrived (completes way at epoch there context (away_attempt BetweenDus a)) unexpected)))
  unfolding there context unexpected completes
  by_complete epoch true elsewhere arrived = inl refl
  by_complete epoch false true arrived = inl refl
  by_complete epoch false false true = inr refl
  by_complete epoch false false false = inl refl

  by_reestablish : (epoch : ℕ) (accepted elsewhere lost : Bool)
      → LeavesDu a (cond accepted (stays there (accepted_action way at context epoch ∷ []))
      (cond elsewhere unexpected (cond lost (completes_again way at epoch there context (away_attempt BetweenDus a)) unexpected)))
  unfolding there context unexpected completes_again
  by_reestablish epoch true elsewhere lost = inl refl
  by_reestablish epoch false true lost = inl refl
  by_reestablish epoch false false true = inr refl
  by_reestablish epoch false false false = inl refl

  pub leaves : (token : Token) → is_return way at from c token ≡ false → LeavesDu a (token_row way at from (away BetweenDus t c a) token)
  unfolding there context unexpected
  leaves (tokens.Command ue epoch gnb du) h = inl refl
  leaves (tokens.Accepted ue epoch) h = inl refl
  leaves (tokens.Complete ue epoch) h =
      by_complete epoch (is_epoch way c.epoch 0 epoch && c.finished) (not (same_node from (own_du at a.du))) (is_epoch way c.epoch 1 epoch)
  leaves (tokens.Reestablish ue epoch) h =
      subst
      (λ back. LeavesDu a (cond (is_epoch way c.epoch 0 epoch && c.finished) (stays there (accepted_action way at context epoch ∷ []))
      (cond (not (same_node from (own_du at a.du))) (cond back (returns way at epoch there context) unexpected)
      (cond (is_epoch way c.epoch 2 epoch) (completes_again way at epoch there context (away_attempt BetweenDus a))
      (cond back (returns way at epoch there context) unexpected)))))
      (sym h)
      (by_reestablish epoch (is_epoch way c.epoch 0 epoch && c.finished) (not (same_node from (own_du at a.du)))
      (is_epoch way c.epoch 2 epoch))
