use Rattle.std.proofs.Common.{◌∙◌}
use Rattle.std.proofs.lemmas.Result.{on_ok_weaker}
use Rattle.values_json.proofs.pieces.Bodies.{body_begun}
use Rattle.values_json.proofs.pieces.objects.begin_body.Goals as goal

pub returns : goal.returns
returns c =
    on_ok_weaker c.write_contents_key.result (λ last. (
      last.0 ∙ c.in_ok-u64.ensures.room.0 ∙ c.in_ok-key-2.ensures.room.0 ∙ c.in_ok-write_criticality.ensures.0 ∙ c.in_ok-key.ensures.room.0
          ∙ c.in_ok-begin_object.ensures.room.0,
      body_begun c.args.key.now c.args.number c.args.criticality c.args.is_known _ _ _ _ _ _ _ c.in_ok-begin_object.ensures.ok
          c.in_ok-key.ensures.ok c.in_ok-write_criticality.ensures.1 c.in_ok-key-2.ensures.ok c.in_ok-u64.ensures.ok last.1,
    )) c.write_contents_key.ensures
